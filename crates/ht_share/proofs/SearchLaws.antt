-- What the search for the ponds of an element is told: kinds, steps.
use Rattle.std.proofs.Common.{◌≡◌, ◌≢◌, ℕ, ◌+◌, ◌*◌, ◌^◌, ◌≤◌, ◌<◌, ◌↔◌, List, [], ◌∷◌, ◌++◌, length, Option, None, Some, slice_get, is_some, true≢false, IsTrue, refl, sym, ap, ◌∙◌, subst, arith, pos, neg_ℤ, Contains}
use Rattle.std.specs.Prelude.{⊤}
use Rattle.std.proofs.lemmas.Int.{ints}
use Rattle.std.proofs.lemmas.Nat.{mul-le}
use Rattle.ht_word.specs.Words.{◌·◌, IsWordOf}
use Rattle.ht_word.specs.declared.shape.Shape.{Shape}
use Rattle.ht_word.specs.declared.word.Word.{Word}
use Rattle.ht_word.proofs.WordLaws.{after-append, after-nil, after_cancel, under_refl, word_rest}
use Rattle.ht_pair.specs.Kinds.{IsAttractor, IsRepeller}
use Rattle.ht_pair.specs.SemiNormal.{CarriesUnder, StaysAhead}
use Rattle.ht_pair.specs.Steps.{Carries}
use Rattle.ht_pair.specs.declared.row.Row.{Row}
use Rattle.ht_pair.proofs.BasisLaws.{basis_single}
use Rattle.ht_pair.proofs.CarriesLaws.{carries_word, carries_single, carries_extends, carries_back}
use Rattle.ht_types.specs.declared.kind.Kind.{Kind}
use Rattle.ht_types.specs.declared.kind.Reach.{Reach}
use Rattle.ht_types.specs.declared.kind.Kind.TheVariants.{Cycle, Attractor, Repeller, Passing}
use Rattle.ht_types.specs.declared.direction.Direction.TheVariants.{Ahead}
use Rattle.ht_types.specs.declared.exit.Exit.{Exit}
use Rattle.ht_types.specs.declared.walk.Walk.{Walk}
use Rattle.ht_types.specs.Flows.{IsEndKind, IsExit, IsUnderInfinite}
use Rattle.ht_types.specs.TypedElements.{TypedValue, IsTyped}
use Rattle.ht_types.specs.WordKinds.{HasKind}
use Rattle.ht_types.proofs.SeenLaws.{open_kind}
use Rattle.ht_types.proofs.StopLaws.{few_words}
use Rattle.ht_types.proofs.OnwardLaws.{early_under}
use Rattle.ht_types.proofs.PeriodicLaws.{cycle_under}
use Rattle.ht_types.proofs.TurnLaws.{HasSemiNormal}
use Rattle.ht_types.proofs.AttractorLaws.{period_small, attractor_ahead}
use Rattle.ht_types.proofs.TypedLaws.{typed_base}
use Rattle.ht_quasi.proofs.StepLaws.{listed_at}
use Rattle.ht_quasi.proofs.RoundLaws.{something_at as word_at}
use Rattle.ht_share.specs.InnerWords.{IsInner}
use Rattle.ht_share.specs.PondWalks.{IsSettled, IsEnough}

-- ---- kinds

-- walks ahead end under attractors
ends_attractor : (kind : Kind) → IsEndKind Ahead kind → (m : ℕ) × (by : List ℕ) × (kind ≡ Attractor m by)
ends_attractor (Cycle m) e = elim e [ ]
ends_attractor (Attractor m by) e = (m, by, refl)
ends_attractor (Repeller m by) e = elim e [ ]
ends_attractor (Passing ahead behind) e = elim e [ ]

-- an exit is under one
pub exit_attracts : (t : TypedValue) → IsTyped t.element t.quasi t.kinds → (u : Word) (exit : Exit) → IsExit t.element.shape t.element.rows t.quasi.basis.words Ahead u exit → (kind : Kind) → slice_get t.kinds exit.to ≡ Some kind → ((m : ℕ) (by : List ℕ) → kind ≢ Attractor m by) → ⊥
exit_attracts t typed u exit e kind here none =
    let h = typed_base t typed in
    open_kind Ahead t.element.shape t.element.rows h.pair t.quasi.basis.words e.above kind (typed.kinds_are.each exit.to e.above kind e.walked.here here) (λ end. let a = ends_attractor kind end in none a.0 a.1 a.2) e.ends

-- the steps that are enough
pub enough_given : (t : TypedValue) → IsTyped t.element t.quasi t.kinds → (u : Word) (exit : Exit) → IsExit t.element.shape t.element.rows t.quasi.basis.words Ahead u exit → length exit.letters < 2 ^ 64 → (m : ℕ) (by : List ℕ) → slice_get t.kinds exit.to ≡ Some (Attractor m by)
    → (most : ℕ) → most ≡ exit.steps + m * length exit.letters → IsEnough t.element.shape t.element.rows t.quasi.basis.words exit most
enough_given t typed u exit e short m by here most is =
    let a : IsAttractor t.element.shape t.element.rows e.above m by = typed.kinds_are.each exit.to e.above (Attractor m by) e.walked.here here in
    let words = few_words t.element.shape t.quasi.basis.words typed.within in
    let period = period_small (typed_base t typed) (record { listed = listed_at t.quasi.basis.words exit.to e.above e.walked.here; attractor = a }) in
    record {
      above = e.above;
      here = e.walked.here;
      period = m;
      by = by;
      attractor = a;
      is = is;
      few = few exit.steps m (length exit.letters) (length t.quasi.basis.words) most e.few short period words is;
    }
  where
    few : (steps m l n most : ℕ) → steps < 2 ^ 121 → l < 2 ^ 64 → m ≤ n → n ≤ 2 ^ 20 → most ≡ steps + m * l → most < 2 ^ 122
    few steps m l n most a b c d e = omega (arith, mul-le m l (2 ^ 20) (2 ^ 64) (let x : m ≤ 2 ^ 20 = omega arith in x) (let x : l ≤ 2 ^ 64 = omega arith in x))

-- words under cycle words are carried under X, so an inner word is under the infinite part
pub inner_infinite : {shape : Shape} {p : List Row} {X : List Word} → HasSemiNormal shape p X → (u : Word) → IsInner shape p X u → IsUnderInfinite shape p X u
inner_infinite {shape} {p} {X} h u inner = record {
  above = inner.under.above;
  infinite = (
    inner.under.listed,
    λ cycle.
        let x = inner.under.above in
        let z = inner.under.under.rest in
        let s = cycle_under shape p h.pair X h.semi (pos 1) x inner.under.listed cycle in
        let hz = word_rest shape x z (subst (IsWordOf shape) inner.under.under.is inner.word) in
        inner.leaves (subst (λ t. CarriesUnder shape p (pos 1) t X) (sym inner.under.under.is) (early_under shape p X 1 x z hz s)),
  );
  under = inner.under.under;
}

-- ---- words that stay ahead

-- kinds of words that stay ahead
abbrev pub IsAheadKind : Kind → Type 0
IsAheadKind (Cycle m) = ⊤
IsAheadKind (Attractor m by) = ⊤
IsAheadKind (Repeller m by) = ⊥
IsAheadKind (Passing None behind) = ⊥
IsAheadKind (Passing (Some reach) behind) = ⊤

-- so a passing word's reach ahead tells
pub passing_ahead : (ahead behind : Option Reach) → IsTrue (is_some ahead) ↔ IsAheadKind (Passing ahead behind)
passing_ahead None behind = ((λ no. true≢false (sym no)), (λ no. elim no [ ]))
passing_ahead (Some reach) behind = ((λ yes. tt), (λ yes. refl))

-- a repeller doesn't: what comes back to it is longer
repeller_leaves : {shape : Shape} {p : List Row} {X : List Word} → HasSemiNormal shape p X → (x : Word) (m : ℕ) (by : List ℕ) → Contains X x → IsRepeller shape p x m by → ¬ StaysAhead shape p X x
repeller_leaves {shape} {p} {X} h x m by listed repels ahead =
    let a = ahead m in
    let y = a.under.above in
    let r = a.under.under.rest in
    let hb = word_rest shape x by (carries_word shape p h.pair (neg_ℤ (pos m)) x (x · by) repels.lengthens.1) in
    let back : Carries shape p (pos m) (x · by) x = subst (λ i. Carries shape p i (x · by) x) (twice m) (carries_back shape p h.pair (neg_ℤ (pos m)) x (x · by) repels.lengthens.1) in
    let same : x ≡ y · (r ++ by) = carries_single shape p h.pair (pos m) (x · by) x (a.to · by) back (carries_extends shape p (pos m) x a.to by hb a.carries) ∙ ap (λ t. t · by) a.under.under.is ∙ after-append y r by in
    let one : y ≡ x = basis_single shape X h.semi.basis x y x a.under.listed listed (record { rest = r ++ by; is = same }) (under_refl x) in
    repels.lengthens.0 (none_behind r by (after_cancel x (r ++ by) [] (sym (same ∙ ap (λ t. t · (r ++ by)) one) ∙ sym (after-nil x))))
  where
    twice : (m : ℕ) → neg_ℤ (neg_ℤ (pos m)) ≡ pos m
    twice m = omega (arith, ints)

    none_behind : (r z : List ℕ) → r ++ z ≡ [] → z ≡ []
    none_behind [] z e = e
    none_behind (a ∷ r) z e = absurd (omega (arith, ap (λ (t : List ℕ). length t) e))

-- the kind tells whether the word stays ahead
pub kind_ahead : (t : TypedValue) → IsTyped t.element t.quasi t.kinds → (place : ℕ) (x : Word) (kind : Kind) → slice_get t.quasi.basis.words place ≡ Some x → slice_get t.kinds place ≡ Some kind → IsAheadKind kind ↔ StaysAhead t.element.shape t.element.rows t.quasi.basis.words x
kind_ahead t typed place x kind here there = told kind (typed.kinds_are.each place x kind here there)
  where
    told : (kind : Kind) → HasKind t.element.shape t.element.rows t.quasi.basis.words x kind → IsAheadKind kind ↔ StaysAhead t.element.shape t.element.rows t.quasi.basis.words x
    told (Cycle m) k = let h = typed_base t typed in ((λ yes j. cycle_under t.element.shape t.element.rows h.pair t.quasi.basis.words h.semi (pos j) x (listed_at t.quasi.basis.words place x here) (m, k)), (λ ahead. tt))
    told (Attractor m by) k = ((λ yes. attractor_ahead (typed_base t typed) (record { listed = listed_at t.quasi.basis.words place x here; attractor = k })), (λ ahead. tt))
    told (Repeller m by) k = ((λ no. elim no [ ]), repeller_leaves (typed_base t typed) x m by (listed_at t.quasi.basis.words place x here) k)
    told (Passing None behind) k = ((λ no. elim no [ ]), (λ ahead. absurd (k.1 ahead)))
    told (Passing (Some reach) behind) k = ((λ yes. k.1.first.0), (λ ahead. tt))

-- a walk has settled just where the word there is of such a kind, with letters enough behind it
pub settled_by : (t : TypedValue) → IsTyped t.element t.quasi t.kinds → (count : ℕ) (walk : Walk) (kind : Kind) → walk.to < length t.quasi.basis.words → slice_get t.kinds walk.to ≡ Some kind → count ≤ length walk.rest → IsAheadKind kind ↔ IsSettled t.element.shape t.element.rows t.quasi.basis.words count walk
settled_by t typed count walk kind less there long =
    let x = word_at t.quasi.basis.words walk.to less in (
      (λ yes. record { above = x.0; here = x.1; ahead = (kind_ahead t typed walk.to x.0 kind x.1 there).0 yes; long = long }),
      (λ s. (kind_ahead t typed walk.to s.above kind s.here there).1 s.ahead),
    )

-- the word as the code makes it
pub found_is : (W X : List Word) → W ≡ X → (to : ℕ) (x y v : Word) (front : List ℕ) → slice_get X to ≡ Some x → slice_get W to ≡ Some y → v ≡ y · front → v ≡ x · front
found_is W X same to x y v front here there made =
    let k : Some y ≡ Some x = sym there ∙ ap (λ (t : List Word). slice_get t to) same ∙ here in
    let one : y ≡ x = cc in
    made ∙ ap (λ z. z · front) one
