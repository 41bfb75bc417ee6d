-- When a word comes back under a semi-normal basis X of p: on the walk of the word with letters behind it.
use Rattle.std.proofs.Common.{◌≡◌, ◌≢◌, ℕ, zero, suc, ◌+◌, ◌-◌, ◌*◌, ◌≤◌, ◌<◌, inl, inr, ◌⊎◌, ◌↔◌, List, [], ◌∷◌, ◌++◌, length, Some, slice_get, refl, sym, ap, ◌∙◌, subst, arith, Contains, pos, neg_ℤ, ◌+ℤ◌}
use Rattle.std.proofs.Math.Nat.{mul-le-mul_left}
use Rattle.std.proofs.lemmas.Bool.{cases_lt}
use Rattle.std.proofs.lemmas.Int.{ints}
use Rattle.std.proofs.lemmas.List.{length-append, append-nil, append_assoc, append_cancel_right}
use Rattle.std.proofs.lemmas.List.Elements.{All-nil, All-contains}
use Rattle.ht_word.specs.Words.{◌·◌, IsLetter, IsLetters, IsUnderSome, IsWordOf}
use Rattle.ht_word.specs.declared.shape.Shape.{Shape}
use Rattle.ht_word.specs.declared.word.Word.{Word}
use Rattle.ht_word.proofs.WordLaws.{after-append, after-nil, after_cancel, prefixes, under_after, letters_append, letters_front, letters_back, word_rest}
use Rattle.ht_pair.specs.Kinds.{IsAttractorWord, IsRepeller}
use Rattle.ht_pair.specs.Pairs.{IsPair}
use Rattle.ht_pair.specs.Orbits.{IsPond}
use Rattle.ht_pair.specs.SemiNormal.{CarriesUnder, StaysAhead, StaysBehind}
use Rattle.ht_pair.specs.Steps.{Carries}
use Rattle.ht_pair.specs.declared.row.Row.{Row}
use Rattle.ht_pair.proofs.BasisLaws.{basis_single, some_at}
use Rattle.ht_pair.proofs.CarriesLaws.{carries_single, carries_word, carries_itself, carries_extends, carries_back, carries_rest, carries_sum}
use Rattle.ht_pair.specs.Repeats.{repeated}
use Rattle.ht_pair.proofs.KindLaws.{length-repeated, carries_times}
use Rattle.ht_quasi.proofs.StepLaws.{listed_at}
use Rattle.ht_types.specs.declared.direction.Direction.TheVariants.{Ahead}
use Rattle.ht_types.specs.declared.exit.Exit.{Exit}
use Rattle.ht_types.specs.declared.walk.Walk.{Walk}
use Rattle.ht_types.specs.Flows.{IsExit, IsPlaced}
use Rattle.ht_types.proofs.OnwardLaws.{early_under}
use Rattle.ht_types.proofs.TurnLaws.{HasSemiNormal}
use Rattle.ht_types.proofs.AttractorLaws.{attractor_ahead}
use Rattle.ht_share.specs.InnerWords.{IsInner}
use Rattle.ht_share.specs.PondWalks.{ComesTo, IsNone, IsNext, IsSettled, IsEnough}

-- ---- the way of the word with letters behind it

-- of a list with another behind it, the other a suffix of one no shorter
record HasFront (u v : Word) (w z : List ℕ) : Type 0 where
  rest : List ℕ
  letters : z ≡ rest ++ w
  word : v ≡ u · rest

before_suffix : (u v : Word) (z w : List ℕ) → u · z ≡ v · w → length w ≤ length z → HasFront u v w z
before_suffix u v z w e long = elim (prefixes v u w z (sym e)) [
  | inl k ↦ record { rest = k.middle; letters = k.rest_is; word = k.is }
  | inr k ↦ by k.middle k.is k.rest_is
]
  where
    by : (more : List ℕ) → u ≡ v · more → w ≡ more ++ z → HasFront u v w z
    by [] is rest = record { rest = []; letters = sym rest; word = sym (after-nil v) ∙ sym is ∙ sym (after-nil u) }
    by (a ∷ more) is rest = absurd (omega (arith, length-append (a ∷ more) z, ap (λ (t : List ℕ). length t) rest))

-- where a power carries the word under X, the letters end what it carries the word with them to
record IsEnded (x v : Word) (w z : List ℕ) : Type 0 where
  front : List ℕ
  letters : z ≡ front ++ w
  word : v ≡ x · front

ended : {shape : Shape} {p : List Row} {X : List Word} → HasSemiNormal shape p X → (k : ℕ) (u x : Word) (w z : List ℕ) → Contains X x → Carries shape p (pos k) (u · w) (x · z) → (s : CarriesUnder shape p (pos k) u X) → IsEnded x s.to w z
ended {shape} {p} {X} h k u x w z listed carries s =
    let y = s.under.above in
    let front = s.under.under.rest in
    let hw = word_rest shape u w carries.word in
    let same : x · z ≡ y · (front ++ w) = carries_single shape p h.pair (pos k) (u · w) (x · z) (s.to · w) carries (carries_extends shape p (pos k) u s.to w hw s.carries) ∙ ap (λ t. t · w) s.under.under.is ∙ after-append y front w in
    let one : y ≡ x = basis_single shape X h.semi.basis (x · z) y x s.under.listed listed (record { rest = front ++ w; is = same }) (under_after x z) in
    record {
      front = front;
      letters = after_cancel x z (front ++ w) (same ∙ ap (λ t. t · (front ++ w)) one);
      word = s.under.under.is ∙ ap (λ t. t · front) one;
    }

-- so it doesn't where they don't end it
pub not_ended : {shape : Shape} {p : List Row} {X : List Word} → HasSemiNormal shape p X → (k : ℕ) (u x : Word) (w z : List ℕ) → Contains X x → Carries shape p (pos k) (u · w) (x · z) → ((front : List ℕ) → z ≢ front ++ w) → ¬ CarriesUnder shape p (pos k) u X
not_ended h k u x w z listed carries none s = let e = ended h k u x w z listed carries s in none e.front e.letters

-- and else it carries the word to what is before them
pub ended_at : {shape : Shape} {p : List Row} {X : List Word} → HasSemiNormal shape p X → (k : ℕ) (u x : Word) (w z front : List ℕ) → Contains X x → Carries shape p (pos k) (u · w) (x · z) → z ≡ front ++ w → (s : CarriesUnder shape p (pos k) u X) → s.to ≡ x · front
ended_at h k u x w z front listed carries is s = let e = ended h k u x w z listed carries s in e.word ∙ ap (λ t. x · t) (append_cancel_right e.front front w (sym e.letters ∙ is))

-- ---- an inner word comes back under words that stay ahead alone

-- a word that stays behind would bring back the word to which one step carries it
pub inner_stays : {shape : Shape} {p : List Row} {X : List Word} → HasSemiNormal shape p X → (k : ℕ) (u : Word) → 1 ≤ k → IsInner shape p X u → (s : CarriesUnder shape p (pos k) u X) → StaysAhead shape p X s.under.above
inner_stays {shape} {p} {X} h k u positive inner s = elim (All-contains (λ t. StaysAhead shape p X t ⊎ StaysBehind shape p X t) X s.under.above h.semi.stays s.under.listed) [
  | inl ahead ↦ ahead
  | inr behind ↦
      let x = s.under.above in
      let z = s.under.under.rest in
      let b = behind (k - 1) in
      let hz = word_rest shape x z (subst (IsWordOf shape) s.under.under.is (carries_word shape p h.pair (pos k) u s.to s.carries)) in
      let back : Carries shape p (neg_ℤ (pos (k - 1))) s.to (b.to · z) = subst (λ t. Carries shape p (neg_ℤ (pos (k - 1))) t (b.to · z)) (sym s.under.under.is) (carries_extends shape p (neg_ℤ (pos (k - 1))) x b.to z hz b.carries) in
      absurd (inner.leaves (record {
        to = b.to · z;
        carries = carries_sum shape p h.pair (pos k) (neg_ℤ (pos (k - 1))) (pos 1) (one k positive) u s.to (b.to · z) s.carries back;
        under = some_at X b.under.above (b.to · z) b.under.listed (record { rest = b.under.under.rest ++ z; is = ap (λ t. t · z) b.under.under.is ∙ after-append b.under.above b.under.under.rest z });
      }))
]
  where
    one : (k : ℕ) → 1 ≤ k → pos k +ℤ neg_ℤ (pos (k - 1)) ≡ pos 1
    one k l = omega (arith, ints)

-- so its walk has settled where it comes back
pub unsettled : {shape : Shape} {p : List Row} {X : List Word} → HasSemiNormal shape p X → (u : Word) (w : List ℕ) (walk : Walk) → IsInner shape p X u → 1 ≤ walk.steps → ComesTo shape p X (u · w) walk → ¬ IsSettled shape p X (length w) walk → ¬ CarriesUnder shape p (pos walk.steps) u X
unsettled {shape} {p} {X} h u w walk inner positive c none s =
    let e = ended h walk.steps u c.above w walk.rest (listed_at X walk.to c.above c.here) c.carries s in
    let one : s.under.above ≡ c.above = basis_single shape X h.semi.basis s.to s.under.above c.above s.under.listed (listed_at X walk.to c.above c.here) s.under.under (record { rest = e.front; is = e.word }) in
    none (record {
      above = c.above;
      here = c.here;
      ahead = subst (StaysAhead shape p X) one (inner_stays h walk.steps u positive inner s);
      long = omega (arith, ap (λ (z : List ℕ). length z) e.letters, length-append e.front w);
    })

-- a word above one that steps carry to the repeller above it never comes back: else that repeller would stay ahead
record LeadsHome (shape : Shape) (p : List Row) (x : Word) (by : List ℕ) (k : ℕ) : Type 0 where
  more : List ℕ
  of_shape : IsLetters shape more
  steps : ℕ
  many : k ≤ steps
  carries : Carries shape p (pos steps) (x · (by ++ more)) x

leads_home : (shape : Shape) (p : List Row) → IsPair shape p → (x : Word) (m : ℕ) (by : List ℕ) → 1 ≤ m → IsLetters shape by → Carries shape p (pos m) (x · by) x → (k : ℕ) → LeadsHome shape p x by k
leads_home shape p pair x m by positive hb round zero = record {
  more = [];
  of_shape = All-nil (IsLetter shape);
  steps = m;
  many = omega arith;
  carries = subst (λ z. Carries shape p (pos m) (x · z) x) (sym (append-nil by)) round;
}
leads_home shape p pair x m by positive hb round (suc k) =
    let l = leads_home shape p pair x m by positive hb round k in
    let longer : IsLetters shape (by ++ l.more) = letters_append shape by l.more hb l.of_shape in
    let first : Carries shape p (pos m) (x · (by ++ (by ++ l.more))) (x · (by ++ l.more)) = subst (λ t. Carries shape p (pos m) t (x · (by ++ l.more))) (after-append x by (by ++ l.more)) (carries_extends shape p (pos m) (x · by) x (by ++ l.more) longer round) in
    record {
      more = by ++ l.more;
      of_shape = longer;
      steps = m + l.steps;
      many = omega (arith, positive, l.many);
      carries = carries_sum shape p pair (pos m) (pos l.steps) (pos (m + l.steps)) refl (x · (by ++ (by ++ l.more))) (x · (by ++ l.more)) x first l.carries;
    }

pub repelled : {shape : Shape} {p : List Row} {X : List Word} → HasSemiNormal shape p X → (u x : Word) (m : ℕ) (by z w : List ℕ) → Contains X x → IsRepeller shape p x m by → u ≡ x · z → by ≡ z ++ w → IsInner shape p X u → (k : ℕ) (v : Word) → ¬ IsPond shape p X u k v
repelled {shape} {p} {X} h u x m by z w listed repels is whole inner k v pond =
    let s = pond.first.holds in
    let y = s.under.above in
    let r = s.under.under.rest in
    let hu : IsWordOf shape (x · z) = subst (IsWordOf shape) is inner.word in
    let back : Carries shape p (pos m) (x · by) x = subst (λ i. Carries shape p i (x · by) x) (twice m) (carries_back shape p h.pair (neg_ℤ (pos m)) x (x · by) repels.lengthens.1) in
    let hb = word_rest shape x by (carries_word shape p h.pair (neg_ℤ (pos m)) x (x · by) repels.lengthens.1) in
    let l = leads_home shape p h.pair x m by repels.first.positive hb back k in
    let d = l.steps - k in
    let tail = w ++ l.more in
    let hw : IsLetters shape tail = letters_append shape w l.more (letters_back shape z w (subst (IsLetters shape) whole hb)) l.of_shape in
    let same : x · (by ++ l.more) ≡ u · tail = ap (λ t. x · (t ++ l.more)) whole ∙ ap (λ t. x · t) (append_assoc z w l.more) ∙ sym (after-append x z tail) ∙ ap (λ t. t · tail) (sym is) in
    let home : Carries shape p (pos l.steps) (u · tail) x = subst (λ t. Carries shape p (pos l.steps) t x) same l.carries in
    let here : Carries shape p (pos k) (u · tail) (y · (r ++ tail)) = subst (Carries shape p (pos k) (u · tail)) (ap (λ t. t · tail) s.under.under.is ∙ after-append y r tail) (carries_extends shape p (pos k) u s.to tail hw s.carries) in
    let a = inner_stays h k u pond.first.positive inner s (d + 1) in
    let hr = word_rest shape y (r ++ tail) (carries_word shape p h.pair (pos k) (u · tail) (y · (r ++ tail)) here) in
    let on : Carries shape p (pos (l.steps + 1)) (u · tail) (a.to · (r ++ tail)) = carries_sum shape p h.pair (pos k) (pos (d + 1)) (pos (l.steps + 1)) (sum k l.steps l.many) (u · tail) (y · (r ++ tail)) (a.to · (r ++ tail)) here (carries_extends shape p (pos (d + 1)) y a.to (r ++ tail) hr a.carries) in
    let next : CarriesUnder shape p (pos 1) x X = record {
      to = a.to · (r ++ tail);
      carries = carries_rest shape p h.pair (pos l.steps) (pos 1) (pos (l.steps + 1)) refl (u · tail) x (a.to · (r ++ tail)) home on;
      under = some_at X a.under.above (a.to · (r ++ tail)) a.under.listed (record { rest = a.under.under.rest ++ (r ++ tail); is = ap (λ t. t · (r ++ tail)) a.under.under.is ∙ after-append a.under.above a.under.under.rest (r ++ tail) });
    } in
    inner.leaves (subst (λ t. CarriesUnder shape p (pos 1) t X) (sym is) (early_under shape p X 1 x z (word_rest shape x z hu) next))
  where
    twice : (m : ℕ) → neg_ℤ (neg_ℤ (pos m)) ≡ pos m
    twice m = omega (arith, ints)

    sum : (k n : ℕ) → k ≤ n → pos k +ℤ pos ((n - k) + 1) ≡ pos (n + 1)
    sum k n l = omega (arith, ints)

-- ---- the way of the word with letters behind it, on

-- where the way has come under a word that stays ahead, with as many letters at least, the word is under X if it is so later
pub back_already : {shape : Shape} {p : List Row} {X : List Word} → HasSemiNormal shape p X → (j k : ℕ) (u x : Word) (w z : List ℕ) → j ≤ k → Contains X x → StaysAhead shape p X x → Carries shape p (pos j) (u · w) (x · z) → length w ≤ length z → CarriesUnder shape p (pos k) u X → CarriesUnder shape p (pos j) u X
back_already {shape} {p} {X} h j k u x w z less listed ahead carries long s =
    let d = k - j in
    let a = ahead d in
    let hw = word_rest shape u w carries.word in
    let hz = word_rest shape x z (carries_word shape p h.pair (pos j) (u · w) (x · z) carries) in
    let both : Carries shape p (pos k) (u · w) (a.to · z) = carries_sum shape p h.pair (pos j) (pos d) (pos k) (sum j k less) (u · w) (x · z) (a.to · z) carries (carries_extends shape p (pos d) x a.to z hz a.carries) in
    let same : a.to · z ≡ s.to · w = carries_single shape p h.pair (pos k) (u · w) (a.to · z) (s.to · w) both (carries_extends shape p (pos k) u s.to w hw s.carries) in
    let b = before_suffix a.to s.to z w same long in
    let there : Carries shape p (pos d) (x · b.rest) s.to = subst (Carries shape p (pos d) (x · b.rest)) (sym b.word) (carries_extends shape p (pos d) x a.to b.rest (letters_front shape b.rest w (subst (IsLetters shape) b.letters hz)) a.carries) in
    record {
      to = x · b.rest;
      carries = carries_sum shape p h.pair (pos k) (neg_ℤ (pos d)) (pos j) (difference j k less) u s.to (x · b.rest) s.carries (carries_back shape p h.pair (pos d) (x · b.rest) s.to there);
      under = some_at X x (x · b.rest) listed (under_after x b.rest);
    }
  where
    sum : (j k : ℕ) → j ≤ k → pos j +ℤ pos (k - j) ≡ pos k
    sum j k l = omega (arith, ints)

    difference : (j k : ℕ) → j ≤ k → pos k +ℤ neg_ℤ (pos (k - j)) ≡ pos j
    difference j k l = omega (arith, ints)

-- so it never is if it isn't yet
never_back : {shape : Shape} {p : List Row} {X : List Word} → HasSemiNormal shape p X → (j : ℕ) (u x : Word) (w z : List ℕ) → 1 ≤ j → Contains X x → StaysAhead shape p X x → Carries shape p (pos j) (u · w) (x · z) → length w ≤ length z → IsNone shape p X u j → (k : ℕ) (v : Word) → ¬ IsPond shape p X u k v
never_back h j u x w z positive listed ahead carries long none k v pond = elim (cases_lt j k) [
  | inl less ↦ none j positive (omega arith) (back_already h j k u x w z (omega arith) listed ahead carries long pond.first.holds)
  | inr other ↦ none k pond.first.positive other pond.first.holds
]

-- ---- step by step

pub none_further : (shape : Shape) (p : List Row) (X : List Word) (u : Word) (k next : ℕ) → next ≡ k + 1 → IsNone shape p X u k → ¬ CarriesUnder shape p (pos next) u X → IsNone shape p X u next
none_further shape p X u k next is none last j low high = elim (cases_lt k j) [
  | inr other ↦ none j low other
  | inl less ↦ λ s. last (subst (λ i. CarriesUnder shape p (pos i) u X) (same j less high) s)
]
  where
    same : (j : ℕ) → k < j → j ≤ next → j ≡ next
    same j l m = omega (arith, is)

-- the first word to which a power carries an inner word under X makes its pond
pub pond_given : (shape : Shape) (p : List Row) (X : List Word) (u v : Word) (k next : ℕ) → IsInner shape p X u → next ≡ k + 1 → IsNone shape p X u k → Carries shape p (pos next) u v → IsUnderSome v X → IsPond shape p X u next v
pond_given shape p X u v k next inner is none carries under = record {
  under = inner.under;
  leaves = inner.leaves;
  first = record { positive = omega arith; holds = record { to = v; carries = carries; under = under }; least = λ j low high. none j low (omega arith) };
  carries = carries;
  returns = under;
}

-- ---- the letters of an exit

-- an attractor's word stays ahead
attractor_stays : {shape : Shape} {p : List Row} {X : List Word} → HasSemiNormal shape p X → (x : Word) → Contains X x → IsAttractorWord shape p x → StaysAhead shape p X x
attractor_stays h x listed a = attractor_ahead h (record { listed = listed; attractor = a.2 })

-- the word with the letters stays ahead
pub exit_stays : {shape : Shape} {p : List Row} {X : List Word} → HasSemiNormal shape p X → (u : Word) (exit : Exit) → IsExit shape p X Ahead u exit → StaysAhead shape p X (u · exit.letters)
exit_stays {shape} {p} {X} h u exit e k = elim (cases_lt exit.steps k) [
  | inr other ↦ e.walked.under k other
  | inl less ↦
      let x = e.above in
      let d = k - exit.steps in
      let a = attractor_stays h x (listed_at X exit.to x e.walked.here) e.ends d in
      let hz = word_rest shape x exit.rest (carries_word shape p h.pair (pos exit.steps) (u · exit.letters) (x · exit.rest) e.walked.carries) in
      record {
        to = a.to · exit.rest;
        carries = carries_sum shape p h.pair (pos exit.steps) (pos d) (pos k) (sum exit.steps k less) (u · exit.letters) (x · exit.rest) (a.to · exit.rest) e.walked.carries (carries_extends shape p (pos d) x a.to exit.rest hz a.carries);
        under = some_at X a.under.above (a.to · exit.rest) a.under.listed (record { rest = a.under.under.rest ++ exit.rest; is = ap (λ t. t · exit.rest) a.under.under.is ∙ after-append a.under.above a.under.under.rest exit.rest });
      }
]
  where
    sum : (j k : ℕ) → j < k → pos j +ℤ pos (k - j) ≡ pos k
    sum j k l = omega (arith, ints)

-- its walk begins where the word stands
pub comes_first : (shape : Shape) (p : List Row) (X : List Word) (u : Word) (w rest : List ℕ) (start : Walk) → IsPlaced X u start → IsWordOf shape (u · w) → rest ≡ start.rest ++ w → ComesTo shape p X (u · w) (record { steps = start.steps; to = start.to; rest = rest })
comes_first shape p X u w rest start placed h is =
    let same : u · w ≡ placed.above · rest = ap (λ t. t · w) placed.is ∙ after-append placed.above start.rest w ∙ ap (λ z. placed.above · z) (sym is) in
    record {
      above = placed.above;
      here = placed.here;
      carries = subst (λ k. Carries shape p (pos k) (u · w) (placed.above · rest)) (sym placed.none) (subst (Carries shape p (pos 0) (u · w)) same (carries_itself shape p (u · w) h));
    }

-- and goes on
pub goes_on : {shape : Shape} {p : List Row} {X : List Word} → HasSemiNormal shape p X → (u x : Word) (walk : Walk) → StaysAhead shape p X u → (c : ComesTo shape p X u walk) → slice_get X walk.to ≡ Some x → CarriesUnder shape p (pos 1) (x · walk.rest) X
goes_on {shape} {p} {X} h u x walk stays c here =
    let one : c.above ≡ x = (let k : Some c.above ≡ Some x = sym c.here ∙ here in cc) in
    let s = stays (walk.steps + 1) in
    record { to = s.to; carries = carries_rest shape p h.pair (pos walk.steps) (pos 1) (pos (walk.steps + 1)) (omega (arith, ints)) u (x · walk.rest) s.to (subst (λ t. Carries shape p (pos walk.steps) u (t · walk.rest)) one c.carries) s.carries; under = s.under }

-- and comes further
pub comes_further : {shape : Shape} {p : List Row} {X : List Word} → HasSemiNormal shape p X → (u : Word) (walk next : Walk) → ComesTo shape p X u walk → IsNext shape p X walk next → ComesTo shape p X u next
comes_further {shape} {p} {X} h u walk next c n =
    let l = n.leads c.above c.here in
    record { above = l.above; here = l.here; carries = carries_sum shape p h.pair (pos walk.steps) (pos 1) (pos next.steps) (sum walk.steps next.steps n.steps) u (c.above · walk.rest) (l.above · next.rest) c.carries l.carries }
  where
    sum : (j k : ℕ) → k ≡ j + 1 → pos j +ℤ pos 1 ≡ pos k
    sum j k e = omega (arith, ints)

-- where it has settled, the word never is back if it isn't yet
pub settled : {shape : Shape} {p : List Row} {X : List Word} → HasSemiNormal shape p X → (u : Word) (w : List ℕ) (walk : Walk) → ComesTo shape p X (u · w) walk → 1 ≤ walk.steps → IsSettled shape p X (length w) walk → IsNone shape p X u walk.steps → (k : ℕ) (v : Word) → ¬ IsPond shape p X u k v
settled {shape} {p} {X} h u w walk c positive s none =
    let one : s.above ≡ c.above = (let k : Some s.above ≡ Some c.above = sym s.here ∙ c.here in cc) in
    never_back h walk.steps u c.above w walk.rest positive (listed_at X walk.to c.above c.here) (subst (StaysAhead shape p X) one s.ahead) c.carries s.long none

-- after enough steps the walk of an inner word has settled, at the exit's attractor
pub settles : {shape : Shape} {p : List Row} {X : List Word} → HasSemiNormal shape p X → (u : Word) (exit : Exit) (walk : Walk) (most : ℕ) → IsInner shape p X u → IsExit shape p X Ahead u exit → IsEnough shape p X exit most → ComesTo shape p X (u · exit.letters) walk → walk.steps ≡ most
    → (1 ≤ walk.steps) × IsSettled shape p X (length exit.letters) walk
settles {shape} {p} {X} h u exit walk most inner e enough c all =
    let x = enough.above in
    let one : e.above ≡ x = (let k : Some e.above ≡ Some x = sym e.walked.here ∙ enough.here in cc) in
    let listed = listed_at X exit.to x enough.here in
    let count = length exit.letters in
    let more = repeated count enough.by in
    let first : Carries shape p (pos exit.steps) (u · exit.letters) (x · exit.rest) = subst (λ t. Carries shape p (pos exit.steps) (u · exit.letters) (t · exit.rest)) one e.walked.carries in
    let rounds = carries_times shape p h.pair enough.period x enough.by enough.attractor.lengthens.1 count in
    let hz = word_rest shape x exit.rest (carries_word shape p h.pair (pos exit.steps) (u · exit.letters) (x · exit.rest) first) in
    let last : Carries shape p (pos (count * enough.period)) (x · exit.rest) (x · (more ++ exit.rest)) = subst (Carries shape p (pos (count * enough.period)) (x · exit.rest)) (after-append x more exit.rest) (carries_extends shape p (pos (count * enough.period)) x (x · more) exit.rest hz rounds) in
    let whole = carries_sum shape p h.pair (pos exit.steps) (pos (count * enough.period)) (pos walk.steps) (sum exit.steps count enough.period walk.steps (all ∙ enough.is)) (u · exit.letters) (x · exit.rest) (x · (more ++ exit.rest)) first last in
    let there : c.above · walk.rest ≡ x · (more ++ exit.rest) = carries_single shape p h.pair (pos walk.steps) (u · exit.letters) (c.above · walk.rest) (x · (more ++ exit.rest)) c.carries whole in
    let same : x ≡ c.above = basis_single shape X h.semi.basis (c.above · walk.rest) x c.above listed (listed_at X walk.to c.above c.here) (record { rest = more ++ exit.rest; is = there }) (under_after c.above walk.rest) in
    let rest : walk.rest ≡ more ++ exit.rest = after_cancel x walk.rest (more ++ exit.rest) (ap (λ t. t · walk.rest) same ∙ there) in (
      some exit.letters walk.steps enough.period exit.steps enough.attractor.first.positive (all ∙ enough.is) refl,
      record {
        above = c.above;
        here = c.here;
        ahead = subst (StaysAhead shape p X) same (attractor_stays h x listed (enough.period, enough.by, enough.attractor));
        long = omega (arith, ap (λ (z : List ℕ). length z) rest, length-append more exit.rest, length-repeated count enough.by enough.attractor.lengthens.0);
      },
    )
  where
    sum : (steps count period most : ℕ) → most ≡ steps + period * count → pos steps +ℤ pos (count * period) ≡ pos most
    sum steps count period most e = omega (arith, ints)

    -- with no letters behind it the word would stay under X
    some : (letters : List ℕ) (most period steps : ℕ) → 1 ≤ period → most ≡ steps + period * length letters → exit.letters ≡ letters → 1 ≤ most
    some [] most period steps positive is same = absurd (inner.leaves (subst (λ t. CarriesUnder shape p (pos 1) t X) (ap (λ t. u · t) same ∙ after-nil u) (exit_stays h u exit e 1)))
    some (a ∷ letters) most period steps positive is same = omega (arith, mul-le-mul_left period (let l : 1 ≤ length (a ∷ letters) = omega arith in l))

-- ---- words whose ponds are known

-- a word that leaves X by one step and has no pond never comes back
pub none_ever : (shape : Shape) (p : List Row) (X : List Word) (u : Word) → IsInner shape p X u → ((k : ℕ) (v : Word) → ¬ IsPond shape p X u k v) → (k : ℕ) → IsNone shape p X u k
none_ever shape p X u inner none zero = λ j low high s. absurd (omega (arith, low, high))
none_ever shape p X u inner none (suc k) =
    let before = none_ever shape p X u inner none k in
    none_further shape p X u k (suc k) (next k) before (λ s. none (suc k) s.to (pond_given shape p X u s.to k (suc k) inner (next k) before s.carries s.under))
  where
    next : (k : ℕ) → suc k ≡ k + 1
    next k = omega arith

-- one that has a pond isn't back before its end
pub not_before : (shape : Shape) (p : List Row) (X : List Word) (u w : Word) (j k : ℕ) → IsPond shape p X u j w → 1 ≤ k → k < j → ¬ CarriesUnder shape p (pos k) u X
not_before shape p X u w j k pond positive less = pond.first.least k positive less

-- and is carried on from there
pub from_end : (shape : Shape) (p : List Row) → IsPair shape p → (X : List Word) (u v w : Word) (j k : ℕ) → IsPond shape p X u j w → j ≤ k → Carries shape p (pos k) u v ↔ Carries shape p (pos (k - j)) w v
from_end shape p pair X u v w j k pond less = (
  carries_rest shape p pair (pos j) (pos (k - j)) (pos k) (sum j k less) u w v pond.carries,
  carries_sum shape p pair (pos j) (pos (k - j)) (pos k) (sum j k less) u w v pond.carries,
)
  where
    sum : (j k : ℕ) → j ≤ k → pos j +ℤ pos (k - j) ≡ pos k
    sum j k l = omega (arith, ints)
