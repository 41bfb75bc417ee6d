-- A letter that leads a word away from the repeller that it is under: no walk ahead comes back to the word.
use Rattle.std.proofs.Common.{◌≡◌, ◌≢◌, ℕ, ◌-◌, ◌≤◌, inl, inr, List, [], ◌∷◌, ◌++◌, length, Some, slice_get, sym, ap, ◌∙◌, subst, arith, append-nil, append_assoc, Contains, pos, neg_ℤ, ◌+ℤ◌}
use Rattle.std.proofs.Math.Seq.{get_or-append_seam}
use Rattle.std.proofs.lemmas.Bool.{cases_lt}
use Rattle.std.proofs.lemmas.Int.{ints}
use Rattle.std.proofs.lemmas.List.{length-append}
use Rattle.std.proofs.lemmas.Option.{slice_get-get_or}
use Rattle.ht_word.specs.Words.{◌·◌, IsLetters, IsWordOf}
use Rattle.ht_word.specs.declared.shape.Shape.{Shape}
use Rattle.ht_word.specs.declared.word.Word.{Word}
use Rattle.ht_word.proofs.WordLaws.{after-append, after_cancel, letters_back, list_prefixes, word_rest}
use Rattle.ht_pair.specs.Kinds.{IsRepeller, IsRepellerWord}
use Rattle.ht_pair.specs.SemiNormal.{CarriesUnder, StaysBehind}
use Rattle.ht_pair.specs.Steps.{Carries}
use Rattle.ht_pair.specs.declared.row.Row.{Row}
use Rattle.ht_pair.proofs.CarriesLaws.{carries_single, carries_word, carries_back, carries_rest}
use Rattle.ht_quasi.proofs.MirrorLaws.{behind_ahead}
use Rattle.ht_types.proofs.FlowLaws.{lengthened_twice, turned_base}
use Rattle.ht_types.proofs.MirrorLaws.{turned_mirrors, attractor_repeller}
use Rattle.ht_types.proofs.OnwardLaws.{early_under}
use Rattle.ht_types.proofs.PeriodicLaws.{carried_further}
use Rattle.ht_types.proofs.TurnLaws.{HasSemiNormal, FallsBack, grows_attractor}

-- x doesn't fall back with these letters behind it, whatever comes behind them
abbrev pub IsAway : Shape → List Row → List Word → Word → List ℕ → Type 0
IsAway shape p X x y = (z : List ℕ) → FallsBack shape p X x (y ++ z) → ⊥

-- a word that falls back is a repeller
falls_repeller : {shape : Shape} {p : List Row} {X : List Word} → HasSemiNormal shape p X → (x : Word) (z : List ℕ) → FallsBack shape p X x z → IsRepellerWord shape p x
falls_repeller {shape} {p} {X} h x z b =
    let m = turned_mirrors shape p h.pair in
    let a = grows_attractor (turned_base h) b.count x b.front b.positive (behind_ahead m X x b.stays) (b.lengthens.0, m.from (pos b.count) x (x · b.front) b.lengthens.1) in
    (a.0, a.1, attractor_repeller m x a.0 a.1 a.2)

-- the letters by which it falls back begin with those of the repeller
front_begins : {shape : Shape} {p : List Row} {X : List Word} → HasSemiNormal shape p X → (x : Word) (z : List ℕ) → Contains X x → (m : ℕ) (by : List ℕ) → IsRepeller shape p x m by → (b : FallsBack shape p X x z) → (y : List ℕ) × (b.front ≡ by ++ y)
front_begins {shape} {p} {X} h x z c m by r b = elim (cases_lt b.count m) [
  | inl less ↦ absurd (r.first.least b.count b.positive less (b.front, b.lengthens))
  | inr other ↦ (
      let d = b.count - m in
      let hby = word_rest shape x by (carries_word shape p h.pair (neg_ℤ (pos m)) x (x · by) r.lengthens.1) in
      let rest = carries_rest shape p h.pair (neg_ℤ (pos m)) (neg_ℤ (pos d)) (neg_ℤ (pos b.count)) (sum m b.count other) x (x · by) (x · b.front) r.lengthens.1 b.lengthens.1 in
      let f = carried_further shape p h.pair X h.semi.basis (neg_ℤ (pos d)) x x by b.front c hby (b.stays d) rest in
      let turn : neg_ℤ (pos d) +ℤ neg_ℤ (pos m) ≡ neg_ℤ (pos b.count) = turned_sum m b.count other in
      let again = lengthened_twice shape p h.pair (neg_ℤ (pos d)) (neg_ℤ (pos m)) (neg_ℤ (pos b.count)) turn x f.letters by f.carries r.lengthens.1 in
      (f.letters, after_cancel x b.front (by ++ f.letters) (carries_single shape p h.pair (neg_ℤ (pos b.count)) x (x · b.front) (x · (by ++ f.letters)) b.lengthens.1 again)))
]
  where
    sum : (m k : ℕ) → m ≤ k → neg_ℤ (pos m) +ℤ neg_ℤ (pos (k - m)) ≡ neg_ℤ (pos k)
    sum m k l = omega (arith, ints)

    turned_sum : (m k : ℕ) → m ≤ k → neg_ℤ (pos (k - m)) +ℤ neg_ℤ (pos m) ≡ neg_ℤ (pos k)
    turned_sum m k l = omega (arith, ints)

-- one step carries a repeller with its letters behind it under X
repeller_steps : {shape : Shape} {p : List Row} {X : List Word} → HasSemiNormal shape p X → (x : Word) (m : ℕ) (by s : List ℕ) → StaysBehind shape p X x → IsRepeller shape p x m by → IsLetters shape s → CarriesUnder shape p (pos 1) (x · (by ++ s)) X
repeller_steps {shape} {p} {X} h x m by s behind r hs =
    let v = behind (m - 1) in
    let last = carries_rest shape p h.pair (neg_ℤ (pos (m - 1))) (neg_ℤ (pos 1)) (neg_ℤ (pos m)) (sum m r.first.positive) x v.to (x · by) v.carries r.lengthens.1 in
    let twice : neg_ℤ (neg_ℤ (pos 1)) ≡ pos 1 = omega (arith, ints) in
    let one : Carries shape p (pos 1) (x · by) v.to = subst (λ i. Carries shape p i (x · by) v.to) twice (carries_back shape p h.pair (neg_ℤ (pos 1)) v.to (x · by) last) in
    subst (λ u. CarriesUnder shape p (pos 1) u X) (after-append x by s) (early_under shape p X 1 (x · by) s hs (record { to = v.to; carries = one; under = v.under }))
  where
    sum : (m : ℕ) → 1 ≤ m → neg_ℤ (pos (m - 1)) +ℤ neg_ℤ (pos 1) ≡ neg_ℤ (pos m)
    sum m l = omega (arith, ints)

-- where no step carries a word under X, another letter than the repeller's next one leads away
pub away_made : {shape : Shape} {p : List Row} {X : List Word} → HasSemiNormal shape p X → (x : Word) (z : List ℕ) (a : ℕ) → Contains X x → IsWordOf shape (x · z) → ¬ CarriesUnder shape p (pos 1) (x · z) X
    → ((m : ℕ) (by : List ℕ) → IsRepeller shape p x m by → slice_get by (length z) ≢ Some a) → IsAway shape p X x (z ++ (a ∷ []))
away_made {shape} {p} {X} h x z a c hz stuck other y b =
    let r = falls_repeller h x ((z ++ (a ∷ [])) ++ y) b in
    let g = front_begins h x ((z ++ (a ∷ [])) ++ y) c r.0 r.1 r.2 b in
    let whole : z ++ (a ∷ y) ≡ r.1 ++ (g.0 ++ b.back) = sym (append_assoc z (a ∷ []) y) ∙ b.whole ∙ ap (λ t. t ++ b.back) g.1 ∙ append_assoc r.1 g.0 b.back in
    elim (list_prefixes z r.1 (a ∷ y) (g.0 ++ b.back) whole) [
      | inl f ↦ past r.0 r.1 r.2 f.0 f.1
      | inr f ↦ next r.0 r.1 r.2 f.0 f.1 (g.0 ++ b.back) f.2
    ]
  where
    past : (m : ℕ) (by : List ℕ) → IsRepeller shape p x m by → (s : List ℕ) → z ≡ by ++ s → ⊥
    past m by r s e = stuck (subst (λ t. CarriesUnder shape p (pos 1) (x · t) X) (sym e) (repeller_steps h x m by s b.stays r (letters_back shape by s (subst (IsLetters shape) e (word_rest shape x z hz)))))

    seam : (z s : List ℕ) (l : ℕ) → slice_get (z ++ (l ∷ s)) (length z) ≡ Some l
    seam z s l = slice_get-get_or (z ++ (l ∷ s)) (length z) 0 (omega (arith, length-append z (l ∷ s))) ∙ ap (λ n. Some n) (get_or-append_seam z l s 0)

    next : (m : ℕ) (by : List ℕ) → IsRepeller shape p x m by → (s : List ℕ) → by ≡ z ++ s → (t : List ℕ) → a ∷ y ≡ s ++ t → ⊥
    next m by r [] e t g = past m by r [] (sym (append-nil z) ∙ sym e ∙ sym (append-nil by))
    next m by r (l ∷ s) e t g =
        let same : l ≡ a = cc in
        other m by r (ap (λ w. slice_get w (length z)) e ∙ seam z s l ∙ ap (λ n. Some n) same)
