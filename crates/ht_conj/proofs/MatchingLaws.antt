-- Matchings by a relation: what is left when a pair is taken away is matched, whichever pair it is.
use Rattle.std.proofs.Common.{◌≡◌, ◌≢◌, ◌⊎◌, inl, inr, List, [], ◌∷◌, length, refl, sym, ◌∙◌, subst, arith, AllPairs, Contains}
use Rattle.std.proofs.lemmas.List.Elements.{All-contains}
use Rattle.ht_word.proofs.ListLaws.{AllPairs-head, AllPairs-tail, Contains-cons_cases, Contains-here, Contains-nil, Contains-there}
use Rattle.ht_conj.specs.Matchings.{AreMatched}
use Rattle.ht_conj.proofs.TakenOutLaws.{taken_cases, taken_length, taken_listed, taken_more, taken_pairs}

module _ {X Y : Type 0} (R : X → Y → Type 0) where
  -- the property matters, not how it is told
  pub matched_same : (xs : List X) (F G : Y → Type 0) → ((y : Y) → F y → G y) → ((y : Y) → G y → F y) → AreMatched R xs F → AreMatched R xs G
  matched_same [] F G to from m = λ y g. m y (from y g)
  matched_same (x ∷ xs) F G to from m =
      (m.0, to m.0 m.1, m.2, matched_same xs (λ z. F z × ¬ (z ≡ m.0)) (λ z. G z × ¬ (z ≡ m.0)) (λ z h. (to z h.0, h.1)) (λ z h. (from z h.0, h.1)) m.3)

  -- what is related to nothing isn't matched
  pub matched_related : (x : X) (xs : List X) (F : Y → Type 0) → AreMatched R (x ∷ xs) F → ((y : Y) → F y → ¬ R x y) → ⊥
  matched_related x xs F m none = none m.0 m.1 m.2

  -- each has as many as there are
  pub matched_length : (xs : List X) (ys : List Y) → AllPairs (λ y z. y ≢ z) ys → AreMatched R xs (Contains ys) → length ys ≡ length xs
  matched_length [] [] apart m = refl
  matched_length [] (y ∷ ys) apart m = absurd (m y (Contains-here y ys))
  matched_length (x ∷ xs) ys apart m =
      let r = taken_listed ys m.0 m.1 in
      let p = taken_pairs r.1 (λ y z. y ≢ z) (λ y z n e. n (sym e)) apart in
      let rest = matched_same xs (λ z. Contains ys z × ¬ (z ≡ m.0)) (Contains r.0)
      (λ z h. elim (taken_cases r.1 z h.0) [ inl e ↦ absurd (h.1 (sym e)) | inr c ↦ c ])
      (λ z c. (taken_more r.1 z c, λ e. p.1 z c (sym e))) m.3 in
      omega (arith, taken_length r.1, matched_length xs r.0 p.0 rest)

  module _ (same : (y z : Y) → (y ≡ z) ⊎ ¬ (y ≡ z)) where
    -- one thing gives way to another to which all are related that are related to it
    replaced : (xs : List X) (F : Y → Type 0) (c b : Y) → F c → ¬ F b → ((x : X) → Contains xs x → R x c → R x b) → AreMatched R xs F
        → AreMatched R xs (λ z. (F z × ¬ (z ≡ c)) ⊎ (z ≡ b))
    replaced [] F c b has other related m = absurd (m c has)
    replaced (x ∷ xs) F c b has other related m = elim (same m.0 c) [
      | inl e ↦ (
        b,
        inr refl,
        related x (Contains-here x xs) (subst (R x) e m.2),
        matched_same xs (λ z. F z × ¬ (z ≡ m.0)) (λ z. ((F z × ¬ (z ≡ c)) ⊎ (z ≡ b)) × ¬ (z ≡ b))
            (λ z h. (inl (h.0, λ k. h.1 (k ∙ sym e)), λ k. other (subst F k h.0)))
            (λ z h. elim h.0 [ inl k ↦ (k.0, λ i. k.1 (i ∙ e)) | inr k ↦ absurd (h.1 k) ]) m.3,
      )
      | inr n ↦ (
        m.0,
        inl (m.1, n),
        m.2,
        matched_same xs (λ z. ((F z × ¬ (z ≡ m.0)) × ¬ (z ≡ c)) ⊎ (z ≡ b)) (λ z. ((F z × ¬ (z ≡ c)) ⊎ (z ≡ b)) × ¬ (z ≡ m.0))
            (λ z h. elim h [ inl k ↦ (inl (k.0.0, k.1), k.0.1) | inr k ↦ (inr k, λ i. other (subst F (sym i ∙ k) m.1)) ])
            (λ z h. elim h.0 [ inl k ↦ inl ((k.0, h.1), k.1) | inr k ↦ inr k ])
            (replaced xs (λ z. F z × ¬ (z ≡ m.0)) c b (has, λ e. n (sym e)) (λ h. other h.0) (λ x' e. related x' (Contains-there x xs x' e)) m.3),
      )
    ]

    -- x takes c, which it is related to: the others are still matched with what is left
    pub matched_without : (x : X) (xs : List X) (F : Y → Type 0) (c : Y) → F c → ((x' : X) (b : Y) → Contains xs x' → F b → R x' c → R x b → R x' b)
        → AreMatched R (x ∷ xs) F → AreMatched R xs (λ z. F z × ¬ (z ≡ c))
    matched_without x xs F c has across m = elim (same m.0 c) [
      | inl e ↦ matched_same xs (λ z. F z × ¬ (z ≡ m.0)) (λ z. F z × ¬ (z ≡ c)) (λ z h. (h.0, λ k. h.1 (k ∙ sym e))) (λ z h. (h.0, λ k. h.1 (k ∙ e))) m.3
      | inr n ↦ matched_same xs (λ z. ((F z × ¬ (z ≡ m.0)) × ¬ (z ≡ c)) ⊎ (z ≡ m.0)) (λ z. F z × ¬ (z ≡ c))
          (λ z h. elim h [ inl k ↦ (k.0.0, k.1) | inr k ↦ (subst F (sym k) m.1, λ i. n (sym k ∙ i)) ])
          (λ z h. elim (same z m.0) [ inl k ↦ inr k | inr k ↦ inl ((h.0, k), h.1) ])
          (replaced xs (λ z. F z × ¬ (z ≡ m.0)) c m.0 (has, λ e. n (sym e)) (λ h. h.1 refl) (λ x' e r. across x' m.0 e m.1 r m.2) m.3)
    ]

  -- a relation that goes from each of xs to one thing and back matches them
  pub matched_by : (T : X → Y → Type 0) → ((x : X) (y : Y) → T x y → R x y) → ((x : X) (y z : Y) → T x y → T x z → y ≡ z)
      → ((x w : X) (y : Y) → T x y → T w y → x ≡ w)
      → (xs : List X) (F : Y → Type 0) → AllPairs (λ x w. x ≢ w) xs → ((x : X) → Contains xs x → (y : Y) × F y × T x y) → ((y : Y) → F y → (x : X) × Contains xs x × T x y) → AreMatched R xs F
  matched_by T related one once [] F apart to from = λ y h. let k = from y h in Contains-nil k.0 k.1
  matched_by T related one once (x ∷ xs) F apart to from =
      let y = to x (Contains-here x xs) in (
        y.0,
        y.1,
        related x y.0 y.2,
        matched_by T related one once xs (λ z. F z × ¬ (z ≡ y.0)) (AllPairs-tail (λ x w. x ≢ w) x xs apart)
            (λ w c. let z = to w (Contains-there x xs w c) in (z.0, (z.1, λ e. All-contains (λ w. x ≢ w) xs w (AllPairs-head (λ x w. x ≢ w) x xs apart) c (once x w y.0 y.2 (subst (T w) e z.2))), z.2))
            (λ z h. let k = from z h.0 in elim (Contains-cons_cases x xs k.0 k.1) [
              | inl e ↦ absurd (h.1 (one x z y.0 (subst (λ w. T w z) (sym e) k.2) y.2))
              | inr c ↦ (k.0, c, k.2)
            ]),
      )
