-- A bad chain goes from a joined word of a basis to one that splits. A basis without bad chains is semi-normal, and the
-- words of a bad chain are in no semi-normal basis under it.
use Rattle.std.proofs.Common.{◌≡◌, ◌≢◌, ℕ, zero, suc, ◌⊎◌, inl, inr, List, [], ◌∷◌, ◌++◌, refl, sym, ap, ◌∙◌, subst, arith, Contains, ℤ, pos, negsuc, neg_ℤ}
use Rattle.std.proofs.lemmas.Int.{ints}
use Rattle.std.proofs.lemmas.List.Elements.{All-contains, All-nil}
use Rattle.ht_word.specs.Words.{IsLetter, IsLetters, ◌·◌, IsUnder, IsUnderSome}
use Rattle.ht_word.specs.declared.shape.Shape.{Shape}
use Rattle.ht_word.specs.declared.word.Word.{Word}
use Rattle.ht_word.proofs.WordLaws.{after-append, after-nil, after_cancel, under_after, under_trans, under_antisym, All-from_contains, letters_append, word_rest}
use Rattle.ht_pair.specs.BadChains.{Splits, IsJoined, LeadsToSplit, ComesFromJoined}
use Rattle.ht_pair.specs.Bases.{IsBasis}
use Rattle.ht_pair.specs.Pairs.{IsPair}
use Rattle.ht_pair.specs.SemiNormal.{CarriesUnder, StaysAhead, StaysBehind, IsSemiNormal}
use Rattle.ht_pair.specs.Steps.{Carries}
use Rattle.ht_pair.specs.declared.row.Row.{Row}
use Rattle.ht_pair.proofs.BasisLaws.{prefix_free_same, some_at, basis_word}
use Rattle.ht_pair.proofs.CarriesLaws.{carries_single, carries_word, carries_extends, carries_back, carries_rest, carries_sum, carries_itself}

-- a power carries a word of X to y and more letters, y in X: then the power back carries y to no word under X, unless there are no more letters
pub strict_ends : (shape : Shape) (p : List Row) → IsPair shape p → (X : List Word) → IsBasis shape X → (k : ℤ) (x y : Word) (z : List ℕ) → Contains X x → Carries shape p k x (y · z) → CarriesUnder shape p (neg_ℤ k) y X → z ≡ []
strict_ends shape p pair X b k x y z c carries under =
    let hz = word_rest shape y z (carries_word shape p pair k x (y · z) carries) in
    let back : x ≡ under.to · z = carries_single shape p pair (neg_ℤ k) (y · z) x (under.to · z) (carries_back shape p pair k x (y · z) carries) (carries_extends shape p (neg_ℤ k) y under.to z hz under.carries) in
    let s = under.under in
    let to_above : IsUnder x s.above = under_trans (record { rest = z; is = back }) s.under in
    let same : x ≡ s.above = prefix_free_same X b.prefix_free x s.above c s.listed to_above in
    let to_is : under.to ≡ x = under_antisym (subst (λ t. IsUnder under.to t) (sym same) s.under) (record { rest = z; is = back }) in
    after_cancel under.to z [] (sym back ∙ sym to_is ∙ sym (after-nil under.to))

-- a list is empty or not
nil_or : (z : List ℕ) → (z ≡ []) ⊎ (z ≢ [])
nil_or [] = inl refl
nil_or (a ∷ z) = inr (λ e. cc)

-- what is known of a basis whose chains were all looked at
pub record HasNoBadChain (shape : Shape) (p : List Row) (X : List Word) : Type 0 where
  pub basis : IsBasis shape X
  pub splits_or_not : (x : Word) → Contains X x → CarriesUnder shape p (pos 1) x X ⊎ Splits shape p X x
  pub joined_or_not : (x : Word) → Contains X x → CarriesUnder shape p (negsuc 0) x X ⊎ IsJoined shape p X x
  pub leads_or_not : (x : Word) → Contains X x → ((k : ℕ) × LeadsToSplit shape p X k x) ⊎ ¬ ((k : ℕ) × LeadsToSplit shape p X k x)
  pub none_bad : (x : Word) (k : ℕ) → Contains X x → IsJoined shape p X x → ¬ LeadsToSplit shape p X k x

-- a word of X that leads to no split is carried under such a word
pub goes_on : (shape : Shape) (p : List Row) → IsPair shape p → (X : List Word) → HasNoBadChain shape p X → (x : Word) → Contains X x → ¬ ((k : ℕ) × LeadsToSplit shape p X k x) → (y : Word) × (z : List ℕ) × Contains X y × Carries shape p (pos 1) x (y · z) × ¬ ((k : ℕ) × LeadsToSplit shape p X k y)
unfolding Splits IsJoined LeadsToSplit
goes_on shape p pair X h x c none = elim (h.splits_or_not x c) [
  | inr s ↦ absurd (none (0, s))
  | inl u ↦ (
      let y = u.under.above in
      let z = u.under.under.rest in
      let carries : Carries shape p (pos 1) x (y · z) = subst (λ t. Carries shape p (pos 1) x t) u.under.under.is u.carries in (
        y,
        z,
        u.under.listed,
        carries,
        elim (nil_or z) [
          | inl e ↦ λ leads. none (suc leads.0, (y, u.under.listed, subst (λ t. Carries shape p (pos 1) x t) (ap (λ t. y · t) e ∙ after-nil y) carries, leads.1))
          | inr n ↦ λ leads. h.none_bad y leads.0 u.under.listed (λ back. n (strict_ends shape p pair X h.basis (pos 1) x y z c carries back)) leads.1
        ],
      ))
]

-- a word of X that leads to no split, with any letters, stays ahead
stays_ahead : (shape : Shape) (p : List Row) → IsPair shape p → (X : List Word) → HasNoBadChain shape p X → (k : ℕ) (x : Word) (z : List ℕ) → Contains X x → IsLetters shape z → ¬ ((j : ℕ) × LeadsToSplit shape p X j x) → CarriesUnder shape p (pos k) (x · z) X
stays_ahead shape p pair X h zero x z c hz none = record {
  to = x · z;
  carries = carries_extends shape p (pos 0) x x z hz (carries_itself shape p x (basis_word shape X h.basis x c));
  under = some_at X x (x · z) c (under_after x z);
}
stays_ahead shape p pair X h (suc k) x z c hz none =
    let g = goes_on shape p pair X h x c none in
    let hy = word_rest shape g.0 g.1 (carries_word shape p pair (pos 1) x (g.0 · g.1) g.3) in
    let rest = stays_ahead shape p pair X h k g.0 (g.1 ++ z) g.2 (letters_append shape g.1 z hy hz) g.4 in
    let first : Carries shape p (pos 1) (x · z) (g.0 · (g.1 ++ z)) = subst (λ t. Carries shape p (pos 1) (x · z) t) (after-append g.0 g.1 z) (carries_extends shape p (pos 1) x (g.0 · g.1) z hz g.3) in
    record { to = rest.to; carries = carries_sum shape p pair (pos 1) (pos k) (pos (suc k)) (omega (arith, ints)) (x · z) (g.0 · (g.1 ++ z)) rest.to first rest.carries; under = rest.under }

-- a word of X that leads to a split is carried back under such a word
pub goes_back : (shape : Shape) (p : List Row) → IsPair shape p → (X : List Word) → HasNoBadChain shape p X → (x : Word) → Contains X x → (k : ℕ) → LeadsToSplit shape p X k x → (y : Word) × (z : List ℕ) × Contains X y × Carries shape p (negsuc 0) x (y · z) × ((j : ℕ) × LeadsToSplit shape p X j y)
unfolding Splits IsJoined LeadsToSplit
goes_back shape p pair X h x c k leads = elim (h.joined_or_not x c) [
  | inr j ↦ absurd (h.none_bad x k c j leads)
  | inl u ↦ (
      let y = u.under.above in
      let z = u.under.under.rest in
      let carries : Carries shape p (negsuc 0) x (y · z) = subst (λ t. Carries shape p (negsuc 0) x t) u.under.under.is u.carries in (
        y,
        z,
        u.under.listed,
        carries,
        elim (nil_or z) [
          | inl e ↦ (suc k, (x, c, carries_back shape p pair (negsuc 0) x y (subst (λ t. Carries shape p (negsuc 0) x t) (ap (λ t. y · t) e ∙ after-nil y) carries), leads))
          | inr n ↦ (0, λ back. n (strict_ends shape p pair X h.basis (negsuc 0) x y z c carries back))
        ],
      ))
]

-- a word of X that leads to a split, with any letters, stays behind
stays_behind : (shape : Shape) (p : List Row) → IsPair shape p → (X : List Word) → HasNoBadChain shape p X → (k : ℕ) (x : Word) (z : List ℕ) → Contains X x → IsLetters shape z → (j : ℕ) × LeadsToSplit shape p X j x → CarriesUnder shape p (neg_ℤ (pos k)) (x · z) X
stays_behind shape p pair X h zero x z c hz leads = record {
  to = x · z;
  carries = carries_extends shape p (pos 0) x x z hz (carries_itself shape p x (basis_word shape X h.basis x c));
  under = some_at X x (x · z) c (under_after x z);
}
stays_behind shape p pair X h (suc k) x z c hz leads =
    let g = goes_back shape p pair X h x c leads.0 leads.1 in
    let hy = word_rest shape g.0 g.1 (carries_word shape p pair (negsuc 0) x (g.0 · g.1) g.3) in
    let rest = stays_behind shape p pair X h k g.0 (g.1 ++ z) g.2 (letters_append shape g.1 z hy hz) g.4 in
    let first : Carries shape p (negsuc 0) (x · z) (g.0 · (g.1 ++ z)) = subst (λ t. Carries shape p (negsuc 0) (x · z) t) (after-append g.0 g.1 z) (carries_extends shape p (negsuc 0) x (g.0 · g.1) z hz g.3) in
    record { to = rest.to; carries = carries_sum shape p pair (negsuc 0) (neg_ℤ (pos k)) (neg_ℤ (pos (suc k))) (omega (arith, ints)) (x · z) (g.0 · (g.1 ++ z)) rest.to first rest.carries; under = rest.under }

-- a basis without bad chains is semi-normal: words that lead to a split stay behind, the others ahead
pub semi_normal_without : (shape : Shape) (p : List Row) → IsPair shape p → (X : List Word) → HasNoBadChain shape p X → IsSemiNormal shape p X
semi_normal_without shape p pair X h = record {
  basis = h.basis;
  stays = All-from_contains (λ x. StaysAhead shape p X x ⊎ StaysBehind shape p X x) X (λ x c. elim (h.leads_or_not x c) [
    | inl leads ↦ inr (λ k. subst (λ t. CarriesUnder shape p (neg_ℤ (pos k)) t X) (after-nil x) (stays_behind shape p pair X h k x [] c (All-nil (IsLetter shape)) leads))
    | inr none ↦ inl (λ k. subst (λ t. CarriesUnder shape p (pos k) t X) (after-nil x) (stays_ahead shape p pair X h k x [] c (All-nil (IsLetter shape)) none))
  ]);
}

-- ---- forced expansions

-- a word that leads to a split doesn't stay ahead
split_not_ahead : (shape : Shape) (p : List Row) → IsPair shape p → (X : List Word) (k : ℕ) (x : Word) → LeadsToSplit shape p X k x → StaysAhead shape p X x → ⊥
unfolding Splits LeadsToSplit
split_not_ahead shape p pair X zero x leads ahead = leads (ahead 1)
split_not_ahead shape p pair X (suc k) x leads ahead = split_not_ahead shape p pair X k leads.0 leads.3
    (λ j. let u = ahead (suc j) in record { to = u.to; under = u.under; carries = carries_rest shape p pair (pos 1) (pos j) (pos (suc j)) (omega (arith, ints)) x leads.0 u.to leads.2 u.carries })

-- a word that comes from a joined one doesn't stay behind
joined_not_behind : (shape : Shape) (p : List Row) → IsPair shape p → (X : List Word) (k : ℕ) (x : Word) → ComesFromJoined shape p X k x → StaysBehind shape p X x → ⊥
unfolding IsJoined ComesFromJoined
joined_not_behind shape p pair X zero x comes behind = comes (behind 1)
joined_not_behind shape p pair X (suc k) x comes behind = joined_not_behind shape p pair X k comes.0 comes.3
    (λ j. let u = behind (suc j) in record { to = u.to; under = u.under; carries = carries_rest shape p pair (negsuc 0) (neg_ℤ (pos j)) (neg_ℤ (pos (suc j))) (omega (arith, ints)) x comes.0 u.to comes.2 u.carries })

-- a word of a bad chain of X is in no semi-normal basis under X
pub bad_word_out : (shape : Shape) (p : List Row) → IsPair shape p → (X W : List Word) → IsSemiNormal shape p W → ((u : Word) → IsUnderSome u W → IsUnderSome u X) → (x : Word) (j k : ℕ) → ComesFromJoined shape p X j x → LeadsToSplit shape p X k x → Contains W x → ⊥
bad_word_out shape p pair X W semi wider x j k comes leads c = elim (All-contains (λ w. StaysAhead shape p W w ⊎ StaysBehind shape p W w) W x semi.stays c) [
  | inl ahead ↦ split_not_ahead shape p pair X k x leads (λ i. let u = ahead i in record { to = u.to; carries = u.carries; under = wider u.to u.under })
  | inr behind ↦ joined_not_behind shape p pair X j x comes (λ i. let u = behind i in record { to = u.to; carries = u.carries; under = wider u.to u.under })
]
