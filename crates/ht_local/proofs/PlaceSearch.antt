-- The index of a place among ascending places.
use Rattle.std.proofs.Common.{◌≡◌, ℕ, ◌<◌, ◌≤◌, inl, inr, List, length, get_or, Some, slice_get, Option, Result, Ok, Err, MatchOption, MatchResult, sym, ap, ◌∙◌, subst, arith, Contains, AllPairs}
use Rattle.std.specs.List.Sorted.{IsBinarySearchResult}
use Rattle.std.specs.Ordering.{nat_cmp}
use Rattle.std.specs.Result.{result_ok}
use Rattle.std.proofs.lemmas.List.Sorted.{searched}
use Rattle.std.proofs.lemmas.Option.{slice_get-get_or}
use Rattle.ht_word.proofs.ListLaws.{contains_at, trichotomy}

ascending_at : (k : List ℕ) → AllPairs (λ (i : ℕ) (j : ℕ). i < j) k → (i j : ℕ) → i ≤ j → j < length k → get_or k i 0 ≤ get_or k j 0
ascending_at k ascending i j l m = elim (trichotomy i j) [
  | inl h ↦ elim h [ inl less ↦ (let a = ascending i j 0 less m in omega arith) | inr more ↦ absurd (omega arith) ]
  | inr e ↦ omega (arith, ap (λ t. get_or k t 0) e)
]

pub place_found : (k : List ℕ) (place : ℕ) → AllPairs (λ (i : ℕ) (j : ℕ). i < j) k → (r : Result ℕ ℕ) → IsBinarySearchResult (λ y. nat_cmp y place) k r → (found : Option ℕ) → found ≡ result_ok r
    → MatchOption found (¬ Contains k place) (λ index. slice_get k index ≡ Some place)
place_found k place ascending r result found is = subst (λ o. MatchOption o (¬ Contains k place) (λ index. slice_get k index ≡ Some place)) (sym is) (by r (searched k place r result (ascending_at k ascending)))
  where
    by : (r : Result ℕ ℕ) → MatchResult r (λ i. (i < length k) × (get_or k i 0 ≡ place)) (λ i. (i ≤ length k) × ((j : ℕ) → j < i → get_or k j 0 < place) × ((j : ℕ) → i ≤ j → j < length k → place < get_or k j 0))
        → MatchOption (result_ok r) (¬ Contains k place) (λ index. slice_get k index ≡ Some place)
    by (Ok i) h = slice_get-get_or k i 0 h.0 ∙ ap Some h.1
    by (Err i) h = λ c. elim (trichotomy c.0 i) [
      | inl l ↦ elim l [
        | inl less ↦ omega (arith, h.1 c.0 less, contains_at k place 0 c)
        | inr more ↦ omega (arith, h.2 c.0 (omega arith) c.1, contains_at k place 0 c)
      ]
      | inr e ↦ omega (arith, h.2 c.0 (omega arith) c.1, contains_at k place 0 c)
    ]
