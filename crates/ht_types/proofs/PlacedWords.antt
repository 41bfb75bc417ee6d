-- The words of a list at some places.
use Rattle.std.proofs.Common.{◌≡◌, ℕ, inl, inr, List, [], Option, None, Some, slice_get, sym, ap, subst, Contains, option_to_list}
use Rattle.ht_word.specs.declared.word.Word.{Word}
use Rattle.ht_word.proofs.ListLaws.{Contains-nil, Contains-here, Contains-cons_cases, Contains-flat_map, contained_in_flat_map}
use Rattle.ht_pair.specs.Atoms.{words_at}

pub at_places : (X : List Word) (places : List ℕ) (i : ℕ) (x : Word) → Contains places i → slice_get X i ≡ Some x → Contains (words_at X places) x
at_places X places i x c e = Contains-flat_map (λ k. option_to_list (slice_get X k)) places i x c (subst (λ o. Contains (option_to_list o) x) (sym e) (Contains-here x []))

pub placed_word : (X : List Word) (places : List ℕ) (x : Word) → Contains (words_at X places) x → (i : ℕ) × Contains places i × (slice_get X i ≡ Some x)
placed_word X places x c = let g = contained_in_flat_map (λ k. option_to_list (slice_get X k)) places x c in (g.0, g.1, only (slice_get X g.0) g.2)
  where
    only : (o : Option Word) → Contains (option_to_list o) x → o ≡ Some x
    only None c = absurd (Contains-nil x c)
    only (Some y) c = elim (Contains-cons_cases y [] x c) [ inl e ↦ ap (λ t. Some t) e | inr n ↦ absurd (Contains-nil x n) ]
