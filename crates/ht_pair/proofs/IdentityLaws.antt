-- The identity.
use Rattle.std.proofs.Common.{◌≡◌, ℕ, zero, suc, ◌+◌, List, [], ◌∷◌, ◌++◌, length, inl, inr, refl, sym, ap, ◌∙◌, subst, map, arith, add-one, pos}
use Rattle.std.proofs.lemmas.List.{map-append}
use Rattle.std.specs.declared.cmp.Ordering.TheVariants.{Less}
use Rattle.ht_word.specs.Words.{◌·◌, child, root_word, word_cmp, IsAscending, IsWordOf}
use Rattle.ht_word.specs.declared.shape.Shape.{Shape}
use Rattle.ht_word.specs.declared.word.Word.{Word}
use Rattle.ht_word.proofs.WordLaws.{length-after}
use Rattle.ht_word.proofs.ListLaws.{contained_in_map, Contains-nil, Contains-cons_cases, AllPairs-nil, AllPairs-cons, AllPairs-append}
use Rattle.ht_pair.specs.Actions.{Moves, child_row, IsCanonical}
use Rattle.ht_pair.specs.Bases.{roots, roots_to, IsBasis}
use Rattle.ht_pair.specs.Pairs.{from_words, to_words, IsPair, identity}
use Rattle.ht_pair.specs.declared.row.Row.{Row}
use Rattle.ht_pair.proofs.BasisLaws.{roots_basis, root_at_most, longest_bounds, longest-roots}
use Rattle.ht_pair.proofs.ConeOrder.{before_less}
use Rattle.ht_pair.specs.Orders.{FixesRoots}
use Rattle.ht_pair.specs.Steps.{Carries}
use Rattle.ht_pair.proofs.CarriesLaws.{carries_extends}

-- the row from a word to itself
keep : Word → Row
keep x = record { from = x; to = x }

-- the `from` words of rows that keep X are X
pub from_words-keep : (X : List Word) → from_words (map (λ x. record { from = x; to = x }) X) ≡ X
from_words-keep [] = refl
from_words-keep (x ∷ X) = ap (λ (W : List Word). x ∷ W) (from_words-keep X)

-- so are the `to` words
pub to_words-keep : (X : List Word) → to_words (map (λ x. record { from = x; to = x }) X) ≡ X
to_words-keep [] = refl
to_words-keep (x ∷ X) = ap (λ (W : List Word). x ∷ W) (to_words-keep X)

-- the identity is a pair
pub identity_pair : (shape : Shape) → IsPair shape (identity shape)
identity_pair shape = record { from = subst (IsBasis shape) (sym (from_words-keep (roots shape))) (roots_basis shape); to = subst (IsBasis shape) (sym (to_words-keep (roots shape))) (roots_basis shape) }

-- the identity moves each word to itself
pub identity_moves : (shape : Shape) (u v : Word) → Moves (identity shape) u v → u ≡ v
unfolding keep
identity_moves shape u v h =
    let g = contained_in_map keep (roots shape) h.row h.listed in
    h.from ∙ ap (λ (t : Word). t · h.rest) (ap (λ (t : Row). t.from) (sym g.2) ∙ ap (λ (t : Row). t.to) g.2) ∙ sym h.to

-- the roots are in ascending order
pub roots_ascending : (k : ℕ) → IsAscending (roots_to k)
roots_ascending zero = AllPairs-nil (λ u v. word_cmp u v ≡ Less)
roots_ascending (suc k) = AllPairs-append (λ u v. word_cmp u v ≡ Less) (roots_to k) (root_word (suc k) ∷ []) (roots_ascending k)
    (AllPairs-cons (λ u v. word_cmp u v ≡ Less) (root_word (suc k)) [] (λ i d l. absurd (omega arith)) (AllPairs-nil (λ u v. word_cmp u v ≡ Less)))
    (λ x y c e. elim (Contains-cons_cases (root_word (suc k)) [] y e) [
      | inl h ↦ before_less x y (inl (omega (arith, (root_at_most k x c).1, ap (λ (u : Word). u.root) h)))
      | inr n ↦ absurd (Contains-nil y n)
    ])

-- the identity is a canonical pair
pub identity_canonical : (shape : Shape) → IsCanonical shape (identity shape)
unfolding keep
identity_canonical shape = record {
  pair = identity_pair shape;
  reduced = λ u v all.
      let g = contained_in_map keep (roots shape) (child_row u v 1) (all 1 (omega arith) (omega (arith, shape.letters_low))) in
      let root : g.0 ≡ child u 1 = ap (λ (t : Row). t.from) g.2 in
      absurd (omega (arith, longest_bounds (roots shape) g.0 g.1, longest-roots shape.r, ap (λ (w : Word). length w.letters) root, length-after u (1 ∷ [])));
  ascending = subst IsAscending (sym (from_words-keep (roots shape))) (roots_ascending shape.r);
}

-- the rows of one more root
pub one_more_root : (k : ℕ) (rows : List Row) (row : Row) → rows ≡ map (λ x. record { from = x; to = x }) (roots_to k) → row.from ≡ root_word (k + 1) → row.to ≡ root_word (k + 1)
    → rows ++ row ∷ [] ≡ map (λ x. record { from = x; to = x }) (roots_to (k + 1))
unfolding keep
one_more_root k rows row are from to =
    let is : row ≡ keep (root_word (suc k)) = λ i. record { from = (from ∙ ap root_word (add-one k)) i; to = (to ∙ ap root_word (add-one k)) i } in
    ap (λ t. t ++ row ∷ []) are ∙ ap (λ t. map keep (roots_to k) ++ t ∷ []) is ∙ sym (map-append keep (roots_to k) (root_word (suc k) ∷ [])) ∙ ap (λ j. map keep (roots_to j)) (sym (add-one k))

-- a power that fixes the roots carries each word to itself
pub fixed_word : (shape : Shape) (p : List Row) (k : ℕ) → FixesRoots shape p k → (u : Word) → IsWordOf shape u → Carries shape p (pos k) u u
fixed_word shape p k fixes u h = carries_extends shape p (pos k) (root_word u.root) (root_word u.root) u.letters h.letters (fixes u.root h.root_low h.root_high)
