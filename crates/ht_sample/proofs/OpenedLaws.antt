-- Lists of words some of which gave way to their children, in any order: such a list may stand for the words in each basis.
use Rattle.std.proofs.Common.{◌≡◌, suc, ◌*◌, ◌≤◌, inl, inr, List, [], ◌∷◌, ◌++◌, length, sym, ap, ◌∙◌, subst, arith, append_assoc, length-append, Contains, map}
use Rattle.std.proofs.lemmas.List.Elements.{Contains-append_cases, Contains-append_left, Contains-append_right}
use Rattle.std.proofs.lemmas.List.Sorted.{IsPermutation-sym, IsPermutation-map, IsPermutation-append_left, IsPermutation-append_right, length_permutation, Contains-permutation}
use Rattle.std.specs.List.Sorted.{IsPermutation}
use Rattle.ht_word.specs.Words.{child}
use Rattle.ht_word.specs.declared.shape.Shape.{Shape}
use Rattle.ht_word.specs.declared.word.Word.{Word}
use Rattle.ht_word.proofs.WordLaws.{length-after}
use Rattle.ht_pair.specs.Bases.{longest, IsBasis}
use Rattle.ht_pair.specs.Merges.{each_to}
use Rattle.ht_pair.specs.declared.row.Row.{Row}
use Rattle.ht_pair.proofs.BasisLaws.{longest_bounds, longest_least, basis_expanded}
use Rattle.ht_pair.proofs.IdentityLaws.{from_words-keep, to_words-keep}
use Rattle.ht_pair.proofs.Sorting.{pair_permuted}

-- X may stand for W in each basis; it has at most twice as many words, with at most one letter more
pub record IsOpened (shape : Shape) (W X : List Word) : Type 0 where
  pub basis : (A B : List Word) → IsBasis shape (A ++ W ++ B) → IsBasis shape (A ++ X ++ B)
  pub few : length X ≤ 2 * length W
  pub short : longest X ≤ suc (longest W)

-- a basis in another order is a basis
pub basis_permuted : (shape : Shape) (X Y : List Word) → IsPermutation X Y → IsBasis shape X → IsBasis shape Y
basis_permuted shape X Y h b =
    let pair = pair_permuted shape (map keep X) (map keep Y) (IsPermutation-map keep X Y h) (record { from = subst (IsBasis shape) (sym (from_words-keep X)) b; to = subst (IsBasis shape) (sym (to_words-keep X)) b }) in
    subst (IsBasis shape) (from_words-keep Y) pair.from
  where
    keep : Word → Row
    keep x = record { from = x; to = x }

-- words that are all in a list are no longer than its longest
pub longest_listed : (X Y : List Word) → ((w : Word) → Contains Y w → Contains X w) → longest Y ≤ longest X
longest_listed X Y listed = longest_least Y (longest X) (λ w c. longest_bounds X w (listed w c))

-- words may stand in another order
pub opened_order : {shape : Shape} {W X Y : List Word} → IsPermutation X Y → IsOpened shape W X → IsOpened shape W Y
opened_order {shape} {W} {X} {Y} h o = record {
  basis = λ A B b. basis_permuted shape (A ++ X ++ B) (A ++ Y ++ B) (IsPermutation-append_left B (A ++ X) (A ++ Y) (IsPermutation-append_right A X Y h)) (o.basis A B b);
  few = omega (arith, o.few, length_permutation X Y h);
  short = omega (arith, o.short, longest_listed X Y (λ w c. Contains-permutation Y X w (IsPermutation-sym X Y h) c));
}

-- no word gave way
pub opened_same : (shape : Shape) (W : List Word) → IsOpened shape W W
opened_same shape W = record { basis = λ A B b. b; few = omega arith; short = omega arith }

-- a word gave way to its two children
pub opened_word : (shape : Shape) → shape.n ≡ 2 → (x : Word) → IsOpened shape (x ∷ []) (child x 1 ∷ child x 2 ∷ [])
opened_word shape two x = record {
  basis = λ A B b. subst (λ (C : List Word). IsBasis shape (A ++ C ++ B)) (ap (λ k. each_to (child x) k) two) (basis_expanded shape A B x (subst (IsBasis shape) (append_assoc A (x ∷ []) B) b));
  few = omega arith;
  short = omega (arith, length-after x (1 ∷ []), length-after x (2 ∷ []));
}

-- one list behind another
pub opened_then : {shape : Shape} {W V X Y : List Word} → IsOpened shape W X → IsOpened shape V Y → IsOpened shape (W ++ V) (X ++ Y)
opened_then {shape} {W} {V} {X} {Y} o p = record {
  basis = λ A B b.
      let first = o.basis A (V ++ B) (subst (IsBasis shape) (regrouped A W V B ∙ append_assoc (A ++ W) V B) b) in
      let second = p.basis (A ++ X) B (subst (IsBasis shape) (sym (append_assoc (A ++ X) V B)) first) in
      subst (IsBasis shape) (sym (regrouped A X Y B)) second;
  few = omega (arith, o.few, p.few, length-append X Y, length-append W V);
  short = longest_least (X ++ Y) (suc (longest (W ++ V))) (λ w c. elim (Contains-append_cases X Y w c) [
    | inl d ↦ omega (arith, longest_bounds X w d, o.short, longest_listed (W ++ V) W (λ v e. Contains-append_left W V v e))
    | inr d ↦ omega (arith, longest_bounds Y w d, p.short, longest_listed (W ++ V) V (λ v e. Contains-append_right W V v e))
  ]);
}
  where
    regrouped : (A C D B : List Word) → A ++ (C ++ D) ++ B ≡ A ++ C ++ D ++ B
    regrouped A C D B = ap (λ (E : List Word). E ++ B) (sym (append_assoc A C D))
