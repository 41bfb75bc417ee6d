-- Atoms found in classes: the last atom of a class is taken out, or the class has none that is conjugate; and so of all classes.
use Rattle.std.proofs.Common.{◌≡◌, ◌≢◌, ℕ, suc, ◌+◌, ◌-◌, inl, inr, List, [], ◌∷◌, ◌++◌, length, set, take, drop, Some, slice_get, sym, ap, ◌∙◌, subst, arith, All, AllPairs, Contains}
use Rattle.std.proofs.Math.Seq.{split_at}
use Rattle.std.proofs.lemmas.Grind.{flat_map-append}
use Rattle.std.proofs.lemmas.List.{append-nil, drop_all, take_more}
use Rattle.std.proofs.lemmas.List.Elements.{All-append, All-contains, All-set, Contains-append_cases}
use Rattle.std.proofs.lemmas.Option.{get_or_from_slice_get, slice_get_within}
use Rattle.ht_word.proofs.ListLaws.{AllPairs-across, Contains-cons_cases, Contains-here, Contains-nil}
use Rattle.ht_word.proofs.WordLaws.{All-from_contains}
use Rattle.ht_pair.specs.Atoms.{IsAtom}
use Rattle.ht_pair.specs.declared.row.Row.{Row}
use Rattle.ht_types.specs.TypedElements.{TypedValue}
use Rattle.ht_local.specs.LocalAnswers.{IsLocal}
use Rattle.ht_conj.specs.declared.linked.LinkedAtom.{LinkedAtom}
use Rattle.ht_conj.specs.LinkedAtoms.{IsLinkedAtom}
use Rattle.ht_conj.specs.Classes.{AreConjugateAtoms, IsClass, all_of}
use Rattle.ht_conj.specs.Matchings.{IsFoundIn, IsCounterpart, NoneConjugate}
use Rattle.ht_conj.specs.Stages.{AreConjugateAt}
use Rattle.ht_conj.proofs.ClassLaws.{Alike, atoms_then, class_less, taken_last}
use Rattle.ht_conj.proofs.EndLaws.{conjugate_atoms_ends}
use Rattle.ht_conj.proofs.OneShape.{AreOfOneShape, first_basis, second_basis}

pub listed_there : {X : Type 0} (xs : List X) (i : ℕ) (x : X) → slice_get xs i ≡ Some x → Contains xs x
listed_there xs i x here = (i, slice_get_within xs i x here, get_or_from_slice_get xs i x x here)

-- ---- one class

-- a list ends with its last element
last_split : {X : Type 0} (xs : List X) (x : X) → slice_get xs (length xs - 1) ≡ Some x → xs ≡ take (length xs - 1) xs ++ x ∷ []
last_split xs x here =
    let i = length xs - 1 in
    let l = slice_get_within xs i x here in
    let none : drop (suc i) xs ≡ [] = drop_all (suc i) xs (omega (arith, l)) in
    split_at xs i x l ∙ ap (λ t. take i xs ++ t ∷ drop (suc i) xs) (get_or_from_slice_get xs i x x here) ∙ ap (λ t. take i xs ++ x ∷ t) none

last_linked : {g : TypedValue} (class : List LinkedAtom) (last : LinkedAtom) → IsClass g class → slice_get class (length class - 1) ≡ Some last
    → IsLinkedAtom g last
last_linked {g} class last is here = All-contains (IsLinkedAtom g) class last is.each (listed_there class (length class - 1) last here)

module _ {f g : TypedValue} (both : AreOfOneShape f g) where
  -- f on an atom is conjugate to g on another, and g on that to g on a third: so is f on the first to g on the third
  conjugate_along : (atom k l : LinkedAtom) → IsLinkedAtom f atom → IsLinkedAtom g k → IsLinkedAtom g l → AreConjugateAtoms f atom g k → Alike g k l
      → AreConjugateAtoms f atom g l
  conjugate_along atom k l one other third c d =
      let q = g.element.rows in
      let Y = g.quasi.basis.words in
      let basis = (second_basis both).basis in
      atoms_then (first_basis both).basis basis basis one.is_atom
      (subst (λ s. IsAtom s q Y k.places) both.same other.is_atom) (subst (λ s. IsAtom s q Y l.places) both.same third.is_atom) c
      (subst (λ s. AreConjugateAt s q Y q Y k.places l.places) both.same d)

  -- an atom that isn't conjugate to the last of a class is conjugate to none of it
  pub none_in : (atom last : LinkedAtom) (class : List LinkedAtom) → IsLinkedAtom f atom → IsClass g class → slice_get class (length class - 1) ≡ Some last
      → ¬ AreConjugateAtoms f atom g last → NoneConjugate f atom g class
  none_in atom last class one is here none = All-from_contains (λ (k : LinkedAtom). ¬ AreConjugateAtoms f atom g k) class (λ k c conjugate.
      let front = take (length class - 1) class in
      let parts = last_split class last here in
      elim (Contains-append_cases front (last ∷ []) k (subst (λ ks. Contains ks k) parts c)) [
        | inl e ↦
            let mine = All-contains (IsLinkedAtom g) class k is.each c in
            let alike = AllPairs-across (Alike g) front (last ∷ []) (subst (AllPairs (Alike g)) parts is.alike) k last e (Contains-here last []) in
            none (conjugate_along atom k last one mine (last_linked class last is here) conjugate alike)
        | inr e ↦ elim (Contains-cons_cases last [] k e) [
          | inl e ↦ none (subst (AreConjugateAtoms f atom g) (sym e) conjugate)
          | inr n ↦ Contains-nil k n
        ]
      ])

  -- as where it has other ends
  pub none_by_ends : (atom last : LinkedAtom) (class : List LinkedAtom) → IsLinkedAtom f atom → IsClass g class → slice_get class (length class - 1) ≡ Some last
      → atom.ends ≢ last.ends → NoneConjugate f atom g class
  none_by_ends atom last class one is here other =
      none_in atom last class one is here (λ conjugate. other (conjugate_atoms_ends both one (last_linked class last is here) conjugate))

-- the last of a class is found
pub found_last : {f g : TypedValue} {atom last : LinkedAtom} {class : List LinkedAtom} {rows : List Row} → slice_get class (length class - 1) ≡ Some last
    → IsLocal f atom.places g last.places rows → IsFoundIn f atom g class (take (length class - 1) class) rows
found_last {last = last} {class} here is = record { taken = last; last = last_split class last here; rows_are = is }

-- ---- all classes

module _ (f : TypedValue) (atom : LinkedAtom) (g : TypedValue) (classes : List (List LinkedAtom)) (i : ℕ) (class : List LinkedAtom) (here : slice_get classes i ≡ Some class) where
  -- the atoms of the classes so far, and of one class more
  all_of-take_more : all_of (take (i + 1) classes) ≡ all_of (take i classes) ++ class
  all_of-take_more =
      ap all_of (take_more classes i class (slice_get_within classes i class here))
      ∙ ap (λ (c : List LinkedAtom). all_of (take i classes ++ c ∷ [])) (get_or_from_slice_get classes i class class here)
      ∙ flat_map-append (λ (c : List LinkedAtom). c) (take i classes) (class ∷ []) ∙ ap (λ t. all_of (take i classes) ++ t) (append-nil class)

  -- one class more that has none
  pub none_more : NoneConjugate f atom g (all_of (take i classes)) → NoneConjugate f atom g class → NoneConjugate f atom g (all_of (take (i + 1) classes))
  none_more before none = subst (NoneConjugate f atom g) (sym all_of-take_more)
      (All-append (λ (k : LinkedAtom). ¬ AreConjugateAtoms f atom g k) (all_of (take i classes)) class before none)

  -- the atom that is found in one class is taken out of all
  pub found_among : {rows : List Row} {new : List LinkedAtom} → All (IsClass g) classes → IsFoundIn f atom g class new rows
      → IsCounterpart f atom g classes (set classes i new) rows
  found_among {new = new} are found = record {
    taken = found.taken;
    out = taken_last classes i class new found.taken here found.last;
    each = All-set (IsClass g) classes i new
        (class_less g new found.taken (subst (IsClass g) found.last (All-contains (IsClass g) classes class are (listed_there classes i class here)))) are;
    rows_are = found.rows_are;
  }
