-- Classes of conjugate atoms: atoms are added to them, and taken out.
use Rattle.std.proofs.Common.{◌≡◌, ◌≢◌, ℕ, suc, ◌<◌, inl, inr, List, [], ◌∷◌, ◌++◌, length, set, take, drop, Some, None, slice_get, refl, sym, ap, ◌∙◌, subst, arith, All, AllPairs, Contains, is_some, true, true≢false, Option}
use Rattle.std.proofs.lemmas.List.{append-nil, append_assoc, length_push, set-get_or, set_split}
use Rattle.std.proofs.lemmas.List.Concat.{flat_map-cons}
use Rattle.std.proofs.lemmas.Grind.{flat_map-append}
use Rattle.std.proofs.lemmas.List.Elements.{All-append, All-contains, All-cons, All-nil, All-set, Contains-append_cases, Contains-append_left, Contains-append_right}
use Rattle.std.proofs.lemmas.Option.{get_or_from_slice_get, same_Some, slice_get_within}
use Rattle.ht_word.specs.declared.shape.Shape.{Shape}
use Rattle.ht_word.specs.declared.word.Word.{Word}
use Rattle.ht_word.proofs.ListLaws.{AllPairs-across, AllPairs-append, AllPairs-cons, AllPairs-head, AllPairs-left, AllPairs-nil, Contains-cons_cases, Contains-here, Contains-nil}
use Rattle.ht_word.proofs.WordLaws.{All-from_contains}
use Rattle.ht_pair.specs.Atoms.{IsAtom}
use Rattle.ht_pair.specs.Pairs.{turned}
use Rattle.ht_pair.specs.declared.row.Row.{Row}
use Rattle.ht_types.specs.TypedElements.{TypedValue, IsTyped}
use Rattle.ht_types.proofs.TurnLaws.{HasSemiNormal}
use Rattle.ht_counterparts.proofs.PieceLaws.{atom_piece}
use Rattle.ht_counterparts.proofs.PieceRelations.{conjugates_back, conjugates_then}
use Rattle.ht_local.specs.LocalAnswers.{TellsLocal}
use Rattle.ht_conj.specs.declared.linked.LinkedAtom.{LinkedAtom}
use Rattle.ht_conj.specs.LinkedAtoms.{IsLinkedAtom}
use Rattle.ht_conj.specs.Classes.{AreClasses, AreConjugateAtoms, AreInClass, IsClass, all_of}
use Rattle.ht_conj.specs.ClassChanges.{IsAddedTo}
use Rattle.ht_conj.specs.Matchings.{IsTakenOut}
use Rattle.ht_conj.specs.Stages.{AreConjugateAt}
use Rattle.ht_conj.proofs.LinkedAtomLaws.{typed_basis}
use Rattle.ht_conj.proofs.TakenOutLaws.{put_pairs, taken_cases, taken_here, taken_length, taken_more}

-- ---- conjugate atoms

-- f on k is conjugate to g on l: so is g on l to f on k
pub atoms_back : {shape : Shape} {f g : List Row} {X Y : List Word} {k l : List ℕ} → HasSemiNormal shape f X → HasSemiNormal shape g Y → IsAtom shape f X k
    → IsAtom shape g Y l → AreConjugateAt shape f X g Y k l → AreConjugateAt shape g Y f X l k
atoms_back first second atom other c = (turned c.0, conjugates_back (atom_piece first atom) (atom_piece second other) c.1)

-- and g on l is to e on m: so is f on k to e on m
pub atoms_then : {shape : Shape} {f g e : List Row} {X Y Z : List Word} {k l m : List ℕ} → HasSemiNormal shape f X → HasSemiNormal shape g Y
    → HasSemiNormal shape e Z → IsAtom shape f X k → IsAtom shape g Y l → IsAtom shape e Z m
    → AreConjugateAt shape f X g Y k l → AreConjugateAt shape g Y e Z l m → AreConjugateAt shape f X e Z k m
atoms_then first second third atom other another c d = conjugates_then (atom_piece first atom) (atom_piece second other) (atom_piece third another) c.1 d.1

-- ---- one class

abbrev pub Alike : TypedValue → LinkedAtom → LinkedAtom → Type 0
Alike t k l = AreConjugateAtoms t k t l

-- what a list begins with
headed : {X : Type 0} (xs : List X) (x : X) → slice_get xs 0 ≡ Some x → (rest : List X) × (xs ≡ x ∷ rest)
headed [] x here = absurd (let e : None ≡ Some x = here in cc)
headed (y ∷ xs) x here = (xs, ap (λ t. t ∷ xs) (same_Some y x here))

-- where rows are told, they conjugate
pub told_conjugate : (f g : TypedValue) (k l : LinkedAtom) (found : Option (List Row)) → TellsLocal f k.places g l.places found → is_some found ≡ true
    → AreConjugateAtoms f k g l
told_conjugate f g k l None told some = absurd (true≢false (sym some))
told_conjugate f g k l (Some rows) told some = (rows, told.conjugates)

module _ (t : TypedValue) where
  pub first_linked : (class : List LinkedAtom) (first : LinkedAtom) → slice_get class 0 ≡ Some first → IsClass t class → IsLinkedAtom t first
  first_linked class first here is = All-contains (IsLinkedAtom t) class first is.each (0, slice_get_within class 0 first here, get_or_from_slice_get class 0 first first here)

  -- an atom to which the first of a class is conjugate is in the class
  pub in_class : IsTyped t.element t.quasi t.kinds → (class : List LinkedAtom) (first atom : LinkedAtom) → slice_get class 0 ≡ Some first → IsClass t class
      → IsLinkedAtom t atom → Alike t first atom → AreInClass t atom class
  in_class typed class first atom here is one c = All-from_contains (λ (k : LinkedAtom). Alike t k atom) class (λ k e.
      let rest = headed class first here in
      elim (Contains-cons_cases first rest.0 k (subst (λ ks. Contains ks k) rest.1 e)) [
        | inl same ↦ subst (λ (k : LinkedAtom). Alike t k atom) same c
        | inr i ↦
            let h = typed_basis t typed in
            let mine = (All-contains (IsLinkedAtom t) class k is.each e).is_atom in
            let its = (first_linked class first here is).is_atom in
            let alike = subst (AllPairs (Alike t)) rest.1 is.alike in
            atoms_then h h h mine its one.is_atom (atoms_back h h its mine (All-contains (Alike t first) rest.0 k (AllPairs-head (Alike t) first rest.0 alike) i)) c
      ])

  -- with one atom more that is in it it is a class
  pub class_more : (class : List LinkedAtom) (atom : LinkedAtom) → IsClass t class → IsLinkedAtom t atom → AreInClass t atom class → IsClass t (class ++ atom ∷ [])
  class_more class atom is one all = record {
    each = All-append (IsLinkedAtom t) class (atom ∷ []) is.each (All-cons (IsLinkedAtom t) atom [] one (All-nil (IsLinkedAtom t)));
    alike = AllPairs-append (Alike t) class (atom ∷ []) is.alike (AllPairs-cons (Alike t) atom [] (All-nil (Alike t atom)) (AllPairs-nil (Alike t)))
        (λ k l c e. elim (Contains-cons_cases atom [] l e) [ inl same ↦ subst (Alike t k) same (All-contains (λ (k : LinkedAtom). Alike t k atom) class k all c) | inr n ↦ absurd (Contains-nil l n) ]);
  }

  -- without its last atom too
  pub class_less : (class : List LinkedAtom) (atom : LinkedAtom) → IsClass t (class ++ atom ∷ []) → IsClass t class
  class_less class atom is = record {
    each = All-from_contains (IsLinkedAtom t) class (λ k c. All-contains (IsLinkedAtom t) (class ++ atom ∷ []) k is.each (Contains-append_left class (atom ∷ []) k c));
    alike = AllPairs-left (Alike t) class (atom ∷ []) is.alike;
  }

-- ---- all classes

-- the atoms of all classes, where one class is written
all_of-set : (classes : List (List LinkedAtom)) (i : ℕ) (class : List LinkedAtom) → i < length classes
    → all_of (set classes i class) ≡ all_of (take i classes) ++ (class ++ all_of (drop (suc i) classes))
all_of-set classes i class l =
    ap all_of (set_split classes i class l) ∙ flat_map-append (λ (c : List LinkedAtom). c) (take i classes) (class ∷ drop (suc i) classes)
    ∙ ap (λ t. all_of (take i classes) ++ t) (flat_map-cons (λ (c : List LinkedAtom). c) class (drop (suc i) classes))

-- the class that stands there may be written
set_same : {X : Type 0} (xs : List X) (i : ℕ) (x : X) → slice_get xs i ≡ Some x → set xs i x ≡ xs
set_same xs i x here = ap (set xs i) (sym (get_or_from_slice_get xs i x x here)) ∙ set-get_or xs i x

-- the last atom of a class is taken out
last_out : (classes : List (List LinkedAtom)) (i : ℕ) (class : List LinkedAtom) (atom : LinkedAtom) → i < length classes
    → IsTakenOut atom (all_of (set classes i (class ++ atom ∷ []))) (all_of (set classes i class))
last_out classes i class atom l =
    let before = all_of (take i classes) in
    let after = all_of (drop (suc i) classes) in
    record {
      before = before ++ class;
      after = after;
      old_is = all_of-set classes i (class ++ atom ∷ []) l ∙ ap (λ t. before ++ t) (append_assoc class (atom ∷ []) after) ∙ sym (append_assoc before class (atom ∷ after));
      new_is = all_of-set classes i class l ∙ sym (append_assoc before class after);
    }

pub taken_last : (classes : List (List LinkedAtom)) (i : ℕ) (class rest : List LinkedAtom) (atom : LinkedAtom) → slice_get classes i ≡ Some class
    → class ≡ rest ++ atom ∷ [] → IsTakenOut atom (all_of classes) (all_of (set classes i rest))
taken_last classes i class rest atom here is =
    subst (λ (cs : List (List LinkedAtom)). IsTakenOut atom (all_of cs) (all_of (set classes i rest))) (ap (set classes i) (sym is) ∙ set_same classes i class here) (last_out classes i rest atom (slice_get_within classes i class here))

module _ (t : TypedValue) where
  -- the atom is added to a class
  pub added_in : (classes : List (List LinkedAtom)) (i : ℕ) (class : List LinkedAtom) (atom : LinkedAtom) → All (IsClass t) classes
      → slice_get classes i ≡ Some class → IsLinkedAtom t atom → AreInClass t atom class
      → IsAddedTo t atom classes (set classes i (class ++ atom ∷ []))
  added_in classes i class atom are here is all = record {
    each = All-set (IsClass t) classes i (class ++ atom ∷ []) (class_more t class atom (All-contains (IsClass t) classes class are (i, slice_get_within classes i class here, get_or_from_slice_get classes i class class here)) is all) are;
    more = subst (λ (cs : List (List LinkedAtom)). IsTakenOut atom (all_of (set classes i (class ++ atom ∷ []))) (all_of cs)) (set_same classes i class here) (last_out classes i class atom (slice_get_within classes i class here));
  }

  -- or is one by itself
  pub added_alone : (classes : List (List LinkedAtom)) (class : List LinkedAtom) (atom : LinkedAtom) → class ≡ atom ∷ [] → All (IsClass t) classes
      → IsLinkedAtom t atom → IsAddedTo t atom classes (classes ++ class ∷ [])
  added_alone classes class atom alone are is = subst (λ (c : List LinkedAtom). IsAddedTo t atom classes (classes ++ c ∷ [])) (sym alone) (record {
    each = All-append (IsClass t) classes ((atom ∷ []) ∷ []) are (All-cons (IsClass t) (atom ∷ []) []
        (record { each = All-cons (IsLinkedAtom t) atom [] is (All-nil (IsLinkedAtom t)); alike = AllPairs-cons (Alike t) atom [] (All-nil (Alike t atom)) (AllPairs-nil (Alike t)) }) (All-nil (IsClass t)));
    more = record { before = all_of classes; after = []; old_is = flat_map-append (λ (c : List LinkedAtom). c) classes ((atom ∷ []) ∷ []); new_is = sym (append-nil (all_of classes)) };
  })

-- ---- the classes of some atoms

pub classes_none : (t : TypedValue) → AreClasses t [] []
classes_none t = record { each = All-nil (IsClass t); same = λ k. ((λ c. c), (λ c. c)); many = refl; different = λ d. d }

pub classes_more : {t : TypedValue} {atoms : List LinkedAtom} {old new : List (List LinkedAtom)} {atom : LinkedAtom} → AreClasses t atoms old
    → IsAddedTo t atom old new → AreClasses t (atoms ++ atom ∷ []) new
classes_more {t} {atoms} {old} {new} {atom} c a = record {
  each = a.each;
  same = λ k. (
    λ e. elim (Contains-append_cases atoms (atom ∷ []) k e) [
      | inl i ↦ taken_more a.more k ((c.same k).0 i)
      | inr i ↦ elim (Contains-cons_cases atom [] k i) [ inl one ↦ subst (Contains (all_of new)) one (taken_here a.more) | inr n ↦ absurd (Contains-nil k n) ]
    ],
    λ e. elim (taken_cases a.more k e) [
      | inl one ↦ Contains-append_right atoms (atom ∷ []) k (subst (Contains (atom ∷ [])) one (Contains-here atom []))
      | inr i ↦ Contains-append_left atoms (atom ∷ []) k ((c.same k).1 i)
    ],
  );
  many = omega (arith, taken_length a.more, c.many, length_push atoms atom);
  different = λ d. put_pairs a.more (λ (k : LinkedAtom) (l : LinkedAtom). k.places ≢ l.places) (λ k l n e. n (sym e)) (c.different (AllPairs-left (λ (k : LinkedAtom) (l : LinkedAtom). k.places ≢ l.places) atoms (atom ∷ []) d))
      (λ k e same. AllPairs-across (λ (k : LinkedAtom) (l : LinkedAtom). k.places ≢ l.places) atoms (atom ∷ []) d k atom ((c.same k).1 e) (Contains-here atom []) (sym same));
}
