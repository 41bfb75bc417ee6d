-- Classes of atoms of one element of which any two are conjugate: t is an element with its quasinormal basis.
--
--     AreConjugateAtoms f k g l    some rows conjugate f on the atom k into g on the atom l
--     IsClass t class              atoms with their links, of which any two are conjugate
--     AreInClass t atom class      each atom of the class is conjugate to the atom
--     TellsClass t atom classes    the index of a class whose atoms are conjugate to the atom; nothing is told by none
--     all_of classes               the atoms of all classes
--     AreDifferent atoms           no two have the same places
--     AreClasses t atoms classes   classes that have just the atoms, in any order, and each once if they are different
use Rattle.std.specs.Prelude.{ℕ, ◌≡◌, ◌≢◌, ◌↔◌, List, All, AllPairs, Contains, flat_map, length, Option, None, Some, slice_get, ⊤}
use Rattle.ht_pair.specs.declared.row.Row.{Row}
use Rattle.ht_types.specs.TypedElements.{TypedValue}
use Rattle.ht_local.specs.LocalConjugators.{ConjugatesPlaces}
use Rattle.ht_conj.specs.LinkedAtoms.{IsLinkedAtom}
use Rattle.ht_conj.specs.declared.linked.LinkedAtom.{LinkedAtom}

abbrev pub AreConjugateAtoms : TypedValue → LinkedAtom → TypedValue → LinkedAtom → Type 0
AreConjugateAtoms f k g l = (rows : List Row) × ConjugatesPlaces f k.places g l.places rows

pub record IsClass (t : TypedValue) (class : List LinkedAtom) : Type 0 where
  pub each : All (IsLinkedAtom t) class
  pub alike : AllPairs (λ (k : LinkedAtom) (l : LinkedAtom). AreConjugateAtoms t k t l) class

abbrev pub AreInClass : TypedValue → LinkedAtom → List LinkedAtom → Type 0
AreInClass t atom class = All (λ (k : LinkedAtom). AreConjugateAtoms t k t atom) class

abbrev pub TellsClass : TypedValue → LinkedAtom → List (List LinkedAtom) → Option ℕ → Type 0
TellsClass t atom classes None = ⊤
TellsClass t atom classes (Some index) = (class : List LinkedAtom) × (slice_get classes index ≡ Some class) × AreInClass t atom class

abbrev pub all_of : List (List LinkedAtom) → List LinkedAtom
all_of classes = flat_map (λ (class : List LinkedAtom). class) classes

abbrev pub AreDifferent : List LinkedAtom → Type 0
AreDifferent atoms = AllPairs (λ (k : LinkedAtom) (l : LinkedAtom). k.places ≢ l.places) atoms

pub record AreClasses (t : TypedValue) (atoms : List LinkedAtom) (classes : List (List LinkedAtom)) : Type 0 where
  pub each : All (IsClass t) classes
  pub same : (atom : LinkedAtom) → Contains atoms atom ↔ Contains (all_of classes) atom
  pub many : length (all_of classes) ≡ length atoms
  pub different : AreDifferent atoms → AreDifferent (all_of classes)
