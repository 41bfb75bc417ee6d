-- Atoms of f matched with atoms of g: f and g are elements with their quasinormal bases.
--
--     AreMatched R xs F            each of xs has one of the things with the property F to which R relates it, and each of these is had once
--     IsTakenOut x old new         x stands at some place of old, and the others are new
--     NoneConjugate f atom g atoms f on the atom is conjugate to g on none of the atoms
--     TellsIn f atom g old new found   the last of the old atoms, which isn't one of the new, with rows that conjugate; or none of them is conjugate
--     TellsCounterpart f atom g old new found   the same of the atoms of all classes
use Rattle.std.specs.Prelude.{◌≡◌, List, [], ◌∷◌, ◌++◌, All, Option, None, Some}
use Rattle.ht_pair.specs.declared.row.Row.{Row}
use Rattle.ht_types.specs.TypedElements.{TypedValue}
use Rattle.ht_local.specs.LocalAnswers.{IsLocal}
use Rattle.ht_conj.specs.Classes.{AreConjugateAtoms, IsClass, all_of}
use Rattle.ht_conj.specs.declared.linked.LinkedAtom.{LinkedAtom}

abbrev pub AreMatched : {X Y : Type 0} → (X → Y → Type 0) → List X → (Y → Type 0) → Type 0
AreMatched {X} {Y} R [] F = (y : Y) → ¬ F y
AreMatched {X} {Y} R (x ∷ xs) F = (y : Y) × F y × R x y × AreMatched R xs (λ z. F z × ¬ (z ≡ y))

pub record IsTakenOut {X : Type 0} (x : X) (old new : List X) : Type 0 where
  pub before : List X
  pub after : List X
  pub old_is : old ≡ before ++ x ∷ after
  pub new_is : new ≡ before ++ after

abbrev pub NoneConjugate : TypedValue → LinkedAtom → TypedValue → List LinkedAtom → Type 0
NoneConjugate f atom g atoms = All (λ (k : LinkedAtom). ¬ AreConjugateAtoms f atom g k) atoms

pub record IsFoundIn (f : TypedValue) (atom : LinkedAtom) (g : TypedValue) (old new : List LinkedAtom) (rows : List Row) : Type 0 where
  pub taken : LinkedAtom
  pub last : old ≡ new ++ taken ∷ []
  pub rows_are : IsLocal f atom.places g taken.places rows

abbrev pub TellsIn : TypedValue → LinkedAtom → TypedValue → List LinkedAtom → List LinkedAtom → Option (List Row) → Type 0
TellsIn f atom g old new None = (new ≡ old) × NoneConjugate f atom g old
TellsIn f atom g old new (Some rows) = IsFoundIn f atom g old new rows

pub record IsCounterpart (f : TypedValue) (atom : LinkedAtom) (g : TypedValue) (old new : List (List LinkedAtom)) (rows : List Row) : Type 0 where
  pub taken : LinkedAtom
  pub out : IsTakenOut taken (all_of old) (all_of new)
  pub each : All (IsClass g) new
  pub rows_are : IsLocal f atom.places g taken.places rows

abbrev pub TellsCounterpart : TypedValue → LinkedAtom → TypedValue → List (List LinkedAtom) → List (List LinkedAtom) → Option (List Row) → Type 0
TellsCounterpart f atom g old new None = NoneConjugate f atom g (all_of old)
TellsCounterpart f atom g old new (Some rows) = IsCounterpart f atom g old new rows
