-- How classes of atoms change.
--
--     IsAddedTo t atom old new   classes that have one atom more
use Rattle.std.specs.Prelude.{List, All}
use Rattle.ht_types.specs.TypedElements.{TypedValue}
use Rattle.ht_conj.specs.Classes.{IsClass, all_of}
use Rattle.ht_conj.specs.Matchings.{IsTakenOut}
use Rattle.ht_conj.specs.declared.linked.LinkedAtom.{LinkedAtom}

pub record IsAddedTo (t : TypedValue) (atom : LinkedAtom) (old new : List (List LinkedAtom)) : Type 0 where
  pub each : All (IsClass t) new
  pub more : IsTakenOut atom (all_of new) (all_of old)
