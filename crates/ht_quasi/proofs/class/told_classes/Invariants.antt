use Rattle.std.proofs.Common.{◌≡◌, length}
use Rattle.ht_quasi.specs.Marks.{AreClassesBy}
use Rattle.ht_quasi.proofs.class.told_classes.Given as goal

abbrev pub invariant-loop-place : goal.invariant-loop-place
invariant-loop-place l = record { as_many : length l.classes ≡ l.place; told : AreClassesBy l.stays l.comes l.classes }
