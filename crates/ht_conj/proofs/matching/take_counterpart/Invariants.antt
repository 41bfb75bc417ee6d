use Rattle.std.proofs.Common.{◌≡◌, take}
use Rattle.ht_conj.specs.Classes.{all_of}
use Rattle.ht_conj.specs.Matchings.{NoneConjugate}
use Rattle.ht_conj.proofs.matching.take_counterpart.Given as goal

abbrev pub invariant-loop-index : goal.invariant-loop-index
invariant-loop-index g l = (l.classes ≡ l.fn.classes) × NoneConjugate l.f l.atom l.g (all_of (take l.index l.fn.classes))
