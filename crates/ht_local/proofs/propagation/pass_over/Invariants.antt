use Rattle.std.proofs.Common.{Some, take}
use Rattle.ht_local.specs.Propagations.{TellsPass}
use Rattle.ht_local.proofs.PropagationLaws.{AreCarried}
use Rattle.ht_local.proofs.propagation.pass_over.Given as goal

abbrev pub invariant-crossings : goal.invariant-crossings
invariant-crossings o l = record {
  carried : AreCarried l.f l.g l.k l.fn.known.items l.known.items (Some l.found);
  told : TellsPass (take l.crossing-index l.crossings) l.fn.known.items l.known.items (Some l.found);
}
