use Rattle.std.proofs.Common.{◌≡◌, suc}
use Rattle.ht_pair.specs.Bases.{roots}
use Rattle.ht_sample.specs.Growth.{IsGrown}
use Rattle.ht_sample.proofs.GrowthLaws.{IsWholeBasis}
use Rattle.ht_sample.proofs.growth.grown.Given as goal

abbrev pub invariant-loop : goal.invariant-loop
invariant-loop l = record {
  shape : l.basis.shape ≡ l.fn.shape;
  grown : IsGrown l.fn.shape l.counter l.fn.draws.state (roots l.fn.shape) l.draws.state l.basis.words;
  whole : IsWholeBasis l.fn.shape (suc l.counter) l.basis.words;
}
