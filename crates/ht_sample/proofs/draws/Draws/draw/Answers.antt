use Rattle.std.proofs.Common.{◌/◌, ◌%◌, ◌^◌, ap}
use Rattle.ht_sample.specs.Draws.{drawn}
use Rattle.ht_sample.proofs.draws.Draws.draw.Goals as goal

pub returns-clause-drawn : goal.returns-clause-drawn
unfolding drawn
returns-clause-drawn c = ap (λ s. (s / 2 ^ 33) % c.args.k) c.next-self.ensures
