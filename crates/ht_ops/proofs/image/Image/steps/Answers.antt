use Rattle.std.proofs.Common.{ℤ, subst}
use Rattle.std.proofs.lemmas.Int.{to_z-of_z}
use Rattle.std.specs.Int.{w128}
use Rattle.ht_pair.specs.Products.{IsPower}
use Rattle.ht_ops.proofs.Walking.{leaped}
use Rattle.ht_ops.proofs.image.Image.steps.Goals as goal

pub returns-in-Ok : goal.returns-in-Ok
returns-in-Ok c =
    leaped c.args.f.now.shape c.in-Ok.whole.shape c.args.self.now c.args.f.now.rows c.in-Ok.whole.rows c.args.k c.step.result c.in-Ok.ensures.power.0 c.keeps_limits.ensures.pair c.requires
    (subst (λ (k : ℤ). IsPower c.args.f.now.shape c.args.f.now.rows k c.in-Ok.whole.rows) (to_z-of_z w128 c.args.k c.ranges.k) c.in-Ok.ensures.power.1) c.step.ensures
