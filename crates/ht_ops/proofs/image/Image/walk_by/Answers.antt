use Rattle.std.proofs.Common.{sym, subst}
use Rattle.ht_ops.specs.Walks.{IsWalked}
use Rattle.ht_ops.proofs.Walking.{none_walked, one_more_walked}
use Rattle.ht_ops.proofs.image.Image.walk_by.Goals as goal

pub loop-step-init : goal.loop-step-init
loop-step-init c =
    subst (IsWalked c.args.g.now.shape c.args.self.now c.args.g.now.rows 0) (sym c.in_ok-image.ensures) (none_walked c.args.g.now.shape c.args.self.now c.args.g.now.rows c.requires)

pub loop-step-preserved : goal.loop-step-preserved
loop-step-preserved c =
    one_more_walked c.args.g.now.shape c.args.self.now c.loop-step.image c.in_ok-image-2.image c.args.g.now.rows c.loop-step._step c.requires c.loop-step.invariant c.in_ok-image-2.ensures
