use Rattle.std.proofs.Common.{refl, arith}
use Rattle.ht_atoms.proofs.TreeLaws.{none_settled, one_more_settled}
use Rattle.ht_atoms.proofs.tree.settle.Goals as goal

pub loop-place-init : goal.loop-place-init
loop-place-init c = none_settled c.args.parents.now c.requires

pub loop-place-preserved : goal.loop-place-preserved
loop-place-preserved c = one_more_settled c.args.parents.now c.loop-place.parents _ c.loop-place.place c.loop-place.invariant (omega (arith, c.loop-place.auto.parents, c.loop-place-test.true)) refl
