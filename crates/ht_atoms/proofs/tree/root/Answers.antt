use Rattle.std.proofs.Common.{refl}
use Rattle.ht_atoms.proofs.TreeLaws.{way_begins, way_goes_on, way_shorter, way_ends}
use Rattle.ht_atoms.proofs.tree.root.Goals as goal

pub loop-parents-init : goal.loop-parents-init
loop-parents-init c = way_begins c.args.parents.now c.args.start c.requires.forest c.requires.start

pub loop-parents-preserved : goal.loop-parents-preserved
loop-parents-preserved c = way_goes_on c.args.parents.now c.loop-parents.parents _ c.args.start c.loop-parents.place c.loop-parents.invariant refl

pub loop-parents-smaller : goal.loop-parents-smaller
loop-parents-smaller c = way_shorter c.args.parents.now c.loop-parents.parents c.args.start c.loop-parents.place c.loop-parents.invariant c.loop-parents-test.true

pub returns-clause-root : goal.returns-clause-root
returns-clause-root c = way_ends c.args.parents.now c.loop-parents.parents c.args.start c.loop-parents.place c.loop-parents.invariant c.loop-parents-test.false
