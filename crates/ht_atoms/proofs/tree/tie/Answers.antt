use Rattle.std.proofs.Common.{refl}
use Rattle.ht_atoms.proofs.TreeLaws.{tied_first, tied_second}
use Rattle.ht_atoms.proofs.tree.tie.Goals as goal

pub returns-then-one-other : goal.returns-then-one-other
returns-then-one-other c joins forest =
    tied_first joins c.args.join c.args.parents.now c.root-one.new.parents c.root-other.new.parents _ c.root-one.result c.root-other.result forest
    (record { to_one = c.root-one.ensures.shortened; one_root = c.root-one.ensures.root; to_other = c.root-other.ensures.shortened; other_root = c.root-other.ensures.root }) c.if-one-other.true refl

pub returns-else-one-other : goal.returns-else-one-other
returns-else-one-other c joins forest =
    tied_second joins c.args.join c.args.parents.now c.root-one.new.parents c.root-other.new.parents _ c.root-one.result c.root-other.result forest
    (record { to_one = c.root-one.ensures.shortened; one_root = c.root-one.ensures.root; to_other = c.root-other.ensures.shortened; other_root = c.root-other.ensures.root }) c.if-one-other.false refl
