use Rattle.ht_atoms.proofs.JoinLaws.{cycle_tested, other_tested}
use Rattle.ht_atoms.proofs.join.is_infinite.Goals as goal

pub returns-in-Cycle : goal.returns-in-Cycle
returns-in-Cycle c = cycle_tested c.args.t.now.element c.args.t.now.quasi c.args.t.now.kinds c.args.place c.kind.result.now c.in-Cycle.m c.kind.ensures.typed c.kind.ensures.kind c.in-Cycle.is

pub returns-in_default : goal.returns-in_default
returns-in_default c = other_tested c.args.t.now.element c.args.t.now.quasi c.args.t.now.kinds c.args.place c.kind.result.now c.kind.ensures.typed c.kind.ensures.kind c.in_default.not-Cycle
