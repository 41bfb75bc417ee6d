use Rattle.std.proofs.Common.{◌≡◌, ◌%◌, arith}
use Rattle.ht_sample.specs.Groups.{group_rows}
use Rattle.ht_sample.proofs.groups.add_group.Goals as goal

pub returns-in-0 : goal.returns-in-0
unfolding group_rows
returns-in-0 c = rw c.in-0.is c.add_turn.ensures

pub returns-in-1 : goal.returns-in-1
unfolding group_rows
returns-in-1 c = rw c.in-1.is c.add_exchanges.ensures

pub returns-in-2 : goal.returns-in-2
unfolding group_rows
returns-in-2 c = rw c.in-2.is c.add_drifts.ensures

pub returns-in_default : goal.returns-in_default
unfolding group_rows
returns-in_default c = let three : c.args.number % 4 ≡ 3 = omega arith in rw three c.add_wheels.ensures
