use Rattle.std.proofs.Common.{arith}
use Rattle.ht_local.proofs.SlotLaws.{set_keeps, slot_set}
use Rattle.ht_local.proofs.values.fill.Goals as goal

pub has_list-requires : goal.has_list-requires
has_list-requires c = omega (arith, c.requires.lists.as_many)

pub put-requires : goal.put-requires
put-requires c = omega (arith, c.requires.lists.as_many)

pub returns-clause-lists : goal.returns-clause-lists
returns-clause-lists c =
    slot_set c.args.lists.now c.put.new.lists c.args.at c.in_ok-list.list c.requires.lists c.in_ok-list.ensures c.put.ensures

pub returns-clause-keeps : goal.returns-clause-keeps
returns-clause-keeps c = set_keeps c.args.lists.now c.put.new.lists c.args.at c.in_ok-list.list (c.has_list.ensures c.if-has_list.false) c.put.ensures
