use Rattle.ht_text.proofs.FileStops.{stop_at_head, stop_at_group, stop_at_count}
use Rattle.ht_text.proofs.lines.read_head.Goals as goal

pub returns-in_default-clause-fault : goal.returns-in_default-clause-fault
returns-in_default-clause-fault c = stop_at_head c.args.bytes.now c.in_default.ensures

pub returns-in_default-group_front-clause-fault : goal.returns-in_default-group_front-clause-fault
returns-in_default-group_front-clause-fault c = stop_at_group c.args.bytes.now c.in-Some.text.now c.in-Some.ensures c.in_default-group_front.ensures

pub returns-in_default-count_front-clause-fault : goal.returns-in_default-count_front-clause-fault
returns-in_default-count_front-clause-fault c =
    stop_at_count c.args.bytes.now c.in-Some.text.now c.in-Some-group_front.text.now c.in-Some-group_front.n c.in-Some-group_front.r c.in-Some.ensures c.in-Some-group_front.ensures c.in_default-count_front.ensures
