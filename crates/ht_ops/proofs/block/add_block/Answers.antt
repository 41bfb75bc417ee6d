use Rattle.std.proofs.lemmas.Result.{on_ok_weaker}
use Rattle.ht_ops.proofs.BlockLaws.{moved_added, run_added}
use Rattle.ht_ops.proofs.block.add_block.Goals as goal

pub returns-in_ok-push-in-Some : goal.returns-in_ok-push-in-Some
returns-in_ok-push-in-Some c =
    moved_added c.args.others.now c.args.row.now c.index-others-place.result c.in_ok-moved-in-Some.field-0 c.in-Some.place c.args.rows.now c.push.new.self c.index-others-place.is c.in-Some.ensures
    c.in_ok-moved-in-Some.ensures c.in_ok-push-in-Some.ensures.ok

pub returns-in-None : goal.returns-in-None
returns-in-None c = on_ok_weaker c.add_run.result (run_added c.args.others.now c.args.row.now c.run_under.result.now c.args.rows.now c.add_run.new.rows c.run_under.ensures c.in-None.ensures) c.add_run.ensures
