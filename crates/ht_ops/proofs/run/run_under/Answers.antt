use Rattle.std.proofs.lemmas.List.{take_rest}
use Rattle.ht_ops.proofs.RunLaws.{run_at}
use Rattle.ht_ops.proofs.run.run_under.Goals as goal

pub returns : goal.returns
returns c =
    run_at c.args.rows.now _ c.args.word.now c.first_under.result c.count_under.result (take_rest c.args.rows.now c.first_under.result) c.requires.prefix_free c.requires.ascending
    c.first_under.ensures.bound c.first_under.ensures.point c.count_under.ensures.bound c.count_under.ensures.under c.count_under.ensures.end
