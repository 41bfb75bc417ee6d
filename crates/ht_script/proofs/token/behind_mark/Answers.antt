use Rattle.std.proofs.lemmas.List.{take_rest}
use Rattle.ht_script.proofs.LineLaws.{mark_test}
use Rattle.ht_script.proofs.token.behind_mark.Goals as goal

pub returns : goal.returns
returns c = mark_test c.args.bytes.now _ c.count_spaces.result c.after.result c.count_spaces.ensures (take_rest c.args.bytes.now c.count_spaces.result) c.after.ensures
