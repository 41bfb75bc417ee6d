use Rattle.ht_script.proofs.LineLaws.{longest_comment}
use Rattle.ht_script.proofs.front.line_front.Goals as goal

pub returns-in-Some : goal.returns-in-Some
returns-in-Some c = longest_comment c.args.line.now c.in-Some.text.now c.count_before.result c.in-Some.ensures c.count_before.ensures
