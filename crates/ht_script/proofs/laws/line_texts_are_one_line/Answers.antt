use Rattle.ht_script.proofs.OneLine.{one_line}
use Rattle.ht_script.proofs.laws.line_texts_are_one_line.Goals as goal

pub returns : goal.returns
returns c = one_line
