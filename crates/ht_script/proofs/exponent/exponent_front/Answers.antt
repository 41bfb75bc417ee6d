use Rattle.ht_script.proofs.IntegerTexts.{longest_minus, longest_plus}
use Rattle.ht_script.proofs.exponent.exponent_front.Goals as goal

pub returns-in_default : goal.returns-in_default
returns-in_default c = longest_plus c.args.text.now c.integer_front.result c.in_default.ensures c.integer_front.ensures

pub returns : goal.returns
returns c = longest_minus c.args.text.now c.in-Some.digits.now c.integer_front-2.result c.in-Some.ensures c.integer_front-2.ensures
