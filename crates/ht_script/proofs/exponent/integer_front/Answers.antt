use Rattle.std.proofs.Common.{sym, subst}
use Rattle.ht_text.specs.Fronts.{IsLongestFront}
use Rattle.ht_script.specs.Exponents.{IsIntegerText}
use Rattle.ht_script.proofs.IntegerTexts.{longest_zero, longest_digits, not_zero_first}
use Rattle.ht_script.proofs.exponent.integer_front.Goals as goal

pub returns-in-Some : goal.returns-in-Some
returns-in-Some c = subst (λ t. IsLongestFront IsIntegerText t 1) (sym c.in-Some.ensures) (longest_zero c.in-Some.field-0.now)

pub returns : goal.returns
returns c = longest_digits c.args.text.now c.count_digits.result (not_zero_first c.args.text.now (λ rest e. c.in_default.ensures rest e)) c.count_digits.ensures
