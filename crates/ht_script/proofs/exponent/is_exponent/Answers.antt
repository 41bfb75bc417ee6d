use Rattle.ht_script.specs.Exponents.{bare, signed}
use Rattle.ht_script.proofs.IntegerTexts.{exponent_plus, exponent_minus}
use Rattle.ht_script.proofs.exponent.is_exponent.Goals as goal

pub returns-in_default : goal.returns-in_default
returns-in_default c = ((λ yes. bare (c.is_integer.ensures.0 yes)), (λ x. c.is_integer.ensures.1 (exponent_plus c.args.text.now c.in_default.ensures x)))

pub returns : goal.returns
returns c = (
  (λ yes. signed c.in-Some.digits.now (c.is_integer-2.ensures.0 yes) c.in-Some.ensures),
  (λ x. c.is_integer-2.ensures.1 (exponent_minus c.args.text.now c.in-Some.digits.now c.in-Some.ensures x)),
)
