use Rattle.std.proofs.Common.{subst, sym}
use Rattle.ht_script.specs.Factors.{IsFactor, IsFactorText}
use Rattle.ht_script.proofs.FactorTexts.{factor_alone, powered_text, name_of_free, parts_of, exponent_of_parts}
use Rattle.ht_script.proofs.factor.is_factor.Goals as goal

pub returns-in_default : goal.returns-in_default
returns-in_default c = (
  (λ yes. (_, factor_alone c.args.token.now (c.is_name.ensures.0 yes))),
  (λ h. c.is_name.ensures.1 (name_of_free h.0 c.args.token.now c.in_default.ensures h.1)),
)

pub returns-then-is_name : goal.returns-then-is_name
returns-then-is_name c = (
  (λ yes. subst IsFactorText (sym c.in-Some.ensures.1) (powered_text c.in-Some.name.now c.in-Some.text.now (c.is_name-2.ensures.0 c.if-is_name.true) (c.is_exponent.ensures.0 yes))),
  (λ h. c.is_exponent.ensures.1 (exponent_of_parts h.0 c.in-Some.name.now c.in-Some.text.now (parts_of h.0 c.in-Some.name.now c.in-Some.text.now c.in-Some.ensures.0 (subst (IsFactor h.0) c.in-Some.ensures.1 h.1)))),
)

pub returns-else-is_name : goal.returns-else-is_name
returns-else-is_name c = (
  (λ yes. absurd cc),
  (λ h. c.is_name-2.ensures.1 (parts_of h.0 c.in-Some.name.now c.in-Some.text.now c.in-Some.ensures.0 (subst (IsFactor h.0) c.in-Some.ensures.1 h.1)).is_name),
)
