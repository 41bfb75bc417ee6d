use Rattle.std.proofs.Common.{◌+◌, length, sym, subst}
use Rattle.ht_text.specs.Fronts.{IsLongestFront}
use Rattle.ht_script.specs.Factors.{IsFactorText}
use Rattle.ht_script.proofs.FactorFronts.{longest_free, longest_unnamed, longest_powered}
use Rattle.ht_script.proofs.factor.factor_front.Goals as goal

pub returns-in_default : goal.returns-in_default
returns-in_default c = longest_free c.args.token.now c.name_front.result c.in_default.ensures c.name_front.ensures

pub returns-then-not-is_name : goal.returns-then-not-is_name
returns-then-not-is_name c =
    subst (λ t. IsLongestFront IsFactorText t c.name_front-then-not-is_name.result) (sym c.in-Some.ensures.1)
    (longest_unnamed c.in-Some.name.now c.in-Some.text.now c.name_front-then-not-is_name.result c.in-Some.ensures.0 (λ h. let yes = c.is_name.ensures.1 h in cc) c.name_front-then-not-is_name.ensures)

pub returns : goal.returns
returns c =
    subst (λ t. IsLongestFront IsFactorText t (length c.in-Some.name.now + 1 + c.exponent_front.result)) (sym c.in-Some.ensures.1)
    (longest_powered c.in-Some.name.now c.in-Some.text.now c.exponent_front.result c.in-Some.ensures.0 (c.is_name.ensures.0 c.if-not-is_name.false) c.exponent_front.ensures)
