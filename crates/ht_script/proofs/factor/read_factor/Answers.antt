use Rattle.std.proofs.Common.{◌∷◌, ◌++◌, refl, ap, ◌∙◌, subst}
use Rattle.ht_script.specs.Names.{IsName}
use Rattle.ht_script.specs.Factors.{IsFactor}
use Rattle.ht_script.proofs.FactorTexts.{factor_powered, name_of_free, parts_of, exponent_of_parts}
use Rattle.ht_script.proofs.factor.read_factor.Goals as goal

pub returns-in_default-2 : goal.returns-in_default-2
returns-in_default-2 c = λ f h. (rw c.in_default-2.is at c.in_ok-name.ensures) c.args.token.now (name_of_free f c.args.token.now c.in_default.ensures h, refl)

pub returns-in_default-read_exponent : goal.returns-in_default-read_exponent
returns-in_default-read_exponent c = λ f h.
    let parts = parts_of f c.in-Some.front.now c.in-Some.text.now c.in-Some.ensures.0 (subst (IsFactor f) c.in-Some.ensures.1 h) in
    c.in_default-read_exponent.ensures (exponent_of_parts f c.in-Some.front.now c.in-Some.text.now parts)

pub returns-in_default-3 : goal.returns-in_default-3
returns-in_default-3 c = λ f h.
    let parts = parts_of f c.in-Some.front.now c.in-Some.text.now c.in-Some.ensures.0 (subst (IsFactor f) c.in-Some.ensures.1 h) in
    (rw c.in_default-3.is at c.in_ok-name-2.ensures) c.in-Some.front.now (parts.is_name, refl)

pub returns : goal.returns
returns c =
    let name = rw c.in-Some-3.is at c.in_ok-name-2.ensures in
    factor_powered c.in-Some-3.name c.in-Some.text.now c.args.token.now c.in-Some-read_exponent.exponent (subst IsName name.1 name.0) (c.in-Some.ensures.1 ∙ ap (λ t. t ++ 94 ∷ c.in-Some.text.now) name.1) c.in-Some-read_exponent.ensures
