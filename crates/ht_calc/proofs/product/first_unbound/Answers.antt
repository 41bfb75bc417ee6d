use Rattle.std.proofs.Common.{◌≡◌, rules, List, None, subst, arith}
use Rattle.std.proofs.lemmas.List.{take_all}
use Rattle.ht_script.specs.declared.factor.Factor.{Factor}
use Rattle.ht_calc.specs.Names.{bound, AreBound}
use Rattle.ht_calc.specs.Products.{names_of}
use Rattle.ht_calc.proofs.FactorLaws.{first_unbound_at}
use Rattle.ht_calc.proofs.product.first_unbound.Goals as goal

pub returns-then-is_none : goal.returns-then-is_none
returns-then-is_none c =
    let none : bound c.args.names.now c.factor-item.result.name ≡ None = search rules in
    first_unbound_at c.args.names.now c.args.factors.now c.loop-factor.factor-index c.factor-item.result c.loop-factor-test.true c.factor-item.is c.loop-factor.invariant none

pub returns : goal.returns
returns c = subst (λ (t : List Factor). AreBound c.args.names.now (names_of t)) (take_all c.loop-factor.factor-index c.args.factors.now (omega arith)) c.loop-factor.invariant
