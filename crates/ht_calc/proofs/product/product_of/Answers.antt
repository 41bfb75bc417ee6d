use Rattle.std.proofs.Common.{◌≡◌, ◌+◌, List, [], drop, sym, subst, rules, arith}
use Rattle.std.proofs.lemmas.List.{drop_all, nil_from_length}
use Rattle.ht_pair.specs.declared.row.Row.{Row}
use Rattle.ht_calc.specs.Products.{IsProductOf}
use Rattle.ht_calc.proofs.TermLaws.{item_left, first_term, come_first, next_term, come_next, come_large_next, come_to_end, leads_end, leads_small, none_product}
use Rattle.ht_calc.proofs.product.product_of.Goals as goal

pub returns-in_default-clause-product : goal.returns-in_default-clause-product
returns-in_default-clause-product c = λ terms are. (
  c.in_ok-identity.ensures.0,
  subst (λ (s : List Row). IsProductOf c.args.shape terms s) (sym c.in_ok-identity.ensures.1)
      (none_product c.args.shape c.args.names.now c.args.factors.now terms (nil_from_length c.args.factors.now c.in_default.ensures.cases) are),
)

pub power_of-requires : goal.power_of-requires
power_of-requires c =
    let first = first_term c.args.shape c.args.names.now c.args.factors.now c.in-Some.others.now c.in-Some.first.now c.in-Some.ensures.cases.0 c.requires in
    (c.args.shape, first)

pub loop-factor-init : goal.loop-factor-init
loop-factor-init c =
    come_first c.args.shape c.args.names.now c.args.factors.now c.in-Some.others.now c.in-Some.first.now c.in_ok-so_far.so_far c.in-Some.ensures.cases.0 c.requires c.in_ok-so_far.ensures.power

pub raised_behind-requires : goal.raised_behind-requires
raised_behind-requires c =
    let rest = item_left c.in-Some.others.now c.loop-factor.factor-index c.factor-item.result c.loop-factor-test.true c.factor-item.is in
    next_term c.args.shape c.args.names.now c.args.factors.now (drop c.loop-factor.factor-index c.in-Some.others.now) (drop (c.loop-factor.factor-index + 1) c.in-Some.others.now) c.factor-item.result c.loop-factor.so_far rest c.requires c.loop-factor.invariant

pub returns-in_err-so_far-2-clause-large : goal.returns-in_err-so_far-2-clause-large
returns-in_err-so_far-2-clause-large c = λ terms rows letters are large.
    let rest = item_left c.in-Some.others.now c.loop-factor.factor-index c.factor-item.result c.loop-factor-test.true c.factor-item.is in
    come_large_next c.args.shape c.args.names.now c.args.factors.now (drop c.loop-factor.factor-index c.in-Some.others.now) (drop (c.loop-factor.factor-index + 1) c.in-Some.others.now) c.factor-item.result c.loop-factor.so_far terms rows letters rest c.loop-factor.invariant are
    (λ term is. c.in_err-so_far-2.ensures.large term rows letters is (search rules))

pub loop-factor-preserved : goal.loop-factor-preserved
loop-factor-preserved c =
    let rest = item_left c.in-Some.others.now c.loop-factor.factor-index c.factor-item.result c.loop-factor-test.true c.factor-item.is in
    come_next c.args.shape c.args.names.now c.args.factors.now (drop c.loop-factor.factor-index c.in-Some.others.now) (drop (c.loop-factor.factor-index + 1) c.in-Some.others.now) c.factor-item.result c.loop-factor.so_far c.in_ok-so_far-2.so_far rest c.requires c.loop-factor.invariant
    c.in_ok-so_far-2.ensures.next

pub returns-clause-product : goal.returns-clause-product
returns-clause-product c = λ terms are.
    let none : drop c.loop-factor.factor-index c.in-Some.others.now ≡ [] = drop_all c.loop-factor.factor-index c.in-Some.others.now (omega arith) in
    (c.loop-factor.invariant.shape_is, leads_end c.args.shape terms c.loop-factor.so_far.rows (come_to_end c.args.shape c.args.names.now c.args.factors.now (drop c.loop-factor.factor-index c.in-Some.others.now) c.loop-factor.so_far none c.loop-factor.invariant terms are))

pub returns-clause-kept : goal.returns-clause-kept
returns-clause-kept c = λ terms are i j.
    let none : drop c.loop-factor.factor-index c.in-Some.others.now ≡ [] = drop_all c.loop-factor.factor-index c.in-Some.others.now (omega arith) in
    leads_small c.args.shape terms c.loop-factor.so_far.rows i j (come_to_end c.args.shape c.args.names.now c.args.factors.now (drop c.loop-factor.factor-index c.in-Some.others.now) c.loop-factor.so_far none c.loop-factor.invariant terms are)
