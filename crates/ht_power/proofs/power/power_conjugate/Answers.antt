use Rattle.std.proofs.Common.{ℕ, Ok, Err, subst}
use Rattle.std.proofs.lemmas.Result.{err_from_is_err_and}
use Rattle.ht_word.specs.declared.shape.Shape.{Shape}
use Rattle.ht_pair.specs.declared.decider.Which.TheVariants.{First, Second}
use Rattle.ht_pair.specs.Pairs.{IsPair}
use Rattle.ht_pair.specs.PowerRule.{PowerRule}
use Rattle.ht_power.specs.Told.{TellsBasis}
use Rattle.ht_power.proofs.RuleTold.{first_past, second_past, told_answers, told_err, rule_verdict, fit_powers, fit_parts}
use Rattle.ht_power.proofs.power.power_conjugate.Goals as goal

pub returns-in_err-f-clause-rule : goal.returns-in_err-f-clause-rule
returns-in_err-f-clause-rule g c =
    let p = err_from_is_err_and c.from_residual.result c.from_residual.ensures.1 in
    told_err (PowerRule c.args.a.now.shape c.args.a.now.rows c.args.b.now.rows (g.D.Decider.expansions c.args.decider.now)) _ _ _ p.1 p.2 (first_past c.args.a.now c.args.b.now (g.D.Decider.expansions c.args.decider.now) c.requires.shape c.in_err-f.field-0.0
    (subst (λ (k : ℕ). TellsBasis c.args.a.now k First (Err c.in_err-f.field-0.0)) c.budget.ensures.budget c.in_err-f.ensures))

pub returns-in_err-g-clause-rule : goal.returns-in_err-g-clause-rule
returns-in_err-g-clause-rule g c =
    let p = err_from_is_err_and c.from_residual-in_err-g.result c.from_residual-in_err-g.ensures.1 in
    told_err (PowerRule c.args.a.now.shape c.args.a.now.rows c.args.b.now.rows (g.D.Decider.expansions c.args.decider.now)) _ _ _ p.1 p.2 (second_past c.args.a.now c.args.b.now (g.D.Decider.expansions c.args.decider.now) c.requires.shape c.in_ok-f.f
    (subst (λ (k : ℕ). TellsBasis c.args.a.now k First (Ok c.in_ok-f.f)) c.budget.ensures.budget c.in_ok-f.ensures) c.in_err-g.field-0.0
    (subst (λ (k : ℕ). TellsBasis c.args.b.now k Second (Err c.in_err-g.field-0.0)) c.budget-2.ensures.budget c.in_err-g.ensures))

pub powers_by_bases-requires-clause-first : goal.powers_by_bases-requires-clause-first
powers_by_bases-requires-clause-first g c =
    fit_powers c.args.a.now (g.D.Decider.expansions c.args.decider.now) First c.in_ok-f.f (subst (λ (k : ℕ). TellsBasis c.args.a.now k First (Ok c.in_ok-f.f)) c.budget.ensures.budget c.in_ok-f.ensures)

pub powers_by_bases-requires-clause-first_parts : goal.powers_by_bases-requires-clause-first_parts
powers_by_bases-requires-clause-first_parts g c =
    fit_parts c.args.a.now (g.D.Decider.expansions c.args.decider.now) First c.in_ok-f.f (subst (λ (k : ℕ). TellsBasis c.args.a.now k First (Ok c.in_ok-f.f)) c.budget.ensures.budget c.in_ok-f.ensures)

pub powers_by_bases-requires-clause-second : goal.powers_by_bases-requires-clause-second
powers_by_bases-requires-clause-second g c =
    fit_powers c.args.b.now (g.D.Decider.expansions c.args.decider.now) Second c.in_ok-g.g (subst (λ (k : ℕ). TellsBasis c.args.b.now k Second (Ok c.in_ok-g.g)) c.budget-2.ensures.budget c.in_ok-g.ensures)

pub powers_by_bases-requires-clause-second_parts : goal.powers_by_bases-requires-clause-second_parts
powers_by_bases-requires-clause-second_parts g c =
    fit_parts c.args.b.now (g.D.Decider.expansions c.args.decider.now) Second c.in_ok-g.g (subst (λ (k : ℕ). TellsBasis c.args.b.now k Second (Ok c.in_ok-g.g)) c.budget-2.ensures.budget c.in_ok-g.ensures)

pub returns-clause-rule : goal.returns-clause-rule
returns-clause-rule g c =
    let budget = g.D.Decider.expansions c.args.decider.now in
    told_answers c.args.a.now c.args.b.now budget c.requires.shape
    c.in_ok-f.f (subst (λ (k : ℕ). TellsBasis c.args.a.now k First (Ok c.in_ok-f.f)) c.budget.ensures.budget c.in_ok-f.ensures)
    c.in_ok-g.g (subst (λ (k : ℕ). TellsBasis c.args.b.now k Second (Ok c.in_ok-g.g)) c.budget-2.ensures.budget c.in_ok-g.ensures)
    c.powers_by_bases.result c.powers_by_bases.ensures

pub returns-clause-verdict : goal.returns-clause-verdict
returns-clause-verdict g c =
    let budget = g.D.Decider.expansions c.args.decider.now in
    let first = subst (λ (k : ℕ). TellsBasis c.args.a.now k First (Ok c.in_ok-f.f)) c.budget.ensures.budget c.in_ok-f.ensures in
    let second = subst (λ (k : ℕ). TellsBasis c.args.b.now k Second (Ok c.in_ok-g.g)) c.budget-2.ensures.budget c.in_ok-g.ensures in
    rule_verdict c.args.a.now.shape c.args.a.now.rows c.args.b.now.rows budget first.1.canonical.pair (subst (λ (s : Shape). IsPair s c.args.b.now.rows) c.requires.shape second.1.canonical.pair) c.powers_by_bases.result
    (told_answers c.args.a.now c.args.b.now budget c.requires.shape c.in_ok-f.f first c.in_ok-g.g second c.powers_by_bases.result c.powers_by_bases.ensures)
