use Rattle.std.proofs.Common.{rules, codes}
use Rattle.ht_ask.specs.declared.question.Question.TheVariants as question
use Rattle.ht_calc.specs.Summaries.{asked, bases_counted, first_basis_refused, second_basis_refused}
use Rattle.ht_calc.proofs.SummarySteps.{told_so}
use Rattle.ht_calc.proofs.summary.bases.Goals as goal

pub returns-in_default-clause-line : goal.returns-in_default-clause-line
returns-in_default-clause-line c = λ number.
    first_basis_refused c.in_ok-first.first
    (told_so question.Basis c.in_ok-session.session (asked c.args.budget c.args.sample.now.a c.args.sample.now.c) c.in_ok-from_slice.field-0 (codes "a") c.in_ok-first.first c.in_ok-session.ensures c.in_ok-from_slice.ensures c.in_ok-first.ensures.step)
    (search rules)

pub returns-in_default-basis_size-clause-line : goal.returns-in_default-basis_size-clause-line
returns-in_default-basis_size-clause-line c = λ number.
    let state = asked c.args.budget c.args.sample.now.a c.args.sample.now.c in
    second_basis_refused c.in_ok-first.first c.in_ok-second.second c.in-Some.a
    (told_so question.Basis c.in_ok-session.session state c.in_ok-from_slice.field-0 (codes "a") c.in_ok-first.first c.in_ok-session.ensures c.in_ok-from_slice.ensures c.in_ok-first.ensures.step)
    (search rules)
    (told_so question.Basis c.in_ok-session.session state c.in_ok-from_slice-2.field-0 (codes "c") c.in_ok-second.second c.in_ok-session.ensures c.in_ok-from_slice-2.ensures c.in_ok-second.ensures.step)
    (search rules)

pub returns-clause-line : goal.returns-clause-line
returns-clause-line c = λ number.
    let state = asked c.args.budget c.args.sample.now.a c.args.sample.now.c in
    bases_counted c.in_ok-first.first c.in_ok-second.second c.in-Some.a c.in-Some-basis_size.c
    (told_so question.Basis c.in_ok-session.session state c.in_ok-from_slice.field-0 (codes "a") c.in_ok-first.first c.in_ok-session.ensures c.in_ok-from_slice.ensures c.in_ok-first.ensures.step)
    (search rules)
    (told_so question.Basis c.in_ok-session.session state c.in_ok-from_slice-2.field-0 (codes "c") c.in_ok-second.second c.in_ok-session.ensures c.in_ok-from_slice-2.ensures c.in_ok-second.ensures.step)
    (search rules)
