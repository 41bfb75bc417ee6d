use Rattle.std.proofs.Common.{codes}
use Rattle.ht_ask.specs.declared.question.Question.TheVariants as question
use Rattle.ht_calc.specs.Summaries.{asked, order_told}
use Rattle.ht_calc.proofs.SummarySteps.{told_so}
use Rattle.ht_calc.proofs.summary.order.Goals as goal

pub returns-clause-line : goal.returns-clause-line
returns-clause-line c = λ number.
    order_told c.in_ok-answer.answer
    (told_so question.Order c.in_ok-session.session (asked c.args.budget c.args.sample.now.a c.args.sample.now.c) c.in_ok-from_slice.field-0 (codes "a") c.in_ok-answer.answer c.in_ok-session.ensures c.in_ok-from_slice.ensures c.in_ok-answer.ensures.step)
