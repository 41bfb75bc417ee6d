use Rattle.ht_calc.proofs.SummarySteps.{powers_summed}
use Rattle.ht_calc.proofs.summary.powers.Goals as goal

pub returns-clause-line : goal.returns-clause-line
returns-clause-line c = λ number.
    powers_summed number c.args.budget c.args.sample.now.a c.args.sample.now.h c.args.sample.now.c c.in_ok-session.session c.in_ok-first.first c.in_ok-second.second c.in_ok-answer.answer c.shortened.result
    c.in_ok-session.ensures c.in_ok-first.ensures c.in_ok-second.ensures c.shortened.ensures.short c.in_ok-answer.ensures.step
