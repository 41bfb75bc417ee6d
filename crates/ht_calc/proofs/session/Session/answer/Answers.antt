use Rattle.std.proofs.Common.{◌≡◌, rules, List, []}
use Rattle.std.proofs.lemmas.Result.{IfOk-weaker}
use Rattle.ht_answer.specs.Answers.{IsRefusal}
use Rattle.ht_calc.specs.Fetches.{Fetched, AreFetches, AreAll}
use Rattle.ht_calc.specs.Steps.{Step}
use Rattle.ht_calc.proofs.Fetching.{nothing_asked, none_made}
use Rattle.ht_calc.proofs.StepLaws.{refused_step_keeps, syntax_refused}
use Rattle.ht_calc.proofs.LineSizes.{short_rows, names_file}
use Rattle.ht_calc.proofs.session.Session.answer.Goals as goal

pub returns-in-Ok-clause-step : goal.returns-in-Ok-clause-step
returns-in-Ok-clause-step g c = c.answer_to.ensures.step c.args.line.now c.in-Ok.ensures.line

pub returns-in-Ok-clause-refused : goal.returns-in-Ok-clause-refused
returns-in-Ok-clause-refused g c =
    let new = c.answer_to.new.self in
    let files = c.args.files.now in
    IfOk-weaker c.answer_to.result
    (λ answer. (made : List Fetched) × Step c.args.self.now c.args.line.now made answer new × AreFetches (g.L.Library.files files) (g.L.Library.faults files) (g.L.Library.faults c.answer_to.new.files) made × AreAll (g.L.Library.asked files) (g.L.Library.asked c.answer_to.new.files) made)
    (λ answer. IsRefusal answer → new ≡ c.args.self.now)
    (λ answer steps. refused_step_keeps c.args.self.now c.args.line.now steps.0 answer new steps.1) (c.answer_to.ensures.step c.args.line.now c.in-Ok.ensures.line)

pub returns-in-Err-Syntax-clause-step : goal.returns-in-Err-Syntax-clause-step
returns-in-Err-Syntax-clause-step g c =
    let refused = syntax_refused c.args.self.now c.args.line.now c.in-Err-Syntax.column _ c.in-Err-Syntax.column-is
    (c.in-Err-Syntax.ensures.syntax c.in-Err-Syntax.column (search rules)) in
    ([], refused, nothing_asked (g.L.Library.files c.args.files.now) (g.L.Library.faults c.args.files.now), none_made (g.L.Library.asked c.args.files.now))

pub answer_to-requires : goal.answer_to-requires
answer_to-requires g c = record { short = short_rows c.args.line.now c.in-Ok.line c.in-Ok.ensures.line c.requires.length; file = names_file c.args.line.now c.in-Ok.line c.in-Ok.ensures.line }
