use Rattle.std.proofs.Common.{ℕ, rules, sym, subst}
use Rattle.ht_script.specs.declared.line.Line.TheVariants as line
use Rattle.ht_answer.specs.declared.answer.Answer.TheVariants.{NotKept}
use Rattle.ht_text.proofs.CanonicalTexts.{pair_has_texts}
use Rattle.ht_calc.specs.Steps.{Does, conjugator_not_kept}
use Rattle.ht_calc.proofs.ConjugatorSteps.{conj_bound}
use Rattle.ht_calc.proofs.session.Session.keep.Goals as goal

pub returns-in-Ok-clause-step : goal.returns-in-Ok-clause-step
returns-in-Ok-clause-step c = λ first second p q asked decided.
    let is = c.in-Ok.ensures.element in
    conj_bound c.args.self.now c.bind.new.self c.args.name first second p q c.args.rows c.in-Ok.element.rows c.args.shape asked decided is.2 is.1 c.in_ok-bind-in-Ok.ensures.bound

pub returns-in-Ok-clause-text : goal.returns-in-Ok-clause-text
returns-in-Ok-clause-text c = pair_has_texts c.args.shape c.args.rows c.requires.canonical.pair

pub returns-in-Err-Large-clause-step : goal.returns-in-Err-Large-clause-step
returns-in-Err-Large-clause-step c = λ first second p q asked decided.
    subst (λ (k : ℕ). Does c.args.self.now (line.Conj c.args.name first second) (NotKept k c.args.rows) c.args.self.now) (sym c.in-Err-Large.letters-is)
    (conjugator_not_kept c.args.name first second p q c.args.rows c.in-Err-Large.letters c.args.shape asked decided (c.in-Err-Large.ensures.large c.in-Err-Large.field-0-0 c.in-Err-Large.letters (search rules)))

pub returns-in-Err-Large-clause-text : goal.returns-in-Err-Large-clause-text
returns-in-Err-Large-clause-text c = pair_has_texts c.args.shape c.args.rows c.requires.canonical.pair
