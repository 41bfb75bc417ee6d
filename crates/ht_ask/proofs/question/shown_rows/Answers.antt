use Rattle.std.proofs.Common.{List, sym, subst}
use Rattle.ht_pair.specs.declared.row.Row.{Row}
use Rattle.ht_pair.specs.Pairs.{IsPair}
use Rattle.ht_answer.specs.declared.answer.Answer.TheVariants as answer
use Rattle.ht_text.proofs.CanonicalTexts.{pair_has_texts}
use Rattle.ht_ask.specs.declared.question.Question.TheVariants.{Show}
use Rattle.ht_ask.specs.Questions.{Tells, shown}
use Rattle.ht_ask.proofs.question.shown_rows.Goals as goal

pub returns-clause-answer : goal.returns-clause-answer
returns-clause-answer c = λ budget.
    subst (λ (p : List Row). Tells c.args.element.now.shape budget p Show (answer.Pair c.in_ok-rows.field-0)) c.in_ok-rows.ensures.rows shown

pub returns-clause-text : goal.returns-clause-text
returns-clause-text c =
    pair_has_texts c.args.element.now.shape c.in_ok-rows.field-0 (subst (λ (q : List Row). IsPair c.args.element.now.shape q) (sym c.in_ok-rows.ensures.rows) c.in_ok-rows.ensures.canonical.pair)
