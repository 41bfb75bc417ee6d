use Rattle.std.proofs.Common.{List, ◌∙◌, sym, subst}
use Rattle.ht_word.specs.declared.word.Word.{Word}
use Rattle.ht_answer.specs.declared.answer.Answer.TheVariants as answer
use Rattle.ht_ask.specs.declared.question.Question.TheVariants.{Basis}
use Rattle.ht_ask.specs.Questions.{Tells, basis_told}
use Rattle.ht_ask.proofs.QuestionTexts.{basis_has_text}
use Rattle.ht_ask.proofs.question.basis_words.Goals as goal

pub returns-clause-answer : goal.returns-clause-answer
returns-clause-answer c =
    let words = c.in_ok-words.ensures ∙ c.as_slice.ensures ∙ c.words.ensures.words in
    subst (λ (X : List Word). Tells c.args.element.now.shape c.args.budget c.args.element.now.rows Basis (answer.Basis X)) (sym words)
    (basis_told c.in_ok-quasi.quasi.basis.words c.in_ok-quasi.ensures.quasi.1.least c.in_ok-quasi.ensures.within)

pub returns-clause-text : goal.returns-clause-text
returns-clause-text c =
    basis_has_text c.in_ok-quasi.quasi.basis.shape c.in_ok-quasi.quasi.basis.words c.in_ok-words.words c.words.ensures.held.basis (c.in_ok-words.ensures ∙ c.as_slice.ensures ∙ c.words.ensures.words)
