use Rattle.std.proofs.Common.{inl, inr, ◌++◌, ap, refl, sym, ◌∙◌, append_assoc, List, ℕ, true≢false}
use Rattle.ht_answer.specs.Answers.{answer_text}
use Rattle.ht_calc.proofs.RunLaws.{answered_more}
use Rattle.ht_calc.proofs.answering.Answering.answer.Goals as goal
use Rattle.ht_calc.proofs.answering.Answering.answer.Goals.{then-self, else-self}

pub returns-clause-answered : goal.returns-clause-answered
returns-clause-answered g c = λ lines O before was.
    answered_more _ before _ _ lines c.args.line.now _ _ _ _ c.in_ok-answer.ensures.step.0 c.in_ok-answer.answer was c.in_ok-answer.ensures.step.1 c.in_ok-answer.ensures.step.2 c.in_ok-answer.ensures.step.3
    refl
    (ap (λ (text : List ℕ). O ++ text) c.in_ok-print.ensures.ok ∙ sym (append_assoc O c.args.text.now.items (answer_text c.in_ok-answer.answer)))
    (elim c.if-self.branch [
      | then-self w ↦ (λ is. inl w.if-self.true, λ some. w.self-is ∙ w.if-self.true)
      | else-self w ↦ (
        λ is. inr (w.is_refusal-self.ensures.0 (sym w.self-is ∙ is)),
        λ some. w.self-is ∙ (elim some [ inl was_so ↦ absurd (true≢false (sym was_so ∙ w.if-self.false)) | inr is ↦ w.is_refusal-self.ensures.1 is ]),
      )
    ])
