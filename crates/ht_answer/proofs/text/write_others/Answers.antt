use Rattle.std.proofs.Common.{subst}
use Rattle.ht_word.specs.declared.word.Word.{Word}
use Rattle.ht_text.specs.Writes.{AddsFront}
use Rattle.ht_text.proofs.Writing.{at_refusal}
use Rattle.ht_answer.specs.Answers.{spaced_text}
use Rattle.ht_answer.proofs.Pieces.{adds_piece}
use Rattle.ht_answer.proofs.text.write_others.Goals as goal

pub returns-in_err-write_spaced-clause-err : goal.returns-in_err-write_spaced-clause-err
returns-in_err-write_spaced-clause-err c =
    at_refusal c.from_residual.result
    (adds_piece spaced_text c.args.out.now.items c.loop-word.out.items c.write_spaced.new.out.items c.args.words.now c.word-item.result c.loop-word.word-index c.loop-word-test.true c.loop-word.invariant
    (subst (λ (t : Word). AddsFront c.loop-word.out.items c.write_spaced.new.out.items (spaced_text t)) c.word-item.is c.in_err-write_spaced.ensures.err))
