use Rattle.std.proofs.Common.{[], ◌∷◌, subst}
use Rattle.ht_answer.specs.Answers.{words_text}
use Rattle.ht_text.specs.Writes.{AddsFront}
use Rattle.ht_text.proofs.Writing.{adds_within, at_refusal}
use Rattle.ht_answer.proofs.text.print_basis.Goals as goal

pub returns-in_err-write_words-clause-err : goal.returns-in_err-write_words-clause-err
returns-in_err-write_words-clause-err c =
    at_refusal c.from_residual.result
    (adds_within c.args.out.now.items c.write_words.new.out.items (words_text c.args.words.now) (10 ∷ [])
    (subst (λ w. AddsFront c.args.out.now.items c.write_words.new.out.items (words_text w)) c.as_slice.ensures c.in_err-write_words.ensures.err))
