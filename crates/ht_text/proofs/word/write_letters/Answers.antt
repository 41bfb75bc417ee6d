use Rattle.std.proofs.Common.{◌∙◌}
use Rattle.ht_text.proofs.WordTexts.{adds_letters}
use Rattle.ht_text.proofs.Writing.{at_refusal}
use Rattle.ht_text.proofs.word.write_letters.Goals as goal

pub returns-in_err-push-clause-err : goal.returns-in_err-push-clause-err
returns-in_err-push-clause-err c =
    at_refusal c.from_residual.result
    (adds_letters c.args.out.now.items c.push.new.self.items c.args.letters.now c.loop-letter.letter-index (c.in_err-push.ensures.items ∙ c.loop-letter.invariant))
