use Rattle.ht_text.proofs.Writing.{at_refusal}
use Rattle.ht_answer.specs.OrderTexts.{spaced_cycles_text}
use Rattle.ht_answer.proofs.Pieces.{adds_piece}
use Rattle.ht_answer.proofs.profile.write_others.Goals as goal

pub returns-in_err-write_spaced-clause-err : goal.returns-in_err-write_spaced-clause-err
returns-in_err-write_spaced-clause-err c =
    at_refusal c.from_residual.result
    (adds_piece spaced_cycles_text c.args.out.now.items c.loop-entry.out.items c.write_spaced.new.out.items c.args.entries.now (0, 0) c.loop-entry.entry-index c.loop-entry-test.true c.loop-entry.invariant
    c.in_err-write_spaced.ensures.err)
