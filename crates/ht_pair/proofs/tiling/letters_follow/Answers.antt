use Rattle.std.proofs.Common.{◌+◌, arith, true≢false, sym}
use Rattle.std.proofs.lemmas.Bool.Decides.{Decides-like}
use Rattle.std.proofs.lemmas.List.{take_rest}
use Rattle.ht_pair.proofs.TilingTests.{next_ended, next_step_at}
use Rattle.ht_pair.proofs.tiling.letters_follow.Goals as goal

-- at the first unlike letters the rests decide
pub returns-then-letter-next_letter : goal.returns-then-letter-next_letter
returns-then-letter-next_letter c =
    let step = next_step_at c.args.n c.loop-place.place c.args.letters.now c.args.next.now (omega arith) (omega arith) c.if-letter-next_letter.true in
    Decides-like c.is_step.result (λ h. c.loop-place.invariant.1 (step.1 h)) (λ h. step.0 (c.loop-place.invariant.0 h))
    (rw (take_rest c.args.letters.now (c.loop-place.place + 1), take_rest c.args.next.now (c.loop-place.place + 1), c.into.ensures, c.into-then-letter-next_letter.ensures) at c.is_step.ensures)

-- where no letters are unlike, one list continues the other
pub returns : goal.returns
returns c = (λ t. absurd (true≢false (sym t)), λ h. absurd (next_ended c.args.n c.loop-place.place c.args.letters.now c.args.next.now (omega arith) (c.loop-place.invariant.0 h)))
