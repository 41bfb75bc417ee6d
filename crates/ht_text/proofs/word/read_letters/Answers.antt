use Rattle.std.proofs.Common.{◌≤◌, get_or, arith}
use Rattle.ht_text.proofs.WordTexts.{letter_at}
use Rattle.ht_text.proofs.word.read_letters.Goals as goal
use Rattle.ht_text.proofs.word.read_letters.Goals.{then-digit-lt49-via-then-digit-lt49, then-digit-lt49-via-else-digit-lt49+then-digit-gt57}

pub returns-then-digit-lt49 : goal.returns-then-digit-lt49
returns-then-digit-lt49 c = λ z h.
    let range = letter_at c.args.bytes.now z c.loop-digit.digit-index h c.loop-digit-test.true in
    let low : 49 ≤ get_or c.args.bytes.now c.loop-digit.digit-index 0 = range.0 in
    let high : get_or c.args.bytes.now c.loop-digit.digit-index 0 ≤ 57 = range.1 in
    elim c.then-digit-lt49.branch [
      | then-digit-lt49-via-then-digit-lt49 w ↦ omega arith
      | then-digit-lt49-via-else-digit-lt49+then-digit-gt57 w ↦ omega arith
    ]
