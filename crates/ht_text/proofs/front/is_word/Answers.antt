use Rattle.std.proofs.Common.{drop, ◌+◌, arith}
use Rattle.ht_text.specs.Fronts.{IsWordText}
use Rattle.ht_text.specs.Places.{CompletesWord}
use Rattle.ht_text.proofs.FrontLaws.{goes_on, ends_at}
use Rattle.ht_text.proofs.WordFronts.{word_marked}
use Rattle.ht_text.proofs.front.is_word.Goals as goal

pub loop-b-init : goal.loop-b-init
loop-b-init c = record { same = word_marked }

pub returns-in_default : goal.returns-in_default
returns-in_default c = ((λ e. absurd cc), (λ p. absurd (c.in_default.ensures (drop (c.loop-b.b-index + 1) c.args.bytes.now) (goes_on IsWordText (CompletesWord c.loop-b.place) c.args.bytes.now c.loop-b.b-index (omega arith) c.loop-b.invariant p))))

pub returns : goal.returns
returns c =
    let end = ends_at IsWordText (CompletesWord c.loop-b.place) c.args.bytes.now c.loop-b.b-index (omega arith) c.loop-b.invariant in
    ((λ yes. end.0 (c.is_whole.ensures.0 yes)), (λ p. c.is_whole.ensures.1 (end.1 p)))
