use Rattle.std.proofs.Common.{◌≡◌, ◌≤◌, length, subst, arith}
use Rattle.ht_text.specs.Fronts.{IsLongestFront}
use Rattle.ht_script.specs.Tokens.{Is}
use Rattle.ht_script.proofs.FrontLaws.{longest_text}
use Rattle.ht_script.proofs.token.shared_front.Goals as goal

pub returns-then-b-text : goal.returns-then-b-text
returns-then-b-text c =
    let below : c.loop-i.i ≤ length c.args.text.now = c.loop-i.invariant.0 in
    longest_text c.args.text.now c.args.bytes.now c.loop-i.i below (omega arith) c.loop-i.invariant.1 (λ _ _. c.if-b-text.true)

pub returns : goal.returns
returns c =
    let below : c.loop-i.i ≤ length c.args.text.now = c.loop-i.invariant.0 in
    let end : c.loop-i.i ≡ length c.args.bytes.now = omega arith in
    subst (λ n. IsLongestFront (Is c.args.text.now) c.args.bytes.now n) end
    (longest_text c.args.text.now c.args.bytes.now c.loop-i.i below (omega arith) c.loop-i.invariant.1 (λ _ l. absurd (omega arith)))
