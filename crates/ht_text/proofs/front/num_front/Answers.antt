use Rattle.std.proofs.Common.{◌≡◌, ◌⊎◌, inl, inr, get_or, length, arith, subst}
use Rattle.std.specs.Int.{IsInRange}
use Rattle.ht_text.specs.Fronts.{IsNumText, IsLongestFront}
use Rattle.std.proofs.lemmas.Int.Digits.{digits_more}
use Rattle.ht_text.proofs.PlaceLaws.{byte_digit}
use Rattle.ht_text.proofs.NumberFronts.{zero_longest, num_longest}
use Rattle.ht_text.proofs.front.num_front.Goals as goal
use Rattle.ht_text.proofs.front.num_front.Goals.{then-i-eq4-via-then-i-eq4, then-i-eq4-via-else-i-eq4+then-not-is_ascii_digit}

pub returns-then-begins_with_zero : goal.returns-then-begins_with_zero
returns-then-begins_with_zero c = let zero = c.begins_with_zero.ensures.0 c.if-begins_with_zero.true in zero_longest c.args.bytes.now zero.0 zero.1

pub loop-i-preserved : goal.loop-i-preserved
loop-i-preserved c =
    let range : IsInRange 48 57 (get_or c.args.bytes.now c.loop-i.i 0) = c.if-not-is_ascii_digit.ensures.cases in
    (omega arith, digits_more 10 c.args.bytes.now c.loop-i.i c.loop-i-test.true c.loop-i.invariant.1 (byte_digit (get_or c.args.bytes.now c.loop-i.i 0) (omega arith) (omega arith)))

pub returns-then-i-eq4 : goal.returns-then-i-eq4
returns-then-i-eq4 c =
    let stop : (c.loop-i.i ≡ 4) ⊎ ¬ IsInRange 48 57 (get_or c.args.bytes.now c.loop-i.i 0) = elim c.then-i-eq4.branch [
      | then-i-eq4-via-then-i-eq4 w ↦ inl w.if-i-eq4.true
      | then-i-eq4-via-else-i-eq4+then-not-is_ascii_digit w ↦ inr (λ r. let out = w.if-not-is_ascii_digit.ensures.cases in omega arith)
    ] in
    num_longest c.args.bytes.now c.loop-i.i (omega arith) c.loop-i.invariant.0 (λ zero. let yes = c.begins_with_zero.ensures.1 zero in cc) c.loop-i.invariant.1 (λ l. stop)

pub returns : goal.returns
returns c =
    let whole : c.loop-i.i ≡ length c.args.bytes.now = omega arith in
    subst (λ i. IsLongestFront IsNumText c.args.bytes.now i) whole
    (num_longest c.args.bytes.now c.loop-i.i (omega arith) c.loop-i.invariant.0 (λ zero. let yes = c.begins_with_zero.ensures.1 zero in cc) c.loop-i.invariant.1 (λ l. absurd (omega arith)))
