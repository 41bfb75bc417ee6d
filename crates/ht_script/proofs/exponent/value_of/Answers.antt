use Rattle.std.proofs.Common.{◌≡◌, ◌-◌, ◌+◌, ℕ, get_or, arith}
use Rattle.std.specs.Char.{digit_value}
use Rattle.std.specs.Int.{IsInRange}
use Rattle.std.proofs.lemmas.Int.Digits.{digits_value_more}
use Rattle.std.proofs.lemmas.Str.Parse.{digit_at, digits_value-take-le}
use Rattle.ht_text.proofs.Numbers.{value_of_digit}
use Rattle.ht_script.proofs.exponent.value_of.Goals as goal

pub overflow_sub-digit : goal.overflow_sub-digit
overflow_sub-digit c = (digit_at c.args.digits.now c.loop-b.b-index c.requires c.loop-b-test.true).0

pub returns-then-value-digit : goal.returns-then-value-digit
returns-then-value-digit c =
    let byte : ℕ = get_or c.args.digits.now c.loop-b.b-index 0 in
    let in_range : IsInRange 48 57 byte = digit_at c.args.digits.now c.loop-b.b-index c.requires c.loop-b-test.true in
    let value : digit_value byte ≡ byte - 48 = value_of_digit byte in_range.0 in_range.1 in
    let more = digits_value_more 10 c.args.digits.now c.loop-b.b-index c.loop-b-test.true in
    let least = digits_value-take-le 10 c.args.digits.now (c.loop-b.b-index + 1) (omega arith) in
    omega arith

pub loop-b-preserved : goal.loop-b-preserved
loop-b-preserved c =
    let byte : ℕ = get_or c.args.digits.now c.loop-b.b-index 0 in
    let in_range : IsInRange 48 57 byte = digit_at c.args.digits.now c.loop-b.b-index c.requires c.loop-b-test.true in
    let value : digit_value byte ≡ byte - 48 = value_of_digit byte in_range.0 in_range.1 in
    let more = digits_value_more 10 c.args.digits.now c.loop-b.b-index c.loop-b-test.true in
    (omega arith, omega arith)
