use Rattle.std.proofs.Common.{◌≡◌, ◌<◌, ◌-◌, ◌+◌, ◌*◌, ◌^◌, ℕ, get_or, take, length, length-take, arith, sym, subst, refl}
use Rattle.std.specs.Char.{digit_value}
use Rattle.std.specs.Int.{IsInRange}
use Rattle.std.specs.Str.Parse.{digits_value}
use Rattle.std.proofs.lemmas.Int.Digits.{digits_more, digits_value_more, digits_value-lt}
use Rattle.std.proofs.lemmas.List.{take_all}
use Rattle.std.proofs.lemmas.Str.Parse.{digit_at}
use Rattle.ht_text.specs.Texts.{IsNumUpTo}
use Rattle.ht_text.proofs.Numbers.{form_of_digits, all_digits, number_of_digits, value_of_digit}
use Rattle.ht_text.proofs.number.read_digits.Goals as goal

pub returns-then-not-has_form : goal.returns-then-not-has_form
returns-then-not-has_form c = λ n h. let yes = c.if-not-has_form.ensures.1 (form_of_digits c.args.most c.args.bytes.now n c.requires.some c.requires.few h) in cc

pub returns-then-not-is_ascii_digit : goal.returns-then-not-is_ascii_digit
returns-then-not-is_ascii_digit c = λ n h.
    let within = digit_at c.args.bytes.now c.loop-b.b-index (all_digits c.args.most c.args.bytes.now n c.requires.few h) (omega arith) in
    let out = c.if-not-is_ascii_digit.ensures.cases in
    omega arith

pub loop-b-preserved : goal.loop-b-preserved
loop-b-preserved c =
    let byte : ℕ = get_or c.args.bytes.now c.loop-b.b-index 0 in
    let in_range : IsInRange 48 57 byte = c.if-not-is_ascii_digit.ensures.cases in
    let value : digit_value byte ≡ byte - 48 = value_of_digit byte (omega arith) (omega arith) in
    let small : digit_value byte < 10 = omega arith in
    let all = digits_more 10 c.args.bytes.now c.loop-b.b-index c.loop-b-test.true c.loop-b.invariant.0 small in
    let more = digits_value_more 10 c.args.bytes.now c.loop-b.b-index c.loop-b-test.true in
    let same : c.loop-b.value * 10 + (byte - 48) ≡ digits_value 10 (take (c.loop-b.b-index + 1) c.args.bytes.now) = omega arith in
    let below = digits_value-lt 10 (take (c.loop-b.b-index + 1) c.args.bytes.now) all in
    let len : length (take (c.loop-b.b-index + 1) c.args.bytes.now) ≡ c.loop-b.b-index + 1 = simp length-take (omega arith) in
    (all, same, subst (λ v. v < 10 ^ (c.loop-b.b-index + 1)) (sym same) (rw len at below))

pub returns : goal.returns
returns c =
    let whole : take c.loop-b.b-index c.args.bytes.now ≡ c.args.bytes.now = take_all c.loop-b.b-index c.args.bytes.now (omega arith) in
    let all = rw whole at c.loop-b.invariant.0 in
    let value = rw whole at c.loop-b.invariant.1 in
    subst (λ v. IsNumUpTo c.args.most c.args.bytes.now v) (sym value) (number_of_digits c.args.most c.args.bytes.now c.requires.few (c.if-not-has_form.ensures.0 refl) all)
