use Rattle.std.proofs.Common.{◌<◌, length, arith}
use Rattle.std.proofs.lemmas.Bool.Decides.{nat_tests}
use Rattle.ht_script.proofs.IntegerTexts.{integer_test}
use Rattle.ht_script.proofs.exponent.is_integer.Goals as goal

pub returns-then-not-is_empty : goal.returns-then-not-is_empty
returns-then-not-is_empty c =
    let some : 0 < length c.args.text.now = grind (arith, nat_tests) in
    integer_test c.args.text.now c.integer_front.result some c.integer_front.ensures
