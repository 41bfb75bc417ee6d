use Rattle.std.proofs.Common.{get_or}
use Rattle.std.proofs.lemmas.List.Elements.{Contains-get_or}
use Rattle.std.proofs.lemmas.Nat.Gcd.{dvd_of_mod-eq-zero}
use Rattle.ht_power.proofs.finite.some_divides.Goals as goal

pub returns-then-k-d-eq0 : goal.returns-then-k-d-eq0
returns-then-k-d-eq0 c =
    let d = get_or c.args.numbers.now c.loop-d.d-index 0 in
    λ t. (d, Contains-get_or c.args.numbers.now c.loop-d.d-index 0 c.loop-d-test.true, dvd_of_mod-eq-zero d c.if-k-d-eq0.true)
