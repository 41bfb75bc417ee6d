use Rattle.ht_script.specs.Exponents.{downwards}
use Rattle.ht_script.proofs.exponent.read_exponent.Goals as goal

pub returns : goal.returns
returns c =
    let s = c.in-Some-read_integer.ensures in
    downwards s.k c.in-Some.digits.now s.is_integer c.in-Some.ensures (c.negative.ensures s.k s.is_exponent)
