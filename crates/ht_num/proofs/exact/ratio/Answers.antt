use Rattle.std.proofs.Math.Nat.{pos_of_dvd_of_pos}
use Rattle.ht_num.proofs.FractionLaws.{ratio_from_gcd}
use Rattle.ht_num.proofs.exact.ratio.Goals as goal

pub nonzero_div-result : goal.nonzero_div-result
nonzero_div-result c = pos_of_dvd_of_pos c.gcd-divisor.ensures.1 c.requires.second.0

pub nonzero_div-result-2 : goal.nonzero_div-result-2
nonzero_div-result-2 c = pos_of_dvd_of_pos c.gcd-divisor.ensures.1 c.requires.second.0

pub returns-clause-lowest : goal.returns-clause-lowest
returns-clause-lowest c = ratio_from_gcd c.args.a c.args.b c.gcd-divisor.result c.requires.second.0 c.gcd-divisor.ensures
