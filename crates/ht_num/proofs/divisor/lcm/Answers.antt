use Rattle.std.proofs.Common.{◌≡◌, ℕ, ◌<◌, ◌^◌, Option, None, Some, MatchOption, sym, subst}
use Rattle.std.proofs.Math.Nat.{pos_of_dvd_of_pos}
use Rattle.ht_num.specs.Numbers.{IsLcm, IsWide}
use Rattle.ht_num.proofs.NumberLaws.{lcm_from_gcd}
use Rattle.ht_num.proofs.divisor.lcm.Goals as goal

pub nonzero_div-a : goal.nonzero_div-a
nonzero_div-a c = pos_of_dvd_of_pos c.gcd.ensures.0 c.requires.first.0

-- what is told of the product is told of the least common multiple
told : {a b k : ℕ} (result : Option ℕ) → IsLcm a b k → MatchOption result (IsWide k) (λ j. (j ≡ k) × (j < 2 ^ 127)) → MatchOption result ((j : ℕ) × IsLcm a b j × IsWide j) (λ j. IsLcm a b j × (j < 2 ^ 127))
told None is wide = (_, is, wide)
told {a = a} {b = b} (Some j) is both = (subst (IsLcm a b) (sym both.0) is, both.1)

pub returns : goal.returns
returns c = told c.times.result (lcm_from_gcd c.args.a c.args.b c.gcd.result c.requires.first.0 c.requires.second.0 c.gcd.ensures) c.times.ensures
