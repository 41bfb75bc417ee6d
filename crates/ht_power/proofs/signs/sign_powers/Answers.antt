use Rattle.std.proofs.Common.{ℕ, [], ◌∷◌, ◌*◌, ◌≤◌, ◌<◌, ◌^◌, subst, sym}
use Rattle.std.proofs.Math.Nat.{one-le-mul}
use Rattle.ht_power.specs.Told.{sign_of}
use Rattle.ht_power.proofs.PositiveRates.{some_rates, narrow_period, narrow_ratio}
use Rattle.ht_power.proofs.SignLaws.{sign_tried, sign_wide}
use Rattle.ht_power.proofs.WideNumbers.{some_wide}
use Rattle.ht_power.proofs.signs.sign_powers.Given.{Over}
use Rattle.ht_power.proofs.signs.sign_powers.Goals as goal
use Rattle.ht_power.proofs.signs.sign_powers.Goals.{In-Some}

pub ratio_in-requires : goal.ratio_in-requires
ratio_in-requires d c = some_rates c.keeps_kinds.ensures c.keeps_kinds-2.ensures c.requires.shape c.requires.rates c.requires.infinite

-- the numbers of the ratio
ratio : (d : Over) (c : In-Some d) → (1 ≤ c.in-Some.p) × (c.in-Some.p < 2 ^ 127) × (c.in-Some.q < 2 ^ 127)
ratio d c = narrow_ratio c.keeps_kinds.ensures c.keeps_kinds-2.ensures c.requires.shape c.requires.rates c.requires.infinite (sign_of c.args.sign)
    c.in-Some.p c.in-Some.q c.in-Some.ensures.1

pub times-requires-clause-first : goal.times-requires-clause-first
times-requires-clause-first d c = (ratio d c).1

pub times-requires-clause-second : goal.times-requires-clause-second
times-requires-clause-second d c = narrow_period c.requires.rates

pub returns-in_default-times : goal.returns-in_default-times
returns-in_default-times d c =
    let p = c.in-Some.p in
    let q = c.in-Some.q in
    let M = c.args.rates.now.period in
    sign_wide c.args.f.now c.args.g.now (sign_of c.args.sign) c.args.rates.now p q c.in-Some.ensures.0 c.in-Some.ensures.1
    (some_wide [] ((q * M) ∷ []) (p * M) c.in_default-times.ensures)

pub times-requires-2-clause-first : goal.times-requires-2-clause-first
times-requires-2-clause-first d c = (ratio d ((goal.at.times-requires-2-clause-first d c).In-Some)).2

pub times-requires-2-clause-second : goal.times-requires-2-clause-second
times-requires-2-clause-second d c = narrow_period c.requires.rates

pub returns-in_default-times-2 : goal.returns-in_default-times-2
returns-in_default-times-2 d c =
    let p = c.in-Some.p in
    let q = c.in-Some.q in
    let M = c.args.rates.now.period in
    sign_wide c.args.f.now c.args.g.now (sign_of c.args.sign) c.args.rates.now p q c.in-Some.ensures.0 c.in-Some.ensures.1
    (some_wide ((p * M) ∷ []) [] (q * M) c.in_default-times-2.ensures)

pub tried_powers-requires-clause-first : goal.tried_powers-requires-clause-first
tried_powers-requires-clause-first d c =
    let i = c.in-Some-times.ensures in
    let bounds = ratio d ((goal.at.tried_powers-requires-clause-first d c).In-Some) in
    (subst (λ (n : ℕ). 1 ≤ n) (sym i.0) (one-le-mul bounds.0 c.requires.rates.have.period.positive), i.1)

pub returns : goal.returns
returns d c =
    sign_tried c.args.f.now c.args.g.now (sign_of c.args.sign) c.args.rates.now c.in-Some.p c.in-Some.q c.in-Some-times.i c.in-Some-times-2.j c.in-Some.ensures.0
    c.in-Some.ensures.1 c.in-Some-times.ensures.0 c.in-Some-times-2.ensures.0 c.tried_powers.result c.tried_powers.ensures
