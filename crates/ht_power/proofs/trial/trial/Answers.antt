use Rattle.std.proofs.Common.{refl, pos}
use Rattle.ht_pair.specs.PowerSizes.{signed}
use Rattle.ht_power.specs.Told.{sign_of}
use Rattle.ht_power.proofs.TrialLaws.{power_fits}
use Rattle.ht_power.proofs.trial.trial.Goals as goal

pub conjugator-requires-clause-first : goal.conjugator-requires-clause-first
conjugator-requires-clause-first g c =
    let made = c.in_ok-first.ensures in
    power_fits _ c.args.a.now.rows c.in_ok-first.first.rows (pos c.args.i) made.shapes.0 refl c.requires.first_fits made.powers.first_power

pub conjugator-requires-clause-second : goal.conjugator-requires-clause-second
conjugator-requires-clause-second g c =
    let made = c.in_ok-first.ensures in
    power_fits _ c.args.b.now.rows c.in_ok-first.second.rows (signed (sign_of c.args.sign) c.args.j) made.shapes.1 c.requires.shape c.requires.second_fits made.powers.second_power
