use Rattle.ht_pair.proofs.ConjugatePowerLaws.{conjugates_power}
use Rattle.ht_laws.proofs.conjugacy.conjugating_passes_to_powers.Goals as goal

pub returns : goal.returns
returns c = conjugates_power
