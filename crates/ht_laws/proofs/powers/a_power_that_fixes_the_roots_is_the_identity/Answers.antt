use Rattle.ht_laws.proofs.PrefixLaws.{fixing_is_identity}
use Rattle.ht_laws.proofs.powers.a_power_that_fixes_the_roots_is_the_identity.Goals as goal

pub returns : goal.returns
returns c = fixing_is_identity
