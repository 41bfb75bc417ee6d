use Rattle.std.proofs.Common.{refl, rules}
use Rattle.ht_power.proofs.power.basis_of.Goals as goal

pub returns-in-Ok : goal.returns-in-Ok
returns-in-Ok c = (c.in-Ok.ensures.typed.0, c.in-Ok.ensures.typed.1, c.in-Ok.ensures.within)

pub returns-in-Err-Budget : goal.returns-in-Err-Budget
returns-in-Err-Budget c = (refl, c.in-Err-Budget.ensures.over (search rules))
