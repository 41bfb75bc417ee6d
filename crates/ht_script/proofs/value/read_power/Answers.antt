use Rattle.ht_script.proofs.LineLaws.{two_names_behind}
use Rattle.ht_script.proofs.value.read_power.Goals as goal

pub returns-in_default : goal.returns-in_default
returns-in_default c = λ h. let v = two_names_behind c.args.bytes.now h in (rw c.in_default.is at c.in_ok-first.ensures) v.0 v.1 v.2
