use Rattle.ht_script.proofs.LineLaws.{one_name_behind}
use Rattle.ht_script.proofs.value.read_named.Goals as goal

pub returns-in_default : goal.returns-in_default
returns-in_default c = λ h. let v = one_name_behind c.args.command c.args.bytes.now c.requires h in (rw c.in_default.is at c.in_ok-name.ensures) v.0 v.1
