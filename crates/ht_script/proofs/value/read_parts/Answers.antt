use Rattle.ht_script.proofs.LineLaws.{three_names_behind}
use Rattle.ht_script.proofs.value.read_parts.Goals as goal

pub returns-in_default : goal.returns-in_default
returns-in_default c = λ h. let v = three_names_behind c.args.bytes.now h in (rw c.in_default.is at c.in_ok-periodic.ensures) v.0 v.1.0 v.1.1 v.2
