use Rattle.ht_script.proofs.LineLaws.{group_behind}
use Rattle.ht_script.proofs.value.read_group.Goals as goal

pub returns-in_default : goal.returns-in_default
returns-in_default c = λ h. let v = group_behind c.args.bytes.now h in c.in_default.ensures v.0 v.1 v.2
