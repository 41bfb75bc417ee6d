use Rattle.ht_script.proofs.LineLaws.{rows_behind}
use Rattle.ht_script.proofs.value.read_reduce.Goals as goal

pub returns-in_default : goal.returns-in_default
returns-in_default c = λ h. let v = rows_behind c.args.bytes.now h in (rw c.in_default.is at c.in_ok-rows.ensures) v.0 v.1
