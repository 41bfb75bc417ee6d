use Rattle.ht_script.specs.Tokens.{◌▸◌, IsSpaces}
use Rattle.ht_script.specs.Names.{IsFileName}
use Rattle.ht_script.proofs.LineLaws.{first_named, behind_first_name, file_behind}
use Rattle.ht_script.proofs.value.read_load.Goals as goal

pub returns-in_default : goal.returns-in_default
returns-in_default c = λ h. let v = first_named (IsFileName ▸ IsSpaces) c.args.bytes.now h in (rw c.in_default.is at c.in_ok-name.ensures) v.0 v.1 v.2

pub returns-in_default-2 : goal.returns-in_default-2
returns-in_default-2 c = λ h.
    let named = rw c.in-Some.is at c.in_ok-name.ensures in
    let last = file_behind c.in-Some.rest.now (behind_first_name (IsFileName ▸ IsSpaces) c.in-Some.name c.in-Some.rest.now c.args.bytes.now named h) in
    (rw c.in_default-2.is at c.in_ok-file.ensures) last.0 last.1
