use Rattle.ht_script.specs.Tokens.{◌▸◌, IsSpaces}
use Rattle.ht_script.specs.Lines.{IsNamed}
use Rattle.ht_script.proofs.LineLaws.{first_named, some_named, behind_first_name}
use Rattle.ht_script.proofs.value.read_two_names.Goals as goal

pub returns-in_default : goal.returns-in_default
returns-in_default c = λ first second h.
    let v = first_named (IsNamed second ▸ IsSpaces) c.args.bytes.now (some_named first (IsNamed second ▸ IsSpaces) c.args.bytes.now h) in
    (rw c.in_default.is at c.in_ok-first.ensures) v.0 v.1 v.2

pub returns-in_default-2 : goal.returns-in_default-2
returns-in_default-2 c = λ first second h.
    let R = IsNamed second ▸ IsSpaces in
    let named = rw c.in-Some.is at c.in_ok-first.ensures in
    (rw c.in_default-2.is at c.in_ok-second.ensures) second (behind_first_name R c.in-Some.first c.in-Some.rest.now c.args.bytes.now named (some_named first R c.args.bytes.now h))
