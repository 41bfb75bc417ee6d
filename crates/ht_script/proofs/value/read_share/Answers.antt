use Rattle.ht_text.specs.Fronts.{IsWordText}
use Rattle.ht_script.specs.Tokens.{◌▸◌, IsSpaces}
use Rattle.ht_script.proofs.LineLaws.{first_named, behind_first_name, two_words_behind}
use Rattle.ht_script.proofs.value.read_share.Goals as goal

pub returns-in_default : goal.returns-in_default
returns-in_default c = λ h. let v = first_named (IsWordText ▸ IsWordText ▸ IsSpaces) c.args.bytes.now h in (rw c.in_default.is at c.in_ok-name.ensures) v.0 v.1 v.2

pub returns-in_default-2 : goal.returns-in_default-2
returns-in_default-2 c = λ h.
    let named = rw c.in-Some.is at c.in_ok-name.ensures in
    let words = two_words_behind c.in-Some.rest.now (behind_first_name (IsWordText ▸ IsWordText ▸ IsSpaces) c.in-Some.name c.in-Some.rest.now c.args.bytes.now named h) in
    (rw c.in_default-2.is at c.in_ok-from.ensures) words.0 words.1 words.2
