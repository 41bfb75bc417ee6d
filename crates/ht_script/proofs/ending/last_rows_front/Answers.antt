use Rattle.std.proofs.Common.{◌≡◌, ◌⊎◌, inl, inr, [], length, arith}
use Rattle.std.proofs.lemmas.Bool.Decides.{nat_tests}
use Rattle.std.proofs.lemmas.List.{nil_from_length}
use Rattle.ht_text.specs.Fronts.{IsRowsText}
use Rattle.ht_script.proofs.EndingLaws.{longest_no_rows, longest_in_rows, longest_past_rows}
use Rattle.ht_script.proofs.ending.last_rows_front.Goals as goal
use Rattle.ht_script.proofs.ending.last_rows_front.Goals.{then-is_empty-via-then-is_empty, then-is_empty-via-else-is_empty+then-not-is_rows}

pub returns-in_default : goal.returns-in_default
returns-in_default c = longest_no_rows c.args.bytes.now c.in_default.ensures

pub returns-then-is_empty : goal.returns-then-is_empty
returns-then-is_empty c =
    let found = c.in-Some in
    let last : (found.rest.now ≡ []) ⊎ ¬ IsRowsText found.token.now = elim c.then-is_empty.branch [
      | then-is_empty-via-then-is_empty w ↦ (let none : length found.rest.now ≡ 0 = grind (arith, nat_tests) in inl (nil_from_length found.rest.now none))
      | then-is_empty-via-else-is_empty+then-not-is_rows w ↦ inr (λ h. let yes = w.is_rows.ensures.1 h in cc)
    ] in
    longest_in_rows c.args.bytes.now found.at found.token.now found.rest.now c.rows_front.result found.ensures last c.rows_front.ensures

pub returns : goal.returns
returns c =
    let found = c.in-Some in
    longest_past_rows c.args.bytes.now found.at found.token.now found.rest.now c.count_spaces.result found.ensures (c.is_rows.ensures.0 c.if-not-is_rows.false) c.count_spaces.ensures
