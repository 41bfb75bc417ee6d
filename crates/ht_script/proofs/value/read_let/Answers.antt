use Rattle.std.proofs.Common.{inl, inr}
use Rattle.ht_script.specs.declared.ending.Ending.TheVariants as ending
use Rattle.ht_script.specs.Slots.{IsOfEnding}
use Rattle.ht_script.proofs.LineLaws.{rows_behind, named_behind, behind_equals}
use Rattle.ht_script.proofs.value.read_let.Goals as goal

pub returns-in_default : goal.returns-in_default
returns-in_default c = λ h. let v = named_behind (IsOfEnding ending.Value) c.args.bytes.now h in (rw c.in_default.is at c.in_ok-name.ensures) v.0 v.1 v.2

pub returns-in_default-3 : goal.returns-in_default-3
returns-in_default-3 c = λ h.
    let named = rw c.in-Some.is at c.in_ok-name.ensures in
    elim (behind_equals (IsOfEnding ending.Value) c.in-Some.name c.in-Some.behind.now c.args.bytes.now named h) [
      | inl rows ↦ (let last = rows_behind c.in-Some.behind.now rows in (rw c.in_default-2.is at c.in_ok-rows.ensures) last.0 last.1)
      | inr factors ↦ (rw c.in_default-3.is at c.in_ok-factors.ensures) factors.0 factors.1
    ]
