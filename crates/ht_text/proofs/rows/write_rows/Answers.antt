use Rattle.std.proofs.Common.{◌≡◌, arith, sym, ◌∙◌, subst}
use Rattle.std.specs.Prelude.{OnOk}
use Rattle.std.proofs.lemmas.List.{take_all}
use Rattle.std.proofs.lemmas.Result.{on_err_weaker}
use Rattle.ht_text.specs.Texts.{HasRowText, ended_text}
use Rattle.ht_text.specs.Writes.{AddsFront}
use Rattle.ht_pair.specs.declared.row.Row.{Row}
use Rattle.ht_text.proofs.RowTexts.{wrote_all, adds_last, adds_row, have_front_and_last}
use Rattle.ht_text.proofs.Writing.{at_refusal}
use Rattle.ht_text.proofs.rows.write_rows.Goals as goal

pub returns-in_err-write_ended-clause-err : goal.returns-in_err-write_ended-clause-err
returns-in_err-write_ended-clause-err c =
    at_refusal c.from_residual.result
    (adds_row c.args.out.now.items c.loop-row.out.items c.write_ended.new.out.items c.args.rows.now c.in-Some.before.now c.in-Some.last.now c.row-item.result c.loop-row.row-index
    c.loop-row-test.true c.loop-row.invariant (sym c.as_slice.ensures ∙ c.in-Some.ensures.cases.0)
    (subst (λ (t : Row). AddsFront c.loop-row.out.items c.write_ended.new.out.items (ended_text t)) c.row-item.is c.in_err-write_ended.ensures.err))

pub write_ended-requires : goal.write_ended-requires
write_ended-requires c =
    let have = have_front_and_last c.args.rows.now c.in-Some.before.now c.in-Some.last.now (sym c.as_slice.ensures ∙ c.in-Some.ensures.cases.0) c.requires in
    subst HasRowText (sym c.row-item.is) (have.0 c.loop-row.row-index c.row-item.result c.loop-row-test.true)

pub write_row-requires : goal.write_row-requires
write_row-requires c =
    (have_front_and_last c.args.rows.now c.in-Some.before.now c.in-Some.last.now (sym c.as_slice.ensures ∙ c.in-Some.ensures.cases.0) c.requires).1

pub returns-clause-ok : goal.returns-clause-ok
returns-clause-ok c =
    let whole = take_all c.loop-row.row-index c.in-Some.before.now (omega arith) in
    let all = wrote_all c.args.out.now.items c.loop-row.out.items c.args.rows.now c.in-Some.before.now c.in-Some.last.now (rw whole at c.loop-row.invariant)
    (sym c.as_slice.ensures ∙ c.in-Some.ensures.cases.0) in
    subst (λ t. OnOk c.write_row.result (c.write_row.new.out.items ≡ t)) all c.write_row.ensures.ok

pub returns-clause-err : goal.returns-clause-err
returns-clause-err c =
    let whole = take_all c.loop-row.row-index c.in-Some.before.now (omega arith) in
    on_err_weaker c.write_row.result
    (λ h. adds_last c.args.out.now.items c.loop-row.out.items c.write_row.new.out.items c.args.rows.now c.in-Some.before.now c.in-Some.last.now (rw whole at c.loop-row.invariant)
    (sym c.as_slice.ensures ∙ c.in-Some.ensures.cases.0) h)
    c.write_row.ensures.err
