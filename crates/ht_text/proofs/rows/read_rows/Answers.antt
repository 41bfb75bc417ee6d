use Rattle.std.proofs.Common.{sym, subst}
use Rattle.ht_text.specs.Texts.{IsRows}
use Rattle.ht_text.proofs.RowTexts.{HasRead, one_row, first_row, read_more, read_last}
use Rattle.ht_text.proofs.rows.read_rows.Goals as goal

pub returns-in_default-2 : goal.returns-in_default-2
returns-in_default-2 c = λ all h.
    let left = c.rows.invariant.more all h in
    let parts = first_row c.in-Some.piece.now c.in-Some.behind.now left.0 c.in-Some.ensures.0 (subst (λ t. IsRows t left.0) c.in-Some.ensures.1 left.1) in
    (rw c.in_default-2.is at c.in_ok-row.ensures) parts.row parts.is_row

pub rows-preserved : goal.rows-preserved
rows-preserved c =
    let read = subst (λ t. HasRead c.args.bytes.now c.rows.rows t) c.in-Some.ensures.1 c.rows.invariant in
    let is_row = rw c.in-Some-2.is at c.in_ok-row.ensures in
    let more = read_more c.args.bytes.now c.rows.rows c.in-Some.piece.now c.in-Some.behind.now c.in-Some-2.row c.in-Some.ensures.0 read is_row in
    subst (λ t. HasRead c.args.bytes.now t c.in-Some.behind.now) (sym c.in_ok-push.ensures.ok) more

pub returns-in_default-3 : goal.returns-in_default-3
returns-in_default-3 c = λ all h.
    let left = c.rows.invariant.more all h in
    let last = one_row c.rows.rest.now left.0 c.in_default.ensures left.1 in
    (rw c.in_default-3.is at c.in_ok-last.ensures) last.0 last.1

pub returns : goal.returns
returns c =
    let is_row = rw c.in-Some-3.is at c.in_ok-last.ensures in
    subst (λ t. IsRows c.args.bytes.now t) (sym c.in_ok-push-2.ensures.ok) (read_last c.args.bytes.now c.rows.rows c.rows.rest.now c.in-Some-3.last c.rows.invariant is_row)
