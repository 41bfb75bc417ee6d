use Rattle.std.proofs.Common.{subst}
use Rattle.ht_text.specs.Texts.{IsRow}
use Rattle.ht_text.proofs.RowTexts.{no_row, row_words}
use Rattle.ht_text.proofs.rows.read_row.Goals as goal

pub returns-in_default : goal.returns-in_default
returns-in_default c = λ row h. no_row c.args.bytes.now row c.in_default.ensures h

pub returns-in_default-2 : goal.returns-in_default-2
returns-in_default-2 c = λ row h.
    (rw c.in_default-2.is at c.in_ok-from.ensures) row.from
    (row_words c.in-Some.first.now c.in-Some.second.now row c.in-Some.ensures.0 (subst (λ t. IsRow t row) c.in-Some.ensures.1 h)).0

pub returns-in_default-3 : goal.returns-in_default-3
returns-in_default-3 c = λ row h.
    (rw c.in_default-3.is at c.in_ok-to.ensures) row.to
    (row_words c.in-Some.first.now c.in-Some.second.now row c.in-Some.ensures.0 (subst (λ t. IsRow t row) c.in-Some.ensures.1 h)).1
