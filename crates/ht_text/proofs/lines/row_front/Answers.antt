use Rattle.std.proofs.Common.{subst}
use Rattle.ht_text.specs.Texts.{row_text}
use Rattle.ht_text.specs.FileLines.{IsRowFront}
use Rattle.ht_text.proofs.Cuts.{not_cut}
use Rattle.ht_text.proofs.FileFronts.{row_before}
use Rattle.ht_text.proofs.lines.row_front.Goals as goal

pub returns-in_default : goal.returns-in_default
returns-in_default c = λ row rest h. not_cut 10 c.args.bytes.now (row_text row) rest c.in_default.ensures h.is

pub returns-in_default-2 : goal.returns-in_default-2
returns-in_default-2 c = λ row rest h.
    (rw c.in_default-2.is at c.in_ok-row.ensures) row
    (row_before c.in-Some.line.now c.in-Some.rest.now row rest c.in-Some.ensures.0 (subst (λ t. IsRowFront t row rest) c.in-Some.ensures.1 h))
