use Rattle.std.proofs.Common.{◌≡◌, ◌≤◌, ◌++◌, ap, ◌∙◌, arith}
use Rattle.std.specs.Prelude.{codes, decimal}
use Rattle.ht_text.proofs.Cuts.{not_cut}
use Rattle.ht_text.proofs.FileFronts.{count_text, count_digits, same_count}
use Rattle.ht_text.proofs.lines.count_front.Goals as goal

pub returns-in_default-cut : goal.returns-in_default-cut
returns-in_default-cut c = λ k rest h.
    not_cut 10 c.in-Some.text.now (decimal k) rest c.in_default-cut.ensures (count_text c.args.bytes.now c.in-Some.text.now k rest c.in-Some.ensures h)

pub returns-in_default-read_digits : goal.returns-in_default-read_digits
returns-in_default-read_digits c = λ k rest h.
    c.in_default-read_digits.ensures k (count_digits c.args.bytes.now c.in-Some-cut.digits.now c.in-Some-cut.rest.now k rest c.in-Some-cut.ensures.0
    (c.in-Some.ensures ∙ ap (λ t. codes "rows " ++ t) c.in-Some-cut.ensures.1) h)

pub returns-then-count-eq0 : goal.returns-then-count-eq0
returns-then-count-eq0 c = λ k rest h.
    let digits = count_digits c.args.bytes.now c.in-Some-cut.digits.now c.in-Some-cut.rest.now k rest c.in-Some-cut.ensures.0 (c.in-Some.ensures ∙ ap (λ t. codes "rows " ++ t) c.in-Some-cut.ensures.1) h in
    let same : c.in-Some-read_digits.count ≡ k = same_count c.in-Some-cut.digits.now c.in-Some-read_digits.count k c.in-Some-read_digits.ensures digits in
    let some : 1 ≤ k = h.some in
    omega arith
