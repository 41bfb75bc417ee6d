use Rattle.std.proofs.Common.{◌++◌, sym, ap, ◌∙◌}
use Rattle.std.specs.Prelude.{codes, decimal}
use Rattle.ht_text.proofs.Cuts.{not_cut}
use Rattle.ht_text.proofs.FileFronts.{group_parts, second_number}
use Rattle.ht_text.proofs.lines.group_front.Goals as goal

pub returns-in_default-cut-2 : goal.returns-in_default-cut-2
returns-in_default-cut-2 c = λ n r rest h.
    let parts = group_parts c.args.bytes.now c.in-Some-cut.first.now c.in-Some-cut.behind.now n r rest c.in-Some-cut.ensures.0 (c.in-Some.ensures ∙ ap (λ t. codes "group " ++ t) c.in-Some-cut.ensures.1) h in
    not_cut 10 c.in-Some-cut.behind.now (decimal r) rest c.in_default-cut-2.ensures parts.behind_is

pub returns-in_default-read_num : goal.returns-in_default-read_num
returns-in_default-read_num c = λ n r rest h.
    let parts = group_parts c.args.bytes.now c.in-Some-cut.first.now c.in-Some-cut.behind.now n r rest c.in-Some-cut.ensures.0 (c.in-Some.ensures ∙ ap (λ t. codes "group " ++ t) c.in-Some-cut.ensures.1) h in
    c.in_default-read_num.ensures n parts.is_first

pub returns-in_default-read_num-2 : goal.returns-in_default-read_num-2
returns-in_default-read_num-2 c = λ n r rest h.
    let parts = group_parts c.args.bytes.now c.in-Some-cut.first.now c.in-Some-cut.behind.now n r rest c.in-Some-cut.ensures.0 (c.in-Some.ensures ∙ ap (λ t. codes "group " ++ t) c.in-Some-cut.ensures.1) h in
    c.in_default-read_num-2.ensures r
    (second_number c.args.bytes.now c.in-Some-cut-2.second.now c.in-Some-cut-2.rest.now n r rest c.in-Some-cut-2.ensures.0 (sym c.in-Some-cut-2.ensures.1 ∙ parts.behind_is) h)
