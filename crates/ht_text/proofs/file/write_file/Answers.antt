use Rattle.std.proofs.Common.{◌++◌, List, length, sym, ap, ◌∙◌, subst, arith, append-nil}
use Rattle.std.specs.Prelude.{codes}
use Rattle.std.proofs.lemmas.List.{take_all}
use Rattle.ht_word.specs.declared.shape.Shape.{Shape}
use Rattle.ht_pair.specs.declared.row.Row.{Row}
use Rattle.ht_text.specs.Texts.{HasRowText, HasRowsText}
use Rattle.ht_text.specs.Files.{row_lines}
use Rattle.ht_text.specs.FileLines.{head_text}
use Rattle.ht_text.proofs.CanonicalTexts.{pair_has_texts}
use Rattle.ht_text.proofs.FileTexts.{wrote_line}
use Rattle.ht_text.proofs.file.write_file.Goals as goal

pub loop-row-init : goal.loop-row-init
loop-row-init c =
    c.in_ok-write_head.ensures ∙ ap (λ t. t ++ head_text c.shape.result.n c.shape.result.r c.row_count.result) c.new-out.ensures.items ∙ ap (λ (s : Shape). head_text s.n s.r c.row_count.result) c.shape.ensures
    ∙ ap (λ j. head_text c.args.a.now.shape.n c.args.a.now.shape.r j) c.row_count.ensures
    ∙ sym (append-nil (head_text c.args.a.now.shape.n c.args.a.now.shape.r (length c.args.a.now.rows)))

pub write_line-requires : goal.write_line-requires
write_line-requires c =
    let have = subst HasRowsText (sym (c.as_rows-row-items.ensures)) (pair_has_texts c.args.a.now.shape c.args.a.now.rows c.keeps_limits.ensures.canonical.pair) in
    subst HasRowText (sym c.row-item.is) (have c.loop-row.row-index c.row-item.result c.loop-row-test.true)

pub loop-row-preserved : goal.loop-row-preserved
loop-row-preserved c =
    wrote_line c.write_head.new.out.items c.loop-row.out.items c.write_line.new.out.items (head_text c.args.a.now.shape.n c.args.a.now.shape.r (length c.args.a.now.rows)) c.as_rows-row-items.result.now
    c.loop-row.row-index c.row-item.result c.loop-row-test.true c.row-item.is c.loop-row.invariant c.in_ok-write_line.ensures

pub returns : goal.returns
returns c =
    let whole = take_all c.loop-row.row-index c.as_rows-row-items.result.now (omega arith) in
    c.in_ok-extend_from_slice.ensures.items
    ∙ ap (λ t. t ++ codes "end\n")
    (c.loop-row.invariant
    ∙ ap (λ (t : List Row). head_text c.args.a.now.shape.n c.args.a.now.shape.r (length c.args.a.now.rows) ++ row_lines t) (whole ∙ c.as_rows-row-items.ensures))
