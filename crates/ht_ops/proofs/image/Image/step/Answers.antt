use Rattle.std.proofs.Common.{List, sym, subst}
use Rattle.ht_word.specs.declared.shape.Shape.{Shape}
use Rattle.ht_pair.specs.Tables.{IsTable, IsMergedTable}
use Rattle.ht_pair.specs.declared.row.Row.{Row}
use Rattle.ht_ops.specs.Blocks.{AreBlocks}
use Rattle.ht_ops.proofs.BlockLaws.{blocks_table}
use Rattle.ht_ops.proofs.ImageSteps.{image_table, merged_behind, step_followed}
use Rattle.ht_ops.proofs.image.Image.step.Goals as goal

pub followed-requires : goal.followed-requires
followed-requires c =
    subst (IsTable c.args.f.now.shape) (sym c.as_slice.ensures) (image_table c.args.f.now.shape c.self.inside.rows c.args.self.now c.self.invariant c.self.view_is c.requires)

pub merge_table-requires : goal.merge_table-requires
merge_table-requires c =
    subst (λ (s : Shape). IsTable s c.in_ok-moved.moved) (sym c.shape.ensures)
    (blocks_table c.args.f.now.shape c.as_slice.result.now c.args.f.now.rows c.in_ok-moved.moved
    (subst (IsTable c.args.f.now.shape) (sym c.as_slice.ensures) (image_table c.args.f.now.shape c.self.inside.rows c.args.self.now c.self.invariant c.self.view_is c.requires)) c.in_ok-moved.ensures.blocks)

pub invariant_of-result : goal.invariant_of-result
invariant_of-result c =
    merged_behind c.args.f.now.shape c.args.f.now.rows c.self.inside.rows c.in_ok-moved.moved c.in_ok-rows.rows c.self.invariant
    (subst (λ (t : List Row). AreBlocks c.args.f.now.shape c.args.f.now.rows t c.in_ok-moved.moved) c.as_slice.ensures c.in_ok-moved.ensures.blocks)
    (subst (λ (s : Shape). IsMergedTable s c.in_ok-moved.moved c.in_ok-rows.rows) c.shape.ensures c.in_ok-rows.ensures)

pub returns : goal.returns
returns c =
    step_followed c.args.f.now.shape c.args.f.now.rows c.self.inside.rows c.in_ok-moved.moved c.in_ok-rows.rows c.args.self.now c.self.invariant c.self.view_is c.requires c.in_ok-moved.ensures.second
    (subst (λ (t : List Row). AreBlocks c.args.f.now.shape c.args.f.now.rows t c.in_ok-moved.moved) c.as_slice.ensures c.in_ok-moved.ensures.blocks)
    (subst (λ (s : Shape). IsMergedTable s c.in_ok-moved.moved c.in_ok-rows.rows) c.shape.ensures c.in_ok-rows.ensures)
