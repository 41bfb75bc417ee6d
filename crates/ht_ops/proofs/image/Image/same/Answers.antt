use Rattle.std.proofs.Common.{◌∙◌, List, sym, ap}
use Rattle.ht_pair.specs.declared.row.Row.{Row}
use Rattle.ht_ops.proofs.BehindLaws.{same_kept}
use Rattle.ht_ops.specs.ImageRows.{entries_of}
use Rattle.ht_ops.proofs.image.Image.same.Goals as goal

-- the entries are the same exactly where the rows are
pub returns : goal.returns
returns c =
    let tested = c.are_same_rows.ensures in (
      (λ t. sym c.self.view_is ∙ ap (λ (p : List Row). entries_of p) (sym c.as_slice.ensures ∙ tested.0 t ∙ c.as_slice-2.ensures) ∙ c.other.view_is),
      (λ same. tested.1 (c.as_slice.ensures ∙ same_kept c.self.inside.rows c.other.inside.rows c.self.invariant c.other.invariant (c.self.view_is ∙ same ∙ sym c.other.view_is) ∙ sym c.as_slice-2.ensures)),
    )
