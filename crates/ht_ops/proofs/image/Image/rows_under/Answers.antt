use Rattle.std.proofs.Common.{◌≡◌, List, map, ap, ◌∙◌}
use Rattle.ht_pair.specs.Images.{Entry}
use Rattle.ht_pair.specs.declared.row.Row.{Row}
use Rattle.std.proofs.lemmas.Result.{IfOk-weaker}
use Rattle.ht_ops.proofs.ImageSteps.{moved_under, entry_under, rows_under}
use Rattle.ht_ops.proofs.image.Image.rows_under.Goals as goal

pub returns : goal.returns
returns c =
    let u = c.args.base.now in
    IfOk-weaker c.rows_behind.result (λ (rows : List Row). rows ≡ map (moved_under u) c.as_slice.result.now) (λ (rows : List Row). rows ≡ map (entry_under u) c.args.self.now)
    (λ rows e. e ∙ ap (λ (p : List Row). map (moved_under u) p) c.as_slice.ensures ∙ rows_under u c.self.inside.rows ∙ ap (λ (L : List Entry). map (entry_under u) L) c.self.view_is)
    c.rows_behind.ensures
