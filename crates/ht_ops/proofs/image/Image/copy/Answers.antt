use Rattle.ht_ops.proofs.ImageSteps.{copied_behind, copied}
use Rattle.ht_ops.proofs.image.Image.copy.Goals as goal

pub invariant_of-result : goal.invariant_of-result
invariant_of-result c = copied_behind c.new-root.result c.as_slice.result.now c.in_ok-rows.rows c.new-root.ensures c.in_ok-rows.ensures

pub returns : goal.returns
returns c = copied c.new-root.result c.self.inside.rows c.as_slice.result.now c.in_ok-rows.rows c.args.self.now c.new-root.ensures c.as_slice.ensures c.self.view_is c.in_ok-rows.ensures
