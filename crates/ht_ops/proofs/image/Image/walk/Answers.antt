use Rattle.std.proofs.Common.{ap, ◌∙◌}
use Rattle.std.specs.Int.{w128}
use Rattle.std.proofs.lemmas.Int.{to_z-of_z}
use Rattle.std.specs.Int.RustNames.{unsigned_abs}
use Rattle.ht_ops.proofs.Walking.{below_none, from_none, walked_ahead, walked_back}
use Rattle.ht_ops.proofs.image.Image.walk.Goals as goal

pub returns-in_ok-back : goal.returns-in_ok-back
returns-in_ok-back c =
    walked_back c.args.f.now.shape c.in_ok-back.back.shape c.args.self.now c.args.f.now.rows c.in_ok-back.back.rows c.args.k c.unsigned_abs.result c.walk_by.result c.in_ok-back.ensures.0 c.keeps_limits.ensures.pair
    c.in_ok-back.ensures.1 (c.unsigned_abs.ensures.value ∙ ap unsigned_abs (to_z-of_z w128 c.args.k c.ranges.k)) (below_none c.args.k _ (to_z-of_z w128 c.args.k c.ranges.k) c.if-k-lt0.true) c.walk_by.ensures

pub returns-else-k-lt0 : goal.returns-else-k-lt0
returns-else-k-lt0 c =
    walked_ahead c.args.f.now.shape c.args.self.now c.args.f.now.rows c.args.k c.unsigned_abs-else-k-lt0.result c.walk_by-else-k-lt0.result c.keeps_limits.ensures.pair
    (c.unsigned_abs-else-k-lt0.ensures.value ∙ ap unsigned_abs (to_z-of_z w128 c.args.k c.ranges.k)) (from_none c.args.k _ (to_z-of_z w128 c.args.k c.ranges.k) c.if-k-lt0.false) c.walk_by-else-k-lt0.ensures
