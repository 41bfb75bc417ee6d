use Rattle.std.proofs.Common.{◌∙◌, subst}
use Rattle.std.proofs.lemmas.Result.{IfOk-weaker}
use Rattle.ht_word.specs.declared.shape.Shape.{Shape}
use Rattle.ht_pair.specs.Actions.{IsCanonical}
use Rattle.ht_ops.specs.Blocks.{IsFullProduct}
use Rattle.ht_quasi.specs.Quasis.{IsYOf}
use Rattle.ht_quasi.proofs.YLaws.{kept_given, y_given}
use Rattle.ht_quasi.proofs.y.y_rows.Goals as goal

pub full_product-requires-clause-first : goal.full_product-requires-clause-first
full_product-requires-clause-first c =
    (kept_given c.args.basis.now.shape c.shape.result c.args.basis.now.words c.as_slice.result.now c.shape.ensures (c.as_slice.ensures ∙ c.in_ok-kept.ensures.rows) c.kept_rows.ensures.held).0

pub full_product-requires-clause-ascending : goal.full_product-requires-clause-ascending
full_product-requires-clause-ascending c =
    (kept_given c.args.basis.now.shape c.shape.result c.args.basis.now.words c.as_slice.result.now c.shape.ensures (c.as_slice.ensures ∙ c.in_ok-kept.ensures.rows) c.kept_rows.ensures.held).1

pub full_product-requires-2-clause-second : goal.full_product-requires-2-clause-second
full_product-requires-2-clause-second c =
    (kept_given c.args.basis.now.shape c.shape-2.result c.args.basis.now.words c.as_slice-3.result.now c.shape-2.ensures (c.as_slice-3.ensures ∙ c.in_ok-kept.ensures.rows) c.kept_rows.ensures.held).0

pub full_product-requires-2-clause-others_ascending : goal.full_product-requires-2-clause-others_ascending
full_product-requires-2-clause-others_ascending c =
    (kept_given c.args.basis.now.shape c.shape-2.result c.args.basis.now.words c.as_slice-3.result.now c.shape-2.ensures (c.as_slice-3.ensures ∙ c.in_ok-kept.ensures.rows) c.kept_rows.ensures.held).1

pub returns : goal.returns
returns c =
    IfOk-weaker c.full_product-2.result (IsFullProduct c.shape-2.result c.as_slice-2.result.now c.as_slice-3.result.now) (IsYOf c.args.basis.now.shape c.args.a.now.rows c.args.basis.now.words)
    (λ y second.
    y_given c.args.basis.now.shape c.shape.result c.shape-2.result c.args.a.now.rows c.as_rows.result.now c.args.basis.now.words c.as_slice.result.now c.as_slice-3.result.now c.in_ok-common.common c.as_slice-2.result.now y
    c.shape.ensures c.shape-2.ensures c.as_rows.ensures (c.as_slice.ensures ∙ c.in_ok-kept.ensures.rows) (c.as_slice-3.ensures ∙ c.in_ok-kept.ensures.rows) c.as_slice-2.ensures
    (subst (λ (s : Shape). IsCanonical s c.args.a.now.rows) c.requires c.keeps_limits.ensures.canonical) c.kept_rows.ensures.held c.in_ok-common.ensures second)
    c.full_product-2.ensures
