use Rattle.std.proofs.Common.{◌≡◌, sym, subst}
use Rattle.std.proofs.lemmas.Result.{IfOk-weaker}
use Rattle.ht_word.specs.declared.shape.Shape.{Shape}
use Rattle.ht_pair.specs.Actions.{IsCanonicalFor}
use Rattle.ht_pair.specs.Elements.{ElementValue}
use Rattle.ht_pair.specs.Pairs.{IsPair}
use Rattle.ht_pair.specs.Products.{IsProduct}
use Rattle.ht_pair.specs.Sizes.{IsLarge}
use Rattle.ht_ops.proofs.AlikeProducts.{product_canonical, made_not_large}
use Rattle.ht_ops.proofs.products.product.Goals as goal

pub of_pair-requires-clause-pair : goal.of_pair-requires-clause-pair
of_pair-requires-clause-pair c = subst (λ (s : Shape). IsPair s c.in_ok-rows.rows) (sym c.shape.ensures) c.in_ok-rows.ensures.product.product.pair

pub returns-clause-product : goal.returns-clause-product
returns-clause-product c =
    let shape = c.args.a.now.shape in
    let p = c.args.a.now.rows in
    let q = c.args.b.now.rows in
    IfOk-weaker c.of_pair.result (λ (e : ElementValue). (e.shape ≡ c.shape.result) × IsCanonicalFor c.shape.result e.rows c.in_ok-rows.rows) (λ (e : ElementValue). (e.shape ≡ shape) × IsProduct shape p q e.rows)
    (λ e h. product_canonical shape c.shape.result p q c.in_ok-rows.rows e c.shape.ensures c.in_ok-rows.ensures.first c.in_ok-rows.ensures.second c.in_ok-rows.ensures.product.product h)
    c.of_pair.ensures.canonical

pub returns-clause-kept : goal.returns-clause-kept
returns-clause-kept c =
    made_not_large c.args.a.now.shape c.shape.result c.args.a.now.rows c.args.b.now.rows c.in_ok-rows.rows c.of_pair.result c.shape.ensures c.in_ok-rows.ensures.first c.in_ok-rows.ensures.second
    c.in_ok-rows.ensures.product.product c.of_pair.ensures.canonical c.of_pair.ensures.small

pub returns-clause-large : goal.returns-clause-large
returns-clause-large c = λ rows letters is.
    (c.in_ok-rows.rows, c.in_ok-rows.ensures.product.product, subst (λ (s : Shape). IsLarge s c.in_ok-rows.rows rows letters) c.shape.ensures (c.of_pair.ensures.large rows letters is))
