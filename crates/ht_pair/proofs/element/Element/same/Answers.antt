use Rattle.std.proofs.Common.{◌≡◌, ◌↔◌, ◌∙◌, ap, subst, subst₂, IsTrue}
use Rattle.ht_pair.specs.Actions.{IsCanonical}
use Rattle.ht_pair.specs.Elements.{ElementValue}
use Rattle.ht_pair.proofs.CanonicalLaws.{alike_tested}
use Rattle.ht_pair.proofs.element.Element.same.Goals as goal

rows_tested : (c : goal.After-are_same_rows) → IsTrue c.are_same_rows.result ↔ (c.args.self.now.rows ≡ c.args.other.now.rows)
rows_tested c =
    subst₂ (λ s t. IsTrue c.are_same_rows.result ↔ (s ≡ t)) (c.as_slice.ensures ∙ ap (λ (e : ElementValue). e.rows) c.self.view_is)
    (c.as_slice-2.ensures ∙ ap (λ (e : ElementValue). e.rows) c.other.view_is) c.are_same_rows.ensures

pub returns-clause-alike : goal.returns-clause-alike
returns-clause-alike c =
    let canonical : IsCanonical c.args.self.now.shape c.args.self.now.rows = subst (λ (e : ElementValue). IsCanonical e.shape e.rows) c.self.view_is c.self.invariant.canonical in
    let other : IsCanonical c.args.other.now.shape c.args.other.now.rows = subst (λ (e : ElementValue). IsCanonical e.shape e.rows) c.other.view_is c.other.invariant.canonical in
    alike_tested c.args.self.now c.args.other.now c.are_same_rows.result c.requires canonical other (rows_tested c)

pub returns-clause-rows : goal.returns-clause-rows
returns-clause-rows c = rows_tested c
