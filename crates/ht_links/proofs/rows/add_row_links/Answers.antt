use Rattle.std.proofs.Common.{◌≡◌, ◌+◌, [], ◌∷◌, ◌++◌, take, sym, ap, ◌∙◌, subst, Contains}
use Rattle.std.proofs.lemmas.List.{take_more}
use Rattle.ht_pair.specs.declared.row.Row.{Row}
use Rattle.ht_quasi.specs.declared.quasi.Quasi.{Quasi}
use Rattle.ht_links.specs.Listing.{AddsRowLinks}
use Rattle.ht_links.proofs.ListingLaws.{row_links_then}
use Rattle.ht_links.proofs.rows.add_row_links.Goals as goal

pub add_row_link-requires : goal.add_row_link-requires
add_row_link-requires c =
    subst (λ rows. Contains rows c.row-item.result) (c.as_slice-row-items.ensures ∙ ap (λ (q : Quasi). q.y) c.quasi.ensures.quasi) (c.loop-row.row-index, c.loop-row-test.true, sym c.row-item.is)

pub loop-row-preserved : goal.loop-row-preserved
loop-row-preserved c =
    let t = c.args.t.now in
    let rows = c.as_slice-row-items.result.now in
    let i = c.loop-row.row-index in
    let row = c.row-item.result in
    let next : take (i + 1) rows ≡ take i rows ++ row ∷ [] = take_more rows i row c.loop-row-test.true ∙ ap (λ (r : Row). take i rows ++ r ∷ []) (sym c.row-item.is) in
    subst (λ z. AddsRowLinks t z c.args.links.now c.add_row_link.new.links) (sym next)
    (row_links_then t (take i rows) (row ∷ []) c.args.links.now c.loop-row.links c.add_row_link.new.links c.loop-row.invariant c.in_ok-add_row_link.ensures)
