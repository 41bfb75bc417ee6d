use Rattle.std.proofs.Common.{◌≡◌, ◌≤◌, List, Some, length, slice_get, refl, subst, sym, ap, ◌∙◌}
use Rattle.std.proofs.lemmas.Bool.{false≢true}
use Rattle.std.proofs.lemmas.List.Elements.{All-contains}
use Rattle.ht_types.proofs.EntryLaws.{entry_read}
use Rattle.ht_types.specs.Links.{IsLink}
use Rattle.ht_types.specs.declared.direction.Direction.TheVariants.{Ahead, Behind}
use Rattle.ht_types.specs.declared.link.Link.{Link}
use Rattle.ht_local.proofs.LinksInside.{all_crossings, end_inside, no_crossing, no_crossings, one_crossing}
use Rattle.ht_local.proofs.PlaceLaws.{entry_listed}
use Rattle.ht_local.proofs.crossing.crossings.Goals as goal
use Rattle.ht_local.proofs.crossing.crossings.Goals.{After-link-item, then-is_inside+in_ok-push, else-is_inside}

-- the link stands at its place
link_at : (c : After-link-item) → slice_get c.args.links.now c.links.place ≡ Some c.link-item.result
link_at c = subst (λ (links : List Link). slice_get links c.links.place ≡ Some c.link-item.result) c.as_slice-link-items.ensures
    (entry_read c.as_slice-link-items.result.now c.links.place c.link-item.result c.link-item.result c.links-test.true c.link-item.is refl)

is_link : (c : After-link-item) → IsLink c.args.f.now c.link-item.result
is_link c = All-contains (IsLink c.args.f.now) c.args.links.now c.link-item.result c.requires.links
    (entry_listed c.args.links.now c.links.place c.link-item.result (link_at c))

pub links-init : goal.links-init
links-init c = rw c.new-found.ensures no_crossings

pub with_ends-requires-clause-ahead : goal.with_ends-requires-clause-ahead
with_ends-requires-clause-ahead c =
    let link = is_link ((goal.at.with_ends-requires-clause-ahead c).After-link-item) in
    end_inside c.keeps_kinds.ensures c.args.k.now c.requires.atom Ahead c.link-item.result link (c.is_inside.ensures.0 c.if-is_inside.true)

pub with_ends-requires-clause-behind : goal.with_ends-requires-clause-behind
with_ends-requires-clause-behind c =
    let link = is_link ((goal.at.with_ends-requires-clause-behind c).After-link-item) in
    end_inside c.keeps_kinds.ensures c.args.k.now c.requires.atom Behind c.link-item.result link (c.is_inside.ensures.0 c.if-is_inside.true)

pub links-preserved : goal.links-preserved
links-preserved c =
    let here = link_at ((goal.at.links-preserved c).After-link-item) in
    elim c.if-is_inside.branch [
      | then-is_inside+in_ok-push w ↦
          let e = w.with_ends.ensures in
          rw (w.found-is, w.in_ok-push.ensures.ok) (one_crossing c.links.invariant w.with_ends.result e.link (record {
            link = c.link-item.result;
            here = ap (slice_get c.args.links.now) e.link ∙ here;
            under = c.is_inside.ensures.0 w.if-is_inside.true;
            ahead = e.ahead;
            behind = e.behind;
          }))
      | else-is_inside w ↦ rw w.found-is (no_crossing c.links.invariant c.link-item.result here
          (λ under. false≢true (sym w.if-is_inside.false ∙ c.is_inside.ensures.1 under)))
    ]

pub returns : goal.returns
returns c = all_crossings c.links.invariant (subst (λ (links : List Link). length links ≤ c.links.place) c.as_slice-link-items.ensures c.links-test.false)
