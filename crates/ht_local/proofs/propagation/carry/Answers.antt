use Rattle.std.proofs.Common.{◌≡◌, None, Some, true, set, get_or, slice_get, sym, ap, ◌∙◌, subst, arith}
use Rattle.std.proofs.lemmas.Option.{same_Some, slice_get_within}
use Rattle.ht_types.proofs.EntryLaws.{entry_read}
use Rattle.ht_types.specs.Flows.{opposite}
use Rattle.ht_local.specs.Crossings.{IsRightAcross}
use Rattle.ht_local.specs.Propagations.{end_of}
use Rattle.ht_local.proofs.PropagationLaws.{AreCarried, carried_none, carried_set, fewer_unknown, near_held}
use Rattle.ht_local.proofs.propagation.carry.Given.{Over}
use Rattle.ht_local.proofs.propagation.carry.Goals as goal
use Rattle.ht_local.proofs.propagation.carry.Goals.{After-at-link, In_ok-value, Joined-index_mut}

-- the value that is known
near_at : (o : Over) (c : After-at-link o) → slice_get c.args.known.now.items (end_of c.args.direction c.args.crossing.now) ≡ Some (Some c.in-Some.near)
near_at o c =
    let items = c.args.known.now.items in
    let from = end_of c.args.direction c.args.crossing.now in
    entry_read items from c.index.result.now (Some c.in-Some.near) (slice_get_within items from _ c.requires.near.1)
    (c.index.ensures ∙ ap (λ i. get_or items i c.index.result.now) c.ends_in-from.ensures.from) c.in-Some.is

pub across-requires-clause-near : goal.across-requires-clause-near
across-requires-clause-near o c = near_held c.requires.links c.requires.crossing c.requires.known c.args.direction c.in-Some.near (near_at o c)

-- what is told of its link
across_is : (o : Over) (c : In_ok-value o) → IsRightAcross c.args.f.now c.args.g.now c.requires.crossing.link c.args.direction c.in-Some.near c.in_ok-value.field-0
across_is o c =
    let r = c.requires.crossing in
    subst (λ link. IsRightAcross c.args.f.now c.args.g.now link c.args.direction c.in-Some.near c.in_ok-value.field-0)
    (same_Some c.at-link.result.now r.link (sym c.at-link.ensures ∙ r.here)) c.in_ok-value.ensures.right

pub returns-in_default-2-clause-right : goal.returns-in_default-2-clause-right
returns-in_default-2-clause-right o c =
    let at = goal.at.returns-in_default-2-clause-right o c in
    carried_none c.requires.links c.requires.crossing c.requires.known c.args.direction c.in-Some.near (near_at o at.After-at-link)
    (subst (IsRightAcross c.args.f.now c.args.g.now c.requires.crossing.link c.args.direction c.in-Some.near) c.in_default-2.is (across_is o at.In_ok-value)) c.args.known.now.items

pub index_mut-requires : goal.index_mut-requires
index_mut-requires o c =
    let within = slice_get_within c.args.known.now.items (end_of (opposite c.args.direction) c.args.crossing.now) None c.requires.far in
    omega (arith, c.ends_in-from.ensures.to, c.args.known.now.ok.0)

-- the far value is one more
carried : (o : Over) (c : Joined-index_mut o) → AreCarried c.args.f.now c.args.g.now c.args.k.now c.args.known.now.items
    (set c.args.known.now.items (end_of (opposite c.args.direction) c.args.crossing.now) (Some c.in-Some-2.value)) (Some true)
carried o c =
    let at = goal.at.returns-clause-held o c in
    carried_set c.requires.links c.requires.crossing c.requires.known c.args.direction c.in-Some.near (near_at o at.After-at-link) c.requires.far
    c.in-Some-2.value (c.in_ok-value.ensures.held c.in-Some-2.value c.in-Some-2.is)
    (subst (IsRightAcross c.args.f.now c.args.g.now c.requires.crossing.link c.args.direction c.in-Some.near) c.in-Some-2.is (across_is o at.In_ok-value))

pub returns-clause-held : goal.returns-clause-held
returns-clause-held o c = rw c.ends_in-from.ensures.to (carried o c).held

pub returns-clause-stay : goal.returns-clause-stay
returns-clause-stay o c = rw c.ends_in-from.ensures.to (carried o c).stay

pub returns-clause-right : goal.returns-clause-right
returns-clause-right o c = rw c.ends_in-from.ensures.to (carried o c).right

pub returns-clause-told : goal.returns-clause-told
returns-clause-told o c = rw c.ends_in-from.ensures.to (fewer_unknown c.args.known.now.items (end_of (opposite c.args.direction) c.args.crossing.now) c.in-Some-2.value c.requires.far)
