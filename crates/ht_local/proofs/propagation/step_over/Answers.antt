use Rattle.std.proofs.Common.{refl, sym, arith}
use Rattle.std.proofs.lemmas.Option.{slice_get_within}
use Rattle.ht_types.proofs.EntryLaws.{entry_read}
use Rattle.ht_local.proofs.PropagationLaws.{IsOneKnown, one_known}
use Rattle.ht_local.proofs.propagation.step_over.Given.{Over}
use Rattle.ht_local.proofs.propagation.step_over.Goals as goal
use Rattle.ht_local.proofs.propagation.step_over.Goals.{Joined-ahead, then-ahead, else-ahead}

-- one end is known, the other one isn't
one : (o : Over) (c : Joined-ahead o) → IsOneKnown c.args.known.now.items c.args.crossing.now c.if-ahead.direction
one o c =
    let items = c.args.known.now.items in
    let crossing = c.args.crossing.now in
    let r = c.requires.crossing in
    let many = c.requires.known.as_many in
    let ahead = entry_read items crossing.ahead c.index.result.now c.index.result.now
    (omega (arith, slice_get_within c.args.k.now crossing.ahead r.link.ahead.to r.ahead)) c.index.ensures refl in
    let behind = entry_read items crossing.behind c.index-2.result.now c.index-2.result.now
    (omega (arith, slice_get_within c.args.k.now crossing.behind r.link.behind.to r.behind)) c.index-2.ensures refl in
    one_known items crossing c.index.result.now c.index-2.result.now ahead behind
    (rw (sym c.is_some-ahead.ensures, sym c.is_some-behind.ensures) c.if-ahead-behind.false) c.if-ahead.direction
    (rw (sym c.is_some-ahead.ensures) (elim c.if-ahead.branch [ then-ahead w ↦ rw w.if-ahead.true w.direction-is | else-ahead w ↦ rw w.if-ahead.false w.direction-is ]))

pub carry-requires-clause-near : goal.carry-requires-clause-near
carry-requires-clause-near o c = (one o ((goal.at.carry-requires-clause-near o c).Joined-ahead)).near

pub carry-requires-clause-far : goal.carry-requires-clause-far
carry-requires-clause-far o c = (one o ((goal.at.carry-requires-clause-far o c).Joined-ahead)).far
