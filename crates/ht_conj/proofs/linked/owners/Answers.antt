use Rattle.std.proofs.Common.{◌≡◌, ◌+◌, ℕ, List, Some, slice_get, length, take, drop, ◌++◌, ap, subst, sym, ◌∙◌, arith}
use Rattle.std.proofs.lemmas.Option.{slice_get-get_or}
use Rattle.ht_quasi.specs.declared.quasi.Quasi.{Quasi}
use Rattle.ht_local.proofs.SlotLaws.{written_back}
use Rattle.ht_conj.proofs.OwnerLaws.{AreOwnersBelow, owners_all, owners_more, places_within}
use Rattle.ht_conj.proofs.linked.owners.Goals as goal
use Rattle.ht_conj.proofs.linked.owners.Goals.{After-deref_mut}

-- the atom of the turn stands at the index
here : (c : After-deref_mut) → slice_get c.args.atoms.now c.loop-index.index ≡ Some c.places-item.result
here c =
    subst (λ (atoms : List (List ℕ)). slice_get atoms c.loop-index.index ≡ Some c.places-item.result) c.as_slice-places-items.ensures
    (slice_get-get_or c.as_slice-places-items.result.now c.loop-index.index c.places-item.result c.loop-index-test.true ∙ ap (λ p. Some p) (sym c.places-item.is))

pub loop-index-init : goal.loop-index-init
loop-index-init c =
    let many : length c.words.result.now ≡ length c.args.t.now.quasi.basis.words = ap length (c.words.ensures.words ∙ ap (λ (q : Quasi). q.basis.words) c.quasi.ensures.quasi) in
    (omega (arith, c.in_ok-owners.owners.ok.0, c.in_ok-owners.ensures.len, c.len.ensures, many), λ places i place l. absurd (omega arith))

pub own-requires : goal.own-requires
own-requires c =
    let first = c.loop-index.invariant.0 in
    places_within c.args.t.now c.args.atoms.now c.loop-index.index c.places-item.result c.requires (here c) (length c.deref_mut.result.now) (omega (arith, c.deref_mut.ensures.len, first, c.loop-index.owners.ok.0))

pub loop-index-preserved : goal.loop-index-preserved
loop-index-preserved c =
    let owners = c.loop-index.owners in
    let first = c.loop-index.invariant.0 in
    let whole : take owners.len (c.own.new.owners ++ drop (length c.own.new.owners) owners.items) ≡ c.own.new.owners =
    written_back c.own.new.owners owners.items owners.len (omega (arith, c.own.ensures.many, c.deref_mut.ensures.len, owners.ok.0)) in
    let within = places_within c.args.t.now c.args.atoms.now c.loop-index.index c.places-item.result c.requires (here (goal.at.loop-index-preserved c).After-deref_mut) (length c.deref_mut.result.now) (omega (arith, c.deref_mut.ensures.len, first, owners.ok.0)) in
    let before = subst (AreOwnersBelow c.args.atoms.now c.loop-index.index) (sym c.deref_mut.ensures.value) c.loop-index.invariant.1 in
    subst (λ (items : List ℕ). (length items ≡ length c.args.t.now.quasi.basis.words) × AreOwnersBelow c.args.atoms.now (c.loop-index.index + 1) items) (sym whole) (
      omega (arith, c.own.ensures.many, c.deref_mut.ensures.len, first, owners.ok.0),
      owners_more c.args.atoms.now c.loop-index.index c.deref_mut.result.now c.own.new.owners c.places-item.result (here (goal.at.loop-index-preserved c).After-deref_mut) c.own.ensures.many within c.own.ensures.own c.own.ensures.other before,
    )

pub returns : goal.returns
returns c =
    let many : length c.as_slice-places-items.result.now ≡ length c.args.atoms.now = ap length c.as_slice-places-items.ensures in
    owners_all c.args.atoms.now c.loop-index.index c.loop-index.owners.items (omega (arith, c.loop-index-test.false, many)) c.loop-index.invariant.1
