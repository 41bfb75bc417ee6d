use Rattle.std.proofs.Common.{◌++◌, ◌∷◌, ◌∙◌, [], List, ℕ, length, All, sym, subst, rules}
use Rattle.std.proofs.lemmas.List.{map-id}
use Rattle.std.proofs.lemmas.Iterator.Adapters.{YieldsList-from_vec}
use Rattle.std.proofs.lemmas.Iterator.Consumers.{YieldsList-end, YieldsList-turn}
use Rattle.ht_pair.specs.Atoms.{IsAtom}
use Rattle.ht_conj.specs.LinkedAtoms.{ArePrepared}
use Rattle.ht_conj.specs.declared.linked.LinkedAtom.{LinkedAtom}
use Rattle.ht_conj.proofs.LinkedAtomLaws.{prepared_more, prepared_none}
use Rattle.ht_conj.proofs.linked.without_links.Goals as goal

pub loop-places-init : goal.loop-places-init
loop-places-init c = subst (ArePrepared c.args.t.now []) (sym c.new-linked.ensures.items) (prepared_none c.args.t.now)

pub ends_of-requires : goal.ends_of-requires
ends_of-requires c =
    let t = c.args.t.now in
    let is = IsAtom t.element.shape t.element.rows t.quasi.basis.words in
    let turn = YieldsList-turn (YieldsList-from_vec c.into_vec-places-items.result.items (search rules) (search rules)) c.loop-places.yielded _ c.loop-places.yielded_by _ c.next.new.self c.in-Some.places c.in-Some.is c.next.ensures.steps in
    subst is (sym turn.1) (subst (λ (atoms : List (List ℕ)). All is atoms) (sym c.into_vec-places-items.ensures) c.requires (length c.loop-places.yielded) c.in-Some.places turn.0)

pub loop-places-preserved : goal.loop-places-preserved
loop-places-preserved c =
    let atom : LinkedAtom = record { places = c.in-Some.places; ends = c.in_ok-ends.ends; links = c.new-links.result } in
    subst (ArePrepared c.args.t.now (c.loop-places.yielded ++ c.in-Some.places ∷ [])) (sym {A = List LinkedAtom} c.in_ok-push.ensures.items)
    (prepared_more atom c.in_ok-ends.ensures c.new-links.ensures c.loop-places.invariant)

pub returns : goal.returns
returns c =
    let end = YieldsList-end (YieldsList-from_vec c.into_vec-places-items.result.items (search rules) (search rules)) c.loop-places.yielded _ c.loop-places.yielded_by _ c.next.new.self c.in-None.is c.next.ensures.steps in
    subst (λ (places : List (List ℕ)). ArePrepared c.args.t.now places c.loop-places.linked.items) (sym (map-id c.loop-places.yielded) ∙ end.0 ∙ c.into_vec-places-items.ensures) c.loop-places.invariant
