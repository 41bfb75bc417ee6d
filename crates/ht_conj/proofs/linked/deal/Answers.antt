use Rattle.std.proofs.Common.{◌∙◌, List, length, All, sym, subst, rules}
use Rattle.std.proofs.lemmas.List.{map-id}
use Rattle.std.proofs.lemmas.Iterator.Adapters.{YieldsList-from_vec}
use Rattle.std.proofs.lemmas.Iterator.Consumers.{YieldsList-end, YieldsList-turn}
use Rattle.ht_types.specs.Links.{IsLink}
use Rattle.ht_types.specs.declared.link.Link.{Link}
use Rattle.ht_conj.specs.LinkedAtoms.{AreDealt, HaveOwners}
use Rattle.ht_conj.proofs.LinkedAtomLaws.{dealt_more, dealt_none}
use Rattle.ht_conj.proofs.linked.deal.Goals as goal
use Rattle.ht_conj.proofs.linked.deal.Goals.{In-Some}

is_link : (c : In-Some) → IsLink c.args.t.now c.in-Some.link
is_link c =
    let turn = YieldsList-turn (YieldsList-from_vec c.into_vec-link-items.result.items (search rules) (search rules)) c.loop-link.yielded _ c.loop-link.yielded_by _ c.next.new.self c.in-Some.link c.in-Some.is c.next.ensures.steps in
    subst (IsLink c.args.t.now) (sym turn.1) (subst (λ (links : List Link). All (IsLink c.args.t.now) links) (sym c.into_vec-link-items.ensures) c.requires.links (length c.loop-link.yielded) c.in-Some.link turn.0)

pub loop-link-init : goal.loop-link-init
loop-link-init c = dealt_none c.args.t.now c.args.atoms.now c.requires.before

pub add_link-requires-clause-link : goal.add_link-requires-clause-link
add_link-requires-clause-link c = is_link (goal.at.add_link-requires-clause-link c).In-Some

pub add_link-requires-clause-owners : goal.add_link-requires-clause-owners
add_link-requires-clause-owners c = subst (λ atoms. HaveOwners c.args.t.now atoms c.args.owners.now) (sym c.loop-link.invariant.same) c.requires.owners

pub loop-link-preserved : goal.loop-link-preserved
loop-link-preserved c = dealt_more (is_link (goal.at.loop-link-preserved c).In-Some) c.loop-link.invariant c.in_ok-add_link.ensures

pub returns : goal.returns
returns c =
    let end = YieldsList-end (YieldsList-from_vec c.into_vec-link-items.result.items (search rules) (search rules)) c.loop-link.yielded _ c.loop-link.yielded_by _ c.next.new.self c.in-None.is c.next.ensures.steps in
    subst (λ (links : List Link). AreDealt c.args.t.now links c.args.atoms.now c.loop-link.atoms) (sym (map-id c.loop-link.yielded) ∙ end.0 ∙ c.into_vec-link-items.ensures) c.loop-link.invariant
