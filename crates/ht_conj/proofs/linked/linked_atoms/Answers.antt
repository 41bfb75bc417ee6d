use Rattle.std.proofs.Common.{◌≡◌, ◌++◌, ◌∙◌, All, ℕ, List, length, map, take, drop, sym, ap, subst, subst₂, arith, rules}
use Rattle.ht_atoms.specs.AtomLists.{AreAtoms}
use Rattle.ht_conj.specs.LinkedAtoms.{AreLinkedAtoms, HaveOwners, IsPreparedAtom, places_of}
use Rattle.ht_conj.specs.declared.linked.LinkedAtom.{LinkedAtom}
use Rattle.ht_conj.proofs.LinkedAtomLaws.{linked_are, owners_have}
use Rattle.ht_local.proofs.SlotLaws.{written_back}
use Rattle.ht_conj.proofs.linked.linked_atoms.Goals as goal
use Rattle.ht_conj.proofs.linked.linked_atoms.Goals.{After-deref_mut}

-- the atoms that the links are dealt out to
places_are : (c : After-deref_mut) → map places_of c.deref_mut.result.now ≡ c.in_ok-atoms.atoms
places_are c = ap (λ (atoms : List LinkedAtom). map places_of atoms) c.deref_mut.ensures.value ∙ c.in_ok-linked.ensures.same

pub owners-requires : goal.owners-requires
owners-requires c = c.in_ok-atoms.ensures.each

pub without_links-requires : goal.without_links-requires
without_links-requires c = c.in_ok-atoms.ensures.each

pub deal-requires-clause-links : goal.deal-requires-clause-links
deal-requires-clause-links c = search rules

pub deal-requires-clause-owners : goal.deal-requires-clause-owners
deal-requires-clause-owners c =
    subst₂ (λ (atoms : List (List ℕ)) (owners : List ℕ). HaveOwners c.args.t.now atoms owners) (sym (places_are c)) (sym c.deref.ensures.value)
    (owners_have c.args.t.now c.in_ok-atoms.atoms c.in_ok-owners.owners.items c.keeps_kinds.ensures c.in_ok-atoms.ensures c.in_ok-owners.ensures)

pub deal-requires-clause-before : goal.deal-requires-clause-before
deal-requires-clause-before c = subst (All (IsPreparedAtom c.args.t.now)) (sym c.deref_mut.ensures.value) c.in_ok-linked.ensures.each

pub returns : goal.returns
returns c =
    let t = c.args.t.now in
    let linked = c.in_ok-linked.linked in
    let old = c.deref_mut.result.now in
    let new = c.deal.new.atoms in
    let whole : take linked.len (new ++ drop (length new) linked.items) ≡ new = written_back new linked.items linked.len (omega (arith, c.deal.auto.atoms, c.deref_mut.ensures.len)) in
    let are = subst (λ (atoms : List (List ℕ)). AreAtoms t.element.shape t.element.rows t.quasi.basis.words atoms) (sym (places_are (goal.at.returns c).After-deref_mut)) c.in_ok-atoms.ensures in
    subst (AreLinkedAtoms t) (sym (c.from_vec.ensures ∙ whole)) (linked_are t c.in_ok-links.links old new c.keeps_kinds.ensures are c.in_ok-links.ensures.connected c.in_ok-deal.ensures)
