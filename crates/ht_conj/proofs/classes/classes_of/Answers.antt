use Rattle.std.proofs.Common.{◌∙◌, [], List, All, length, sym, subst, rules}
use Rattle.std.proofs.lemmas.List.{map-id}
use Rattle.std.proofs.lemmas.Iterator.Adapters.{YieldsList-from_vec}
use Rattle.std.proofs.lemmas.Iterator.Consumers.{YieldsList-end, YieldsList-turn}
use Rattle.ht_conj.specs.Classes.{AreClasses}
use Rattle.ht_conj.specs.LinkedAtoms.{IsLinkedAtom}
use Rattle.ht_conj.specs.declared.linked.LinkedAtom.{LinkedAtom}
use Rattle.ht_conj.proofs.ClassLaws.{classes_more, classes_none}
use Rattle.ht_conj.proofs.classes.classes_of.Goals as goal

pub loop-atom-init : goal.loop-atom-init
loop-atom-init g c = subst (AreClasses c.args.t.now []) (sym c.new-classes.ensures.items) (classes_none c.args.t.now)

pub add_atom-requires-clause-atom : goal.add_atom-requires-clause-atom
add_atom-requires-clause-atom g c =
    let turn = YieldsList-turn (YieldsList-from_vec c.into_vec-atom-items.result.items (search rules) (search rules)) c.loop-atom.yielded _ c.loop-atom.yielded_by _ c.next.new.self c.in-Some.atom c.in-Some.is c.next.ensures.steps in
    subst (IsLinkedAtom c.args.t.now) (sym turn.1) (subst (λ (atoms : List LinkedAtom). All (IsLinkedAtom c.args.t.now) atoms) (sym c.into_vec-atom-items.ensures) c.requires.atoms (length c.loop-atom.yielded) c.in-Some.atom turn.0)

pub add_atom-requires-clause-classes : goal.add_atom-requires-clause-classes
add_atom-requires-clause-classes g c = c.loop-atom.invariant.each

pub loop-atom-preserved : goal.loop-atom-preserved
loop-atom-preserved g c = classes_more c.loop-atom.invariant c.in_ok-add_atom.ensures

pub returns : goal.returns
returns g c =
    let end = YieldsList-end (YieldsList-from_vec c.into_vec-atom-items.result.items (search rules) (search rules)) c.loop-atom.yielded _ c.loop-atom.yielded_by _ c.next.new.self c.in-None.is c.next.ensures.steps in
    subst (λ (atoms : List LinkedAtom). AreClasses c.args.t.now atoms c.loop-atom.classes.items) (sym (map-id c.loop-atom.yielded) ∙ end.0 ∙ c.into_vec-atom-items.ensures) c.loop-atom.invariant
