use Rattle.std.proofs.Common.{◌≡◌, ◌∙◌, List, Some, slice_get, sym, subst}
use Rattle.ht_conj.specs.declared.linked.LinkedAtom.{LinkedAtom}
use Rattle.ht_conj.proofs.ClassLaws.{first_linked, in_class, told_conjugate}
use Rattle.ht_conj.proofs.classes.is_in_class.Given.{Over}
use Rattle.ht_conj.proofs.classes.is_in_class.Goals as goal
use Rattle.ht_conj.proofs.classes.is_in_class.Goals.{In-Some}

-- what the class begins with
begins : (g : Over) (c : In-Some g) → slice_get c.args.class.now 0 ≡ Some c.in-Some.first.now
begins g c = subst (λ (class : List LinkedAtom). slice_get class 0 ≡ Some c.in-Some.first.now) c.as_slice.ensures (sym c.in-Some.ensures.value)

pub local-requires-clause-connected : goal.local-requires-clause-connected
local-requires-clause-connected g c = (first_linked c.args.t.now c.args.class.now c.in-Some.first.now (begins g (goal.at.local-requires-clause-connected g c).In-Some) c.requires.class).connected

pub returns : goal.returns
returns g c = λ yes.
    let t = c.args.t.now in
    let first = c.in-Some.first.now in
    in_class t c.keeps_kinds.ensures c.args.class.now first c.args.atom.now (begins g (goal.at.returns g c).In-Some) c.requires.class c.requires.atom
    (told_conjugate t t first c.args.atom.now c.in_ok-found.found c.in_ok-found.ensures (sym c.is_some.ensures ∙ yes))
