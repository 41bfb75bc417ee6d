use Rattle.std.proofs.Common.{◌≡◌, ◌++◌, ◌∷◌, [], ◌∙◌, List, Some, set, slice_get, sym, ap, subst, subst₂, arith}
use Rattle.std.proofs.lemmas.Option.{get_or_from_slice_get, slice_get_within}
use Rattle.std.proofs.lemmas.Result.{on_ok_weaker}
use Rattle.ht_conj.specs.ClassChanges.{IsAddedTo}
use Rattle.ht_conj.specs.Classes.{AreInClass, TellsClass}
use Rattle.ht_conj.specs.declared.linked.LinkedAtom.{LinkedAtom}
use Rattle.ht_conj.proofs.ClassLaws.{added_alone, added_in}
use Rattle.ht_conj.proofs.classes.add_atom.Given.{Over}
use Rattle.ht_conj.proofs.classes.add_atom.Goals as goal
use Rattle.ht_conj.proofs.classes.add_atom.Goals.{In-Some}

-- the class that the atom is in
found : (g : Over) (c : In-Some g) → (class : List LinkedAtom) × (slice_get c.args.classes.now.items c.in-Some.index ≡ Some class) × AreInClass c.args.t.now c.args.atom class
found g c = subst₂ (TellsClass c.args.t.now c.args.atom) c.as_slice.ensures.value c.in-Some.is c.in_ok-index.ensures

pub returns-in_default : goal.returns-in_default
returns-in_default g c =
    subst (IsAddedTo c.args.t.now c.args.atom c.args.classes.now.items) (sym c.in_ok-push-2.ensures.items)
    (added_alone c.args.t.now c.args.classes.now.items c.push.new.self c.args.atom (c.in_ok-push.ensures.ok ∙ ap (λ (class : List LinkedAtom). class ++ c.args.atom ∷ []) c.new-class.ensures) c.requires.classes c.requires.atom)

pub index_mut-requires : goal.index_mut-requires
index_mut-requires g c =
    let class = found g (goal.at.index_mut-requires g c).In-Some in
    let l = slice_get_within c.args.classes.now.items c.in-Some.index class.0 class.1 in
    omega (arith, l, c.args.classes.now.ok.0)

pub returns : goal.returns
returns g c =
    let t = c.args.t.now in
    let atom = c.args.atom in
    let classes = c.args.classes.now.items in
    let i = c.in-Some.index in
    let class = found g (goal.at.returns g c).In-Some in
    on_ok_weaker c.push-2.result
    (λ pushed.
    let same = c.index_mut.ensures.value ∙ get_or_from_slice_get classes i class.0 _ class.1 in
    subst (λ (new : List LinkedAtom). IsAddedTo t atom classes (set classes i new)) (sym (pushed ∙ ap (λ (k : List LinkedAtom). k ++ atom ∷ []) same))
    (added_in t classes i class.0 atom c.requires.classes class.1 c.requires.atom class.2))
    c.push-2.ensures.ok
