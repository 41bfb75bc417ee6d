use Rattle.std.proofs.Common.{◌≡◌, ◌-◌, ◌∙◌, true≢false, refl, List, length, Some, slice_get, sym, subst}
use Rattle.ht_local.specs.LocalAnswers.{TellsLocal}
use Rattle.ht_conj.specs.Matchings.{IsFoundIn}
use Rattle.ht_conj.specs.declared.linked.LinkedAtom.{LinkedAtom}
use Rattle.ht_conj.proofs.FoundAtoms.{found_last, none_by_ends, none_in}
use Rattle.ht_conj.proofs.OneShape.{AreOfOneShape}
use Rattle.ht_conj.proofs.matching.take_from.Given.{Over}
use Rattle.ht_conj.proofs.matching.take_from.Goals as goal
use Rattle.ht_conj.proofs.matching.take_from.Goals.{After-keeps_kinds-2, In-Some}

both : (g : Over) (c : After-keeps_kinds-2 g) → AreOfOneShape c.args.f.now c.args.g.now
both g c = record { first = c.keeps_kinds.ensures; second = c.keeps_kinds-2.ensures; same = c.requires.shape }

-- what the class ends with
ends : (g : Over) (c : In-Some g) → slice_get c.args.class.now (length c.args.class.now - 1) ≡ Some c.in-Some.last.now
ends g c = subst (λ (class : List LinkedAtom). slice_get class (length class - 1) ≡ Some c.in-Some.last.now) c.as_slice.ensures (sym c.in-Some.ensures.value)

pub returns-then-not-are_equal : goal.returns-then-not-are_equal
returns-then-not-are_equal g c =
    let at = goal.at.returns-then-not-are_equal g c in (
      refl,
      none_by_ends (both g at.After-keeps_kinds-2) c.args.atom.now c.in-Some.last.now c.args.class.now c.requires.atom c.requires.class (ends g at.In-Some)
          (λ same. true≢false (sym (c.are_equal.ensures same) ∙ c.if-not-are_equal.true)),
    )

pub returns-in_default-2 : goal.returns-in_default-2
returns-in_default-2 g c =
    let last = c.in-Some.last.now in
    let told = subst (TellsLocal c.args.f.now c.args.atom.now.places c.args.g.now last.places) c.in_default-2.is c.in_ok-rows.ensures in
    (refl, none_in (both g (goal.at.returns-in_default-2 g c).After-keeps_kinds-2) c.args.atom.now last c.args.class.now c.requires.atom c.requires.class (ends g (goal.at.returns-in_default-2 g c).In-Some) (λ conjugate. told conjugate.0 conjugate.1))

pub returns : goal.returns
returns g c =
    let told = subst (TellsLocal c.args.f.now c.args.atom.now.places c.args.g.now c.in-Some.last.now.places) c.in-Some-2.is c.in_ok-rows.ensures in
    subst (λ new. IsFoundIn c.args.f.now c.args.atom.now c.args.g.now c.args.class.now new c.in-Some-2.rows) (sym c.drop_last.ensures)
    (found_last (ends g (goal.at.returns g c).In-Some) told)
