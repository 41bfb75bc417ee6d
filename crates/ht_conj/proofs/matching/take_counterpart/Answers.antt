use Rattle.std.proofs.Common.{◌≡◌, ◌∙◌, refl, List, get_or, set, Some, slice_get, sym, ap, subst, arith}
use Rattle.std.proofs.lemmas.List.{set-get_or, take_all}
use Rattle.std.proofs.lemmas.List.Elements.{All-nil, All-contains}
use Rattle.std.proofs.lemmas.Option.{slice_get-get_or}
use Rattle.ht_conj.specs.Classes.{AreConjugateAtoms, IsClass, all_of}
use Rattle.ht_conj.specs.Matchings.{IsCounterpart, NoneConjugate, TellsIn}
use Rattle.ht_conj.specs.declared.linked.LinkedAtom.{LinkedAtom}
use Rattle.ht_conj.proofs.FoundAtoms.{found_among, listed_there, none_more}
use Rattle.ht_conj.proofs.matching.take_counterpart.Given.{Over}
use Rattle.ht_conj.proofs.matching.take_counterpart.Goals as goal
use Rattle.ht_conj.proofs.matching.take_counterpart.Goals.{After-index-classes-index}

-- the class of the turn
abbrev turn : (g : Over) → After-index-classes-index g → List LinkedAtom
turn g c = get_or c.loop-index.classes c.loop-index.index c.index-classes-index.result

here : (g : Over) (c : After-index-classes-index g) → slice_get c.args.classes.now c.loop-index.index ≡ Some (turn g c)
here g c =
    ap (λ (classes : List (List LinkedAtom)). slice_get classes c.loop-index.index) (sym c.loop-index.invariant.0)
    ∙ slice_get-get_or c.loop-index.classes c.loop-index.index c.index-classes-index.result (omega (arith, c.loop-index-test.true, c.loop-index.auto.classes))

pub loop-index-init : goal.loop-index-init
loop-index-init g c = (refl, All-nil (λ (k : LinkedAtom). ¬ AreConjugateAtoms c.args.f.now c.args.atom.now c.args.g.now k))

pub take_from-requires-clause-class : goal.take_from-requires-clause-class
take_from-requires-clause-class g c = All-contains (IsClass c.args.g.now) c.args.classes.now (turn g c) c.requires.classes (listed_there c.args.classes.now c.loop-index.index (turn g c) (here g c))

pub returns-in-Some : goal.returns-in-Some
returns-in-Some g c =
    let f = c.args.f.now in
    let t = c.args.g.now in
    let at = (goal.at.returns-in-Some g c).After-index-classes-index in
    let found = subst (TellsIn f c.args.atom.now t (turn g at) c.take_from.new.class) c.in-Some.is c.in_ok-rows.ensures in
    subst (λ (classes : List (List LinkedAtom)). IsCounterpart f c.args.atom.now t c.args.classes.now (set classes c.loop-index.index c.take_from.new.class) c.in-Some.rows) (sym c.loop-index.invariant.0)
    (found_among f c.args.atom.now t c.args.classes.now c.loop-index.index (turn g at) (here g at) c.requires.classes found)

pub loop-index-preserved : goal.loop-index-preserved
loop-index-preserved g c =
    let f = c.args.f.now in
    let t = c.args.g.now in
    let at = (goal.at.loop-index-preserved g c).After-index-classes-index in
    let told = subst (TellsIn f c.args.atom.now t (turn g at) c.take_from.new.class) c.in_default.is c.in_ok-rows.ensures in (
      ap (set c.loop-index.classes c.loop-index.index) told.0 ∙ set-get_or c.loop-index.classes c.loop-index.index c.index-classes-index.result ∙ c.loop-index.invariant.0,
      none_more f c.args.atom.now t c.args.classes.now c.loop-index.index (turn g at) (here g at) c.loop-index.invariant.1 told.1,
    )

pub returns : goal.returns
returns g c = subst (NoneConjugate c.args.f.now c.args.atom.now c.args.g.now) (ap all_of (take_all c.loop-index.index c.args.classes.now (omega (arith, c.loop-index-test.false)))) c.loop-index.invariant.1
