use Rattle.std.proofs.Common.{◌∙◌, List, Some, All, sym, subst, subst₂}
use Rattle.ht_pair.specs.declared.row.Row.{Row}
use Rattle.ht_conj.specs.Classes.{IsClass}
use Rattle.ht_conj.specs.Stages.{IsStageOf, TellsStage, TellsWhole}
use Rattle.ht_conj.specs.declared.linked.LinkedAtom.{LinkedAtom}
use Rattle.ht_conj.proofs.OneShape.{AreOfOneShape}
use Rattle.ht_conj.proofs.StageEnds.{other_number, stage_begun, stage_ended}
use Rattle.ht_conj.proofs.matching.with_atoms.Given.{Over}
use Rattle.ht_conj.proofs.matching.with_atoms.Goals as goal
use Rattle.ht_conj.proofs.matching.with_atoms.Goals.{After-deref_mut, After-keeps_kinds-2}

both : (g : Over) (c : After-keeps_kinds-2 g) → AreOfOneShape c.args.f.now c.args.g.now
both g c = record { first = c.keeps_kinds.ensures; second = c.keeps_kinds-2.ensures; same = c.requires.shape }

-- the stage that the matches are added at
begun : (g : Over) (c : After-deref_mut g) → AreOfOneShape c.args.f.now c.args.g.now
    → IsStageOf c.args.f.now c.args.g.now c.args.cycles c.as_slice.result.now c.deref_mut.result.now c.into_vec-rows.result.items
begun g c both =
    let at = IsStageOf c.args.f.now c.args.g.now c.args.cycles in
    let many = sym c.len.ensures ∙ c.if-len.false ∙ c.len-2.ensures in
    let first = stage_begun both c.in_ok-first.first c.in_ok-second.second c.in_ok-first.ensures c.in_ok-second.ensures c.args.cycles c.in_ok-classes.classes.items
    c.requires.cycles c.in_ok-classes.ensures many in
    subst (at c.as_slice.result.now c.deref_mut.result.now) (sym c.into_vec-rows.ensures)
    (subst₂ (λ (atoms : List LinkedAtom) (classes : List (List LinkedAtom)). at atoms classes c.args.cycles) (sym c.as_slice.ensures) (sym c.deref_mut.ensures.value) first)

pub returns-then-len : goal.returns-then-len
returns-then-len g c =
    other_number (both g (goal.at.returns-then-len g c).After-keeps_kinds-2) c.in_ok-first.first c.in_ok-second.second c.in_ok-first.ensures c.in_ok-second.ensures (λ same. c.if-len.true (c.len.ensures ∙ same ∙ sym c.len-2.ensures))

pub add_matches-requires-clause-classes : goal.add_matches-requires-clause-classes
add_matches-requires-clause-classes g c =
    subst (λ (classes : List (List LinkedAtom)). All (IsClass c.args.g.now) classes) (sym c.deref_mut.ensures.value) c.in_ok-classes.ensures.each

pub returns-then-not-branch : goal.returns-then-not-branch
returns-then-not-branch g c =
    let told = c.in_ok-add_matches.ensures c.args.cycles (begun g (goal.at.returns-then-not-branch g c).After-deref_mut (both g (goal.at.returns-then-not-branch g c).After-keeps_kinds-2)) in
    subst (TellsStage c.args.f.now c.args.g.now c.args.cycles c.add_matches.new.classes c.add_matches.new.rows.items) c.if-not-branch.true told

pub returns : goal.returns
returns g c =
    let one = both g (goal.at.returns g c).After-keeps_kinds-2 in
    let told = c.in_ok-add_matches.ensures c.args.cycles (begun g (goal.at.returns g c).After-deref_mut one) in
    let stage = subst (TellsStage c.args.f.now c.args.g.now c.args.cycles c.add_matches.new.classes c.add_matches.new.rows.items) c.if-not-branch.false told in
    subst (λ (rows : List Row). TellsWhole c.args.f.now c.args.g.now c.args.cycles (Some rows)) (sym c.from_vec.ensures)
    (stage_ended one c.args.cycles c.add_matches.new.rows.items c.add_matches.new.classes stage)
