use Rattle.std.proofs.Common.{◌≡◌, ◌+◌, ◌∙◌, List, ◌∷◌, ◌++◌, drop, sym, ap, subst, arith}
use Rattle.std.proofs.lemmas.List.{drop_all, drop_more}
use Rattle.ht_pair.specs.declared.row.Row.{Row}
use Rattle.ht_conj.specs.Matchings.{TellsCounterpart}
use Rattle.ht_conj.specs.Stages.{IsStageOf}
use Rattle.ht_conj.specs.declared.linked.LinkedAtom.{LinkedAtom}
use Rattle.ht_conj.proofs.OneShape.{AreOfOneShape}
use Rattle.ht_conj.proofs.StageSteps.{stage_more, stage_stopped}
use Rattle.ht_conj.proofs.matching.add_matches.Given.{Over}
use Rattle.ht_conj.proofs.matching.add_matches.Goals as goal
use Rattle.ht_conj.proofs.matching.add_matches.Goals.{After-atom-item}

both : (g : Over) (c : After-atom-item g) → AreOfOneShape c.args.f.now c.args.g.now
both g c = record { first = c.keeps_kinds.ensures; second = c.keeps_kinds-2.ensures; same = c.requires.shape }

-- the atoms behind that of the turn
abbrev behind : (g : Over) → After-atom-item g → List LinkedAtom
behind g c = drop (c.loop-atom.atom-index + 1) c.args.atoms.now

-- the stage of the rows at the beginning
abbrev Begun : (g : Over) → After-atom-item g → List Row → Type 0
Begun g c cycles = IsStageOf c.args.f.now c.args.g.now cycles c.args.atoms.now c.args.classes.now c.args.rows.now.items

-- the stage of the rows so far
stage : (g : Over) (c : After-atom-item g) (cycles : List Row) → Begun g c cycles
    → IsStageOf c.args.f.now c.args.g.now cycles (c.atom-item.result ∷ behind g c) c.loop-atom.classes c.loop-atom.rows.items
stage g c cycles s =
    let at = λ (atoms : List LinkedAtom). IsStageOf c.args.f.now c.args.g.now cycles atoms c.loop-atom.classes c.loop-atom.rows.items in
    let left = drop_more c.args.atoms.now c.loop-atom.atom-index c.atom-item.result c.loop-atom-test.true in
    subst at (left ∙ ap (λ (atom : LinkedAtom). atom ∷ behind g c) (sym c.atom-item.is)) (c.loop-atom.invariant.1 cycles s)

pub loop-atom-init : goal.loop-atom-init
loop-atom-init g c = (c.requires.classes, λ cycles s. s)

pub take_counterpart-requires-clause-classes : goal.take_counterpart-requires-clause-classes
take_counterpart-requires-clause-classes g c = c.loop-atom.invariant.0

pub returns-in_default : goal.returns-in_default
returns-in_default g c = λ cycles s.
    let at = (goal.at.returns-in_default g c).After-atom-item in
    let tells = TellsCounterpart c.args.f.now c.atom-item.result c.args.g.now c.loop-atom.classes c.take_counterpart.new.classes in
    stage_stopped (both g at) c.atom-item.result (behind g at) c.loop-atom.classes (stage g at cycles s) (subst tells c.in_default.is c.in_ok-more.ensures)

pub loop-atom-preserved : goal.loop-atom-preserved
loop-atom-preserved g c =
    let at = (goal.at.loop-atom-preserved g c).After-atom-item in
    let tells = TellsCounterpart c.args.f.now c.atom-item.result c.args.g.now c.loop-atom.classes c.take_counterpart.new.classes in
    let found = subst tells c.in-Some.is c.in_ok-more.ensures in
    let rows = subst (λ (more : List Row). c.append.new.self.items ≡ c.loop-atom.rows.items ++ more) c.into_vec.ensures c.in_ok-append.ensures.items in (
      found.each,
      λ cycles s. subst (IsStageOf c.args.f.now c.args.g.now cycles (behind g at) c.take_counterpart.new.classes) (sym rows)
          (stage_more (both g at) c.atom-item.result (behind g at) c.loop-atom.classes (stage g at cycles s) found),
    )

pub returns : goal.returns
returns g c = λ cycles s.
    let at = λ (atoms : List LinkedAtom). IsStageOf c.args.f.now c.args.g.now cycles atoms c.loop-atom.classes c.loop-atom.rows.items in
    subst at (drop_all c.loop-atom.atom-index c.args.atoms.now (omega (arith, c.loop-atom-test.false))) (c.loop-atom.invariant.1 cycles s)
