use Rattle.std.proofs.Common.{◌≡◌, ◌||◌, ◌≤◌, ◌<◌, ◌+◌, List, Some, length, take, get_or, refl, subst, subst₂, sym}
use Rattle.std.proofs.lemmas.List.{take_all}
use Rattle.ht_local.specs.Propagations.{StayRight, TellsPass, TellsStep}
use Rattle.ht_local.specs.declared.crossing.Crossing.{Crossing}
use Rattle.ht_local.proofs.PropagationLaws.{AreCarried, carried_on, carried_to_none, told_more}
use Rattle.ht_local.proofs.propagation.pass_over.Goals as goal
use Rattle.ht_local.proofs.propagation.pass_over.Goals.{then-found, else-found}

pub returns-in_default-clause-right : goal.returns-in_default-clause-right
returns-in_default-clause-right o c =
    carried_to_none c.crossings.invariant.carried c.step_over.new.known.items
    (subst (StayRight c.args.f.now c.args.g.now c.args.k.now c.crossings.known.items c.step_over.new.known.items) c.in_default.is c.in_ok-more.ensures.right)

pub crossings-preserved : goal.crossings-preserved
crossings-preserved o c =
    let first = c.args.known.now.items in
    let second = c.crossings.known.items in
    let third = c.step_over.new.known.items in
    let e = c.in_ok-more.ensures in
    let step : AreCarried c.args.f.now c.args.g.now c.args.k.now second third (Some c.in-Some.more) =
    record { held = e.held; stay = e.stay; right = subst (StayRight c.args.f.now c.args.g.now c.args.k.now second third) c.in-Some.is e.right } in
    let is = c.as_slice-crossing-items.ensures in
    let i = c.crossings.crossing-index in
    let none : Crossing = record { link = 0; ahead = 0; behind = 0 } in
    let pass = told_more c.args.crossings.now i none first second third c.crossings.found c.in-Some.more
    (subst (λ (crossings : List Crossing). i < length crossings) is c.crossings-test.true) c.crossings.invariant.told
    (subst₂ (λ (crossings : List Crossing) told. TellsStep (get_or crossings i none) second third told) is c.in-Some.is e.told) in
    let all : c.if-found.found ≡ (c.crossings.found || c.in-Some.more) = elim c.if-found.branch [
      | then-found w ↦ rw (w.found-is, w.if-found.true) refl
      | else-found w ↦ rw (w.found-is, w.if-found.false) refl
    ] in
    record {
      carried = carried_on c.crossings.invariant.carried step c.if-found.found;
      told = subst (λ found. TellsPass (take (i + 1) c.args.crossings.now) first third (Some found)) (sym all) pass;
    }

pub returns-clause-told : goal.returns-clause-told
returns-clause-told o c = subst (λ crossings. TellsPass crossings c.args.known.now.items c.crossings.known.items (Some c.crossings.found))
    (take_all c.crossings.crossing-index c.args.crossings.now
    (subst (λ (crossings : List Crossing). length crossings ≤ c.crossings.crossing-index) c.as_slice-crossing-items.ensures c.crossings-test.false)) c.crossings.invariant.told
