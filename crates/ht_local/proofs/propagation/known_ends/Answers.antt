use Rattle.std.proofs.Common.{◌≡◌, Bool, true, false, List, Option, Some, subst, sym, ap, ◌∙◌}
use Rattle.std.proofs.lemmas.Option.{same_Some}
use Rattle.ht_local.specs.Propagations.{AreAllKnown, AreAllRight, StayRight, TellsPass}
use Rattle.ht_local.specs.declared.known.Known.{Known}
use Rattle.ht_local.proofs.PropagationLaws.{AreFoundFrom, found_all, found_first, found_more, found_none, found_right}
use Rattle.ht_local.proofs.propagation.known_ends.Given.{Over}
use Rattle.ht_local.proofs.propagation.known_ends.Goals as goal
use Rattle.ht_local.proofs.propagation.known_ends.Goals.{In-Some, In_ok-found}

pub passing-init : goal.passing-init
passing-init o c = rw (c.in_ok-known.ensures, c.len.ensures) (found_first c.requires.start.0 c.requires.start.1 c.requires.start.2 c.requires.first)

pub pass_over-requires-clause-known : goal.pass_over-requires-clause-known
pass_over-requires-clause-known o c = c.passing.invariant.held

pub returns-in_default-clause-right : goal.returns-in_default-clause-right
returns-in_default-clause-right o c = found_none c.requires.atom c.passing.invariant c.pass_over.new.known.items
    (subst (StayRight c.args.f.now c.args.g.now c.args.k.now c.passing.known.items c.pass_over.new.known.items) c.in_default.is c.in_ok-found.ensures.right)

-- what is found after one more pass
found : (o : Over) (c : In_ok-found o) → AreFoundFrom c.args.f.now c.args.g.now c.args.k.now c.args.start c.args.first c.pass_over.new.known.items
found o c =
    let e = c.in_ok-found.ensures in
    found_more c.requires.atom c.passing.invariant c.pass_over.new.known.items c.in_ok-found.field-0 e.held e.stay e.right

-- what is told of it
told : (o : Over) (c : In-Some o) (found : Bool) → c.in-Some.found ≡ found → TellsPass c.in_ok-crossings.crossings c.passing.known.items c.pass_over.new.known.items (Some found)
told o c found is =
    subst (TellsPass c.in_ok-crossings.crossings c.passing.known.items c.pass_over.new.known.items) (c.in-Some.is ∙ ap (λ (b : Bool). Some b) is)
    c.in_ok-found.ensures.told

pub returns-then-not-found-clause-known : goal.returns-then-not-found-clause-known
returns-then-not-found-clause-known o c = λ known is.
    let at = goal.at.returns-then-not-found-clause-known o c in
    let new : c.pass_over.new.known.items ≡ known = sym c.from_vec.ensures ∙ same_Some c.from_vec.result known is in
    subst (AreAllKnown c.args.f.now c.args.g.now c.args.k.now c.args.start c.args.first) new
    (found_all c.requires.atom (found o (at.In_ok-found)) c.in_ok-crossings.ensures (told o (at.In-Some) false c.if-not-found.true).1
    c.requires.connected c.requires.start.0 c.requires.start.1 c.requires.start.2)

pub returns-then-not-found-clause-right : goal.returns-then-not-found-clause-right
returns-then-not-found-clause-right o c =
    subst (λ (known : List (Option Known)). AreAllRight c.args.f.now c.args.g.now c.args.k.now c.args.start c.args.first (Some known)) (sym c.from_vec.ensures)
    (found_right c.requires.atom (found o ((goal.at.returns-then-not-found-clause-right o c).In_ok-found)))

pub passing-smaller : goal.passing-smaller
passing-smaller o c = told o ((goal.at.passing-smaller o c).In-Some) true c.if-not-found.false

pub passing-preserved : goal.passing-preserved
passing-preserved o c = found o ((goal.at.passing-preserved o c).In_ok-found)
