use Rattle.std.proofs.Common.{◌≡◌, ◌+◌, ◌-◌, ◌<◌, ◌++◌, ℕ, List, length, get_or, Some, slice_get, refl, sym, ap, ◌∙◌, subst, arith, length-append}
use Rattle.std.proofs.lemmas.List.{get_or_default}
use Rattle.ht_types.specs.declared.step.Step.TheVariants.{Leads}
use Rattle.ht_types.specs.declared.course.State.{State}
use Rattle.ht_types.proofs.EntryLaws.{entry_read, read_is}
use Rattle.ht_types.proofs.RoundLaws.{AreTold, step_on, inside_on, turned_next, one_more_told, round_settled}
use Rattle.ht_types.proofs.course.settle_round.Goals as goal
use Rattle.ht_types.proofs.course.settle_round.Goals.{In-loop-i, In-Leads}

inside : (c : In-loop-i) → get_or c.args.path.now c.loop-i.i 0 < length c.args.steps.now
inside c = inside_on c.args.steps.now c.args.path.now c.args.first (get_or c.args.path.now c.args.first 0) c.loop-i.i 0 c.requires.round (omega arith) (omega arith)

here : (c : In-Leads) → slice_get c.args.steps.now (get_or c.args.path.now c.loop-i.i 0) ≡ Some (Leads c.in-Leads.to c.in-Leads.rest)
here c =
    let l = inside_on c.args.steps.now c.args.path.now c.args.first (get_or c.args.path.now c.args.first 0) c.loop-i.i 0 c.requires.round (omega arith) (omega arith) in
    entry_read c.args.steps.now (get_or c.args.path.now c.loop-i.i 0) c.index-steps-place.result (Leads c.in-Leads.to c.in-Leads.rest) l c.index-steps-place.is c.in-Leads.is

pub offset_bounds-steps-place : goal.offset_bounds-steps-place
offset_bounds-steps-place c = let l : get_or c.args.path.now c.loop-i.i 0 < length c.args.steps.now = inside (goal.at.offset_bounds-steps-place c).In-loop-i in omega arith

pub bounds-steps-place : goal.bounds-steps-place
bounds-steps-place c = inside (goal.at.bounds-steps-place c).In-loop-i

pub unreachable-requires : goal.unreachable-requires
unreachable-requires c =
    let steps = c.args.steps.now in
    let path = c.args.path.now in
    let x = get_or path c.args.first 0 in
    let s = step_on steps path c.args.first x c.loop-i.i 0 c.requires.round (omega arith) (omega arith) in
    let next = get_or path (c.loop-i.i + 1) x in
    c.in_default.not-Leads next s.0 (read_is steps (get_or path c.loop-i.i 0) c.index-steps-place.result (Leads next s.0) c.index-steps-place.is s.1)

pub turned-requires : goal.turned-requires
turned-requires c =
    let steps = c.args.steps.now in
    let path = c.args.path.now in
    let x = get_or path c.args.first 0 in
    let at : slice_get steps (get_or path c.loop-i.i x) ≡ Some (Leads c.in-Leads.to c.in-Leads.rest) =
    ap (λ (k : ℕ). slice_get steps k) (get_or_default path c.loop-i.i x 0 c.loop-i-test.true) ∙ here (goal.at.turned-requires c).In-Leads in
    let turn = turned_next steps path c.args.first x c.loop-i.i c.in-Leads.to c.args.states.now c.loop-i.states c.loop-i.by c.in-Leads.rest c.requires.round (omega arith) c.loop-i-test.true at c.loop-i.invariant in
    let whole : c.as_slice.result.now ≡ turn.front ++ c.as_slice-in-loop-i.result.now = c.as_slice.ensures ∙ turn.whole ∙ ap (λ (z : List ℕ). turn.front ++ z) (sym c.as_slice-in-loop-i.ensures) in
    omega (arith, ap (λ (z : List ℕ). length z) whole, length-append turn.front c.as_slice-in-loop-i.result.now)

pub note-requires : goal.note-requires
note-requires c = omega (arith, c.loop-i.invariant.as_many, c.requires.states.as_many, inside (goal.at.note-requires c).In-loop-i)

pub loop-i-preserved : goal.loop-i-preserved
loop-i-preserved c =
    let steps = c.args.steps.now in
    let path = c.args.path.now in
    let x = get_or path c.args.first 0 in
    let rest = c.in-Leads.rest in
    let at = here (goal.at.loop-i-preserved c).In-Leads in
    let turned : (front : List ℕ) → c.loop-i.by ≡ front ++ rest → c.in_ok-next.next ≡ rest ++ front = λ front e.
    c.in_ok-next.ensures front (c.as_slice.ensures ∙ e ∙ ap (λ (z : List ℕ). front ++ z) (sym c.as_slice-in-loop-i.ensures)) ∙ ap (λ (z : List ℕ). z ++ front) c.as_slice-in-loop-i.ensures in
    subst (λ (s : List State). AreTold steps path c.args.first x (c.loop-i.i + 1) c.args.states.now s c.in_ok-next.next) (sym c.note.ensures)
    (one_more_told steps path c.args.first x c.loop-i.i (get_or path c.loop-i.i 0) c.in-Leads.to (length path - c.args.first) c.args.states.now c.loop-i.states c.loop-i.by rest c.in_ok-next.next
    c.requires.states c.requires.round (omega arith) c.loop-i-test.true (get_or_default path c.loop-i.i 0 x c.loop-i-test.true) refl at turned c.loop-i.invariant)

pub returns : goal.returns
returns c =
    let steps = c.args.steps.now in
    let path = c.args.path.now in
    let x = get_or path c.args.first 0 in
    let within = c.requires.round.within in
    let e : c.loop-i.i ≡ length path = omega arith in
    round_settled steps path c.args.first x c.args.states.now c.loop-i.states c.loop-i.by c.requires.states c.requires.round (subst (λ (i : ℕ). AreTold steps path c.args.first x i c.args.states.now c.loop-i.states c.loop-i.by) e c.loop-i.invariant)
