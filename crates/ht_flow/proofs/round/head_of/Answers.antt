use Rattle.std.proofs.Common.{◌≡◌, refl, subst, arith}
use Rattle.std.proofs.lemmas.Option.{slice_get_within}
use Rattle.ht_flow.specs.Rounds.{IsHead}
use Rattle.ht_flow.proofs.HeadLaws.{attractor_of, round_begins, round_more, stage_ahead, stage_few}
use Rattle.ht_flow.proofs.round.head_of.Goals as goal
use Rattle.ht_types.proofs.TypedLaws.{typed_base}

pub loop-step-init : goal.loop-step-init
loop-step-init c = λ x here. round_begins (typed_base c.args.t.now c.keeps_kinds.ensures) x (record { steps = 0; at = c.args.at; letters = 0 }) here refl refl

pub next_stage-requires-clause-place : goal.next_stage-requires-clause-place
next_stage-requires-clause-place c =
    let s = (c.loop-step.invariant c.requires.above c.requires.here).here in
    slice_get_within c.args.t.now.quasi.basis.words c.loop-step.stage.at s.above s.here

pub next_stage-requires-clause-ahead : goal.next_stage-requires-clause-ahead
next_stage-requires-clause-ahead c = stage_ahead (typed_base c.args.t.now c.keeps_kinds.ensures) (attractor_of c.requires) c.loop-step.stage (c.loop-step.invariant c.requires.above c.requires.here).here

pub next_stage-requires-clause-steps : goal.next_stage-requires-clause-steps
next_stage-requires-clause-steps c =
    let r = (c.loop-step.invariant c.requires.above c.requires.here).reached in
    let l = c.loop-step-test.true in
    let m = c.ranges.m in
    omega arith

pub next_stage-requires-clause-letters : goal.next_stage-requires-clause-letters
next_stage-requires-clause-letters c =
    let g = c.loop-step.invariant c.requires.above c.requires.here in
    stage_few (typed_base c.args.t.now c.keeps_kinds.ensures) (attractor_of c.requires) c.loop-step.stage g.here (let r = g.reached in let l = c.loop-step-test.true in omega arith) (let few = c.len.type_inv in let is = c.len.ensures in omega arith)

pub loop-step-preserved : goal.loop-step-preserved
loop-step-preserved c = λ x here.
    round_more (typed_base c.args.t.now c.keeps_kinds.ensures) x c.loop-step._step c.loop-step.stage c.loop-step.head c.in_ok-stage.stage c.sooner-head.result (c.loop-step.invariant x here) c.in_ok-stage.ensures c.sooner-head.ensures

pub returns : goal.returns
returns c = λ x here.
    let t = c.args.t.now in
    let one = c.requires.attractor.first.positive in
    let out = c.loop-step-test.false in
    let end = c.loop-step.auto in
    subst (λ k. IsHead t.element.shape t.element.rows t.quasi.basis.words x k c.loop-step.head) (let e : c.loop-step._step ≡ c.args.m = omega arith in e) (c.loop-step.invariant x here).least
