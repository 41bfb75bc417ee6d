use Rattle.std.proofs.Common.{◌≡◌, ◌<◌, ◌^◌, ◌∙◌, sym, subst, arith, add-one, Some, true, false}
use Rattle.std.specs.Int.{w128}
use Rattle.std.proofs.lemmas.Int.{to_z_pos}
use Rattle.ht_pair.specs.Elements.{ElementValue}
use Rattle.ht_pair.specs.Actions.{Moves}
use Rattle.ht_types.specs.Shares.{IsShare}
use Rattle.ht_share.proofs.PeriodicShares.{IsBeforeOnCycle, round_moves, round_on, round_meets, round_ends}
use Rattle.ht_share.proofs.periodic.share_periodic.Goals as goal

pub returns-then-same : goal.returns-then-same
returns-then-same c =
    let t = c.args.t.now in
    let n = c.loop-steps.steps in
    let few : n < 2 ^ 64 = omega (arith, c.loop-steps-test.true, c.ranges.m.fits) in
    subst (λ i. IsShare t.element.shape t.element.rows t.quasi.basis.words c.args.u.now c.args.v.now (Some i)) (sym (to_z_pos w128 n (omega arith)))
    (round_meets t.element.shape t.element.rows t.quasi.basis.words c.args.u.now c.args.v.now c.loop-steps.word n few c.loop-steps.invariant (c.same.ensures.0 c.if-same.true))

pub unreachable-requires : goal.unreachable-requires
unreachable-requires c =
    let t = c.args.t.now in
    let typed = c.keeps_kinds.ensures in
    let m = round_moves t.element.shape t.element.rows typed.canonical.canonical t.quasi.basis.words typed.quasinormal.least.semi_normal c.args.u.now c.args.v.now c.loop-steps.word c.args.m c.loop-steps.steps c.requires.word c.requires.cycle c.loop-steps.invariant in
    (rw c.in_default.is at c.in_ok-next.ensures) m.0 (subst (λ (e : ElementValue). Moves e.rows c.loop-steps.word m.0) (sym c.element.ensures.element) m.1)

pub loop-steps-preserved : goal.loop-steps-preserved
loop-steps-preserved c =
    let t = c.args.t.now in
    rw (add-one)
    (round_on t.element.shape t.element.rows c.keeps_kinds.ensures.canonical.canonical c.args.u.now c.args.v.now c.loop-steps.word c.in-Some.next c.loop-steps.steps c.loop-steps.invariant
    (λ e. let no : false ≡ true = sym c.if-same.false ∙ c.same.ensures.1 e in cc)
    (subst (λ (e : ElementValue). Moves e.rows c.loop-steps.word c.in-Some.next) c.element.ensures.element (rw c.in-Some.is at c.in_ok-next.ensures)))

pub returns : goal.returns
returns c =
    let t = c.args.t.now in
    let whole : c.loop-steps.steps ≡ c.args.m = omega (arith, c.loop-steps-test.false, c.loop-steps.auto.steps-end) in
    round_ends t.element.shape t.element.rows c.keeps_kinds.ensures.canonical.pair t.quasi.basis.words c.args.u.now c.args.v.now c.loop-steps.word c.args.m c.requires.word c.requires.cycle
    (subst (IsBeforeOnCycle t.element.shape t.element.rows c.args.u.now c.args.v.now c.loop-steps.word) whole c.loop-steps.invariant)
