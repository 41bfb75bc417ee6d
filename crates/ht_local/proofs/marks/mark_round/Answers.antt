use Rattle.std.proofs.Common.{subst, pos}
use Rattle.std.proofs.lemmas.Option.{slice_get_within}
use Rattle.ht_quasi.proofs.RoundLaws.{something_at}
use Rattle.ht_types.specs.WordSteps.{HasStep}
use Rattle.ht_local.proofs.MarkedRounds.{round_begun, round_marked, round_more}
use Rattle.ht_local.proofs.marks.mark_round.Goals as goal

pub loop-step-init : goal.loop-step-init
loop-step-init c =
    let x = something_at c.args.g.now.quasi.basis.words c.args.start c.requires.start in
    round_begun c.args.g.now c.keeps_kinds.ensures c.args.l.now c.args.start c.args.marks.now x.0 x.1

pub step_in-requires : goal.step_in-requires
step_in-requires c = let far = c.loop-step.invariant.leads in slice_get_within c.args.g.now.quasi.basis.words c.loop-step.place far.word far.here

pub loop-step-preserved : goal.loop-step-preserved
loop-step-preserved c =
    let g = c.args.g.now in
    round_more g c.keeps_kinds.ensures c.args.l.now c.args.start c.args.marks.now c.loop-step.marks c.mark.new.marks c.loop-step.place c.in-Leads.to c.in-Leads.rest c.loop-step.invariant c.mark.ensures
    (λ x here. subst (HasStep g.element.shape g.element.rows g.quasi.basis.words (pos 1) x) c.in-Leads.is (c.step_in.ensures x here))

pub returns-in_default : goal.returns-in_default
returns-in_default c = round_marked c.args.g.now c.args.l.now c.args.start c.args.marks.now c.loop-step.marks c.mark.new.marks c.loop-step.place c.loop-step.invariant c.mark.ensures

pub returns : goal.returns
returns c = c.loop-step.invariant.only
