use Rattle.std.proofs.Common.{◌≡◌, ◌∙◌, List, Some, slice_get, sym, ap, subst}
use Rattle.std.proofs.lemmas.Bool.{false≢true}
use Rattle.std.proofs.lemmas.Result.{on_ok_weaker}
use Rattle.ht_word.specs.declared.word.Word.{Word}
use Rattle.ht_quasi.specs.declared.quasi.Quasi.{Quasi}
use Rattle.ht_quasi.proofs.RoundLaws.{something_at}
use Rattle.ht_types.specs.WordKinds.{HasKind}
use Rattle.ht_cycles.specs.Cycles.{IsGrouped}
use Rattle.ht_cycles.proofs.PickedLaws.{picked_past, picked_more}
use Rattle.ht_cycles.proofs.ProfileLaws.{cycle_kind}
use Rattle.ht_cycles.proofs.representatives.pick.Goals as goal

pub returns-in_default : goal.returns-in_default
returns-in_default c =
    let t = c.args.t.now in
    let X = t.quasi.basis.words in
    let typed = c.keeps_kinds.ensures in
    picked_past t.element.shape t.element.rows X c.args.place c.args.marks.now c.args.groups.now.items c.requires.before (λ m x here cycle.
    absurd (c.in_default.not-Cycle m (cycle_kind t.element.shape t.element.rows typed.canonical.canonical.pair X x m c.kind.result.now (typed.kinds_are.each c.args.place x c.kind.result.now here c.kind.ensures.kind) cycle)))

pub returns-then-marks-place : goal.returns-then-marks-place
returns-then-marks-place c =
    let t = c.args.t.now in
    picked_past t.element.shape t.element.rows t.quasi.basis.words c.args.place c.args.marks.now c.args.groups.now.items c.requires.before (λ m x here cycle. c.if-marks-place.true)

pub mark_cycle-requires-clause-cycle : goal.mark_cycle-requires-clause-cycle
mark_cycle-requires-clause-cycle c =
    let t = c.args.t.now in
    let X = t.quasi.basis.words in
    let x = something_at X c.args.place c.requires.place in
    record { word = x.0; here = x.1; cycle = subst (HasKind t.element.shape t.element.rows X x.0) c.in-Cycle.is (c.keeps_kinds.ensures.kinds_are.each c.args.place x.0 c.kind.result.now x.1 c.kind.ensures.kind) }

pub returns : goal.returns
returns c =
    let t = c.args.t.now in
    let X = t.quasi.basis.words in
    let typed = c.keeps_kinds.ensures in
    let x = c.at.result.now in
    let here : slice_get X c.args.place ≡ Some x = subst (λ (W : List Word). slice_get W c.args.place ≡ Some x) (c.words.ensures.words ∙ ap (λ (q : Quasi). q.basis.words) c.quasi.ensures.quasi) c.at.ensures in
    let cycle = subst (HasKind t.element.shape t.element.rows X x) c.in-Cycle.is (typed.kinds_are.each c.args.place x c.kind.result.now here c.kind.ensures.kind) in
    on_ok_weaker c.add_to_group.result
    (λ grouped.
    picked_more t.element.shape t.element.rows X typed.quasinormal.least.semi_normal.basis c.args.place c.in-Cycle.m x c.args.marks.now c.mark_cycle.new.marks c.args.groups.now.items c.add_to_group.new.groups.items c.requires.before here cycle (λ marked. false≢true (sym c.if-marks-place.false ∙ marked)) c.in_ok-mark_cycle.ensures
    (subst (λ (w : Word). IsGrouped c.args.groups.now.items c.in-Cycle.m w c.add_to_group.new.groups.items) c.in_ok-word.ensures grouped))
    c.add_to_group.ensures
