use Rattle.std.proofs.Common.{◌≡◌, Bool, List, length, refl, sym, ap, ◌∙◌, subst, arith}
use Rattle.ht_word.specs.declared.shape.Shape.{Shape}
use Rattle.ht_pair.specs.HeldBases.{expanded_at}
use Rattle.ht_quasi.specs.Kept.{place_after}
use Rattle.ht_quasi.specs.Rounds.{AreRoundSteps}
use Rattle.ht_quasi.proofs.ExpandedLaws.{count_set}
use Rattle.ht_quasi.proofs.LeastLaws.{at_roots, after_round, least_at_end, over_budget, not_enough, words_after, places_bad, round_marks, renewed, told_inside}
use Rattle.ht_quasi.proofs.RoundLaws.{inside_steps}
use Rattle.ht_quasi.proofs.least.rounds.Goals as goal

pub rounds-init : goal.rounds-init
rounds-init c = record {
  way = at_roots c.args.a.now.shape c.shape.result c.args.a.now.rows c.args.budget c.in_ok-basis.basis c.shape.ensures c.in_ok-basis.ensures;
  steps = c.in_ok-ahead.ensures;
  back = subst (λ (s : Shape). AreRoundSteps s c.args.back.now.rows c.in_ok-basis.basis.words c.in_ok-behind.behind) c.requires.shape c.in_ok-behind.ensures;
}

pub bad_places-requires-clause-inside : goal.bad_places-requires-clause-inside
bad_places-requires-clause-inside c =
    let a = c.args.a.now in
    inside_steps a.shape a.rows c.rounds.basis.words c.as_slice.result.now (subst (AreRoundSteps a.shape a.rows c.rounds.basis.words) (sym c.as_slice.ensures) c.rounds.invariant.steps)

pub returns-then-count-eq0-clause-least : goal.returns-then-count-eq0-clause-least
returns-then-count-eq0-clause-least c =
    let a = c.args.a.now in
    let old = c.rounds.basis in
    let marks = c.in_ok-marks.marks.items in
    let bad = places_bad c.rounds.ahead c.rounds.behind c.as_slice.result.now c.as_slice-in-rounds.result.now marks c.as_slice.ensures c.as_slice-in-rounds.ensures c.in_ok-marks.ensures in
    let told = round_marks a.shape a.rows c.args.back.now.rows c.args.budget c.rounds.left old c.rounds.ahead c.rounds.behind marks c.keeps_limits.ensures.canonical c.requires.inverse c.rounds.invariant bad in
    least_at_end a.shape a.rows c.args.budget c.rounds.left old marks c.keeps_limits.ensures.canonical c.rounds.invariant.way told (sym (c.count_marks-count.ensures ∙ ap (λ (m : List Bool). count_set m) c.deref.ensures.value) ∙ c.if-count-eq0.true)

pub returns-then-count-left-clause-budget : goal.returns-then-count-left-clause-budget
returns-then-count-left-clause-budget c = λ e.
    let a = c.args.a.now in
    let old = c.rounds.basis in
    let marks = c.in_ok-marks.marks.items in
    let bad = places_bad c.rounds.ahead c.rounds.behind c.as_slice.result.now c.as_slice-in-rounds.result.now marks c.as_slice.ensures c.as_slice-in-rounds.ensures c.in_ok-marks.ensures in
    let told = round_marks a.shape a.rows c.args.back.now.rows c.args.budget c.rounds.left old c.rounds.ahead c.rounds.behind marks c.keeps_limits.ensures.canonical c.requires.inverse c.rounds.invariant bad in
    over_budget a.shape a.rows c.args.budget c.rounds.left old marks c.count_marks-count.result c.keeps_limits.ensures.canonical c.rounds.invariant.way told (c.count_marks-count.ensures ∙ ap (λ (m : List Bool). count_set m) c.deref.ensures.value) (omega arith)

pub returns-then-count-left-clause-enough : goal.returns-then-count-left-clause-enough
returns-then-count-left-clause-enough c = λ e.
    let a = c.args.a.now in
    let old = c.rounds.basis in
    let marks = c.in_ok-marks.marks.items in
    let bad = places_bad c.rounds.ahead c.rounds.behind c.as_slice.result.now c.as_slice-in-rounds.result.now marks c.as_slice.ensures c.as_slice-in-rounds.ensures c.in_ok-marks.ensures in
    let told = round_marks a.shape a.rows c.args.back.now.rows c.args.budget c.rounds.left old c.rounds.ahead c.rounds.behind marks c.keeps_limits.ensures.canonical c.requires.inverse c.rounds.invariant bad in
    not_enough a.shape a.rows c.args.budget c.keeps_limits.ensures.canonical (over_budget a.shape a.rows c.args.budget c.rounds.left old marks c.count_marks-count.result c.keeps_limits.ensures.canonical c.rounds.invariant.way told (c.count_marks-count.ensures ∙ ap (λ (m : List Bool). count_set m) c.deref.ensures.value) (omega arith))

pub steps_after-requires-clause-inside : goal.steps_after-requires-clause-inside
steps_after-requires-clause-inside c =
    let a = c.args.a.now in
    let old = c.rounds.basis in
    let marks = c.in_ok-marks.marks.items in
    let bad = places_bad c.rounds.ahead c.rounds.behind c.as_slice.result.now c.as_slice-in-rounds.result.now marks c.as_slice.ensures c.as_slice-in-rounds.ensures c.in_ok-marks.ensures in
    told_inside a.shape a.rows old.words c.rounds.ahead c.as_slice-in-rounds-2.result.now marks c.deref-in-rounds-2.result.now c.as_slice-in-rounds-2.ensures c.deref-in-rounds-2.ensures.value (bad.many ∙ c.rounds.invariant.steps.many) c.rounds.invariant.steps

pub steps_after-requires-clause-long : goal.steps_after-requires-clause-long
steps_after-requires-clause-long c =
    let a = c.args.a.now in
    let old = c.rounds.basis in
    let marks = c.in_ok-marks.marks.items in
    let bad = places_bad c.rounds.ahead c.rounds.behind c.as_slice.result.now c.as_slice-in-rounds.result.now marks c.as_slice.ensures c.as_slice-in-rounds.ensures c.in_ok-marks.ensures in
    let after = words_after a.shape a.rows c.args.back.now.rows c.args.budget c.rounds.left old c.expand_all.new.self c.rounds.ahead c.rounds.behind marks c.deref-in-rounds.result.now c.rounds.invariant bad c.deref-in-rounds.ensures.value c.in_ok-expand_all.ensures.ok in
    subst (λ (m : List Bool). length c.expand_all.new.self.words ≡ place_after a.shape.n m (length m)) (sym c.deref-in-rounds-2.ensures.value) after.2

pub steps_after-requires-in-rounds-clause-inside : goal.steps_after-requires-in-rounds-clause-inside
steps_after-requires-in-rounds-clause-inside c =
    let a = c.args.a.now in
    let old = c.rounds.basis in
    let marks = c.in_ok-marks.marks.items in
    let bad = places_bad c.rounds.ahead c.rounds.behind c.as_slice.result.now c.as_slice-in-rounds.result.now marks c.as_slice.ensures c.as_slice-in-rounds.ensures c.in_ok-marks.ensures in
    told_inside a.shape c.args.back.now.rows old.words c.rounds.behind c.as_slice-in-rounds-3.result.now marks c.deref-in-rounds-3.result.now c.as_slice-in-rounds-3.ensures c.deref-in-rounds-3.ensures.value (bad.many ∙ c.rounds.invariant.steps.many) c.rounds.invariant.back

pub steps_after-requires-in-rounds-clause-long : goal.steps_after-requires-in-rounds-clause-long
steps_after-requires-in-rounds-clause-long c =
    let a = c.args.a.now in
    let old = c.rounds.basis in
    let marks = c.in_ok-marks.marks.items in
    let bad = places_bad c.rounds.ahead c.rounds.behind c.as_slice.result.now c.as_slice-in-rounds.result.now marks c.as_slice.ensures c.as_slice-in-rounds.ensures c.in_ok-marks.ensures in
    let after = words_after a.shape a.rows c.args.back.now.rows c.args.budget c.rounds.left old c.expand_all.new.self c.rounds.ahead c.rounds.behind marks c.deref-in-rounds.result.now c.rounds.invariant bad c.deref-in-rounds.ensures.value c.in_ok-expand_all.ensures.ok in
    subst (λ (s : Shape). length c.expand_all.new.self.words ≡ place_after s.n c.deref-in-rounds-3.result.now (length c.deref-in-rounds-3.result.now)) (sym c.requires.shape)
    (subst (λ (m : List Bool). length c.expand_all.new.self.words ≡ place_after a.shape.n m (length m)) (sym c.deref-in-rounds-3.ensures.value) after.2)

pub rounds-preserved : goal.rounds-preserved
rounds-preserved c =
    let a = c.args.a.now in
    let old = c.rounds.basis in
    let marks = c.in_ok-marks.marks.items in
    let bad = places_bad c.rounds.ahead c.rounds.behind c.as_slice.result.now c.as_slice-in-rounds.result.now marks c.as_slice.ensures c.as_slice-in-rounds.ensures c.in_ok-marks.ensures in
    let told = round_marks a.shape a.rows c.args.back.now.rows c.args.budget c.rounds.left old c.rounds.ahead c.rounds.behind marks c.keeps_limits.ensures.canonical c.requires.inverse c.rounds.invariant bad in
    let after = words_after a.shape a.rows c.args.back.now.rows c.args.budget c.rounds.left old c.expand_all.new.self c.rounds.ahead c.rounds.behind marks c.deref-in-rounds.result.now c.rounds.invariant bad c.deref-in-rounds.ensures.value c.in_ok-expand_all.ensures.ok in
    record {
      way = after_round a.shape a.rows c.args.budget c.rounds.left old c.expand_all.new.self marks c.count_marks-count.result c.keeps_limits.ensures.canonical c.rounds.invariant.way told (c.count_marks-count.ensures ∙ ap (λ (m : List Bool). count_set m) c.deref.ensures.value) (omega arith)
          (c.in_ok-expand_all.ensures.ok.0, c.in_ok-expand_all.ensures.ok.1 ∙ ap (λ (m : List Bool). expanded_at old.shape old.words m) c.deref-in-rounds.ensures.value);
      steps = renewed a.shape a.shape a.rows c.rounds.ahead c.as_slice-in-rounds-2.result.now marks c.deref-in-rounds-2.result.now old.words c.expand_all.new.self.words c.in_ok-ahead-2.ahead refl c.as_slice-in-rounds-2.ensures c.deref-in-rounds-2.ensures.value c.in_ok-ahead-2.ensures c.rounds.invariant.steps after.1;
      back = renewed a.shape c.args.back.now.shape c.args.back.now.rows c.rounds.behind c.as_slice-in-rounds-3.result.now marks c.deref-in-rounds-3.result.now old.words c.expand_all.new.self.words c.in_ok-behind-2.behind c.requires.shape c.as_slice-in-rounds-3.ensures c.deref-in-rounds-3.ensures.value c.in_ok-behind-2.ensures c.rounds.invariant.back after.1;
    }
