use Rattle.std.proofs.Common.{◌≡◌, ◌+◌, ◌++◌, ℕ, length, ap, ◌∙◌, sym, subst, arith, true≢false}
use Rattle.std.proofs.lemmas.Option.{slice_get_within}
use Rattle.ht_word.specs.Words.{◌·◌}
use Rattle.ht_word.proofs.WordLaws.{word_after}
use Rattle.ht_share.specs.PondWalks.{IsSettled}
use Rattle.ht_share.proofs.ReturnLaws.{exit_stays, comes_first, goes_on, comes_further, none_further, unsettled, settles}
use Rattle.ht_share.proofs.SearchLaws.{inner_infinite}
use Rattle.ht_share.proofs.search.pond_of.Goals as goal
use Rattle.ht_types.proofs.TypedLaws.{typed_base}

pub exit_of-requires-clause-infinite : goal.exit_of-requires-clause-infinite
exit_of-requires-clause-infinite c = inner_infinite (typed_base c.args.t.now c.keeps_kinds.ensures) c.args.word.now c.requires.inner

pub loop-step-init : goal.loop-step-init
loop-step-init c =
    let t = c.args.t.now in
    let p = c.in_ok-walk.ensures in
    let e = c.in_ok-exit.ensures in
    record {
      steps = p.none;
      there = comes_first t.element.shape t.element.rows t.quasi.basis.words c.args.word.now c.in_ok-exit.exit.letters c.extend.new.self c.in_ok-walk.walk p (word_after t.element.shape c.args.word.now c.in_ok-exit.exit.letters c.requires.inner.word e.of_shape)
          (c.in_ok-extend.ensures.ok ∙ ap (λ z. c.in_ok-walk.walk.rest ++ z) c.as_slice.ensures);
      none = λ j low high s. absurd (omega (arith, low, high, p.none));
      unsettled = λ some s. absurd (omega (arith, some, p.none));
    }

pub next_walk-requires-clause-under : goal.next_walk-requires-clause-under
next_walk-requires-clause-under c = λ x here.
    let base = typed_base c.args.t.now c.keeps_kinds.ensures in
    goes_on base (c.args.word.now · c.in_ok-exit.exit.letters) x c.loop-step.walk (exit_stays base c.args.word.now c.in_ok-exit.exit c.in_ok-exit.ensures) c.loop-step.invariant.there here

pub is_settled-requires : goal.is_settled-requires
is_settled-requires c =
    let there = comes_further (typed_base c.args.t.now c.keeps_kinds.ensures) (c.args.word.now · c.in_ok-exit.exit.letters) c.loop-step.walk c.in_ok-walk-2.walk c.loop-step.invariant.there c.in_ok-walk-2.ensures in
    slice_get_within c.args.t.now.quasi.basis.words c.in_ok-walk-2.walk.to there.above there.here

pub settled_pond-requires-clause-there : goal.settled_pond-requires-clause-there
settled_pond-requires-clause-there c = comes_further (typed_base c.args.t.now c.keeps_kinds.ensures) (c.args.word.now · c.in_ok-exit.exit.letters) c.loop-step.walk c.in_ok-walk-2.walk c.loop-step.invariant.there c.in_ok-walk-2.ensures

pub loop-step-preserved : goal.loop-step-preserved
loop-step-preserved c =
    let t = c.args.t.now in
    let X = t.quasi.basis.words in
    let base = typed_base t c.keeps_kinds.ensures in
    let letters = c.in_ok-exit.exit.letters in
    let walk = c.in_ok-walk-2.walk in
    let next = c.in_ok-walk-2.ensures.steps in
    let there = comes_further base (c.args.word.now · letters) c.loop-step.walk walk c.loop-step.invariant.there c.in_ok-walk-2.ensures in
    let open_still : ¬ IsSettled t.element.shape t.element.rows X (length letters) walk = λ s.
    true≢false (sym (c.is_settled.ensures.1 (subst (λ (n : ℕ). IsSettled t.element.shape t.element.rows X n walk) (sym c.len.ensures) s)) ∙ c.if-is_settled.false) in
    record {
      steps = next ∙ ap (λ (k : ℕ). k + 1) c.loop-step.invariant.steps;
      there = there;
      none = none_further t.element.shape t.element.rows X c.args.word.now c.loop-step.walk.steps walk.steps next c.loop-step.invariant.none (unsettled base c.args.word.now letters walk c.requires.inner (omega (arith, next)) there open_still);
      unsettled = λ some. open_still;
    }

pub unreachable-requires : goal.unreachable-requires
unreachable-requires c =
    let on = c.loop-step.invariant in
    let all : c.loop-step.walk.steps ≡ c.steps_enough-most.result = omega (arith, on.steps, c.loop-step-test.false, c.loop-step.auto._step-end) in
    let last = settles (typed_base c.args.t.now c.keeps_kinds.ensures) c.args.word.now c.in_ok-exit.exit c.loop-step.walk c.steps_enough-most.result c.requires.inner c.in_ok-exit.ensures c.steps_enough-most.ensures on.there all in
    on.unsettled last.0 last.1
