use Rattle.std.proofs.Common.{◌<◌, length, subst, arith, All, refl}
use Rattle.std.proofs.lemmas.List.{take_all}
use Rattle.ht_pair.specs.Kinds.{IsCycleWord}
use Rattle.ht_parts.proofs.CycleTests.{words_counted, one_more_cycle, none_infinite, some_infinite, infinite_has_words}
use Rattle.ht_parts.proofs.orders.is_periodic.Goals as goal

pub returns-then-not-is_cycle : goal.returns-then-not-is_cycle
returns-then-not-is_cycle c =
    let count = words_counted c.len-place-end.result c.words.result.now c.quasi.result.now c.args.t.now.quasi c.len-place-end.ensures c.words.ensures.words c.quasi.ensures.quasi in
    let inside : c.loop-place.place < length c.args.t.now.quasi.basis.words = omega (arith, count) in
    let other = some_infinite c.args.t.now.element.shape c.args.t.now.element.rows c.args.t.now.quasi.basis.words c.loop-place.place c.is_cycle.result inside c.is_cycle.ensures c.if-not-is_cycle.true in
    record {
      empty = ((λ t. absurd cc), (λ none. absurd (other none)));
      some = λ f. infinite_has_words c.args.t.now.element c.args.t.now.quasi c.args.t.now.kinds c.keeps_kinds.ensures other;
    }

pub loop-place-preserved : goal.loop-place-preserved
loop-place-preserved c =
    let count = words_counted c.len-place-end.result c.words.result.now c.quasi.result.now c.args.t.now.quasi c.len-place-end.ensures c.words.ensures.words c.quasi.ensures.quasi in
    let inside : c.loop-place.place < length c.args.t.now.quasi.basis.words = omega (arith, count) in
    one_more_cycle c.args.t.now.element.shape c.args.t.now.element.rows c.args.t.now.quasi.basis.words c.loop-place.place c.is_cycle.result inside c.is_cycle.ensures c.if-not-is_cycle.false c.loop-place.invariant

pub returns : goal.returns
returns c =
    let count = words_counted c.len-place-end.result c.words.result.now c.quasi.result.now c.args.t.now.quasi c.len-place-end.ensures c.words.ensures.words c.quasi.ensures.quasi in
    let all = take_all c.loop-place.place c.args.t.now.quasi.basis.words (omega (arith, count)) in
    record {
      empty = ((λ t. none_infinite c.args.t.now.element.shape c.args.t.now.element.rows c.args.t.now.quasi.basis.words (subst (All (IsCycleWord c.args.t.now.element.shape c.args.t.now.element.rows)) all c.loop-place.invariant)), (λ h. refl));
      some = λ f. absurd cc;
    }
