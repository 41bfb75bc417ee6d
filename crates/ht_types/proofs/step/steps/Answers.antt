use Rattle.std.proofs.Common.{◌≡◌, List, Some, slice_get, sym, ap, ◌∙◌, subst}
use Rattle.std.proofs.lemmas.Option.{slice_get-get_or}
use Rattle.ht_word.specs.declared.word.Word.{Word}
use Rattle.ht_types.proofs.StepLaws.{one_more_step}
use Rattle.ht_types.proofs.step.steps.Goals as goal

pub loop-word-preserved : goal.loop-word-preserved
loop-word-preserved c =
    let X = c.args.basis.now.words in
    let items_are : c.as_slice-word-items.result.now ≡ X = c.as_slice-word-items.ensures ∙ c.words.ensures.words in
    let W = c.as_slice-word-items.result.now in
    let at : slice_get W c.loop-word.word-index ≡ Some c.word-item.result = slice_get-get_or W c.loop-word.word-index c.word-item.result c.loop-word-test.true ∙ ap (λ (w : Word). Some w) (sym c.word-item.is) in
    let here = subst (λ (V : List Word). slice_get V c.loop-word.word-index ≡ Some c.word-item.result) items_are at in
    one_more_step c.args.a.now.shape c.args.a.now.rows X c.loop-word.word-index c.loop-word.steps c.push.new.self c.word-item.result c.in_ok-step_of.field-0 c.loop-word.invariant here c.in_ok-step_of.ensures c.in_ok-push.ensures.ok
