use Rattle.std.proofs.Common.{◌≡◌, [], ◌∷◌, ◌++◌, length, refl, sym, subst}
use Rattle.std.specs.Prelude.{OnOk, OnErr, slice_get, decimal}
use Rattle.std.proofs.lemmas.Option.{slice_get_read}
use Rattle.std.proofs.lemmas.Result.{on_ok_weaker, on_err_weaker}
use Rattle.ht_word.specs.Words.{◌·◌}
use Rattle.ht_text.specs.Texts.{word_text}
use Rattle.ht_text.specs.Writes.{AddsFront}
use Rattle.ht_text.proofs.Writing.{appended, adds_within, adds_behind, at_refusal}
use Rattle.ht_answer.specs.KindTexts.{behind_text}
use Rattle.ht_answer.proofs.types.write_reached.Goals as goal

pub returns-in_err-write_natural-clause-err : goal.returns-in_err-write_natural-clause-err
returns-in_err-write_natural-clause-err c =
    at_refusal c.from_residual.result
    (adds_within c.args.out.now.items c.write_natural.new.out.items (decimal c.args.reach.now.steps ++ 58 ∷ []) (behind_text (slice_get c.args.all.now c.args.reach.now.to) c.args.reach.now.rest)
    (adds_within c.args.out.now.items c.write_natural.new.out.items (decimal c.args.reach.now.steps) (58 ∷ []) c.in_err-write_natural.ensures.err))

pub write_joined-requires : goal.write_joined-requires
write_joined-requires c =
    let here = slice_get_read c.args.all.now (length c.args.all.now) c.args.reach.now.to c.index-all-reach.result refl c.requires.inside c.index-all-reach.is in
    rw c.as_slice.ensures (c.requires.whole c.index-all-reach.result here)

pub returns-clause-ok : goal.returns-clause-ok
returns-clause-ok c =
    let here = slice_get_read c.args.all.now (length c.args.all.now) c.args.reach.now.to c.index-all-reach.result refl c.requires.inside c.index-all-reach.is in
    let wrote = appended c.args.out.now.items c.write_natural.new.out.items c.push.new.self.items (decimal c.args.reach.now.steps) (58 ∷ []) c.in_ok-write_natural.ensures.ok c.in_ok-push.ensures.items in
    subst (λ t. OnOk c.write_joined.result (c.write_joined.new.out.items ≡ c.args.out.now.items ++ ((decimal c.args.reach.now.steps ++ 58 ∷ []) ++ behind_text t c.args.reach.now.rest))) (sym here)
    (on_ok_weaker c.write_joined.result
    (λ h. appended c.args.out.now.items c.push.new.self.items c.write_joined.new.out.items (decimal c.args.reach.now.steps ++ 58 ∷ []) (word_text (c.index-all-reach.result · c.args.reach.now.rest)) wrote h)
    (rw c.as_slice.ensures at c.write_joined.ensures.ok))

pub returns-clause-err : goal.returns-clause-err
returns-clause-err c =
    let here = slice_get_read c.args.all.now (length c.args.all.now) c.args.reach.now.to c.index-all-reach.result refl c.requires.inside c.index-all-reach.is in
    let wrote = appended c.args.out.now.items c.write_natural.new.out.items c.push.new.self.items (decimal c.args.reach.now.steps) (58 ∷ []) c.in_ok-write_natural.ensures.ok c.in_ok-push.ensures.items in
    subst (λ t. OnErr c.write_joined.result (AddsFront c.args.out.now.items c.write_joined.new.out.items ((decimal c.args.reach.now.steps ++ 58 ∷ []) ++ behind_text t c.args.reach.now.rest))) (sym here)
    (on_err_weaker c.write_joined.result
    (λ h. adds_behind c.args.out.now.items c.push.new.self.items c.write_joined.new.out.items (decimal c.args.reach.now.steps ++ 58 ∷ []) (word_text (c.index-all-reach.result · c.args.reach.now.rest)) wrote h)
    (rw c.as_slice.ensures at c.write_joined.ensures.err))
