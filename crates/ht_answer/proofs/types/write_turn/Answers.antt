use Rattle.std.proofs.Common.{[], ◌∷◌, ◌++◌, ◌∙◌}
use Rattle.std.specs.Prelude.{decimal, map}
use Rattle.std.proofs.lemmas.Result.{on_err_weaker}
use Rattle.ht_text.specs.Texts.{letter_code}
use Rattle.ht_text.proofs.Writing.{appended, adds_first, adds_within, adds_behind, at_refusal}
use Rattle.ht_answer.specs.KindTexts.{turn_text}
use Rattle.ht_answer.proofs.types.write_turn.Goals as goal

pub returns-in_err-write_natural-clause-err : goal.returns-in_err-write_natural-clause-err
returns-in_err-write_natural-clause-err c =
    at_refusal c.from_residual-in_err-write_natural.result
    (adds_behind c.args.out.now.items c.extend_from_slice.new.self.items c.write_natural.new.out.items c.args.name.now (turn_text c.args.m c.args.by.now) c.in_ok-extend_from_slice.ensures.items
    (adds_within c.extend_from_slice.new.self.items c.write_natural.new.out.items (decimal c.args.m ++ 32 ∷ []) (map letter_code c.args.by.now)
    (adds_within c.extend_from_slice.new.self.items c.write_natural.new.out.items (decimal c.args.m) (32 ∷ []) c.in_err-write_natural.ensures.err)))

pub returns-in_err-push-clause-err : goal.returns-in_err-push-clause-err
returns-in_err-push-clause-err c =
    at_refusal c.from_residual-in_err-push.result
    (adds_behind c.args.out.now.items c.extend_from_slice.new.self.items c.push.new.self.items c.args.name.now (turn_text c.args.m c.args.by.now) c.in_ok-extend_from_slice.ensures.items
    (adds_within c.extend_from_slice.new.self.items c.push.new.self.items (decimal c.args.m ++ 32 ∷ []) (map letter_code c.args.by.now)
    (adds_first c.extend_from_slice.new.self.items c.push.new.self.items (decimal c.args.m) (32 ∷ []) (c.in_err-push.ensures.items ∙ c.in_ok-write_natural.ensures.ok))))

pub returns-clause-err : goal.returns-clause-err
returns-clause-err c =
    let wrote = appended c.extend_from_slice.new.self.items c.write_natural.new.out.items c.push.new.self.items (decimal c.args.m) (32 ∷ []) c.in_ok-write_natural.ensures.ok c.in_ok-push.ensures.items in
    on_err_weaker c.write_letters.result
    (λ h. adds_behind c.args.out.now.items c.extend_from_slice.new.self.items c.write_letters.new.out.items c.args.name.now (turn_text c.args.m c.args.by.now) c.in_ok-extend_from_slice.ensures.items
    (adds_behind c.extend_from_slice.new.self.items c.push.new.self.items c.write_letters.new.out.items (decimal c.args.m ++ 32 ∷ []) (map letter_code c.args.by.now) wrote h))
    (rw c.as_slice.ensures at c.write_letters.ensures.err)
