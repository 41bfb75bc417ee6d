use Rattle.std.proofs.Common.{[], ◌∷◌, ◌++◌}
use Rattle.std.specs.Prelude.{decimal}
use Rattle.std.proofs.lemmas.Result.{on_err_weaker}
use Rattle.ht_text.specs.Texts.{word_text}
use Rattle.ht_text.proofs.Writing.{appended, adds_within, adds_behind, at_refusal}
use Rattle.ht_answer.proofs.orbit.write_leap.Goals as goal

pub returns-in_err-write_word-clause-err : goal.returns-in_err-write_word-clause-err
returns-in_err-write_word-clause-err c =
    at_refusal c.from_residual.result
    (adds_within c.args.out.now.items c.write_word.new.out.items (word_text c.args.pond.now.from ++ 32 ∷ []) (decimal c.args.pond.now.steps)
    (adds_within c.args.out.now.items c.write_word.new.out.items (word_text c.args.pond.now.from) (32 ∷ []) c.in_err-write_word.ensures.err))

pub returns-clause-err : goal.returns-clause-err
returns-clause-err c =
    let wrote = appended c.args.out.now.items c.write_word.new.out.items c.push.new.self.items (word_text c.args.pond.now.from) (32 ∷ []) c.in_ok-write_word.ensures.ok c.in_ok-push.ensures.items in
    on_err_weaker c.write_natural.result
    (λ h. adds_behind c.args.out.now.items c.push.new.self.items c.write_natural.new.out.items (word_text c.args.pond.now.from ++ 32 ∷ []) (decimal c.args.pond.now.steps) wrote h)
    c.write_natural.ensures.err
