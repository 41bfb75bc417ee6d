use Rattle.std.proofs.Common.{[], ◌∷◌, ◌++◌}
use Rattle.std.proofs.lemmas.Result.{on_err_weaker}
use Rattle.ht_text.specs.Texts.{word_text}
use Rattle.ht_text.proofs.Writing.{appended, adds_within, adds_behind, at_refusal}
use Rattle.ht_answer.specs.OrbitTexts.{leap_text}
use Rattle.ht_answer.proofs.orbit.write_pond.Goals as goal

pub returns-in_err-write_leap-clause-err : goal.returns-in_err-write_leap-clause-err
returns-in_err-write_leap-clause-err c =
    at_refusal c.from_residual.result
    (adds_within c.args.out.now.items c.write_leap.new.out.items (leap_text c.args.pond.now ++ 32 ∷ []) (word_text c.args.pond.now.to)
    (adds_within c.args.out.now.items c.write_leap.new.out.items (leap_text c.args.pond.now) (32 ∷ []) c.in_err-write_leap.ensures.err))

pub returns-clause-err : goal.returns-clause-err
returns-clause-err c =
    let wrote = appended c.args.out.now.items c.write_leap.new.out.items c.push.new.self.items (leap_text c.args.pond.now) (32 ∷ []) c.in_ok-write_leap.ensures.ok c.in_ok-push.ensures.items in
    on_err_weaker c.write_word.result
    (λ h. adds_behind c.args.out.now.items c.push.new.self.items c.write_word.new.out.items (leap_text c.args.pond.now ++ 32 ∷ []) (word_text c.args.pond.now.to) wrote h)
    c.write_word.ensures.err
