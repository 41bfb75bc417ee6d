use Rattle.std.proofs.Common.{[], ◌∷◌}
use Rattle.std.proofs.lemmas.Result.{on_err_weaker}
use Rattle.ht_text.proofs.Writing.{adds_behind}
use Rattle.ht_answer.specs.OrbitTexts.{pond_text}
use Rattle.ht_answer.proofs.orbit.write_later.Goals as goal

pub returns-clause-err : goal.returns-clause-err
returns-clause-err c =
    on_err_weaker c.write_pond.result
    (λ h. adds_behind c.args.out.now.items c.push.new.self.items c.write_pond.new.out.items (59 ∷ []) (pond_text c.args.pond.now) c.in_ok-push.ensures.items h)
    c.write_pond.ensures.err
