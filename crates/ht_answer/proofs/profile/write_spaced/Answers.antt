use Rattle.std.proofs.Common.{[], ◌∷◌}
use Rattle.std.proofs.lemmas.Result.{on_err_weaker}
use Rattle.ht_text.proofs.Writing.{adds_behind}
use Rattle.ht_answer.specs.OrderTexts.{cycles_text}
use Rattle.ht_answer.proofs.profile.write_spaced.Goals as goal

pub returns-clause-err : goal.returns-clause-err
returns-clause-err c =
    on_err_weaker c.write_cycles.result
    (λ h. adds_behind c.args.out.now.items c.push.new.self.items c.write_cycles.new.out.items (32 ∷ []) (cycles_text c.args.entry.now) c.in_ok-push.ensures.items h)
    c.write_cycles.ensures.err
