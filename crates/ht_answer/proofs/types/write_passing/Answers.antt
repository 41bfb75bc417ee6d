use Rattle.std.proofs.Common.{[], ◌∷◌, ◌++◌}
use Rattle.std.specs.Prelude.{codes}
use Rattle.std.proofs.lemmas.Result.{on_err_weaker}
use Rattle.ht_text.proofs.Writing.{appended, adds_behind}
use Rattle.ht_answer.specs.KindTexts.{reach_text}
use Rattle.ht_answer.proofs.types.write_passing.Goals as goal

pub returns-clause-err : goal.returns-clause-err
returns-clause-err c =
    let first = appended c.args.out.now.items c.extend_from_slice.new.self.items c.write_reach.new.out.items (codes "passing ") (reach_text c.args.all.now c.args.ahead.now) c.in_ok-extend_from_slice.ensures.items c.in_ok-write_reach.ensures.ok in
    let wrote = appended c.args.out.now.items c.write_reach.new.out.items c.push.new.self.items (codes "passing " ++ reach_text c.args.all.now c.args.ahead.now) (32 ∷ []) first c.in_ok-push.ensures.items in
    on_err_weaker c.write_reach-2.result
    (λ h. adds_behind c.args.out.now.items c.push.new.self.items c.write_reach-2.new.out.items (codes "passing " ++ reach_text c.args.all.now c.args.ahead.now ++ 32 ∷ []) (reach_text c.args.all.now c.args.behind.now) wrote h)
    c.write_reach-2.ensures.err
