use Rattle.std.proofs.Common.{[], ◌∷◌, ◌++◌}
use Rattle.std.specs.Prelude.{decimal}
use Rattle.std.proofs.lemmas.Result.{on_err_weaker}
use Rattle.ht_text.proofs.Writing.{appended, adds_within, adds_behind, at_refusal}
use Rattle.ht_answer.proofs.profile.write_cycles.Goals as goal

pub returns-in_err-write_natural-clause-err : goal.returns-in_err-write_natural-clause-err
returns-in_err-write_natural-clause-err c =
    at_refusal c.from_residual.result
    (adds_within c.args.out.now.items c.write_natural.new.out.items (decimal c.args.entry.now.0 ++ 58 ∷ []) (decimal c.args.entry.now.1)
    (adds_within c.args.out.now.items c.write_natural.new.out.items (decimal c.args.entry.now.0) (58 ∷ []) c.in_err-write_natural.ensures.err))

pub returns-clause-err : goal.returns-clause-err
returns-clause-err c =
    let wrote = appended c.args.out.now.items c.write_natural.new.out.items c.push.new.self.items (decimal c.args.entry.now.0) (58 ∷ []) c.in_ok-write_natural.ensures.ok c.in_ok-push.ensures.items in
    on_err_weaker c.write_natural-2.result
    (λ h. adds_behind c.args.out.now.items c.push.new.self.items c.write_natural-2.new.out.items (decimal c.args.entry.now.0 ++ 58 ∷ []) (decimal c.args.entry.now.1) wrote h)
    c.write_natural-2.ensures.err
