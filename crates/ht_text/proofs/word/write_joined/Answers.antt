use Rattle.std.proofs.Common.{[], ◌∷◌, ◌++◌}
use Rattle.std.specs.Prelude.{decimal}
use Rattle.std.proofs.lemmas.Result.{on_err_weaker}
use Rattle.ht_text.specs.Texts.{letters_text}
use Rattle.ht_text.proofs.Writing.{appended, adds_behind}
use Rattle.ht_text.proofs.word.write_joined.Goals as goal

pub returns-clause-err : goal.returns-clause-err
returns-clause-err c =
    let wrote = appended c.args.out.now.items c.push.new.self.items c.write_num.new.out.items (120 ∷ []) (decimal c.args.w.now.root) c.in_ok-push.ensures.items c.in_ok-write_num.ensures.ok in
    on_err_weaker c.write_parts.result
    (λ h. adds_behind c.args.out.now.items c.write_num.new.out.items c.write_parts.new.out.items (120 ∷ decimal c.args.w.now.root) (letters_text (c.args.w.now.letters ++ c.args.more.now)) wrote h)
    (rw c.as_slice.ensures at c.write_parts.ensures.err)
