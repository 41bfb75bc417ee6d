use Rattle.std.proofs.lemmas.Result.{on_err_weaker}
use Rattle.std.specs.Prelude.{decimal}
use Rattle.ht_text.proofs.Writing.{adds_behind}
use Rattle.ht_answer.proofs.text.write_number.Goals as goal

pub returns-clause-err : goal.returns-clause-err
returns-clause-err c =
    on_err_weaker c.write_size.result
    (λ h. adds_behind c.args.out.now.items c.extend_from_slice.new.self.items c.write_size.new.out.items c.args.text.now (decimal c.args.n) c.in_ok-extend_from_slice.ensures.items h)
    c.write_size.ensures.err
