use Rattle.std.proofs.Common.{rules}
use Rattle.ht_calc.specs.Loads.{file_refused}
use Rattle.ht_calc.proofs.Loading.{file_bound}
use Rattle.ht_calc.proofs.session.Session.bind_file.Goals as goal

pub returns-in_ok-bind-in-Ok-clause-loads : goal.returns-in_ok-bind-in-Ok-clause-loads
returns-in_ok-bind-in-Ok-clause-loads c =
    let is = c.in-Ok.ensures.element in
    file_bound c.args.self.now c.bind.new.self c.args.name c.in_ok-copy-in-Ok.field-0 c.args.bytes.now is.1.0 c.in-Ok.element.rows c.args.shape c.row_count-rows.result c.requires.shape c.requires.room is.1.1 is.1.2 is.1.3
    c.in-Ok.ensures.small.0 c.in-Ok.ensures.small.1 (search rules) (search rules) (search rules)

pub returns-in_ok-refusal_of-in-Err-clause-loads : goal.returns-in_ok-refusal_of-in-Err-clause-loads
returns-in_ok-refusal_of-in-Err-clause-loads c =
    file_refused c.args.bytes.now c.args.shape c.in-Err.fault c.in_ok-refusal_of-in-Err.field-0 c.requires.shape c.requires.room c.in-Err.ensures.fault c.in_ok-refusal_of-in-Err.ensures
