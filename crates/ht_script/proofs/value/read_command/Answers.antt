use Rattle.ht_script.proofs.LineLaws.{first_command, line_read}
use Rattle.ht_script.proofs.value.read_command.Goals as goal

pub returns-in_default-of_keyword : goal.returns-in_default-of_keyword
returns-in_default-of_keyword c = λ line h.
    let first = first_command c.args.line.now c.in-Some.field-0-0 c.in-Some.token.now c.in-Some.rest.now line c.requires c.in-Some.ensures h in
    c.in_default-of_keyword.ensures (first.of, first.word)

pub returns : goal.returns
returns c = line_read c.args.line.now c.in-Some.field-0-0 c.in-Some.token.now c.in-Some.rest.now c.in-Some-of_keyword.command c.requires c.in-Some.ensures c.in-Some-of_keyword.ensures c.read_behind.result c.read_behind.ensures
