use Rattle.ht_script.specs.Lines.{IsFileNamed}
use Rattle.ht_script.proofs.TokenLaws.{no_single, single_read}
use Rattle.ht_script.proofs.GrammarLaws.{file_token}
use Rattle.ht_script.proofs.value.read_last_file.Goals as goal

pub returns-in_default : goal.returns-in_default
returns-in_default c = λ file h. no_single (IsFileNamed file) c.args.bytes.now (λ t g. file_token t g.0) c.in_default.ensures h

pub returns : goal.returns
returns c = single_read IsFileNamed c.args.bytes.now c.in-Some.token.now (λ file t g. file_token t g.0) c.in-Some.ensures.1 c.in-Some.ensures.0 c.read_file.result c.read_file.ensures
