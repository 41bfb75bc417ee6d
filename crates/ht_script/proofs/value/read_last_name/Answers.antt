use Rattle.ht_script.specs.Lines.{IsNamed}
use Rattle.ht_script.proofs.TokenLaws.{no_single, single_read}
use Rattle.ht_script.proofs.GrammarLaws.{name_token}
use Rattle.ht_script.proofs.value.read_last_name.Goals as goal

pub returns-in_default : goal.returns-in_default
returns-in_default c = λ name h. no_single (IsNamed name) c.args.bytes.now (λ t g. name_token t g.0) c.in_default.ensures h

pub returns : goal.returns
returns c = single_read IsNamed c.args.bytes.now c.in-Some.token.now (λ name t g. name_token t g.0) c.in-Some.ensures.1 c.in-Some.ensures.0 c.read_name.result c.read_name.ensures
