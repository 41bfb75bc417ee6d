use Rattle.ht_script.specs.Lines.{AreRows}
use Rattle.ht_script.proofs.TokenLaws.{no_single, single_read}
use Rattle.ht_script.proofs.GrammarLaws.{rows_token}
use Rattle.ht_script.proofs.value.read_last_rows.Goals as goal

pub returns-in_default : goal.returns-in_default
returns-in_default c = λ rows h. no_single (AreRows rows) c.args.bytes.now (λ t g. rows_token t rows g) c.in_default.ensures h

pub returns : goal.returns
returns c = single_read AreRows c.args.bytes.now c.in-Some.token.now (λ rows t g. rows_token t rows g) c.in-Some.ensures.1 c.in-Some.ensures.0 c.read_rows.result c.read_rows.ensures
