use Rattle.ht_script.specs.Lines.{IsWritten}
use Rattle.ht_script.proofs.TokenLaws.{no_single, single_read}
use Rattle.ht_script.proofs.GrammarLaws.{word_token}
use Rattle.ht_script.proofs.value.read_last_word.Goals as goal

pub returns-in_default : goal.returns-in_default
returns-in_default c = λ word h. no_single (IsWritten word) c.args.bytes.now (λ t g. word_token t word g) c.in_default.ensures h

pub returns : goal.returns
returns c = single_read IsWritten c.args.bytes.now c.in-Some.token.now (λ word t g. word_token t word g) c.in-Some.ensures.1 c.in-Some.ensures.0 c.read_word.result c.read_word.ensures
