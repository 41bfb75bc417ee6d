use Rattle.ht_script.specs.Tokens.{Is}
use Rattle.ht_script.specs.Lines.{IsNamed}
use Rattle.ht_script.proofs.TokenLaws.{none_of, first_of}
use Rattle.ht_script.proofs.GrammarLaws.{name_token}
use Rattle.ht_script.proofs.value.read_first_name.Goals as goal

pub returns-in_default : goal.returns-in_default
returns-in_default c = λ name rest h. none_of (IsNamed name) (Is rest) c.args.bytes.now (λ t g. name_token t g.0) c.in_default.ensures h

pub returns-in_default-2 : goal.returns-in_default-2
returns-in_default-2 c = λ name rest h.
    (rw c.in_default-2.is at c.in_ok-name.ensures) name (first_of (IsNamed name) (Is rest) c.args.bytes.now c.in-Some.field-0-0 c.in-Some.token.now c.in-Some.rest.now (λ t g. name_token t g.0) c.in-Some.ensures h).0
