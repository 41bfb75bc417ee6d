use Rattle.ht_script.specs.Tokens.{◌▸◌, IsSpaces}
use Rattle.ht_script.specs.Lines.{IsWritten}
use Rattle.ht_script.proofs.TokenLaws.{none_of, first_of}
use Rattle.ht_script.proofs.GrammarLaws.{word_token}
use Rattle.ht_script.proofs.value.read_two_words.Goals as goal

pub returns-in_default : goal.returns-in_default
returns-in_default c = λ first second h. none_of (IsWritten first) (IsWritten second ▸ IsSpaces) c.args.bytes.now (λ t g. word_token t first g) c.in_default.ensures h

pub returns-in_default-2 : goal.returns-in_default-2
returns-in_default-2 c = λ first second h.
    (rw c.in_default-2.is at c.in_ok-first.ensures) first
    (first_of (IsWritten first) (IsWritten second ▸ IsSpaces) c.args.bytes.now c.in-Some.field-0-0 c.in-Some.token.now c.in-Some.rest.now (λ t g. word_token t first g) c.in-Some.ensures h).0

pub returns-in_default-3 : goal.returns-in_default-3
returns-in_default-3 c = λ first second h.
    (rw c.in_default-3.is at c.in_ok-second.ensures) second
    (first_of (IsWritten first) (IsWritten second ▸ IsSpaces) c.args.bytes.now c.in-Some.field-0-0 c.in-Some.token.now c.in-Some.rest.now (λ t g. word_token t first g) c.in-Some.ensures h).1
