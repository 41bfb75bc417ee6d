use Rattle.ht_script.specs.Tokens.{◌▸◌, IsSpaces}
use Rattle.ht_script.specs.Lines.{IsNumber}
use Rattle.ht_script.proofs.TokenLaws.{none_of, first_of, no_single, single_is}
use Rattle.ht_script.proofs.GrammarLaws.{number_token}
use Rattle.ht_script.proofs.value.read_two_numbers.Goals as goal

pub returns-in_default : goal.returns-in_default
returns-in_default c = λ n r h. none_of (IsNumber n) (IsNumber r ▸ IsSpaces) c.args.bytes.now (λ t g. number_token t n g) c.in_default.ensures h

pub returns-in_default-read_num : goal.returns-in_default-read_num
returns-in_default-read_num c = λ n r h.
    c.in_default-read_num.ensures n
    (first_of (IsNumber n) (IsNumber r ▸ IsSpaces) c.args.bytes.now c.in-Some.field-0-0 c.in-Some.first.now c.in-Some.rest.now (λ t g. number_token t n g) c.in-Some.ensures h).0

pub returns-in_default-only_token : goal.returns-in_default-only_token
returns-in_default-only_token c = λ n r h.
    no_single (IsNumber r) c.in-Some.rest.now (λ t g. number_token t r g) c.in_default-only_token.ensures
    (first_of (IsNumber n) (IsNumber r ▸ IsSpaces) c.args.bytes.now c.in-Some.field-0-0 c.in-Some.first.now c.in-Some.rest.now (λ t g. number_token t n g) c.in-Some.ensures h).1

pub returns-in_default-read_num-2 : goal.returns-in_default-read_num-2
returns-in_default-read_num-2 c = λ n r h.
    let left = (first_of (IsNumber n) (IsNumber r ▸ IsSpaces) c.args.bytes.now c.in-Some.field-0-0 c.in-Some.first.now c.in-Some.rest.now (λ t g. number_token t n g) c.in-Some.ensures h).1 in
    c.in_default-read_num-2.ensures r
    (single_is (IsNumber r) c.in-Some.rest.now c.in-Some-only_token.second.now (λ t g. number_token t r g) c.in-Some-only_token.ensures.1 c.in-Some-only_token.ensures.0 left)
