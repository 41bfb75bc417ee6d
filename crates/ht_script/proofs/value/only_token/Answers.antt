use Rattle.std.proofs.Common.{subst, sym}
use Rattle.ht_script.specs.Tokens.{Is, IsSpaces, IsToken}
use Rattle.ht_script.proofs.TokenLaws.{none_of, first_of}
use Rattle.ht_script.proofs.value.only_token.Goals as goal

pub returns-in_default : goal.returns-in_default
returns-in_default c = λ token is_token h. none_of (Is token) IsSpaces c.args.bytes.now (λ t e. subst IsToken (sym e) is_token) c.in_default.ensures h

pub returns-then-not-only_spaces : goal.returns-then-not-only_spaces
returns-then-not-only_spaces c = λ token is_token h.
    let parts = first_of (Is token) IsSpaces c.args.bytes.now c.in-Some.field-0-0 c.in-Some.token.now c.in-Some.rest.now (λ t e. subst IsToken (sym e) is_token) c.in-Some.ensures h in
    let yes = c.only_spaces.ensures.1 parts.1 in
    cc
