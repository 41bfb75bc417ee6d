use Rattle.std.specs.Prelude.{codes}
use Rattle.std.proofs.Common.{List, ℕ}
use Rattle.ht_script.specs.Tokens.{◌▸◌, Is, IsFirstToken}
use Rattle.ht_script.specs.Lines.{IsNamed}
use Rattle.ht_script.proofs.TokenLaws.{none_of, first_of}
use Rattle.ht_script.proofs.GrammarLaws.{name_token, equals_token}
use Rattle.ht_script.proofs.value.read_bound_name.Goals as goal

-- behind the name
behind_name : (name left bytes : List ℕ) (at : ℕ) (first rest : List ℕ) → IsFirstToken bytes at first rest → (IsNamed name ▸ Is (codes "=") ▸ Is left) bytes → IsNamed name first × (Is (codes "=") ▸ Is left) rest
behind_name name left bytes at first rest found h = first_of (IsNamed name) (Is (codes "=") ▸ Is left) bytes at first rest (λ t g. name_token t g.0) found h

pub returns-in_default : goal.returns-in_default
returns-in_default c = λ name left h. none_of (IsNamed name) (Is (codes "=") ▸ Is left) c.args.bytes.now (λ t g. name_token t g.0) c.in_default.ensures h

pub returns-in_default-first_token : goal.returns-in_default-first_token
returns-in_default-first_token c = λ name left h.
    none_of (Is (codes "=")) (Is left) c.in-Some.rest.now equals_token c.in_default-first_token.ensures
    (behind_name name left c.args.bytes.now c.in-Some.field-0-0 c.in-Some.first.now c.in-Some.rest.now c.in-Some.ensures h).1

pub returns-then-not-is_equals : goal.returns-then-not-is_equals
returns-then-not-is_equals c = λ name left h.
    let behind = (behind_name name left c.args.bytes.now c.in-Some.field-0-0 c.in-Some.first.now c.in-Some.rest.now c.in-Some.ensures h).1 in
    let parts = first_of (Is (codes "=")) (Is left) c.in-Some.rest.now c.in-Some-first_token.field-0-0 c.in-Some-first_token.equals.now c.in-Some-first_token.behind.now equals_token c.in-Some-first_token.ensures behind in
    let yes = c.is_equals.ensures.1 parts.0 in
    cc

pub returns-in_default-2 : goal.returns-in_default-2
returns-in_default-2 c = λ name left h.
    (rw c.in_default-2.is at c.in_ok-name.ensures) name (behind_name name left c.args.bytes.now c.in-Some.field-0-0 c.in-Some.first.now c.in-Some.rest.now c.in-Some.ensures h).0
