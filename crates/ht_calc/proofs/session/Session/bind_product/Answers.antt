use Rattle.std.proofs.Common.{◌≡◌, List, Some, length, rules, subst, subst₂, refl, true≢false, sym, ap, ◌∙◌}
use Rattle.ht_word.specs.declared.shape.Shape.{Shape}
use Rattle.ht_pair.specs.Actions.{IsCanonical}
use Rattle.ht_pair.proofs.AlikeLaws.{alike_refl}
use Rattle.ht_script.specs.declared.factor.Factor.{Factor}
use Rattle.ht_script.specs.declared.line.Line.TheVariants as line
use Rattle.ht_answer.specs.declared.answer.Answer.TheVariants.{Let, Refused}
use Rattle.ht_answer.specs.declared.answer.Refusal.TheVariants as refusal
use Rattle.ht_calc.specs.Names.{rows_by_name, bind, AreBound, IsFirstUnbound}
use Rattle.ht_calc.specs.Products.{names_of, HasWide}
use Rattle.ht_calc.specs.States.{State}
use Rattle.ht_calc.specs.Steps.{Does, before_group, unbound, no_room, product_bound, product_wide}
use Rattle.ht_calc.proofs.FactorLaws.{bound_by_rows, unbound_by_rows, line_terms, line_terms_stand}
use Rattle.ht_calc.proofs.NameLaws.{same_room, no_room_for}
use Rattle.ht_calc.proofs.StepLaws.{element_bound, large_refused}
use Rattle.ht_calc.proofs.session.Session.bind_product.Goals as goal

pub returns-in_default-clause-step : goal.returns-in_default-clause-step
returns-in_default-clause-step c =
    subst (λ (s : State). Does s (line.LetProduct c.args.name c.args.factors) (Refused refusal.Group) s) c.self.view_is (before_group (line.LetProduct c.args.name c.args.factors) tt (search rules))

pub returns-in-Some-first_unbound-clause-step : goal.returns-in-Some-first_unbound-clause-step
returns-in-Some-first_unbound-clause-step c =
    let names = c.self.inside.names in
    subst (λ (s : State). Does s (line.LetProduct c.args.name c.args.factors) (Refused (refusal.Name c.in_ok-copy.field-0)) s) c.self.view_is
    (unbound (line.LetProduct c.args.name c.args.factors) c.in_ok-copy.field-0 (search rules)
    (subst₂ (λ (t : List Factor) name. IsFirstUnbound (rows_by_name names) (names_of t) name) c.as_slice-factors.ensures (sym c.in_ok-copy.ensures)
    (unbound_by_rows names (names_of c.as_slice-factors.result.now) c.in-Some-first_unbound.missing.now c.in-Some-first_unbound.ensures)))

pub returns-then-not-has_room-clause-step : goal.returns-then-not-has_room-clause-step
returns-then-not-has_room-clause-step c =
    let names = c.self.inside.names in
    subst (λ (s : State). Does s (line.LetProduct c.args.name c.args.factors) (Refused refusal.Names) s) c.self.view_is
    (no_room (line.LetProduct c.args.name c.args.factors) (search rules)
    (subst (λ (t : List Factor). AreBound (rows_by_name names) (names_of t)) c.as_slice-factors.ensures (bound_by_rows names (names_of c.as_slice-factors.result.now) c.in_default-first_unbound.ensures))
    (no_room_for (rows_by_name names) c.args.name (λ room. true≢false (sym (c.if-not-has_room.ensures.1 ((same_room names c.args.name).0 room))))))

pub returns-then-has_wide-clause-step : goal.returns-then-has_wide-clause-step
returns-then-has_wide-clause-step c =
    let names = c.self.inside.names in
    subst (λ (s : State). Does s (line.LetProduct c.args.name c.args.factors) (Refused refusal.Wide) s) c.self.view_is
    (product_wide c.args.name c.args.factors (search rules)
    (subst (λ (t : List Factor). AreBound (rows_by_name names) (names_of t)) c.as_slice-factors.ensures (bound_by_rows names (names_of c.as_slice-factors.result.now) c.in_default-first_unbound.ensures))
    ((same_room names c.args.name).1 (c.if-not-has_room.ensures.0 refl))
    (subst HasWide c.as_slice-factors.ensures (c.if-has_wide.ensures.0 refl)))

pub product_of-requires : goal.product_of-requires
product_of-requires c =
    line_terms c.self.inside.shape c.in-Some.shape c.self.inside.names c.as_slice-factors.result.now (search rules) c.self.invariant.of_shape
    c.in_default-first_unbound.ensures (λ wide. true≢false (sym (c.if-has_wide.ensures.1 wide)))

pub bind_element-requires : goal.bind_element-requires
bind_element-requires c =
    let some : c.self.inside.shape ≡ Some c.in-Some.shape = search rules in
    let terms = line_terms c.self.inside.shape c.in-Some.shape c.self.inside.names c.as_slice-factors.result.now some c.self.invariant.of_shape
    c.in_default-first_unbound.ensures (λ wide. true≢false (sym (c.if-has_wide.ensures.1 wide))) in
    record { of_shape = sym (ap (λ (s : State). s.shape) c.self.view_is) ∙ some ∙ ap (λ (s : Shape). Some s) (sym (c.in-Ok.ensures.product terms.0 terms.1).0) }

pub returns-in-Ok-clause-step : goal.returns-in-Ok-clause-step
returns-in-Ok-clause-step c =
    let names = c.self.inside.names in
    let shape = c.in-Some.shape in
    let rows = c.in-Ok.element.rows in
    let some : c.self.inside.shape ≡ Some c.in-Some.shape = search rules in
    let terms = line_terms c.self.inside.shape shape names c.as_slice-factors.result.now some c.self.invariant.of_shape
    c.in_default-first_unbound.ensures (λ wide. true≢false (sym (c.if-has_wide.ensures.1 wide))) in
    let product = c.in-Ok.ensures.product terms.0 terms.1 in
    element_bound c.args.self.now c.bind_element.new.self (line.LetProduct c.args.name c.args.factors) c.args.name rows c.bind_element.result
    (subst (λ (s : State). Does s (line.LetProduct c.args.name c.args.factors) (Let c.args.name (length rows)) (record s { names = bind s.names c.args.name rows })) c.self.view_is
    (product_bound c.args.name c.args.factors terms.0 rows rows shape some (line_terms_stand shape names c.args.factors c.as_slice-factors.result.now terms.0 c.as_slice-factors.ensures terms.1)
    ((same_room names c.args.name).1 (c.if-not-has_room.ensures.0 refl)) (c.in-Ok.ensures.kept terms.0 terms.1) product.1
    (record { form = subst (λ (s : Shape). IsCanonical s rows) product.0 c.bind_element.ensures.canonical; alike = alike_refl shape rows product.1.pair })))
    c.bind_element.ensures.answer c.bind_element.ensures.bound

pub returns-in-Err-Large-clause-step : goal.returns-in-Err-Large-clause-step
returns-in-Err-Large-clause-step c =
    let names = c.self.inside.names in
    let shape = c.in-Some.shape in
    let some : c.self.inside.shape ≡ Some c.in-Some.shape = search rules in
    let terms = line_terms c.self.inside.shape shape names c.as_slice-factors.result.now some c.self.invariant.of_shape
    c.in_default-first_unbound.ensures (λ wide. true≢false (sym (c.if-has_wide.ensures.1 wide))) in
    large_refused (record { shape = c.self.inside.shape; budget = c.self.inside.budget; names = rows_by_name names }) c.args.self.now c.args.name c.args.factors terms.0 c.in-Err-Large.rows c.in-Err-Large.letters _ _ shape
    c.self.view_is c.in-Err-Large.rows-is c.in-Err-Large.letters-is some (line_terms_stand shape names c.args.factors c.as_slice-factors.result.now terms.0 c.as_slice-factors.ensures terms.1)
    ((same_room names c.args.name).1 (c.if-not-has_room.ensures.0 refl)) (c.in-Err-Large.ensures.large terms.0 c.in-Err-Large.rows c.in-Err-Large.letters terms.1 (search rules))
