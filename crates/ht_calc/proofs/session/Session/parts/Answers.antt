use Rattle.std.proofs.Common.{◌≡◌, Some, rules, refl, true≢false, sym, ap, ◌∙◌}
use Rattle.ht_word.specs.declared.shape.Shape.{Shape}
use Rattle.ht_calc.specs.Names.{rows_by_name}
use Rattle.ht_calc.specs.States.{State}
use Rattle.ht_calc.proofs.NameLaws.{rows_of, bound_rows, bound_of_shape}
use Rattle.ht_calc.proofs.PartSteps.{parts_early, parts_none, parts_no_room, parts_over, parts_too_large, parts_told}
use Rattle.ht_calc.proofs.session.Session.parts.Goals as goal

pub returns-then-is_none-clause-step : goal.returns-then-is_none-clause-step
returns-then-is_none-clause-step c =
    parts_early (record { shape = c.self.inside.shape; budget = c.self.inside.budget; names = rows_by_name c.self.inside.names }) c.args.self.now c.args.periodic c.args.infinite c.args.whole c.self.view_is (search rules)

pub returns-in_default-clause-step : goal.returns-in_default-clause-step
returns-in_default-clause-step c =
    parts_none (record { shape = c.self.inside.shape; budget = c.self.inside.budget; names = rows_by_name c.self.inside.names }) c.args.self.now c.args.periodic c.args.infinite c.args.whole c.self.view_is (search rules)
    (bound_rows c.self.inside.names c.args.whole ∙ ap rows_of c.in_default.ensures)

pub returns-then-not-has_room_for_both-clause-step : goal.returns-then-not-has_room_for_both-clause-step
returns-then-not-has_room_for_both-clause-step c =
    parts_no_room (record { shape = c.self.inside.shape; budget = c.self.inside.budget; names = rows_by_name c.self.inside.names }) c.args.self.now c.args.periodic c.args.infinite c.args.whole c.self.view_is c.in-Some.element.now.rows (search rules)
    (bound_rows c.self.inside.names c.args.whole ∙ ap rows_of c.in-Some.ensures) (λ room. true≢false (sym (c.if-not-has_room_for_both.ensures.1 room)))

-- the shape of an element that was made of one that is bound
made_of : (told old : State) (shape made : Shape) → told ≡ old → Some shape ≡ told.shape → made ≡ shape → old.shape ≡ Some made
made_of told old shape made same some is = sym (ap (λ (s : State). s.shape) same) ∙ sym some ∙ ap (λ (s : Shape). Some s) (sym is)

pub bind_parts-requires-clause-first_shape : goal.bind_parts-requires-clause-first_shape
bind_parts-requires-clause-first_shape c =
    let element = c.in-Some.element.now in
    let shape_is = (bound_of_shape c.self.inside.shape c.self.inside.names c.args.whole element c.self.invariant.of_shape c.in-Some.ensures).shape_is in
    made_of (record { shape = c.self.inside.shape; budget = c.self.inside.budget; names = rows_by_name c.self.inside.names }) c.args.self.now element.shape c.in-Ok.first.shape c.self.view_is shape_is c.in-Ok.ensures.shapes.0

pub bind_parts-requires-clause-second_shape : goal.bind_parts-requires-clause-second_shape
bind_parts-requires-clause-second_shape c =
    let element = c.in-Some.element.now in
    let shape_is = (bound_of_shape c.self.inside.shape c.self.inside.names c.args.whole element c.self.invariant.of_shape c.in-Some.ensures).shape_is in
    made_of (record { shape = c.self.inside.shape; budget = c.self.inside.budget; names = rows_by_name c.self.inside.names }) c.args.self.now element.shape c.in-Ok.second.shape c.self.view_is shape_is c.in-Ok.ensures.shapes.1

pub returns-in-Ok-clause-step : goal.returns-in-Ok-clause-step
returns-in-Ok-clause-step c =
    let element = c.in-Some.element.now in
    let shape_is = (bound_of_shape c.self.inside.shape c.self.inside.names c.args.whole element c.self.invariant.of_shape c.in-Some.ensures).shape_is in
    parts_told (record { shape = c.self.inside.shape; budget = c.self.inside.budget; names = rows_by_name c.self.inside.names }) c.args.self.now c.args.periodic c.args.infinite c.args.whole c.self.view_is element.rows element.shape (sym shape_is)
    (bound_rows c.self.inside.names c.args.whole ∙ ap rows_of c.in-Some.ensures) (c.if-not-has_room_for_both.ensures.0 refl) c.in-Ok.first.rows c.in-Ok.second.rows c.bind_parts.new.self c.bind_parts.result c.in-Ok.ensures.parts
    c.bind_parts.ensures.answer c.bind_parts.ensures.bound

pub returns-in-Err-Budget-clause-step : goal.returns-in-Err-Budget-clause-step
returns-in-Err-Budget-clause-step c =
    let element = c.in-Some.element.now in
    let shape_is = (bound_of_shape c.self.inside.shape c.self.inside.names c.args.whole element c.self.invariant.of_shape c.in-Some.ensures).shape_is in
    parts_over (record { shape = c.self.inside.shape; budget = c.self.inside.budget; names = rows_by_name c.self.inside.names }) c.args.self.now c.args.periodic c.args.infinite c.args.whole c.self.view_is element.rows element.shape (sym shape_is)
    (bound_rows c.self.inside.names c.args.whole ∙ ap rows_of c.in-Some.ensures) (c.if-not-has_room_for_both.ensures.0 refl) (c.in-Err-Budget.ensures.over (search rules))

pub returns-in-Err-Large-clause-step : goal.returns-in-Err-Large-clause-step
returns-in-Err-Large-clause-step c =
    let element = c.in-Some.element.now in
    let shape_is = (bound_of_shape c.self.inside.shape c.self.inside.names c.args.whole element c.self.invariant.of_shape c.in-Some.ensures).shape_is in
    parts_too_large (record { shape = c.self.inside.shape; budget = c.self.inside.budget; names = rows_by_name c.self.inside.names }) c.args.self.now c.args.periodic c.args.infinite c.args.whole c.self.view_is element.rows element.shape (sym shape_is)
    (bound_rows c.self.inside.names c.args.whole ∙ ap rows_of c.in-Some.ensures) (c.if-not-has_room_for_both.ensures.0 refl) _ _ (c.in-Err-Large.ensures.large c.in-Err-Large.rows c.in-Err-Large.letters (search rules))
