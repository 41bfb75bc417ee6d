use Rattle.std.proofs.Common.{◌∙◌, List, [], rules, refl, sym, ap, subst, true≢false}
use Rattle.ht_pair.specs.declared.row.Row.{Row}
use Rattle.ht_script.specs.declared.line.Line.TheVariants as line
use Rattle.ht_answer.specs.declared.answer.Answer.TheVariants.{Pair, Refused}
use Rattle.ht_answer.specs.declared.answer.Refusal.TheVariants as refusal
use Rattle.ht_calc.specs.Names.{rows_by_name}
use Rattle.ht_calc.specs.States.{State}
use Rattle.ht_calc.specs.Steps.{Does, before_group, unbound, image_shown, image_foreign}
use Rattle.ht_calc.proofs.NameLaws.{rows_of, bound_rows, bound_of_shape, word_of_element, first_unbound}
use Rattle.ht_calc.proofs.session.Session.image.Goals as goal

pub returns-in_default-clause-step : goal.returns-in_default-clause-step
returns-in_default-clause-step c =
    subst (λ (s : State). Does s (line.Image c.args.name c.args.word) (Refused refusal.Group) s) c.self.view_is (before_group (line.Image c.args.name c.args.word) tt (search rules))

pub returns-in_default-get-clause-step : goal.returns-in_default-get-clause-step
returns-in_default-get-clause-step c =
    subst (λ (s : State). Does s (line.Image c.args.name c.args.word) (Refused (refusal.Name c.args.name)) s) c.self.view_is
    (unbound (line.Image c.args.name c.args.word) c.args.name (search rules) (first_unbound (rows_by_name c.self.inside.names) c.args.name [] (bound_rows c.self.inside.names c.args.name ∙ ap rows_of c.in_default-get.ensures)))

pub returns-then-not-holds-clause-step : goal.returns-then-not-holds-clause-step
returns-then-not-holds-clause-step c =
    subst (λ (s : State). Does s (line.Image c.args.name c.args.word) (Refused (refusal.Word 1)) s) c.self.view_is
    (image_foreign c.args.name c.args.word c.in-Some-get.element.now.rows c.in-Some.shape (search rules) (bound_rows c.self.inside.names c.args.name ∙ ap rows_of c.in-Some-get.ensures)
    (λ word. true≢false (sym (c.if-not-holds.ensures.1 word))))

pub image_rows-requires : goal.image_rows-requires
image_rows-requires c =
    word_of_element c.self.inside.shape c.in-Some.shape c.in-Some-get.element.now.shape c.args.word
    (bound_of_shape c.self.inside.shape c.self.inside.names c.args.name c.in-Some-get.element.now c.self.invariant.of_shape c.in-Some-get.ensures).shape_is (search rules) (c.if-not-holds.ensures.0 refl)

pub returns-clause-step : goal.returns-clause-step
returns-clause-step c =
    let names = c.self.inside.names in
    let element = c.in-Some-get.element.now in
    let shape_is = (bound_of_shape c.self.inside.shape names c.args.name element c.self.invariant.of_shape c.in-Some-get.ensures).shape_is in
    let shown = c.in_ok-image_rows.ensures.image in
    let old : State = record { shape = c.self.inside.shape; budget = c.self.inside.budget; names = rows_by_name names } in
    subst (λ (s : State). Does s (line.Image c.args.name c.args.word) (Pair c.in_ok-image_rows.field-0) s) c.self.view_is
    (subst (λ (rows : List Row). Does old (line.Image c.args.name c.args.word) (Pair rows) old) (sym shown.2)
    (image_shown c.args.name c.args.word element.rows shown.0 element.shape (sym shape_is) (bound_rows names c.args.name ∙ ap rows_of c.in-Some-get.ensures)
    (word_of_element c.self.inside.shape c.in-Some.shape element.shape c.args.word shape_is (search rules) (c.if-not-holds.ensures.0 refl)) shown.1))
