use Rattle.std.proofs.Common.{◌∙◌, rules, refl, sym, ap, true≢false}
use Rattle.ht_answer.specs.declared.answer.Answer.TheVariants.{Refused}
use Rattle.ht_answer.specs.declared.answer.Refusal.TheVariants as refusal
use Rattle.ht_calc.specs.Names.{rows_by_name}
use Rattle.ht_ask.specs.ShareAnswers.{first_foreign, second_foreign}
use Rattle.ht_calc.proofs.NameLaws.{rows_of, bound_rows, bound_of_shape, word_of_element}
use Rattle.ht_calc.proofs.ShareSteps.{share_early, share_none, share_answered, share_over}
use Rattle.ht_calc.proofs.session.Session.share.Goals as goal

pub returns-in_default-clause-step : goal.returns-in_default-clause-step
returns-in_default-clause-step c =
    share_early (record { shape = c.self.inside.shape; budget = c.self.inside.budget; names = rows_by_name c.self.inside.names }) c.args.self.now c.args.name c.args.first c.args.second c.self.view_is (search rules)

pub returns-in_default-get-clause-step : goal.returns-in_default-get-clause-step
returns-in_default-get-clause-step c =
    share_none (record { shape = c.self.inside.shape; budget = c.self.inside.budget; names = rows_by_name c.self.inside.names }) c.args.self.now c.args.name c.args.first c.args.second c.self.view_is (search rules)
    (bound_rows c.self.inside.names c.args.name ∙ ap rows_of c.in_default-get.ensures)

pub returns-then-not-holds-clause-step : goal.returns-then-not-holds-clause-step
returns-then-not-holds-clause-step c =
    share_answered (record { shape = c.self.inside.shape; budget = c.self.inside.budget; names = rows_by_name c.self.inside.names }) c.args.self.now c.args.name c.args.first c.args.second c.self.view_is
    c.in-Some-get.element.now.rows c.in-Some.shape (search rules) (bound_rows c.self.inside.names c.args.name ∙ ap rows_of c.in-Some-get.ensures) (Refused (refusal.Word 1))
    (first_foreign (λ word. true≢false (sym (c.if-not-holds.ensures.1 word))))

pub returns-then-not-holds-2-clause-step : goal.returns-then-not-holds-2-clause-step
returns-then-not-holds-2-clause-step c =
    share_answered (record { shape = c.self.inside.shape; budget = c.self.inside.budget; names = rows_by_name c.self.inside.names }) c.args.self.now c.args.name c.args.first c.args.second c.self.view_is
    c.in-Some-get.element.now.rows c.in-Some.shape (search rules) (bound_rows c.self.inside.names c.args.name ∙ ap rows_of c.in-Some-get.ensures) (Refused (refusal.Word 2))
    (second_foreign (c.if-not-holds.ensures.0 refl) (λ word. true≢false (sym (c.if-not-holds-2.ensures.1 word))))

pub share_of-requires-clause-first : goal.share_of-requires-clause-first
share_of-requires-clause-first c =
    word_of_element c.self.inside.shape c.in-Some.shape c.in-Some-get.element.now.shape c.args.first
    (bound_of_shape c.self.inside.shape c.self.inside.names c.args.name c.in-Some-get.element.now c.self.invariant.of_shape c.in-Some-get.ensures).shape_is (search rules) (c.if-not-holds.ensures.0 refl)

pub share_of-requires-clause-second : goal.share_of-requires-clause-second
share_of-requires-clause-second c =
    word_of_element c.self.inside.shape c.in-Some.shape c.in-Some-get.element.now.shape c.args.second
    (bound_of_shape c.self.inside.shape c.self.inside.names c.args.name c.in-Some-get.element.now c.self.invariant.of_shape c.in-Some-get.ensures).shape_is (search rules) (c.if-not-holds-2.ensures.0 refl)

pub returns-in-Ok-clause-step : goal.returns-in-Ok-clause-step
returns-in-Ok-clause-step c =
    let names = c.self.inside.names in
    let element = c.in-Some-get.element.now in
    let shape_is = (bound_of_shape c.self.inside.shape names c.args.name element c.self.invariant.of_shape c.in-Some-get.ensures).shape_is in
    share_answered (record { shape = c.self.inside.shape; budget = c.self.inside.budget; names = rows_by_name names }) c.args.self.now c.args.name c.args.first c.args.second c.self.view_is
    element.rows element.shape (sym shape_is) (bound_rows names c.args.name ∙ ap rows_of c.in-Some-get.ensures) c.in-Ok.answer c.in-Ok.ensures.answer

pub returns-in-Err-Budget-clause-step : goal.returns-in-Err-Budget-clause-step
returns-in-Err-Budget-clause-step c =
    let names = c.self.inside.names in
    let element = c.in-Some-get.element.now in
    let shape_is = (bound_of_shape c.self.inside.shape names c.args.name element c.self.invariant.of_shape c.in-Some-get.ensures).shape_is in
    share_over (record { shape = c.self.inside.shape; budget = c.self.inside.budget; names = rows_by_name names }) c.args.self.now c.args.name c.args.first c.args.second c.self.view_is
    element.rows element.shape (sym shape_is) (bound_rows names c.args.name ∙ ap rows_of c.in-Some-get.ensures)
    (word_of_element c.self.inside.shape c.in-Some.shape element.shape c.args.first shape_is (search rules) (c.if-not-holds.ensures.0 refl))
    (word_of_element c.self.inside.shape c.in-Some.shape element.shape c.args.second shape_is (search rules) (c.if-not-holds-2.ensures.0 refl))
    (c.in-Err-Budget.ensures.over (search rules))
