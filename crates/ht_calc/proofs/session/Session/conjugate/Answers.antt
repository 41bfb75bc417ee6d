use Rattle.std.proofs.Common.{◌≡◌, rules, refl, true≢false, sym, ap, ◌∙◌, subst}
use Rattle.ht_word.specs.declared.shape.Shape.{Shape}
use Rattle.ht_pair.specs.declared.verdict.Verdict.TheVariants as verdict
use Rattle.ht_script.specs.declared.line.Line.TheVariants as line
use Rattle.ht_pair.specs.Actions.{IsCanonical}
use Rattle.ht_pair.specs.Verdicts.{IsVerdict}
use Rattle.ht_pair.specs.Decisions.{IsDecided}
use Rattle.ht_calc.specs.Names.{rows_by_name}
use Rattle.ht_calc.specs.States.{State}
use Rattle.ht_calc.specs.Steps.{AreAsked}
use Rattle.ht_calc.proofs.NameLaws.{rows_of, bound_rows, bound_of_shape, same_room}
use Rattle.ht_calc.proofs.ConjugatorSteps.{conj_no_room, conj_apart, asked_so, decided_so, told_asked}
use Rattle.ht_calc.proofs.TwoNames.{no_group, first_none, second_none, first_over, second_over}
use Rattle.ht_calc.proofs.session.Session.conjugate.Goals as goal

pub returns-in_default-clause-step : goal.returns-in_default-clause-step
returns-in_default-clause-step c =
    no_group (record { shape = c.self.inside.shape; budget = c.self.inside.budget; names = rows_by_name c.self.inside.names }) c.args.self.now (line.Conj c.args.name c.args.first c.args.second) c.args.first c.args.second refl c.self.view_is tt (search rules)

pub returns-in_default-get-clause-step : goal.returns-in_default-get-clause-step
returns-in_default-get-clause-step c =
    first_none (record { shape = c.self.inside.shape; budget = c.self.inside.budget; names = rows_by_name c.self.inside.names }) c.args.self.now (line.Conj c.args.name c.args.first c.args.second) c.args.first c.args.second refl c.self.view_is (search rules)
    (bound_rows c.self.inside.names c.args.first ∙ ap rows_of c.in_default-get.ensures)

pub returns-in_default-get-2-clause-step : goal.returns-in_default-get-2-clause-step
returns-in_default-get-2-clause-step c =
    second_none (record { shape = c.self.inside.shape; budget = c.self.inside.budget; names = rows_by_name c.self.inside.names }) c.args.self.now (line.Conj c.args.name c.args.first c.args.second) c.args.first c.args.second refl c.self.view_is c.in-Some-get.element.now.rows
    (bound_rows c.self.inside.names c.args.first ∙ ap rows_of c.in-Some-get.ensures) (search rules) (bound_rows c.self.inside.names c.args.second ∙ ap rows_of c.in_default-get-2.ensures)

pub returns-then-not-has_room-clause-step : goal.returns-then-not-has_room-clause-step
returns-then-not-has_room-clause-step c =
    conj_no_room (record { shape = c.self.inside.shape; budget = c.self.inside.budget; names = rows_by_name c.self.inside.names }) c.args.self.now c.args.name c.args.first c.args.second c.self.view_is c.in-Some-get.element.now.rows c.in-Some-get-2.other.now.rows
    (search rules) (bound_rows c.self.inside.names c.args.first ∙ ap rows_of c.in-Some-get.ensures) (bound_rows c.self.inside.names c.args.second ∙ ap rows_of c.in-Some-get-2.ensures)
    (λ room. true≢false (sym (c.if-not-has_room.ensures.1 ((same_room c.self.inside.names c.args.name).0 room))))

pub decide-requires : goal.decide-requires
decide-requires c =
    let first = (bound_of_shape c.self.inside.shape c.self.inside.names c.args.first c.in-Some-get.element.now c.self.invariant.of_shape c.in-Some-get.ensures).shape_is in
    let second = (bound_of_shape c.self.inside.shape c.self.inside.names c.args.second c.in-Some-get-2.other.now c.self.invariant.of_shape c.in-Some-get-2.ensures).shape_is in
    let same : c.in-Some-get-2.other.now.shape ≡ c.in-Some-get.element.now.shape = cc in
    record { shape = same }

pub keep-requires-clause-canonical : goal.keep-requires-clause-canonical
keep-requires-clause-canonical c =
    let element = c.in-Some-get.element.now in
    let is = (bound_of_shape c.self.inside.shape c.self.inside.names c.args.first element c.self.invariant.of_shape c.in-Some-get.ensures).shape_is in
    let some = c.in-Some.is in
    let shape_is : element.shape ≡ c.in-Some.shape = cc in
    let other = c.in-Some-get-2.other.now in
    let told = subst (IsVerdict element.shape element.rows other.rows) c.in-Ok-Conjugate.field-0-is c.in-Ok-Conjugate.ensures.decided.is_verdict in
    subst (λ (s : Shape). IsCanonical s c.in-Ok-Conjugate.rows) shape_is told.0

pub returns-in-Ok-Conjugate-clause-step : goal.returns-in-Ok-Conjugate-clause-step
returns-in-Ok-Conjugate-clause-step c =
    let told : State = record { shape = c.self.inside.shape; budget = c.self.inside.budget; names = rows_by_name c.self.inside.names } in
    let old = c.args.self.now in
    let element = c.in-Some-get.element.now in
    let other = c.in-Some-get-2.other.now in
    let is = (bound_of_shape c.self.inside.shape c.self.inside.names c.args.first element c.self.invariant.of_shape c.in-Some-get.ensures).shape_is in
    let some = c.in-Some.is in
    let shape_is : element.shape ≡ c.in-Some.shape = cc in
    let asked = told_asked c.self.inside.shape c.self.inside.budget c.self.inside.names c.args.name c.args.first c.args.second element other c.self.invariant.of_shape c.in-Some-get.ensures c.in-Some-get-2.ensures (c.if-not-has_room.ensures.0 refl) in
    c.keep.ensures.step c.args.first c.args.second element.rows other.rows
    (subst (λ (s : Shape). AreAsked old c.args.name c.args.first c.args.second s element.rows other.rows) shape_is (asked_so told old c.args.name c.args.first c.args.second c.self.view_is element.rows other.rows element.shape asked))
    (subst (λ (s : Shape). IsDecided s old.budget element.rows other.rows (verdict.Conjugate c.in-Ok-Conjugate.rows)) shape_is
    (decided_so told old c.args.name c.args.first c.args.second c.self.view_is element.rows other.rows element.shape asked (verdict.Conjugate c.in-Ok-Conjugate.rows)
    (subst (IsDecided element.shape c.self.inside.budget element.rows other.rows) c.in-Ok-Conjugate.field-0-is c.in-Ok-Conjugate.ensures.decided)))

pub returns-in-Ok-NotConjugate-clause-step : goal.returns-in-Ok-NotConjugate-clause-step
returns-in-Ok-NotConjugate-clause-step c =
    let element = c.in-Some-get.element.now in
    let other = c.in-Some-get-2.other.now in
    conj_apart (record { shape = c.self.inside.shape; budget = c.self.inside.budget; names = rows_by_name c.self.inside.names }) c.args.self.now c.args.name c.args.first c.args.second c.self.view_is element.rows other.rows element.shape
    (told_asked c.self.inside.shape c.self.inside.budget c.self.inside.names c.args.name c.args.first c.args.second element other c.self.invariant.of_shape c.in-Some-get.ensures c.in-Some-get-2.ensures (c.if-not-has_room.ensures.0 refl))
    (subst (IsDecided element.shape c.self.inside.budget element.rows other.rows) c.in-Ok-NotConjugate.field-0-is c.in-Ok-NotConjugate.ensures.decided)

pub returns-in-Err-Budget-First-clause-step : goal.returns-in-Err-Budget-First-clause-step
returns-in-Err-Budget-First-clause-step c =
    let element = c.in-Some-get.element.now in
    let other = c.in-Some-get-2.other.now in
    let asked = told_asked c.self.inside.shape c.self.inside.budget c.self.inside.names c.args.name c.args.first c.args.second element other c.self.invariant.of_shape c.in-Some-get.ensures c.in-Some-get-2.ensures (c.if-not-has_room.ensures.0 refl) in
    first_over (record { shape = c.self.inside.shape; budget = c.self.inside.budget; names = rows_by_name c.self.inside.names }) c.args.self.now (line.Conj c.args.name c.args.first c.args.second) c.args.first c.args.second refl c.self.view_is
    element.rows asked.first_is other.rows asked.second_is element.shape asked.shape_is tt (asked.room, tt) (c.in-Err-Budget-First.ensures.first (search rules))

pub returns-in-Err-Budget-Second-clause-step : goal.returns-in-Err-Budget-Second-clause-step
returns-in-Err-Budget-Second-clause-step c =
    let element = c.in-Some-get.element.now in
    let other = c.in-Some-get-2.other.now in
    let over = c.in-Err-Budget-Second.ensures.second (search rules) in
    let asked = told_asked c.self.inside.shape c.self.inside.budget c.self.inside.names c.args.name c.args.first c.args.second element other c.self.invariant.of_shape c.in-Some-get.ensures c.in-Some-get-2.ensures (c.if-not-has_room.ensures.0 refl) in
    second_over (record { shape = c.self.inside.shape; budget = c.self.inside.budget; names = rows_by_name c.self.inside.names }) c.args.self.now (line.Conj c.args.name c.args.first c.args.second) c.args.first c.args.second refl c.self.view_is
    element.rows asked.first_is other.rows asked.second_is element.shape asked.shape_is tt (asked.room, tt) over.0 over.1
