use Rattle.std.proofs.Common.{◌≢◌, None, length, rules, subst, refl, true≢false, sym}
use Rattle.std.proofs.lemmas.List.Elements.{All-nil}
use Rattle.ht_script.specs.declared.line.Line.TheVariants as line
use Rattle.ht_answer.specs.declared.answer.Answer.TheVariants.{Let, Refused}
use Rattle.ht_answer.specs.declared.answer.Refusal.TheVariants as refusal
use Rattle.ht_calc.specs.Names.{rows_by_name, bound, bind}
use Rattle.ht_calc.specs.States.{State}
use Rattle.ht_calc.specs.Steps.{Does, before_group, no_room, let_bound, let_refused}
use Rattle.ht_calc.proofs.NameLaws.{same_room, no_room_for}
use Rattle.ht_calc.proofs.StepLaws.{element_bound}
use Rattle.ht_calc.proofs.LineSizes.{never_large}
use Rattle.ht_calc.proofs.session.Session.bind_rows.Goals as goal

pub returns-in_default-clause-step : goal.returns-in_default-clause-step
returns-in_default-clause-step c =
    subst (λ (s : State). Does s (line.LetRows c.args.name c.args.rows) (Refused refusal.Group) s) c.self.view_is (before_group (line.LetRows c.args.name c.args.rows) tt (search rules))

pub returns-then-not-has_room-clause-step : goal.returns-then-not-has_room-clause-step
returns-then-not-has_room-clause-step c =
    subst (λ (s : State). Does s (line.LetRows c.args.name c.args.rows) (Refused refusal.Names) s) c.self.view_is
    (no_room (line.LetRows c.args.name c.args.rows) (search rules) (All-nil (λ other. bound (rows_by_name c.self.inside.names) other ≢ None))
    (no_room_for (rows_by_name c.self.inside.names) c.args.name (λ room. true≢false (sym (c.if-not-has_room.ensures.1 ((same_room c.self.inside.names c.args.name).0 room))))))

pub returns-in-Ok-clause-step : goal.returns-in-Ok-clause-step
returns-in-Ok-clause-step c =
    element_bound c.args.self.now c.bind_element.new.self (line.LetRows c.args.name c.args.rows) c.args.name c.in-Ok.element.rows c.bind_element.result
    (subst (λ (s : State). Does s (line.LetRows c.args.name c.args.rows) (Let c.args.name (length c.in-Ok.element.rows)) (record s { names = bind s.names c.args.name c.in-Ok.element.rows })) c.self.view_is
    (let_bound c.args.name c.args.rows c.in-Ok.element.rows c.in-Some.shape (search rules) ((same_room c.self.inside.names c.args.name).1 (c.if-not-has_room.ensures.0 refl)) c.in-Ok.ensures.pair c.in-Ok.ensures.canonical.1))
    c.bind_element.ensures.answer c.bind_element.ensures.bound

pub returns-in_ok-refusal_of-in-Err-clause-step : goal.returns-in_ok-refusal_of-in-Err-clause-step
returns-in_ok-refusal_of-in-Err-clause-step c =
    subst (λ (s : State). Does s (line.LetRows c.args.name c.args.rows) (Refused c.in_ok-refusal_of-in-Err.field-0) s) c.self.view_is
    (let_refused c.args.name c.args.rows c.in-Some.shape c.in_ok-refusal_of-in-Err.field-0 (search rules) ((same_room c.self.inside.names c.args.name).1 (c.if-not-has_room.ensures.0 refl))
    (c.in_ok-refusal_of-in-Err.ensures c.in-Some.shape c.args.rows c.in-Err.ensures.fault))

pub refusal_of-requires : goal.refusal_of-requires
refusal_of-requires c = record { not_large = never_large c.in-Some.shape c.args.rows c.in-Err.fault c.requires.short c.in-Err.ensures.fault }
