use Rattle.std.proofs.Common.{◌≢◌, rules, None, Some, subst, refl, true≢false, sym}
use Rattle.std.proofs.lemmas.List.Elements.{All-nil}
use Rattle.ht_script.specs.declared.line.Line.TheVariants as line
use Rattle.ht_answer.specs.declared.answer.Answer.TheVariants.{Refused}
use Rattle.ht_answer.specs.declared.answer.Refusal.TheVariants as refusal
use Rattle.ht_calc.specs.Loads.{Loads, no_file}
use Rattle.ht_calc.specs.Names.{rows_by_name, bound, HasRoom}
use Rattle.ht_calc.specs.States.{State}
use Rattle.ht_calc.specs.Steps.{Does, before_group, no_room}
use Rattle.ht_calc.proofs.NameLaws.{same_room, no_room_for}
use Rattle.ht_calc.proofs.StepLaws.{alone, fetched, fetched_or_err}
use Rattle.ht_calc.proofs.session.Session.load.Goals as goal

pub returns-in_default-clause-step : goal.returns-in_default-clause-step
returns-in_default-clause-step g c = λ bytes is.
    let asks = line.Load c.args.name c.args.file.now in
    alone c.args.self.now c.args.self.now asks asks (Refused refusal.Group) (g.L.Library.files c.args.files.now) (g.L.Library.faults c.args.files.now) (g.L.Library.asked c.args.files.now) bytes refl
    (subst (λ (s : State). Does s asks (Refused refusal.Group) s) c.self.view_is (before_group asks tt (search rules))) is

pub returns-then-not-has_room-clause-step : goal.returns-then-not-has_room-clause-step
returns-then-not-has_room-clause-step g c = λ bytes is.
    let asks = line.Load c.args.name c.args.file.now in
    alone c.args.self.now c.args.self.now asks asks (Refused refusal.Names) (g.L.Library.files c.args.files.now) (g.L.Library.faults c.args.files.now) (g.L.Library.asked c.args.files.now) bytes refl
    (subst (λ (s : State). Does s asks (Refused refusal.Names) s) c.self.view_is
    (no_room asks (search rules) (All-nil (λ other. bound (rows_by_name c.self.inside.names) other ≢ None))
    (no_room_for (rows_by_name c.self.inside.names) c.args.name (λ room. true≢false (sym (c.if-not-has_room.ensures.1 ((same_room c.self.inside.names c.args.name).0 room))))))) is

pub returns-in_default-2-clause-step : goal.returns-in_default-2-clause-step
returns-in_default-2-clause-step g c = λ bytes is.
    fetched c.args.self.now c.args.self.now c.args.name c.args.file.now bytes _ None (Refused refusal.File) (g.L.Library.files c.args.files.now) (g.L.Library.faults c.args.files.now) (g.L.Library.faults c.fetch_file.new.files) (g.L.Library.asked c.args.files.now) (g.L.Library.asked c.fetch_file.new.files)
    (rw c.in_default-2.is refl)
    (subst (λ (s : State). Loads s c.args.name None (Refused refusal.File) s) c.self.view_is (no_file (search rules) ((same_room c.self.inside.names c.args.name).1 (c.if-not-has_room.ensures.0 refl)))) is c.in_ok-bytes.ensures.fetched c.in_ok-bytes.ensures.asked

pub bind_file-requires-clause-room : goal.bind_file-requires-clause-room
bind_file-requires-clause-room g c =
    subst (λ (s : State). HasRoom s.names c.args.name) c.self.view_is ((same_room c.self.inside.names c.args.name).1 (c.if-not-has_room.ensures.0 refl))

pub returns-clause-step : goal.returns-clause-step
returns-clause-step g c = λ bytes is.
    fetched_or_err c.args.self.now c.bind_file.new.self c.args.name c.args.file.now bytes _ (Some c.deref.result.now) c.bind_file.result (g.L.Library.files c.args.files.now) (g.L.Library.faults c.args.files.now) (g.L.Library.faults c.fetch_file.new.files) (g.L.Library.asked c.args.files.now) (g.L.Library.asked c.fetch_file.new.files)
    (rw (c.in-Some-2.is, c.deref.ensures.value) refl) c.bind_file.ensures.loads is c.in_ok-bytes.ensures.fetched c.in_ok-bytes.ensures.asked
