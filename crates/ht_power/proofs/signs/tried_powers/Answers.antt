use Rattle.std.proofs.Common.{ap, ◌∙◌, subst, subst₂, sym, Err, ℤ}
use Rattle.std.specs.Int.{w128}
use Rattle.std.proofs.lemmas.Int.{to_z_pos}
use Rattle.std.proofs.lemmas.Result.{err_from_is_err_and}
use Rattle.ht_word.specs.declared.shape.Shape.{Shape}
use Rattle.ht_pair.specs.PowerTrials.{Powers}
use Rattle.ht_power.specs.SignsTold.{Never, Tried}
use Rattle.ht_power.specs.Told.{sign_of, AreCompared, HasFitPowers, TellsTrial}
use Rattle.ht_power.proofs.CommonOrders.{whole_narrow}
use Rattle.ht_power.proofs.TrialLaws.{sign_read}
use Rattle.ht_power.proofs.PartTrials.{first_failed, second_failed, powers_failed, passed, found, found_wide}
use Rattle.ht_power.proofs.signs.tried_powers.Goals as goal

pub returns-in_err-a : goal.returns-in_err-a
returns-in_err-a g c =
    let p = err_from_is_err_and c.from_residual.result c.from_residual.ensures.1 in
    first_failed c.args.f.now c.args.g.now c.requires.shape (sign_of c.args.sign) c.args.i c.args.j c.requires.first.1 c.requires.second.1 c.keeps_kinds-2.ensures
    c.in_err-a.field-0.0 (λ rows letters large. c.in_err-a.ensures.large rows letters (ap Err large)) p.1 p.2

pub returns-in_err-b : goal.returns-in_err-b
returns-in_err-b g c =
    let a = c.in_ok-a.ensures in
    let p = err_from_is_err_and c.from_residual-in_err-b.result c.from_residual-in_err-b.ensures.1 in
    second_failed c.args.f.now c.args.g.now c.requires.shape (sign_of c.args.sign) c.args.i c.args.j c.requires.first.1 c.requires.second.1 a.parts a.kept
    c.in_err-b.field-0.0 (λ rows letters large. c.in_err-b.ensures.large rows letters (ap Err large)) p.1 p.2

pub trial-requires-clause-first_fits : goal.trial-requires-clause-first_fits
trial-requires-clause-first_fits g c =
    let a = c.in_ok-a.ensures in
    subst (λ (s : Shape). HasFitPowers s (g.D.Decider.expansions c.args.decider.now) c.in_ok-a.a.rows) (sym a.shapes.1) (c.requires.first_fits _ _ a.parts)

pub trial-requires-clause-second_fits : goal.trial-requires-clause-second_fits
trial-requires-clause-second_fits g c =
    let b = c.in_ok-b.ensures in
    subst (λ (s : Shape). HasFitPowers s (g.D.Decider.expansions c.args.decider.now) c.in_ok-b.b.rows) (sym b.shapes.1) (c.requires.second_fits _ _ b.parts)

pub returns-in_err-by : goal.returns-in_err-by
returns-in_err-by g c =
    let a = c.in_ok-a.ensures in
    let b = c.in_ok-b.ensures in
    let p = err_from_is_err_and c.from_residual-in_err-by.result c.from_residual-in_err-by.ensures.1 in
    let told = subst₂ (λ (s : Shape) made. TellsTrial s c.in_ok-a.a.rows c.in_ok-b.b.rows (sign_of c.args.sign) c.args.i c.args.j made) a.shapes.1 c.in_err-by.was c.trial.ensures in
    powers_failed c.args.f.now c.args.g.now c.requires.shape (sign_of c.args.sign) c.args.i c.args.j c.requires.first.1 c.requires.second.1 a.parts a.kept b.parts b.kept
    c.in_err-by.field-0.0 told (p.1 ∙ ap Err p.2)

pub returns-in_default : goal.returns-in_default
returns-in_default g c =
    let a = c.in_ok-a.ensures in
    let b = c.in_ok-b.ensures in
    let compared = subst (λ (s : Shape). AreCompared s c.in_ok-a.a.rows c.in_ok-b.b.rows (sign_of c.args.sign) c.args.i c.args.j c.in_ok-by.field-0) a.shapes.1 c.in_ok-by.ensures in
    passed c.args.f.now c.args.g.now c.requires.shape (sign_of c.args.sign) c.args.i c.args.j c.requires.first.1 c.requires.second.1 a.parts a.kept b.parts b.kept
    _ compared c.in_default.is

pub returns-in_default-whole : goal.returns-in_default-whole
returns-in_default-whole g c =
    let a = c.in_ok-a.ensures in
    let b = c.in_ok-b.ensures in
    let compared = subst (λ (s : Shape). AreCompared s c.in_ok-a.a.rows c.in_ok-b.b.rows (sign_of c.args.sign) c.args.i c.args.j c.in_ok-by.field-0) a.shapes.1 c.in_ok-by.ensures in
    found_wide c.args.f.now c.args.g.now c.requires.shape (sign_of c.args.sign) c.args.i c.args.j c.requires.first.1 c.requires.second.1 a.parts a.kept b.parts b.kept
    _ compared c.in-Some.by c.in-Some.is c.in_default-whole.ensures

pub overflow_cast-i : goal.overflow_cast-i
overflow_cast-i g c = record { sfits = (whole_narrow c.args.f.now c.args.g.now c.requires.shape c.args.i c.args.j c.in-Some-whole.ensures).0 }

pub of-j-requires : goal.of-j-requires
of-j-requires g c = (whole_narrow c.args.f.now c.args.g.now c.requires.shape c.args.i c.args.j c.in-Some-whole.ensures).1

pub returns : goal.returns
returns g c =
    let f = c.args.f.now in
    let h = c.args.g.now in
    let sign = sign_of c.args.sign in
    let a = c.in_ok-a.ensures in
    let b = c.in_ok-b.ensures in
    let narrow = whole_narrow f h c.requires.shape c.args.i c.args.j c.in-Some-whole.ensures in
    let first = to_z_pos w128 c.in-Some-whole.i narrow.0 in
    let second = sign_read sign c.in-Some-whole.j c.of-j.result narrow.1 c.of-j.ensures in
    let compared = subst (λ (s : Shape). AreCompared s c.in_ok-a.a.rows c.in_ok-b.b.rows sign c.args.i c.args.j c.in_ok-by.field-0) a.shapes.1 c.in_ok-by.ensures in
    subst₂ (λ (x y : ℤ). Tried f h sign c.args.i c.args.j Never (Powers x y c.in-Some.by)) (sym first) (sym second)
    (found f h c.requires.shape sign c.args.i c.args.j c.requires.first.1 c.requires.second.1 a.parts a.kept b.parts b.kept _ compared c.in-Some.by c.in-Some.is _ _ c.in-Some-whole.ensures)
