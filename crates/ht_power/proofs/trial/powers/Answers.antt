use Rattle.std.proofs.Common.{ap, refl, subst, subst₂, ℤ, Err}
use Rattle.std.specs.Int.{w128}
use Rattle.std.proofs.lemmas.Int.{to_z_pos}
use Rattle.std.proofs.lemmas.Result.{err_from_is_err_and}
use Rattle.ht_word.specs.declared.shape.Shape.{Shape}
use Rattle.ht_pair.specs.PowerSizes.{Plus}
use Rattle.ht_pair.specs.PowerTrials.{TrialIsLarge}
use Rattle.ht_pair.specs.Products.{IsPower}
use Rattle.ht_power.specs.Told.{sign_of}
use Rattle.ht_power.proofs.TrialLaws.{first_is_large, none_is_large, sign_read, powers_not_made}
use Rattle.ht_power.proofs.trial.powers.Goals as goal

pub returns-in_err-first-clause-powers : goal.returns-in_err-first-clause-powers
returns-in_err-first-clause-powers c =
    let a = c.args.a.now in
    let p = err_from_is_err_and c.from_residual.result c.from_residual.ensures.1 in
    powers_not_made a c.args.b.now (sign_of c.args.sign) c.args.i c.args.j c.in_err-first.field-0.0 p.1 p.2 (λ rows letters large.
    TrialIsLarge.first_large (first_is_large a.rows Plus c.args.i rows letters refl c.requires.first.0 (to_z_pos w128 c.args.i c.requires.first.1) (c.in_err-first.ensures.large rows letters (ap Err large))))

pub returns-in_err-second-clause-powers : goal.returns-in_err-second-clause-powers
returns-in_err-second-clause-powers c =
    let a = c.args.a.now in
    let b = c.args.b.now in
    let sign = sign_of c.args.sign in
    let second = sign_read sign c.args.j c.of.result c.requires.second.1 c.of.ensures in
    let p = err_from_is_err_and c.from_residual-in_err-second.result c.from_residual-in_err-second.ensures.1 in
    powers_not_made a b sign c.args.i c.args.j c.in_err-second.field-0.0 p.1 p.2 (λ rows letters large.
    TrialIsLarge.second_large (none_is_large a.rows Plus c.args.i refl c.requires.first.0 (to_z_pos w128 c.args.i c.requires.first.1) c.in_ok-first.ensures.kept)
    (first_is_large b.rows sign c.args.j rows letters c.requires.shape c.requires.second.0 second (c.in_err-second.ensures.large rows letters (ap Err large))))

pub returns-clause-powers : goal.returns-clause-powers
returns-clause-powers c =
    let a = c.args.a.now in
    let b = c.args.b.now in
    let sign = sign_of c.args.sign in
    let first = to_z_pos w128 c.args.i c.requires.first.1 in
    let second = sign_read sign c.args.j c.of.result c.requires.second.1 c.of.ensures in
    record {
      first_small = none_is_large a.rows Plus c.args.i refl c.requires.first.0 first c.in_ok-first.ensures.kept;
      second_small = none_is_large b.rows sign c.args.j c.requires.shape c.requires.second.0 second c.in_ok-second.ensures.kept;
      first_power = subst (λ (k : ℤ). IsPower a.shape a.rows k c.in_ok-first.first.rows) first c.in_ok-first.ensures.power.1;
      second_power = subst₂ (λ (s : Shape) (k : ℤ). IsPower s b.rows k c.in_ok-second.second.rows) c.requires.shape second c.in_ok-second.ensures.power.1;
    }
