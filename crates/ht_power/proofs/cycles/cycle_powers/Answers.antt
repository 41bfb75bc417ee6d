use Rattle.std.proofs.Common.{ap, subst, pos, Err}
use Rattle.std.proofs.lemmas.Result.{err_from_is_err_and}
use Rattle.ht_num.specs.Chains.{chain}
use Rattle.ht_word.specs.declared.shape.Shape.{Shape}
use Rattle.ht_pair.specs.PowerSizes.{Plus, IsFirstLarge, NoneLarge}
use Rattle.ht_pair.specs.PowerTrials.{TrialIsLarge}
use Rattle.ht_pair.specs.Products.{IsPower}
use Rattle.ht_power.proofs.TrialLaws.{powers_not_made}
use Rattle.ht_power.proofs.cycles.cycle_powers.Goals as goal

pub returns-in_err-first-clause-powers : goal.returns-in_err-first-clause-powers
returns-in_err-first-clause-powers c =
    let p = err_from_is_err_and c.from_residual.result c.from_residual.ensures.1 in
    powers_not_made c.args.f.now.element c.args.g.now.element Plus c.args.i c.args.j c.in_err-first.field-0.0 p.1 p.2 (λ rows letters large. TrialIsLarge.first_large (c.in_err-first.ensures.large rows letters (ap Err large)))

pub returns-in_err-second-clause-powers : goal.returns-in_err-second-clause-powers
returns-in_err-second-clause-powers c =
    let f = c.args.f.now.element in
    let g = c.args.g.now.element in
    let p = err_from_is_err_and c.from_residual-in_err-second.result c.from_residual-in_err-second.ensures.1 in
    powers_not_made f g Plus c.args.i c.args.j c.in_err-second.field-0.0 p.1 p.2 (λ rows letters large.
    TrialIsLarge.second_large c.in_ok-first.ensures.kept (subst (λ (s : Shape). IsFirstLarge s g.rows Plus (chain c.args.j) rows letters) c.requires.shape (c.in_err-second.ensures.large rows letters (ap Err large))))

pub returns-clause-powers : goal.returns-clause-powers
returns-clause-powers c =
    let f = c.args.f.now.element in
    let g = c.args.g.now.element in
    record {
      first_small = c.in_ok-first.ensures.kept;
      second_small = subst (λ (s : Shape). NoneLarge s g.rows Plus c.args.j) c.requires.shape c.in_ok-second.ensures.kept;
      first_power = c.in_ok-first.ensures.power.1;
      second_power = subst (λ (s : Shape). IsPower s g.rows (pos c.args.j) c.in_ok-second.second.rows) c.requires.shape c.in_ok-second.ensures.power.1;
    }
