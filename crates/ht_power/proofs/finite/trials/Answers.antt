use Rattle.std.proofs.Common.{ℕ, ◌≤◌, ◌/◌, ◌∙◌, List, Option, Err, get_or, ap, refl, sym, subst, subst₂, take, pos}
use Rattle.std.specs.Int.{w128}
use Rattle.std.proofs.lemmas.Int.{to_z_pos}
use Rattle.std.proofs.lemmas.List.{drop_all}
use Rattle.std.proofs.lemmas.List.Elements.{All-contains}
use Rattle.std.proofs.lemmas.Result.{err_from_is_err_and}
use Rattle.ht_word.specs.declared.shape.Shape.{Shape}
use Rattle.ht_pair.specs.declared.row.Row.{Row}
use Rattle.ht_pair.specs.FiniteTrials.{FiniteTrials}
use Rattle.ht_pair.specs.Pairs.{IsPair}
use Rattle.ht_pair.specs.PowerSizes.{Plus}
use Rattle.ht_power.specs.Told.{Tells, TellsConjugator}
use Rattle.ht_power.proofs.DivisorTrials.{apart_over, compared_apart, divisor_at, positive_before, quotient_within, tried_all, tried_found, tried_large, tried_more, tried_none}
use Rattle.ht_power.proofs.TrialLaws.{answer_not_made, power_fits}
use Rattle.ht_power.proofs.finite.trials.Goals as goal

pub loop-index-init : goal.loop-index-init
loop-index-init g c = tried_none c.args.f.now.element.shape c.args.f.now.element.rows c.args.g.now.element.rows c.args.first c.args.second c.args.tried.now

pub cycle_powers-requires-clause-first : goal.cycle_powers-requires-clause-first
cycle_powers-requires-clause-first g c =
    quotient_within c.args.first _ c.requires.orders.0 c.requires.orders.1 (divisor_at c.args.first c.args.second c.args.tried.now c.loop-index.index c.requires.divide c.loop-index-test.true).1

pub cycle_powers-requires-clause-second : goal.cycle_powers-requires-clause-second
cycle_powers-requires-clause-second g c =
    quotient_within c.args.second _ c.requires.orders.2 c.requires.orders.3 (divisor_at c.args.first c.args.second c.args.tried.now c.loop-index.index c.requires.divide c.loop-index-test.true).2

pub returns-in_err-a : goal.returns-in_err-a
returns-in_err-a g c =
    let a = c.args.f.now.element in
    let b = c.args.g.now.element in
    let m = c.args.first in
    let n = c.args.second in
    let ds = c.args.tried.now in
    let i = c.loop-index.index in
    let d = get_or ds i 0 in
    let told = FiniteTrials a.shape a.rows b.rows m n ds in
    let p = err_from_is_err_and c.from_residual.result c.from_residual.ensures.1 in
    subst (Tells told) (sym (p.1 ∙ ap Err p.2)) (answer_not_made told a b Plus (m / d) (n / d) c.in_err-a.field-0.0 c.in_err-a.was c.cycle_powers.ensures.powers (λ rows letters large.
    tried_large a.shape a.rows b.rows m n ds i rows letters c.loop-index-test.true large c.loop-index.invariant))

pub some_divides-requires : goal.some_divides-requires
some_divides-requires g c = positive_before c.args.first c.args.second c.args.tried.now c.loop-index.index c.requires.divide

pub loop-index-preserved-then-some_divides : goal.loop-index-preserved-then-some_divides
loop-index-preserved-then-some_divides g c =
    let a = c.args.f.now.element in
    let b = c.args.g.now.element in
    let m = c.args.first in
    let n = c.args.second in
    let ds = c.args.tried.now in
    let i = c.loop-index.index in
    let d = get_or ds i 0 in
    let by = divisor_at m n ds i c.requires.divide c.loop-index-test.true in
    let other = c.some_divides.ensures c.if-some_divides.true in
    let low = All-contains (λ (e : ℕ). 1 ≤ e) (take i ds) other.0 (positive_before m n ds i c.requires.divide) other.1 in
    let pair = subst (λ (s : Shape). IsPair s b.rows) c.requires.shape c.keeps_kinds-2.ensures.canonical.pair in
    let apart = apart_over a.shape a.rows b.rows m n d other.0 c.keeps_kinds.ensures.canonical.pair pair low other.2 by.1 by.2 (c.loop-index.invariant.apart other.0 other.1) in
    tried_more a.shape a.rows b.rows m n ds i c.in_ok-a.a.rows c.in_ok-a.b.rows c.loop-index-test.true c.in_ok-a.ensures.powers apart c.loop-index.invariant

pub conjugator-requires-clause-first : goal.conjugator-requires-clause-first
conjugator-requires-clause-first g c =
    let made = c.in_ok-a.ensures in
    power_fits _ c.args.f.now.element.rows c.in_ok-a.a.rows (pos (c.args.first / get_or c.args.tried.now c.loop-index.index 0)) made.shapes.0 refl c.requires.first_fits made.powers.first_power

pub conjugator-requires-clause-second : goal.conjugator-requires-clause-second
conjugator-requires-clause-second g c =
    let made = c.in_ok-a.ensures in
    power_fits _ c.args.g.now.element.rows c.in_ok-a.b.rows (pos (c.args.second / get_or c.args.tried.now c.loop-index.index 0)) made.shapes.1 c.requires.shape c.requires.second_fits made.powers.second_power

pub returns-in-Some : goal.returns-in-Some
returns-in-Some g c =
    let a = c.args.f.now.element in
    let b = c.args.g.now.element in
    let m = c.args.first in
    let n = c.args.second in
    let ds = c.args.tried.now in
    let i = c.loop-index.index in
    let d = get_or ds i 0 in
    let by = divisor_at m n ds i c.requires.divide c.loop-index-test.true in
    let made = c.in_ok-a.ensures in
    let f = c.in_ok-a.a in
    let h = c.in_ok-a.b in
    let first = quotient_within m d c.requires.orders.0 c.requires.orders.1 by.1 in
    let second = quotient_within n d c.requires.orders.2 c.requires.orders.3 by.2 in
    let printed = subst₂ (λ (s : Shape) (told : Option (List Row)). TellsConjugator s f.rows h.rows told) made.shapes.0 c.in-Some.is c.in_ok-by.ensures in
    tried_found a.shape a.rows b.rows m n ds i f.rows h.rows c.in-Some.by _ _ c.loop-index-test.true (to_z_pos w128 (m / d) first.1) (to_z_pos w128 (n / d) second.1) made.powers printed c.loop-index.invariant

pub loop-index-preserved : goal.loop-index-preserved
loop-index-preserved g c =
    let a = c.args.f.now.element in
    let b = c.args.g.now.element in
    let m = c.args.first in
    let n = c.args.second in
    let ds = c.args.tried.now in
    let i = c.loop-index.index in
    let d = get_or ds i 0 in
    let made = c.in_ok-a.ensures in
    let f = c.in_ok-a.a in
    let h = c.in_ok-a.b in
    let pair = subst (λ (s : Shape). IsPair s b.rows) c.requires.shape c.keeps_kinds-2.ensures.canonical.pair in
    let other = subst₂ (λ (s : Shape) (told : Option (List Row)). TellsConjugator s f.rows h.rows told) made.shapes.0 c.in_default.is c.in_ok-by.ensures in
    let apart = compared_apart a.shape a.rows b.rows (m / d) (n / d) f.rows h.rows c.keeps_kinds.ensures.canonical.pair pair made.powers other in
    tried_more a.shape a.rows b.rows m n ds i f.rows h.rows c.loop-index-test.true made.powers apart c.loop-index.invariant

pub returns : goal.returns
returns g c =
    tried_all c.args.f.now.element.shape c.args.f.now.element.rows c.args.g.now.element.rows c.args.first c.args.second c.args.tried.now c.loop-index.index (drop_all c.loop-index.index c.args.tried.now c.loop-index-test.false) c.loop-index.invariant
