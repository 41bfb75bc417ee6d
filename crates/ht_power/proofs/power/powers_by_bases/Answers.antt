use Rattle.std.proofs.Common.{refl}
use Rattle.ht_power.proofs.RuleTold.{only_first, only_second, both_infinite}
use Rattle.ht_power.proofs.power.powers_by_bases.Goals as goal

pub finite_powers-requires-clause-first : goal.finite_powers-requires-clause-first
finite_powers-requires-clause-first g c = c.if-is_periodic.ensures.empty.0 refl

pub finite_powers-requires-clause-second : goal.finite_powers-requires-clause-second
finite_powers-requires-clause-second g c = c.if-is_periodic-2.ensures.empty.0 refl

pub returns-else-is_periodic-2 : goal.returns-else-is_periodic-2
returns-else-is_periodic-2 g c =
    let other = c.if-is_periodic-2.ensures.some refl in
    only_second c.args.f.now c.args.g.now c.requires.shape other.0 (c.if-is_periodic.ensures.empty.0 refl) other.1 other.2

pub returns-then-is_periodic-3 : goal.returns-then-is_periodic-3
returns-then-is_periodic-3 g c =
    let some = c.if-is_periodic.ensures.some refl in
    only_first c.args.f.now c.args.g.now c.requires.shape some.0 some.1 some.2 (c.if-is_periodic-3.ensures.empty.0 refl)

pub infinite_powers-requires-clause-infinite : goal.infinite_powers-requires-clause-infinite
infinite_powers-requires-clause-infinite g c =
    let some = c.if-is_periodic.ensures.some refl in
    let other = c.if-is_periodic-3.ensures.some refl in
    both_infinite c.args.f.now c.args.g.now c.requires.shape some.0 other.0 some.1 other.1 some.2 other.2
