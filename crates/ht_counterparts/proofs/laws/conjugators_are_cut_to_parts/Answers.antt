use Rattle.ht_counterparts.proofs.AtomCounterparts.{restricted}
use Rattle.ht_counterparts.proofs.PeriodicCounterparts.{periodic_restricted}
use Rattle.ht_counterparts.proofs.laws.conjugators_are_cut_to_parts.Goals as goal

pub returns-clause-atoms : goal.returns-clause-atoms
returns-clause-atoms c = λ shape f g h X Y pair_f pair_g semi_X semi_Y conjugates k l.
    restricted (record { pair = pair_f; semi = semi_X }) (record { pair = pair_g; semi = semi_Y }) conjugates

pub returns-clause-periodic : goal.returns-clause-periodic
returns-clause-periodic c = λ shape f g h X Y P Q pair_f pair_g semi_X semi_Y conjugates.
    periodic_restricted (record { pair = pair_f; semi = semi_X }) (record { pair = pair_g; semi = semi_Y }) conjugates
