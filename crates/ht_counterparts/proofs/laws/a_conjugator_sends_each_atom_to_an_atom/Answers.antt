use Rattle.ht_counterparts.proofs.AtomCounterparts.{came_atom, counterpart_one, counterpart_one_back, sent_atom}
use Rattle.ht_counterparts.proofs.laws.a_conjugator_sends_each_atom_to_an_atom.Goals as goal

pub returns-clause-sent : goal.returns-clause-sent
returns-clause-sent c = λ shape f g h X Y pair_f pair_g semi_X semi_Y conjugates k.
    sent_atom (record { pair = pair_f; semi = semi_X }) (record { pair = pair_g; semi = semi_Y }) conjugates

pub returns-clause-came : goal.returns-clause-came
returns-clause-came c = λ shape f g h X Y pair_f pair_g semi_X semi_Y conjugates l.
    came_atom (record { pair = pair_f; semi = semi_X }) (record { pair = pair_g; semi = semi_Y }) conjugates

pub returns-clause-one : goal.returns-clause-one
returns-clause-one c = λ shape f g h X Y pair_f pair_g semi_X semi_Y conjugates k l m.
    counterpart_one (record { pair = pair_f; semi = semi_X }) (record { pair = pair_g; semi = semi_Y }) conjugates

pub returns-clause-one_back : goal.returns-clause-one_back
returns-clause-one_back c = λ shape f g h X Y pair_f pair_g semi_X semi_Y conjugates k m l.
    counterpart_one_back (record { pair = pair_f; semi = semi_X }) (record { pair = pair_g; semi = semi_Y }) conjugates
