use Rattle.ht_counterparts.proofs.EndCounterparts.{conjugate_ends_of}
use Rattle.ht_counterparts.proofs.laws.conjugate_atoms_have_equal_ends.Goals as goal

pub returns : goal.returns
returns c = λ shape f g X Y kinds others pair_f pair_g semi_X semi_Y are_f are_g k l first second h conjugates.
    conjugate_ends_of (record { base = record { pair = pair_f; semi = semi_X }; are = are_f; atom = first }) (record { base = record { pair = pair_g; semi = semi_Y }; are = are_g; atom = second }) h conjugates
