use Rattle.ht_counterparts.proofs.PieceRelations.{conjugates_back, conjugates_then}
use Rattle.ht_counterparts.proofs.laws.conjugators_on_parts_turn_and_compose.Goals as goal

pub returns-clause-turned : goal.returns-clause-turned
returns-clause-turned c = λ shape f g V W pair_f pair_g kept_V kept_W h.
    conjugates_back (record { pair = pair_f; kept = kept_V }) (record { pair = pair_g; kept = kept_W })

pub returns-clause-composed : goal.returns-clause-composed
returns-clause-composed c = λ shape f g e V W U pair_f pair_g pair_e kept_V kept_W kept_U h q.
    conjugates_then (record { pair = pair_f; kept = kept_V }) (record { pair = pair_g; kept = kept_W }) (record { pair = pair_e; kept = kept_U })
