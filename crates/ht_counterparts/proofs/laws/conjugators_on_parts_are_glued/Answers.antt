use Rattle.ht_counterparts.proofs.GluedRows.{glued}
use Rattle.ht_counterparts.proofs.laws.conjugators_on_parts_are_glued.Goals as goal

pub returns : goal.returns
returns c = λ shape f g V V' W W' pair kept_V kept_V' free free_to h q. glued (record { pair = pair; kept = kept_V }) (record { pair = pair; kept = kept_V' }) free free_to
