use Rattle.ht_pair.proofs.RowSearch.{row_found}
use Rattle.ht_pair.proofs.moves.place_of.Goals as goal

pub returns : goal.returns
returns c = row_found c.args.rows.now c.args.word.now c.place_above.result c.place_above.ensures
