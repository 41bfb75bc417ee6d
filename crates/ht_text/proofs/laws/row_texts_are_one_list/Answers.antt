use Rattle.ht_text.proofs.RowTexts.{same_rows, same_by_text}
use Rattle.ht_text.proofs.laws.row_texts_are_one_list.Goals as goal

pub returns-clause-read : goal.returns-clause-read
returns-clause-read c = same_rows

pub returns-clause-written : goal.returns-clause-written
returns-clause-written c = same_by_text
