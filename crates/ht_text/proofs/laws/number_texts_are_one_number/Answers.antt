use Rattle.ht_text.proofs.Numbers.{same_num}
use Rattle.ht_text.proofs.laws.number_texts_are_one_number.Goals as goal

pub returns : goal.returns
returns c = same_num
