use Rattle.ht_text.proofs.FileTexts.{same_file}
use Rattle.ht_text.proofs.laws.files_are_one_value.Goals as goal

pub returns : goal.returns
returns c = same_file
