use Rattle.ht_quasi.proofs.ClassLaws.{split_not_joined}
use Rattle.ht_quasi.proofs.laws.no_word_splits_and_is_joined.Goals as goal

pub returns : goal.returns
returns c = split_not_joined
