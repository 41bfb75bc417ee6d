use Rattle.ht_laws.proofs.RowClassLaws.{splits_told, joined_told, plain_told}
use Rattle.ht_laws.proofs.classes.the_rows_of_a_basis_tell_the_classes.Goals as goal

pub returns-clause-splits : goal.returns-clause-splits
returns-clause-splits c = splits_told

pub returns-clause-joined : goal.returns-clause-joined
returns-clause-joined c = joined_told

pub returns-clause-plain : goal.returns-clause-plain
returns-clause-plain c = plain_told
