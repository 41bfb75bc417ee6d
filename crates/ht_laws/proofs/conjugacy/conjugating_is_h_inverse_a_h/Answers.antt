use Rattle.ht_laws.proofs.ConjugatorLaws.{conjugate_alike, conjugates_where_alike}
use Rattle.ht_laws.proofs.conjugacy.conjugating_is_h_inverse_a_h.Goals as goal

pub returns : goal.returns
returns c = λ shape h a b s t pair_h pair_a pair_b hs ht. (conjugate_alike shape h a b s t pair_a hs ht, conjugates_where_alike shape h a b s t pair_h hs ht)
