use Rattle.ht_pair.proofs.MovesLaws.{moves_map, moves_turned, pair_moves}
use Rattle.ht_laws.proofs.pairs.a_pair_moves_long_words_one_to_one.Goals as goal

pub returns-clause-some : goal.returns-clause-some
returns-clause-some c = λ shape p u pair. pair_moves shape p pair u

pub returns-clause-to_one : goal.returns-clause-to_one
returns-clause-to_one c = λ shape p u v w pair. (moves_map shape p pair).ahead.single u v w

pub returns-clause-from_one : goal.returns-clause-from_one
returns-clause-from_one c = λ shape p u v w pair. (moves_map shape p pair).behind.single w u v

pub returns-clause-back : goal.returns-clause-back
returns-clause-back c = λ shape p u v pair. moves_turned p u v
