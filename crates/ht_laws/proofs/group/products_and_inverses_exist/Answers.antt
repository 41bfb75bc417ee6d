use Rattle.ht_pair.proofs.ProductLaws.{product_exists, product_of, product_once, inverse_is}
use Rattle.ht_laws.proofs.group.products_and_inverses_exist.Goals as goal

pub returns-clause-product : goal.returns-clause-product
returns-clause-product c = λ shape p q pair_p pair_q. let s = product_exists shape p q pair_p pair_q in (s.rows, product_of shape p q pair_p pair_q s)

pub returns-clause-one : goal.returns-clause-one
returns-clause-one c = product_once

pub returns-clause-inverse : goal.returns-clause-inverse
returns-clause-inverse c = inverse_is
