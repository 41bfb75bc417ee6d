use Rattle.ht_pair.proofs.SizeLaws.{size_once, large_alike}
use Rattle.ht_laws.proofs.LeastSizeLaws.{size_exists, size_least}
use Rattle.ht_laws.proofs.pairs.an_element_has_one_size.Goals as goal

pub returns-clause-some : goal.returns-clause-some
returns-clause-some c = size_exists

pub returns-clause-one : goal.returns-clause-one
returns-clause-one c = size_once

pub returns-clause-alike : goal.returns-clause-alike
returns-clause-alike c = large_alike

pub returns-clause-least : goal.returns-clause-least
returns-clause-least c = size_least

pub returns-clause-reached : goal.returns-clause-reached
returns-clause-reached c = λ shape p rows letters h. (h.canonical, h.is_canonical.form.pair, h.is_canonical.alike, h.rows_is, h.letters_is)
