use Rattle.std.proofs.Common.{◌↔◌, IsTrue, subst}
use Rattle.ht_word.specs.Words.{IsUnderSome}
use Rattle.ht_quasi.specs.declared.quasi.Quasi.{Quasi}
use Rattle.ht_ask.proofs.share.is_under.Goals as goal

pub returns : goal.returns
returns c = subst (λ (quasi : Quasi). IsTrue c.is_under_basis.result ↔ IsUnderSome c.args.word.now quasi.basis.words) c.quasi.ensures.quasi c.is_under_basis.ensures
