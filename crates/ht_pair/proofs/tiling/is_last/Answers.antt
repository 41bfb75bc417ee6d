use Rattle.std.proofs.Common.{inr, rules}
use Rattle.std.proofs.lemmas.Bool.Decides.{Decides-like}
use Rattle.ht_pair.proofs.TilingTests.{next_last}
use Rattle.ht_pair.proofs.tiling.is_last.Goals as goal

pub returns : goal.returns
returns c = Decides-like c.is_step.result (λ h. inr h) (next_last c.args.shape.n c.args.word.now.root _ c.args.word.now.letters) (search rules)
