use Rattle.std.proofs.Common.{sym, subst}
use Rattle.ht_pair.specs.HeldBases.{IsHeldBasis}
use Rattle.ht_pair.proofs.HeldBasisLaws.{roots_held}
use Rattle.ht_pair.proofs.basis.Basis.roots.Goals as goal

pub invariant_of-result : goal.invariant_of-result
invariant_of-result c = subst (IsHeldBasis c.args.shape) (sym c.in_ok-words.ensures) (roots_held c.args.shape)
