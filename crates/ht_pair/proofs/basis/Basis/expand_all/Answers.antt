use Rattle.std.proofs.Common.{sym, subst}
use Rattle.ht_pair.specs.HeldBases.{IsHeldBasis}
use Rattle.ht_pair.proofs.HeldBasisLaws.{held_expanded_at}
use Rattle.ht_pair.proofs.basis.Basis.expand_all.Goals as goal

pub invariant_of-self : goal.invariant_of-self
invariant_of-self c = subst (IsHeldBasis c.self.inside.shape) (sym c.in_ok-self-inside.ensures) (held_expanded_at c.self.inside.shape c.as_slice.result.now c.args.marks.now (subst (IsHeldBasis c.self.inside.shape) (sym c.as_slice.ensures) c.self.invariant))
