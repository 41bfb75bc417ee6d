use Rattle.std.proofs.Common.{take}
use Rattle.ht_calc.specs.Names.{AreBound}
use Rattle.ht_calc.specs.Products.{names_of}
use Rattle.ht_calc.proofs.product.first_unbound.Given as goal

abbrev pub invariant-loop-factor : goal.invariant-loop-factor
invariant-loop-factor l = AreBound l.names (names_of (take l.factor-index l.factors))
