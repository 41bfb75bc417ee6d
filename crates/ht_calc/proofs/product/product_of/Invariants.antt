use Rattle.std.proofs.Common.{drop}
use Rattle.ht_calc.proofs.TermLaws.{HasCome}
use Rattle.ht_calc.proofs.product.product_of.Given as goal

abbrev pub invariant-loop-factor : goal.invariant-loop-factor
invariant-loop-factor l = HasCome l.fn.shape l.names l.fn.factors (drop l.factor-index l.others) l.so_far
