use Rattle.ht_ops.proofs.powers.+power_up.Given as goal

-- half of the exponent is less
abbrev pub decreases-power_up : goal.decreases-power_up
decreases-power_up l = l.k
