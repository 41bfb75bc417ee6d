use Rattle.ht_power.proofs.cycles.+places_after.Given as goal

abbrev pub decreases-places_after : goal.decreases-places_after
decreases-places_after l = l.k
