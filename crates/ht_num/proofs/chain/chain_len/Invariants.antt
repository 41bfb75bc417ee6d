use Rattle.std.proofs.Common.{◌≡◌, ◌≤◌, length, ◌+◌}
use Rattle.ht_num.specs.Chains.{chain}
use Rattle.ht_num.proofs.chain.chain_len.Given as goal

-- what is counted, and the chain of the rest, are the chain of k and the rest's own entry
abbrev pub invariant-loop-rest : goal.invariant-loop-rest
invariant-loop-rest l = (1 ≤ l.rest) × (length (chain l.rest) + l.len ≡ length (chain l.k) + 1)

abbrev pub decreases-loop-rest : goal.decreases-loop-rest
decreases-loop-rest l = l.rest
