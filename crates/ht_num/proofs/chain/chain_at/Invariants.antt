use Rattle.std.proofs.Common.{◌-◌, ◌≡◌, ◌≤◌, ◌<◌, length, ℕ, List, ◌++◌}
use Rattle.ht_num.specs.Chains.{chain}
use Rattle.ht_num.proofs.chain.chain_at.Given as goal

-- the chain of k begins with the chain of the rest, which holds the place
abbrev pub invariant-loop-len : goal.invariant-loop-len
invariant-loop-len l = (1 ≤ l.rest) × (l.len ≡ length (chain l.rest)) × (l.i < l.len) × ((tail : List ℕ) × (chain l.k ≡ chain l.rest ++ tail))

abbrev pub decreases-loop-len : goal.decreases-loop-len
decreases-loop-len l = l.len - l.i
