use Rattle.std.proofs.Common.{◌≡◌, ℕ, ◌<◌, length, get_or}
use Rattle.ht_atoms.proofs.tree.own_parents.Given as goal

abbrev pub invariant-loop-place : goal.invariant-loop-place
invariant-loop-place l = record { many : length l.parents.items ≡ l.place; own : (i : ℕ) → i < l.place → get_or l.parents.items i 0 ≡ i }
