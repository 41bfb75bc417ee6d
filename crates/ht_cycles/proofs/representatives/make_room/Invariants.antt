use Rattle.std.proofs.Common.{◌≡◌, ◌≤◌, ℕ, length}
use Rattle.ht_cycles.specs.Cycles.{group}
use Rattle.ht_cycles.proofs.representatives.make_room.Given as goal

abbrev pub invariant-loop : goal.invariant-loop
invariant-loop l = record { many : l.counter ≤ length l.groups.items; same : (m : ℕ) → group l.groups.items m ≡ group l.fn.groups.items m }
