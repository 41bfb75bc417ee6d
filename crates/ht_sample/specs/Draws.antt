-- The numbers that a sample draws. Each is told by the state before, a number below 2^64. This project's own.
--
--     next_state s    the state behind s
--     drawn s k       the number below k that is drawn at the state s: the upper 31 bits of the next state, modulo k
use Rattle.std.specs.Prelude.{ℕ, ◌+◌, ◌*◌, ◌/◌, ◌%◌, ◌^◌}

unfoldable pub next_state : ℕ → ℕ
next_state s = (6364136223846793005 * s + 1442695040888963407) % 2 ^ 64

unfoldable pub drawn : ℕ → ℕ → ℕ
drawn s k = (next_state s / 2 ^ 33) % k
