-- Counts of faults, of bytes taken, of calls and of fetches. Each ends at 2^64-1, the last value of its counter.
--
--     count_on k n                  n more, up to the last value; what is beyond it stays
--     next_count k                  one more
--     Rose before now               the count rose, or stands at its last value
--     HasCause before now result    the count never falls, stays where the call was answered, and rose where it failed
--     Takes before now result       the number of bytes taken went up by those that the call gave
use Rattle.std.specs.Prelude.{◌≡◌, ℕ, ◌+◌, ◌-◌, ◌^◌, ◌≤◌, min, max, Result, OnOk, OnErr, MatchResult}

abbrev pub count_on : ℕ → ℕ → ℕ
count_on k n = max k (min (k + n) (2 ^ 64 - 1))

abbrev pub next_count : ℕ → ℕ
next_count k = count_on k 1

abbrev pub Rose : ℕ → ℕ → Type 0
Rose before now = next_count before ≤ now

pub record HasCause {T E : Type 0} (before now : ℕ) (result : Result T E) : Type 0 where
  pub later : before ≤ now
  pub kept : OnOk result (now ≡ before)
  pub failed : OnErr result (Rose before now)

abbrev pub Takes : {E : Type 0} → ℕ → ℕ → Result ℕ E → Type 0
Takes before now result = MatchResult result (λ n. now ≡ count_on before n) (λ _. now ≡ before)
