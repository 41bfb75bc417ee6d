-- The numbers of a sorted list with how often each stands in it, as the program counts them.
--
--     length_of kind         the length of the cycle of a word of this kind, where it is a cycle word
--     lengths_of kinds       those of all the words
--     EndsRun sorted place   the number at the place is the last one or differs from the next
--     share n m count        so many words of cycles of length m are so many cycles, modulo n - 1
--     begins m ks            m is the first of the numbers
--     runs n count ks        each run of equal numbers with the share of its length; the first run has so many more before it
use Rattle.std.specs.Prelude.{ℕ, ◌≡◌, ◌≢◌, ◌⊎◌, ◌+◌, ◌-◌, ◌/◌, ◌%◌, ◌==◌, Bool, false, cond, List, [], ◌∷◌, ◌++◌, length, slice_index}
use Rattle.ht_types.specs.declared.kind.Kind.{Kind}
use Rattle.ht_types.specs.declared.kind.Kind.TheVariants.{Cycle, Attractor, Repeller, Passing}

abbrev pub length_of : Kind → List ℕ
length_of (Cycle m) = m ∷ []
length_of (Attractor m by) = []
length_of (Repeller m by) = []
length_of (Passing ahead behind) = []

abbrev pub lengths_of : List Kind → List ℕ
lengths_of [] = []
lengths_of (kind ∷ kinds) = length_of kind ++ lengths_of kinds

abbrev pub EndsRun : List ℕ → ℕ → Type 0
EndsRun sorted place = (place + 1 ≡ length sorted) ⊎ (slice_index sorted (place + 1) ≢ slice_index sorted place)

abbrev pub share : ℕ → ℕ → ℕ → ℕ
share n m count = (count / m) % (n - 1)

abbrev pub begins : ℕ → List ℕ → Bool
begins m [] = false
begins m (k ∷ ks) = m == k

abbrev pub runs : ℕ → ℕ → List ℕ → List (ℕ × ℕ)
runs n count [] = []
runs n count (m ∷ ks) = cond (begins m ks) (runs n (count + 1) ks) ((m, share n m (count + 1)) ∷ runs n 0 ks)
