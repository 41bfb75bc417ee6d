-- A pair has few faults.
use Rattle.std.proofs.Common.{◌≡◌, ◌≤◌, inl, inr, ℕ, List, ◌∷◌, length, refl, arith}
use Rattle.ht_word.specs.declared.shape.Shape.{Shape}
use Rattle.ht_pair.specs.declared.row.Row.{Row}
use Rattle.ht_pair.specs.declared.fault.OpFault.{OpFault}
use Rattle.ht_pair.specs.declared.fault.OpFault.TheVariants as op_fault
use Rattle.ht_pair.specs.Pairs.{IsPair, longest_of}
use Rattle.ht_pair.specs.Sizes.{IsLarge}
use Rattle.ht_pair.proofs.SizeLaws.{canonical_small}

-- a pair within the limits isn't large
pub small_not_large : (shape : Shape) (rows : List Row) (count letters : ℕ) → IsPair shape rows → length rows ≤ 8192 → longest_of rows ≤ 1024 → ¬ IsLarge shape rows count letters
small_not_large shape rows count letters pair few short h =
    let size = h.0 in
    let small = canonical_small shape rows size.canonical pair size.is_canonical in
    elim h.1 [ inl more ↦ omega (arith, size.rows_is, small.0, more) | inr longer ↦ omega (arith, size.letters_is, small.1, longer) ]

-- a fault that comes only of large rows, where the rows aren't large
pub only_memory : (fault : OpFault) (P : ℕ → ℕ → Type 0) → ((count letters : ℕ) → fault ≡ op_fault.Large count letters → P count letters) → ((count letters : ℕ) → ¬ P count letters) → fault ≡ op_fault.NoMemory
only_memory (op_fault.Large count letters) P large none = absurd (none count letters (large count letters refl))
only_memory op_fault.NoMemory P large none = refl
