-- The size of an element is the least of its pairs.
use Rattle.std.proofs.Common.{ℕ, ◌≤◌, List, length, refl, arith}
use Rattle.ht_word.specs.declared.shape.Shape.{Shape}
use Rattle.ht_pair.specs.Actions.{Alike}
use Rattle.ht_pair.specs.Pairs.{IsPair, longest_of}
use Rattle.ht_pair.specs.Sizes.{HasSize}
use Rattle.ht_pair.specs.declared.row.Row.{Row}
use Rattle.ht_pair.proofs.AlikeLaws.{alike_trans}
use Rattle.ht_pair.proofs.ExistenceLaws.{canonical_exists}
use Rattle.ht_pair.proofs.SizeLaws.{canonical_small}

-- each pair has a size
pub size_exists : (shape : Shape) (p : List Row) → IsPair shape p → (rows : ℕ) × (letters : ℕ) × HasSize shape p rows letters
size_exists shape p pair = let q = canonical_exists shape p pair in (length q.0, longest_of q.0, record { canonical = q.0; is_canonical = q.1; rows_is = refl; letters_is = refl })

-- no pair of the element is smaller
pub size_least : (shape : Shape) (p q : List Row) (rows letters : ℕ) → IsPair shape p → IsPair shape q → Alike shape p q → HasSize shape p rows letters → (rows ≤ length q) × (letters ≤ longest_of q)
size_least shape p q rows letters pair_p pair_q alike h =
    let c = h.is_canonical in
    let small = canonical_small shape q h.canonical pair_q (record { form = c.form; alike = alike_trans shape h.canonical p q c.form.pair pair_p pair_q c.alike alike }) in
    (omega (arith, h.rows_is, small.0), omega (arith, h.letters_is, small.1))
