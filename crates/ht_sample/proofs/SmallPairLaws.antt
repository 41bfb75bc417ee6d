-- Small pairs are the rows of an element.
use Rattle.std.proofs.Common.{◌≡◌, inl, inr, List, ◌∷◌, refl, sym, subst, arith, Contains}
use Rattle.std.proofs.lemmas.List.Elements.{Contains-append_right}
use Rattle.ht_word.specs.declared.shape.Shape.{Shape}
use Rattle.ht_word.proofs.ListLaws.{Contains-here, Contains-map}
use Rattle.ht_pair.specs.Pairs.{from_words, to_words}
use Rattle.ht_pair.specs.declared.row.Row.{Row}
use Rattle.ht_pair.specs.RowsFaults.{IsRowsFault}
use Rattle.ht_pair.specs.declared.fault.RowsFault.{RowsFault}
use Rattle.ht_pair.specs.declared.fault.RowsFault.TheVariants.{Foreign, FromNotBasis, ToNotBasis, Large, NoMemory}
use Rattle.ht_pair.proofs.BasisLaws.{basis_word}
use Rattle.ht_pair.proofs.SizeLaws.{canonical_small}
use Rattle.ht_sample.specs.Samples.{IsSmallPair}

-- of the faults of rows only want of memory is one of a small pair
pub only_memory : (shape : Shape) (p : List Row) (fault : RowsFault) → IsSmallPair shape p → IsRowsFault shape p fault → fault ≡ NoMemory
only_memory shape p (Foreign place) h fault =
    let listed : Contains p fault.row = subst (λ (q : List Row). Contains q fault.row) (sym fault.are) (Contains-append_right fault.before (fault.row ∷ fault.behind) fault.row (Contains-here fault.row fault.behind)) in
    absurd (fault.foreign (record {
      from = basis_word shape (from_words p) h.pair.from fault.row.from (Contains-map (λ (row : Row). row.from) p fault.row listed);
      to = basis_word shape (to_words p) h.pair.to fault.row.to (Contains-map (λ (row : Row). row.to) p fault.row listed);
    }))
only_memory shape p FromNotBasis h fault = absurd (fault.from h.pair.from)
only_memory shape p ToNotBasis h fault = absurd (fault.to h.pair.to)
only_memory shape p (Large rows letters) h fault =
    let size = fault.1.0 in
    let small = canonical_small shape p size.canonical h.pair size.is_canonical in
    elim fault.1.1 [ inl more ↦ absurd (omega (arith, more, size.rows_is, small.0, h.few)) | inr longer ↦ absurd (omega (arith, longer, size.letters_is, small.1, h.short)) ]
only_memory shape p NoMemory h fault = refl
