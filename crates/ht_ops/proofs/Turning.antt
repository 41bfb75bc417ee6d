-- The rows of an element turned round.
use Rattle.std.proofs.Common.{◌≡◌, ◌≤◌, ℕ, List, ◌++◌, length, sym, ap, ◌∙◌, subst₂, arith, negsuc, IsPermutation}
use Rattle.std.proofs.lemmas.List.{length-map}
use Rattle.ht_word.specs.declared.word.Word.{Word}
use Rattle.ht_word.specs.declared.shape.Shape.{Shape}
use Rattle.ht_pair.specs.declared.row.Row.{Row}
use Rattle.ht_pair.specs.Bases.{longest}
use Rattle.ht_pair.specs.Pairs.{turned, longest_of, IsPair}
use Rattle.ht_pair.specs.Actions.{IsCanonicalFor}
use Rattle.ht_pair.specs.Elements.{ElementValue}
use Rattle.ht_pair.specs.Products.{IsPower}
use Rattle.ht_pair.specs.Sizes.{IsLarge}
use Rattle.ht_pair.proofs.Canonical.{canonical_permuted, large_permuted}
use Rattle.ht_pair.proofs.MovesLaws.{from_words-turned, to_words-turned, turned_pair}
use Rattle.ht_pair.proofs.ProductLaws.{inverse_is}
use Rattle.ht_ops.proofs.Faults.{small_not_large}
use Rattle.ht_ops.proofs.AlikeProducts.{power_alike}

-- the rows that are turned, and those that are left
abbrev pub AreTurned : List Row → List Row → List Row → Type 0
AreTurned all done rest = turned all ≡ done ++ turned rest

-- the turned rows of an element are a pair
pub turned_is_pair : (shape given_shape : Shape) (p rows given : List Row) → given_shape ≡ shape → rows ≡ p → given ≡ turned rows → IsPair shape p → IsPair given_shape given
turned_is_pair shape given_shape p rows given shapes rows_are given_are pair =
    subst₂ (λ (t : Shape) (q : List Row). IsPair t q) (sym shapes) (sym (given_are ∙ ap (λ (t : List Row). turned t) rows_are)) (turned_pair shape p pair)

-- and aren't large, in whatever order
pub turned_not_large : (shape given_shape : Shape) (p rows given sorted : List Row) (count letters : ℕ) → given_shape ≡ shape → rows ≡ p → given ≡ turned rows → IsPair shape p → (length p ≤ 8192) × (longest_of p ≤ 1024)
    → IsPermutation given sorted → ¬ IsLarge given_shape sorted count letters
turned_not_large shape given_shape p rows given sorted count letters shapes rows_are given_are pair small perm h =
    small_not_large shape (turned p) count letters (turned_pair shape p pair)
    (omega (arith, length-map {B = Row} p (λ (row : Row). record { from = row.to; to = row.from }), small.0))
    (omega (arith, small.1, ap (λ (X : List Word). longest X) (from_words-turned p), ap (λ (X : List Word). longest X) (to_words-turned p)))
    (subst₂ (λ (s : Shape) (q : List Row). IsLarge s q count letters) shapes (given_are ∙ ap (λ (t : List Row). turned t) rows_are) (large_permuted given_shape given sorted count letters perm h))

-- their canonical pair is the inverse
pub turned_canonical : (shape given_shape : Shape) (p rows given sorted : List Row) (s : ElementValue) → given_shape ≡ shape → rows ≡ p → given ≡ turned rows → IsPair shape p → IsPermutation given sorted
    → (s.shape ≡ given_shape) × IsCanonicalFor given_shape s.rows sorted → (s.shape ≡ shape) × IsPower shape p (negsuc 0) s.rows
turned_canonical shape given_shape p rows given sorted s shapes rows_are given_are pair perm h =
    let c = subst₂ (λ (t : Shape) (q : List Row). IsCanonicalFor t s.rows q) shapes (given_are ∙ ap (λ (t : List Row). turned t) rows_are) (canonical_permuted given_shape given sorted s.rows perm h.1) in
    (h.0 ∙ shapes, power_alike shape p (turned p) s.rows (negsuc 0) pair (inverse_is shape p pair) c.pair c.alike)
