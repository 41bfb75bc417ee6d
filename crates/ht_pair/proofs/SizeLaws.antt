-- The size of an element.
use Rattle.std.proofs.Common.{◌≡◌, ◌≤◌, ℕ, inl, inr, List, length, sym, ap, ◌∙◌, subst, arith}
use Rattle.std.proofs.lemmas.List.{length-map}
use Rattle.ht_word.specs.declared.shape.Shape.{Shape}
use Rattle.ht_word.specs.declared.word.Word.{Word}
use Rattle.ht_pair.specs.Bases.{longest, roots}
use Rattle.ht_pair.specs.Elements.{IsElement}
use Rattle.ht_pair.specs.Actions.{Alike, IsCanonicalFor}
use Rattle.ht_pair.specs.Pairs.{IsPair, longest_of, identity}
use Rattle.ht_pair.specs.Sizes.{HasSize, IsLarge}
use Rattle.ht_pair.specs.declared.row.Row.{Row}
use Rattle.ht_pair.proofs.AlikeLaws.{alike_refl, alike_trans}
use Rattle.ht_pair.proofs.BasisLaws.{longest-roots}
use Rattle.ht_pair.proofs.BasisSizes.{length-roots}
use Rattle.ht_pair.proofs.CanonicalLaws.{canonical_unique}
use Rattle.ht_pair.proofs.ExistenceLaws.{reduced_exists}
use Rattle.ht_pair.proofs.IdentityLaws.{from_words-keep, to_words-keep, identity_canonical}

-- an element has one size
pub size_once : (shape : Shape) (p : List Row) (rows letters i j : ℕ) → IsPair shape p → HasSize shape p rows letters → HasSize shape p i j → (rows ≡ i) × (letters ≡ j)
size_once shape p rows letters i j pair h g =
    let e = canonical_unique shape p h.canonical g.canonical pair h.is_canonical g.is_canonical in
    (h.rows_is ∙ ap (λ (t : List Row). length t) e ∙ sym g.rows_is, h.letters_is ∙ ap (λ (t : List Row). longest_of t) e ∙ sym g.letters_is)

-- pairs that move words alike are large together
pub large_alike : (shape : Shape) (p q : List Row) (rows letters : ℕ) → IsPair shape p → IsPair shape q → Alike shape p q → IsLarge shape p rows letters → IsLarge shape q rows letters
large_alike shape p q rows letters pair_p pair_q alike h =
    let c = h.0.is_canonical in
    (record { canonical = h.0.canonical; is_canonical = record { form = c.form; alike = alike_trans shape h.0.canonical p q c.form.pair pair_p pair_q c.alike alike }; rows_is = h.0.rows_is; letters_is = h.0.letters_is }, h.1)

-- what an element holds isn't large
pub element_not_large : (shape : Shape) (p : List Row) (rows letters : ℕ) → IsElement shape p → ¬ IsLarge shape p rows letters
element_not_large shape p rows letters e h =
    let size = h.0 in
    let same = canonical_unique shape p size.canonical p e.canonical.pair size.is_canonical (record { form = e.canonical; alike = alike_refl shape p e.canonical.pair }) in
    elim h.1 [
      | inl more ↦ absurd (omega (arith, more, size.rows_is, e.few_rows, ap (λ (t : List Row). length t) same))
      | inr longer ↦ absurd (omega (arith, longer, size.letters_is, e.short_words, ap (λ (t : List Row). longest_of t) same))
    ]

-- nor is a pair that moves words as an element does
pub alike_not_large : (shape : Shape) (p q : List Row) (rows letters : ℕ) → IsElement shape p → IsPair shape q → Alike shape q p → ¬ IsLarge shape q rows letters
alike_not_large shape p q rows letters e pair alike h = element_not_large shape p rows letters e (large_alike shape q p rows letters pair e.canonical.pair alike h)

-- the canonical pair has no more rows than the pair, and no longer words
pub canonical_small : (shape : Shape) (p q : List Row) → IsPair shape p → IsCanonicalFor shape q p → (length q ≤ length p) × (longest_of q ≤ longest_of p)
canonical_small shape p q pair c =
    let g = reduced_exists shape p pair in
    let e = canonical_unique shape p q g.0 pair c g.1.canonical in
    subst (λ (t : List Row). (length t ≤ length p) × (longest_of t ≤ longest_of p)) (sym e) (g.1.fewer, g.1.shorter)

-- the identity has at most 256 rows, and no letters
pub identity_element : (shape : Shape) → IsElement shape (identity shape)
identity_element shape = record {
  canonical = identity_canonical shape;
  few_rows = omega (arith, length-map {B = Row} (roots shape) (λ (x : Word). record { from = x; to = x }), length-roots shape.r, shape.roots_high);
  short_words = omega (arith, longest-roots shape.r, ap (λ (X : List Word). longest X) (from_words-keep (roots shape)), ap (λ (X : List Word). longest X) (to_words-keep (roots shape)));
}
