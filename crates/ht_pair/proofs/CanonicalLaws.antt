-- Each element has one canonical pair.
use Rattle.std.proofs.Common.{◌≡◌, List, Bool, IsTrue, refl, sym, subst, Contains, ◌↔◌}
use Rattle.std.specs.Prelude.{⊤}
use Rattle.std.specs.declared.cmp.Ordering.TheVariants.{Less}
use Rattle.ht_word.specs.Words.{IsWordOf, ◌·◌, word_cmp}
use Rattle.ht_word.specs.declared.shape.Shape.{Shape}
use Rattle.ht_word.specs.declared.word.Word.{Word}
use Rattle.ht_word.proofs.ListLaws.{Contains-map, AllPairs-from_map, ascending_same}
use Rattle.ht_word.proofs.WordLaws.{word_after, word_cmp_once}
use Rattle.ht_pair.specs.Actions.{Alike, IsReduced, IsCanonical, IsCanonicalFor}
use Rattle.ht_pair.specs.Elements.{ElementValue}
use Rattle.ht_pair.specs.Pairs.{from_words, IsPair}
use Rattle.ht_pair.specs.declared.row.Row.{Row}
use Rattle.ht_pair.proofs.AlikeLaws.{alike_refl, alike_sym, alike_trans}
use Rattle.ht_pair.proofs.BasisLaws.{basis_holds, basis_word}
use Rattle.ht_pair.proofs.ReducedLaws.{MovesAs, IsReducedOn, same_rows}

-- all words
abbrev pub Everywhere : Word → Type 0
Everywhere u = ⊤

-- a reduced pair is reduced on all words
pub reduced_pair : (shape : Shape) (p : List Row) → IsPair shape p → IsReduced shape p → IsReducedOn shape Everywhere p
reduced_pair shape p pair reduced = record {
  words = pair.from.words;
  prefix_free = pair.from.prefix_free;
  inside = λ row c. tt;
  deeper = λ u z d. tt;
  holds = λ u h d. basis_holds shape (from_words p) pair.from u h;
  reduced = λ u v d. reduced u v;
}

-- a pair alike p moves words as each row of p says
alike_row : (shape : Shape) (p q : List Row) → Alike shape p q → (row : Row) → IsWordOf shape row.from → Contains q row → MovesAs shape p row.from row.to
alike_row shape p q alike row h c = record {
  at = λ z w hz m.
      alike (row.from · z) w (row.to · z) (word_after shape row.from z h hz) m (record { row = row; rest = z; listed = c; from = refl; to = refl });
}

-- reduced pairs that are alike have the same rows
same_pairs : (shape : Shape) (p q : List Row) → IsPair shape p → IsReduced shape p → IsPair shape q → IsReduced shape q → Alike shape p q → (row : Row) → Contains q row → Contains p row
same_pairs shape p q pair_p reduced_p pair_q reduced_q alike = same_rows shape Everywhere p q (reduced_pair shape p pair_p reduced_p) (reduced_pair shape q pair_q reduced_q)
    (λ row c. alike_row shape p q alike row (row_word_of q pair_q row c) c)
    (λ row c. alike_row shape q p (alike_sym shape p q alike) row (row_word_of p pair_p row c) c)
  where
    row_word_of : (p : List Row) → IsPair shape p → (row : Row) → Contains p row → IsWordOf shape row.from
    row_word_of p pair row c = basis_word shape (from_words p) pair.from row.from (Contains-map (λ (t : Row). t.from) p row c)

-- an element has one canonical pair
pub canonical_unique : (shape : Shape) (p q q' : List Row) → IsPair shape p → IsCanonicalFor shape q p → IsCanonicalFor shape q' p → q ≡ q'
canonical_unique shape p q q' pair c c' =
    let alike : Alike shape q q' = alike_trans shape q p q' c.pair pair c'.pair c.alike (alike_sym shape q' p c'.alike) in
    ascending_same (λ (x : Row) (y : Row). word_cmp x.from y.from ≡ Less) (λ x y. word_cmp_once x.from y.from) q q'
    (AllPairs-from_map (λ (t : Row). t.from) (λ u v. word_cmp u v ≡ Less) q c.ascending)
    (AllPairs-from_map (λ (t : Row). t.from) (λ u v. word_cmp u v ≡ Less) q' c'.ascending)
    (same_pairs shape q' q c'.pair c'.reduced c.pair c.reduced (alike_sym shape q q' alike))
    (same_pairs shape q q' c.pair c.reduced c'.pair c'.reduced alike)

-- two canonical pairs are equal where their elements are alike, and only there
pub canonical_alike : (shape : Shape) (p p' q q' : List Row) → IsPair shape p → IsPair shape p' → IsCanonicalFor shape q p → IsCanonicalFor shape q' p' → (q ≡ q') ↔ Alike shape p p'
canonical_alike shape p p' q q' pair pair' c c' = (
  (λ e. alike_trans shape p q p' pair c.pair pair' (alike_sym shape q p c.alike) (subst (λ t. Alike shape t p') (sym e) c'.alike)),
  (λ alike. canonical_unique shape p q q' pair c (record { form = c'.form; alike = alike_trans shape q' p' p c'.pair pair' pair c'.alike (alike_sym shape p p' alike) })),
)

-- a test for equal rows of two elements of one shape is one for acting alike
pub alike_tested : (a b : ElementValue) (test : Bool) → a.shape ≡ b.shape → IsCanonical a.shape a.rows → IsCanonical b.shape b.rows → IsTrue test ↔ (a.rows ≡ b.rows) → IsTrue test ↔ Alike a.shape a.rows b.rows
alike_tested a b test shapes first second rows =
    let other : IsCanonical a.shape b.rows = subst (λ (s : Shape). IsCanonical s b.rows) (sym shapes) second in
    let one = canonical_alike a.shape a.rows b.rows a.rows b.rows first.pair other.pair
    (record { form = first; alike = alike_refl a.shape a.rows first.pair }) (record { form = other; alike = alike_refl a.shape b.rows other.pair }) in
    ((λ t. one.0 (rows.0 t)), (λ alike. rows.1 (one.1 alike)))
