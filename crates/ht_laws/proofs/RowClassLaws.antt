-- The rows of a basis tell the classes of its words.
use Rattle.std.proofs.Common.{◌≡◌, List, sym, ap, ◌∙◌, subst, ◌↔◌, Contains, pos, negsuc}
use Rattle.std.proofs.lemmas.List.Elements.{All-contains}
use Rattle.ht_word.specs.declared.word.Word.{Word}
use Rattle.ht_word.specs.declared.shape.Shape.{Shape}
use Rattle.ht_word.specs.Words.{◌·◌, IsWordOf, IsUnder, IsUnderSome}
use Rattle.ht_word.proofs.WordLaws.{under_refl, under_trans, under_antisym, word_rest}
use Rattle.ht_word.proofs.ListLaws.{Contains-map, contained_in_map}
use Rattle.ht_pair.specs.declared.row.Row.{Row}
use Rattle.ht_pair.specs.Bases.{IsPrefixFree, IsBasis}
use Rattle.ht_pair.specs.Pairs.{IsPair, from_words, to_words}
use Rattle.ht_pair.specs.Steps.{Carries}
use Rattle.ht_pair.specs.SemiNormal.{CarriesUnder}
use Rattle.ht_pair.proofs.BasisLaws.{some_at, basis_word, prefix_free_same}
use Rattle.ht_pair.proofs.CarriesLaws.{carries_single, carries_extends, carries_back}
use Rattle.ht_quasi.specs.declared.quasi.Class.TheVariants.{Splits, Joined, Plain}
use Rattle.ht_quasi.specs.Quasis.{IsYOf, HasClass}
use Rattle.ht_types.proofs.JoinedLaws.{row_carries}

-- a word of the basis that is under a word under the basis is that word
between : (X : List Word) (x w : Word) → IsPrefixFree X → Contains X x → IsUnder x w → IsUnderSome w X → w ≡ x
between X x w free c h s = under_antisym (subst (IsUnder w) (sym (prefix_free_same X free x s.above c s.listed (under_trans h s.under))) s.under) h

-- the `from` words are the words of the basis that are carried under it
ahead_listed : (shape : Shape) (p : List Row) (X : List Word) (y : List Row) (x : Word) → IsBasis shape X → IsYOf shape p X y → Contains X x → CarriesUnder shape p (pos 1) x X ↔ Contains (from_words y) x
ahead_listed shape p X y x basis h c =
    let word = basis_word shape X basis x c in
    let under = some_at X x x c (under_refl x) in (
      (λ carries. let s = (h.carried x word under).1 carries in subst (Contains (from_words y)) (between X x s.above basis.prefix_free c s.under (All-contains (λ w. IsUnderSome w X) (from_words y) s.above h.from_under s.listed)) s.listed),
      (λ listed. (h.carried x word under).0 (some_at (from_words y) x x listed (under_refl x))),
    )

-- the `to` words are those that are carried back under it
behind_listed : (shape : Shape) (p : List Row) (X : List Word) (y : List Row) (x : Word) → IsPair shape p → IsBasis shape X → IsYOf shape p X y → Contains X x → CarriesUnder shape p (negsuc 0) x X ↔ Contains (to_words y) x
behind_listed shape p X y x pair basis h c = (
  (λ back.
      let ahead : Carries shape p (pos 1) back.to x = carries_back shape p pair (negsuc 0) x back.to back.carries in
      let s = (h.carried back.to ahead.word back.under).1 (record { to = x; carries = ahead; under = some_at X x x c (under_refl x) }) in
      let (row, listed, from_is) = contained_in_map (λ (t : Row). t.from) y s.above s.listed in
      let is : back.to ≡ row.from · s.under.rest = s.under.is ∙ ap (λ t. t · s.under.rest) (sym from_is) in
      let letters = word_rest shape row.from s.under.rest (subst (IsWordOf shape) is ahead.word) in
      let x_is : x ≡ row.to · s.under.rest = carries_single shape p pair (pos 1) back.to x (row.to · s.under.rest) ahead (subst (λ t. Carries shape p (pos 1) t (row.to · s.under.rest)) (sym is) (carries_extends shape p (pos 1) row.from row.to s.under.rest letters (row_carries shape p X y h row listed))) in
      let to = Contains-map (λ (t : Row). t.to) y row listed in
      subst (Contains (to_words y)) (between X x row.to basis.prefix_free c (record { rest = s.under.rest; is = x_is }) (All-contains (λ w. IsUnderSome w X) (to_words y) row.to h.to_under to)) to),
  (λ to.
      let (row, listed, to_is) = contained_in_map (λ (t : Row). t.to) y x to in
      record {
        to = row.from;
        carries = subst (λ t. Carries shape p (negsuc 0) t row.from) to_is (carries_back shape p pair (pos 1) row.from row.to (row_carries shape p X y h row listed));
        under = All-contains (λ w. IsUnderSome w X) (from_words y) row.from h.from_under (Contains-map (λ (t : Row). t.from) y row listed);
      }),
)

-- a word splits exactly where it is no `from` word
pub splits_told : (shape : Shape) (p : List Row) (X : List Word) (y : List Row) (x : Word) → IsBasis shape X → IsYOf shape p X y → Contains X x → HasClass shape p X x Splits ↔ ¬ Contains (from_words y) x
splits_told shape p X y x basis h c = let told = ahead_listed shape p X y x basis h c in ((λ splits listed. splits (told.1 listed)), (λ other carries. other (told.0 carries)))

-- it is joined exactly where it is no `to` word
pub joined_told : (shape : Shape) (p : List Row) (X : List Word) (y : List Row) (x : Word) → IsPair shape p → IsBasis shape X → IsYOf shape p X y → Contains X x → HasClass shape p X x Joined ↔ ¬ Contains (to_words y) x
joined_told shape p X y x pair basis h c = let told = behind_listed shape p X y x pair basis h c in ((λ joined listed. joined (told.1 listed)), (λ other carries. other (told.0 carries)))

-- and it is plain exactly where it is both
pub plain_told : (shape : Shape) (p : List Row) (X : List Word) (y : List Row) (x : Word) → IsPair shape p → IsBasis shape X → IsYOf shape p X y → Contains X x → HasClass shape p X x Plain ↔ (Contains (from_words y) x × Contains (to_words y) x)
plain_told shape p X y x pair basis h c =
    let ahead = ahead_listed shape p X y x basis h c in
    let behind = behind_listed shape p X y x pair basis h c in
    ((λ plain. (ahead.0 plain.0, behind.0 plain.1)), (λ listed. (ahead.1 listed.0, behind.1 listed.1)))
