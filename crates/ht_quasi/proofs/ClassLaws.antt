-- The classes of the words of a basis.
use Rattle.std.proofs.Common.{◌≡◌, ◌<◌, ◌↔◌, ◌⊎◌, inl, inr, Bool, true, false, true≢false, IsTrue, List, length, get_or, refl, sym, ap, ◌∙◌, subst, All, Contains, pos, negsuc}
use Rattle.std.proofs.lemmas.List.Elements.{All-contains, All-weaker}
use Rattle.std.proofs.lemmas.Option.{slice_get_within, get_or_from_slice_get}
use Rattle.ht_word.specs.declared.word.Word.{Word}
use Rattle.ht_word.specs.declared.shape.Shape.{Shape}
use Rattle.ht_word.specs.Words.{◌·◌, IsWordOf, IsUnder, IsUnderSome}
use Rattle.ht_word.proofs.WordLaws.{under_refl, under_trans, under_antisym, word_rest}
use Rattle.ht_word.proofs.ListLaws.{Contains-map, contained_in_map}
use Rattle.ht_pair.specs.declared.row.Row.{Row}
use Rattle.ht_pair.specs.Bases.{IsPrefixFree, IsBasis}
use Rattle.ht_pair.specs.Pairs.{IsPair, from_words, to_words}
use Rattle.ht_pair.specs.Steps.{Carries}
use Rattle.ht_pair.specs.SemiNormal.{CarriesUnder, StaysAhead, StaysBehind, IsSemiNormal}
use Rattle.ht_pair.proofs.BasisLaws.{some_at, basis_word, prefix_free_same}
use Rattle.ht_pair.proofs.CarriesLaws.{carries_single, carries_extends, carries_back}
use Rattle.ht_quasi.specs.declared.quasi.Class.{Class}
use Rattle.ht_quasi.specs.declared.quasi.Class.TheVariants.{Splits, Joined}
use Rattle.ht_quasi.specs.Quasis.{IsYOf, HasClass, AreClasses}
use Rattle.ht_quasi.specs.Marks.{AreMarks, AreClassesBy, told}

-- a word above a word of a prefix-free list and under the list is that word
same_between : (X : List Word) (x w : Word) → IsPrefixFree X → Contains X x → IsUnder x w → IsUnderSome w X → x ≡ w
same_between X x w free c h s = under_antisym h (subst (IsUnder w) (sym (prefix_free_same X free x s.above c s.listed (under_trans h s.under))) s.under)

-- ---- the words of a basis that are `from` words

-- a word of the basis that is carried under it is a `from` word
from_listed : (shape : Shape) (p : List Row) (X : List Word) (y : List Row) → IsBasis shape X → IsYOf shape p X y → (x : Word) → Contains X x → CarriesUnder shape p (pos 1) x X → Contains (from_words y) x
from_listed shape p X y basis h x c carries =
    let s = (h.carried x (basis_word shape X basis x c) (some_at X x x c (under_refl x))).1 carries in
    subst (Contains (from_words y)) (sym (same_between X x s.above basis.prefix_free c s.under (All-contains (λ w. IsUnderSome w X) (from_words y) s.above h.from_under s.listed))) s.listed

-- and each such word is carried under it
listed_stays : (shape : Shape) (p : List Row) (X : List Word) (y : List Row) → IsYOf shape p X y → (x : Word) → Contains (from_words y) x → CarriesUnder shape p (pos 1) x X
listed_stays shape p X y h x c =
    let g = contained_in_map (λ (t : Row). t.from) y x c in
    record {
      to = g.0.to;
      carries = subst (λ u. Carries shape p (pos 1) u g.0.to) g.2 (All-contains (λ (row : Row). Carries shape p (pos 1) row.from row.to) y g.0 h.to g.1);
      under = All-contains (λ w. IsUnderSome w X) (to_words y) g.0.to h.to_under (Contains-map (λ (t : Row). t.to) y g.0 g.1);
    }

-- ---- the words that are `to` words

-- a word of the basis that is carried back under it is a `to` word
to_listed : (shape : Shape) (p : List Row) (X : List Word) (y : List Row) → IsPair shape p → IsBasis shape X → IsYOf shape p X y → (x : Word) → Contains X x → CarriesUnder shape p (negsuc 0) x X → Contains (to_words y) x
to_listed shape p X y pair basis h x c back =
    let v = back.to in
    let ahead : Carries shape p (pos 1) v x = carries_back shape p pair (negsuc 0) x v back.carries in
    let s = (h.carried v ahead.word back.under).1 (record { to = x; carries = ahead; under = some_at X x x c (under_refl x) }) in
    let g = contained_in_map (λ (t : Row). t.from) y s.above s.listed in
    let row = g.0 in
    let carries : Carries shape p (pos 1) row.from row.to = All-contains (λ (r : Row). Carries shape p (pos 1) r.from r.to) y row h.to g.1 in
    let v_is : v ≡ row.from · s.under.rest = s.under.is ∙ ap (λ t. t · s.under.rest) (sym g.2) in
    let letters = word_rest shape row.from s.under.rest (subst (IsWordOf shape) v_is ahead.word) in
    let x_is : x ≡ row.to · s.under.rest = carries_single shape p pair (pos 1) (row.from · s.under.rest) x (row.to · s.under.rest) (subst (λ t. Carries shape p (pos 1) t x) v_is ahead) (carries_extends shape p (pos 1) row.from row.to s.under.rest letters carries) in
    let listed = Contains-map (λ (t : Row). t.to) y row g.1 in
    subst (Contains (to_words y)) (sym (same_between X x row.to basis.prefix_free c (record { rest = s.under.rest; is = x_is }) (All-contains (λ w. IsUnderSome w X) (to_words y) row.to h.to_under listed))) listed

-- and each such word is carried back under it
listed_comes : (shape : Shape) (p : List Row) (X : List Word) (y : List Row) → IsPair shape p → IsYOf shape p X y → (x : Word) → Contains (to_words y) x → CarriesUnder shape p (negsuc 0) x X
listed_comes shape p X y pair h x c =
    let g = contained_in_map (λ (t : Row). t.to) y x c in
    let carries : Carries shape p (pos 1) g.0.from g.0.to = All-contains (λ (row : Row). Carries shape p (pos 1) row.from row.to) y g.0 h.to g.1 in
    record {
      to = g.0.from;
      carries = subst (λ u. Carries shape p (negsuc 0) u g.0.from) g.2 (carries_back shape p pair (pos 1) g.0.from g.0.to carries);
      under = All-contains (λ w. IsUnderSome w X) (from_words y) g.0.from h.from_under (Contains-map (λ (t : Row). t.from) y g.0 g.1);
    }

-- ---- the classes

-- the two marks of a word tell its class
class_told : (shape : Shape) (p : List Row) (X : List Word) (y : List Row) → IsPair shape p → IsBasis shape X → IsYOf shape p X y → (x : Word) → Contains X x → (stays comes : Bool) → IsTrue stays ↔ Contains (from_words y) x → IsTrue comes ↔ Contains (to_words y) x
    → HasClass shape p X x (told stays comes)
class_told shape p X y pair basis h x c false comes from to = λ carries. true≢false (sym (from.1 (from_listed shape p X y basis h x c carries)))
class_told shape p X y pair basis h x c true false from to = λ back. true≢false (sym (to.1 (to_listed shape p X y pair basis h x c back)))
class_told shape p X y pair basis h x c true true from to = (listed_stays shape p X y h x (from.0 refl), listed_comes shape p X y pair h x (to.0 refl))

-- the classes told by the marks are those of the words
pub classes_are : (shape : Shape) (X : List Word) (y : List Row) (stays comes : List Bool) (classes : List Class) → IsBasis shape X → AreMarks (from_words y) X stays → AreMarks (to_words y) X comes → length classes ≡ length stays → AreClassesBy stays comes classes
    → (p : List Row) → IsPair shape p → IsYOf shape p X y → AreClasses shape p X classes
classes_are shape X y stays comes classes basis from to many tells p pair h = record {
  as_many = many ∙ from.as_many;
  each = λ place x class is class_is.
      let within : place < length X = slice_get_within X place x is in
      let here : get_or X place x ≡ x = get_or_from_slice_get X place x x is in
      let listed : Contains X x = (place, within, here) in
      let a = get_or stays place true in
      let b = get_or comes place true in
      let found : told a b ≡ class = sym (tells.each place true true class (slice_get_within classes place class class_is)) ∙ get_or_from_slice_get classes place class class class_is in
      subst (HasClass shape p X x) found (class_told shape p X y pair basis h x listed a b
      (subst (λ t. IsTrue a ↔ Contains (from_words y) t) here (from.each place x true within))
      (subst (λ t. IsTrue b ↔ Contains (to_words y) t) here (to.each place x true within)));
}

-- no word of a semi-normal basis both splits and is joined
pub split_not_joined : (shape : Shape) (p : List Row) (X : List Word) (x : Word) → IsSemiNormal shape p X → Contains X x → HasClass shape p X x Splits → ¬ HasClass shape p X x Joined
split_not_joined shape p X x semi c splits joined = elim (All-contains (λ u. StaysAhead shape p X u ⊎ StaysBehind shape p X u) X x semi.stays c) [
  | inl ahead ↦ splits (ahead 1)
  | inr behind ↦ joined (behind 1)
]

-- each word of it is carried under it by one of the two
pub one_sided : (shape : Shape) (p : List Row) (X : List Word) → IsSemiNormal shape p X → All (λ x. CarriesUnder shape p (pos 1) x X ⊎ CarriesUnder shape p (negsuc 0) x X) X
one_sided shape p X semi =
    All-weaker (λ x. StaysAhead shape p X x ⊎ StaysBehind shape p X x) (λ x. CarriesUnder shape p (pos 1) x X ⊎ CarriesUnder shape p (negsuc 0) x X)
    (λ x stays. elim stays [ inl ahead ↦ inl (ahead 1) | inr behind ↦ inr (behind 1) ]) X semi.stays
