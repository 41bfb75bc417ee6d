-- Rows that match the cycles of some lengths, length by length.
use Rattle.std.proofs.Common.{◌≡◌, ℕ, ◌+◌, ◌<◌, ◌⊎◌, inl, inr, List, [], ◌++◌, sym, subst, arith, Contains}
use Rattle.std.proofs.lemmas.List.{length-append, map-append}
use Rattle.std.proofs.lemmas.List.Elements.{All-append, All-nil, Contains-append_left, Contains-append_right, Contains-append_cases}
use Rattle.ht_word.specs.Words.{IsWordOf, IsUnderSome}
use Rattle.ht_word.specs.declared.shape.Shape.{Shape}
use Rattle.ht_word.specs.declared.word.Word.{Word}
use Rattle.ht_word.proofs.ListLaws.{Contains-nil, AllPairs-nil, AllPairs-append}
use Rattle.ht_num.proofs.NumberLaws.{once_least}
use Rattle.ht_pair.specs.Bases.{AreApart, IsPrefixFree, longest, Covers}
use Rattle.ht_pair.specs.Kinds.{IsCycle}
use Rattle.ht_pair.specs.Pairs.{from_words, to_words}
use Rattle.ht_pair.specs.declared.row.Row.{Row}
use Rattle.ht_pair.proofs.BasisLaws.{some_at, apart_under, covers_from, covers_long}
use Rattle.ht_cycles.specs.MatchedLengths.{AreOfLengths, IsFollowedByRow, MatchLengths}
use Rattle.ht_cycles.proofs.RepresentativeLaws.{free_apart}
use Rattle.ht_quasi.proofs.ExpandedLaws.{under_later}

-- ---- two lists

under_first : (A B : List Word) (u : Word) → IsUnderSome u A → IsUnderSome u (A ++ B)
under_first A B u s = some_at (A ++ B) s.above u (Contains-append_left A B s.above s.listed) s.under

under_either : (A B : List Word) (u : Word) → IsUnderSome u (A ++ B) → IsUnderSome u A ⊎ IsUnderSome u B
under_either A B u s = elim (Contains-append_cases A B s.above s.listed) [ inl c ↦ inl (some_at A s.above u c s.under) | inr c ↦ inr (some_at B s.above u c s.under) ]

-- words that cover one list, and then words that cover another that is apart
covers-append : (shape : Shape) (V W P Q : List Word) → Covers shape V P → Covers shape W Q → ((v : Word) → Contains V v → IsUnderSome v P) → ((w : Word) → Contains W w → IsUnderSome w Q) → ((x y : Word) → Contains P x → Contains Q y → AreApart x y) → Covers shape (V ++ W) (P ++ Q)
covers-append shape V W P Q first second under_P under_Q apart = covers_from shape (V ++ W) (P ++ Q)
    (All-append (IsWordOf shape) V W first.words second.words)
    (AllPairs-append AreApart V W first.prefix_free second.prefix_free (λ v w c d.
    let s = under_P v c in
    let t = under_Q w d in
    apart_under (apart s.above t.above s.listed t.listed) s.under t.under))
    (longest V + longest W + longest P + longest Q)
    (λ u word l.
    let one = covers_long shape V P first u word (omega arith) in
    let other = covers_long shape W Q second u word (omega arith) in (
      λ s. elim (under_either V W u s) [ inl h ↦ under_first P Q u (one.0 h) | inr h ↦ under_later P Q u (other.0 h) ],
      λ s. elim (under_either P Q u s) [ inl h ↦ under_first V W u (one.1 h) | inr h ↦ under_later V W u (other.1 h) ],
    ))

-- ---- words of cycles of some lengths

-- those of some lengths, and then those of others
of_lengths-append : (shape : Shape) (f : List Row) (X : List Word) → IsPrefixFree X → (D E G : ℕ → Type 0) → ((k : ℕ) → D k → E k → ⊥) → ((k : ℕ) → D k → G k) → ((k : ℕ) → E k → G k) → ((k : ℕ) → G k → D k ⊎ E k) → (P Q : List Word) → AreOfLengths shape f X D P → AreOfLengths shape f X E Q
    → AreOfLengths shape f X G (P ++ Q) × ((x y : Word) → Contains P x → Contains Q y → AreApart x y)
of_lengths-append shape f X free D E G never from_D from_E either P Q first second = (
  record {
    free = AllPairs-append AreApart P Q first.free second.free apart;
    listed = λ x c. elim (Contains-append_cases P Q x c) [
      | inl d ↦ let h = first.listed x d in (h.0, h.1, from_D h.1 h.2, h.3)
      | inr d ↦ let h = second.listed x d in (h.0, h.1, from_E h.1 h.2, h.3)
    ];
    all = λ x m c g cycle. elim (either m g) [
      | inl d ↦ Contains-append_left P Q x (first.all x m c d cycle)
      | inr e ↦ Contains-append_right P Q x (second.all x m c e cycle)
    ];
  },
  apart,
)
  where
    apart : (x y : Word) → Contains P x → Contains Q y → AreApart x y
    apart x y c d =
        let h = first.listed x c in
        let g = second.listed y d in
        free_apart X free x y h.0 g.0 (λ e. never h.1 h.2 (subst E (once_least g.1 h.1 g.3 (subst (λ t. IsCycle shape f t h.1) e h.3)) g.2))

-- the same words are those of other lengths where X has no more
of_other_lengths : (shape : Shape) (f : List Row) (X : List Word) (D G : ℕ → Type 0) → ((k : ℕ) → D k → G k) → ((x : Word) (k : ℕ) → Contains X x → IsCycle shape f x k → G k → D k) → (P : List Word) → AreOfLengths shape f X D P → AreOfLengths shape f X G P
of_other_lengths shape f X D G wider only P are = record {
  free = are.free;
  listed = λ x c. let h = are.listed x c in (h.0, h.1, wider h.1 h.2, h.3);
  all = λ x m c g cycle. are.all x m c (only x m c cycle g) cycle;
}

-- ---- rows

followed_in : (shape : Shape) (f g p q : List Row) (row : Row) → ((next : Row) → Contains p next → Contains q next) → IsFollowedByRow shape f g p row → IsFollowedByRow shape f g q row
followed_in shape f g p q row up h = record { next = h.next; listed = up h.next h.listed; from = h.from; to = h.to }

-- no rows match no cycles
pub match_none : (shape : Shape) (f : List Row) (X : List Word) (g : List Row) (Y : List Word) → MatchLengths shape f X g Y (λ k. k < 0) []
match_none shape f X g Y = record {
  first = [];
  second = [];
  first_are = none f X;
  second_are = none g Y;
  few = omega arith;
  from = covers;
  to = covers;
  from_under = λ u c. absurd (Contains-nil u c);
  to_under = λ u c. absurd (Contains-nil u c);
  follows = λ row c. absurd (Contains-nil row c);
}
  where
    none : (p : List Row) (Z : List Word) → AreOfLengths shape p Z (λ k. k < 0) []
    none p Z = record { free = AllPairs-nil AreApart; listed = λ x c. absurd (Contains-nil x c); all = λ x m c l cycle. absurd (omega arith) }

    covers : Covers shape [] []
    covers = record { words = All-nil (IsWordOf shape); prefix_free = AllPairs-nil AreApart; same = λ u word l. (λ s. s, λ s. s) }

-- rows that match some lengths, and then rows that match others
match-append : (shape : Shape) (f : List Row) (X : List Word) (g : List Row) (Y : List Word) → IsPrefixFree X → IsPrefixFree Y → (D E G : ℕ → Type 0) → ((k : ℕ) → D k → E k → ⊥) → ((k : ℕ) → D k → G k) → ((k : ℕ) → E k → G k) → ((k : ℕ) → G k → D k ⊎ E k) → (p q : List Row)
    → MatchLengths shape f X g Y D p → MatchLengths shape f X g Y E q → MatchLengths shape f X g Y G (p ++ q)
match-append shape f X g Y free_X free_Y D E G never from_D from_E either p q one other =
    let first = of_lengths-append shape f X free_X D E G never from_D from_E either one.first other.first one.first_are other.first_are in
    let second = of_lengths-append shape g Y free_Y D E G never from_D from_E either one.second other.second one.second_are other.second_are in
    let from_is : from_words (p ++ q) ≡ from_words p ++ from_words q = map-append (λ (row : Row). row.from) p q in
    let to_is : to_words (p ++ q) ≡ to_words p ++ to_words q = map-append (λ (row : Row). row.to) p q in
    record {
      first = one.first ++ other.first;
      second = one.second ++ other.second;
      first_are = first.0;
      second_are = second.0;
      few = omega (arith, one.few, other.few, length-append p q, length-append one.first other.first, length-append one.second other.second);
      from = subst (λ W. Covers shape W (one.first ++ other.first)) (sym from_is) (covers-append shape (from_words p) (from_words q) one.first other.first one.from other.from one.from_under other.from_under first.1);
      to = subst (λ W. Covers shape W (one.second ++ other.second)) (sym to_is) (covers-append shape (to_words p) (to_words q) one.second other.second one.to other.to one.to_under other.to_under second.1);
      from_under = λ u c. elim (Contains-append_cases (from_words p) (from_words q) u (subst (λ W. Contains W u) from_is c)) [
        | inl d ↦ under_first one.first other.first u (one.from_under u d)
        | inr d ↦ under_later one.first other.first u (other.from_under u d)
      ];
      to_under = λ u c. elim (Contains-append_cases (to_words p) (to_words q) u (subst (λ W. Contains W u) to_is c)) [
        | inl d ↦ under_first one.second other.second u (one.to_under u d)
        | inr d ↦ under_later one.second other.second u (other.to_under u d)
      ];
      follows = λ row c. elim (Contains-append_cases p q row c) [
        | inl d ↦ followed_in shape f g p (p ++ q) row (λ next e. Contains-append_left p q next e) (one.follows row d)
        | inr d ↦ followed_in shape f g q (p ++ q) row (λ next e. Contains-append_right p q next e) (other.follows row d)
      ];
    }

-- the lengths up to one more
pub match_more : (shape : Shape) (f : List Row) (X : List Word) (g : List Row) (Y : List Word) → IsPrefixFree X → IsPrefixFree Y → (m : ℕ) (p q rows : List Row) → MatchLengths shape f X g Y (λ k. k < m) p → MatchLengths shape f X g Y (λ k. k ≡ m) q → rows ≡ p ++ q → MatchLengths shape f X g Y (λ k. k < m + 1) rows
match_more shape f X g Y free_X free_Y m p q rows one other is = subst (MatchLengths shape f X g Y (λ k. k < m + 1)) (sym is)
    (match-append shape f X g Y free_X free_Y (λ k. k < m) (λ k. k ≡ m) (λ k. k < m + 1) (λ k l e. absurd (omega arith)) (λ k l. omega arith) (λ k e. omega arith) (last_or m) p q one other)
  where
    last_or : (m k : ℕ) → k < m + 1 → (k < m) ⊎ (k ≡ m)
    last_or m k l = grind arith

-- rows that match some lengths match others where X and Y have no more
pub match_other_lengths : (shape : Shape) (f : List Row) (X : List Word) (g : List Row) (Y : List Word) (D G : ℕ → Type 0) → ((k : ℕ) → D k → G k) → ((x : Word) (k : ℕ) → Contains X x → IsCycle shape f x k → G k → D k) → ((y : Word) (k : ℕ) → Contains Y y → IsCycle shape g y k → G k → D k) → (rows : List Row)
    → MatchLengths shape f X g Y D rows → MatchLengths shape f X g Y G rows
match_other_lengths shape f X g Y D G wider only_X only_Y rows h = record {
  first = h.first;
  second = h.second;
  first_are = of_other_lengths shape f X D G wider only_X h.first h.first_are;
  second_are = of_other_lengths shape g Y D G wider only_Y h.second h.second_are;
  few = h.few;
  from = h.from;
  to = h.to;
  from_under = h.from_under;
  to_under = h.to_under;
  follows = h.follows;
}
