-- Rows that send long words as a relation between two parts does: they go from words that cover the one to words that cover the other.
use Rattle.std.proofs.Common.{◌≡◌, ℕ, ◌+◌, ◌≤◌, List, ◌++◌, length, max, refl, sym, ap, ◌∙◌, subst, arith, Contains}
use Rattle.std.proofs.lemmas.List.{length-append}
use Rattle.std.proofs.lemmas.List.Elements.{All-contains}
use Rattle.ht_word.specs.Words.{◌·◌, IsLetters, IsWordOf, IsUnder, IsUnderSome}
use Rattle.ht_word.specs.declared.shape.Shape.{Shape}
use Rattle.ht_word.specs.declared.word.Word.{Word}
use Rattle.ht_word.proofs.ListLaws.{AllPairs-from_map, AllPairs-map, AllPairs-weaker, Contains-map, contained_in_map}
use Rattle.ht_word.proofs.WordLaws.{All-from_contains, after-append, after_cancel_right, length-after, length-ones, letters_append, ones, ones_letters, word_after, word_front, word_rest}
use Rattle.ht_pair.specs.Actions.{Moves}
use Rattle.ht_pair.specs.Bases.{AreApart, Covers, IsPrefixFree, longest}
use Rattle.ht_pair.specs.Pairs.{from_words, to_words}
use Rattle.ht_pair.specs.declared.row.Row.{Row}
use Rattle.ht_pair.proofs.BasisLaws.{covers_from, longest_bounds, some_at}
use Rattle.ht_pieces.proofs.InsideLaws.{inside_from_under, inside_long}
use Rattle.ht_pieces.proofs.PartMaps.{IsPartMap, length-came, rows_total}

-- the rows m send the words that are long enough as F does
pub record SendsAlike (shape : Shape) (m : List Row) (F : Word → Word → Type 0) : Type 0 where
  pub bound : ℕ
  pub alike : (u v : Word) → IsWordOf shape u → bound ≤ length u.letters → Moves m u v → F u v

-- rows move words to under their `to` words
pub moved_under : (m : List Row) (u v : Word) → Moves m u v → IsUnderSome v (to_words m)
moved_under m u v h = some_at (to_words m) h.row.to v (Contains-map (λ (t : Row). t.to) m h.row h.listed) (record { rest = h.rest; is = h.to })

-- F goes from V to W, and the `from` words of m cover V
module _ (shape : Shape) (V W : List Word) (F : Word → Word → Type 0) (f : IsPartMap shape V W F) (m : List Row) (covers : Covers shape (from_words m) V) (sends : SendsAlike shape m F) where
  row_word : (row : Row) → Contains m row → IsWordOf shape row.from
  row_word row c = All-contains (IsWordOf shape) (from_words m) row.from covers.words (Contains-map (λ (t : Row). t.from) m row c)

  -- a row, with long letters behind it
  row_far : (row : Row) → Contains m row → (y : List ℕ) → IsLetters shape y → sends.bound ≤ length y → F (row.from · y) (row.to · y)
  row_far row c y hy l = sends.alike (row.from · y) (row.to · y) (word_after shape row.from y (row_word row c) hy) (omega (arith, length-after row.from y)) (record { row = row; rest = y; listed = c; from = refl; to = refl })

  row_to : (row : Row) → Contains m row → IsWordOf shape row.to
  row_to row c =
      let y = ones sends.bound in
      let hy = ones_letters shape sends.bound in
      word_front shape row.to y (f.inside (row.from · y) (row.to · y) (word_after shape row.from y (row_word row c) hy) (row_far row c y hy (omega (arith, length-ones sends.bound)))).1.word

  -- of two rows, the one goes from under the other where it goes under it
  row_below : (x y : Row) → Contains m x → Contains m y → IsUnder x.to y.to → IsUnder x.from y.from
  row_below x y c e k =
      let z = ones sends.bound in
      let hz = ones_letters shape sends.bound in
      let hk = word_rest shape y.to k.rest (subst (IsWordOf shape) k.is (row_to x c)) in
      let first = row_far x c z hz (omega (arith, length-ones sends.bound)) in
      let second = row_far y e (k.rest ++ z) (letters_append shape k.rest z hk hz) (omega (arith, length-append k.rest z, length-ones sends.bound)) in
      let same : y.to · (k.rest ++ z) ≡ x.to · z = sym (after-append y.to k.rest z) ∙ ap (λ t. t · z) (sym k.is) in
      let one : x.from · z ≡ y.from · (k.rest ++ z) = f.single_back (x.from · z) (y.from · (k.rest ++ z)) (x.to · z) (word_after shape x.to z (row_to x c) hz) first (subst (F (y.from · (k.rest ++ z))) same second) in
      record { rest = k.rest; is = after_cancel_right x.from (y.from · k.rest) z (one ∙ sym (after-append y.from k.rest z)) }

  rows_apart : IsPrefixFree (to_words m)
  rows_apart = AllPairs-map (λ (t : Row). t.to) AreApart m
      (AllPairs-weaker (λ x y. AreApart x.from y.from) (λ x y. AreApart x.to y.to) m (AllPairs-from_map (λ (t : Row). t.from) AreApart m covers.prefix_free)
      (λ x y c e a. ((λ k. a.0 (row_below x y c e k)), (λ k. a.1 (row_below y x e c k)))))

  -- a long word under the rows' `to` words is under W
  rows_to : (u : Word) → IsWordOf shape u → longest (to_words m) + (sends.bound + longest W) ≤ length u.letters → IsUnderSome u (to_words m) → IsUnderSome u W
  rows_to u hu l s =
      let r = contained_in_map (λ (t : Row). t.to) m s.above s.listed in
      let z = s.under.rest in
      let is : u ≡ r.0.to · z = s.under.is ∙ ap (λ t. t · z) (sym r.2) in
      let hz = word_rest shape r.0.to z (subst (IsWordOf shape) is hu) in
      let long : sends.bound ≤ length z = omega (arith, ap (λ (t : Word). length t.letters) is, length-after r.0.to z, longest_bounds (to_words m) r.0.to (Contains-map (λ (t : Row). t.to) m r.0 r.1)) in
      inside_long (f.inside (r.0.from · z) u (word_after shape r.0.from z (row_word r.0 r.1) hz) (subst (F (r.0.from · z)) (sym is) (row_far r.0 r.1 z hz long))).1 (omega arith)

  -- and a long word under W is under them
  rows_onto : (u : Word) → IsWordOf shape u → max f.bound (longest W) + (sends.bound + max (longest (from_words m)) (longest V)) ≤ length u.letters → IsUnderSome u W → IsUnderSome u (to_words m)
  rows_onto u hu l s =
      let t = f.onto u (inside_from_under shape W u hu s) (omega arith) in
      let ht = f.word_back t.0 u hu t.1 in
      let long : sends.bound + max (longest (from_words m)) (longest V) ≤ length t.0.letters = length-came f t.0 u (sends.bound + max (longest (from_words m)) (longest V)) hu t.1 l in
      let r = rows_total shape m V covers t.0 (f.inside t.0 u ht t.1).0 (omega arith) in
      let same : r.0 ≡ u = f.single t.0 r.0 u ht (sends.alike t.0 r.0 ht (omega arith) r.1) t.1 in
      subst (λ w. IsUnderSome w (to_words m)) {x = r.0} {y = u} same (moved_under m t.0 r.0 r.1)

  -- the `to` words of the rows cover W
  pub alike_covers : Covers shape (to_words m) W
  alike_covers =
      let from_size = longest (to_words m) + (sends.bound + longest W) in
      let onto_size = max f.bound (longest W) + (sends.bound + max (longest (from_words m)) (longest V)) in
      covers_from shape (to_words m) W
      (All-from_contains (IsWordOf shape) (to_words m) (λ w c. let r = contained_in_map (λ (t : Row). t.to) m w c in subst (IsWordOf shape) r.2 (row_to r.0 r.1)))
      rows_apart (from_size + onto_size) (λ u hu l. ((λ s. rows_to u hu (omega arith) s), (λ s. rows_onto u hu (omega arith) s)))
