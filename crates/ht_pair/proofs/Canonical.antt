-- All merges made along the rows of a table; those of a pair make its canonical pair.
use Rattle.std.proofs.Common.{◌≤◌, ℕ, List, [], ◌∷◌, ◌++◌, map, sym, subst, append_assoc, append-nil, arith, Contains, IsPermutation}
use Rattle.std.proofs.lemmas.List.Elements.{All-contains, Contains-append_left}
use Rattle.std.proofs.lemmas.List.Sorted.{Contains-permutation, IsPermutation-sym, length_permutation}
use Rattle.ht_word.specs.declared.word.Word.{Word}
use Rattle.ht_word.specs.declared.shape.Shape.{Shape}
use Rattle.ht_word.specs.Words.{IsWordOf, IsAscending}
use Rattle.ht_word.proofs.ListLaws.{Contains-nil, Contains-map, contained_in_map, AllPairs-map, AllPairs-from_map}
use Rattle.ht_pair.specs.declared.row.Row.{Row}
use Rattle.ht_pair.specs.Bases.{longest}
use Rattle.ht_pair.specs.Pairs.{IsPair, from_words}
use Rattle.ht_pair.specs.Actions.{Moves, child_row, IsReduced, IsCanonicalFor}
use Rattle.ht_pair.specs.Merges.{Merges, IsAdded, IsReducedOf}
use Rattle.ht_pair.specs.Merges.Merges.{unmerged}
use Rattle.ht_pair.specs.Sizes.{IsLarge}
use Rattle.ht_pair.specs.Tables.{IsTable, IsMergedTable}
use Rattle.ht_pair.proofs.BasisLaws.{longest_bounds, longest_least}
use Rattle.ht_pair.proofs.ConeOrder.{IsBefore, all_before, before_free, before_ascending}
use Rattle.ht_pair.proofs.Siblings.{AreOrdered, ordered_words, ordered_front}
use Rattle.ht_pair.proofs.Carets.{still_reduced}
use Rattle.ht_pair.proofs.MergeLaws.{merges_ordered, merges_pair, merges_fewer, merges_shorter, merges_moves, merges_then, merges_behind}
use Rattle.ht_pair.proofs.MovesLaws.{moves_single}

-- the rows of a table are in order of cones
pub ordered_table : (shape : Shape) (p : List Row) → IsTable shape p → AreOrdered shape p
ordered_table shape p h = record {
  words = λ row c. All-contains (IsWordOf shape) (from_words p) row.from h.words (Contains-map (λ (t : Row). t.from) p row c);
  before = AllPairs-from_map (λ (t : Row). t.from) IsBefore p (all_before (from_words p) h.prefix_free h.ascending);
}

-- and the other way round
pub table_ordered : (shape : Shape) (p : List Row) → AreOrdered shape p → IsTable shape p
table_ordered shape p h =
    let before = AllPairs-map (λ (t : Row). t.from) IsBefore p h.before in
    record { words = ordered_words shape p h; prefix_free = before_free (from_words p) before; ascending = before_ascending (from_words p) before }

-- an ascending pair is a table
pub pair_table : (shape : Shape) (p : List Row) → IsPair shape p → IsAscending (from_words p) → IsTable shape p
pair_table shape p pair ascending = record { words = pair.from.words; prefix_free = pair.from.prefix_free; ascending = ascending }

-- the rows up to the rest have been merged
pub record AreMergedUpTo (shape : Shape) (rows done rest : List Row) : Type 0 where
  pub merges : Merges shape rows (done ++ rest)
  pub reduced : IsReduced shape done

-- before the first row
pub none_merged : (shape : Shape) (rows : List Row) → AreMergedUpTo shape rows [] rows
none_merged shape rows = record { merges = unmerged; reduced = λ u v all. Contains-nil (child_row u v 1) (all 1 (omega arith) (omega (arith, shape.letters_low))) }

-- and after one more row
pub one_more_merged : (shape : Shape) (rows done rest added : List Row) (row : Row) → AreOrdered shape rows → AreMergedUpTo shape rows done (row ∷ rest) → IsAdded shape done row added → AreMergedUpTo shape rows added rest
one_more_merged shape rows done rest added row ordered h step =
    let before : Merges shape rows ((done ++ row ∷ []) ++ rest) = subst (Merges shape rows) (sym (append_assoc done (row ∷ []) rest)) h.merges in
    let after : Merges shape ((done ++ row ∷ []) ++ rest) (added ++ rest) = merges_behind shape (done ++ row ∷ []) added rest (subst (Merges shape (done ++ row ∷ [])) (sym step.added_is) step.down.merges) in
    let merges : Merges shape rows (added ++ rest) = merges_then shape rows ((done ++ row ∷ []) ++ rest) (added ++ rest) before after in
    let all_ordered : AreOrdered shape added = ordered_front shape added rest (merges_ordered shape rows (added ++ rest) merges ordered) in
    let front_reduced : IsReduced shape step.front = λ u v all. h.reduced u v (λ a low high. subst (λ t. Contains t (child_row u v a)) (sym step.down.rows_are) (Contains-append_left step.front step.down.taken (child_row u v a) (all a low high))) in
    record {
      merges = merges;
      reduced = subst (IsReduced shape) (sym step.added_is) (still_reduced shape step.front step.last (subst (AreOrdered shape) step.added_is all_ordered) front_reduced step.open_end);
    }

-- where all rows have been merged, they are a reduced table
pub all_merged : (shape : Shape) (p q : List Row) → AreOrdered shape p → AreMergedUpTo shape p q [] → IsMergedTable shape p q
all_merged shape p q before h =
    let merges : Merges shape p q = subst (Merges shape p) (append-nil q) h.merges in
    record { merges = merges; table = table_ordered shape q (merges_ordered shape p q merges before); reduced = h.reduced }

-- which is the canonical pair, where the rows are a pair
pub merged_pair : (shape : Shape) (p q : List Row) → IsPair shape p → IsMergedTable shape p q → IsReducedOf shape p q
merged_pair shape p q pair h = record {
  canonical = record {
    form = record { pair = merges_pair shape p q h.merges pair; reduced = h.reduced; ascending = h.table.ascending };
    alike = λ w v v' k m m'. moves_single q h.table.prefix_free w v v' m (merges_moves shape p q h.merges w v' m');
  };
  fewer = merges_fewer shape p q h.merges;
  shorter = merges_shorter shape p q h.merges;
}

-- ---- rows in another order

moves_permuted : (p q : List Row) → IsPermutation p q → (w t : Word) → Moves p w t → Moves q w t
moves_permuted p q perm w t m = record { row = m.row; rest = m.rest; listed = Contains-permutation p q m.row perm m.listed; from = m.from; to = m.to }

-- some of the rows have no longer words
pub longest_within : (side : Row → Word) (p q : List Row) → ((row : Row) → Contains q row → Contains p row) → longest (map side q) ≤ longest (map side p)
longest_within side p q listed = longest_least (map side q) (longest (map side p)) (λ w c.
    let g = contained_in_map side q w c in
    longest_bounds (map side p) w (subst (Contains (map side p)) g.2 (Contains-map side p g.0 (listed g.0 g.1))))

-- the canonical pair of rows is that of the rows in another order
pub canonical_permuted : (shape : Shape) (rows sorted q : List Row) → IsPermutation rows sorted → IsCanonicalFor shape q sorted → IsCanonicalFor shape q rows
canonical_permuted shape rows sorted q perm h = record { form = h.form; alike = λ w v v' k m m'. h.alike w v v' k m (moves_permuted rows sorted perm w v' m') }

pub reduced_permuted : (shape : Shape) (rows sorted q : List Row) → IsPermutation rows sorted → IsReducedOf shape sorted q → IsReducedOf shape rows q
reduced_permuted shape rows sorted q perm h =
    let listed = λ (row : Row) (c : Contains sorted row). Contains-permutation sorted rows row (IsPermutation-sym rows sorted perm) c in
    record {
      canonical = canonical_permuted shape rows sorted q perm h.canonical;
      fewer = omega (arith, h.fewer, length_permutation rows sorted perm);
      shorter = omega (arith, h.shorter, longest_within (λ row. row.from) rows sorted listed, longest_within (λ row. row.to) rows sorted listed);
    }

-- so rows in another order are large together
pub large_permuted : (shape : Shape) (rows sorted : List Row) (count letters : ℕ) → IsPermutation rows sorted → IsLarge shape sorted count letters → IsLarge shape rows count letters
large_permuted shape rows sorted count letters perm h = (record { canonical = h.0.canonical; is_canonical = canonical_permuted shape rows sorted h.0.canonical perm h.0.is_canonical; rows_is = h.0.rows_is; letters_is = h.0.letters_is }, h.1)
