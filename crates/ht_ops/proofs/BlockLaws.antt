-- The blocks of a product, and the pair that they make together.
use Rattle.std.proofs.Common.{◌≡◌, ℕ, suc, ◌<◌, ◌+◌, drop-cons, add-one, inl, inr, List, [], ◌∷◌, ◌++◌, length, map, drop, refl, sym, ap, ◌∙◌, subst, subst₂, arith, All, AllPairs, Contains, ◌↔◌, append_assoc, append-nil, get_or, slice_get, Some}
use Rattle.std.proofs.lemmas.List.{nil_from_length}
use Rattle.std.proofs.lemmas.Option.{slice_get_within}
use Rattle.std.proofs.lemmas.List.Elements.{All-contains, All-nil, Contains-append_left, Contains-append_right, Contains-append_cases}
use Rattle.ht_word.specs.declared.word.Word.{Word}
use Rattle.ht_word.specs.declared.shape.Shape.{Shape}
use Rattle.ht_word.specs.Words.{◌·◌, IsLetter, IsWordOf, IsUnder, IsUnderSome, IsAscending}
use Rattle.ht_word.proofs.WordLaws.{after-append, after-nil, after_cancel, under_after, under_both, word_after, word_rest, All-from_contains}
use Rattle.ht_word.proofs.ListLaws.{Contains-nil, Contains-here, Contains-cons_cases, Contains-map, contained_in_map, AllPairs-nil, AllPairs-cons, AllPairs-append, AllPairs-left, AllPairs-right, AllPairs-across, AllPairs-map, AllPairs-from_map, AllPairs-weaker}
use Rattle.ht_pair.specs.declared.row.Row.{Row}
use Rattle.ht_pair.specs.Bases.{AreApart, IsPrefixFree, longest, IsBasis}
use Rattle.ht_pair.specs.Pairs.{IsPair, from_words}
use Rattle.ht_pair.specs.Actions.{Moves}
use Rattle.ht_pair.specs.Tables.{IsTable}
use Rattle.ht_pair.specs.Products.{IsProduct}
use Rattle.ht_pair.proofs.Canonical.{ordered_table}
use Rattle.ht_pair.proofs.ConeOrder.{IsBefore, before_extended, before_behind, all_before, before_free, before_ascending}
use Rattle.ht_pair.proofs.BasisLaws.{some_at, basis_holds, basis_word, basis_from}
use Rattle.ht_pair.proofs.MovesLaws.{moves_map, moves_single}
use Rattle.ht_pair.proofs.PrefixMapLaws.{Then, then_map, IsPrefixMap, RowsOf, length-carried, rows_basis, rows_move}
use Rattle.ht_pair.proofs.ProductLaws.{product_of}
use Rattle.ht_pair.proofs.RowSearch.{letters_behind}
use Rattle.ht_ops.proofs.RunLaws.{read_same}
use Rattle.ht_ops.specs.Blocks.IsGiven.{whole, by_run}
use Rattle.ht_ops.specs.Blocks.{IsPartOf, IsBlock, IsGiven, HasGiven, AreBlocks, IsFullProduct, IsRun, moved_by, carried_by}

-- the cone of the first row's `from` word is before that of the second's
abbrev IsRowBefore : Row → Row → Type 0
IsRowBefore x y = IsBefore x.from y.from

-- ---- one block

-- a list of one word is in order
one_before : (u : Word) → AllPairs IsBefore (u ∷ [])
one_before u = AllPairs-cons IsBefore u [] (λ i d l. absurd (omega arith)) (AllPairs-nil IsBefore)

-- a row of q that moves all that the row gives
pub moved_block : (shape : Shape) (q : List Row) (row other : Row) → Contains q other → IsUnder row.to other.from → IsBlock shape q row (moved_by row other ∷ [])
moved_block shape q row other listed under = record {
  parts = λ x c. elim (Contains-cons_cases (moved_by row other) [] x c) [
    | inl e ↦ subst (IsPartOf shape q row) e (record {
      rest = [];
      letters = All-nil (IsLetter shape);
      from = sym (after-nil row.from);
      moves = record { row = other; rest = drop (length other.from.letters) row.to.letters; listed = listed; from = after-nil row.to ∙ letters_behind other.from row.to under; to = refl };
    })
    | inr n ↦ absurd (Contains-nil x n)
  ];
  prefix_free = before_free (row.from ∷ []) (one_before row.from);
  ascending = before_ascending (row.from ∷ []) (one_before row.from);
  covered = λ z s. some_at (row.from ∷ []) row.from (row.from · z) (Contains-here row.from []) (under_after row.from z);
}

-- what is under behind one word is so behind another
swap_under : (u t : Word) (y z : List ℕ) → IsUnder (u · y) (u · z) → IsUnder (t · y) (t · z)
swap_under u t y z h = record { rest = h.rest; is = ap (λ s. t · s) (after_cancel u y (z ++ h.rest) (h.is ∙ after-append u z h.rest)) ∙ sym (after-append t z h.rest) }

-- of two rows one is before the other also where they are carried over
carried_before : (row x y : Row) → IsUnder x.from row.to → IsUnder y.from row.to → IsBefore x.from y.from → IsBefore (carried_by row x).from (carried_by row y).from
carried_before row x y h g before =
    before_behind row.to row.from (drop (length row.to.letters) x.from.letters) (drop (length row.to.letters) y.from.letters) (subst₂ IsBefore (letters_behind row.to x.from h) (letters_behind row.to y.from g) before)

-- a row of q that moves some of what the row gives
run_part : (shape : Shape) (q : List Row) (row other : Row) → Contains q other → IsWordOf shape other.from → IsUnder other.from row.to → IsPartOf shape q row (carried_by row other)
run_part shape q row other listed word under =
    let rest = drop (length row.to.letters) other.from.letters in
    let is : other.from ≡ row.to · rest = letters_behind row.to other.from under in
    record {
      rest = rest;
      letters = word_rest shape row.to rest (subst (IsWordOf shape) is word);
      from = refl;
      moves = record { row = other; rest = []; listed = listed; from = sym is ∙ sym (after-nil other.from); to = sym (after-nil other.to) };
    }

-- the rows of a run are rows
pub run_listed : (q : List Row) (w : Word) (run : List Row) (r : IsRun q w run) (x : Row) → Contains run x → Contains q x
run_listed q w run r x c = subst (λ (t : List Row). Contains t x) (sym r.are) (Contains-append_right r.before (run ++ r.behind) x (Contains-append_left run r.behind x c))

-- the rows of a run are carried over in order
pub run_before : (q : List Row) (row : Row) (run : List Row) → AllPairs IsBefore (from_words q) → IsRun q row.to run → AllPairs IsBefore (from_words (map (carried_by row) run))
run_before q row run before r =
    let here : AllPairs IsRowBefore run = AllPairs-left IsRowBefore run r.behind (AllPairs-right IsRowBefore r.before (run ++ r.behind) (subst (AllPairs IsRowBefore) r.are (AllPairs-from_map (λ (t : Row). t.from) IsBefore q before))) in
    AllPairs-map (λ (t : Row). t.from) IsBefore (map (carried_by row) run)
    (AllPairs-map (carried_by row) IsRowBefore run
    (AllPairs-weaker IsRowBefore (λ (x : Row) (y : Row). IsRowBefore (carried_by row x) (carried_by row y)) run here (λ x y c e b. carried_before row x y (r.under x c) (r.under y e) b)))

-- what q moves of what the row gives is moved by a row that is carried over
run_covers : (q : List Row) (row : Row) (run : List Row) → IsRun q row.to run → ((v : Word) → ¬ Moves q row.to v) → (z : List ℕ) → IsUnderSome (row.to · z) (from_words q) → IsUnderSome (row.from · z) (from_words (map (carried_by row) run))
run_covers q row run r none z s =
    let g = contained_in_map (λ (t : Row). t.from) q s.above s.listed in
    let other = g.0 in
    let under : IsUnder (row.to · z) other.from = subst (IsUnder (row.to · z)) (sym g.2) s.under in
    elim (under_both under (under_after row.to z)) [
      | inl k ↦ some_at (from_words (map (carried_by row) run)) (carried_by row other).from (row.from · z)
          (Contains-map (λ (t : Row). t.from) (map (carried_by row) run) (carried_by row other) (Contains-map (carried_by row) run other (r.all other g.1 k)))
          (swap_under row.to row.from z (drop (length row.to.letters) other.from.letters) (subst (IsUnder (row.to · z)) (letters_behind row.to other.from k) under))
      | inr k ↦ absurd (none (other.to · k.rest) (record { row = other; rest = k.rest; listed = g.1; from = k.is; to = refl }))
    ]

-- the rows below what the row gives, where no row is above it
pub run_block : (shape : Shape) (q : List Row) (row : Row) (run : List Row) → IsBasis shape (from_words q) → IsAscending (from_words q) → IsRun q row.to run → ((v : Word) → ¬ Moves q row.to v) → IsBlock shape q row (map (carried_by row) run)
run_block shape q row run basis ascending r none = record {
  parts = λ x c.
      let g = contained_in_map (carried_by row) run x c in
      let listed = run_listed q row.to run r g.0 g.1 in
      subst (IsPartOf shape q row) g.2 (run_part shape q row g.0 listed (basis_word shape (from_words q) basis g.0.from (Contains-map (λ (t : Row). t.from) q g.0 listed)) (r.under g.0 g.1));
  prefix_free = before_free (from_words (map (carried_by row) run)) before;
  ascending = before_ascending (from_words (map (carried_by row) run)) before;
  covered = run_covers q row run r none;
}
  where
    before : AllPairs IsBefore (from_words (map (carried_by row) run))
    before = run_before q row run (all_before (from_words q) basis.prefix_free ascending) r

-- the rows that the row gives are its block
given_block : (shape : Shape) (q : List Row) (row : Row) (block : List Row) → IsBasis shape (from_words q) → IsAscending (from_words q) → IsGiven q row block → IsBlock shape q row block
given_block shape q row block basis ascending (whole other listed under is) = subst (IsBlock shape q row) (sym is) (moved_block shape q row other listed under)
given_block shape q row block basis ascending (by_run run r none is) = subst (IsBlock shape q row) (sym is) (run_block shape q row run basis ascending r none)

-- one row is added
pub moved_added : (q : List Row) (row other x : Row) (place : ℕ) (old new : List Row) → other ≡ get_or q place other
    → ((r : Row) × (slice_get q place ≡ Some r) × IsUnder row.to r.from) → x ≡ moved_by row other → new ≡ old ++ x ∷ [] → HasGiven q row old new
moved_added q row other x place old new is found x_is new_is =
    let inside = slice_get_within q place found.0 found.1 in
    let one : found.0 ≡ other = read_same q place other found.0 inside is found.1 in
    record {
      block = moved_by row other ∷ [];
      given = whole other (place, inside, sym is) (subst (λ (t : Row). IsUnder row.to t.from) one found.2) refl;
      added = new_is ∙ ap (λ (t : Row). old ++ t ∷ []) x_is;
    }

-- a row for each of a run is added
pub run_added : (q : List Row) (row : Row) (run old new : List Row) → IsRun q row.to run → ((v : Word) → ¬ Moves q row.to v) → new ≡ old ++ map (carried_by row) run → HasGiven q row old new
run_added q row run old new r none is = record { block = map (carried_by row) run; given = by_run run r none refl; added = is }

-- ---- all blocks

-- the blocks of the rows before the rest
pub record AreBlocksUpTo (shape : Shape) (p q rows rest : List Row) : Type 0 where
  pub done : List Row
  pub are : p ≡ done ++ rest
  pub blocks : AreBlocks shape q done rows

-- a word under some of the rows is under some of more rows
some_more : (rows more : List Row) (u : Word) → ((x : Row) → Contains rows x → Contains more x) → IsUnderSome u (from_words rows) → IsUnderSome u (from_words more)
some_more rows more u within s =
    let g = contained_in_map (λ (t : Row). t.from) rows s.above s.listed in
    some_at (from_words more) g.0.from u (Contains-map (λ (t : Row). t.from) more g.0 (within g.0 g.1)) (subst (IsUnder u) (sym g.2) s.under)

-- a part of a row is under it
part_under : (shape : Shape) (q : List Row) (row x : Row) → IsPartOf shape q row x → IsUnder x.from row.from
part_under shape q row x h = record { rest = h.rest; is = h.from }

-- the rows of a block and of blocks are in order of cones
blocks_before : (shape : Shape) (q p rows : List Row) → AreBlocks shape q p rows → AllPairs IsRowBefore rows
blocks_before shape q p rows h = AllPairs-from_map (λ (t : Row). t.from) IsBefore rows (all_before (from_words rows) h.prefix_free h.ascending)

-- and stay so with one more block behind them
added_before : (shape : Shape) (q done rows block : List Row) (row : Row) → ((x : Row) → Contains done x → IsRowBefore x row) → AreBlocks shape q done rows → IsBlock shape q row block → AllPairs IsBefore (from_words (rows ++ block))
added_before shape q done rows block row before h b =
    AllPairs-map (λ (t : Row). t.from) IsBefore (rows ++ block)
    (AllPairs-append IsRowBefore rows block (blocks_before shape q done rows h) (AllPairs-from_map (λ (t : Row). t.from) IsBefore block (all_before (from_words block) b.prefix_free b.ascending))
    (λ x y c e.
    let s = h.parts x c in
    let t = b.parts y e in
    subst₂ IsBefore (sym s.part.from) (sym t.from) (before_extended s.row.from row.from s.part.rest t.rest (before s.row s.listed))))

-- one more block behind the others
block_added : (shape : Shape) (q done rows block : List Row) (row : Row) → ((x : Row) → Contains done x → IsRowBefore x row) → AreBlocks shape q done rows → IsBlock shape q row block → AreBlocks shape q (done ++ row ∷ []) (rows ++ block)
block_added shape q done rows block row before h b = record {
  parts = λ x c. elim (Contains-append_cases rows block x c) [
    | inl k ↦ (let s = h.parts x k in record { row = s.row; listed = Contains-append_left done (row ∷ []) s.row s.listed; part = s.part })
    | inr k ↦ record { row = row; listed = Contains-append_right done (row ∷ []) row (Contains-here row []); part = b.parts x k }
  ];
  prefix_free = before_free (from_words (rows ++ block)) (added_before shape q done rows block row before h b);
  ascending = before_ascending (from_words (rows ++ block)) (added_before shape q done rows block row before h b);
  covered = λ r c z s. elim (Contains-append_cases done (row ∷ []) r c) [
    | inl k ↦ some_more rows (rows ++ block) (r.from · z) (λ x e. Contains-append_left rows block x e) (h.covered r k z s)
    | inr k ↦ elim (Contains-cons_cases row [] r k) [
      | inl e ↦ subst (λ (t : Row). IsUnderSome (t.from · z) (from_words (rows ++ block))) e
          (some_more block (rows ++ block) (row.from · z) (λ x e. Contains-append_right rows block x e) (b.covered z (subst (λ (t : Row). IsUnderSome (t.to · z) (from_words q)) (sym e) s)))
      | inr n ↦ absurd (Contains-nil r n)
    ]
  ];
}

-- before the first row
pub no_blocks : (shape : Shape) (p q rows : List Row) → rows ≡ [] → AreBlocksUpTo shape p q rows p
no_blocks shape p q rows none = record {
  done = [];
  are = refl;
  blocks = record {
    parts = λ x c. absurd (Contains-nil x (subst (λ (t : List Row). Contains t x) none c));
    prefix_free = subst (λ (t : List Row). IsPrefixFree (from_words t)) (sym none) (AllPairs-nil AreApart);
    ascending = before_ascending (from_words rows) (subst (λ (t : List Row). AllPairs IsBefore (from_words t)) (sym none) (AllPairs-nil IsBefore));
    covered = λ row c. absurd (Contains-nil row c);
  };
}

-- the next row's block comes behind the others
pub one_more_block : (shape : Shape) (p q rows rest new : List Row) (row : Row) → IsTable shape p → IsBasis shape (from_words q) → IsAscending (from_words q) → AreBlocksUpTo shape p q rows (row ∷ rest) → HasGiven q row rows new
    → AreBlocksUpTo shape p q new rest
one_more_block shape p q rows rest new row table basis ascending h step = record {
  done = h.done ++ row ∷ [];
  are = h.are ∙ sym (append_assoc h.done (row ∷ []) rest);
  blocks = subst (AreBlocks shape q (h.done ++ row ∷ [])) (sym step.added) (block_added shape q h.done rows step.block row before h.blocks (given_block shape q row step.block basis ascending step.given));
}
  where
    before : (x : Row) → Contains h.done x → IsRowBefore x row
    before x c = AllPairs-across IsRowBefore h.done (row ∷ rest) (subst (AllPairs IsRowBefore) h.are (ordered_table shape p table).before) x row c (Contains-here row rest)

-- where no rows are left, they are the blocks of all rows
pub all_blocks : (shape : Shape) (p q rows items : List Row) → length items ≡ 0 → AreBlocksUpTo shape p q rows items → AreBlocks shape q p rows
all_blocks shape p q rows items none h =
    let all : h.done ≡ p = sym (append-nil h.done) ∙ ap (λ (t : List Row). h.done ++ t) (sym (nil_from_length items none)) ∙ sym h.are in
    subst (λ (t : List Row). AreBlocks shape q t rows) all h.blocks

-- the rows from a place on
pub next_row : (rows : List Row) (place : ℕ) (row : Row) → place < length rows → row ≡ get_or rows place row → drop place rows ≡ row ∷ drop (place + 1) rows
next_row rows place row l is = drop-cons rows place row l ∙ ap (λ (t : Row). t ∷ drop (suc place) rows) (sym is) ∙ ap (λ k. row ∷ drop k rows) (sym (add-one place))

-- ---- the product

-- the rows of the blocks move words as p and then q do
rows_then : (shape : Shape) (p q rows : List Row) → AreBlocks shape q p rows → RowsOf (Then (Moves p) (Moves q)) (from_words rows)
rows_then shape p q rows h = record {
  rows = rows;
  from_is = refl;
  by = λ x c.
      let s = h.parts x c in
      record { middle = s.row.to · s.part.rest; first = record { row = s.row; rest = s.part.rest; listed = s.listed; from = s.part.from; to = refl }; second = s.part.moves };
}

-- their `from` words are of the shape
pub rows_words : (shape : Shape) (p q rows : List Row) → All (IsWordOf shape) (from_words p) → AreBlocks shape q p rows → All (IsWordOf shape) (from_words rows)
rows_words shape p q rows words h = All-from_contains (IsWordOf shape) (from_words rows) (λ w c.
    let g = contained_in_map (λ (t : Row). t.from) rows w c in
    let s = h.parts g.0 g.1 in
    subst (IsWordOf shape) (sym s.part.from ∙ g.2) (word_after shape s.row.from s.part.rest (All-contains (IsWordOf shape) (from_words p) s.row.from words (Contains-map (λ (t : Row). t.from) p s.row s.listed)) s.part.letters))

-- the blocks of a table are a table
pub blocks_table : (shape : Shape) (p q rows : List Row) → IsTable shape p → AreBlocks shape q p rows → IsTable shape rows
blocks_table shape p q rows table h = record { words = rows_words shape p q rows table.words h; prefix_free = h.prefix_free; ascending = h.ascending }

-- and a basis
from_basis : (shape : Shape) (p q rows : List Row) → IsPair shape p → IsPair shape q → AreBlocks shape q p rows → IsBasis shape (from_words rows)
from_basis shape p q rows pair_p pair_q h =
    let m = (moves_map shape p pair_p).ahead in
    basis_from shape (from_words rows) (rows_words shape p q rows pair_p.from.words h) h.prefix_free
    (m.bound + longest (from_words q))
    (λ u word long.
    let v = m.total u word (omega arith) in
    let s = basis_holds shape (from_words q) pair_q.from v.0 (m.word u v.0 word v.1) (length-carried shape (Moves p) m u v.0 (longest (from_words q)) word long v.1) in
    subst (λ t. IsUnderSome t (from_words rows)) (sym v.1.from) (h.covered v.1.row v.1.listed v.1.rest (subst (λ t. IsUnderSome t (from_words q)) v.1.to s)))

-- the blocks of all rows of p are the product
pub blocks_product : (shape : Shape) (p q rows : List Row) → IsPair shape p → IsPair shape q → AreBlocks shape q p rows → IsProduct shape p q rows
unfolding rows_then
blocks_product shape p q rows pair_p pair_q h =
    let F = Then (Moves p) (Moves q) in
    let m : IsPrefixMap shape F = then_map shape (Moves p) (Moves q) (moves_map shape p pair_p) (moves_map shape q pair_q) in
    let r = rows_then shape p q rows h in
    let from = from_basis shape p q rows pair_p pair_q h in
    product_of shape p q pair_p pair_q (record {
      rows = rows;
      pair = record { from = from; to = rows_basis shape F m (longest (from_words rows)) (from_words rows) from (omega arith) r };
      by = rows_move shape F m.ahead (from_words rows) r;
    })

-- the blocks move what p moves to a word that q moves
blocks_move : (shape : Shape) (p q rows : List Row) → IsPair shape p → IsPair shape q → AreBlocks shape q p rows → (u w : Word) → Moves rows u w ↔ ((v : Word) × Moves p u v × Moves q v w)
unfolding rows_then
blocks_move shape p q rows pair_p pair_q h u w = (there u w, back)
  where
    there : (u w : Word) → Moves rows u w → (v : Word) × Moves p u v × Moves q v w
    there u w m =
        let F = Then (Moves p) (Moves q) in
        let t = rows_move shape F (then_map shape (Moves p) (Moves q) (moves_map shape p pair_p) (moves_map shape q pair_q)).ahead (from_words rows) (rows_then shape p q rows h) u w m in
        (t.middle, t.first, t.second)

    back : (v : Word) × Moves p u v × Moves q v w → Moves rows u w
    back t =
        let first = t.1 in
        let second = t.2 in
        let some : IsUnderSome (first.row.to · first.rest) (from_words q) = subst (λ x. IsUnderSome x (from_words q)) first.to (some_at (from_words q) second.row.from t.0 (Contains-map (λ (r : Row). r.from) q second.row second.listed) (record { rest = second.rest; is = second.from })) in
        let s = subst (λ x. IsUnderSome x (from_words rows)) (sym first.from) (h.covered first.row first.listed first.rest some) in
        let g = contained_in_map (λ (r : Row). r.from) rows s.above s.listed in
        let moved : Moves rows u (g.0.to · s.under.rest) = record { row = g.0; rest = s.under.rest; listed = g.1; from = s.under.is ∙ ap (λ x. x · s.under.rest) (sym g.2); to = refl } in
        let by = there u (g.0.to · s.under.rest) moved in
        let middle : by.0 ≡ t.0 = moves_single p pair_p.from.prefix_free u by.0 t.0 by.1 first in
        subst (Moves rows u) (moves_single q pair_q.from.prefix_free t.0 (g.0.to · s.under.rest) w (subst (λ x. Moves q x (g.0.to · s.under.rest)) middle by.2) second) moved

-- so they are the product that moves all that it can
pub blocks_full : (shape : Shape) (p q rows : List Row) → IsPair shape p → IsPair shape q → AreBlocks shape q p rows → IsFullProduct shape p q rows
blocks_full shape p q rows pair_p pair_q h = record {
  product = blocks_product shape p q rows pair_p pair_q h;
  moves = blocks_move shape p q rows pair_p pair_q h;
  ascending = h.ascending;
}
