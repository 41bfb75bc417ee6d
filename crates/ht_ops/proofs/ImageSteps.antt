-- An image's rows followed by an element: the blocks of the rows, merged.
use Rattle.std.proofs.Common.{◌≡◌, ℕ, ◌≤◌, ◌+◌, List, [], ◌∷◌, ◌++◌, length, refl, sym, ap, ◌∙◌, subst, arith, All, Contains, map, pos, ◌↔◌}
use Rattle.std.proofs.lemmas.List.{length-append}
use Rattle.std.proofs.lemmas.List.Elements.{All-contains, All-head, All-tail}
use Rattle.ht_word.specs.Words.{IsLetters, IsWordOf, ◌·◌, root_word, IsUnderSome}
use Rattle.ht_word.specs.declared.shape.Shape.{Shape}
use Rattle.ht_word.specs.declared.word.Word.{Word}
use Rattle.ht_word.proofs.ListLaws.{Contains-here, Contains-map, contained_in_map}
use Rattle.ht_word.proofs.WordLaws.{after-append, after_cancel_right, under_after, length-after, letters_append, word_after, word_front, word_rest, ones, ones_letters, length-ones, All-from_contains}
use Rattle.ht_pair.specs.Actions.{Moves, IsReduced}
use Rattle.ht_pair.specs.Bases.{longest, Covers}
use Rattle.ht_pair.specs.Images.{Entry}
use Rattle.ht_pair.specs.Pairs.{IsPair, from_words, to_words}
use Rattle.ht_pair.specs.Tables.{IsTable, IsMergedTable}
use Rattle.ht_pair.specs.ValueLists.{IsValueList, Sends, IsFollowed}
use Rattle.ht_pair.specs.declared.row.Row.{Row}
use Rattle.ht_pair.proofs.BasisLaws.{some_at, longest_bounds, covers_long, covers_from, basis_holds}
use Rattle.ht_pair.proofs.ImageLaws.{row_behind, rows_behind}
use Rattle.ht_pair.proofs.MergeLaws.{merges_cover, merges_each, merges_moves}
use Rattle.ht_pair.proofs.MovesLaws.{moves_single, moves_extends, moves_map}
use Rattle.ht_pair.proofs.ValueListLaws.{root_one, value_table, value_words, table_value, sends_moves, value_covers}
use Rattle.ht_ops.proofs.BlockLaws.{rows_words}
use Rattle.ht_ops.specs.Blocks.{AreBlocks}
use Rattle.ht_ops.specs.ImageRows.{entry_of, entries_of, AreBehindRoot}

-- ---- the rows of an image

-- they are the rows of its entries
pub kept_rows : (p : List Row) → AreBehindRoot p → rows_behind (root_word 1) (entries_of p) ≡ p
unfolding row_behind
kept_rows [] h = refl
kept_rows (row ∷ p) h =
    let root : row.from.root ≡ 1 = All-head (λ (t : Row). t.from.root ≡ 1) row p h in
    let rest : rows_behind (root_word 1) (entries_of p) ≡ p = kept_rows p (All-tail (λ (t : Row). t.from.root ≡ 1) row p h) in
    λ i. record { from = record { root = sym root i; letters = row.from.letters }; to = row.to } ∷ rest i

-- a table where the entries are a value list
pub image_table : (shape : Shape) (p : List Row) (L : List Entry) → AreBehindRoot p → entries_of p ≡ L → IsValueList shape L → IsTable shape p
image_table shape p L behind is value = subst (IsTable shape) (kept_rows p behind) (value_table shape (entries_of p) (subst (IsValueList shape) (sym is) value))

pub image_words : (shape : Shape) (p : List Row) (L : List Entry) → AreBehindRoot p → entries_of p ≡ L → IsValueList shape L → All (IsWordOf shape) (to_words p)
image_words shape p L behind is value = subst (λ (t : List Row). All (IsWordOf shape) (to_words t)) (kept_rows p behind) (value_words shape (entries_of p) (subst (IsValueList shape) (sym is) value))

-- that covers root 1
image_covers : (shape : Shape) (p : List Row) → AreBehindRoot p → IsValueList shape (entries_of p) → Covers shape (from_words p) (root_word 1 ∷ [])
image_covers shape p behind value = subst (λ (t : List Row). Covers shape (from_words t) (root_word 1 ∷ [])) (kept_rows p behind) (value_covers shape (entries_of p) value)

-- ---- blocks of a table that covers a list

-- what the blocks move, the rows and then q move
record MovedBy (p q : List Row) (u w : Word) : Type 0 where
  middle : Word
  first : Moves p u middle
  second : Moves q middle w

blocks_move : (shape : Shape) (q p rows : List Row) → AreBlocks shape q p rows → (u w : Word) → Moves rows u w → MovedBy p q u w
blocks_move shape q p rows h u w m =
    let s = h.parts m.row m.listed in
    record {
      middle = (s.row.to · s.part.rest) · m.rest;
      first = record { row = s.row; rest = s.part.rest ++ m.rest; listed = s.listed; from = m.from ∙ ap (λ t. t · m.rest) s.part.from ∙ after-append s.row.from s.part.rest m.rest; to = after-append s.row.to s.part.rest m.rest };
      second = subst (Moves q ((s.row.to · s.part.rest) · m.rest)) (sym m.to) (moves_extends q (s.row.to · s.part.rest) m.row.to m.rest s.part.moves);
    }

-- the blocks cover what the rows cover
blocks_cover : (shape : Shape) (q p rows : List Row) (V : List Word) → IsPair shape q → All (IsWordOf shape) (to_words p) → AreBlocks shape q p rows → Covers shape (from_words p) V → Covers shape (from_words rows) V
blocks_cover shape q p rows V pair words h covers = covers_from shape (from_words rows) V (rows_words shape p q rows covers.words h) h.prefix_free bound same
  where
    bound : ℕ
    bound = longest (from_words p) + longest V + longest (from_words q)

    up : (u : Word) → IsUnderSome u (from_words rows) → IsUnderSome u (from_words p)
    up u s =
        let g = contained_in_map (λ (t : Row). t.from) rows s.above s.listed in
        let part = h.parts g.0 g.1 in
        some_at (from_words p) part.row.from u (Contains-map (λ (t : Row). t.from) p part.row part.listed) (record {
          rest = part.part.rest ++ s.under.rest;
          is = s.under.is ∙ ap (λ t. t · s.under.rest) (sym g.2 ∙ part.part.from) ∙ after-append part.row.from part.part.rest s.under.rest;
        })

    down : (u : Word) → IsWordOf shape u → bound ≤ length u.letters → IsUnderSome u (from_words p) → IsUnderSome u (from_words rows)
    down u word l s =
        let g = contained_in_map (λ (t : Row). t.from) p s.above s.listed in
        let is : u ≡ g.0.from · s.under.rest = s.under.is ∙ ap (λ t. t · s.under.rest) (sym g.2) in
        let to_word : IsWordOf shape g.0.to = All-contains (IsWordOf shape) (to_words p) g.0.to words (Contains-map (λ (t : Row). t.to) p g.0 g.1) in
        let letters : IsLetters shape s.under.rest = word_rest shape g.0.from s.under.rest (subst (IsWordOf shape) is word) in
        let far : longest (from_words q) ≤ length ((g.0.to · s.under.rest).letters) = omega (
          arith,
          l,
          ap (λ (t : Word). length t.letters) is,
          length-after g.0.from s.under.rest,
          length-after g.0.to s.under.rest,
          longest_bounds (from_words p) g.0.from (Contains-map (λ (t : Row). t.from) p g.0 g.1),
        ) in
        subst (λ t. IsUnderSome t (from_words rows)) (sym is)
        (h.covered g.0 g.1 s.under.rest (basis_holds shape (from_words q) pair.from (g.0.to · s.under.rest) (word_after shape g.0.to s.under.rest to_word letters) far))

    same : (u : Word) → IsWordOf shape u → bound ≤ length u.letters → IsUnderSome u (from_words rows) ↔ IsUnderSome u V
    same u word l =
        let iff = covers_long shape (from_words p) V covers u word (omega (arith, l)) in (
          (λ s. iff.0 (up u s)),
          (λ s. down u word l (iff.1 s)),
        )

-- the blocks' `to` words are of the shape
blocks_words : (shape : Shape) (q p rows : List Row) → IsPair shape q → All (IsWordOf shape) (to_words p) → AreBlocks shape q p rows → (x : Row) → Contains rows x → IsWordOf shape x.to
blocks_words shape q p rows pair words h x c =
    let s = h.parts x c in
    (moves_map shape q pair).ahead.word (s.row.to · s.part.rest) x.to
    (word_after shape s.row.to s.part.rest (All-contains (IsWordOf shape) (to_words p) s.row.to words (Contains-map (λ (t : Row). t.to) p s.row s.listed)) s.part.letters)
    s.part.moves

-- their `from` words have the root 1, and keep it where they are merged
pub merged_behind : (shape : Shape) (q p rows merged : List Row) → AreBehindRoot p → AreBlocks shape q p rows → IsMergedTable shape rows merged → AreBehindRoot merged
merged_behind shape q p rows merged behind h m =
    All-from_contains (λ (row : Row). row.from.root ≡ 1) merged
    (merges_each shape rows merged (λ (row : Row). row.from.root ≡ 1) (λ u v e. e) m.merges
    (λ x c. let s = h.parts x c in ap (λ (t : Word). t.root) s.part.from ∙ All-contains (λ (row : Row). row.from.root ≡ 1) p s.row behind s.listed))

-- ---- the step

merged_value : (shape : Shape) (q p rows merged : List Row) → AreBehindRoot p → IsValueList shape (entries_of p) → IsPair shape q → AreBlocks shape q p rows → IsMergedTable shape rows merged → AreBehindRoot merged → IsValueList shape (entries_of merged)
merged_value shape q p rows merged behind value pair h m root =
    let words = image_words shape p (entries_of p) behind refl value in
    let covers : Covers shape (from_words merged) (root_word 1 ∷ []) = merges_cover shape rows merged (root_word 1 ∷ []) m.merges (blocks_cover shape q p rows (root_word 1 ∷ []) pair words h (image_covers shape p behind value)) in
    let to_words_are : (row : Row) → Contains merged row → IsWordOf shape row.to = merges_each shape rows merged (λ (row : Row). IsWordOf shape row.to) (λ u v w. word_front shape v (1 ∷ []) w) m.merges (blocks_words shape q p rows pair words h) in
    let is = sym (kept_rows merged root) in
    table_value shape (entries_of merged) (subst (IsTable shape) is m.table) (subst (λ (t : List Row). Covers shape (from_words t) (root_word 1 ∷ [])) is covers)
    (subst (λ (t : List Row). (row : Row) → Contains t row → IsWordOf shape row.to) is to_words_are) (subst (IsReduced shape) is m.reduced)

-- the merged blocks follow the image
pub step_followed : (shape : Shape) (q p rows merged : List Row) (L : List Entry) → AreBehindRoot p → entries_of p ≡ L → IsValueList shape L → IsPair shape q → AreBlocks shape q p rows → IsMergedTable shape rows merged
    → IsFollowed shape L q (pos 1) (entries_of merged)
step_followed shape q p rows merged L behind is given pair h m = subst (λ (t : List Entry). IsFollowed shape t q (pos 1) (entries_of merged)) is (record {
  value_list = merged_value shape q p rows merged behind value pair h m root;
  followed = λ t w w' w'' letters s st s'.
      let z = ones (longest (from_words rows)) in
      let u = root_word 1 · (t ++ z) in
      let moved = rows_moved t letters in
      let by = blocks_move shape q p rows h u moved.0 moved.1 in
      let here : w · z ≡ by.middle = moves_single p (image_table shape p (entries_of p) behind refl value).prefix_free u (w · z) by.middle (moves_extends p (root_word 1 · t) w z (kept_moves p behind t w s)) by.first in
      let there : w' · z ≡ moved.0 = moves_single q pair.from.prefix_free (w · z) (w' · z) moved.0 (moves_extends q w w' z (subst (λ v. Moves q v w') (sym st.1) st.2)) (subst (λ v. Moves q v moved.0) (sym here) by.second) in
      let last : w'' · z ≡ moved.0 = moves_single merged m.table.prefix_free u (w'' · z) moved.0 (moves_extends merged (root_word 1 · t) w'' z (kept_moves merged root t w'' s')) (merges_moves shape rows merged m.merges u moved.0 moved.1) in
      after_cancel_right w' w'' z (there ∙ sym last);
})
  where
    value : IsValueList shape (entries_of p)
    value = subst (IsValueList shape) (sym is) given

    root : AreBehindRoot merged
    root = merged_behind shape q p rows merged behind h m

    kept_moves : (p : List Row) → AreBehindRoot p → (t : List ℕ) (w : Word) → Sends (entries_of p) t w → Moves p (root_word 1 · t) w
    kept_moves p behind t w s = subst (λ (r : List Row). Moves r (root_word 1 · t) w) (kept_rows p behind) (sends_moves (entries_of p) t w s)

    covers : Covers shape (from_words rows) (root_word 1 ∷ [])
    covers = blocks_cover shape q p rows (root_word 1 ∷ []) pair (image_words shape p (entries_of p) behind refl value) h (image_covers shape p behind value)

    rows_moved : (t : List ℕ) → IsLetters shape t → (v : Word) × Moves rows (root_word 1 · (t ++ ones (longest (from_words rows)))) v
    rows_moved t letters =
        let y = t ++ ones (longest (from_words rows)) in
        let u = root_word 1 · y in
        let word = word_after shape (root_word 1) y (root_one shape) (letters_append shape t (ones (longest (from_words rows))) letters (ones_letters shape (longest (from_words rows)))) in
        let s = (covers_long shape (from_words rows) (root_word 1 ∷ []) covers u word (omega (arith, length-append t (ones (longest (from_words rows))), length-ones (longest (from_words rows))))).1
        (some_at (root_word 1 ∷ []) (root_word 1) u (Contains-here (root_word 1) []) (under_after (root_word 1) y)) in
        let g = contained_in_map (λ (r : Row). r.from) rows s.above s.listed in
        (g.0.to · s.under.rest, record { row = g.0; rest = s.under.rest; listed = g.1; from = s.under.is ∙ ap (λ v. v · s.under.rest) (sym g.2); to = refl })

-- ---- the rows under another word

-- the row from u and the letters of a `from` word
abbrev pub moved_under : Word → Row → Row
moved_under u row = record { from = u · row.from.letters; to = row.to }

-- the row from u and the letters of an entry
abbrev pub entry_under : Word → Entry → Row
entry_under u e = record { from = u · e.letters; to = e.word }

-- the rows of the entries are those of the kept rows
pub rows_under : (u : Word) (p : List Row) → map (moved_under u) p ≡ map (entry_under u) (entries_of p)
rows_under u [] = refl
rows_under u (row ∷ p) = ap (λ (t : List Row). moved_under u row ∷ t) (rows_under u p)

-- rows from root 1 with the letters have the root 1
pub copied_behind : (u : Word) (given rows : List Row) → u ≡ root_word 1 → rows ≡ map (moved_under u) given → AreBehindRoot rows
copied_behind u given rows root is = All-from_contains (λ (row : Row). row.from.root ≡ 1) rows (λ x c.
    let g = contained_in_map (moved_under u) given x (subst (λ (t : List Row). Contains t x) is c) in
    ap (λ (t : Row). t.from.root) (sym g.2) ∙ ap (λ (w : Word). w.root) root)

-- and the same entries
entries_copied : (p : List Row) → entries_of (map (moved_under (root_word 1)) p) ≡ entries_of p
entries_copied [] = refl
entries_copied (row ∷ p) = ap (λ (t : List Entry). entry_of row ∷ t) (entries_copied p)

pub copied : (u : Word) (p given rows : List Row) (L : List Entry) → u ≡ root_word 1 → given ≡ p → entries_of p ≡ L → rows ≡ map (moved_under u) given → entries_of rows ≡ L
copied u p given rows L root same view is = ap (λ (t : List Row). entries_of t) (is ∙ (λ i. map (moved_under (root i)) (same i))) ∙ entries_copied p ∙ view
