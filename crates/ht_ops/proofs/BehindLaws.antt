-- What an image is behind letters: the entries below them without these letters, or one entry where one is above them.
use Rattle.std.proofs.Common.{◌≡◌, ◌↔◌, ℕ, ◌≤◌, inl, inr, List, [], ◌∷◌, ◌++◌, length, drop, map, refl, sym, ap, ◌∙◌, subst, subst₂, arith, append_assoc, All, AllPairs, Contains}
use Rattle.std.proofs.Math.Seq.{drop-append_seam}
use Rattle.std.proofs.lemmas.List.{length-append}
use Rattle.std.proofs.lemmas.List.Elements.{All-contains}
use Rattle.std.specs.declared.cmp.Ordering.TheVariants.{Less}
use Rattle.ht_word.specs.Words.{IsLetters, IsWordOf, ◌·◌, child, root_word, word_cmp, IsUnder, IsUnderSome}
use Rattle.ht_word.specs.declared.shape.Shape.{Shape}
use Rattle.ht_word.specs.declared.word.Word.{Word}
use Rattle.ht_word.proofs.ListLaws.{Contains-nil, Contains-here, Contains-cons_cases, Contains-map, contained_in_map, AllPairs-from_map}
use Rattle.ht_word.proofs.WordLaws.{word_eq, after-append, list_prefixes, letters_append, letters_back, word_after, word_rest, All-from_contains}
use Rattle.ht_pair.specs.Actions.{Moves}
use Rattle.ht_pair.specs.Images.{Entry, words_behind}
use Rattle.ht_pair.specs.Pairs.{from_words}
use Rattle.ht_pair.specs.ValueLists.{IsValueList, Sends}
use Rattle.ht_pair.specs.declared.row.Row.{Row}
use Rattle.ht_pair.proofs.BasisLaws.{some_at, covers_from}
use Rattle.ht_pair.proofs.ConeOrder.{IsBefore, all_before, before_free, before_ascending}
use Rattle.ht_pair.proofs.ImageLaws.{rows_behind, from_words-behind}
use Rattle.ht_pair.proofs.RowSearch.{letters_behind}
use Rattle.ht_pair.proofs.ValueListLaws.{root_one, sends_single, sends_some, reach_of, cone_of, cone_value, cone_sends}
use Rattle.ht_ops.proofs.BlockLaws.{run_listed, run_before}
use Rattle.ht_ops.proofs.ImageSteps.{kept_rows, image_table}
use Rattle.ht_ops.specs.Blocks.IsGiven.{whole, by_run}
use Rattle.ht_ops.specs.Blocks.{IsGiven, HasGiven, IsRun, moved_by, carried_by}
use Rattle.ht_ops.specs.ImageRows.{entry_of, entries_of, AreBehindRoot}

-- ---- the entries below letters

-- M has what L has below the letters s, without them, and no entry of L is above them
record IsCutEntries (s : List ℕ) (L M : List Entry) : Type 0 where
  from : (e : Entry) → Contains M e → Contains L (record { letters = s ++ e.letters; word = e.word })
  all : (z : List ℕ) (v : Word) → Contains L (record { letters = s ++ z; word = v }) → Contains M (record { letters = z; word = v })
  before : AllPairs IsBefore (words_behind (root_word 1) M)
  none : (e : Entry) (rest : List ℕ) → Contains L e → ¬ (s ≡ e.letters ++ rest)

-- M sends what L sends behind the letters
cut_sends : (s : List ℕ) (L M : List Entry) → IsCutEntries s L M → (z : List ℕ) (v : Word) → Sends M z v → Sends L (s ++ z) v
cut_sends s L M h z v m = record {
  entry = record { letters = s ++ m.entry.letters; word = m.entry.word };
  rest = m.rest;
  listed = h.from m.entry m.listed;
  from = ap (λ t. s ++ t) m.from ∙ sym (append_assoc s m.entry.letters m.rest);
  to = m.to;
}

-- and nothing else
cut_back : (s : List ℕ) (L M : List Entry) → IsCutEntries s L M → (z : List ℕ) (v : Word) → Sends L (s ++ z) v → Sends M z v
cut_back s L M h z v m = elim (list_prefixes s m.entry.letters z m.rest m.from) [
  | inl k ↦ absurd (h.none m.entry k.0 m.listed k.1)
  | inr k ↦ record {
    entry = record { letters = k.0; word = m.entry.word };
    rest = m.rest;
    listed = h.all k.0 m.entry.word (subst (λ (t : List ℕ). Contains L (record { letters = t; word = m.entry.word })) k.1 m.listed);
    from = k.2;
    to = m.to;
  }
]

-- the letters of an entry of a value list
entry_letters : (shape : Shape) (L : List Entry) (e : Entry) → IsValueList shape L → Contains L e → IsLetters shape e.letters
entry_letters shape L e value c = word_rest shape (root_word 1) e.letters (All-contains (IsWordOf shape) (words_behind (root_word 1) L) (root_word 1 · e.letters) value.covers.words (Contains-map (λ (d : Entry). root_word 1 · d.letters) L e c))

-- so M is a value list where L is one
cut_value : (shape : Shape) (s : List ℕ) (L M : List Entry) → IsValueList shape L → IsLetters shape s → IsCutEntries s L M → IsValueList shape M
cut_value shape s L M value letters h = record {
  order = AllPairs-from_map (λ (e : Entry). root_word 1 · e.letters) (λ u v. word_cmp u v ≡ Less) M (before_ascending (words_behind (root_word 1) M) h.before);
  covers = covers_from shape (words_behind (root_word 1) M) (root_word 1 ∷ []) words (before_free (words_behind (root_word 1) M) h.before) (reach_of L) same;
  words = All-from_contains (λ (e : Entry). IsWordOf shape e.word) M (λ e c. All-contains (λ (d : Entry). IsWordOf shape d.word) L (record { letters = s ++ e.letters; word = e.word }) value.words (h.from e c));
  merged = λ z v all. value.merged (s ++ z) v
      (λ a low high. subst (λ (t : List ℕ). Contains L (record { letters = t; word = child v a })) (sym (append_assoc s z (a ∷ []))) (h.from (record { letters = z ++ a ∷ []; word = child v a }) (all a low high)));
}
  where
    words : All (IsWordOf shape) (words_behind (root_word 1) M)
    words = All-from_contains (IsWordOf shape) (words_behind (root_word 1) M) (λ w c.
        let g = contained_in_map (λ (e : Entry). root_word 1 · e.letters) M w c in
        let all = entry_letters shape L (record { letters = s ++ g.0.letters; word = g.0.word }) value (h.from g.0 g.1) in
        subst (IsWordOf shape) g.2 (word_after shape (root_word 1) g.0.letters (root_one shape) (letters_back shape s g.0.letters all)))

    same : (u : Word) → IsWordOf shape u → reach_of L ≤ length u.letters → IsUnderSome u (words_behind (root_word 1) M) ↔ IsUnderSome u (root_word 1 ∷ [])
    same u word l = (
      (λ k.
          let g = contained_in_map (λ (e : Entry). root_word 1 · e.letters) M k.above k.listed in
          some_at (root_word 1 ∷ []) (root_word 1) u (Contains-here (root_word 1) []) (record { rest = g.0.letters ++ k.under.rest; is = k.under.is ∙ ap (λ t. t · k.under.rest) (sym g.2) ∙ after-append (root_word 1) g.0.letters k.under.rest })),
      (λ k. elim (Contains-cons_cases (root_word 1) [] k.above k.listed) [
        | inr n ↦ absurd (Contains-nil k.above n)
        | inl e ↦ (
            let z = k.under.rest in
            let is : u ≡ root_word 1 · z = k.under.is ∙ ap (λ t. t · z) (sym e) in
            let rest = word_rest shape (root_word 1) z (subst (IsWordOf shape) is word) in
            let sent = sends_some shape L value (s ++ z) (letters_append shape s z letters rest) (omega (arith, ap (λ (t : Word). length t.letters) is, length-append s z)) in
            let back = cut_back s L M h z sent.0 sent.1 in
            some_at (words_behind (root_word 1) M) (root_word 1 · back.entry.letters) u (Contains-map (λ (d : Entry). root_word 1 · d.letters) M back.entry back.listed)
            (record { rest = back.rest; is = is ∙ ap (λ y. root_word 1 · y) back.from ∙ sym (after-append (root_word 1) back.entry.letters back.rest) }))
      ]),
    )

-- ---- the rows that are made

-- the row from root 1 to the letters behind it
abbrev opening : List ℕ → Row
opening s = record { from = root_word 1; to = root_word 1 · s }

-- the words behind root 1 are those of the rows
words_kept : (p : List Row) → AreBehindRoot p → words_behind (root_word 1) (entries_of p) ≡ from_words p
words_kept p behind = sym (from_words-behind (root_word 1) (entries_of p)) ∙ ap (λ (t : List Row). from_words t) (kept_rows p behind)

-- the rows carried over have the root 1
carried_behind : (s : List ℕ) (run : List Row) → AreBehindRoot (map (carried_by (opening s)) run)
carried_behind s run = All-from_contains (λ (row : Row). row.from.root ≡ 1) (map (carried_by (opening s)) run) (λ x c.
    let g = contained_in_map (carried_by (opening s)) run x c in ap (λ (t : Row). t.from.root) (sym g.2))

-- the letters of a row of the run
below : (p : List Row) (s : List ℕ) (run : List Row) → IsRun p (root_word 1 · s) run → (x : Row) → Contains run x → s ++ drop (length s) x.from.letters ≡ x.from.letters
below p s run r x c = ap (λ (t : Word). t.letters) (sym (letters_behind (root_word 1 · s) x.from (r.under x c)))

-- a row with letters behind s is under them
opened : (p : List Row) (s z : List ℕ) (x : Row) → AreBehindRoot p → Contains p x → x.from.letters ≡ s ++ z → x.from ≡ root_word 1 · (s ++ z)
opened p s z x behind c is = word_eq (All-contains (λ (t : Row). t.from.root ≡ 1) p x behind c) is

-- the rows of a run, without the letters, where no row is above these
run_cut : (p : List Row) (s : List ℕ) (run : List Row) → AllPairs IsBefore (from_words p) → AreBehindRoot p → IsRun p (root_word 1 · s) run → ((v : Word) → ¬ Moves p (root_word 1 · s) v) → IsCutEntries s (entries_of p) (entries_of (map (carried_by (opening s)) run))
run_cut p s run before behind r none = record {
  from = λ e c.
      let g = contained_in_map entry_of (map (carried_by (opening s)) run) e c in
      let h = contained_in_map (carried_by (opening s)) run g.0 g.1 in
      let is : entry_of (carried_by (opening s) h.0) ≡ e = ap entry_of h.2 ∙ g.2 in
      let listed : Contains (entries_of p) (entry_of h.0) = Contains-map entry_of p h.0 (run_listed p (root_word 1 · s) run r h.0 h.1) in
      subst (λ (d : Entry). Contains (entries_of p) (record { letters = s ++ d.letters; word = d.word })) is
      (subst (λ (t : List ℕ). Contains (entries_of p) (record { letters = t; word = h.0.to })) (sym (below p s run r h.0 h.1)) listed);
  all = λ z v c.
      let g = contained_in_map entry_of p (record { letters = s ++ z; word = v }) c in
      let letters : g.0.from.letters ≡ s ++ z = ap (λ (d : Entry). d.letters) g.2 in
      let word : g.0.to ≡ v = ap (λ (d : Entry). d.word) g.2 in
      let under : IsUnder g.0.from (root_word 1 · s) = record { rest = z; is = opened p s z g.0 behind g.1 letters ∙ sym (after-append (root_word 1) s z) } in
      let rest : drop (length s) g.0.from.letters ≡ z = ap (λ t. drop (length s) t) letters ∙ drop-append_seam s z in
      let listed = Contains-map entry_of (map (carried_by (opening s)) run) (carried_by (opening s) g.0) (Contains-map (carried_by (opening s)) run g.0 (r.all g.0 g.1 under)) in
      subst₂ (λ (t : List ℕ) (w : Word). Contains (entries_of (map (carried_by (opening s)) run)) (record { letters = t; word = w })) rest word listed;
  before = subst (AllPairs IsBefore) (sym (words_kept (map (carried_by (opening s)) run) (carried_behind s run))) (run_before p (opening s) run before r);
  none = λ e rest c is.
      let g = contained_in_map entry_of p e c in
      let here : root_word 1 · s ≡ g.0.from · rest = word_eq (sym (All-contains (λ (t : Row). t.from.root ≡ 1) p g.0 behind g.1)) (is ∙ ap (λ (d : Entry). d.letters ++ rest) (sym g.2)) in
      none (g.0.to · rest) (record { row = g.0; rest = rest; listed = g.1; from = here; to = refl });
}

-- ---- what is made is the image behind the letters

-- M is a value list, and sends letters where L sends s and then these
pub record IsImageBehind (shape : Shape) (s : List ℕ) (L M : List Entry) : Type 0 where
  pub value : IsValueList shape M
  pub sends : (z : List ℕ) (v : Word) → Sends M z v ↔ Sends L (s ++ z) v

-- one entry above the letters
whole_behind : (shape : Shape) (s rest : List ℕ) (L : List Entry) (e : Entry) → IsValueList shape L → IsLetters shape s → Contains L e → s ≡ e.letters ++ rest → IsImageBehind shape s L (cone_of (e.word · rest))
whole_behind shape s rest L e value letters c is = record {
  value = cone_value shape (e.word · rest) (word_after shape e.word rest (All-contains (λ (d : Entry). IsWordOf shape d.word) L e value.words c) (letters_back shape e.letters rest (subst (IsLetters shape) is letters)));
  sends = λ z v. (
    (λ m. elim (Contains-cons_cases (record { letters = []; word = e.word · rest }) [] m.entry m.listed) [
      | inr n ↦ absurd (Contains-nil m.entry n)
      | inl same ↦ (
          let z_is : z ≡ m.rest = m.from ∙ ap (λ (d : Entry). d.letters ++ m.rest) (sym same) in
          let v_is : v ≡ (e.word · rest) · z = m.to ∙ ap (λ (d : Entry). d.word · m.rest) (sym same) ∙ ap (λ t. (e.word · rest) · t) (sym z_is) in
          subst (Sends L (s ++ z)) (sym v_is) (there z))
    ]),
    (λ m. subst (Sends (cone_of (e.word · rest)) z) (sends_single shape L value (s ++ z) ((e.word · rest) · z) v (there z) m) (cone_sends (e.word · rest) z)),
  );
}
  where
    there : (z : List ℕ) → Sends L (s ++ z) ((e.word · rest) · z)
    there z = record { entry = e; rest = rest ++ z; listed = c; from = ap (λ t. t ++ z) is ∙ append_assoc e.letters rest z; to = after-append e.word rest z }

-- what the row from root 1 to the letters gives with the image's rows
given_behind : (shape : Shape) (p : List Row) (s : List ℕ) (block : List Row) → AreBehindRoot p → IsValueList shape (entries_of p) → IsLetters shape s → IsGiven p (opening s) block → IsImageBehind shape s (entries_of p) (entries_of block)
given_behind shape p s block behind value letters (whole other listed under is) =
    let from : s ≡ other.from.letters ++ drop (length other.from.letters) s = ap (λ (t : Word). t.letters) (letters_behind other.from (root_word 1 · s) under) in
    subst (λ (t : List Row). IsImageBehind shape s (entries_of p) (entries_of t)) (sym is)
    (whole_behind shape s (drop (length other.from.letters) s) (entries_of p) (entry_of other) value letters (Contains-map entry_of p other listed) from)
given_behind shape p s block behind value letters (by_run run r none is) =
    let table = image_table shape p (entries_of p) behind refl value in
    let cut = run_cut p s run (all_before (from_words p) table.prefix_free table.ascending) behind r none in
    let M = entries_of (map (carried_by (opening s)) run) in
    subst (λ (t : List Row). IsImageBehind shape s (entries_of p) (entries_of t)) (sym is)
    (record { value = cut_value shape s (entries_of p) M value letters cut; sends = λ z v. (cut_sends s (entries_of p) M cut z v, cut_back s (entries_of p) M cut z v) })

-- added behind no rows
pub added_behind : (shape : Shape) (p q : List Row) (s : List ℕ) (from to : Word) (old new : List Row) (L : List Entry) → from ≡ root_word 1 → to ≡ from · s → q ≡ p → old ≡ [] → AreBehindRoot p → entries_of p ≡ L → IsValueList shape L
    → IsLetters shape s → HasGiven q (record { from = from; to = to }) old new → IsImageBehind shape s L (entries_of new)
added_behind shape p q s from to old new L from_is to_is same none behind is value letters h =
    let there : to ≡ root_word 1 · s = to_is ∙ ap (λ (t : Word). t · s) from_is in
    let given : IsGiven p (opening s) h.block = subst₂ (λ (t : List Row) (x : Row). IsGiven t x h.block) same (λ i. record { from = from_is i; to = there i }) h.given in
    let block : h.block ≡ new = sym (h.added ∙ ap (λ (t : List Row). t ++ h.block) none) in
    subst₂ (λ (t : List Row) (K : List Entry). IsImageBehind shape s K (entries_of t)) block is (given_behind shape p s h.block behind (subst (IsValueList shape) (sym is) value) letters given)

-- its rows have the root 1
pub given_root : (q : List Row) (row : Row) (old new : List Row) → row.from.root ≡ 1 → old ≡ [] → HasGiven q row old new → AreBehindRoot new
given_root q row old new root none h = subst AreBehindRoot (sym (h.added ∙ ap (λ (t : List Row). t ++ h.block) none)) (block_root h.block h.given)
  where
    block_root : (block : List Row) → IsGiven q row block → AreBehindRoot block
    block_root block (whole other listed under is) = subst AreBehindRoot (sym is) (All-from_contains (λ (t : Row). t.from.root ≡ 1) (moved_by row other ∷ []) (λ x c. elim (Contains-cons_cases (moved_by row other) [] x c) [
      | inl e ↦ ap (λ (t : Row). t.from.root) (sym e) ∙ root
      | inr n ↦ absurd (Contains-nil x n)
    ]))
    block_root block (by_run run r none is) = subst AreBehindRoot (sym is) (All-from_contains (λ (t : Row). t.from.root ≡ 1) (map (carried_by row) run) (λ x c.
        let g = contained_in_map (carried_by row) run x c in ap (λ (t : Row). t.from.root) (sym g.2) ∙ root))

-- ---- images that are one

-- rows from root 1 with the same entries are the same
pub same_kept : (p q : List Row) → AreBehindRoot p → AreBehindRoot q → entries_of p ≡ entries_of q → p ≡ q
same_kept p q h g is = sym (kept_rows p h) ∙ ap (λ (L : List Entry). rows_behind (root_word 1) L) is ∙ kept_rows q g
