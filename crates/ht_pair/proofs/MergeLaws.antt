-- What merges keep: covers, pairs, the order of the rows, moves; and rows and letters become no more.
use Rattle.std.proofs.Common.{◌≡◌, ℕ, ◌≤◌, ◌⊎◌, inl, inr, List, [], ◌∷◌, ◌++◌, length, map, sym, ap, ◌∙◌, subst, append_assoc, arith, All, AllPairs, Contains}
use Rattle.std.proofs.lemmas.List.{length-append, map-append}
use Rattle.std.proofs.lemmas.List.Elements.{All-contains, Contains-append_left, Contains-append_right, Contains-append_cases}
use Rattle.ht_word.specs.declared.word.Word.{Word}
use Rattle.ht_word.specs.declared.shape.Shape.{Shape}
use Rattle.ht_word.specs.Words.{◌·◌, child, IsWordOf}
use Rattle.ht_word.proofs.WordLaws.{after-append, after-nil, length-after, All-from_contains}
use Rattle.ht_word.proofs.ListLaws.{Contains-here, Contains-there, Contains-cons_cases, Contains-map, AllPairs-left, AllPairs-right, AllPairs-across, AllPairs-head, AllPairs-cons, AllPairs-append, AllPairs-map, AllPairs-from_map}
use Rattle.ht_pair.specs.declared.row.Row.{Row}
use Rattle.ht_pair.specs.Bases.{AreApart, IsPrefixFree, longest, roots, Covers}
use Rattle.ht_pair.specs.Pairs.{IsPair, from_words, to_words, longest_of}
use Rattle.ht_pair.specs.Actions.{Moves, child_row}
use Rattle.ht_pair.specs.Merges.{each_to, child_rows, Merges}
use Rattle.ht_pair.specs.Merges.Merges.{unmerged, merged}
use Rattle.ht_pair.proofs.BasisLaws.{children_to, children_hold, longest_bounds, longest_least}
use Rattle.ht_pair.proofs.Merging.{in_merged, first_child, words_merged, free_merged, covers_merged}
use Rattle.ht_pair.proofs.ConeOrder.{IsBefore, before_irreflexive, before_trans, before_extended, before_free, apart_before}
use Rattle.ht_pair.proofs.Siblings.{AreOrdered, ordered_words}
use Rattle.ht_pair.proofs.Sequences.{each_hold, each_of, length-each, each-map}

-- an entry of a list with the entries K is in K or stays where x stands for them
in_unmerged : {T : Type 0} (A K B : List T) (x t : T) → Contains (A ++ K ++ B) t → Contains K t ⊎ Contains (A ++ x ∷ B) t
in_unmerged A K B x t c = elim (Contains-append_cases (A ++ K) B t c) [
  | inl h ↦ elim (Contains-append_cases A K t h) [ inl a ↦ inr (Contains-append_left A (x ∷ B) t a) | inr k ↦ inl k ]
  | inr b ↦ inr (Contains-append_right A (x ∷ B) t (Contains-there x B t b))
]

-- ---- words

-- the longest word has no more letters
longest_merged : (shape : Shape) (A B : List Word) (x : Word) → longest (A ++ x ∷ B) ≤ longest (A ++ children_to x shape.n ++ B)
longest_merged shape A B x =
    let W = A ++ children_to x shape.n ++ B in
    longest_least (A ++ x ∷ B) (longest W) (λ w c. elim (in_merged A (children_to x shape.n) B x w c) [
      | inl e ↦ omega (arith, longest_bounds W (child x 1) (first_child shape A B x), length-after x (1 ∷ []), ap (λ (t : Word). length t.letters) e)
      | inr h ↦ longest_bounds W w h
    ])

-- a word that is apart from x and before a child of x is before x
before_parent : (u x : Word) (c : ℕ) → AreApart u x → IsBefore u (child x c) → IsBefore u x
before_parent u x c apart h = elim (apart_before u x apart) [
  | inl b ↦ b
  | inr b ↦ absurd (before_irreflexive u (before_trans u (child x c) u h (subst (IsBefore (child x c)) (after-nil u) (before_extended x u (c ∷ []) [] b))))
]

-- and so on the other side
parent_before : (u x : Word) (c : ℕ) → AreApart x u → IsBefore (child x c) u → IsBefore x u
parent_before u x c apart h = elim (apart_before x u apart) [
  | inl b ↦ b
  | inr b ↦ absurd (before_irreflexive u (before_trans u (child x c) u (subst (λ t. IsBefore t (child x c)) (after-nil u) (before_extended u x [] (c ∷ []) b)) h))
]

-- the order is kept
before_merged : (A K B : List Word) (x : Word) (c : ℕ) → Contains K (child x c) → IsPrefixFree (A ++ x ∷ B) → AllPairs IsBefore (A ++ K ++ B) → AllPairs IsBefore (A ++ x ∷ B)
before_merged A K B x c listed free before =
    let front : AllPairs IsBefore (A ++ K) = AllPairs-left IsBefore (A ++ K) B before in
    let apart : All (AreApart x) B = AllPairs-head AreApart x B (AllPairs-right AreApart A (x ∷ B) free) in
    AllPairs-append IsBefore A (x ∷ B) (AllPairs-left IsBefore A K front)
    (AllPairs-cons IsBefore x B
    (All-from_contains (IsBefore x) B (λ w d. parent_before w x c (All-contains (AreApart x) B w apart d) (AllPairs-across IsBefore (A ++ K) B before (child x c) w (Contains-append_right A K (child x c) listed) d)))
    (AllPairs-right IsBefore (A ++ K) B before))
    (λ a y d e. elim (Contains-cons_cases x B y e) [
      | inl s ↦ subst (IsBefore a) s (before_parent a x c (AllPairs-across AreApart A (x ∷ B) free a x d (Contains-here x B)) (AllPairs-across IsBefore A K front a (child x c) d listed))
      | inr m ↦ AllPairs-across IsBefore (A ++ K) B before a y (Contains-append_left A K a d) m
    ])

-- ---- rows

-- the words on one side of rows with child rows among them
words_around : (side : Row → Word) (A B : List Row) (u v : Word) (k : ℕ) → map side (A ++ child_rows u v k ++ B) ≡ map side A ++ each_to (λ c. side (child_row u v c)) k ++ map side B
words_around side A B u v k =
    map-append side (A ++ child_rows u v k) B ∙ ap (λ t. t ++ map side B) (map-append side A (child_rows u v k) ∙ ap (λ t. map side A ++ t) (each-map side (child_row u v) k))

-- rows in order stay in order
ordered_merged : (shape : Shape) (A B : List Row) (u v : Word) → AreOrdered shape (A ++ child_rows u v shape.n ++ B) → AreOrdered shape (A ++ record { from = u; to = v } ∷ B)
ordered_merged shape A B u v h =
    let row : Row = record { from = u; to = v } in
    let K = children_to u shape.n in
    let p = A ++ child_rows u v shape.n ++ B in
    let q = A ++ row ∷ B in
    let around = words_around (λ row. row.from) A B u v shape.n in
    let is = map-append (λ (row : Row). row.from) A (row ∷ B) in
    let words : All (IsWordOf shape) (from_words A ++ K ++ from_words B) = subst (All (IsWordOf shape)) around (ordered_words shape p h) in
    let before : AllPairs IsBefore (from_words A ++ K ++ from_words B) = subst (AllPairs IsBefore) around (AllPairs-map (λ (t : Row). t.from) IsBefore p h.before) in
    let free : IsPrefixFree (from_words A ++ u ∷ from_words B) = free_merged shape (from_words A) (from_words B) u words (before_free (from_words A ++ K ++ from_words B) before) in
    let first = children_hold u shape.n 1 (omega arith) (omega (arith, shape.letters_low)) in
    let new_words : All (IsWordOf shape) (from_words q) = subst (All (IsWordOf shape)) (sym is) (words_merged shape (from_words A) (from_words B) u words) in
    let new_before : AllPairs IsBefore (from_words q) = subst (AllPairs IsBefore) (sym is) (before_merged (from_words A) K (from_words B) u 1 first free before) in
    record {
      words = λ row c. All-contains (IsWordOf shape) (from_words q) row.from new_words (Contains-map (λ (t : Row). t.from) q row c);
      before = AllPairs-from_map (λ (t : Row). t.from) IsBefore q new_before;
    }

-- what one side covers it covers still
side_covers_merged : (shape : Shape) (A B : List Row) (u v : Word) (V : List Word) → Covers shape (from_words (A ++ child_rows u v shape.n ++ B)) V → Covers shape (from_words (A ++ record { from = u; to = v } ∷ B)) V
side_covers_merged shape A B u v V h =
    let row : Row = record { from = u; to = v } in
    subst (λ W. Covers shape W V) (sym (map-append (λ (row : Row). row.from) A (row ∷ B)))
    (covers_merged shape (from_words A) (from_words B) V u (subst (λ W. Covers shape W V) (words_around (λ row. row.from) A B u v shape.n) h))

-- and so for the `to` words
to_covers_merged : (shape : Shape) (A B : List Row) (u v : Word) (V : List Word) → Covers shape (to_words (A ++ child_rows u v shape.n ++ B)) V → Covers shape (to_words (A ++ record { from = u; to = v } ∷ B)) V
to_covers_merged shape A B u v V h =
    let row : Row = record { from = u; to = v } in
    subst (λ W. Covers shape W V) (sym (map-append (λ (row : Row). row.to) A (row ∷ B)))
    (covers_merged shape (to_words A) (to_words B) V v (subst (λ W. Covers shape W V) (words_around (λ row. row.to) A B u v shape.n) h))

fewer_merged : (shape : Shape) (A B : List Row) (u v : Word) → length (A ++ record { from = u; to = v } ∷ B) ≤ length (A ++ child_rows u v shape.n ++ B)
fewer_merged shape A B u v = omega (arith, length-append A (record { from = u; to = v } ∷ B), length-append (A ++ child_rows u v shape.n) B, length-append A (child_rows u v shape.n), length-each (child_row u v) shape.n, shape.letters_low)

shorter_merged : (shape : Shape) (A B : List Row) (u v : Word) → longest_of (A ++ record { from = u; to = v } ∷ B) ≤ longest_of (A ++ child_rows u v shape.n ++ B)
shorter_merged shape A B u v =
    let row : Row = record { from = u; to = v } in
    omega (
      arith,
      longest_merged shape (from_words A) (from_words B) u,
      ap longest (words_around (λ row. row.from) A B u v shape.n),
      ap longest (map-append (λ (row : Row). row.from) A (row ∷ B)),
      longest_merged shape (to_words A) (to_words B) v,
      ap longest (words_around (λ row. row.to) A B u v shape.n),
      ap longest (map-append (λ (row : Row). row.to) A (row ∷ B)),
    )

moves_merged : (shape : Shape) (A B : List Row) (u v w t : Word) → Moves (A ++ child_rows u v shape.n ++ B) w t → Moves (A ++ record { from = u; to = v } ∷ B) w t
moves_merged shape A B u v w t m =
    let row : Row = record { from = u; to = v } in
    elim (in_unmerged A (child_rows u v shape.n) B row m.row m.listed) [
      | inr c ↦ record { row = m.row; rest = m.rest; listed = c; from = m.from; to = m.to }
      | inl c ↦ (let g = each_of (child_row u v) shape.n m.row c in record {
        row = row;
        rest = g.letter ∷ m.rest;
        listed = Contains-append_right A (row ∷ B) row (Contains-here row B);
        from = m.from ∙ ap (λ (r : Row). r.from · m.rest) g.is ∙ after-append u (g.letter ∷ []) m.rest;
        to = m.to ∙ ap (λ (r : Row). r.to · m.rest) g.is ∙ after-append v (g.letter ∷ []) m.rest;
      })
    ]

-- ---- merges

-- what each merge keeps, all keep
merges_keep : (shape : Shape) (p q : List Row) (P : List Row → Type 0) → ((A B : List Row) (u v : Word) → P (A ++ child_rows u v shape.n ++ B) → P (A ++ record { from = u; to = v } ∷ B)) → Merges shape p q → P p → P q
merges_keep shape p q P step unmerged h = h
merges_keep shape p q P step (merged A B u v m) h = step A B u v (merges_keep shape p (A ++ child_rows u v shape.n ++ B) P step m h)

pub merges_ordered : (shape : Shape) (p q : List Row) → Merges shape p q → AreOrdered shape p → AreOrdered shape q
merges_ordered shape p q m = merges_keep shape p q (AreOrdered shape) (ordered_merged shape) m

pub merges_cover : (shape : Shape) (p q : List Row) (V : List Word) → Merges shape p q → Covers shape (from_words p) V → Covers shape (from_words q) V
merges_cover shape p q V m = merges_keep shape p q (λ t. Covers shape (from_words t) V) (λ A B u v. side_covers_merged shape A B u v V) m

pub merges_pair : (shape : Shape) (p q : List Row) → Merges shape p q → IsPair shape p → IsPair shape q
merges_pair shape p q m pair = record {
  from = merges_cover shape p q (roots shape) m pair.from;
  to = merges_keep shape p q (λ t. Covers shape (to_words t) (roots shape)) (λ A B u v. to_covers_merged shape A B u v (roots shape)) m pair.to;
}

-- what holds of each row, and of a row where it holds of the row's first child, holds of each row still
pub merges_each : (shape : Shape) (p q : List Row) (P : Row → Type 0) → ((u v : Word) → P (child_row u v 1) → P (record { from = u; to = v })) → Merges shape p q
    → ((row : Row) → Contains p row → P row) → (row : Row) → Contains q row → P row
merges_each shape p q P up m = merges_keep shape p q (λ t. (row : Row) → Contains t row → P row) (λ A B u v all row c.
    let K = child_rows u v shape.n in
    let x : Row = record { from = u; to = v } in
    elim (in_merged A K B x row c) [
      | inl e ↦ subst P e (up u v (all (child_row u v 1) (Contains-append_left (A ++ K) B (child_row u v 1) (Contains-append_right A K (child_row u v 1) (each_hold (child_row u v) shape.n 1 (omega arith) (omega (arith, shape.letters_low)))))))
      | inr h ↦ all row h
    ]) m

pub merges_fewer : (shape : Shape) (p q : List Row) → Merges shape p q → length q ≤ length p
merges_fewer shape p q m = merges_keep shape p q (λ t. length t ≤ length p) (λ A B u v h. omega (arith, fewer_merged shape A B u v)) m (omega arith)

pub merges_shorter : (shape : Shape) (p q : List Row) → Merges shape p q → longest_of q ≤ longest_of p
merges_shorter shape p q m = merges_keep shape p q (λ t. longest_of t ≤ longest_of p) (λ A B u v h. omega (arith, shorter_merged shape A B u v)) m (omega arith)

pub merges_moves : (shape : Shape) (p q : List Row) → Merges shape p q → (w t : Word) → Moves p w t → Moves q w t
merges_moves shape p q m w t = merges_keep shape p q (λ r. Moves r w t) (λ A B u v. moves_merged shape A B u v w t) m

-- merges after merges
pub merges_then : (shape : Shape) (p q r : List Row) → Merges shape p q → Merges shape q r → Merges shape p r
merges_then shape p q r h m = merges_keep shape q r (Merges shape p) merged m h

-- merges are merges also where more rows follow
pub merges_behind : (shape : Shape) (p q B : List Row) → Merges shape p q → Merges shape (p ++ B) (q ++ B)
merges_behind shape p q B m = merges_keep shape p q (λ t. Merges shape (p ++ B) (t ++ B))
    (λ A C u v h. subst (Merges shape (p ++ B)) (sym (append_assoc A (record { from = u; to = v } ∷ C) B)) (merged A (C ++ B) u v (subst (Merges shape (p ++ B)) (append_assoc (A ++ child_rows u v shape.n) C B) h)))
    m unmerged
