-- Reduced rows have a row above each prefix that they move as one row would, so they can be told from what they move.
use Rattle.std.proofs.Common.{◌≡◌, ℕ, zero, suc, ◌≤◌, ◌⊎◌, inl, inr, List, [], ◌∷◌, length, refl, sym, ap, ◌∙◌, subst, arith, Contains, All, ◌+◌}
use Rattle.std.proofs.lemmas.Bool.{cases_lt}
use Rattle.std.proofs.lemmas.List.Elements.{All-contains, All-nil, All-cons}
use Rattle.ht_word.specs.Words.{IsLetter, IsLetters, IsWordOf, ◌·◌, child, IsUnder, IsUnderSome}
use Rattle.ht_word.specs.declared.shape.Shape.{Shape}
use Rattle.ht_word.specs.declared.word.Word.{Word}
use Rattle.ht_word.proofs.ListLaws.{Contains-map, contained_in_map}
use Rattle.ht_word.proofs.WordLaws.{after-append, after-nil, after_cancel, under_refl, under_after, under_trans, length-after, under_same, under_antisym, under_both, letters_append, word_after}
use Rattle.ht_pair.specs.Actions.{Moves, child_row}
use Rattle.ht_pair.specs.Bases.{IsPrefixFree, longest}
use Rattle.ht_pair.specs.Pairs.{from_words}
use Rattle.ht_pair.specs.declared.row.Row.{Row}
use Rattle.ht_pair.proofs.BasisLaws.{prefix_free_same}

-- of the letters 1 to k each has Q, or P holds
choice_to : (k : ℕ) (P : Type 0) (Q : ℕ → Type 0) → ((a : ℕ) → 1 ≤ a → a ≤ k → P ⊎ Q a) → P ⊎ ((a : ℕ) → 1 ≤ a → a ≤ k → Q a)
choice_to zero P Q f = inr (λ a low high. absurd (omega arith))
choice_to (suc k) P Q f = elim (choice_to k P Q (λ a low high. f a low (omega arith))) [
  | inl p ↦ inl p
  | inr below ↦ elim (f (suc k) (omega arith) (omega arith)) [
    | inl p ↦ inl p
    | inr last ↦ inr (λ a low high. elim (last_or a k high) [
      | inl l ↦ below a low l
      | inr e ↦ subst Q (sym e) last
    ])
  ]
]
  where
    last_or : (a k : ℕ) → a ≤ suc k → (a ≤ k) ⊎ (a ≡ suc k)
    last_or a k l = grind arith

-- p moves the words under u as the row u to v would
pub record MovesAs (shape : Shape) (p : List Row) (u v : Word) : Type 0 where
  pub at : (z : List ℕ) (w : Word) → IsLetters shape z → Moves p (u · z) w → w ≡ v · z

-- a letter is a list of letters
one_letter : (shape : Shape) (a : ℕ) → 1 ≤ a → a ≤ shape.n → IsLetters shape (a ∷ [])
one_letter shape a low high = All-cons (IsLetter shape) a [] (low, high) (All-nil (IsLetter shape))

-- what is moved as by one row is moved so with one more letter
moves_as_child : (shape : Shape) (p : List Row) (u v : Word) (a : ℕ) → 1 ≤ a → a ≤ shape.n → MovesAs shape p u v → MovesAs shape p (child u a) (child v a)
moves_as_child shape p u v a low high h = record {
  at = λ z w hz m.
      h.at (a ∷ z) w (letters_append shape (a ∷ []) z (one_letter shape a low high) hz) (subst (λ t. Moves p t w) (after-append u (a ∷ []) z) m) ∙ sym (after-append v (a ∷ []) z);
}

-- a word above a child of u is above u, or it is the child
pub above_child : (u s : Word) (a : ℕ) → IsUnder (child u a) s → IsUnder u s ⊎ (s ≡ child u a)
above_child u s a h = elim (under_both h (under_after u (a ∷ []))) [
  | inr k ↦ inl k
  | inl k ↦ elim (cases_lt (length u.letters) (length s.letters)) [
    | inr l ↦ inl (subst (λ t. IsUnder u t) (sym (under_same k l)) (under_refl u))
    | inl l ↦ inr (sym (under_same h (omega (arith, length-after u (a ∷ [])))))
  ]
]

-- reduced rows, whose `from` words are the prefixes of all long enough words in D, which further letters don't lead out of
pub record IsReducedOn (shape : Shape) (D : Word → Type 0) (p : List Row) : Type 0 where
  pub words : All (IsWordOf shape) (from_words p)
  pub prefix_free : IsPrefixFree (from_words p)
  pub inside : (row : Row) → Contains p row → D row.from
  pub deeper : (u : Word) (z : List ℕ) → D u → D (u · z)
  pub holds : (u : Word) → IsWordOf shape u → D u → longest (from_words p) ≤ length u.letters → IsUnderSome u (from_words p)
  pub reduced : (u v : Word) → D u → ¬ ((a : ℕ) → 1 ≤ a → a ≤ shape.n → Contains p (child_row u v a))

-- reduced rows that move the words under u as one row would have a row above u
pub row_above : (shape : Shape) (D : Word → Type 0) (p : List Row) → IsReducedOn shape D p → (k : ℕ) (u v : Word) → IsWordOf shape u → D u → longest (from_words p) ≤ k + length u.letters → MovesAs shape p u v → IsUnderSome u (from_words p)
row_above shape D p r zero u v h d l rowlike = r.holds u h d (omega arith)
row_above shape D p r (suc k) u v h d l rowlike =
    elim (choice_to shape.n (IsUnderSome u (from_words p)) (λ a. Contains p (child_row u v a)) (λ a low high.
    at_child shape p u v a low high rowlike (row_above shape D p r k (child u a) (child v a) (word_after shape u (a ∷ []) h (one_letter shape a low high)) (r.deeper u (a ∷ []) d) (omega (arith, length-after u (a ∷ []))) (moves_as_child shape p u v a low high rowlike)))) [
      | inl s ↦ s
      | inr rows ↦ absurd (r.reduced u v d rows)
    ]
  where
    at_child : (shape : Shape) (p : List Row) (u v : Word) (a : ℕ) → 1 ≤ a → a ≤ shape.n → MovesAs shape p u v → IsUnderSome (child u a) (from_words p) → IsUnderSome u (from_words p) ⊎ Contains p (child_row u v a)
    at_child shape p u v a low high rowlike s = elim (above_child u s.above a s.under) [
      | inl k ↦ inl (record { above = s.above; listed = s.listed; under = k })
      | inr e ↦ inr (
          let g = contained_in_map (λ (t : Row). t.from) p s.above s.listed in
          let from_is : g.0.from ≡ child u a = g.2 ∙ e in
          let moved : Moves p (child u a) g.0.to = record { row = g.0; rest = []; listed = g.1; from = sym from_is ∙ sym (after-nil g.0.from); to = sym (after-nil g.0.to) } in
          let to_is : g.0.to ≡ child v a = rowlike.at (a ∷ []) g.0.to (one_letter shape a low high) moved in
          let is : g.0 ≡ child_row u v a = λ i. record { from = from_is i; to = to_is i } in
          subst (λ t. Contains p t) is g.1)
    ]

-- and they move u as that row does
pub reduced_moves : (shape : Shape) (D : Word → Type 0) (p : List Row) → IsReducedOn shape D p → (u v : Word) → IsWordOf shape u → D u → MovesAs shape p u v → Moves p u v
reduced_moves shape D p r u v h d rowlike =
    let s = row_above shape D p r (longest (from_words p)) u v h d (omega arith) rowlike in
    let g = contained_in_map (λ (t : Row). t.from) p s.above s.listed in
    let from_is : u ≡ g.0.from · s.under.rest = s.under.is ∙ ap (λ t. t · s.under.rest) (sym g.2) in
    let moved : Moves p u (g.0.to · s.under.rest) = record { row = g.0; rest = s.under.rest; listed = g.1; from = from_is; to = refl } in
    subst (λ t. Moves p u t) (rowlike.at [] (g.0.to · s.under.rest) (All-nil (IsLetter shape)) (subst (λ t. Moves p t (g.0.to · s.under.rest)) (sym (after-nil u)) moved) ∙ after-nil v) moved

-- the `from` word of such a row is a word of the shape
row_word : (shape : Shape) (D : Word → Type 0) (p : List Row) → IsReducedOn shape D p → (row : Row) → Contains p row → IsWordOf shape row.from
row_word shape D p r row c = All-contains (IsWordOf shape) (from_words p) row.from r.words (Contains-map (λ (t : Row). t.from) p row c)

-- reduced rows that move words as the rows of one another have the same rows
pub same_rows : (shape : Shape) (D : Word → Type 0) (p q : List Row) → IsReducedOn shape D p → IsReducedOn shape D q → ((row : Row) → Contains q row → MovesAs shape p row.from row.to) → ((row : Row) → Contains p row → MovesAs shape q row.from row.to) → (row : Row) → Contains q row → Contains p row
same_rows shape D p q r s as_q as_p row c =
    let up = reduced_moves shape D p r row.from row.to (row_word shape D q s row c) (s.inside row c) (as_q row c) in
    let down = reduced_moves shape D q s up.row.from up.row.to (row_word shape D p r up.row up.listed) (r.inside up.row up.listed) (as_p up.row up.listed) in
    -- row.from is under up.row.from, and that is under down.row.from, both `from` words of q
    let under_up : IsUnder row.from up.row.from = record { rest = up.rest; is = up.from } in
    let under_down : IsUnder up.row.from down.row.from = record { rest = down.rest; is = down.from } in
    let one : row.from ≡ down.row.from = prefix_free_same (from_words q) s.prefix_free row.from down.row.from (Contains-map (λ (t : Row). t.from) q row c) (Contains-map (λ (t : Row). t.from) q down.row down.listed) (under_trans under_up under_down) in
    let from_is : up.row.from ≡ row.from = under_antisym (subst (λ t. IsUnder up.row.from t) (sym one) under_down) under_up in
    let none : up.rest ≡ [] = after_cancel up.row.from up.rest [] (sym up.from ∙ sym from_is ∙ sym (after-nil up.row.from)) in
    let to_is : up.row.to ≡ row.to = sym (after-nil up.row.to) ∙ ap (λ z. up.row.to · z) (sym none) ∙ sym up.to in
    let is : up.row ≡ row = λ i. record { from = from_is i; to = to_is i } in
    subst (λ t. Contains p t) is up.listed
