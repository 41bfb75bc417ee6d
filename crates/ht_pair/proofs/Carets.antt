-- Carets at the end of rows. Where the last row closes none, a reduced list stays reduced with that row behind it.
use Rattle.std.proofs.Common.{◌≡◌, ℕ, suc, ◌≤◌, ◌-◌, inl, inr, List, [], ◌∷◌, ◌++◌, length, sym, ap, ◌∙◌, subst, append_assoc, append-nil, arith, Contains}
use Rattle.std.proofs.lemmas.List.{length-append}
use Rattle.ht_word.specs.declared.word.Word.{Word}
use Rattle.ht_word.specs.declared.shape.Shape.{Shape}
use Rattle.ht_word.specs.Words.{child}
use Rattle.ht_word.proofs.ListLaws.{trichotomy}
use Rattle.ht_pair.specs.declared.row.Row.{Row}
use Rattle.ht_pair.specs.Actions.{child_row, IsReduced}
use Rattle.ht_pair.specs.Merges.{child_rows, ClosesCaret, Merges, MergesDown}
use Rattle.ht_pair.specs.Merges.Merges.{merged}
use Rattle.ht_pair.proofs.ConeOrder.{IsBefore, before_irreflexive, before_trans, child_before}
use Rattle.ht_pair.proofs.Sequences.{in_front_or, length-each}
use Rattle.ht_pair.proofs.Siblings.{AreOrdered, ordered_front, before_last, same_letter, siblings_last}

-- at least n - 1 rows come before a row that closes a caret
pub long_enough : (shape : Shape) (rows : List Row) (last : Row) → ClosesCaret shape rows last → shape.n - 1 ≤ length rows
long_enough shape rows last h =
    omega (arith, ap (λ (t : List Row). length t) h.rows_are, length-append h.before (child_rows h.from h.to (shape.n - 1)), length-each (child_row h.from h.to) (shape.n - 1))

-- all child rows of u to v, the last of them behind p, close a caret
closing : (shape : Shape) (p : List Row) (row : Row) (u v : Word) → AreOrdered shape (p ++ row ∷ []) → row ≡ child_row u v shape.n → ((a : ℕ) → 1 ≤ a → a ≤ shape.n → Contains (p ++ row ∷ []) (child_row u v a)) → ClosesCaret shape p row
closing shape p row u v ordered is rows =
    let next : shape.n ≡ suc (shape.n - 1) = omega (arith, shape.letters_low) in
    let h = siblings_last shape u v (shape.n - 1) p (ordered_front shape p (row ∷ []) ordered)
    (λ c low high. elim (in_front_or p row (child_row u v c) (rows c low (omega arith))) [
      | inl k ↦ k
      | inr e ↦ absurd (omega (arith, shape.letters_low, same_letter u v shape.n c (sym is ∙ e)))
    ])
    (λ t c. subst (IsBefore t.from) (ap (λ (r : Row). r.from) is ∙ ap (child u) next) (before_last shape p row ordered t c)) in
    record { from = u; to = v; before = h.before; rows_are = h.is; last_is = is }

-- the cone of a child isn't before the cone of an earlier one
no_earlier : (u : Word) (a k : ℕ) → a ≤ k → ¬ IsBefore (child u k) (child u a)
no_earlier u a k high h = elim (trichotomy a k) [
  | inl l ↦ elim l [ inl m ↦ before_irreflexive (child u a) (before_trans (child u a) (child u k) (child u a) (child_before u a k m) h) | inr m ↦ omega arith ]
  | inr e ↦ before_irreflexive (child u a) (subst (λ j. IsBefore (child u j) (child u a)) (sym e) h)
]

-- where the child row by n is in p, all child rows are: they come before it
all_before : (shape : Shape) (p : List Row) (row : Row) (u v : Word) → AreOrdered shape (p ++ row ∷ []) → Contains p (child_row u v shape.n) → (a : ℕ) → a ≤ shape.n → Contains (p ++ row ∷ []) (child_row u v a) → Contains p (child_row u v a)
all_before shape p row u v ordered last a high c = elim (in_front_or p row (child_row u v a) c) [
  | inl h ↦ h
  | inr e ↦ absurd (no_earlier u a shape.n high (subst (λ (t : Row). IsBefore (child u shape.n) t.from) e (before_last shape p row ordered (child_row u v shape.n) last)))
]

-- for a reduced list with that row behind it some caret is whole only if the row closes it
pub still_reduced : (shape : Shape) (p : List Row) (row : Row) → AreOrdered shape (p ++ row ∷ []) → IsReduced shape p → ¬ ClosesCaret shape p row → IsReduced shape (p ++ row ∷ [])
still_reduced shape p row ordered reduced open_end u v rows = elim (in_front_or p row (child_row u v shape.n) (rows shape.n (omega (arith, shape.letters_low)) (omega arith))) [
  | inl c ↦ reduced u v (λ a low high. all_before shape p row u v ordered c a high (rows a low high))
  | inr e ↦ open_end (closing shape p row u v ordered e rows)
]

-- the row takes the place of the caret that it closes
pub caret_merged : (shape : Shape) (rows front : List Row) (row last : Row) → MergesDown shape rows row front last → (h : ClosesCaret shape front last) → MergesDown shape rows row h.before (record { from = h.from; to = h.to })
caret_merged shape rows front row last added h =
    let K = child_rows h.from h.to (shape.n - 1) in
    let next : suc (shape.n - 1) ≡ shape.n = omega (arith, shape.letters_low) in
    let caret : K ++ last ∷ [] ≡ child_rows h.from h.to shape.n = ap (λ t. K ++ t ∷ []) (h.last_is ∙ ap (child_row h.from h.to) (sym next)) ∙ ap (child_rows h.from h.to) next in
    let is : front ++ last ∷ [] ≡ h.before ++ child_rows h.from h.to shape.n ++ [] = ap (λ t. t ++ last ∷ []) h.rows_are ∙ append_assoc h.before K (last ∷ []) ∙ ap (λ t. h.before ++ t) caret ∙ sym (append-nil (h.before ++ child_rows h.from h.to shape.n)) in
    record {
      merges = merged h.before [] h.from h.to (subst (Merges shape (rows ++ row ∷ [])) is added.merges);
      taken = K ++ added.taken;
      rows_are = added.rows_are ∙ ap (λ t. t ++ added.taken) h.rows_are ∙ append_assoc h.before K added.taken;
    }
