-- The rows of value lists, built list by list.
use Rattle.std.proofs.Common.{◌≡◌, ℕ, zero, suc, ◌+◌, List, [], ◌∷◌, ◌++◌, take, Some, slice_get, sym, ap, ◌∙◌, arith, append_assoc}
use Rattle.std.proofs.lemmas.List.{append-nil}
use Rattle.std.proofs.lemmas.Option.{same_Some}
use Rattle.ht_word.specs.declared.word.Word.{Word}
use Rattle.ht_pair.specs.Images.{Entry}
use Rattle.ht_pair.specs.declared.row.Row.{Row}
use Rattle.ht_local.specs.PlacedLists.{rows_at, rows_of_list}

next_rows : (X : List Word) (k : List ℕ) (lists : List (List Entry)) (i place : ℕ) (L : List Entry) → slice_get k i ≡ Some place → slice_get lists i ≡ Some L
    → rows_at X (take (suc i) k) (take (suc i) lists) ≡ rows_at X (take i k) (take i lists) ++ rows_of_list (slice_get X place) L
next_rows X [] lists i place L e h = absurd cc
next_rows X (q ∷ k) [] i place L e h = absurd cc
next_rows X (q ∷ k) (M ∷ lists) zero place L e h =
    append-nil (rows_of_list (slice_get X q) M) ∙ ap (λ (N : List Entry). rows_of_list (slice_get X q) N) (same_Some M L h) ∙ ap (λ (j : ℕ). rows_of_list (slice_get X j) L) (same_Some q place e)
next_rows X (q ∷ k) (M ∷ lists) (suc i) place L e h =
    ap (λ (rows : List Row). rows_of_list (slice_get X q) M ++ rows) (next_rows X k lists i place L e h) ∙ sym (append_assoc (rows_of_list (slice_get X q) M) (rows_at X (take i k) (take i lists)) (rows_of_list (slice_get X place) L))

pub more_rows : (X : List Word) (k : List ℕ) (lists : List (List Entry)) (i place : ℕ) (L : List Entry) (rows new more : List Row) → slice_get k i ≡ Some place → slice_get lists i ≡ Some L
    → rows ≡ rows_at X (take i k) (take i lists) → more ≡ rows_of_list (slice_get X place) L → new ≡ rows ++ more → new ≡ rows_at X (take (i + 1) k) (take (i + 1) lists)
more_rows X k lists i place L rows new more e h built is sum =
    let next : i + 1 ≡ suc i = omega arith in
    sum ∙ ap (λ (r : List Row). r ++ more) built ∙ ap (λ (r : List Row). rows_at X (take i k) (take i lists) ++ r) is ∙ sym (next_rows X k lists i place L e h) ∙ ap (λ (j : ℕ). rows_at X (take j k) (take j lists)) (sym next)
