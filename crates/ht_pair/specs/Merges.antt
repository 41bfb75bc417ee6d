-- How rows become fewer: the n rows below a row give way to the row.
--
--     each_to f k                            the list f 1, f 2 to f k
--     child_rows u v k                       the rows u1 to v1, u2 to v2 and so on, up to the letter k
--     ClosesCaret shape rows last            the last n - 1 of the rows and the row behind them are the n child rows of one row
--     Merges shape p q                       q is p after some merges, each of n child rows in one place to the row above them
--     MergesDown shape rows row front last   the rows and the row behind them merge to a front of the rows and a last row
--     IsAdded shape rows row added           so they do, and the last row closes no caret
--     IsReducedOf shape p q                  q is canonical and moves words as p does, with no more rows and no longer words
use Rattle.std.specs.Prelude.{ℕ, zero, suc, ◌≡◌, ◌≤◌, ◌-◌, List, [], ◌∷◌, ◌++◌, length}
use Rattle.ht_word.specs.declared.word.Word.{Word}
use Rattle.ht_word.specs.declared.shape.Shape.{Shape}
use Rattle.ht_pair.specs.declared.row.Row.{Row}
use Rattle.ht_pair.specs.Pairs.{longest_of}
use Rattle.ht_pair.specs.Actions.{child_row, IsCanonicalFor}

abbrev pub each_to : {T : Type 0} → (ℕ → T) → ℕ → List T
each_to f zero = []
each_to f (suc k) = each_to f k ++ f (suc k) ∷ []

abbrev pub child_rows : Word → Word → ℕ → List Row
child_rows u v k = each_to (child_row u v) k

pub record ClosesCaret (shape : Shape) (rows : List Row) (last : Row) : Type 0 where
  pub from : Word
  pub to : Word
  pub before : List Row
  pub rows_are : rows ≡ before ++ child_rows from to (shape.n - 1)
  pub last_is : last ≡ child_row from to shape.n

pub data Merges (shape : Shape) (p : List Row) : List Row → Type 0 where
  unmerged : Merges shape p p
  merged : (before behind : List Row) (u v : Word) → Merges shape p (before ++ child_rows u v shape.n ++ behind) → Merges shape p (before ++ record { from = u; to = v } ∷ behind)

pub record MergesDown (shape : Shape) (rows : List Row) (row : Row) (front : List Row) (last : Row) : Type 0 where
  pub merges : Merges shape (rows ++ row ∷ []) (front ++ last ∷ [])
  pub taken : List Row
  pub rows_are : rows ≡ front ++ taken

pub record IsAdded (shape : Shape) (rows : List Row) (row : Row) (added : List Row) : Type 0 where
  pub front : List Row
  pub last : Row
  pub added_is : added ≡ front ++ last ∷ []
  pub down : MergesDown shape rows row front last
  pub open_end : ¬ ClosesCaret shape front last

pub record IsReducedOf (shape : Shape) (p q : List Row) : Type 0 where
  pub canonical : IsCanonicalFor shape q p
  pub fewer : length q ≤ length p
  pub shorter : longest_of q ≤ longest_of p
