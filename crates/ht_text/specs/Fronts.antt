-- Fronts of texts: what may stand at the begin of one.
--
--     IsNumText text            text is the text of some number
--     IsWordText text           text is the text of some word
--     IsRowsText text           text is the text of some rows
--     IsFront P bytes           bytes are a front of a text of P: some bytes behind them make one
--     IsLongestFront P bytes k  the first k of the bytes are the longest front of a text of P among their fronts
use Rattle.std.specs.Prelude.{ℕ, ◌≤◌, List, ◌++◌, length, take}
use Rattle.ht_word.specs.declared.word.Word.{Word}
use Rattle.ht_pair.specs.declared.row.Row.{Row}
use Rattle.ht_text.specs.Texts.{IsNum, IsWord, IsRows}

abbrev pub IsNumText : List ℕ → Type 0
IsNumText text = (n : ℕ) × IsNum text n

abbrev pub IsWordText : List ℕ → Type 0
IsWordText text = (w : Word) × IsWord text w

abbrev pub IsRowsText : List ℕ → Type 0
IsRowsText text = (rows : List Row) × IsRows text rows

pub record IsFront (P : List ℕ → Type 0) (bytes : List ℕ) : Type 0 where
  pub rest : List ℕ
  pub text : P (bytes ++ rest)

pub record IsLongestFront (P : List ℕ → Type 0) (bytes : List ℕ) (k : ℕ) : Type 0 where
  pub within : k ≤ length bytes
  pub front : IsFront P (take k bytes)
  pub longest : (j : ℕ) → j ≤ length bytes → IsFront P (take j bytes) → j ≤ k
