-- What a write that was refused leaves behind.
--
--     AddsFront old new text   the bytes new are old and a front of text behind them
use Rattle.std.specs.Prelude.{◌≡◌, ℕ, List, ◌++◌}

pub record AddsFront (old new text : List ℕ) : Type 0 where
  pub front : List ℕ
  pub rest : List ℕ
  pub text_is : text ≡ front ++ rest
  pub new_is : new ≡ old ++ front
