-- Bases that grow by random expansions. This project's own.
--
--     IsGrownOnce shape s X t Y    at the state s a place of X is drawn; the first word from there on that has room gives
--                                  way to its children, in its place; t is the state behind, and Y the words
--     IsGrown shape k s X t Y      k such expansions, one after another
use Rattle.std.specs.Prelude.{ℕ, zero, suc, ◌≡◌, List, length, Some}
use Rattle.ht_word.specs.declared.word.Word.{Word}
use Rattle.ht_word.specs.declared.shape.Shape.{Shape}
use Rattle.ht_pair.specs.HeldBases.{IsExpandedAt}
use Rattle.ht_sample.specs.Draws.{next_state, drawn}
use Rattle.ht_sample.specs.Rooms.{room_from}

pub record IsGrownOnce (shape : Shape) (s : ℕ) (X : List Word) (t : ℕ) (Y : List Word) : Type 0 where
  pub place : ℕ
  pub room : room_from X (drawn s (length X)) ≡ Some place
  pub expanded : IsExpandedAt place (record { shape = shape; words = X }) (record { shape = shape; words = Y })
  pub state : t ≡ next_state s

unfoldable pub IsGrown : Shape → ℕ → ℕ → List Word → ℕ → List Word → Type 0
IsGrown shape zero s X t Y = (s ≡ t) × (X ≡ Y)
IsGrown shape (suc k) s X t Y = (r : ℕ) × (Z : List Word) × IsGrown shape k s X r Z × IsGrownOnce shape r Z t Y
