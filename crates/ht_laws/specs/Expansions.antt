-- Expansions of bases, one after another (Higman 1974).
--
--     IsReachedBy shape k W X   k expansions lead from W to X, each of one word that gives way to its n children, in its place
use Rattle.std.specs.Prelude.{ℕ, zero, suc, ◌≡◌, List}
use Rattle.ht_word.specs.declared.word.Word.{Word}
use Rattle.ht_word.specs.declared.shape.Shape.{Shape}
use Rattle.ht_pair.specs.HeldBases.{IsExpandedAt}

abbrev pub IsReachedBy : Shape → ℕ → List Word → List Word → Type 0
IsReachedBy shape zero W X = W ≡ X
IsReachedBy shape (suc k) W X = (V : List Word) × (place : ℕ) × IsExpandedAt place (record { shape = shape; words = W }) (record { shape = shape; words = V }) × IsReachedBy shape k V X
