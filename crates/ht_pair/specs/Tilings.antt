-- Which cone comes right behind which, and lists of cones one behind another.
-- The path of a word is its root and then its letters; cones lie in order of their paths.
--
--     path u                   the root of u, then its letters
--     IsStep n a b s t         b is one more than a; in s, behind a, is n only, and in t, behind b, is 1 only
--     NextPath n s t           s and t agree up to an entry where they make a step
--     Follows shape u v        the cone of v begins where the cone of u ends
--     TilesBehind shape u W    the cones of W follow one another, from the end of the cone of u to the end of all
--     IsTiling shape W         the cones of W follow one another, from the beginning of all to the end
use Rattle.std.specs.Prelude.{ℕ, suc, ◌≡◌, ◌⊎◌, List, [], ◌∷◌, All}
use Rattle.ht_word.specs.declared.word.Word.{Word}
use Rattle.ht_word.specs.declared.shape.Shape.{Shape}
use Rattle.ht_word.specs.Words.{root_word}

abbrev pub path : Word → List ℕ
path u = u.root ∷ u.letters

abbrev pub IsStep : ℕ → ℕ → ℕ → List ℕ → List ℕ → Type 0
IsStep n a b s t = (suc a ≡ b) × All (λ c. c ≡ n) s × All (λ c. c ≡ 1) t

abbrev pub NextPath : ℕ → List ℕ → List ℕ → Type 0
NextPath n [] t = ⊥
NextPath n (a ∷ s) [] = ⊥
NextPath n (a ∷ s) (b ∷ t) = ((a ≡ b) × NextPath n s t) ⊎ IsStep n a b s t

abbrev pub Follows : Shape → Word → Word → Type 0
Follows shape u v = NextPath shape.n (path u) (path v)

abbrev pub TilesBehind : Shape → Word → List Word → Type 0
TilesBehind shape u [] = Follows shape u (root_word (suc shape.r))
TilesBehind shape u (v ∷ W) = Follows shape u v × TilesBehind shape v W

abbrev pub IsTiling : Shape → List Word → Type 0
IsTiling shape W = TilesBehind shape (root_word 0) W
