-- Lists of words that cover one another, and bases (Higman 1974).
-- A basis is told from all words of one length; nothing is expanded here.
--
--     AreApart u v           neither word is a prefix of the other
--     IsPrefixFree W         no entry is a prefix of another entry, and none stands twice
--     longest W              the letters of the longest word
--     Covers shape W V       W is prefix-free, and under W are just the words under V
--     roots shape            the roots x1 to xr
--     IsBasis shape X        X covers the roots: each infinite word has exactly one prefix in X
--     IsAllUnder X W         each word of X is under W
--     TakesAtMost shape X k  X has at most the words of k expansions of the roots, each of one word to n words
use Rattle.std.specs.Prelude.{ℕ, zero, suc, ◌≡◌, ◌≤◌, ◌+◌, ◌-◌, ◌*◌, List, [], ◌∷◌, ◌++◌, ◌↔◌, length, max, All, AllPairs}
use Rattle.ht_word.specs.declared.word.Word.{Word}
use Rattle.ht_word.specs.declared.shape.Shape.{Shape}
use Rattle.ht_word.specs.Words.{IsWordOf, IsUnder, IsUnderSome, root_word}

abbrev pub AreApart : Word → Word → Type 0
AreApart u v = ¬ IsUnder u v × ¬ IsUnder v u

abbrev pub IsPrefixFree : List Word → Type 0
IsPrefixFree W = AllPairs AreApart W

abbrev pub longest : List Word → ℕ
longest [] = 0
longest (w ∷ W) = max (length w.letters) (longest W)

-- the words are of the shape: no word of the shape is under a foreign one, which would pass unseen
pub record Covers (shape : Shape) (W V : List Word) : Type 0 where
  pub words : All (IsWordOf shape) W
  pub prefix_free : IsPrefixFree W
  pub same : (u : Word) → IsWordOf shape u → length u.letters ≡ max (longest W) (longest V) → IsUnderSome u W ↔ IsUnderSome u V

-- the roots 1 to k
abbrev pub roots_to : ℕ → List Word
roots_to zero = []
roots_to (suc k) = roots_to k ++ root_word (suc k) ∷ []

abbrev pub roots : Shape → List Word
roots shape = roots_to shape.r

abbrev pub IsBasis : Shape → List Word → Type 0
IsBasis shape X = Covers shape X (roots shape)

abbrev pub IsAllUnder : List Word → List Word → Type 0
IsAllUnder X W = All (λ x. IsUnderSome x W) X

abbrev pub TakesAtMost : Shape → List Word → ℕ → Type 0
TakesAtMost shape X k = length X ≤ shape.r + k * (shape.n - 1)
