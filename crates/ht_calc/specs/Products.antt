-- The products that a line makes, of powers of bound elements, from left to right. Elements act on the right: the first factor
-- comes first.
--
--     Term                                     the rows of an element, and an exponent
--     StandFor names factors terms             the factors' names are bound to the terms' rows, and their exponents are the terms'
--     names_of factors                         the factors' names
--     HasWide factors                          some exponent is wide
--     StepsThrough terms u w                   the steps of the terms, as many as their exponents say, lead one after another from u to w
--     IsProductOf shape terms s                s is a pair that moves words as the powers of the terms do, one after another
--     IsLargeBehind shape p terms rows letters behind the product p so far: of the next term's power over its chain, then p times that
--                                              power, and so on, some is large, and the first such has these numbers
--     IsLargeProduct shape terms rows letters  of the elements that the product makes from left to right some is large, and the first
--                                              such has these numbers
use Rattle.std.specs.Prelude.{◌≡◌, ◌⊎◌, ℕ, ℤ, List, [], ◌∷◌, map, Any, Some, ⊤}
use Rattle.ht_word.specs.declared.word.Word.{Word}
use Rattle.ht_word.specs.declared.shape.Shape.{Shape}
use Rattle.ht_word.specs.Words.{IsWordOf}
use Rattle.ht_pair.specs.declared.row.Row.{Row}
use Rattle.ht_pair.specs.Pairs.{IsPair}
use Rattle.ht_pair.specs.Actions.{Moves}
use Rattle.ht_pair.specs.Steps.{Steps}
use Rattle.ht_pair.specs.Sizes.{IsLarge}
use Rattle.ht_pair.specs.Products.{IsProduct, IsPower}
use Rattle.ht_pair.specs.PowerSizes.{IsLargePower}
use Rattle.ht_script.specs.declared.factor.Factor.{Factor}
use Rattle.ht_script.specs.declared.factor.Exponent.TheVariants.{Fits, Wide}
use Rattle.ht_calc.specs.Names.{bound}

pub record Term : Type 0 where
  pub rows : List Row
  pub exponent : ℤ

abbrev pub StandFor : List (List ℕ × List Row) → List Factor → List Term → Type 0
StandFor names [] [] = ⊤
StandFor names [] (term ∷ terms) = ⊥
StandFor names (factor ∷ factors) [] = ⊥
StandFor names (factor ∷ factors) (term ∷ terms) = (bound names factor.name ≡ Some (term.rows)) × (factor.exponent ≡ Fits (term.exponent)) × StandFor names factors terms

abbrev pub names_of : List Factor → List (List ℕ)
names_of factors = map (λ factor. factor.name) factors

abbrev pub HasWide : List Factor → Type 0
HasWide factors = Any (λ (factor : Factor). factor.exponent ≡ Wide) factors

abbrev pub StepsThrough : List Term → Word → Word → Type 0
StepsThrough [] u w = u ≡ w
StepsThrough (term ∷ terms) u w = (v : Word) × Steps term.rows term.exponent u v × StepsThrough terms v w

pub record IsProductOf (shape : Shape) (terms : List Term) (s : List Row) : Type 0 where
  pub pair : IsPair shape s
  pub composed : (u v w : Word) → IsWordOf shape u → StepsThrough terms u v → Moves s u w → v ≡ w

abbrev pub IsLargeBehind : Shape → List Row → List Term → ℕ → ℕ → Type 0
IsLargeBehind shape p [] rows letters = ⊥
IsLargeBehind shape p (term ∷ terms) rows letters = IsLargePower shape term.rows term.exponent rows letters
    ⊎ (((i j : ℕ) → ¬ IsLargePower shape term.rows term.exponent i j) × (q : List Row) × (r : List Row) × IsPower shape term.rows term.exponent q × IsProduct shape p q r
    × (IsLarge shape r rows letters ⊎ (((i j : ℕ) → ¬ IsLarge shape r i j) × IsLargeBehind shape r terms rows letters)))

abbrev pub IsLargeProduct : Shape → List Term → ℕ → ℕ → Type 0
IsLargeProduct shape [] rows letters = ⊥
IsLargeProduct shape (term ∷ terms) rows letters = IsLargePower shape term.rows term.exponent rows letters
    ⊎ (((i j : ℕ) → ¬ IsLargePower shape term.rows term.exponent i j) × (p : List Row) × IsPower shape term.rows term.exponent p × IsLargeBehind shape p terms rows letters)
