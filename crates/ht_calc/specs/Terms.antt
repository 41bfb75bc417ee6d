-- The terms of factors whose names are bound to elements, and whose exponents are not wide; and the elements that a product makes
-- of them, one after another.
--
--     IsTermOf shape names factor term       the factor's name is bound to an element of the shape with the term's rows, and its
--                                            exponent is the term's
--     AreTermsOf shape names factors terms   such a term for each factor, in order
--     HasTerm shape names factor             the factor has such a term
--     IsRaised shape term s                  s is the term's power, and no power over its chain is large
--     IsRaisedBehind shape p term s          s is p and then such a power, and isn't large
--     IsLargeNext shape p term rows letters  the term's power over its chain, or else p and then that power, is large, and the first
--                                            such has these numbers
use Rattle.std.specs.Prelude.{◌≡◌, ◌⊎◌, ℕ, List, [], ◌∷◌, Some, ⊤}
use Rattle.ht_word.specs.declared.shape.Shape.{Shape}
use Rattle.ht_pair.specs.declared.row.Row.{Row}
use Rattle.ht_pair.specs.Pairs.{IsPair}
use Rattle.ht_pair.specs.Elements.{ElementValue}
use Rattle.ht_pair.specs.Sizes.{IsLarge}
use Rattle.ht_pair.specs.Products.{IsPower, IsProduct}
use Rattle.ht_pair.specs.PowerSizes.{IsLargePower}
use Rattle.ht_script.specs.declared.factor.Factor.{Factor}
use Rattle.ht_script.specs.declared.factor.Exponent.TheVariants.{Fits}
use Rattle.ht_calc.specs.Names.{bound}
use Rattle.ht_calc.specs.Products.{Term}

pub record IsTermOf (shape : Shape) (names : List (List ℕ × ElementValue)) (factor : Factor) (term : Term) : Type 0 where
  pub element : bound names factor.name ≡ Some (record { shape = shape; rows = term.rows })
  pub pair : IsPair shape term.rows
  pub exponent : factor.exponent ≡ Fits (term.exponent)

abbrev pub AreTermsOf : Shape → List (List ℕ × ElementValue) → List Factor → List Term → Type 0
AreTermsOf shape names [] [] = ⊤
AreTermsOf shape names [] (term ∷ terms) = ⊥
AreTermsOf shape names (factor ∷ factors) [] = ⊥
AreTermsOf shape names (factor ∷ factors) (term ∷ terms) = IsTermOf shape names factor term × AreTermsOf shape names factors terms

abbrev pub HasTerm : Shape → List (List ℕ × ElementValue) → Factor → Type 0
HasTerm shape names factor = (term : Term) × IsTermOf shape names factor term

pub record IsRaised (shape : Shape) (term : Term) (s : List Row) : Type 0 where
  pub power : IsPower shape term.rows term.exponent s
  pub small : (i j : ℕ) → ¬ IsLargePower shape term.rows term.exponent i j

pub record IsRaisedBehind (shape : Shape) (p : List Row) (term : Term) (s : List Row) : Type 0 where
  pub q : List Row
  pub raised : IsRaised shape term q
  pub product : IsProduct shape p q s
  pub small : (i j : ℕ) → ¬ IsLarge shape s i j

pub record IsLargeFollowed (shape : Shape) (p : List Row) (term : Term) (rows letters : ℕ) : Type 0 where
  pub q : List Row
  pub raised : IsRaised shape term q
  pub s : List Row
  pub product : IsProduct shape p q s
  pub large : IsLarge shape s rows letters

abbrev pub IsLargeNext : Shape → List Row → Term → ℕ → ℕ → Type 0
IsLargeNext shape p term rows letters = IsLargePower shape term.rows term.exponent rows letters ⊎ IsLargeFollowed shape p term rows letters
