-- One trial of the power rule: two powers are made and compared. This project's own.
--
--     PowerAnswer                               what the rule answers
--     IsPrinted shape f g h                     h is a normal conjugator of f into g, in canonical form
--     TrialIsLarge shape a b sign i j rows letters   a power over the chain of i of a is large, or else one over the chain of j,
--                                               with the sign, of b; the first such has these numbers
--     TrialCompares shape a b sign i j f g      no power over the two chains is large; f is the i-th power of a, and g the j-th
--                                               of b, with the sign
use Rattle.std.specs.Prelude.{ℕ, ℤ, pos, List}
use Rattle.ht_word.specs.declared.shape.Shape.{Shape}
use Rattle.ht_num.specs.Chains.{chain}
use Rattle.ht_pair.specs.declared.row.Row.{Row}
use Rattle.ht_pair.specs.Actions.{IsCanonical}
use Rattle.ht_pair.specs.Products.{IsPower}
use Rattle.ht_pair.specs.NormalConjugators.{IsNormal}
use Rattle.ht_pair.specs.PowerSizes.{Sign, Plus, signed, IsFirstLarge, NoneLarge}

pub data PowerAnswer : Type 0 where
  Powers : ℤ → ℤ → List Row → PowerAnswer
  NoPowers : PowerAnswer
  FirstPastBudget : PowerAnswer
  SecondPastBudget : PowerAnswer
  TooLarge : ℕ → ℕ → PowerAnswer
  TooWide : PowerAnswer

pub record IsPrinted (shape : Shape) (f g h : List Row) : Type 0 where
  pub canonical : IsCanonical shape h
  pub normal : IsNormal shape h f g

pub data TrialIsLarge (shape : Shape) (a b : List Row) (sign : Sign) (i j rows letters : ℕ) : Type 0 where
  first_large : IsFirstLarge shape a Plus (chain i) rows letters → TrialIsLarge shape a b sign i j rows letters
  second_large : NoneLarge shape a Plus i → IsFirstLarge shape b sign (chain j) rows letters → TrialIsLarge shape a b sign i j rows letters

pub record TrialCompares (shape : Shape) (a b : List Row) (sign : Sign) (i j : ℕ) (f g : List Row) : Type 0 where
  pub first_small : NoneLarge shape a Plus i
  pub second_small : NoneLarge shape b sign j
  pub first_power : IsPower shape a (pos i) f
  pub second_power : IsPower shape b (signed sign j) g
