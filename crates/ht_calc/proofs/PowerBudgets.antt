-- What the power rule says of the budget.
use Rattle.std.proofs.Common.{◌≡◌, ℕ, ◌*◌, List, sym, subst}
use Rattle.std.specs.Prelude.{⊤}
use Rattle.ht_word.specs.declared.shape.Shape.{Shape}
use Rattle.ht_word.specs.declared.word.Word.{Word}
use Rattle.ht_pair.specs.declared.row.Row.{Row}
use Rattle.ht_pair.specs.Budgets.{FitsBudget, IsOverBudget}
use Rattle.ht_pair.specs.FiniteTrials.{FiniteTrials}
use Rattle.ht_pair.specs.PowerRule.{Answers, PowerRule}
use Rattle.ht_pair.specs.PowerSizes.{Sign, Plus, Minus}
use Rattle.ht_pair.specs.PowerTrials.{PowerAnswer, Powers, NoPowers, FirstPastBudget, SecondPastBudget, TooLarge, TooWide}
use Rattle.ht_pair.specs.SignTrials.{BothSigns, SignAnswers, SignTrial}

-- the answer names no basis that takes too many expansions
abbrev NamesNone : PowerAnswer → Type 0
NamesNone (Powers i j h) = ⊤
NamesNone NoPowers = ⊤
NamesNone FirstPastBudget = ⊥
NamesNone SecondPastBudget = ⊥
NamesNone (TooLarge rows letters) = ⊤
NamesNone TooWide = ⊤

by_orders : (shape : Shape) (a b : List Row) (M N : ℕ) (ds : List ℕ) (answer : PowerAnswer) → FiniteTrials shape a b M N ds answer → NamesNone answer
by_orders shape a b M N _ _ FiniteTrials.none_left = tt
by_orders shape a b M N _ _ (FiniteTrials.large large) = tt
by_orders shape a b M N _ _ (FiniteTrials.found compares printed) = tt
by_orders shape a b M N _ _ (FiniteTrials.go_on {ds = ds} {answer = answer} compares not rest) = by_orders shape a b M N ds answer rest

-- with bases of both elements
module _ (shape : Shape) (a b : List Row) (X Y : List Word) where
  by_trial : (sign : Sign) (i j : ℕ) (later : PowerAnswer → Type 0) → ((answer : PowerAnswer) → later answer → NamesNone answer) → (answer : PowerAnswer) → SignTrial shape a b X Y sign i j later answer → NamesNone answer
  by_trial sign i j later then _ (SignTrial.wide wide) = tt
  by_trial sign i j later then _ (SignTrial.parts_large fit has large) = tt
  by_trial sign i j later then _ (SignTrial.powers_large fit has small large) = tt
  by_trial sign i j later then _ (SignTrial.go_on {answer = answer} compares not rest) = then answer rest
  by_trial sign i j later then _ (SignTrial.found_wide compares conjugate order wide) = tt
  by_trial sign i j later then _ (SignTrial.found compares printed order fits) = tt

  by_sign : (sign : Sign) (M ahead behind over over_behind : ℕ) (later : PowerAnswer → Type 0) → ((answer : PowerAnswer) → later answer → NamesNone answer) → (answer : PowerAnswer)
      → SignAnswers shape a b X Y sign M ahead behind over over_behind later answer → NamesNone answer
  by_sign sign M ahead behind over over_behind later then answer (SignAnswers.tried {p = p} {q = q} same ratio trial) = by_trial sign (p * M) (q * M) later then answer trial
  by_sign sign M ahead behind over over_behind later then answer (SignAnswers.left_out differ rest) = then answer rest

  by_signs : (M A B C D : ℕ) (answer : PowerAnswer) → BothSigns shape a b X Y M A B C D answer → NamesNone answer
  by_signs M A B C D = by_sign Plus M A B C D (SignAnswers shape a b X Y Minus M A B D C (λ last. last ≡ NoPowers))
      (by_sign Minus M A B D C (λ last. last ≡ NoPowers) (λ last is. subst NamesNone (sym is) tt))

  by_bases : (answer : PowerAnswer) → Answers shape a b X Y answer → NamesNone answer
  by_bases _ (Answers.one_infinite one) = tt
  by_bases _ (Answers.wide_order both wide) = tt
  by_bases _ (Answers.finite {order_a = M} {order_b = N} {divisors = ds} {answer = answer} both fit ascending tried trials) = by_orders shape a b M N ds answer trials
  by_bases _ (Answers.wide_rates both rates wide) = tt
  by_bases _ (Answers.infinite {M = M} {ahead_a = A} {behind_a = B} {ahead_b = C} {behind_b = D} {answer = answer} both rates fit signs) = by_signs M A B C D answer signs

-- what the answer of the rule says of the bases
abbrev Past : Shape → List Row → List Row → ℕ → PowerAnswer → Type 0
Past shape a b budget FirstPastBudget = IsOverBudget shape budget a
Past shape a b budget SecondPastBudget = FitsBudget shape budget a × IsOverBudget shape budget b
Past shape a b budget (Powers i j h) = ⊤
Past shape a b budget NoPowers = ⊤
Past shape a b budget (TooLarge rows letters) = ⊤
Past shape a b budget TooWide = ⊤

named_or_not : (shape : Shape) (a b : List Row) (budget : ℕ) (answer : PowerAnswer) → NamesNone answer → Past shape a b budget answer
named_or_not shape a b budget FirstPastBudget none = absurd none
named_or_not shape a b budget SecondPastBudget none = absurd none
named_or_not shape a b budget (Powers i j h) none = tt
named_or_not shape a b budget NoPowers none = tt
named_or_not shape a b budget (TooLarge rows letters) none = tt
named_or_not shape a b budget TooWide none = tt

pub past_budget : (shape : Shape) (a b : List Row) (budget : ℕ) (answer : PowerAnswer) → PowerRule shape a b budget answer → Past shape a b budget answer
past_budget shape a b budget _ (PowerRule.first_past {X = X} least over) = record { basis = X; quasinormal = least; over = over }
past_budget shape a b budget _ (PowerRule.second_past {X = X} {Y = Y} least other small over) = (record { basis = X; quasinormal = least; within = small }, record { basis = Y; quasinormal = other; over = over })
past_budget shape a b budget _ (PowerRule.answers {X = X} {Y = Y} {answer = answer} least other small also answers) = named_or_not shape a b budget answer (by_bases shape a b X Y answer answers)
