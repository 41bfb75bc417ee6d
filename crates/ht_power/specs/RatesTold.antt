-- What is told of the rates of two elements f and g with their quasinormal bases.
--
--     HasPeriod t x m                x is an attractor or a repeller, with the period m
--     TellsPeriod t place result     the period, where the word at the place is such an end
--     IsJoined t W number k          the least common multiple of the number and the periods of the ends in W
--     TellsJoined t W number result  it; or it is wide
--     IsEndIn direction t x m by     walks in the direction end at x: it is an attractor, or behind a repeller
--     TellsEnd direction t place result   the period and the number of letters, where the word at the place is such an end
--     IsRateIn direction t M total   the sum of the rates over the ends of walks in the direction
--     TellsRate direction t M result it; or it is wide
--     AreRates f g rates             the rates of both, none of them wide
--     TellsRates f g result          the rates; or one of them is wide
use Rattle.std.specs.Prelude.{ℕ, ◌≡◌, ◌<◌, ◌^◌, ◌⊎◌, List, [], ◌∷◌, length, Option, None, Some, slice_get, MatchOption}
use Rattle.ht_word.specs.declared.word.Word.{Word}
use Rattle.ht_num.specs.Numbers.{IsLeastMultiple, IsSomeWide, IsWide}
use Rattle.ht_pair.specs.Kinds.{IsAttractor, IsRepeller}
use Rattle.ht_pair.specs.Rates.{HasRates, IsPeriod, IsRateSum}
use Rattle.ht_types.specs.declared.direction.Direction.{Direction}
use Rattle.ht_types.specs.declared.direction.Direction.TheVariants.{Ahead, Behind}
use Rattle.ht_types.specs.TypedElements.{TypedValue}
use Rattle.ht_power.specs.declared.rates.Rates.{Rates}

abbrev pub HasPeriod : TypedValue → Word → ℕ → Type 0
HasPeriod t x m = (by : List ℕ) × (IsAttractor t.element.shape t.element.rows x m by ⊎ IsRepeller t.element.shape t.element.rows x m by)

abbrev pub TellsPeriod : TypedValue → ℕ → Option ℕ → Type 0
TellsPeriod t place (Some m) = (x : Word) → slice_get t.quasi.basis.words place ≡ Some x → HasPeriod t x m
TellsPeriod t place None = (x : Word) → slice_get t.quasi.basis.words place ≡ Some x → (m : ℕ) → ¬ HasPeriod t x m

abbrev pub IsJoined : TypedValue → List Word → ℕ → ℕ → Type 0
IsJoined t W number k = IsLeastMultiple (λ m. (m ≡ number) ⊎ IsPeriod t.element.shape t.element.rows W m) k

abbrev pub TellsJoined : TypedValue → ℕ → Option ℕ → Type 0
TellsJoined t number result = MatchOption result ((k : ℕ) × IsJoined t t.quasi.basis.words number k × IsWide k) (λ k. IsJoined t t.quasi.basis.words number k × (k < 2 ^ 127))

abbrev pub IsEndIn : Direction → TypedValue → Word → ℕ → List ℕ → Type 0
IsEndIn Ahead t x m by = IsAttractor t.element.shape t.element.rows x m by
IsEndIn Behind t x m by = IsRepeller t.element.shape t.element.rows x m by

abbrev pub TellsEnd : Direction → TypedValue → ℕ → Option (ℕ × ℕ) → Type 0
TellsEnd direction t place (Some end) = (x : Word) → slice_get t.quasi.basis.words place ≡ Some x → (by : List ℕ) × IsEndIn direction t x end.0 by × (end.1 ≡ length by)
TellsEnd direction t place None = (x : Word) → slice_get t.quasi.basis.words place ≡ Some x → (m : ℕ) (by : List ℕ) → ¬ IsEndIn direction t x m by

abbrev pub IsRateIn : Direction → TypedValue → ℕ → ℕ → Type 0
IsRateIn direction t M total = IsRateSum (IsEndIn direction t) t.quasi.basis.words M total

abbrev pub TellsRate : Direction → TypedValue → ℕ → Option ℕ → Type 0
TellsRate direction t M result = MatchOption result ((total : ℕ) × IsRateIn direction t M total × IsWide total) (λ total. IsRateIn direction t M total × (total < 2 ^ 127))

abbrev pub all_rates : Rates → List ℕ
all_rates rates = rates.period ∷ rates.first_ahead ∷ rates.first_behind ∷ rates.second_ahead ∷ rates.second_behind ∷ []

abbrev pub HaveRates : TypedValue → TypedValue → ℕ → ℕ → ℕ → ℕ → ℕ → Type 0
HaveRates f g = HasRates f.element.shape f.element.rows g.element.rows f.quasi.basis.words g.quasi.basis.words

pub record AreRates (f g : TypedValue) (rates : Rates) : Type 0 where
  pub have : HaveRates f g rates.period rates.first_ahead rates.first_behind rates.second_ahead rates.second_behind
  pub small : ¬ IsSomeWide (all_rates rates)

pub record AreWideRates (f g : TypedValue) : Type 0 where
  pub period : ℕ
  pub first_ahead : ℕ
  pub first_behind : ℕ
  pub second_ahead : ℕ
  pub second_behind : ℕ
  pub have : HaveRates f g period first_ahead first_behind second_ahead second_behind
  pub wide : IsSomeWide (period ∷ first_ahead ∷ first_behind ∷ second_ahead ∷ second_behind ∷ [])

abbrev pub TellsRates : TypedValue → TypedValue → Option Rates → Type 0
TellsRates f g (Some rates) = AreRates f g rates
TellsRates f g None = AreWideRates f g
