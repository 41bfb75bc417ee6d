-- What is told of two elements is what the power rule answers, and true.
use Rattle.std.proofs.Common.{◌≡◌, ◌≢◌, ◌∙◌, ℕ, ℤ, List, [], Result, Ok, Err, IfOk, sym, ap, subst}
use Rattle.ht_word.specs.declared.shape.Shape.{Shape}
use Rattle.ht_word.specs.declared.word.Word.{Word}
use Rattle.ht_pair.specs.declared.row.Row.{Row}
use Rattle.ht_pair.specs.declared.decider.Which.{Which}
use Rattle.ht_pair.specs.declared.decider.Which.TheVariants.{First, Second}
use Rattle.ht_pair.specs.declared.verdict.PowerVerdict.{PowerVerdict}
use Rattle.ht_pair.specs.declared.verdict.PowerVerdict.TheVariants as verdict
use Rattle.ht_pair.specs.Bases.{TakesAtMost}
use Rattle.ht_pair.specs.Budgets.{FitsBudget}
use Rattle.ht_pair.specs.Elements.{ElementValue}
use Rattle.ht_pair.specs.Pairs.{IsPair}
use Rattle.ht_pair.specs.Parts.{HasParts, IsInfinitePart}
use Rattle.ht_pair.specs.PowerRule.{Answers, BothInfinite, OneInfinite, PowerRule}
use Rattle.ht_pair.specs.PowerTrials.{PowerAnswer, NoPowers}
use Rattle.ht_pair.specs.PowerVerdicts.{ConjugatesPowers, IsPowerVerdict}
use Rattle.ht_pair.proofs.PowerLaws.{power_exists}
use Rattle.ht_pair.specs.SemiNormal.{IsQuasinormal}
use Rattle.ht_types.specs.TypedElements.{TypedValue}
use Rattle.ht_laws.proofs.PowerRuleLaws.{IsPrintedBy, rule_printed}
use Rattle.ht_power_laws.proofs.PowerBases.{powers_fit, parts_fit}
use Rattle.ht_power_laws.proofs.RefutedPowers.{rule_none}
use Rattle.ht_power.specs.declared.fault.PowerFault.{PowerFault}
use Rattle.ht_power.specs.declared.fault.PowerFault.TheVariants as fault
use Rattle.ht_power.specs.SignsTold.{HasFitParts}
use Rattle.ht_power.specs.Told.{AnswersOf, HasFitPowers, Tells, TellsBasis}

-- where each answer with the one property has the other, it is told of the other too
tells_weaker : (P Q : PowerAnswer → Type 0) → ((answer : PowerAnswer) → P answer → Q answer) → (result : Result PowerVerdict PowerFault) → Tells P result → Tells Q result
tells_weaker P Q weaker (Ok verdict) told = weaker _ told
tells_weaker P Q weaker (Err (fault.Budget First)) told = weaker _ told
tells_weaker P Q weaker (Err (fault.Budget Second)) told = weaker _ told
tells_weaker P Q weaker (Err (fault.Large rows letters)) told = weaker _ told
tells_weaker P Q weaker (Err fault.Wide) told = weaker _ told
tells_weaker P Q weaker (Err fault.NoMemory) told = tt

-- a fault that is passed on
pub told_err : (P : PowerAnswer → Type 0) (result : Result PowerVerdict PowerFault) (made failed : PowerFault) → result ≡ Err made → made ≡ failed → Tells P (Err failed) → Tells P result
told_err P result made failed is same told = subst (Tells P) (sym (is ∙ ap Err same)) told

-- what the rule prints conjugates powers
printed_conjugates : (shape : Shape) (a b : List Row) (i j : ℤ) (h : List Row) → IsPair shape a → IsPair shape b → IsPrintedBy shape a b i j h → ConjugatesPowers shape a b i j h
printed_conjugates shape a b i j h pair_a pair_b printed =
    let s = power_exists shape a i pair_a in
    let t = power_exists shape b j pair_b in
    record {
      above = printed.above;
      first = s.0;
      second = t.0;
      first_power = s.1;
      second_power = t.1;
      first_moves = printed.first_moves s.0 s.1;
      second_moves = printed.second_moves t.0 t.1;
      canonical = printed.printed.canonical;
      conjugates = printed.conjugates s.0 t.0 s.1 t.1;
    }

-- the verdict that the rule gives is true
pub rule_verdict : (shape : Shape) (a b : List Row) (budget : ℕ) → IsPair shape a → IsPair shape b → (result : Result PowerVerdict PowerFault) → Tells (PowerRule shape a b budget) result → IfOk result (IsPowerVerdict shape a b)
rule_verdict shape a b budget pair_a pair_b (Ok (verdict.Powers i j by)) rule = printed_conjugates shape a b i j by pair_a pair_b (rule_printed shape a b budget i j by pair_a pair_b rule)
rule_verdict shape a b budget pair_a pair_b (Ok verdict.None) rule = λ i j. rule_none shape a b budget i j pair_a pair_b rule
rule_verdict shape a b budget pair_a pair_b (Err fault) rule = tt

-- two elements with their quasinormal bases, of one shape
module _ (f g : TypedValue) (same : g.element.shape ≡ f.element.shape) where
  abbrev IsInfinite : TypedValue → List Word → Type 0
  IsInfinite t I = IsInfinitePart t.element.shape t.element.rows t.quasi.basis.words I

  as_first : (J : List Word) → IsInfinite g J → IsInfinitePart f.element.shape g.element.rows g.quasi.basis.words J
  as_first J part = subst (λ (s : Shape). IsInfinitePart s g.element.rows g.quasi.basis.words J) same part

  -- where the one has finite order and the other infinite, there are no powers
  pub only_first : (I : List Word) → IsInfinite f I → I ≢ [] → IsInfinite g [] → AnswersOf f g NoPowers
  only_first I part some none = Answers.one_infinite (OneInfinite.first_infinite part some (as_first [] none))

  pub only_second : (J : List Word) → IsInfinite f [] → IsInfinite g J → J ≢ [] → AnswersOf f g NoPowers
  only_second J none part some = Answers.one_infinite (OneInfinite.second_infinite none (as_first J part) some)

  -- both have infinite order
  pub both_infinite : (I J : List Word) → IsInfinite f I → IsInfinite g J → I ≢ [] → J ≢ [] → BothInfinite f.element.shape f.element.rows g.element.rows f.quasi.basis.words g.quasi.basis.words
  both_infinite I J first second some other = record { first = I; second = J; first_part = first; second_part = as_first J second; first_some = some; second_some = other }

-- an element with its quasinormal basis, found within the budget
module _ (element : ElementValue) (budget : ℕ) (which : Which) (t : TypedValue) (told : TellsBasis element budget which (Ok t)) where
  pub fits : FitsBudget element.shape budget element.rows
  fits = record { basis = t.quasi.basis.words; quasinormal = told.1.quasinormal.least; within = told.2 }

  -- each of its powers fits the budget
  pub fit_powers : HasFitPowers t.element.shape budget t.element.rows
  fit_powers = subst (λ (e : ElementValue). HasFitPowers e.shape budget e.rows) (sym told.0) (λ k s power. powers_fit element.shape element.rows s k budget told.1.canonical.pair power fits)

  -- and so does each of its infinite part
  pub fit_parts : HasFitParts budget t
  fit_parts = subst (λ (e : ElementValue). (first second : List Row) → HasParts e.shape e.rows t.quasi.basis.words first second → HasFitPowers e.shape budget second) (sym told.0)
      (λ first second parts k s power. parts_fit element.shape element.rows first second s t.quasi.basis.words k budget told.1.canonical.pair told.1.quasinormal.least parts power fits)

-- two elements of one shape
module _ (a b : ElementValue) (budget : ℕ) (same : b.shape ≡ a.shape) where
  -- the basis of the first takes too long
  pub first_past : (fault : PowerFault) → TellsBasis a budget First (Err fault) → Tells (PowerRule a.shape a.rows b.rows budget) (Err fault)
  first_past (fault.Budget First) told = PowerRule.first_past told.1.quasinormal told.1.over
  first_past (fault.Budget Second) told = absurd (let apart = told.0 in cc)
  first_past (fault.Large rows letters) told = absurd told
  first_past fault.Wide told = absurd told
  first_past fault.NoMemory told = tt

  module _ (f : TypedValue) (first : TellsBasis a budget First (Ok f)) where
    -- that of the second does
    pub second_past : (fault : PowerFault) → TellsBasis b budget Second (Err fault) → Tells (PowerRule a.shape a.rows b.rows budget) (Err fault)
    second_past (fault.Budget First) told = absurd (let apart = told.0 in cc)
    second_past (fault.Budget Second) told =
        PowerRule.second_past first.1.quasinormal.least (subst (λ (s : Shape). IsQuasinormal s b.rows told.1.basis) same told.1.quasinormal) first.2
        (subst (λ (s : Shape). ¬ TakesAtMost s told.1.basis budget) same told.1.over)
    second_past (fault.Large rows letters) told = absurd told
    second_past fault.Wide told = absurd told
    second_past fault.NoMemory told = tt

    module _ (g : TypedValue) (second : TellsBasis b budget Second (Ok g)) where
      -- both elements have one shape still
      pub same_shape : g.element.shape ≡ f.element.shape
      same_shape = ap (λ (e : ElementValue). e.shape) second.0 ∙ (same ∙ sym (ap (λ (e : ElementValue). e.shape) first.0))

      -- once both bases are at hand
      pub told_answers : (result : Result PowerVerdict PowerFault) → Tells (AnswersOf f g) result → Tells (PowerRule a.shape a.rows b.rows budget) result
      told_answers = tells_weaker (AnswersOf f g) (PowerRule a.shape a.rows b.rows budget) (λ answer answers.
          PowerRule.answers first.1.quasinormal.least
          (subst (λ (s : Shape). IsQuasinormal s b.rows g.quasi.basis.words) same second.1.quasinormal.least) first.2
          (subst (λ (s : Shape). TakesAtMost s g.quasi.basis.words budget) same second.2)
          (subst (λ (e : ElementValue). Answers a.shape a.rows e.rows f.quasi.basis.words g.quasi.basis.words answer) second.0
          (subst (λ (e : ElementValue). Answers e.shape e.rows g.element.rows f.quasi.basis.words g.quasi.basis.words answer) first.0 answers)))
