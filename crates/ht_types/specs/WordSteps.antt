-- Where one step leads from the words of a basis X, and the kind that two courses tell. A step is what the k-th power of a pair p does: k is 1 for
-- the steps ahead, and -1 for those behind.
--
--     LeadsTo shape p X k x to rest  the power carries x to the word of X at the place with the letters behind it
--     HasStep shape p X k x step     what the power does with x: it carries x to no word, or to a word under X
--     AreSteps shape p X k steps     each word of X has the step at its place
--     HasSteps a X back ahead behind back is the inverse of the element a; the lists are the steps of a from the words of X, ahead and behind
--     ReturnsToo ahead behind        if steps back lead to the word itself, steps ahead come back to it
--     reach_of course                where the course joins
--     turned_kind ahead behind       the kind of a word to which no steps ahead come back
--     told_kind ahead behind         the kind of a word with these courses by the steps of an element and of its inverse
use Rattle.std.specs.Prelude.{ℕ, ℤ, ◌≡◌, List, [], ◌∷◌, length, Option, None, Some, slice_get}
use Rattle.ht_word.specs.declared.word.Word.{Word}
use Rattle.ht_word.specs.declared.shape.Shape.{Shape}
use Rattle.ht_word.specs.Words.{◌·◌}
use Rattle.ht_pair.specs.declared.row.Row.{Row}
use Rattle.ht_pair.specs.Elements.{ElementValue}
use Rattle.ht_pair.specs.Steps.{Carries}
use Rattle.ht_types.specs.Flows.{power_in, LeadsIn}
use Rattle.ht_types.specs.declared.direction.Direction.TheVariants.{Ahead, Behind}
use Rattle.ht_types.specs.declared.step.Step.{Step}
use Rattle.ht_types.specs.declared.step.Step.TheVariants.{Splits, Leads}
use Rattle.ht_types.specs.declared.kind.Reach.{Reach}
use Rattle.ht_types.specs.declared.kind.Kind.{Kind}
use Rattle.ht_types.specs.declared.kind.Kind.TheVariants.{Cycle, Attractor, Repeller, Passing}
use Rattle.ht_types.specs.declared.course.Course.{Course}
use Rattle.ht_types.specs.declared.course.Course.TheVariants.{Ends, Returns, Joins}

pub record LeadsTo (shape : Shape) (p : List Row) (X : List Word) (k : ℤ) (x : Word) (to : ℕ) (rest : List ℕ) : Type 0 where
  pub above : Word
  pub here : slice_get X to ≡ Some above
  pub carries : Carries shape p k x (above · rest)

abbrev pub HasStep : Shape → List Row → List Word → ℤ → Word → Step → Type 0
HasStep shape p X k x Splits = (v : Word) → ¬ Carries shape p k x v
HasStep shape p X k x (Leads to rest) = LeadsTo shape p X k x to rest

pub record AreSteps (shape : Shape) (p : List Row) (X : List Word) (k : ℤ) (steps : List Step) : Type 0 where
  pub as_many : length steps ≡ length X
  pub each : (place : ℕ) (x : Word) (step : Step) → slice_get X place ≡ Some x → slice_get steps place ≡ Some step → HasStep shape p X k x step

pub record HasSteps (a : ElementValue) (X : List Word) (back : ElementValue) (ahead behind : List Step) : Type 0 where
  pub inverse : LeadsIn Behind a back
  pub are_ahead : AreSteps a.shape a.rows X (power_in Ahead 1) ahead
  pub are_behind : AreSteps a.shape a.rows X (power_in Behind 1) behind

abbrev pub ReturnsToo : Course → Course → Type 0
ReturnsToo ahead behind = (m : ℕ) → behind ≡ Returns m [] → (k : ℕ) × (by : List ℕ) × (ahead ≡ Returns k by)

abbrev pub reach_of : Course → Option Reach
reach_of Ends = None
reach_of (Returns m by) = None
reach_of (Joins reach) = Some reach

abbrev pub turned_kind : Course → Course → Kind
turned_kind ahead Ends = Passing (reach_of ahead) None
turned_kind ahead (Returns m by) = Repeller m by
turned_kind ahead (Joins reach) = Passing (reach_of ahead) (Some reach)

abbrev pub told_kind : Course → Course → Kind
told_kind Ends behind = turned_kind Ends behind
told_kind (Returns m []) behind = Cycle m
told_kind (Returns m (a ∷ z)) behind = Attractor m (a ∷ z)
told_kind (Joins reach) behind = turned_kind (Joins reach) behind
