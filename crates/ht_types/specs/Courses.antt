-- Where the steps of the words of a basis lead, one after another; the words are told by their places, from 0.
--
--     AreInside steps              steps lead to places of the list
--     Goes steps k x y z           k steps lead from the word at x to that at y, with the letters z behind it
--     IsRound steps x k            k steps lead from the word at x back to it, with some letters behind it
--     Turns steps x                some number of steps from 1 on does
--     EndsFrom steps x             some steps lead from the word at x to one that splits
--     JoinsFirst steps x reach     the reach's steps lead to the reach's word, which turns, and none on the way turns
--     HasCourse steps x course     the course is that of the word at x
--     AreCourses steps courses     the courses of all words, in their order
use Rattle.std.specs.Prelude.{ℕ, zero, suc, ◌≡◌, ◌≤◌, ◌<◌, List, [], ◌++◌, length, Some, slice_get}
use Rattle.ht_num.specs.Numbers.{IsLeastPositive}
use Rattle.ht_types.specs.declared.step.Step.{Step}
use Rattle.ht_types.specs.declared.step.Step.TheVariants.{Splits, Leads}
use Rattle.ht_types.specs.declared.kind.Reach.{Reach}
use Rattle.ht_types.specs.declared.course.Course.{Course}
use Rattle.ht_types.specs.declared.course.Course.TheVariants.{Ends, Returns, Joins}

abbrev pub AreInside : List Step → Type 0
AreInside steps = (x y : ℕ) (rest : List ℕ) → slice_get steps x ≡ Some (Leads y rest) → y < length steps

unfoldable pub Goes : List Step → ℕ → ℕ → ℕ → List ℕ → Type 0
Goes steps zero x y z = (x ≡ y) × (z ≡ [])
Goes steps (suc k) x y z = (next : ℕ) × (rest : List ℕ) × (behind : List ℕ) × (slice_get steps x ≡ Some (Leads next rest)) × Goes steps k next y behind × (z ≡ behind ++ rest)

abbrev pub IsRound : List Step → ℕ → ℕ → Type 0
IsRound steps x k = (z : List ℕ) × Goes steps k x x z

pub record Turns (steps : List Step) (x : ℕ) : Type 0 where
  pub count : ℕ
  pub positive : 1 ≤ count
  pub round : IsRound steps x count

pub record EndsFrom (steps : List Step) (x : ℕ) : Type 0 where
  pub count : ℕ
  pub last : ℕ
  pub behind : List ℕ
  pub goes : Goes steps count x last behind
  pub splits : slice_get steps last ≡ Some Splits

pub record JoinsFirst (steps : List Step) (x : ℕ) (reach : Reach) : Type 0 where
  pub goes : Goes steps reach.steps x reach.to reach.rest
  pub turns : Turns steps reach.to
  pub first : (j y : ℕ) (z : List ℕ) → j < reach.steps → Goes steps j x y z → ¬ Turns steps y

abbrev pub HasCourse : List Step → ℕ → Course → Type 0
HasCourse steps x Ends = EndsFrom steps x
HasCourse steps x (Returns m by) = IsLeastPositive (IsRound steps x) m × Goes steps m x x by
HasCourse steps x (Joins reach) = (1 ≤ reach.steps) × JoinsFirst steps x reach

pub record AreCourses (steps : List Step) (courses : List Course) : Type 0 where
  pub as_many : length courses ≡ length steps
  pub each : (x : ℕ) (course : Course) → slice_get courses x ≡ Some course → HasCourse steps x course
