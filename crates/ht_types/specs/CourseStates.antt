-- What is known of the words of a basis while their courses are looked for: a walk meets words that are new, one after another, which are its path,
-- and then their courses are told from the end of the path to its front.
--
--     LeadsOn steps x y                 the step from x leads to y
--     IsKnown states x                  the course of x is known
--     IsNextKnown steps states x        so is that of the word that x leads to, if x doesn't split
--     AreStates steps path states       known courses are right, a known word leads to known ones, the words that are met are those of the
--                                       path, at their places, and each of them leads to the next
--     EndsKnown steps path states       the last word of the path splits or leads to a known one
--     IsRoundPath steps path first x    x is at that place of the path, and from there on each word leads to the next, the last to x
--     IsPathWalked steps path first states  the path is that of a walk: its last word leads to that at the place, or, where the place is the path's end,
--                                       splits or leads to a known one
--     StaysTold old states              a word that is new was new
--     IsPathSettled steps path old states  those of the path are left to settle, and its end leads to a known one
--     AreAllKnown states                all courses are known
use Rattle.std.specs.Prelude.{ℕ, ◌≡◌, ◌+◌, ◌≤◌, ◌<◌, List, length, Some, slice_get, get_or}
use Rattle.ht_types.specs.declared.step.Step.{Step}
use Rattle.ht_types.specs.declared.step.Step.TheVariants.{Leads}
use Rattle.ht_types.specs.declared.course.Course.{Course}
use Rattle.ht_types.specs.declared.course.State.{State}
use Rattle.ht_types.specs.declared.course.State.TheVariants.{New, Met, Known}
use Rattle.ht_types.specs.Courses.{HasCourse}

abbrev pub LeadsOn : List Step → ℕ → ℕ → Type 0
LeadsOn steps x y = (rest : List ℕ) × (slice_get steps x ≡ Some (Leads y rest))

abbrev pub IsKnown : List State → ℕ → Type 0
IsKnown states x = (course : Course) × (slice_get states x ≡ Some (Known course))

abbrev pub IsNextKnown : List Step → List State → ℕ → Type 0
IsNextKnown steps states x = (y : ℕ) → LeadsOn steps x y → IsKnown states y

pub record AreStates (steps : List Step) (path : List ℕ) (states : List State) : Type 0 where
  pub as_many : length states ≡ length steps
  pub right : (x : ℕ) (course : Course) → slice_get states x ≡ Some (Known course) → HasCourse steps x course
  pub closed : (x : ℕ) → IsKnown states x → IsNextKnown steps states x
  pub met : (x i : ℕ) → slice_get states x ≡ Some (Met i) → slice_get path i ≡ Some x
  pub on : (x i : ℕ) → slice_get path i ≡ Some x → slice_get states x ≡ Some (Met i)
  pub joined : (i x y : ℕ) → slice_get path i ≡ Some x → slice_get path (i + 1) ≡ Some y → LeadsOn steps x y

abbrev pub EndsKnown : List Step → List ℕ → List State → Type 0
EndsKnown steps path states = (i x : ℕ) → i + 1 ≡ length path → slice_get path i ≡ Some x → IsNextKnown steps states x

pub record IsRoundPath (steps : List Step) (path : List ℕ) (first x : ℕ) : Type 0 where
  pub within : first < length path
  pub begins : slice_get path first ≡ Some x
  pub leads : (i : ℕ) → first ≤ i → i < length path → LeadsOn steps (get_or path i x) (get_or path (i + 1) x)

pub record IsPathWalked (steps : List Step) (path : List ℕ) (first : ℕ) (states : List State) : Type 0 where
  pub known : AreStates steps path states
  pub within : first ≤ length path
  pub back : (i x y : ℕ) → i + 1 ≡ length path → slice_get path i ≡ Some x → slice_get path first ≡ Some y → LeadsOn steps x y
  pub out : first ≡ length path → EndsKnown steps path states

abbrev pub StaysTold : List State → List State → Type 0
StaysTold old states = (x : ℕ) → slice_get states x ≡ Some New → slice_get old x ≡ Some New

pub record IsPathSettled (steps : List Step) (path : List ℕ) (old states : List State) : Type 0 where
  pub known : AreStates steps path states
  pub ends : EndsKnown steps path states
  pub told : StaysTold old states

abbrev pub AreAllKnown : List State → Type 0
AreAllKnown states = (x : ℕ) → x < length states → IsKnown states x
