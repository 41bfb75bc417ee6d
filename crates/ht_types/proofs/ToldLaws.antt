-- The kind that the courses of a word tell, by the steps ahead and back, is that of the word.
use Rattle.std.proofs.Common.{◌≡◌, ◌≢◌, ℕ, List, [], ◌∷◌, Some, slice_get, refl, subst, arith, pos, neg_ℤ}
use Rattle.std.proofs.lemmas.Int.{ints}
use Rattle.ht_num.specs.Numbers.{IsLeastPositive}
use Rattle.ht_word.specs.declared.shape.Shape.{Shape}
use Rattle.ht_word.specs.declared.word.Word.{Word}
use Rattle.ht_pair.specs.Kinds.{IsPassing}
use Rattle.ht_pair.specs.Pairs.{IsPair, turned}
use Rattle.ht_pair.specs.SemiNormal.{IsSemiNormal}
use Rattle.ht_pair.specs.Steps.{Carries}
use Rattle.ht_pair.specs.declared.row.Row.{Row}
use Rattle.ht_pair.proofs.CarriesLaws.{carries_back}
use Rattle.ht_pair.proofs.MovesLaws.{turned_pair}
use Rattle.ht_quasi.proofs.MirrorLaws.{Mirrors, behind_ahead, mirrored_semi_normal}
use Rattle.ht_types.specs.Courses.{Goes, IsRound, Turns, HasCourse}
use Rattle.ht_types.specs.WordKinds.{IsAhead, HasKind}
use Rattle.ht_types.specs.WordSteps.{AreSteps, ReturnsToo, reach_of, turned_kind, told_kind}
use Rattle.ht_types.specs.declared.course.Course.{Course}
use Rattle.ht_types.specs.declared.course.Course.TheVariants.{Ends, Returns, Joins}
use Rattle.ht_types.specs.declared.step.Step.{Step}
use Rattle.ht_types.proofs.CourseLaws.{IsStepped, cycle_turns, no_cycle, no_attractor, returns_cycle, returns_attractor, joins_leads, joins_no_turn, ends_not_ahead}
use Rattle.ht_types.proofs.PathLaws.{ends_turns}
use Rattle.ht_types.proofs.MirrorLaws.{turned_mirrors, attractor_repeller, no_repeller, leads_behind}
use Rattle.ht_types.proofs.StepLaws.{steps_from}

-- a semi-normal basis with the steps of its words by an element and by one that mirrors it
record AreBoth (shape : Shape) (p q : List Row) (X : List Word) (ahead behind : List Step) : Type 0 where
  mirrors : Mirrors shape p q
  there : IsStepped shape p X ahead
  back : IsStepped shape q X behind

-- a word that turns neither way is passing
passing : {shape : Shape} {p q : List Row} {X : List Word} {ahead behind : List Step} → AreBoth shape p q X ahead behind → (place : ℕ) (x : Word) → slice_get X place ≡ Some x → ¬ Turns ahead place → ¬ Turns behind place → IsPassing shape p x
passing h place x here none other = (no_cycle h.there place x here none, no_attractor h.there place x here none, no_repeller h.mirrors x (no_attractor h.back place x here other))

-- a word to which the steps ahead don't come back isn't carried to itself by the steps back
grows_back : {shape : Shape} {p q : List Row} {X : List Word} {ahead behind : List Step} → AreBoth shape p q X ahead behind → (place m : ℕ) (z : List ℕ) (x : Word) → slice_get X place ≡ Some x → ¬ Turns ahead place → IsLeastPositive (IsRound behind place) m → Goes behind m place place z
    → z ≢ []
grows_back {shape} {p} {q} h place m z x here none first g e =
    let cycle : Carries shape q (pos m) x x = (returns_cycle h.back place m z x here first g e).holds in
    let twice : neg_ℤ (neg_ℤ (pos m)) ≡ pos m = omega (arith, ints) in
    none (cycle_turns h.there m place x here first.positive (subst (λ k. Carries shape p k x x) twice (carries_back shape p h.there.pair (neg_ℤ (pos m)) x x (h.mirrors.to (pos m) x x cycle))))

-- where the steps ahead don't come back
turned_right : {shape : Shape} {p q : List Row} {X : List Word} {ahead behind : List Step} → AreBoth shape p q X ahead behind → (place : ℕ) (x : Word) (a b : Course) → slice_get X place ≡ Some x → ¬ Turns ahead place → IsAhead shape p X x (reach_of a) → HasCourse behind place b
    → HasKind shape p X x (turned_kind a b)
turned_right {shape} {p} {q} {X} {ahead} {behind} h place x a Ends here none found back =
    (passing h place x here none (ends_turns behind place back), found, λ stays. ends_not_ahead h.back place x here back (behind_ahead h.mirrors X x stays))
turned_right h place x a (Returns m by) here none found back =
    attractor_repeller h.mirrors x m by (returns_attractor h.back place m by x here back.0 back.1 (grows_back h place m by x here none back.0 back.1))
turned_right {shape} {p} {q} {X} {ahead} {behind} h place x a (Joins reach) here none found back =
    let other = joins_no_turn behind place reach back.0 back.1 in
    (passing h place x here none other, found, leads_behind h.mirrors X x reach (joins_leads h.back place x reach here back.0 back.1 other))

-- what two courses tell
told : {shape : Shape} {p q : List Row} {X : List Word} {ahead behind : List Step} → AreBoth shape p q X ahead behind → (place : ℕ) (x : Word) (a b : Course) → slice_get X place ≡ Some x → HasCourse ahead place a → HasCourse behind place b → HasKind shape p X x (told_kind a b)
told {shape} {p} {q} {X} {ahead} {behind} h place x Ends b here c d = turned_right h place x Ends b here (ends_turns ahead place c) (ends_not_ahead h.there place x here c) d
told h place x (Returns m []) b here c d = returns_cycle h.there place m [] x here c.0 c.1 refl
told h place x (Returns m (l ∷ by)) b here c d = returns_attractor h.there place m (l ∷ by) x here c.0 c.1 (λ e. cc)
told {shape} {p} {q} {X} {ahead} {behind} h place x (Joins reach) b here c d =
    let none = joins_no_turn ahead place reach c.0 c.1 in
    turned_right h place x (Joins reach) b here none (joins_leads h.there place x reach here c.0 c.1 none) d

-- if the steps back lead to the word itself, those ahead come back to it
returns_too : {shape : Shape} {p q : List Row} {X : List Word} {ahead behind : List Step} → AreBoth shape p q X ahead behind → (place : ℕ) (x : Word) (a b : Course) → slice_get X place ≡ Some x → HasCourse ahead place a → HasCourse behind place b → ReturnsToo a b
returns_too {shape} {p} {q} {X} {ahead} {behind} h place x Ends b here c d = λ m e.
    let back = subst (HasCourse behind place) e d in
    absurd (grows_back h place m [] x here (ends_turns ahead place c) back.0 back.1 refl)
returns_too h place x (Returns k by) b here c d = λ m e. (k, by, refl)
returns_too {shape} {p} {q} {X} {ahead} {behind} h place x (Joins reach) b here c d = λ m e.
    let back = subst (HasCourse behind place) e d in
    absurd (grows_back h place m [] x here (joins_no_turn ahead place reach c.0 c.1) back.0 back.1 refl)

-- ---- the steps of an element ahead and behind

module _ (shape : Shape) (p : List Row) (pair : IsPair shape p) (X : List Word) (semi : IsSemiNormal shape p X) (ahead behind : List Step) (steps : AreSteps shape p X (pos 1) ahead) (back : AreSteps shape p X (neg_ℤ (pos 1)) behind) where
  -- those behind are those of the turned pair
  both : AreBoth shape p (turned p) X ahead behind
  both =
      let mirrors = turned_mirrors shape p pair in
      record { mirrors = mirrors; there = record { pair = pair; semi = semi; are = steps }; back = record { pair = turned_pair shape p pair; semi = mirrored_semi_normal mirrors X semi; are = steps_from mirrors X (pos 1) behind back } }

  pub returns_right : (place : ℕ) (x : Word) (a b : Course) → slice_get X place ≡ Some x → HasCourse ahead place a → HasCourse behind place b → ReturnsToo a b
  returns_right place x a b here c d = returns_too both place x a b here c d

  -- the kind of a word is told by its courses
  pub told_right : (place : ℕ) (x : Word) (a b : Course) → slice_get X place ≡ Some x → HasCourse ahead place a → HasCourse behind place b → HasKind shape p X x (told_kind a b)
  told_right place x a b here c d = told both place x a b here c d
