-- A course takes no more steps to the first word that turns than there are words: among more, two on the way are one, which turns.
use Rattle.std.proofs.Common.{ℕ, ◌-◌, ◌≤◌, ◌<◌, inl, inr, min, List, length, refl, sym, arith}
use Rattle.std.proofs.lemmas.Bool.{cases_lt}
use Rattle.ht_types.specs.declared.step.Step.{Step}
use Rattle.ht_types.specs.declared.kind.Reach.{Reach}
use Rattle.ht_types.specs.declared.course.Course.TheVariants.{Joins}
use Rattle.ht_types.specs.Courses.{Goes, Turns, HasCourse}
use Rattle.ht_types.proofs.Repeats.{repeats_below}
use Rattle.ht_types.proofs.PathLaws.{IsInTwo, goes_along, goes_front, goes_on_inside, met_again}

-- the word after i steps of a path, or its last
on_way : (steps : List Step) (k x y : ℕ) (z : List ℕ) → Goes steps k x y z → (i : ℕ) → IsInTwo steps (min i k) (k - min i k) x y z
on_way steps k x y z g i = goes_front steps (min i k) k x y z (omega arith) g

-- of a path of more steps than there are words one word turns
pub record TurnsOnWay (steps : List Step) (k x : ℕ) : Type 0 where
  pub count : ℕ
  pub word : ℕ
  pub rest : List ℕ
  pub less : count < k
  pub goes : Goes steps count x word rest
  pub turns : Turns steps word

pub long_turns : (steps : List Step) (k x y : ℕ) (z : List ℕ) → length steps < k → Goes steps k x y z → TurnsOnWay steps k x
long_turns steps k x y z l g =
    let n = length steps in
    let s : ℕ → ℕ = λ i. (on_way steps k x y z g i).mid in
    let below : (i : ℕ) → i ≤ n → s i < n = λ i h. let w = on_way steps k x y z g i in goes_on_inside steps (k - min i k) w.mid y w.behind (omega arith) w.last in
    let r = repeats_below n s below in
    let less = r.less in
    let within = r.within in
    let a = on_way steps k x y z g r.first in
    let b = on_way steps k x y z g r.second in
    let at_first : Goes steps r.first x a.mid a.rest = goes_along steps (omega arith) refl refl refl a.first in
    let at_second : Goes steps r.second x a.mid b.rest = goes_along steps (omega arith) refl (sym r.same) refl b.first in
    record { count = r.first; word = a.mid; rest = a.rest; less = omega arith; goes = at_first; turns = met_again steps r.first r.second x a.mid a.rest b.rest r.less at_first at_second }

pub joins_short : (steps : List Step) (x : ℕ) (reach : Reach) → HasCourse steps x (Joins reach) → reach.steps ≤ length steps
joins_short steps x reach h = elim (cases_lt (length steps) reach.steps) [
  | inl long ↦ (let t = long_turns steps reach.steps x reach.to reach.rest long h.1.goes in absurd (h.1.first t.count t.word t.rest t.less t.goes t.turns))
  | inr short ↦ omega arith
]
