-- The course of a word from that of the word to which its step leads.
use Rattle.std.proofs.Common.{◌≡◌, ℕ, zero, suc, ◌+◌, ◌<◌, List, [], ◌++◌, Some, slice_get, refl, sym, subst, arith}
use Rattle.ht_types.specs.declared.step.Step.{Step}
use Rattle.ht_types.specs.declared.step.Step.TheVariants.{Splits, Leads}
use Rattle.ht_types.specs.declared.kind.Reach.{Reach}
use Rattle.ht_types.specs.declared.course.Course.TheVariants.{Ends, Returns, Joins}
use Rattle.ht_types.specs.Courses.{Goes, Turns, HasCourse}
use Rattle.ht_types.proofs.PathLaws.{goes_along, goes_none, no_steps, goes_next, goes_one, first_step, step_once, turns_next}

pub ends_here : (steps : List Step) (x : ℕ) → slice_get steps x ≡ Some Splits → HasCourse steps x Ends
ends_here steps x here = record { count = 0; last = x; behind = []; goes = goes_none steps x; splits = here }

pub ends_next : (steps : List Step) (x y : ℕ) (rest : List ℕ) → slice_get steps x ≡ Some (Leads y rest) → HasCourse steps y Ends → HasCourse steps x Ends
ends_next steps x y rest here e = record { count = suc e.count; last = e.last; behind = e.behind ++ rest; goes = goes_next steps e.count x y e.last rest e.behind here e.goes; splits = e.splits }

-- no word on the way turns, if the first doesn't and none behind it
first_next : (steps : List Step) (k x y : ℕ) (rest : List ℕ) → slice_get steps x ≡ Some (Leads y rest) → ¬ Turns steps x → ((j w : ℕ) (z : List ℕ) → j < k → Goes steps j y w z → ¬ Turns steps w)
    → (j w : ℕ) (z : List ℕ) → j < suc k → Goes steps j x w z → ¬ Turns steps w
first_next steps k x y rest here once first zero w z l g t = once (subst (λ a. Turns steps a) (sym (no_steps steps x w z g).0) t)
first_next steps k x y rest here once first (suc j) w z l g t =
    let s = first_step steps j x w z g in
    first j w s.behind (omega arith) (goes_along steps refl (step_once steps x s.next y s.rest rest s.here here).0 refl refl s.goes) t

pub joins_round : (steps : List Step) (x y m : ℕ) (rest by : List ℕ) → slice_get steps x ≡ Some (Leads y rest) → ¬ Turns steps x → HasCourse steps y (Returns m by)
    → HasCourse steps x (Joins (record { steps = 1; to = y; rest = rest }))
joins_round steps x y m rest by here once h = (
  omega arith,
  record {
    goes = goes_one steps x y rest here;
    turns = record { count = m; positive = h.0.positive; round = h.0.holds };
    first = first_next steps 0 x y rest here once (λ j w z l g. absurd (omega arith));
  },
)

pub joins_next : (steps : List Step) (x y : ℕ) (rest : List ℕ) (reach : Reach) → slice_get steps x ≡ Some (Leads y rest) → HasCourse steps y (Joins reach)
    → HasCourse steps x (Joins (record { steps = reach.steps + 1; to = reach.to; rest = reach.rest ++ rest }))
joins_next steps x y rest reach here h =
    let once : ¬ Turns steps x = λ t. h.1.first 0 y [] h.0 (goes_none steps y) (turns_next steps x y rest here t) in
    let first = first_next steps reach.steps x y rest here once h.1.first in (
      omega arith,
      record {
        goes = goes_along steps (omega arith) refl refl refl (goes_next steps reach.steps x y reach.to rest reach.rest here h.1.goes);
        turns = h.1.turns;
        first = λ j w z l g. first j w z (omega arith) g;
      },
    )
