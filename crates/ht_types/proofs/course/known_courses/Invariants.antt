use Rattle.std.proofs.Common.{◌≡◌, map}
use Rattle.ht_types.specs.declared.course.State.TheVariants.{Known}
use Rattle.ht_types.proofs.course.known_courses.Given as goal

abbrev pub invariant-loop-state : goal.invariant-loop-state
invariant-loop-state l = l.yielded ≡ map (λ course. Known course) l.courses
