use Rattle.std.proofs.Common.{vec_len}
use Rattle.ht_types.specs.CourseStates.{IsPathSettled}
use Rattle.ht_types.proofs.course.unwind.Given as goal

abbrev pub invariant-loop-place : goal.invariant-loop-place
invariant-loop-place l = IsPathSettled l.steps l.path.items l.fn.states l.states

abbrev pub decreases-loop-place : goal.decreases-loop-place
decreases-loop-place l = vec_len l.path
