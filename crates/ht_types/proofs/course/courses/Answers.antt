use Rattle.std.proofs.Common.{◌≡◌, map}
use Rattle.std.proofs.lemmas.Result.{IfOk-weaker}
use Rattle.ht_types.specs.declared.course.State.TheVariants.{Known}
use Rattle.ht_types.specs.Courses.{AreCourses}
use Rattle.ht_types.proofs.WalkLaws.{all_settled, all_courses}
use Rattle.ht_types.proofs.course.courses.Goals as goal

pub known_courses-requires : goal.known_courses-requires
known_courses-requires c = all_settled c.args.steps.now c.loop-start.states.items c.loop-start.start c.loop-start.invariant c.loop-start-test.false

pub returns : goal.returns
returns c =
    let states = c.loop-start.states.items in
    IfOk-weaker c.known_courses.result (λ courses. states ≡ map (λ course. Known course) courses) (AreCourses c.args.steps.now) (λ courses are. all_courses c.args.steps.now states courses c.loop-start.invariant.known are) c.known_courses.ensures
