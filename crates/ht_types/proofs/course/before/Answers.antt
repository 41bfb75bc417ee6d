use Rattle.std.proofs.Common.{◌≡◌, ◌+◌, ◌++◌, List, ℕ, sym, ap, ◌∙◌, subst, arith}
use Rattle.ht_types.specs.declared.course.Course.TheVariants.{Joins}
use Rattle.ht_types.specs.Courses.{HasCourse}
use Rattle.ht_types.proofs.CourseSizes.{joins_short}
use Rattle.ht_types.proofs.NextLaws.{ends_next, joins_round, joins_next}
use Rattle.ht_types.proofs.course.before.Goals as goal

pub overflow_add-result : goal.overflow_add-result
overflow_add-result c = omega (arith, joins_short c.args.steps.now c.args.to c.in-Joins.reach (subst (HasCourse c.args.steps.now c.args.to) c.in-Joins.is c.requires.course))

pub returns-in-Ends : goal.returns-in-Ends
returns-in-Ends c = ends_next c.args.steps.now c.args.place c.args.to c.args.rest.now c.requires.step (subst (HasCourse c.args.steps.now c.args.to) c.in-Ends.is c.requires.course)

pub returns-in_ok-rest-in-Returns : goal.returns-in_ok-rest-in-Returns
returns-in_ok-rest-in-Returns c =
    subst (λ (r : List ℕ). HasCourse c.args.steps.now c.args.place (Joins (record { steps = 1; to = c.args.to; rest = r }))) (sym c.in_ok-rest-in-Returns.ensures)
    (joins_round c.args.steps.now c.args.place c.args.to c.in-Returns.m c.args.rest.now c.in-Returns.by c.requires.step c.requires.once (subst (HasCourse c.args.steps.now c.args.to) c.in-Returns.is c.requires.course))

pub returns-in_ok-extend-in-Joins : goal.returns-in_ok-extend-in-Joins
returns-in_ok-extend-in-Joins c =
    let reach = c.in-Joins.reach in
    let e : c.extend.new.self ≡ reach.rest ++ c.args.rest.now = c.in_ok-extend-in-Joins.ensures.ok ∙ ap (λ (z : List ℕ). z ++ c.args.rest.now) (c.in_ok-behind-in-Joins.ensures ∙ c.as_slice.ensures) in
    subst (λ (r : List ℕ). HasCourse c.args.steps.now c.args.place (Joins (record { steps = reach.steps + 1; to = reach.to; rest = r }))) (sym e)
    (joins_next c.args.steps.now c.args.place c.args.to c.args.rest.now reach c.requires.step (subst (HasCourse c.args.steps.now c.args.to) c.in-Joins.is c.requires.course))
