use Rattle.std.proofs.Common.{◌<◌, List, ℕ, length, sym, ap, ◌∙◌, subst}
use Rattle.std.proofs.lemmas.Option.{slice_get_within}
use Rattle.ht_word.specs.Words.{◌·◌}
use Rattle.ht_word.specs.declared.word.Word.{Word}
use Rattle.ht_quasi.proofs.CarriedLaws.{carried_under}
use Rattle.ht_quasi.proofs.StepLaws.{moved_carries, carried_moves}
use Rattle.ht_types.proofs.StepLaws.{leads_there}
use Rattle.ht_types.proofs.step.step_of.Goals as goal

pub returns-in_default : goal.returns-in_default
returns-in_default c = λ v carries.
    let none = rw c.in_default.is at c.in_ok-moved.ensures in
    none v (carried_moves c.args.a.now.shape c.args.a.now.rows c.keeps_limits.ensures.canonical c.args.word.now v carries)

pub unreachable-requires : goal.unreachable-requires
unreachable-requires c =
    let shape = c.args.a.now.shape in
    let rows = c.args.a.now.rows in
    let u = c.args.word.now in
    let v = c.in-Some.moved in
    let canonical = c.keeps_limits.ensures.canonical in
    c.in_default-find.ensures (carried_under shape rows c.args.basis.now.words u v canonical.pair c.requires.basis c.requires.under (moved_carries shape rows canonical u v c.requires.word (rw c.in-Some.is at c.in_ok-moved.ensures)))

pub at-requires : goal.at-requires
at-requires c =
    let here = c.in-Some-find.ensures in
    subst (λ (t : List Word). c.in-Some-find.to < length t) (sym c.words.ensures.words) (slice_get_within c.args.basis.now.words c.in-Some-find.to here.word here.here)

pub returns : goal.returns
returns c =
    leads_there c.args.a.now.shape c.args.a.now.rows c.keeps_limits.ensures.canonical c.args.basis.now.words c.words.result.now c.args.word.now c.in-Some.moved c.at.result.now c.in_ok-rest.rest c.in-Some-find.to c.requires.word
    (rw c.in-Some.is at c.in_ok-moved.ensures) c.words.ensures.words c.at.ensures (c.in-Some-rest_after.ensures ∙ ap (λ (z : List ℕ). c.at.result.now · z) (sym c.in_ok-rest.ensures))
