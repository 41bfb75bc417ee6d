use Rattle.std.proofs.Common.{◌≡◌, ◌<◌, ◌≤◌, ◌-◌, ◌^◌, ◌+◌, ◌*◌, ℕ, length, true, false, sym, ◌∙◌, arith}
use Rattle.std.proofs.lemmas.Option.{slice_get_within}
use Rattle.ht_word.specs.Words.{◌·◌}
use Rattle.ht_types.specs.declared.step.Step.TheVariants.{Splits, Leads}
use Rattle.ht_types.specs.declared.walk.Walk.{Walk}
use Rattle.ht_types.proofs.SeenLaws.{rows_in, directed, step_seen}
use Rattle.ht_types.proofs.StopLaws.{way_begins, way_word, way_on, way_bound, way_few, way_kind, stops_ended, stops_stuck}
use Rattle.ht_types.proofs.walk.walk_of.Goals as goal

pub walking-init : goal.walking-init
walking-init c = way_begins c.args.t.now.element.shape (rows_in c.args.direction c.args.t.now.element.rows) c.args.t.now.quasi.basis.words c.args.word.now c.in_ok-walk.walk c.requires.word c.in_ok-walk.ensures

pub next_of-requires-clause-place : goal.next_of-requires-clause-place
next_of-requires-clause-place c = slice_get_within c.args.t.now.quasi.basis.words c.walking.walk.to c.walking.invariant.above c.walking.invariant.walked.here

pub next_of-requires-clause-word : goal.next_of-requires-clause-word
next_of-requires-clause-word c = λ x here. way_word (directed c.args.direction c.args.t.now c.kind.ensures.typed).base c.args.word.now x c.walking.walk c.walking.invariant here

pub returns-in_default : goal.returns-in_default
returns-in_default c =
    let t = c.args.t.now in
    let q = rows_in c.args.direction t.element.rows in
    let way = c.walking.invariant in
    let d = directed c.args.direction t c.kind.ensures.typed in
    let few = way_few c.args.direction t c.kind.ensures.typed c.args.word.now c.walking.walk c.holds_few.ensures c.requires.infinite way in
    stops_stuck c.args.direction t.element.shape t.element.rows q t.quasi.basis.words d c.args.word.now c.walking.walk way
    (step_seen c.args.direction t.element.shape t.element.rows q t.quasi.basis.words d (way.above · c.walking.walk.rest) Splits (rw c.in_default.is at (c.in_ok-to.ensures way.above way.walked.here))) c.requires.infinite (omega arith)

pub overflow_add-walk : goal.overflow_add-walk
overflow_add-walk c =
    let few : c.walking.walk.steps < 2 ^ 86 = way_few c.args.direction c.args.t.now c.kind.ensures.typed c.args.word.now c.walking.walk c.holds_few.ensures c.requires.infinite c.walking.invariant in
    omega arith

pub walking-preserved : goal.walking-preserved
walking-preserved c =
    let t = c.args.t.now in
    let q = rows_in c.args.direction t.element.rows in
    let way = c.walking.invariant in
    let d = directed c.args.direction t c.kind.ensures.typed in
    way_on c.args.direction t.element.shape t.element.rows q t.quasi.basis.words d c.args.word.now c.walking.walk way c.kind.result.now
    (way_kind t c.kind.ensures.typed q c.args.word.now c.walking.walk way c.kind.result.now c.kind.ensures.kind)
    (λ e. let same : false ≡ true = sym c.walking-test.true ∙ c.is_end.ensures.1 e in cc) c.in-Leads.to c.in-Leads.rest
    (step_seen c.args.direction t.element.shape t.element.rows q t.quasi.basis.words d (way.above · c.walking.walk.rest) (Leads c.in-Leads.to c.in-Leads.rest) (rw c.in-Leads.is at (c.in_ok-to.ensures way.above way.walked.here)))

pub walking-smaller : goal.walking-smaller
walking-smaller c =
    let t = c.args.t.now in
    let next : Walk = record { steps = c.walking.walk.steps + 1; to = c.in-Leads.to; rest = c.in-Leads.rest } in
    falls c.walking.walk.steps (length t.quasi.basis.words * (length c.args.word.now.letters + 1))
    (way_bound c.args.direction t.element.shape t.element.rows (rows_in c.args.direction t.element.rows) t.quasi.basis.words (directed c.args.direction t c.kind.ensures.typed) c.args.word.now next c.requires.infinite (walking-preserved c))
  where
    falls : (k n : ℕ) → k + 1 ≤ n → n - (k + 1) < n - k
    falls k n l = omega arith

pub returns : goal.returns
returns c =
    let t = c.args.t.now in
    let q = rows_in c.args.direction t.element.rows in
    let way = c.walking.invariant in
    let few = way_few c.args.direction t c.kind.ensures.typed c.args.word.now c.walking.walk c.holds_few.ensures c.requires.infinite way in
    stops_ended c.args.direction t.element.shape t.element.rows q t.quasi.basis.words (directed c.args.direction t c.kind.ensures.typed) c.args.word.now c.walking.walk way c.kind.result.now
    (way_kind t c.kind.ensures.typed q c.args.word.now c.walking.walk way c.kind.result.now c.kind.ensures.kind) (c.is_end.ensures.0 c.walking-test.false) c.requires.infinite (omega arith)
