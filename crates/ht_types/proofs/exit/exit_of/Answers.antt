use Rattle.std.proofs.Common.{◌≡◌, ◌<◌, ◌^◌, length, true, false, refl, sym, ◌∙◌, subst₂, arith}
use Rattle.std.proofs.lemmas.Option.{slice_get_within}
use Rattle.ht_quasi.proofs.StepLaws.{same_at}
use Rattle.ht_types.specs.Flows.{LeadsAway}
use Rattle.ht_types.proofs.SeenLaws.{rows_in, directed}
use Rattle.ht_types.proofs.ExitLaws.{IsAsked, exit_begins, asked_few, first_letter, asked_further, asked_more, asked_smaller, asked_exit}
use Rattle.ht_types.proofs.exit.exit_of.Goals as goal

pub leaving-init : goal.leaving-init
leaving-init c =
    let t = c.args.t.now in
    exit_begins c.args.direction t.element.shape t.element.rows (rows_in c.args.direction t.element.rows) t.quasi.basis.words (directed c.args.direction t c.keeps_kinds.ensures) c.args.word.now c.new-letters.result c.in_ok-way.way c.new-letters.ensures c.in_ok-way.ensures

pub kind-requires : goal.kind-requires
kind-requires c = slice_get_within c.args.t.now.quasi.basis.words c.leaving.way.to c.leaving.invariant.above c.leaving.invariant.walked.here

pub kind-requires-in-leaving : goal.kind-requires-in-leaving
kind-requires-in-leaving c = slice_get_within c.args.t.now.quasi.basis.words c.leaving.way.to c.leaving.invariant.above c.leaving.invariant.walked.here

pub further-requires-clause-place : goal.further-requires-clause-place
further-requires-clause-place c = slice_get_within c.args.t.now.quasi.basis.words c.leaving.way.to c.leaving.invariant.above c.leaving.invariant.walked.here

pub further-requires-clause-further : goal.further-requires-clause-further
further-requires-clause-further c =
    let t = c.args.t.now in
    let asked : IsAsked t c.args.word.now = record { typed = c.keeps_kinds.ensures; under = c.requires.infinite; few = c.holds_few.ensures } in
    asked_further c.args.direction t c.args.word.now asked c.leaving.letters c.leaving.way c.leaving.invariant c.letter_away-letter.result (first_letter t.element.shape c.letter_away-letter.result c.letter_away-letter.ensures.letter)

pub further-requires-clause-few : goal.further-requires-clause-few
further-requires-clause-few c =
    let asked : IsAsked c.args.t.now c.args.word.now = record { typed = c.keeps_kinds.ensures; under = c.requires.infinite; few = c.holds_few.ensures } in
    let few : c.leaving.way.steps < 2 ^ 86 = asked_few c.args.direction c.args.t.now c.args.word.now asked c.leaving.letters c.leaving.way c.leaving.invariant in
    omega arith

pub leaving-preserved : goal.leaving-preserved
leaving-preserved c =
    let t = c.args.t.now in
    let a = c.letter_away-letter.result in
    let asked : IsAsked t c.args.word.now = record { typed = c.keeps_kinds.ensures; under = c.requires.infinite; few = c.holds_few.ensures } in
    let same : c.kind-in-leaving.result.now ≡ c.kind.result.now = same_at t.kinds t.kinds c.leaving.way.to c.kind-in-leaving.result.now c.kind.result.now refl c.kind-in-leaving.ensures.kind c.kind.ensures.kind in
    let away : LeadsAway c.args.direction c.kind.result.now (length c.leaving.way.rest) a = subst₂ (λ kind n. LeadsAway c.args.direction kind n a) same c.len.ensures c.letter_away-letter.ensures.away in
    asked_more c.args.direction t c.args.word.now asked c.leaving.letters c.push.new.self c.leaving.way c.in_ok-way-2.way c.leaving.invariant c.kind.result.now c.kind.ensures.kind
    (λ e. let same : false ≡ true = sym c.leaving-test.true ∙ c.is_end.ensures.1 e in cc) a (first_letter t.element.shape a c.letter_away-letter.ensures.letter) away c.in_ok-push.ensures.ok c.in_ok-way-2.ensures

pub leaving-smaller : goal.leaving-smaller
leaving-smaller c =
    let t = c.args.t.now in
    let a = c.letter_away-letter.result in
    let asked : IsAsked t c.args.word.now = record { typed = c.keeps_kinds.ensures; under = c.requires.infinite; few = c.holds_few.ensures } in
    asked_smaller c.args.direction t c.args.word.now asked c.leaving.letters c.push.new.self c.leaving.way c.in_ok-way-2.way c.leaving.invariant c.kind.result.now c.kind.ensures.kind
    (λ e. let same : false ≡ true = sym c.leaving-test.true ∙ c.is_end.ensures.1 e in cc) a (first_letter t.element.shape a c.letter_away-letter.ensures.letter) c.in_ok-way-2.ensures (leaving-preserved c)

pub returns : goal.returns
returns c =
    let asked : IsAsked c.args.t.now c.args.word.now = record { typed = c.keeps_kinds.ensures; under = c.requires.infinite; few = c.holds_few.ensures } in
    asked_exit c.args.direction c.args.t.now c.args.word.now asked (record { letters = c.leaving.letters; steps = c.leaving.way.steps; to = c.leaving.way.to; rest = c.leaving.way.rest }) c.leaving.invariant c.kind.result.now c.kind.ensures.kind (c.is_end.ensures.0 c.leaving-test.false)
