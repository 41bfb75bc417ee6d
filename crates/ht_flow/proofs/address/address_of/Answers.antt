use Rattle.std.proofs.Common.{◌≢◌, ℕ, List, ◌++◌, refl, sym, ◌∙◌, subst, arith, pos}
use Rattle.std.specs.Int.{w128}
use Rattle.std.proofs.lemmas.Int.{fits_signed_from_abs, to_z-of_z}
use Rattle.std.proofs.lemmas.Option.{slice_get_within}
use Rattle.ht_pair.specs.Kinds.{IsAttractor}
use Rattle.ht_quasi.proofs.StepLaws.{listed_at, same_at}
use Rattle.ht_types.specs.declared.direction.Direction.TheVariants.{Ahead}
use Rattle.ht_types.proofs.SeenLaws.{open_kind}
use Rattle.ht_types.proofs.StopLaws.{few_words}
use Rattle.ht_flow.specs.Flowing.{IsAddressed}
use Rattle.ht_flow.specs.Rounds.{BeginsTimes}
use Rattle.ht_types.proofs.AttractorLaws.{IsAttractorOf, attractor_moved, period_small}
use Rattle.ht_types.proofs.TypedLaws.{typed_base}
use Rattle.ht_flow.proofs.AddressMade.{no_end, head_listed, head_short, address_made}
use Rattle.ht_flow.proofs.HeadLaws.{attractor_of}
use Rattle.ht_flow.proofs.address.address_of.Goals as goal

pub last_letters-requires : goal.last_letters-requires
last_letters-requires c =
    let a = c.requires.attractor in
    head_short (typed_base c.args.t.now c.keeps_kinds.ensures) (attractor_of a) c.in_ok-head.head (c.in_ok-head.ensures a.above a.here)

pub kind-requires : goal.kind-requires
kind-requires c =
    let s = (c.in_ok-head.ensures c.requires.attractor.above c.requires.attractor.here).stage in
    slice_get_within c.args.t.now.quasi.basis.words c.in_ok-head.head.at s.above s.here

pub unreachable-requires : goal.unreachable-requires
unreachable-requires c =
    let t = c.args.t.now in
    let base = typed_base t c.keeps_kinds.ensures in
    let a = c.requires.attractor in
    let head = c.in_ok-head.head in
    let s = c.in_ok-head.ensures a.above a.here in
    let x = s.stage.above in
    open_kind Ahead t.element.shape t.element.rows base.pair t.quasi.basis.words x c.kind.result.now (c.keeps_kinds.ensures.kinds_are.each head.at x c.kind.result.now s.stage.here c.kind.ensures.kind) (no_end c.kind.result.now c.in_default.not-Attractor)
    (attractor_moved base (attractor_of a) (pos head.steps) x s.stage.behind (head_listed a.above c.args.m head s) s.stage.carries)

pub stripped-times-requires : goal.stripped-times-requires
stripped-times-requires c =
    let t = c.args.t.now in
    let s = c.in_ok-head.ensures c.requires.attractor.above c.requires.attractor.here in
    let x = s.stage.above in
    let attractor : IsAttractor t.element.shape t.element.rows x c.in-Attractor.m c.in-Attractor.by = rw c.in-Attractor.is at (c.keeps_kinds.ensures.kinds_are.each c.in_ok-head.head.at x c.kind.result.now s.stage.here c.kind.ensures.kind) in
    record { some = λ e. attractor.lengthens.0 (sym c.as_slice-2.ensures ∙ e) }

pub steps_left-requires-clause-period : goal.steps_left-requires-clause-period
steps_left-requires-clause-period c =
    let t = c.args.t.now in
    let s = c.in_ok-head.ensures c.requires.attractor.above c.requires.attractor.here in
    let x = s.stage.above in
    let attractor : IsAttractor t.element.shape t.element.rows x c.in-Attractor.m c.in-Attractor.by = rw c.in-Attractor.is at (c.keeps_kinds.ensures.kinds_are.each c.in_ok-head.head.at x c.kind.result.now s.stage.here c.kind.ensures.kind) in
    let small = period_small (typed_base t c.keeps_kinds.ensures) (record { listed = head_listed c.requires.attractor.above c.args.m c.in_ok-head.head s; attractor = attractor }) in
    let few = few_words t.element.shape t.quasi.basis.words c.keeps_kinds.ensures.within in
    omega arith

pub returns : goal.returns
returns c = λ u y w.
    let t = c.args.t.now in
    let shape = t.element.shape in
    let p = t.element.rows in
    let X = t.quasi.basis.words in
    let way = c.args.way.now in
    let a = c.requires.attractor in
    let head = c.in_ok-head.head in
    let by = c.in-Attractor.by in
    let rest = c.in_ok-from_slice.field-0 in
    let at : IsAttractorOf shape p X y c.args.m c.args.by.now = record { listed = listed_at X way.to y w.here; attractor = subst (λ v. IsAttractor shape p v c.args.m c.args.by.now) (same_at X X way.to a.above y refl a.here w.here) a.attractor } in
    let s = c.in_ok-head.ensures y w.here in
    let attractor : IsAttractor shape p s.stage.above c.in-Attractor.m by = rw c.in-Attractor.is at (c.keeps_kinds.ensures.kinds_are.each head.at s.stage.above c.kind.result.now s.stage.here c.kind.ensures.kind) in
    let begins : BeginsTimes c.stripped-times.result.0 by c.in_ok-letters.letters rest = rw (← c.as_slice.ensures, ← c.as_slice-2.ensures, c.in_ok-from_slice.ensures) c.stripped-times.ensures.times in
    let short : (z : List ℕ) → rest ≢ by ++ z = rw (← c.as_slice-2.ensures, c.in_ok-from_slice.ensures) c.stripped-times.ensures.short in
    subst (IsAddressed shape p X u head.at rest) (sym (to_z-of_z w128 c.steps_left.result (fits_signed_from_abs w128 c.steps_left.result (let few = c.steps_left.ensures.few in omega arith))))
    (address_made (typed_base t c.keeps_kinds.ensures) c.keeps_kinds.ensures.quasinormal.least.ascending at u way w head s c.in-Attractor.m by attractor c.stripped-times.result.0 c.in_ok-letters.letters rest c.in_ok-letters.ensures begins short c.steps_left.result c.steps_left.ensures.sum c.steps_left.ensures.few)
