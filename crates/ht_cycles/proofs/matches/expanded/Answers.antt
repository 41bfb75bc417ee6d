use Rattle.std.proofs.Common.{◌≡◌, ◌≤◌, ◌<◌, ℕ, length, drop, ap, ◌∙◌, subst, arith, mul-le-mul_left}
use Rattle.ht_word.specs.declared.shape.Shape.{Shape}
use Rattle.ht_pair.specs.Elements.{ElementValue}
use Rattle.ht_cycles.specs.Cycles.{AreSeeds}
use Rattle.ht_cycles.proofs.SeedLaws.{one_more_expansion, one_more_size}
use Rattle.ht_cycles.proofs.matches.expanded.Goals as goal

pub loop-place-preserved : goal.loop-place-preserved
loop-place-preserved c =
    let t = c.args.t.now in
    let typed = c.keeps_kinds.ensures in
    let list = c.loop-place.list in
    let new = c.add_children.new.words in
    let place = c.loop-place.place in
    let same : c.shape-shape.result ≡ t.element.shape = c.shape-shape.ensures ∙ ap (λ (e : ElementValue). e.shape) c.element.ensures.element in
    let low : 1 ≤ t.element.shape.n = omega (arith, t.element.shape.letters_low) in
    let inside : place < length list = omega (arith, c.loop-place.invariant.size, c.requires, mul-le-mul_left place low) in
    record {
      size = one_more_size t.element.shape.n place (length c.args.words.now) c.shape-shape.result list new (ap (λ (s : Shape). s.n) same) inside c.loop-place.invariant.size c.in_ok-add_children.ensures;
      seeds = λ m seeds. one_more_expansion t.element.shape c.shape-shape.result t.element.rows typed.canonical.canonical.pair t.quasi.basis.words typed.quasinormal.least.semi_normal place list new same inside c.in_ok-add_children.ensures m (c.loop-place.invariant.seeds m seeds);
    }

pub returns-clause-seeds : goal.returns-clause-seeds
returns-clause-seeds c =
    let t = c.args.t.now in
    subst (λ (k : ℕ). (m : ℕ) → AreSeeds t.element.shape t.element.rows t.quasi.basis.words m c.args.words.now → AreSeeds t.element.shape t.element.rows t.quasi.basis.words m (drop k c.loop-place.list))
    (omega (arith, c.loop-place-test.false, c.loop-place.auto.place-end)) c.loop-place.invariant.seeds
