use Rattle.std.proofs.Common.{◌∙◌, suc, subst, add-one, arith}
use Rattle.ht_word.specs.declared.shape.Shape.{Shape}
use Rattle.ht_pair.specs.Bases.{roots}
use Rattle.ht_sample.specs.Growth.{IsGrownOnce}
use Rattle.ht_sample.proofs.GrowthLaws.{grown_none, grown_more, whole_roots, whole_once, whole_sample}
use Rattle.ht_sample.proofs.growth.grown.Goals as goal

pub loop-init : goal.loop-init
loop-init c =
    let shape = c.args.shape in
    let s = c.args.draws.now.state in
    record {
      shape = c.in_ok-basis.ensures.0;
      grown = rw c.in_ok-basis.ensures.1 (grown_none shape s (roots shape));
      whole = rw c.in_ok-basis.ensures.1 (whole_roots shape c.requires.roots);
    }

pub grow-requires-clause-whole : goal.grow-requires-clause-whole
grow-requires-clause-whole c = c.loop.invariant.whole.whole

pub grow-requires-clause-some : goal.grow-requires-clause-some
grow-requires-clause-some c = omega (arith, c.loop.invariant.whole.size)

pub grow-requires-clause-few : goal.grow-requires-clause-few
grow-requires-clause-few c = omega (arith, c.loop-test.true, c.loop.invariant.whole.size)

pub loop-preserved : goal.loop-preserved
loop-preserved c =
    let shape = c.args.shape in
    let k = c.loop.counter in
    let s = c.loop.draws.state in
    let t = c.grow.new.draws.state in
    let X = c.loop.basis.words in
    let Y = c.grow.new.basis.words in
    let once = subst (λ (of : Shape). IsGrownOnce of s X t Y) c.loop.invariant.shape c.in_ok-grow.ensures.grown in
    record {
      shape = c.in_ok-grow.ensures.shape ∙ c.loop.invariant.shape;
      grown = grown_more shape k c.args.draws.now.state s t (roots shape) X Y c.loop.invariant.grown once;
      whole = rw (add-one k) (whole_once shape c.requires.letters (suc k) s t X Y once c.loop.invariant.whole);
    }

pub returns-clause-basis : goal.returns-clause-basis
returns-clause-basis c = whole_sample c.args.shape (suc c.loop.counter) c.loop.basis.words (omega (arith, c.loop-test.false, c.loop.auto.counter-end)) c.loop.invariant.whole
