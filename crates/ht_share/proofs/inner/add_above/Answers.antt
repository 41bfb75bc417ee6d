use Rattle.std.proofs.Common.{◌≡◌, ◌++◌, arith}
use Rattle.ht_share.proofs.InnerLaws.{heads, above_read, heads_step, heads_all}
use Rattle.ht_share.proofs.inner.add_above.Goals as goal

pub loop-left-preserved : goal.loop-left-preserved
loop-left-preserved c =
    heads_step c.loop-left.inner c.push.new.self c.loop-left.next c.in_ok-copy.field-0 c.push-in-loop-left.new.self (c.args.inner.now ++ heads c.in_ok-next.next c.trailing_ones-count.result) c.trailing_ones-count.result c.loop-left._left
    c.loop-left-test.true c.in_ok-copy.ensures c.in_ok-push.ensures.ok c.in_ok-push-2.ensures.ok c.loop-left.invariant

pub returns : goal.returns
returns c =
    let made = c.in_ok-next.ensures in
    let after = c.in-Some-rest_after.ensures in (
      heads c.in_ok-next.next c.trailing_ones-count.result,
      above_read c.args.basis.now.shape c.words.result.now c.args.basis.now.words c.words.ensures.held.basis c.words.ensures.words c.in-Some.place c.at-above.result.now c.args.word.now c.in_ok-next.next c.in-Some-rest_after.rest.now c.trailing_ones-count.result
          c.at-above.ensures after made c.trailing_ones-count.ensures,
      heads_all c.loop-left.inner c.loop-left.next (c.args.inner.now ++ heads c.in_ok-next.next c.trailing_ones-count.result) c.trailing_ones-count.result c.loop-left._left (let e : c.loop-left._left ≡ c.trailing_ones-count.result = omega (arith, c.loop-left-test.false, c.loop-left.auto._left-end) in e) c.loop-left.invariant,
    )
