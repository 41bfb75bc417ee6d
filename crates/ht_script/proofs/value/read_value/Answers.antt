use Rattle.std.proofs.Common.{◌≢◌, inr}
use Rattle.ht_script.proofs.LineLaws.{behind_mark_of, span_all}
use Rattle.ht_script.proofs.value.read_value.Goals as goal

pub returns-then-count_before-text : goal.returns-then-count_before-text
returns-then-count_before-text c = λ line h.
    c.count_before.ensures.stops c.if-count_before-text.true
    (behind_mark_of c.args.line.now c.in-Some.text.now line c.in-Some.ensures h c.count_before.result 0 c.if-count_before-text.true)

pub returns : goal.returns
returns c = inr (record {
  text = c.in-Some.text.now;
  marked = c.in-Some.ensures;
  one_line = span_all (λ b. b ≢ 10) c.in-Some.text.now c.count_before.result c.count_before.ensures c.if-count_before-text.false;
})
