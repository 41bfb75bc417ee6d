use Rattle.std.proofs.Common.{◌<◌, length, arith, subst}
use Rattle.std.proofs.lemmas.List.Elements.{All-more}
use Rattle.std.proofs.lemmas.Option.{slice_get_within}
use Rattle.ht_word.specs.Words.{IsUnder}
use Rattle.ht_pair.specs.declared.row.Row.{Row}
use Rattle.ht_ops.proofs.run.count_under.Goals as goal

pub loop-index-preserved : goal.loop-index-preserved
loop-index-preserved c =
    All-more (λ (row : Row). IsUnder row.from c.args.word.now) c.args.rows.now c.loop-index.index c.index-rows-index.result c.loop-index-test.true c.loop-index.invariant
    (subst (λ (t : Row). IsUnder t.from c.args.word.now) c.index-rows-index.is (c.is_prefix_of.ensures.0 c.if-not-is_prefix_of.false))

pub returns-clause-end : goal.returns-clause-end
returns-clause-end c = λ row e h. let l : length c.args.rows.now < length c.args.rows.now = slice_get_within c.args.rows.now (length c.args.rows.now) row e in omega arith
