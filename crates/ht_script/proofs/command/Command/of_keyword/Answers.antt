use Rattle.std.proofs.Common.{◌≢◌, ◌∙◌, sym}
use borrow.Author.Count.{below_more}
use Rattle.ht_script.proofs.CommandLaws.{no_keyword, differs, word_at}
use Rattle.ht_script.proofs.command.Command.of_keyword.Goals as goal

pub loop-command-preserved : goal.loop-command-preserved
loop-command-preserved c =
    below_more (λ k. c.args.token.now ≢ word_at k) c.loop-command.command-index c.loop-command.invariant
    (λ e. differs c.args.token.now c.keyword.result.now c.eq.result c.eq.ensures c.if-eq.false (e ∙ sym c.keyword.ensures))

pub returns : goal.returns
returns c = no_keyword c.args.token.now c.loop-command.command-index c.loop-command-test.false c.loop-command.invariant
