use Rattle.std.proofs.Common.{ℕ, ◌<◌, ◌≢◌}
use Rattle.ht_script.proofs.CommandLaws.{word_at}
use Rattle.ht_script.proofs.command.Command.of_keyword.Given as goal

abbrev pub invariant-loop-command : goal.invariant-loop-command
invariant-loop-command l = (k : ℕ) → k < l.command-index → l.token ≢ word_at k
