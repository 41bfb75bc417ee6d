use Rattle.ht_script.proofs.CommandLaws.{IsLongestOf}
use Rattle.ht_script.proofs.command.keyword_front.Given as goal

abbrev pub invariant-loop-command : goal.invariant-loop-command
invariant-loop-command l = IsLongestOf l.token l.command-index l.most
