use Rattle.std.proofs.Common.{◌+◌, subst, sym}
use Rattle.ht_text.specs.Fronts.{IsLongestFront}
use Rattle.ht_script.specs.Tokens.{Is}
use Rattle.ht_script.proofs.CommandLaws.{IsLongestOf, longest_of_none, longest_of_new, longest_of_old, longest_of_all}
use Rattle.ht_script.proofs.command.keyword_front.Goals as goal
use Rattle.ht_script.proofs.command.keyword_front.Goals.{then-most-front, else-most-front}

pub loop-command-init : goal.loop-command-init
loop-command-init c = longest_of_none c.args.token.now

pub loop-command-preserved : goal.loop-command-preserved
loop-command-preserved c =
    let front = subst (λ t. IsLongestFront (Is t) c.args.token.now c.shared_front-front.result) c.keyword.ensures c.shared_front-front.ensures in
    elim c.if-most-front.branch [
      | then-most-front w ↦ subst (λ m. IsLongestOf c.args.token.now (c.loop-command.command-index + 1) m) (sym w.most-is) (longest_of_new c.args.token.now c.loop-command.command-index c.loop-command.most c.shared_front-front.result c.loop-command.invariant front w.if-most-front.true)
      | else-most-front w ↦ subst (λ m. IsLongestOf c.args.token.now (c.loop-command.command-index + 1) m) (sym w.most-is) (longest_of_old c.args.token.now c.loop-command.command-index c.loop-command.most c.shared_front-front.result c.loop-command.invariant front w.if-most-front.false)
    ]

pub returns : goal.returns
returns c = longest_of_all c.args.token.now c.loop-command.command-index c.loop-command.most c.loop-command-test.false c.loop-command.invariant
