use Rattle.std.proofs.Common.{◌+◌, ◌*◌, ◌%◌, ◌^◌, ◌∙◌, ap}
use Rattle.std.proofs.Math.Nat.{mod-add-mod, mul_comm}
use Rattle.ht_sample.specs.Draws.{next_state}
use Rattle.ht_sample.proofs.draws.next.Goals as goal

pub returns : goal.returns
unfolding next_state
returns c = mod-add-mod (c.args.state * 6364136223846793005) (2 ^ 64) 1442695040888963407 ∙ ap (λ k. (k + 1442695040888963407) % 2 ^ 64) (mul_comm c.args.state 6364136223846793005)
