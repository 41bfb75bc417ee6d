use Rattle.ht_text.proofs.Cuts.{prefix_test}
use Rattle.ht_text.proofs.bytes.after.Goals as goal

pub returns : goal.returns
returns c = prefix_test c.args.bytes.now c.args.prefix.now c.strip_prefix.result c.strip_prefix.ensures.cases
