use Rattle.std.proofs.Common.{sym}
use Rattle.ht_word.proofs.PrefixTests.{prefix_test}
use Rattle.ht_word.proofs.word.Word.is_prefix_of.Goals as goal

pub returns-then-self-other : goal.returns-then-self-other
returns-then-self-other c =
    prefix_test c.args.other.now c.args.self.now c.starts_with.result (sym c.if-self-other.true)
    (rw (← c.as_slice.ensures, ← c.as_slice-then-self-other.ensures) c.starts_with.ensures.value)
