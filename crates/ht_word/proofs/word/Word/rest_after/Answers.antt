use Rattle.ht_word.proofs.PrefixTests.{rest_test}
use Rattle.ht_word.proofs.word.Word.rest_after.Goals as goal

pub returns : goal.returns
returns c =
    rest_test c.args.self.now c.args.prefix.now c.strip_prefix.result c.if-self-prefix.false
    (rw (← c.as_slice.ensures, ← c.as_slice-2.ensures) c.strip_prefix.ensures.cases)
