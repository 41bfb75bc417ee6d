use Rattle.std.proofs.Common.{◌∙◌, sym}
use Rattle.ht_conj.specs.contracts.ends.EndEq.TheImpl.Laws.{laws-law}
use Rattle.ht_conj.proofs.EndLaws.{equal_tested}
use Rattle.ht_conj.proofs.ends.are_equal.Goals as goal

pub returns : goal.returns
returns c = λ same.
    equal_tested laws-law c.as_slice.result.now c.as_slice-2.result.now c.eq.result c.eq.ensures (c.as_slice.ensures ∙ same ∙ sym c.as_slice-2.ensures)
