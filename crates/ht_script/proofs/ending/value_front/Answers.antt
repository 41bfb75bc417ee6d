use Rattle.std.proofs.Common.{◌≡◌, max, subst}
use Rattle.ht_text.specs.Fronts.{IsLongestFront, IsRowsText}
use Rattle.ht_script.specs.declared.ending.Ending.TheVariants as ending
use Rattle.ht_script.specs.Tokens.{◌▸◌, IsSpaces}
use Rattle.ht_script.specs.Factors.{AreFactorsText}
use Rattle.ht_script.specs.Slots.{IsOfEnding}
use Rattle.ht_script.proofs.FrontLaws.{longest_either}
use Rattle.ht_script.proofs.ending.value_front.Goals as goal

pub returns : goal.returns
returns c =
    let most : max c.last_rows_front.result c.factors_front.result ≡ c.max.result = cc in
    subst (λ n. IsLongestFront (IsOfEnding ending.Value) c.args.bytes.now n) most
    (longest_either (IsRowsText ▸ IsSpaces) AreFactorsText c.args.bytes.now c.last_rows_front.result c.factors_front.result c.last_rows_front.ensures c.factors_front.ensures)
