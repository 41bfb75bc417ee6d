use Rattle.std.proofs.Common.{sym, subst}
use Rattle.ht_pair.specs.Elements.{IsElement}
use Rattle.ht_pair.proofs.SizeLaws.{identity_element}
use Rattle.ht_pair.proofs.element.Element.identity.Goals as goal

pub invariant_of-result : goal.invariant_of-result
invariant_of-result c = subst (IsElement c.args.shape) (sym c.in_ok-rows.ensures) (identity_element c.args.shape)
