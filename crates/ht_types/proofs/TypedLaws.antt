-- What holds of an element with its kinds.
use Rattle.ht_types.specs.TypedElements.{TypedValue, IsTyped}
use Rattle.ht_types.proofs.TurnLaws.{HasSemiNormal}

-- what the code knows: a pair and its quasinormal basis
pub typed_base : (t : TypedValue) → IsTyped t.element t.quasi t.kinds → HasSemiNormal t.element.shape t.element.rows t.quasi.basis.words
typed_base t typed = record { pair = typed.canonical.pair; semi = typed.quasinormal.least.semi_normal }
