-- What one element is asked, and what it answers. X is its quasinormal basis.
--
--     TakesBasis question                      it takes the quasinormal basis, so it meets the budget
--     order_answer order                       the answer that tells an order: a wide one is refused
--     Tells shape budget p question answer     the element p gives this answer; where it takes X, that fits the budget
use Rattle.std.specs.Prelude.{ℕ, List, ⊤}
use Rattle.ht_word.specs.declared.word.Word.{Word}
use Rattle.ht_word.specs.declared.shape.Shape.{Shape}
use Rattle.ht_pair.specs.declared.row.Row.{Row}
use Rattle.ht_pair.specs.Bases.{TakesAtMost}
use Rattle.ht_pair.specs.SemiNormal.{IsQuasinormal}
use Rattle.ht_pair.specs.Profiles.{IsProfile}
use Rattle.ht_types.specs.declared.kind.Kind.{Kind}
use Rattle.ht_types.specs.declared.order.Order as element
use Rattle.ht_types.specs.declared.order.Order.TheVariants.{Finite, Infinite, Wide}
use Rattle.ht_types.specs.declared.sharing.Pond.{Pond}
use Rattle.ht_types.specs.KnownOrders.{HasOrder}
use Rattle.ht_types.specs.WordKinds.{AreKinds}
use Rattle.ht_share.specs.PondLists.{ArePonds}
use Rattle.ht_answer.specs.declared.answer.Answer as answers
use Rattle.ht_answer.specs.declared.answer.Answer.TheVariants as answer
use Rattle.ht_answer.specs.declared.answer.Refusal.TheVariants as refusal
use Rattle.ht_pair.specs.Budgets.{FitsBudget}
use Rattle.ht_ask.specs.declared.question.Question.{Question}
use Rattle.ht_ask.specs.declared.question.Question.TheVariants.{Show, Basis, Order, Types, Profile, Ponds}

abbrev pub TakesBasis : Question → Type 0
TakesBasis Show = ⊥
TakesBasis Basis = ⊤
TakesBasis Order = ⊤
TakesBasis Types = ⊤
TakesBasis Profile = ⊤
TakesBasis Ponds = ⊤

abbrev pub order_answer : element.Order → answers.Answer
order_answer (Finite k) = answer.Order (Finite k)
order_answer Infinite = answer.Order Infinite
order_answer Wide = answer.Refused refusal.Wide

pub data Tells (shape : Shape) (budget : ℕ) (p : List Row) : Question → answers.Answer → Type 0 where
  shown : Tells shape budget p Show (answer.Pair p)
  basis_told : (X : List Word) → IsQuasinormal shape p X → TakesAtMost shape X budget → Tells shape budget p Basis (answer.Basis X)
  order_told : (order : element.Order) → FitsBudget shape budget p → HasOrder shape p order → Tells shape budget p Order (order_answer order)
  types_told : (X : List Word) (kinds : List Kind) → IsQuasinormal shape p X → TakesAtMost shape X budget → AreKinds shape p X kinds → Tells shape budget p Types (answer.Types X kinds)
  profile_told : (X : List Word) (profile : List (ℕ × ℕ)) → IsQuasinormal shape p X → TakesAtMost shape X budget → IsProfile shape p X profile → Tells shape budget p Profile (answer.Profile profile)
  ponds_told : (X : List Word) (ponds : List Pond) → IsQuasinormal shape p X → TakesAtMost shape X budget → ArePonds shape p X ponds → Tells shape budget p Ponds (answer.Ponds ponds)
