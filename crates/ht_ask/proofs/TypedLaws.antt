-- What a typed element tells, said of the element that it was made for.
use Rattle.std.proofs.Common.{◌≡◌, ℕ, pos, List, All, sym, subst, subst₂}
use Rattle.ht_word.specs.declared.word.Word.{Word}
use Rattle.ht_word.specs.declared.shape.Shape.{Shape}
use Rattle.ht_word.proofs.WordLaws.{All-from_contains}
use Rattle.ht_pair.specs.Actions.{IsCanonical}
use Rattle.ht_pair.specs.Bases.{TakesAtMost}
use Rattle.ht_pair.specs.Elements.{ElementValue, IsElement}
use Rattle.ht_pair.specs.Parts.{HasParts}
use Rattle.ht_pair.specs.Profiles.{IsProfile}
use Rattle.ht_pair.specs.SemiNormal.{IsQuasinormal}
use Rattle.ht_pair.proofs.CarriesLaws.{carries_word}
use Rattle.ht_quasi.specs.declared.quasi.Quasi.{Quasi}
use Rattle.ht_types.specs.declared.kind.Kind.{Kind}
use Rattle.ht_types.specs.declared.order.Order as orders
use Rattle.ht_types.specs.KnownOrders.{HasOrder}
use Rattle.ht_types.specs.TypedElements.{IsTyped}
use Rattle.ht_types.specs.declared.sharing.Pond.{Pond}
use Rattle.ht_parts.specs.LargeParts.{IsLargePart}
use Rattle.ht_share.specs.PondLists.{ArePonds}
use Rattle.ht_answer.specs.declared.answer.Answer as answers
use Rattle.ht_answer.specs.declared.answer.Answer.TheVariants as answer
use Rattle.ht_answer.specs.KindTexts.{HasTypesText}
use Rattle.ht_ask.specs.declared.question.Question.TheVariants.{Order, Types, Profile, Ponds}
use Rattle.ht_ask.specs.PartAnswers.{ArePartsOf}
use Rattle.ht_ask.specs.Questions.{Tells, order_answer, order_told, types_told, profile_told, ponds_told}
use Rattle.ht_text.proofs.CanonicalTexts.{word_has_text}
use Rattle.ht_answer.specs.OrbitTexts.{HasPondText}
use Rattle.ht_ask.proofs.KindTexts.{kinds_have_text}

-- the order of what was typed
pub told_as_order : (of element : ElementValue) (quasi : Quasi) (kinds : List Kind) (budget : ℕ) (order : orders.Order) (answer : answers.Answer) → of ≡ element → IsTyped element quasi kinds → TakesAtMost element.shape quasi.basis.words budget
    → HasOrder of.shape of.rows order → answer ≡ order_answer order → Tells element.shape budget element.rows Order answer
told_as_order of element quasi kinds budget order answer same typed within has is = subst (Tells element.shape budget element.rows Order) (sym is)
    (order_told order (record { basis = quasi.basis.words; quasinormal = typed.quasinormal.least; within = within }) (subst (λ (e : ElementValue). HasOrder e.shape e.rows order) same has))

-- its profile
pub told_as_profile : (of element : ElementValue) (quasi : Quasi) (kinds : List Kind) (budget : ℕ) (profile : List (ℕ × ℕ)) → of ≡ element → IsTyped element quasi kinds → TakesAtMost element.shape quasi.basis.words budget
    → IsProfile of.shape of.rows quasi.basis.words profile → Tells element.shape budget element.rows Profile (answer.Profile profile)
told_as_profile of element quasi kinds budget profile same typed within is =
    profile_told quasi.basis.words profile typed.quasinormal.least within (subst (λ (e : ElementValue). IsProfile e.shape e.rows quasi.basis.words profile) same is)

-- its ponds
pub told_as_ponds : (of element : ElementValue) (quasi : Quasi) (kinds : List Kind) (budget : ℕ) (ponds : List Pond) → of ≡ element → IsTyped element quasi kinds → TakesAtMost element.shape quasi.basis.words budget
    → ArePonds of.shape of.rows quasi.basis.words ponds → Tells element.shape budget element.rows Ponds (answer.Ponds ponds)
told_as_ponds of element quasi kinds budget ponds same typed within are =
    ponds_told quasi.basis.words ponds typed.quasinormal.least within (subst (λ (e : ElementValue). ArePonds e.shape e.rows quasi.basis.words ponds) same are)

-- their words have texts
pub ponds_have_text : (of element : ElementValue) (quasi : Quasi) (kinds : List Kind) (ponds : List Pond) → of ≡ element → IsTyped element quasi kinds → ArePonds of.shape of.rows quasi.basis.words ponds → All HasPondText ponds
ponds_have_text of element quasi kinds ponds same typed are = All-from_contains HasPondText ponds (λ pond c.
    let pair = typed.canonical.canonical.pair in
    let is = (subst (λ (e : ElementValue). ArePonds e.shape e.rows quasi.basis.words ponds) same are).same pond.from pond.steps pond.to in
    let carries = (is.0 c).carries in
    record { from = word_has_text element.shape pond.from carries.word; to = word_has_text element.shape pond.to (carries_word element.shape element.rows pair (pos pond.steps) pond.from pond.to carries) })

-- its words with their kinds
pub told_as_types : (element : ElementValue) (quasi : Quasi) (kinds told : List Kind) (budget : ℕ) (words : List Word) → IsTyped element quasi kinds → TakesAtMost element.shape quasi.basis.words budget → words ≡ quasi.basis.words → told ≡ kinds
    → Tells element.shape budget element.rows Types (answer.Types words told)
told_as_types element quasi kinds told budget words typed within are is =
    subst₂ (λ (X : List Word) (K : List Kind). Tells element.shape budget element.rows Types (answer.Types X K)) (sym are) (sym is) (types_told quasi.basis.words kinds typed.quasinormal.least within typed.kinds_are)

pub types_have_text : (element : ElementValue) (quasi : Quasi) (kinds told : List Kind) (words : List Word) → IsTyped element quasi kinds → words ≡ quasi.basis.words → told ≡ kinds → HasTypesText words told
types_have_text element quasi kinds told words typed are is =
    subst (HasTypesText words) (sym is) (kinds_have_text element.shape element.rows quasi.basis.words words kinds typed.canonical.pair typed.quasinormal.least.semi_normal.basis are typed.kinds_are)

-- its parts
pub told_as_parts : (of element : ElementValue) (quasi : Quasi) (kinds : List Kind) (budget : ℕ) (first second : ElementValue) → of ≡ element → IsTyped element quasi kinds → TakesAtMost element.shape quasi.basis.words budget → first.shape ≡ of.shape → second.shape ≡ of.shape
    → HasParts of.shape of.rows quasi.basis.words first.rows second.rows → IsElement first.shape first.rows → IsElement second.shape second.rows → ((rows letters : ℕ) → ¬ IsLargePart of.shape of.rows quasi.basis.words rows letters)
    → ArePartsOf element.shape budget element.rows first.rows second.rows
told_as_parts of element quasi kinds budget first second same typed within first_shape second_shape parts one other small = subst (λ (e : ElementValue). ArePartsOf e.shape budget e.rows first.rows second.rows) same (record {
  basis = quasi.basis.words;
  quasinormal = subst (λ (e : ElementValue). IsQuasinormal e.shape e.rows quasi.basis.words) (sym same) typed.quasinormal.least;
  within = subst (λ (e : ElementValue). TakesAtMost e.shape quasi.basis.words budget) (sym same) within;
  parts = parts;
  first_canonical = subst (λ (s : Shape). IsCanonical s first.rows) first_shape one.canonical;
  second_canonical = subst (λ (s : Shape). IsCanonical s second.rows) second_shape other.canonical;
  small = small;
})
