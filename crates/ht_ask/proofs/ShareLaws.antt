-- What a typed element tells of two words, said of the element that it was made for.
use Rattle.std.proofs.Common.{◌≡◌, ℕ, ℤ, Option, sym, subst}
use Rattle.ht_word.specs.declared.word.Word.{Word}
use Rattle.ht_word.specs.Words.{IsWordOf, IsUnderSome}
use Rattle.ht_pair.specs.Bases.{TakesAtMost}
use Rattle.ht_pair.specs.Elements.{ElementValue}
use Rattle.ht_types.specs.Shares.{IsShare}
use Rattle.ht_types.specs.TypedElements.{TypedValue, IsTyped}
use Rattle.ht_answer.specs.declared.answer.Answer.TheVariants as answer
use Rattle.ht_answer.specs.declared.answer.Refusal.TheVariants as refusal
use Rattle.ht_ask.specs.ShareAnswers.{AreAskedOf, TellsShare, first_above, second_above, share_is}

-- the words as the sharing of an element asks for them
pub asked_of : (typed told : TypedValue) (word : Word) → told ≡ typed → IsWordOf typed.element.shape word → IsUnderSome word typed.quasi.basis.words → IsWordOf told.element.shape word × IsUnderSome word told.quasi.basis.words
asked_of typed told word same is under = subst (λ (t : TypedValue). IsWordOf t.element.shape word × IsUnderSome word t.quasi.basis.words) (sym same) (is, under)

module _ (typed told : TypedValue) (element : ElementValue) (budget : ℕ) (u v : Word) (same : told ≡ typed) (of : (typed.element ≡ element) × IsTyped element typed.quasi typed.kinds) (within : TakesAtMost element.shape typed.quasi.basis.words budget)
    (one : IsWordOf element.shape u) (other : IsWordOf element.shape v) where
  asked : AreAskedOf element.shape budget element.rows u v typed.quasi.basis.words
  asked = record { first = one; second = other; quasinormal = of.1.quasinormal.least; within = within }

  pub first_refused : ¬ IsUnderSome u typed.quasi.basis.words → TellsShare element.shape budget element.rows u v (answer.Refused (refusal.Above 1))
  first_refused above = first_above typed.quasi.basis.words asked above

  pub second_refused : IsUnderSome u typed.quasi.basis.words → ¬ IsUnderSome v typed.quasi.basis.words → TellsShare element.shape budget element.rows u v (answer.Refused (refusal.Above 2))
  second_refused under above = second_above typed.quasi.basis.words asked under above

  pub told_as_share : IsUnderSome u typed.quasi.basis.words → IsUnderSome v typed.quasi.basis.words → (share : Option ℤ) → IsShare told.element.shape told.element.rows told.quasi.basis.words u v share → TellsShare element.shape budget element.rows u v (answer.Share share)
  told_as_share under also share is = share_is typed.quasi.basis.words share asked under also
      (subst (λ (e : ElementValue). IsShare e.shape e.rows typed.quasi.basis.words u v share) of.0 (subst (λ (t : TypedValue). IsShare t.element.shape t.element.rows t.quasi.basis.words u v share) same is))
