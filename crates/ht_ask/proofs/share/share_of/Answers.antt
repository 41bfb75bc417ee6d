use Rattle.std.proofs.Common.{sym, refl, subst, true≢false}
use Rattle.ht_word.specs.Words.{IsWordOf}
use Rattle.ht_pair.specs.Elements.{ElementValue}
use Rattle.ht_ask.proofs.ShareLaws.{asked_of, first_refused, second_refused, told_as_share}
use Rattle.ht_ask.proofs.share.share_of.Goals as goal

pub returns-then-not-is_under-clause-answer : goal.returns-then-not-is_under-clause-answer
returns-then-not-is_under-clause-answer c =
    first_refused c.in_ok-typed.typed c.in_ok-typed.typed c.args.element.now c.args.budget c.args.first.now c.args.second.now refl c.in_ok-typed.ensures.typed c.in_ok-typed.ensures.within c.requires.first c.requires.second
    (λ under. true≢false (sym (c.if-not-is_under.ensures.1 under)))

pub returns-then-not-is_under-2-clause-answer : goal.returns-then-not-is_under-2-clause-answer
returns-then-not-is_under-2-clause-answer c =
    second_refused c.in_ok-typed.typed c.in_ok-typed.typed c.args.element.now c.args.budget c.args.first.now c.args.second.now refl c.in_ok-typed.ensures.typed c.in_ok-typed.ensures.within c.requires.first c.requires.second
    (c.if-not-is_under.ensures.0 refl) (λ under. true≢false (sym (c.if-not-is_under-2.ensures.1 under)))

pub share-requires-clause-first : goal.share-requires-clause-first
share-requires-clause-first c =
    asked_of c.in_ok-typed.typed c.new.result.t.now c.args.first.now c.new.ensures (subst (λ (e : ElementValue). IsWordOf e.shape c.args.first.now) (sym c.in_ok-typed.ensures.typed.0) c.requires.first) (c.if-not-is_under.ensures.0 refl)

pub share-requires-clause-second : goal.share-requires-clause-second
share-requires-clause-second c =
    asked_of c.in_ok-typed.typed c.new.result.t.now c.args.second.now c.new.ensures (subst (λ (e : ElementValue). IsWordOf e.shape c.args.second.now) (sym c.in_ok-typed.ensures.typed.0) c.requires.second) (c.if-not-is_under-2.ensures.0 refl)

pub returns-clause-answer : goal.returns-clause-answer
returns-clause-answer c =
    told_as_share c.in_ok-typed.typed c.new.result.t.now c.args.element.now c.args.budget c.args.first.now c.args.second.now c.new.ensures c.in_ok-typed.ensures.typed c.in_ok-typed.ensures.within c.requires.first c.requires.second
    (c.if-not-is_under.ensures.0 refl) (c.if-not-is_under-2.ensures.0 refl) c.in_ok-share.field-0 c.in_ok-share.ensures
