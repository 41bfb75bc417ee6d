use Rattle.std.proofs.Common.{◌≡◌, ◌∙◌, ap, sym, subst, map, List, MatchOption}
use Rattle.std.proofs.lemmas.List.{map-id}
use Rattle.ht_word.specs.Words.{IsUnderSome, IsAscending}
use Rattle.ht_word.specs.declared.word.Word.{Word}
use Rattle.ht_pair.specs.Bases.{IsPrefixFree}
use Rattle.ht_pair.specs.HeldBases.{BasisValue, IsPlaceAbove}
use Rattle.ht_pair.proofs.basis.Basis.find.Goals as goal

-- the words searched are those of the basis
searched : (given words : List Word) → given ≡ words → map (λ (x : Word). x) given ≡ words
searched given words is = map-id given ∙ is

pub place_above-requires-clause-prefix_free : goal.place_above-requires-clause-prefix_free
place_above-requires-clause-prefix_free c = subst IsPrefixFree (sym (searched c.as_slice.result.now c.self.inside.words c.as_slice.ensures)) c.self.invariant.basis.prefix_free

pub place_above-requires-clause-ascending : goal.place_above-requires-clause-ascending
place_above-requires-clause-ascending c = subst IsAscending (sym (searched c.as_slice.result.now c.self.inside.words c.as_slice.ensures)) c.self.invariant.ascending

pub returns : goal.returns
returns c =
    subst (λ (X : List Word). MatchOption c.place_above.result (¬ IsUnderSome c.args.word.now X) (IsPlaceAbove X c.args.word.now))
    (searched c.as_slice.result.now c.self.inside.words c.as_slice.ensures ∙ ap (λ (b : BasisValue). b.words) c.self.view_is) c.place_above.ensures
