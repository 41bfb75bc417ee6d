-- The words of a basis and their kinds have texts.
use Rattle.std.proofs.Common.{◌≡◌, List, length, Option, None, Some, slice_get, pos, neg_ℤ, sym, ap, ◌∙◌, subst, arith}
use Rattle.std.proofs.lemmas.Option.{slice_get_within, slice_get-get_or}
use Rattle.ht_word.specs.declared.word.Word.{Word}
use Rattle.ht_word.specs.declared.shape.Shape.{Shape}
use Rattle.ht_word.specs.Words.{◌·◌, IsWordOf}
use Rattle.ht_word.proofs.WordLaws.{All-from_contains, word_rest}
use Rattle.ht_pair.specs.declared.row.Row.{Row}
use Rattle.ht_pair.specs.Bases.{IsBasis}
use Rattle.ht_pair.specs.Pairs.{IsPair}
use Rattle.ht_pair.proofs.CarriesLaws.{carries_word}
use Rattle.ht_types.specs.declared.kind.Reach.{Reach}
use Rattle.ht_types.specs.declared.kind.Kind.{Kind}
use Rattle.ht_types.specs.declared.kind.Kind.TheVariants.{Cycle, Attractor, Repeller, Passing}
use Rattle.ht_types.specs.WordKinds.{IsAhead, IsBehind, HasKind, AreKinds}
use Rattle.ht_text.specs.Texts.{HasText}
use Rattle.ht_text.proofs.CanonicalTexts.{word_has_text, letters_are_digits}
use Rattle.ht_answer.specs.KindTexts.{HasWholeText, HasReachText, HasKindText, HasTypesText}
use Rattle.ht_ask.proofs.QuestionTexts.{basis_has_text}
use Rattle.ht_quasi.proofs.RoundLaws.{something_at}

-- a word that a power carries to is one of the shape
reached_text : (shape : Shape) (p : List Row) (X words : List Word) (reach : Reach) (above : Word) → words ≡ X → slice_get X reach.to ≡ Some above → IsWordOf shape (above · reach.rest) → HasWholeText words reach
reached_text shape p X words reach above same here h = subst (λ W. HasWholeText W reach) (sym same) (record {
  inside = slice_get_within X reach.to above here;
  whole = λ other there. let e : Some other ≡ Some above = sym there ∙ here in let is : other ≡ above = cc in subst (λ w. HasText (w · reach.rest)) (sym is) (word_has_text shape (above · reach.rest) h);
})

ahead_text : (shape : Shape) (p : List Row) → IsPair shape p → (X words : List Word) (x : Word) (found : Option Reach) → words ≡ X → IsAhead shape p X x found → HasReachText words found
ahead_text shape p pair X words x None same h = tt
ahead_text shape p pair X words x (Some reach) same h =
    reached_text shape p X words reach h.above same h.here (carries_word shape p pair (pos reach.steps) x (h.above · reach.rest) h.first.1.reached.carries)

behind_text : (shape : Shape) (p : List Row) → IsPair shape p → (X words : List Word) (x : Word) (found : Option Reach) → words ≡ X → IsBehind shape p X x found → HasReachText words found
behind_text shape p pair X words x None same h = tt
behind_text shape p pair X words x (Some reach) same h =
    reached_text shape p X words reach h.above same h.here (carries_word shape p pair (neg_ℤ (pos reach.steps)) x (h.above · reach.rest) h.first.1.reached.carries)

-- a kind has a text beside the words
kind_has_text : (shape : Shape) (p : List Row) → IsPair shape p → (X words : List Word) (x : Word) (kind : Kind) → words ≡ X → HasKind shape p X x kind → HasKindText words kind
kind_has_text shape p pair X words x (Cycle m) same h = tt
kind_has_text shape p pair X words x (Attractor m by) same h = letters_are_digits shape by (word_rest shape x by (carries_word shape p pair (pos m) x (x · by) h.lengthens.1))
kind_has_text shape p pair X words x (Repeller m by) same h = letters_are_digits shape by (word_rest shape x by (carries_word shape p pair (neg_ℤ (pos m)) x (x · by) h.lengthens.1))
kind_has_text shape p pair X words x (Passing ahead behind) same h = (ahead_text shape p pair X words x ahead same h.1, behind_text shape p pair X words x behind same h.2)

-- the words of a basis with their kinds have a text
pub kinds_have_text : (shape : Shape) (p : List Row) (X words : List Word) (kinds : List Kind) → IsPair shape p → IsBasis shape X → words ≡ X → AreKinds shape p X kinds → HasTypesText words kinds
kinds_have_text shape p X words kinds pair basis same are =
    let texts = basis_has_text shape X words basis same in
    record {
      some = texts.0;
      words_have_texts = texts.1;
      as_many = are.as_many ∙ sym (ap length same);
      kinds_have_texts = All-from_contains (HasKindText words) kinds (λ kind c.
          let x = something_at X c.0 (let l = c.1 in omega (arith, l, are.as_many)) in
          kind_has_text shape p pair X words x.0 kind same (are.each c.0 x.0 kind x.1 (slice_get-get_or kinds c.0 kind c.1 ∙ ap (λ (k : Kind). Some k) c.2)));
    }
