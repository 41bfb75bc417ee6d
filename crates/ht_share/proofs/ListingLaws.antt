-- The ponds of the inner words are listed from the first word on, while what is found of each is taken from the end.
use Rattle.std.proofs.Common.{◌≡◌, ℕ, ◌+◌, ◌≤◌, ◌<◌, List, [], ◌∷◌, ◌++◌, length, take, drop, get_or, Option, option_to_list, sym, ap, ◌∙◌, subst, arith}
use Rattle.std.proofs.lemmas.List.{drop_more, length-append, length-drop, take_all}
use Rattle.std.proofs.lemmas.Option.{get_or_from_slice_get}
use Rattle.ht_word.specs.declared.shape.Shape.{Shape}
use Rattle.ht_word.specs.declared.word.Word.{Word}
use Rattle.ht_pair.specs.Pairs.{IsPair}
use Rattle.ht_pair.specs.declared.row.Row.{Row}
use Rattle.ht_quasi.proofs.RoundLaws.{something_at as word_at}
use Rattle.ht_types.specs.declared.sharing.Pond.{Pond}
use Rattle.ht_share.specs.InnerWords.{AreInner}
use Rattle.ht_share.specs.PondLists.{ArePonds, AreFound}
use Rattle.ht_share.proofs.FoundLaws.{found_last}
use Rattle.ht_share.proofs.ListedLaws.{ArePondsOf, listed_next, listed_all}

-- the ponds of the first inner words are listed, and those of the others found
pub record IsListing (shape : Shape) (p : List Row) (X : List Word) (ponds : List Pond) (found : List (Option Pond)) : Type 0 where
  pub inner : List Word
  pub all : AreInner shape p X inner
  pub done : ℕ
  pub within : done ≤ length inner
  pub listed : ArePondsOf shape p X (take done inner) ponds
  pub left : AreFound shape p X (drop done inner) found

pub listing_next : (shape : Shape) (p : List Row) → IsPair shape p → (X : List Word) (ponds new : List Pond) (found : List (Option Pond)) (last : Option Pond) → IsListing shape p X ponds (found ++ last ∷ []) → new ≡ ponds ++ option_to_list last → IsListing shape p X new found
listing_next shape p pair X ponds new found last l added =
    let words = l.inner in
    let less : l.done < length words = omega (arith, l.within, l.left.many, length-append found (last ∷ []), length-drop l.done words) in
    let x = word_at words l.done less in
    let here : x.0 ≡ get_or words l.done x.0 = sym (get_or_from_slice_get words l.done x.0 x.0 x.1) in
    let split : drop l.done words ≡ x.0 ∷ drop (l.done + 1) words = drop_more words l.done x.0 less ∙ ap (λ w. w ∷ drop (l.done + 1) words) (sym here) in
    let first = found_last shape p X (drop (l.done + 1) words) found x.0 last (subst (λ W. AreFound shape p X W (found ++ last ∷ [])) split l.left) in
    record {
      inner = words;
      all = l.all;
      done = l.done + 1;
      within = omega (arith, less);
      listed = listed_next shape p pair X words l.all.ascending l.done x.0 less here ponds new last first.0 added l.listed;
      left = first.1;
    }

pub listing_done : (shape : Shape) (p : List Row) (X : List Word) (ponds : List Pond) (found : List (Option Pond)) → length found ≡ 0 → IsListing shape p X ponds found → ArePonds shape p X ponds
listing_done shape p X ponds found none l =
    listed_all shape p X l.inner ponds l.all (subst (λ W. ArePondsOf shape p X W ponds) (take_all l.done l.inner (omega (arith, none, l.within, l.left.many, length-drop l.done l.inner))) l.listed)
