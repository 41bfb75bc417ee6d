-- Rows of one step from under the words of an atom lead to under its words.
use Rattle.std.proofs.Common.{◌≡◌, ◌↔◌, ℕ, List, Some, slice_get, sym, ap, ◌∙◌, subst, Contains, pos}
use Rattle.std.proofs.lemmas.List.Elements.{All-contains}
use Rattle.std.proofs.lemmas.Option.{same_Some}
use Rattle.ht_word.specs.Words.{IsUnder, IsUnderSome, IsWordOf}
use Rattle.ht_word.specs.declared.word.Word.{Word}
use Rattle.ht_word.proofs.ListLaws.{Contains-map}
use Rattle.ht_word.proofs.WordLaws.{under_refl}
use Rattle.ht_pair.specs.Atoms.{IsAtom, words_at}
use Rattle.ht_pair.specs.HeldBases.{IsPlaceAbove}
use Rattle.ht_pair.specs.Pairs.{to_words}
use Rattle.ht_pair.specs.Steps.{Carries}
use Rattle.ht_pair.specs.declared.row.Row.{Row}
use Rattle.ht_pair.proofs.BasisLaws.{prefix_free_place, some_at}
use Rattle.ht_pair.proofs.CarriesLaws.{carries_word}
use Rattle.ht_types.specs.TypedElements.{TypedValue, IsTyped}
use Rattle.ht_pieces.proofs.InsideLaws.{inside_from_under}
use Rattle.ht_pieces.proofs.KeptAtoms.{carried_into_atom}
use Rattle.ht_types.proofs.PlacedWords.{at_places, placed_word}
use Rattle.ht_local.specs.PlacedLists.{IsStepBelow}
use Rattle.ht_types.proofs.TypedLaws.{typed_base}
use Rattle.ht_local.proofs.PlaceLaws.{entry_listed}

-- the rows of one step from under the word at the index are those listed whose `from` words are under it
pub step_told : (t : TypedValue) (k : List ℕ) (index : ℕ) (row : Row) {place : ℕ} {above : Word} → slice_get k index ≡ Some place → slice_get t.quasi.basis.words place ≡ Some above
    → (Contains t.quasi.y row × IsUnder row.from above) ↔ IsStepBelow t k index row
step_told t k index row {place} {above} at here = (
  (λ h. record { listed = h.0; place = place; place_at = at; above = above; here = here; under = h.1 }),
  (λ s.
      let same : s.above ≡ above = same_Some s.above above (sym s.here ∙ ap (λ i. slice_get t.quasi.basis.words i) (same_Some s.place place (sym s.place_at ∙ at)) ∙ here) in
      (s.listed, subst (IsUnder row.from) same s.under)),
)

module _ (t : TypedValue) (typed : IsTyped t.element t.quasi t.kinds) (k : List ℕ) (atom : IsAtom t.element.shape t.element.rows t.quasi.basis.words k) {index : ℕ} {row : Row} (s : IsStepBelow t k index row) where
  pub step_carries : Carries t.element.shape t.element.rows (pos 1) row.from row.to
  step_carries = All-contains (λ (q : Row). Carries t.element.shape t.element.rows (pos 1) q.from q.to) t.quasi.y row typed.quasinormal.rows.to s.listed

  -- from under one of the words
  pub step_under : IsUnderSome row.from (words_at t.quasi.basis.words k)
  step_under = some_at (words_at t.quasi.basis.words k) s.above row.from (at_places t.quasi.basis.words k s.place s.above (entry_listed k index s.place s.place_at) s.here) s.under

  -- to under one
  pub step_to_under : IsUnderSome row.to t.quasi.basis.words
  step_to_under = All-contains (λ w. IsUnderSome w t.quasi.basis.words) (to_words t.quasi.y) row.to typed.quasinormal.rows.to_under (Contains-map (λ (q : Row). q.to) t.quasi.y row s.listed)

  pub step_place : (place : ℕ) → IsPlaceAbove t.quasi.basis.words row.to place → Contains k place
  step_place place above =
      let X = t.quasi.basis.words in
      let h = typed_base t typed in
      let c = entry_listed X place above.word above.here in
      let listed = carried_into_atom h atom (pos 1) row.from row.to above.word (inside_from_under t.element.shape (words_at X k) row.from step_carries.word step_under) step_carries c above.above in
      let g = placed_word X k above.word listed in
      let same : g.0 ≡ place = prefix_free_place X h.semi.basis.prefix_free above.word above.word (entry_listed X g.0 above.word g.2) c (under_refl above.word) in
      subst (Contains k) same g.1

  -- to words of the shape
  pub step_to_word : IsWordOf t.element.shape row.to
  step_to_word = carries_word t.element.shape t.element.rows typed.canonical.pair (pos 1) row.from row.to step_carries
