-- The rows of the parts, one by one.
use Rattle.std.proofs.Common.{◌≡◌, ℕ, ◌+◌, ◌≤◌, ◌<◌, ◌↔◌, inl, inr, Bool, true, false, IsTrue, List, [], ◌∷◌, ◌++◌, length, take, Some, slice_get, get_or, option_map, refl, sym, ap, ◌∙◌, subst, Contains, pos}
use Rattle.std.proofs.lemmas.List.{take_more, take_all, map-append}
use Rattle.std.proofs.lemmas.List.Elements.{All-contains, All-append, All-cons, All-nil}
use Rattle.std.proofs.lemmas.Option.{slice_get_within, get_or_from_slice_get, slice_get-map}
use Rattle.ht_word.specs.Words.{IsUnderSome}
use Rattle.ht_word.specs.declared.word.Word.{Word}
use Rattle.ht_word.proofs.ListLaws.{Contains-map}
use Rattle.ht_word.proofs.WordLaws.{under_refl}
use Rattle.ht_pair.specs.Actions.{Moves}
use Rattle.ht_pair.specs.Elements.{ElementValue}
use Rattle.ht_pair.specs.HeldBases.{IsPlaceAbove}
use Rattle.ht_pair.specs.Kinds.{IsCycleWord}
use Rattle.ht_pair.specs.Pairs.{from_words}
use Rattle.ht_pair.specs.Steps.{Carries}
use Rattle.ht_pair.specs.declared.row.Row.{Row}
use Rattle.ht_quasi.specs.declared.quasi.Quasi.{Quasi}
use Rattle.ht_quasi.proofs.KeptLaws.{entry_at}
use Rattle.ht_quasi.proofs.StepLaws.{listed_at, carried_moves}
use Rattle.ht_types.specs.declared.kind.Kind.{Kind}
use Rattle.ht_types.specs.TypedElements.{IsTyped}
use Rattle.ht_types.proofs.PeriodicLaws.{cycle_next}
use Rattle.ht_parts.specs.PartRows.{MovesWithin, ArePartRows}

-- ---- one row

-- the row of a word with P, which is moved
pub moved_within : (p : List Row) (X : List Word) (P Q : Word → Type 0) (place : ℕ) (x : Word) (row : Row) → slice_get X place ≡ Some x → P x → (row.from ≡ x) × Moves p x row.to → (slice_get X place ≡ Some row.from) × MovesWithin p X P Q row.from row.to
moved_within p X P Q place x row here h moves =
    let e = sym moves.0 in
    (subst (λ t. slice_get X place ≡ Some t) e here, subst (λ t. MovesWithin p X P Q t row.to) e (inl (record { above = x; listed = listed_at X place x here; such = h; under = under_refl x }, moves.1)))

-- the row of a word with Q, which is kept
pub kept_within : (p : List Row) (X : List Word) (P Q : Word → Type 0) (place : ℕ) (x : Word) (row : Row) → slice_get X place ≡ Some x → Q x → (row.from ≡ x) × (row.to ≡ x) → (slice_get X place ≡ Some row.from) × MovesWithin p X P Q row.from row.to
kept_within p X P Q place x row here h keeps =
    let e = sym keeps.0 in
    (subst (λ t. slice_get X place ≡ Some t) e here, subst (λ t. MovesWithin p X P Q t row.to) e (inr (record { above = x; listed = listed_at X place x here; such = h; under = under_refl x }, sym keeps.1)))

-- the row of a word under a word with P, which is moved
pub moved_below : (p : List Row) (X : List Word) (P Q : Word → Type 0) (place : ℕ) (old row : Row) → (above : IsPlaceAbove X old.from place) → P above.word → Moves p old.from old.to → row ≡ old → (row.from ≡ old.from) × MovesWithin p X P Q row.from row.to
moved_below p X P Q place old row above h moves same =
    (ap (λ (r : Row). r.from) same, subst (λ (r : Row). MovesWithin p X P Q r.from r.to) (sym same) (inl (record { above = above.word; listed = listed_at X place above.word above.here; such = h; under = above.above }, moves)))

-- the row of a word under a word with Q, which is kept
pub kept_below : (p : List Row) (X : List Word) (P Q : Word → Type 0) (place : ℕ) (u : Word) (row : Row) → (above : IsPlaceAbove X u place) → Q above.word → (row.from ≡ u) × (row.to ≡ u) → (row.from ≡ u) × MovesWithin p X P Q row.from row.to
kept_below p X P Q place u row above h keeps =
    (keeps.0, subst (λ t. MovesWithin p X P Q t row.to) (sym keeps.0) (inr (record { above = above.word; listed = listed_at X place above.word above.here; such = h; under = above.above }, sym keeps.1)))

-- a test that fails tells that what it tells isn't so
pub untold : (test : Bool) (A : Type 0) → test ≡ false → IsTrue test ↔ A → ¬ A
untold test A failed told h = let passed : test ≡ true = told.1 h in cc

-- ---- of a typed element

-- the word at a place, as it is read
pub word_read : (place : ℕ) (x : Word) (given : List Word) (held quasi : Quasi) → slice_get given place ≡ Some x → given ≡ held.basis.words → held ≡ quasi → slice_get quasi.basis.words place ≡ Some x
word_read place x given held quasi here words same = subst (λ (W : List Word). slice_get W place ≡ Some x) (words ∙ ap (λ (q : Quasi). q.basis.words) same) here

-- the place above a word, as it is found
pub place_found : (place : ℕ) (u : Word) (held quasi : Quasi) → IsPlaceAbove held.basis.words u place → held ≡ quasi → IsPlaceAbove quasi.basis.words u place
place_found place u held quasi above same = subst (λ (q : Quasi). IsPlaceAbove q.basis.words u place) same above

-- a cycle word is moved
pub cycle_moves : (element given : ElementValue) (quasi : Quasi) (kinds : List Kind) → IsTyped element quasi kinds → given ≡ element → (place : ℕ) (x : Word) → slice_get quasi.basis.words place ≡ Some x → IsCycleWord element.shape element.rows x → (v : Word) × Moves given.rows x v
cycle_moves element given quasi kinds typed same place x here cycle =
    let next = cycle_next element.shape element.rows typed.canonical.pair quasi.basis.words typed.quasinormal.least.semi_normal x cycle.0 (listed_at quasi.basis.words place x here) cycle.1 in
    (next.word, subst (λ (e : ElementValue). Moves e.rows x next.word) (sym same) (carried_moves element.shape element.rows typed.canonical.canonical x next.word next.carries))

-- so is the word of a row of what one step carries
pub carried_row : (element : ElementValue) (quasi : Quasi) (kinds : List Kind) → IsTyped element quasi kinds → (row : Row) → Contains quasi.y row → Moves element.rows row.from row.to
carried_row element quasi kinds typed row c = carried_moves element.shape element.rows typed.canonical.canonical row.from row.to (All-contains (λ (r : Row). Carries element.shape element.rows (pos 1) r.from r.to) quasi.y row typed.quasinormal.rows.to c)

-- which is under a word of the basis
pub carried_under : (element : ElementValue) (held quasi : Quasi) (kinds : List Kind) → IsTyped element quasi kinds → held ≡ quasi → (row : Row) → Contains quasi.y row → IsUnderSome row.from held.basis.words
carried_under element held quasi kinds typed same row c =
    subst (λ (q : Quasi). IsUnderSome row.from q.basis.words) (sym same) (All-contains (λ x. IsUnderSome x quasi.basis.words) (from_words quasi.y) row.from typed.quasinormal.rows.from_under (Contains-map (λ (r : Row). r.from) quasi.y row c))

-- ---- all rows

-- no rows
pub no_part_rows : (p : List Row) (X : List Word) (P Q : Word → Type 0) (rows : List Row) → rows ≡ [] → ArePartRows p X P Q [] rows
no_part_rows p X P Q rows none = subst (ArePartRows p X P Q []) (sym none) (record { from = refl; moved = All-nil (λ (row : Row). MovesWithin p X P Q row.from row.to) })

-- one more row
pub one_more_part_row : (p : List Row) (X : List Word) (P Q : Word → Type 0) (U : List Word) (place : ℕ) (rows new : List Row) (row : Row) → ArePartRows p X P Q (take place U) rows → slice_get U place ≡ Some row.from → MovesWithin p X P Q row.from row.to → new ≡ rows ++ row ∷ []
    → ArePartRows p X P Q (take (place + 1) U) new
one_more_part_row p X P Q U place rows new row are here moves added = subst (ArePartRows p X P Q (take (place + 1) U)) (sym added) (record {
  from = map-append (λ (r : Row). r.from) rows (row ∷ []) ∙ ap (λ (W : List Word). W ++ row.from ∷ []) are.from
      ∙ sym (take_more U place row.from (slice_get_within U place row.from here) ∙ ap (λ t. take place U ++ t ∷ []) (get_or_from_slice_get U place row.from row.from here));
  moved = All-append R rows (row ∷ []) are.moved (All-cons R row [] moves (All-nil R));
})
  where
    R : Row → Type 0
    R r = MovesWithin p X P Q r.from r.to

-- the rows from all words
pub all_part_rows : (p : List Row) (X : List Word) (P Q : Word → Type 0) (U : List Word) (count : ℕ) (rows : List Row) → length U ≤ count → ArePartRows p X P Q (take count U) rows → ArePartRows p X P Q U rows
all_part_rows p X P Q U count rows far are = subst (λ (W : List Word). ArePartRows p X P Q W rows) (take_all count U far) are

-- the word of the row at a place, as it is copied
pub row_read : (place : ℕ) (row new : Row) (given : List Row) (held quasi : Quasi) → place < length given → row ≡ get_or given place row → given ≡ held.y → held ≡ quasi → new.from ≡ row.from → slice_get (from_words quasi.y) place ≡ Some new.from
row_read place row new given held quasi inside is rows same e =
    slice_get-map (λ (r : Row). r.from) quasi.y place ∙ ap (λ o. option_map (λ (r : Row). r.from) o) (subst (λ (y : List Row). slice_get y place ≡ Some row) (rows ∙ ap (λ (q : Quasi). q.y) same) (entry_at given place row row inside (sym is))) ∙ ap (λ (x : Word). Some x) (sym e)
