-- An element with its quasinormal basis has a periodic and an infinite part.
use Rattle.std.proofs.Common.{◌⊎◌, inl, inr, List, [], ◌∷◌, refl, ap, subst, Contains}
use Rattle.std.proofs.lemmas.List.Elements.{All-contains, All-cons, All-nil}
use Rattle.ht_word.specs.Words.{IsUnderSome}
use Rattle.ht_word.specs.declared.word.Word.{Word}
use Rattle.ht_word.proofs.ListLaws.{Contains-here, Contains-there, contained_in_map}
use Rattle.ht_word.proofs.WordLaws.{under_refl}
use Rattle.ht_pair.specs.Actions.{Moves}
use Rattle.ht_pair.specs.Kinds.{IsCycleWord}
use Rattle.ht_pair.specs.Pairs.{from_words}
use Rattle.ht_pair.specs.Parts.{HasParts}
use Rattle.ht_pair.specs.declared.row.Row.{Row}
use Rattle.ht_quasi.proofs.StepLaws.{carried_moves}
use Rattle.ht_types.specs.TypedElements.{TypedValue}
use Rattle.ht_types.proofs.CycleKindLaws.{cycle_or_not}
use Rattle.ht_types.proofs.PeriodicLaws.{cycle_next}
use Rattle.ht_parts.specs.PartRows.{IsOther, MovesWithin, ArePartRows}
use Rattle.ht_parts.proofs.PartLaws.{typed_parts}
use Rattle.ht_parts.proofs.RowLaws.{carried_row}
use Rattle.ht_power.proofs.PeriodLaws.{Typed}

-- rows from all words, where each goes to one
part_rows : (p : List Row) (X : List Word) (P Q : Word → Type 0) (U : List Word) → ((u : Word) → Contains U u → (v : Word) × MovesWithin p X P Q u v) → (rows : List Row) × ArePartRows p X P Q U rows
part_rows p X P Q [] each = ([], record { from = refl; moved = All-nil (λ (row : Row). MovesWithin p X P Q row.from row.to) })
part_rows p X P Q (u ∷ U) each =
    let to = each u (Contains-here u U) in
    let rest = part_rows p X P Q U (λ w c. each w (Contains-there u U w c)) in
    let row : Row = record { from = u; to = to.0 } in
    (row ∷ rest.0, record { from = ap (λ (W : List Word). u ∷ W) rest.1.from; moved = All-cons (λ (r : Row). MovesWithin p X P Q r.from r.to) row rest.0 to.1 rest.1.moved })

-- a word under one with P goes where it is moved, and under one with Q it is kept
goes : (p : List Row) (X : List Word) (P Q : Word → Type 0) (u : Word) → (under : IsUnderSome u X) → P under.above ⊎ Q under.above → (P under.above → (v : Word) × Moves p u v) → (v : Word) × MovesWithin p X P Q u v
goes p X P Q u under told moves = elim told [
  | inl h ↦ (let to = moves h in (to.0, inl (record { above = under.above; listed = under.listed; such = h; under = under.under }, to.1)))
  | inr h ↦ (u, inr (record { above = under.above; listed = under.listed; such = h; under = under.under }, refl))
]

module _ (t : TypedValue) (typed : Typed t) where
  abbrev IsTurned : Word → Type 0
  IsTurned x = IsCycleWord t.element.shape t.element.rows x

  abbrev IsLeft : Word → Type 0
  IsLeft x = IsOther t.element.shape t.element.rows x

  cases : (x : Word) → Contains t.quasi.basis.words x → IsTurned x ⊎ IsLeft x
  cases = cycle_or_not t.element.shape t.element.rows t.quasi.basis.words t.kinds typed.canonical.pair typed.kinds_are

  other_cases : (x : Word) → Contains t.quasi.basis.words x → IsLeft x ⊎ IsTurned x
  other_cases x c = elim (cases x c) [ inl h ↦ inr h | inr h ↦ inl h ]

  turned_moves : (x : Word) → Contains t.quasi.basis.words x → IsTurned x → (v : Word) × Moves t.element.rows x v
  turned_moves x c cycle =
      let next = cycle_next t.element.shape t.element.rows typed.canonical.pair t.quasi.basis.words typed.quasinormal.least.semi_normal x cycle.0 c cycle.1 in
      (next.word, carried_moves t.element.shape t.element.rows typed.canonical.canonical x next.word next.carries)

  periodic_rows : (rows : List Row) × ArePartRows t.element.rows t.quasi.basis.words IsTurned IsLeft t.quasi.basis.words rows
  periodic_rows = part_rows t.element.rows t.quasi.basis.words IsTurned IsLeft t.quasi.basis.words (λ x c.
      goes t.element.rows t.quasi.basis.words IsTurned IsLeft x (record { above = x; listed = c; under = under_refl x }) (cases x c) (turned_moves x c))

  infinite_rows : (rows : List Row) × ArePartRows t.element.rows t.quasi.basis.words IsLeft IsTurned (from_words t.quasi.y) rows
  infinite_rows = part_rows t.element.rows t.quasi.basis.words IsLeft IsTurned (from_words t.quasi.y) (λ u c.
      let row = contained_in_map (λ (r : Row). r.from) t.quasi.y u c in
      let under = All-contains (λ x. IsUnderSome x t.quasi.basis.words) (from_words t.quasi.y) u typed.quasinormal.rows.from_under c in
      goes t.element.rows t.quasi.basis.words IsLeft IsTurned u under (other_cases under.above under.listed)
      (λ h. (row.0.to, subst (λ x. Moves t.element.rows x row.0.to) row.2 (carried_row t.element t.quasi t.kinds typed row.0 row.1))))

  pub parts_there : (first second : List Row) × HasParts t.element.shape t.element.rows t.quasi.basis.words first second
  parts_there = (periodic_rows.0, infinite_rows.0, typed_parts t.element t.quasi t.kinds periodic_rows.0 infinite_rows.0 typed periodic_rows.1 infinite_rows.1)
