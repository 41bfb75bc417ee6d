-- The kinds of the words of the basis tell whether a word is under the infinite part, and which words are ends. t is the element with its
-- quasinormal basis.
use Rattle.std.proofs.Common.{◌≡◌, ℕ, List, Some, slice_get, refl, subst}
use Rattle.ht_word.specs.declared.word.Word.{Word}
use Rattle.ht_pair.specs.HeldBases.{IsPlaceAbove}
use Rattle.ht_pair.specs.Kinds.{IsCycleWord}
use Rattle.ht_pair.proofs.BasisLaws.{basis_single}
use Rattle.ht_quasi.proofs.StepLaws.{listed_at}
use Rattle.ht_types.specs.Flows.{IsEndIn, IsEndKind, IsUnderInfinite}
use Rattle.ht_types.specs.TypedElements.{TypedValue, IsTyped}
use Rattle.ht_types.specs.declared.direction.Direction.{Direction}
use Rattle.ht_types.specs.declared.direction.Direction.TheVariants.{Ahead, Behind}
use Rattle.ht_types.specs.declared.kind.Kind.{Kind}
use Rattle.ht_types.specs.declared.kind.Kind.TheVariants.{Cycle, Attractor, Repeller, Passing}
use Rattle.ht_types.proofs.CycleKindLaws.{other_kind}
use Rattle.ht_types.proofs.SeenLaws.{open_kind}

module _ (t : TypedValue) (typed : IsTyped t.element t.quasi t.kinds) (u : Word) (place : ℕ) (above : IsPlaceAbove t.quasi.basis.words u place) where
  pub infinite_above : (kind : Kind) → slice_get t.kinds place ≡ Some kind → ((m : ℕ) → ¬ (kind ≡ Cycle m)) → IsUnderInfinite t.element.shape t.element.rows t.quasi.basis.words u
  infinite_above kind here other =
      let shape = t.element.shape in
      let p = t.element.rows in
      let X = t.quasi.basis.words in
      record {
        above = above.word;
        infinite = (listed_at X place above.word above.here, other_kind shape p X above.word kind typed.canonical.pair (typed.kinds_are.each place above.word kind above.here here) other);
        under = above.above;
      }

  pub cycle_above : (m : ℕ) → slice_get t.kinds place ≡ Some (Cycle m) → ¬ IsUnderInfinite t.element.shape t.element.rows t.quasi.basis.words u
  cycle_above m here = λ i.
      let X = t.quasi.basis.words in
      let same = basis_single t.element.shape X typed.quasinormal.least.semi_normal.basis u above.word i.above (listed_at X place above.word above.here) i.infinite.0 above.above i.under in
      i.infinite.1 (subst (IsCycleWord t.element.shape t.element.rows) same (m, typed.kinds_are.each place above.word (Cycle m) above.here here))

-- a word of a kind that is no end is an end in neither direction
no_end_kind : (kind : Kind) → ((m : ℕ) (by : List ℕ) → ¬ (kind ≡ Attractor m by)) → ((m : ℕ) (by : List ℕ) → ¬ (kind ≡ Repeller m by)) → (direction : Direction) → ¬ IsEndKind direction kind
no_end_kind (Cycle m) a r Ahead e = e
no_end_kind (Cycle m) a r Behind e = e
no_end_kind (Attractor m by) a r Ahead e = a m by refl
no_end_kind (Attractor m by) a r Behind e = e
no_end_kind (Repeller m by) a r Ahead e = e
no_end_kind (Repeller m by) a r Behind e = r m by refl
no_end_kind (Passing ahead behind) a r Ahead e = e
no_end_kind (Passing ahead behind) a r Behind e = e

pub no_end : (t : TypedValue) → IsTyped t.element t.quasi t.kinds → (place : ℕ) (kind : Kind) → slice_get t.kinds place ≡ Some kind → ((m : ℕ) (by : List ℕ) → ¬ (kind ≡ Attractor m by)) → ((m : ℕ) (by : List ℕ) → ¬ (kind ≡ Repeller m by))
    → (direction : Direction) (x : Word) → slice_get t.quasi.basis.words place ≡ Some x → ¬ IsEndIn direction t.element.shape t.element.rows x
no_end t typed place kind at a r direction x here = open_kind direction t.element.shape t.element.rows typed.canonical.pair t.quasi.basis.words x kind (typed.kinds_are.each place x kind here at) (no_end_kind kind a r direction)
