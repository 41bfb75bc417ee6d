-- Words under words of a basis with known kinds.
use Rattle.std.proofs.Common.{◌≡◌, ◌≢◌, ℕ, List, Some, refl, slice_get}
use Rattle.ht_word.specs.declared.shape.Shape.{Shape}
use Rattle.ht_word.specs.declared.word.Word.{Word}
use Rattle.ht_pair.specs.HeldBases.{IsPlaceAbove}
use Rattle.ht_pair.specs.Kinds.{IsCycleWord}
use Rattle.ht_pair.specs.Pairs.{IsPair}
use Rattle.ht_pair.specs.declared.row.Row.{Row}
use Rattle.ht_pair.proofs.KindLaws.{cycle_no_attractor, cycle_no_repeller}
use Rattle.ht_quasi.proofs.StepLaws.{listed_at}
use Rattle.ht_types.specs.CycleWords.{IsUnderCycle}
use Rattle.ht_types.specs.Flows.{IsUnderInfinite}
use Rattle.ht_types.specs.TypedElements.{TypedValue, IsTyped}
use Rattle.ht_types.specs.WordKinds.{HasKind}
use Rattle.ht_types.specs.declared.kind.Kind.{Kind}
use Rattle.ht_types.specs.declared.kind.Kind.TheVariants.{Cycle, Attractor, Repeller, Passing}

-- a word of another kind is no cycle word
no_cycle : (shape : Shape) (p : List Row) → IsPair shape p → (X : List Word) (x : Word) (kind : Kind) → ((m : ℕ) → kind ≢ Cycle m) → HasKind shape p X x kind → ¬ IsCycleWord shape p x
no_cycle shape p pair X x (Cycle m) other h = absurd (other m refl)
no_cycle shape p pair X x (Attractor m by) other h = λ c. cycle_no_attractor shape p pair x c.0 m by c.1 h
no_cycle shape p pair X x (Repeller m by) other h = λ c. cycle_no_repeller shape p pair x c.0 m by c.1 h
no_cycle shape p pair X x (Passing ahead behind) other h = h.0.0

pub under_cycle : (t : TypedValue) → IsTyped t.element t.quasi t.kinds → (u : Word) (place m : ℕ) → IsPlaceAbove t.quasi.basis.words u place → slice_get t.kinds place ≡ Some (Cycle m) → IsUnderCycle t.element.shape t.element.rows t.quasi.basis.words u m
under_cycle t typed u place m a here = record {
  above = a.word;
  listed = listed_at t.quasi.basis.words place a.word a.here;
  cycle = typed.kinds_are.each place a.word (Cycle m) a.here here;
  under = a.above;
}

pub under_infinite : (t : TypedValue) → IsTyped t.element t.quasi t.kinds → (u : Word) (place : ℕ) (kind : Kind) → IsPlaceAbove t.quasi.basis.words u place → slice_get t.kinds place ≡ Some kind → ((m : ℕ) → kind ≢ Cycle m) → IsUnderInfinite t.element.shape t.element.rows t.quasi.basis.words u
under_infinite t typed u place kind a here other =
    let shape = t.element.shape in
    let p = t.element.rows in
    let X = t.quasi.basis.words in
    record {
      above = a.word;
      infinite = (listed_at X place a.word a.here, no_cycle shape p typed.canonical.pair X a.word kind other (typed.kinds_are.each place a.word kind a.here here));
      under = a.above;
    }
