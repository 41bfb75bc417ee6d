-- The periodic and the infinite part of a typed element are known.
use Rattle.std.proofs.Common.{◌⊎◌, inl, inr, List, Contains}
use Rattle.ht_word.specs.declared.word.Word.{Word}
use Rattle.ht_pair.specs.Elements.{ElementValue}
use Rattle.ht_pair.specs.Kinds.{IsCycleWord}
use Rattle.ht_pair.specs.Parts.{IsPeriodicPart, IsInfinitePart}
use Rattle.ht_pair.proofs.PartLaws.{select}
use Rattle.ht_quasi.specs.declared.quasi.Quasi.{Quasi}
use Rattle.ht_types.specs.declared.kind.Kind.{Kind}
use Rattle.ht_types.specs.TypedElements.{IsTyped}
use Rattle.ht_types.proofs.CycleKindLaws.{cycle_or_not}

-- the cycle words of its basis are listed
pub periodic_part : (element : ElementValue) (quasi : Quasi) (kinds : List Kind) → IsTyped element quasi kinds → (P : List Word) × IsPeriodicPart element.shape element.rows quasi.basis.words P
periodic_part element quasi kinds typed = select (IsCycleWord element.shape element.rows) quasi.basis.words (cycle_or_not element.shape element.rows quasi.basis.words kinds typed.canonical.canonical.pair typed.kinds_are) typed.quasinormal.least.ascending

-- and so are the others
pub infinite_part : (element : ElementValue) (quasi : Quasi) (kinds : List Kind) → IsTyped element quasi kinds → (I : List Word) × IsInfinitePart element.shape element.rows quasi.basis.words I
infinite_part element quasi kinds typed = select (λ x. ¬ IsCycleWord element.shape element.rows x) quasi.basis.words other_or_not typed.quasinormal.least.ascending
  where
    other_or_not : (x : Word) → Contains quasi.basis.words x → (¬ IsCycleWord element.shape element.rows x) ⊎ ¬ ¬ IsCycleWord element.shape element.rows x
    other_or_not x c = elim (cycle_or_not element.shape element.rows quasi.basis.words kinds typed.canonical.canonical.pair typed.kinds_are x c) [
      | inl cycle ↦ inr (λ other. other cycle)
      | inr other ↦ inl other
    ]
