-- Of each word of a basis with kinds it is known whether it is a cycle word.
use Rattle.std.proofs.Common.{◌≡◌, ℕ, ◌<◌, ◌⊎◌, inl, inr, List, length, refl, arith, Contains}
use Rattle.ht_word.specs.declared.shape.Shape.{Shape}
use Rattle.ht_word.specs.declared.word.Word.{Word}
use Rattle.ht_pair.specs.Kinds.{IsCycleWord}
use Rattle.ht_pair.specs.Pairs.{IsPair}
use Rattle.ht_pair.specs.declared.row.Row.{Row}
use Rattle.ht_pair.proofs.KindLaws.{cycle_no_attractor, cycle_no_repeller}
use Rattle.ht_quasi.proofs.KeptLaws.{entry_at}
use Rattle.ht_quasi.proofs.RoundLaws.{something_at}
use Rattle.ht_types.specs.declared.kind.Kind.{Kind}
use Rattle.ht_types.specs.declared.kind.Kind.TheVariants.{Cycle, Attractor, Repeller, Passing}
use Rattle.ht_types.specs.WordKinds.{HasKind, AreKinds}

-- no word of another kind is a cycle word
pub other_kind : (shape : Shape) (p : List Row) (X : List Word) (x : Word) (kind : Kind) → IsPair shape p → HasKind shape p X x kind → ((m : ℕ) → kind ≡ Cycle m → ⊥) → ¬ IsCycleWord shape p x
other_kind shape p X x (Cycle m) pair h other = λ cycle. other m refl
other_kind shape p X x (Attractor m by) pair h other = λ (k, cycle). cycle_no_attractor shape p pair x k m by cycle h
other_kind shape p X x (Repeller m by) pair h other = λ (k, cycle). cycle_no_repeller shape p pair x k m by cycle h
other_kind shape p X x (Passing ahead behind) pair h other = h.0.0

-- so of each word it is known whether it is one
pub cycle_or_not : (shape : Shape) (p : List Row) (X : List Word) (kinds : List Kind) → IsPair shape p → AreKinds shape p X kinds → (x : Word) → Contains X x → IsCycleWord shape p x ⊎ ¬ IsCycleWord shape p x
cycle_or_not shape p X kinds pair are x c =
    let inside : c.0 < length X = c.1 in
    let kind = something_at kinds c.0 (omega (arith, are.as_many, inside)) in
    tell kind.0 (are.each c.0 x kind.0 (entry_at X c.0 x x inside c.2) kind.1)
  where
    tell : (kind : Kind) → HasKind shape p X x kind → IsCycleWord shape p x ⊎ ¬ IsCycleWord shape p x
    tell (Cycle m) h = inl (m, h)
    tell (Attractor m by) h = inr (other_kind shape p X x (Attractor m by) pair h (λ k e. cc))
    tell (Repeller m by) h = inr (other_kind shape p X x (Repeller m by) pair h (λ k e. cc))
    tell (Passing ahead behind) h = inr (other_kind shape p X x (Passing ahead behind) pair h (λ k e. cc))
