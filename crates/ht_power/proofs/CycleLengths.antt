-- The longest cycle of a basis, word by word.
use Rattle.std.proofs.Common.{◌≡◌, ◌≤◌, ◌<◌, ◌+◌, ℕ, max, length, take, Some, slice_get, inl, inr, List, [], refl, sym, ◌∙◌, subst, arith, rules, tests}
use Rattle.std.specs.Ordering.{nat_cmp, ord_max}
use Rattle.std.proofs.lemmas.Bool.{cases_lt}
use Rattle.ht_word.specs.declared.shape.Shape.{Shape}
use Rattle.ht_word.specs.declared.word.Word.{Word}
use Rattle.ht_word.proofs.ListLaws.{Contains-nil}
use Rattle.ht_num.proofs.NumberLaws.{once_least}
use Rattle.ht_pair.specs.Elements.{ElementValue}
use Rattle.ht_pair.specs.Kinds.{IsCycle, IsCycleWord}
use Rattle.ht_pair.specs.declared.row.Row.{Row}
use Rattle.ht_quasi.specs.declared.quasi.Quasi.{Quasi}
use Rattle.ht_quasi.proofs.RoundLaws.{something_at}
use Rattle.ht_types.specs.declared.kind.Kind.{Kind}
use Rattle.ht_types.specs.declared.kind.Kind.TheVariants.{Cycle}
use Rattle.ht_types.specs.TypedElements.{IsTyped}
use Rattle.ht_parts.proofs.CycleTests.{cycle_told, other_told}
use Rattle.ht_parts.proofs.OrderLaws.{HasOneMore, more_at}
use Rattle.ht_power.specs.Cycles.{IsLongest}

-- the larger of two numbers, as code tells it
pub larger_told : (a b : ℕ) → ord_max nat_cmp a b ≡ max a b
larger_told a b = search (rules, tests)

-- no words
pub longest_none : (shape : Shape) (p : List Row) → IsLongest shape p [] 0
longest_none shape p = record { reached = inl refl; most = λ x k c cycle. absurd (Contains-nil x c) }

-- one more word that is no cycle word
pub longest_same : (shape : Shape) (p : List Row) (W V : List Word) (x : Word) (k : ℕ) → HasOneMore W x V → ¬ IsCycleWord shape p x → IsLongest shape p W k → IsLongest shape p V k
longest_same shape p W V x k more other h = record {
  reached = elim h.reached [ inl e ↦ inl e | inr (y, c, cycle) ↦ inr (y, more.old y c, cycle) ];
  most = λ y m c cycle. elim (more.from y c) [ inl d ↦ h.most y m d cycle | inr e ↦ absurd (other (m, subst (λ t. IsCycle shape p t m) e cycle)) ];
}

-- one more cycle word
pub longest_more : (shape : Shape) (p : List Row) (W V : List Word) (x : Word) (m k : ℕ) → HasOneMore W x V → IsCycle shape p x m → IsLongest shape p W k → IsLongest shape p V (max k m)
longest_more shape p W V x m k more cycle h = record {
  reached = elim (cases_lt k m) [
    | inl less ↦ inr (x, more.new, subst (IsCycle shape p x) (larger k m less) cycle)
    | inr not_less ↦ elim h.reached [
      | inl e ↦ inl (sym (left k m not_less) ∙ e)
      | inr (y, c, other) ↦ inr (y, more.old y c, subst (IsCycle shape p y) (left k m not_less) other)
    ]
  ];
  most = λ y i c other. elim (more.from y c) [
    | inl d ↦ let low = h.most y i d other in omega arith
    | inr e ↦ let same = once_least i m (subst (λ t. IsCycle shape p t i) e other) cycle in omega arith
  ];
}
  where
    larger : (k m : ℕ) → k < m → m ≡ max k m
    larger k m less = omega arith

    left : (k m : ℕ) → m ≤ k → k ≡ max k m
    left k m low = omega arith

-- ---- the words of a typed element, kind by kind

-- one more word of the kind of a cycle
pub longest_at_cycle : (element : ElementValue) (quasi : Quasi) (kinds : List Kind) (place k next : ℕ) (kind : Kind) (m : ℕ) → IsTyped element quasi kinds → place < length quasi.basis.words → slice_get kinds place ≡ Some kind → kind ≡ Cycle m → next ≡ max k m
    → IsLongest element.shape element.rows (take place quasi.basis.words) k → IsLongest element.shape element.rows (take (place + 1) quasi.basis.words) next
longest_at_cycle element quasi kinds place k next kind m typed inside there e is before =
    let X = quasi.basis.words in
    let x = something_at X place inside in
    let cycle = cycle_told element.shape element.rows X kinds place x.0 kind m typed.kinds_are x.1 there e in
    subst (IsLongest element.shape element.rows (take (place + 1) X)) (sym is) (longest_more element.shape element.rows (take place X) (take (place + 1) X) x.0 m k (more_at X place x.0 x.1) cycle before)

-- one more word of another kind
pub longest_at_other : (element : ElementValue) (quasi : Quasi) (kinds : List Kind) (place k next : ℕ) (kind : Kind) → IsTyped element quasi kinds → place < length quasi.basis.words → slice_get kinds place ≡ Some kind → ((m : ℕ) → kind ≡ Cycle m → ⊥) → next ≡ k
    → IsLongest element.shape element.rows (take place quasi.basis.words) k → IsLongest element.shape element.rows (take (place + 1) quasi.basis.words) next
longest_at_other element quasi kinds place k next kind typed inside there other is before =
    let X = quasi.basis.words in
    let x = something_at X place inside in
    let no_cycle = other_told element.shape element.rows X kinds place x.0 kind typed.canonical.pair typed.kinds_are x.1 there other in
    subst (IsLongest element.shape element.rows (take (place + 1) X)) (sym is) (longest_same element.shape element.rows (take place X) (take (place + 1) X) x.0 k (more_at X place x.0 x.1) no_cycle before)
