-- Whether a word of a basis is a cycle word, told from its kind.
use Rattle.std.proofs.Common.{◌≡◌, ◌≢◌, ℕ, ◌+◌, ◌≤◌, ◌<◌, ◌↔◌, inl, inr, Bool, true, false, IsTrue, List, [], length, Some, slice_get, refl, sym, ap, ◌∙◌, subst, All, Contains, take, drop, take-append-drop}
use Rattle.std.proofs.lemmas.List.Elements.{All-more, All-contains, Contains-append_left}
use Rattle.std.proofs.lemmas.Option.{get_or_from_slice_get}
use Rattle.std.specs.declared.cmp.Ordering.TheVariants.{Less}
use Rattle.ht_word.specs.Words.{word_cmp}
use Rattle.ht_word.specs.declared.shape.Shape.{Shape}
use Rattle.ht_word.specs.declared.word.Word.{Word}
use Rattle.ht_word.proofs.ListLaws.{Contains-nil, AllPairs-nil}
use Rattle.ht_word.proofs.WordLaws.{All-from_contains}
use Rattle.ht_num.specs.Numbers.{IsLcm, IsWide}
use Rattle.ht_pair.specs.Elements.{ElementValue}
use Rattle.ht_pair.specs.Kinds.{IsCycle, IsCycleWord}
use Rattle.ht_pair.specs.Orders.{IsPeriodicOrder}
use Rattle.ht_pair.specs.Pairs.{IsPair}
use Rattle.ht_pair.specs.Parts.{IsInfinitePart}
use Rattle.ht_pair.specs.declared.row.Row.{Row}
use Rattle.ht_pair.proofs.PartLaws.{selected_once}
use Rattle.ht_quasi.specs.declared.quasi.Quasi.{Quasi}
use Rattle.ht_quasi.proofs.RoundLaws.{something_at}
use Rattle.ht_quasi.proofs.StepLaws.{listed_at}
use Rattle.ht_types.specs.declared.kind.Kind.{Kind}
use Rattle.ht_types.specs.declared.kind.Kind.TheVariants.{Cycle}
use Rattle.ht_types.specs.TypedElements.{IsTyped}
use Rattle.ht_types.specs.WordKinds.{HasKind, AreKinds}
use Rattle.ht_types.proofs.CycleKindLaws.{other_kind, cycle_or_not}
use Rattle.ht_types.proofs.KnownParts.{infinite_part}
use Rattle.ht_parts.proofs.OrderLaws.{periodic_same, periodic_more, more_at, periodic_wide}

-- a word of the kind of a cycle is on one of that length
pub cycle_told : (shape : Shape) (p : List Row) (X : List Word) (kinds : List Kind) (place : ℕ) (x : Word) (kind : Kind) (m : ℕ) → AreKinds shape p X kinds → slice_get X place ≡ Some x → slice_get kinds place ≡ Some kind → kind ≡ Cycle m → IsCycle shape p x m
cycle_told shape p X kinds place x kind m are here there e = subst (HasKind shape p X x) e (are.each place x kind here there)

-- no word of another kind is a cycle word
pub other_told : (shape : Shape) (p : List Row) (X : List Word) (kinds : List Kind) (place : ℕ) (x : Word) (kind : Kind) → IsPair shape p → AreKinds shape p X kinds → slice_get X place ≡ Some x → slice_get kinds place ≡ Some kind → ((m : ℕ) → kind ≡ Cycle m → ⊥) → ¬ IsCycleWord shape p x
other_told shape p X kinds place x kind pair are here there other = other_kind shape p X x kind pair (are.each place x kind here there) other

-- ---- the tests of a typed element

-- the number of words, as it is counted
pub words_counted : (count : ℕ) (given : List Word) (held quasi : Quasi) → count ≡ length given → given ≡ held.basis.words → held ≡ quasi → count ≡ length quasi.basis.words
words_counted count given held quasi counted words same = counted ∙ ap (λ (W : List Word). length W) (words ∙ ap (λ (q : Quasi). q.basis.words) same)

-- the test of a kind is right where the kind is that of a cycle
pub cycle_tested : (element : ElementValue) (quasi : Quasi) (kinds : List Kind) (place : ℕ) (kind : Kind) (m : ℕ) → IsTyped element quasi kinds → slice_get kinds place ≡ Some kind → kind ≡ Cycle m
    → (x : Word) → slice_get quasi.basis.words place ≡ Some x → IsTrue true ↔ IsCycleWord element.shape element.rows x
cycle_tested element quasi kinds place kind m typed there e x here = ((λ t. (m, cycle_told element.shape element.rows quasi.basis.words kinds place x kind m typed.kinds_are here there e)), (λ cycle. refl))

-- and where it isn't
pub other_tested : (element : ElementValue) (quasi : Quasi) (kinds : List Kind) (place : ℕ) (kind : Kind) → IsTyped element quasi kinds → slice_get kinds place ≡ Some kind → ((m : ℕ) → kind ≡ Cycle m → ⊥)
    → (x : Word) → slice_get quasi.basis.words place ≡ Some x → IsTrue false ↔ IsCycleWord element.shape element.rows x
other_tested element quasi kinds place kind typed there other x here = ((λ t. absurd cc), (λ cycle. absurd (other_told element.shape element.rows quasi.basis.words kinds place x kind typed.canonical.pair typed.kinds_are here there other cycle)))

-- one more word is a cycle word
pub one_more_cycle : (shape : Shape) (p : List Row) (X : List Word) (place : ℕ) (test : Bool) → place < length X → ((x : Word) → slice_get X place ≡ Some x → IsTrue test ↔ IsCycleWord shape p x) → test ≡ true
    → All (IsCycleWord shape p) (take place X) → All (IsCycleWord shape p) (take (place + 1) X)
one_more_cycle shape p X place test inside tested passed before =
    let x = something_at X place inside in
    All-more (IsCycleWord shape p) X place x.0 inside before (subst (IsCycleWord shape p) (sym (get_or_from_slice_get X place x.0 x.0 x.1)) ((tested x.0 x.1).0 passed))

-- where all are cycle words the infinite part is empty
pub none_infinite : (shape : Shape) (p : List Row) (X : List Word) → All (IsCycleWord shape p) X → IsInfinitePart shape p X []
none_infinite shape p X all = record {
  ascending = AllPairs-nil (λ u v. word_cmp u v ≡ Less);
  same = λ x. ((λ c. absurd (Contains-nil x c)), (λ c. absurd (c.1 (All-contains (IsCycleWord shape p) X x all c.0))));
}

-- and only there, as it is known of each word
pub all_cycles : (element : ElementValue) (quasi : Quasi) (kinds : List Kind) → IsTyped element quasi kinds → IsInfinitePart element.shape element.rows quasi.basis.words [] → All (IsCycleWord element.shape element.rows) quasi.basis.words
all_cycles element quasi kinds typed none = All-from_contains (IsCycleWord element.shape element.rows) quasi.basis.words (λ x c. elim (cycle_or_not element.shape element.rows quasi.basis.words kinds typed.canonical.pair typed.kinds_are x c) [
  | inl cycle ↦ cycle
  | inr n ↦ absurd (Contains-nil x ((none.same x).1 (c, n)))
])

-- a word that is none is in the infinite part
pub some_infinite : (shape : Shape) (p : List Row) (X : List Word) (place : ℕ) (test : Bool) → place < length X → ((x : Word) → slice_get X place ≡ Some x → IsTrue test ↔ IsCycleWord shape p x) → test ≡ false
    → ¬ IsInfinitePart shape p X []
some_infinite shape p X place test inside tested failed none =
    let x = something_at X place inside in
    Contains-nil x.0 ((none.same x.0).1 (listed_at X place x.0 x.1, λ cycle. let passed : test ≡ true = (tested x.0 x.1).1 cycle in cc))

-- where the infinite part isn't empty it has words
pub infinite_has_words : (element : ElementValue) (quasi : Quasi) (kinds : List Kind) → IsTyped element quasi kinds → ¬ IsInfinitePart element.shape element.rows quasi.basis.words [] → (I : List Word) × IsInfinitePart element.shape element.rows quasi.basis.words I × (I ≢ [])
infinite_has_words element quasi kinds typed other = let part = infinite_part element quasi kinds typed in (part.0, part.1, (λ e. other (subst (IsInfinitePart element.shape element.rows quasi.basis.words) e part.1)))

-- and only there, as it is one list
pub infinite_has_none : (shape : Shape) (p : List Row) (X : List Word) → IsInfinitePart shape p X [] → (I : List Word) × IsInfinitePart shape p X I × (I ≢ []) → ⊥
infinite_has_none shape p X none (I, part, some) = some (selected_once (λ x. ¬ IsCycleWord shape p x) X I [] part none)

-- ---- the least common multiple, kind by kind

-- the length of a cycle is from 1 on
pub length_positive : (element : ElementValue) (quasi : Quasi) (kinds : List Kind) (place : ℕ) (kind : Kind) (m : ℕ) → IsTyped element quasi kinds → place < length quasi.basis.words → slice_get kinds place ≡ Some kind → kind ≡ Cycle m → 1 ≤ m
length_positive element quasi kinds place kind m typed inside there e =
    let x = something_at quasi.basis.words place inside in
    (cycle_told element.shape element.rows quasi.basis.words kinds place x.0 kind m typed.kinds_are x.1 there e).positive

-- one more cycle word
pub joined_more : (element : ElementValue) (quasi : Quasi) (kinds : List Kind) (place order joined : ℕ) (kind : Kind) (m given : ℕ) → IsTyped element quasi kinds → place < length quasi.basis.words → slice_get kinds place ≡ Some kind → kind ≡ Cycle m → given ≡ m
    → IsPeriodicOrder element.shape element.rows (take place quasi.basis.words) order → IsLcm order given joined → IsPeriodicOrder element.shape element.rows (take (place + 1) quasi.basis.words) joined
joined_more element quasi kinds place order joined kind m given typed inside there e same least lcm =
    let X = quasi.basis.words in
    let x = something_at X place inside in
    periodic_more element.shape element.rows (take place X) (take (place + 1) X) x.0 m order joined (more_at X place x.0 x.1) (cycle_told element.shape element.rows X kinds place x.0 kind m typed.kinds_are x.1 there e) least
    (subst (λ (n : ℕ). IsLcm order n joined) same lcm)

-- one more word of another kind
pub joined_same : (element : ElementValue) (quasi : Quasi) (kinds : List Kind) (place order : ℕ) (kind : Kind) → IsTyped element quasi kinds → place < length quasi.basis.words → slice_get kinds place ≡ Some kind → ((m : ℕ) → kind ≡ Cycle m → ⊥)
    → IsPeriodicOrder element.shape element.rows (take place quasi.basis.words) order → IsPeriodicOrder element.shape element.rows (take (place + 1) quasi.basis.words) order
joined_same element quasi kinds place order kind typed inside there other least =
    let X = quasi.basis.words in
    let x = something_at X place inside in
    periodic_same element.shape element.rows (take place X) (take (place + 1) X) x.0 order (more_at X place x.0 x.1) (other_told element.shape element.rows X kinds place x.0 kind typed.canonical.pair typed.kinds_are x.1 there other) least

-- once it is wide that of all words is
pub joined_wide : (element : ElementValue) (quasi : Quasi) (kinds : List Kind) (place order : ℕ) (kind : Kind) (m given : ℕ) → IsTyped element quasi kinds → place < length quasi.basis.words → slice_get kinds place ≡ Some kind → kind ≡ Cycle m → given ≡ m
    → IsPeriodicOrder element.shape element.rows (take place quasi.basis.words) order → (joined : ℕ) × IsLcm order given joined × IsWide joined → (k : ℕ) × IsPeriodicOrder element.shape element.rows quasi.basis.words k × IsWide k
joined_wide element quasi kinds place order kind m given typed inside there e same least (joined, lcm, wide) =
    let X = quasi.basis.words in
    periodic_wide element.shape element.rows (take (place + 1) X) X joined (cycle_or_not element.shape element.rows X kinds typed.canonical.pair typed.kinds_are) (λ x c. subst (λ (W : List Word). Contains W x) (take-append-drop (place + 1) X) (Contains-append_left (take (place + 1) X) (drop (place + 1) X) x c))
    (joined_more element quasi kinds place order joined kind m given typed inside there e same least lcm) wide
