-- The profile from the kinds of the words: their sorted lengths of cycles, run by run.
use Rattle.std.proofs.Common.{◌≡◌, ◌≢◌, ℕ, zero, suc, ◌≤◌, ◌==◌, ◌↔◌, cond, inl, inr, List, [], ◌∷◌, ◌++◌, length, refl, sym, ap, ◌∙◌, subst, subst₂, arith, All, Contains, Some, slice_get, IsPermutation}
use Rattle.std.specs.Ordering.{nat_cmp}
use Rattle.std.specs.List.Sorted.{IsSorted}
use Rattle.std.specs.declared.cmp.Ordering.TheVariants.{Less}
use Rattle.std.proofs.lemmas.Bool.Decides.{eqb_tells}
use Rattle.std.proofs.lemmas.List.Elements.{All-contains}
use Rattle.std.proofs.lemmas.List.Sorted.{IsNonDecreasingBy-from_sort, sum_by-IsPermutation}
use Rattle.std.proofs.lemmas.Option.{slice_get_within}
use Rattle.ht_word.specs.Words.{word_cmp, IsAscending}
use Rattle.ht_word.specs.declared.shape.Shape.{Shape}
use Rattle.ht_word.specs.declared.word.Word.{Word}
use Rattle.ht_word.proofs.ListLaws.{Contains-nil, Contains-here, Contains-there, Contains-cons_cases, AllPairs-head, AllPairs-tail, AllPairs-cons}
use Rattle.ht_word.proofs.WordLaws.{All-from_contains}
use Rattle.ht_num.proofs.NumberLaws.{once_least}
use Rattle.ht_pair.specs.Kinds.{IsCycle, IsCycleWord}
use Rattle.ht_pair.specs.Pairs.{IsPair}
use Rattle.ht_pair.specs.Parts.{IsSelected, IsPeriodicPart}
use Rattle.ht_pair.specs.Profiles.{IsProfile}
use Rattle.ht_pair.specs.declared.row.Row.{Row}
use Rattle.ht_pair.proofs.KindLaws.{cycle_no_attractor, cycle_no_repeller}
use Rattle.ht_pair.proofs.PartLaws.{selected_once}
use Rattle.ht_types.specs.WordKinds.{HasKind, AreKinds}
use Rattle.ht_types.specs.declared.kind.Kind.{Kind}
use Rattle.ht_types.specs.declared.kind.Kind.TheVariants.{Cycle, Attractor, Repeller, Passing}
use Rattle.ht_cycles.specs.Runs.{length_of, lengths_of, share, runs}
use Rattle.ht_cycles.proofs.RunLaws.{count_of, count_same, count_other, count_some, sorted_runs}

-- a cycle word has the kind of its cycle
pub cycle_kind : (shape : Shape) (p : List Row) → IsPair shape p → (X : List Word) (x : Word) (m : ℕ) (kind : Kind) → HasKind shape p X x kind → IsCycle shape p x m → kind ≡ Cycle m
cycle_kind shape p pair X x m (Cycle k) h cycle = ap (λ j. Cycle j) (once_least k m h cycle)
cycle_kind shape p pair X x m (Attractor k by) h cycle = absurd (cycle_no_attractor shape p pair x m k by cycle h)
cycle_kind shape p pair X x m (Repeller k by) h cycle = absurd (cycle_no_repeller shape p pair x m k by cycle h)
cycle_kind shape p pair X x m (Passing ahead behind) h cycle = absurd (h.0.0 (m, cycle))

-- the kind of each word tells whether it is a cycle word, and of which length
record TellCycles (shape : Shape) (p : List Row) (X : List Word) (kinds : List Kind) : Type 0 where
  as_many : length kinds ≡ length X
  each : (place : ℕ) (x : Word) (kind : Kind) (m : ℕ) → slice_get X place ≡ Some x → slice_get kinds place ≡ Some kind → (kind ≡ Cycle m) ↔ IsCycle shape p x m

tell_cycles : (shape : Shape) (p : List Row) → IsPair shape p → (X : List Word) (kinds : List Kind) → AreKinds shape p X kinds → TellCycles shape p X kinds
tell_cycles shape p pair X kinds h = record {
  as_many = h.as_many;
  each = λ place x kind m at here. (
    λ e. subst (HasKind shape p X x) e (h.each place x kind at here),
    cycle_kind shape p pair X x m kind (h.each place x kind at here),
  );
}

-- the words of X of cycles of one length, in their order
record HasLength (shape : Shape) (p : List Row) (X : List Word) (kinds : List Kind) (m : ℕ) : Type 0 where
  words : List Word
  same : (x : Word) → Contains words x ↔ (Contains X x × IsCycle shape p x m)
  ordered : IsAscending X → IsAscending words
  size : length words ≡ count_of m (lengths_of kinds)

-- one more word that is of such a cycle
one_more : (shape : Shape) (p : List Row) (x : Word) (X : List Word) (kind : Kind) (kinds : List Kind) (m : ℕ) → kind ≡ Cycle m → IsCycle shape p x m → HasLength shape p X kinds m → HasLength shape p (x ∷ X) (kind ∷ kinds) m
one_more shape p x X kind kinds m is cycle rest = record {
  words = x ∷ rest.words;
  same = λ y. (
    λ c. elim (Contains-cons_cases x rest.words y c) [
      | inl e ↦ subst (λ t. Contains (x ∷ X) t × IsCycle shape p t m) e (Contains-here x X, cycle)
      | inr d ↦ let r = (rest.same y).0 d in (Contains-there x X y r.0, r.1)
    ],
    λ h. elim (Contains-cons_cases x X y h.0) [
      | inl e ↦ subst (Contains (x ∷ rest.words)) e (Contains-here x rest.words)
      | inr d ↦ Contains-there x rest.words y ((rest.same y).1 (d, h.1))
    ],
  );
  ordered = λ up. AllPairs-cons (λ u v. word_cmp u v ≡ Less) x rest.words
      (All-from_contains (λ v. word_cmp x v ≡ Less) rest.words (λ v c. All-contains (λ v. word_cmp x v ≡ Less) X v (AllPairs-head (λ u v. word_cmp u v ≡ Less) x X up) ((rest.same v).0 c).0))
      (rest.ordered (AllPairs-tail (λ u v. word_cmp u v ≡ Less) x X up));
  size = ap suc rest.size ∙ sym (count_same m (lengths_of kinds)) ∙ ap (λ k. count_of m (length_of k ++ lengths_of kinds)) (sym is);
}

-- one more that isn't
no_more : (shape : Shape) (p : List Row) (x : Word) (X : List Word) (kind : Kind) (kinds : List Kind) (m : ℕ) → ¬ IsCycle shape p x m → count_of m (length_of kind ++ lengths_of kinds) ≡ count_of m (lengths_of kinds) → HasLength shape p X kinds m → HasLength shape p (x ∷ X) (kind ∷ kinds) m
no_more shape p x X kind kinds m other same rest = record {
  words = rest.words;
  same = λ y. (
    λ c. let r = (rest.same y).0 c in (Contains-there x X y r.0, r.1),
    λ h. elim (Contains-cons_cases x X y h.0) [
      | inl e ↦ absurd (other (subst (λ t. IsCycle shape p t m) (sym e) h.1))
      | inr d ↦ (rest.same y).1 (d, h.1)
    ],
  );
  ordered = λ up. rest.ordered (AllPairs-tail (λ u v. word_cmp u v ≡ Less) x X up);
  size = rest.size ∙ sym same;
}

has_length : (shape : Shape) (p : List Row) (X : List Word) (kinds : List Kind) (m : ℕ) → TellCycles shape p X kinds → HasLength shape p X kinds m
has_length shape p [] [] m h = record { words = []; same = λ x. (λ c. absurd (Contains-nil x c), λ c. absurd (Contains-nil x c.0)); ordered = λ up. up; size = refl }
has_length shape p [] (kind ∷ kinds) m h = absurd (none (length kinds) h.as_many)
  where
    none : (k : ℕ) → suc k ≡ 0 → ⊥
    none k e = omega arith
has_length shape p (x ∷ X) [] m h = absurd (none (length X) h.as_many)
  where
    none : (k : ℕ) → 0 ≡ suc k → ⊥
    none k e = omega arith
has_length shape p (x ∷ X) (kind ∷ kinds) m h =
    let rest = has_length shape p X kinds m (record { as_many = one_less (length kinds) (length X) h.as_many; each = λ place y other k at here. h.each (suc place) y other k at here }) in
    at_first shape p x X kind kinds m (h.each zero x kind m refl refl) rest
  where
    one_less : (j k : ℕ) → suc j ≡ suc k → j ≡ k
    one_less j k e = omega arith

    at_first : (shape : Shape) (p : List Row) (x : Word) (X : List Word) (kind : Kind) (kinds : List Kind) (m : ℕ) → (kind ≡ Cycle m) ↔ IsCycle shape p x m → HasLength shape p X kinds m → HasLength shape p (x ∷ X) (kind ∷ kinds) m
    at_first shape p x X (Cycle k) kinds m h rest = elim (eqb_tells k m) [
      | inl (same, e) ↦ let is : Cycle k ≡ Cycle m = ap (λ j. Cycle j) e in one_more shape p x X (Cycle k) kinds m is (h.0 is) rest
      | inr (other, n) ↦ no_more shape p x X (Cycle k) kinds m (λ cycle. let is : Cycle k ≡ Cycle m = h.1 cycle in let e : k ≡ m = cc in n e) (count_other m k (lengths_of kinds) n) rest
    ]
    at_first shape p x X (Attractor k by) kinds m h rest = no_more shape p x X (Attractor k by) kinds m (λ cycle. let is : Attractor k by ≡ Cycle m = h.1 cycle in cc) refl rest
    at_first shape p x X (Repeller k by) kinds m h rest = no_more shape p x X (Repeller k by) kinds m (λ cycle. let is : Repeller k by ≡ Cycle m = h.1 cycle in cc) refl rest
    at_first shape p x X (Passing ahead behind) kinds m h rest = no_more shape p x X (Passing ahead behind) kinds m (λ cycle. let is : Passing ahead behind ≡ Cycle m = h.1 cycle in cc) refl rest

-- each list of cycle words has kinds that tell so
tell_listed : (shape : Shape) (p : List Row) (X : List Word) → ((x : Word) → Contains X x → IsCycleWord shape p x) → (kinds : List Kind) × TellCycles shape p X kinds
tell_listed shape p [] cycle = ([], record { as_many = refl; each = λ place x kind m at here. absurd (omega (arith, slice_get_within [] place x at)) })
tell_listed shape p (x ∷ X) cycle =
    let first = cycle x (Contains-here x X) in
    let rest = tell_listed shape p X (λ y c. cycle y (Contains-there x X y c)) in
    (Cycle first.0 ∷ rest.0, record { as_many = ap suc rest.1.as_many; each = tells x first X rest.0 rest.1.each })
  where
    one : (x y : Word) (k : ℕ) → IsCycle shape p x k → x ≡ y → (kind : Kind) (m : ℕ) → Cycle k ≡ kind → (kind ≡ Cycle m) ↔ IsCycle shape p y m
    one x y k cycle same kind m is = (
      λ e. let lengths : Cycle k ≡ Cycle m = is ∙ e in let equal : k ≡ m = cc in subst₂ (IsCycle shape p) same equal cycle,
      λ c. sym is ∙ ap (λ j. Cycle j) (once_least k m (subst (λ t. IsCycle shape p t k) same cycle) c),
    )

    tells : (x : Word) (first : IsCycleWord shape p x) (X : List Word) (kinds : List Kind) → ((place : ℕ) (y : Word) (kind : Kind) (m : ℕ) → slice_get X place ≡ Some y → slice_get kinds place ≡ Some kind → (kind ≡ Cycle m) ↔ IsCycle shape p y m)
        → (place : ℕ) (y : Word) (kind : Kind) (m : ℕ) → slice_get (x ∷ X) place ≡ Some y → slice_get (Cycle first.0 ∷ kinds) place ≡ Some kind → (kind ≡ Cycle m) ↔ IsCycle shape p y m
    tells x first X kinds rest zero y kind m at here =
        let same : x ≡ y = cc in
        let is : Cycle first.0 ≡ kind = cc in
        one x y first.0 first.1 same kind m is
    tells x first X kinds rest (suc place) y kind m at here = rest place y kind m at here

-- so the words of X of cycles of one length are known from its cycle words
pub with_length : (shape : Shape) (p : List Row) (X P : List Word) → IsPeriodicPart shape p X P → (m : ℕ) → (A : List Word) × IsSelected (λ x. IsCycle shape p x m) X A
with_length shape p X P part m =
    let tells = tell_listed shape p P (λ x c. ((part.same x).0 c).1) in
    let w = has_length shape p P tells.0 m tells.1 in (
      w.words,
      record {
        ascending = w.ordered part.ascending;
        same = λ x. (
          λ c. let r = (w.same x).0 c in (((part.same x).0 r.0).0, r.1),
          λ h. (w.same x).1 ((part.same x).1 (h.0, (m, h.1)), h.1),
        );
      },
    )

-- a list that isn't empty has a word
pub has_some : (W : List Word) → W ≢ [] → (x : Word) × Contains W x
has_some [] some = absurd (some refl)
has_some (x ∷ W) some = (x, Contains-here x W)

-- a list with a length isn't empty
length_some : (W : List Word) (k : ℕ) → length W ≡ k → 1 ≤ k → W ≢ []
length_some W k e l none = absurd (omega (arith, e, ap (λ (V : List Word). length V) none))

-- the words of the sorted lengths, which are as many as the count of their length
record HasWords (shape : Shape) (p : List Row) (X : List Word) (sorted : List ℕ) (m : ℕ) : Type 0 where
  words : List Word
  selected : IsSelected (λ x. IsCycle shape p x m) X words
  size : length words ≡ count_of m sorted

has_words : (shape : Shape) (p : List Row) (X : List Word) (kinds : List Kind) (sorted : List ℕ) → IsPair shape p → IsAscending X → AreKinds shape p X kinds → IsPermutation (lengths_of kinds) sorted → (m : ℕ) → HasWords shape p X sorted m
has_words shape p X kinds sorted pair up are moved m =
    let w = has_length shape p X kinds m (tell_cycles shape p pair X kinds are) in
    record { words = w.words; selected = record { ascending = w.ordered up; same = w.same }; size = w.size ∙ sym (sum_by-IsPermutation (λ (k : ℕ). cond (k == m) 1 0) (lengths_of kinds) sorted moved) }

-- the lengths of cycles are from 1 on
lengths_positive : (shape : Shape) (p : List Row) (X : List Word) (kinds : List Kind) (sorted : List ℕ) → IsPair shape p → IsAscending X → AreKinds shape p X kinds → IsPermutation (lengths_of kinds) sorted → All (λ m. 1 ≤ m) sorted
lengths_positive shape p X kinds sorted pair up are moved = All-from_contains (λ m. 1 ≤ m) sorted (λ m c.
    let w = has_words shape p X kinds sorted pair up are moved m in
    let x = has_some w.words (length_some w.words (count_of m sorted) w.size (count_some m sorted c)) in
    ((w.selected.same x.0).0 x.1).1.positive)

-- the runs of the sorted lengths are the profile
runs_profile : (shape : Shape) (p : List Row) (X : List Word) (kinds : List Kind) (sorted : List ℕ) → IsPair shape p → IsAscending X → AreKinds shape p X kinds → IsPermutation (lengths_of kinds) sorted → IsSorted nat_cmp sorted → IsProfile shape p X (runs shape.n 0 sorted)
runs_profile shape p X kinds sorted pair up are moved order =
    let shares = sorted_runs shape.n sorted (IsNonDecreasingBy-from_sort (λ x. x) sorted order) in
    record {
      ascending = shares.ascending;
      same = λ m c.
          let w = has_words shape p X kinds sorted pair up are moved m in (
            λ listed. let r = shares.listed m c listed in record { cycle_words = w.words; selected = w.selected; some = length_some w.words (count_of m sorted) w.size (count_some m sorted r.0); count = r.1 ∙ ap (share shape.n m) (sym w.size) },
            λ h.
                let one : h.cycle_words ≡ w.words = selected_once (λ x. IsCycle shape p x m) X h.cycle_words w.words h.selected w.selected in
                let count : c ≡ share shape.n m (count_of m sorted) = h.count ∙ ap (λ (W : List Word). share shape.n m (length W)) one ∙ ap (share shape.n m) w.size in
                subst (λ t. Contains (runs shape.n 0 sorted) (m, t)) (sym count) (shares.holds m (counted m sorted (λ none. h.some (one ∙ nothing w.words (w.size ∙ none))))),
          );
    }
  where
    nothing : (W : List Word) → length W ≡ 0 → W ≡ []
    nothing [] e = refl
    nothing (x ∷ W) e = absurd (omega arith)

    counted : (m : ℕ) (ks : List ℕ) → ¬ (count_of m ks ≡ 0) → Contains ks m
    counted m [] n = absurd (n refl)
    counted m (k ∷ ks) n = elim (eqb_tells k m) [
      | inl (same, e) ↦ subst (Contains (k ∷ ks)) e (Contains-here k ks)
      | inr (other, d) ↦ Contains-there k ks m (counted m ks (λ e. n (count_other m k ks d ∙ e)))
    ]

-- both with the shape and the lists as the program holds them
pub positive_given : (shape : Shape) (p : List Row) (X : List Word) (kinds : List Kind) (lengths sorted held : List ℕ) → lengths ≡ lengths_of kinds → held ≡ sorted → IsPair shape p → IsAscending X → AreKinds shape p X kinds → IsPermutation lengths sorted → All (λ m. 1 ≤ m) held
positive_given shape p X kinds lengths sorted held read same pair up are moved = subst (All (λ m. 1 ≤ m)) (sym same) (lengths_positive shape p X kinds sorted pair up are (subst (λ t. IsPermutation t sorted) read moved))

pub profile_given : (shape given : Shape) (p : List Row) (X : List Word) (kinds : List Kind) (lengths sorted held : List ℕ) (L : List (ℕ × ℕ)) → given ≡ shape → lengths ≡ lengths_of kinds → held ≡ sorted → L ≡ runs given.n 0 held
    → IsPair shape p → IsAscending X → AreKinds shape p X kinds → IsPermutation lengths sorted → IsSorted nat_cmp sorted → IsProfile shape p X L
profile_given shape given p X kinds lengths sorted held L e read same is pair up are moved order =
    subst (λ t. IsProfile shape p X t) (sym (is ∙ ap (λ t. runs given.n 0 t) same ∙ ap (λ (s : Shape). runs s.n 0 sorted) e)) (runs_profile shape p X kinds sorted pair up are (subst (λ t. IsPermutation t sorted) read moved) order)
