-- Words of a basis that are done, and the atoms that are left: atom by atom the words are done, until they are a basis.
use Rattle.std.proofs.Common.{◌≡◌, ◌≢◌, ℕ, ◌⊎◌, inl, inr, List, [], ◌∷◌, ◌++◌, Option, None, Some, slice_get, refl, sym, ap, subst, arith, ◌<◌, AllPairs, Contains, option_to_list}
use Rattle.std.proofs.lemmas.List.Elements.{All-contains, Contains-append_cases, Contains-append_left, Contains-append_right}
use Rattle.ht_word.specs.Words.{IsWordOf}
use Rattle.ht_word.specs.declared.shape.Shape.{Shape}
use Rattle.ht_word.specs.declared.word.Word.{Word}
use Rattle.ht_word.proofs.ListLaws.{AllPairs-append, AllPairs-cons, AllPairs-head, AllPairs-nil, AllPairs-tail, AllPairs-weaker, Contains-cons_cases, Contains-nil}
use Rattle.ht_word.proofs.WordLaws.{All-from_contains}
use Rattle.ht_pair.specs.Atoms.{IsAtom, words_at}
use Rattle.ht_pair.specs.Bases.{AreApart, IsBasis, IsPrefixFree, longest}
use Rattle.ht_pair.specs.Kinds.{IsCycleWord}
use Rattle.ht_pair.specs.Parts.{IsPeriodicPart}
use Rattle.ht_pair.specs.declared.row.Row.{Row}
use Rattle.ht_pair.proofs.BasisLaws.{basis_from, basis_holds, basis_word, some_at}
use Rattle.ht_quasi.proofs.StepLaws.{at_place, listed_at}
use Rattle.ht_types.proofs.CourseLaws.{same_place}
use Rattle.ht_types.proofs.PlacedWords.{placed_word}
use Rattle.ht_types.proofs.TurnLaws.{HasSemiNormal}
use Rattle.ht_pieces.proofs.KeptAtoms.{atom_inside, atom_words}
use Rattle.ht_counterparts.proofs.AtomCounterparts.{atom_at, atoms_meet}
use Rattle.ht_cycles.proofs.ConjugateProfileLaws.{ascending_free}
use Rattle.ht_cycles.proofs.RepresentativeLaws.{free_apart}
use Rattle.ht_atoms.specs.AtomLists.{AreAtoms}
use Rattle.ht_conj.specs.Matchings.{IsTakenOut}
use Rattle.ht_conj.specs.Stages.{IsPartDone}
use Rattle.ht_conj.proofs.TakenOutLaws.{taken_cases, taken_here, taken_more, taken_pairs}

-- the words at ascending places of a prefix-free list are apart
placed_free : (X : List Word) → IsPrefixFree X → (places : List ℕ) → AllPairs (λ (i : ℕ) (j : ℕ). i < j) places → IsPrefixFree (words_at X places)
placed_free X free [] up = AllPairs-nil AreApart
placed_free X free (i ∷ places) up = AllPairs-append AreApart (option_to_list (slice_get X i)) (words_at X places) (at_most_one (slice_get X i)) (placed_free X free places (AllPairs-tail (λ (i : ℕ) (j : ℕ). i < j) i places up))
    (λ x y c e.
    let here = is (slice_get X i) x c in
    let there = placed_word X places y e in
    free_apart X free x y (listed_at X i x here) (listed_at X there.0 y there.2) (λ same.
    let l = All-contains (λ j. i < j) places there.0 (AllPairs-head (λ (i : ℕ) (j : ℕ). i < j) i places up) there.1 in
    let one = same_place X free i there.0 x y here there.2 same in
    omega arith))
  where
    at_most_one : (o : Option Word) → IsPrefixFree (option_to_list o)
    at_most_one None = AllPairs-nil AreApart
    at_most_one (Some x) = AllPairs-cons AreApart x [] (λ k d l. absurd (omega arith)) (AllPairs-nil AreApart)

    is : (o : Option Word) (x : Word) → Contains (option_to_list o) x → o ≡ Some x
    is None x c = absurd (Contains-nil x c)
    is (Some y) x c = elim (Contains-cons_cases y [] x c) [ inl e ↦ ap (λ t. Some t) e | inr n ↦ absurd (Contains-nil x n) ]

-- no two of all atoms are one
pub atoms_different : {shape : Shape} {p : List Row} {X : List Word} {atoms : List (List ℕ)} → AreAtoms shape p X atoms
    → AllPairs (λ (k : List ℕ) (l : List ℕ). k ≢ l) atoms
atoms_different {shape} {p} {X} {atoms} are = AllPairs-weaker (λ A B. (i j : ℕ) → slice_get A 0 ≡ Some i → slice_get B 0 ≡ Some j → i < j) (λ k l. k ≢ l) atoms are.ordered (λ k l c e before same.
    let i = first_place k (start_listed (All-contains (IsAtom shape p X) atoms k are.each c)) in
    let l = before i.0 i.0 i.1 (subst (λ t. slice_get t 0 ≡ Some i.0) same i.1) in
    omega arith)
  where
    start_listed : {k : List ℕ} → IsAtom shape p X k → (i : ℕ) × Contains k i
    start_listed {k} atom = let i = atom.infinite.0.0 in (i, (atom.same i).1 (atom.start, at_place X atom.start atom.infinite.0, 0, refl))

    first_place : (k : List ℕ) → ((i : ℕ) × Contains k i) → (i : ℕ) × (slice_get k 0 ≡ Some i)
    first_place [] c = absurd (Contains-nil c.0 c.1)
    first_place (i ∷ k) c = (i, refl)

module _ {shape : Shape} {p : List Row} {X : List Word} (h : HasSemiNormal shape p X) where
  -- two atoms with a common word are one
  pub atoms_common : (k l : List ℕ) (x : Word) → IsAtom shape p X k → IsAtom shape p X l → Contains (words_at X k) x → Contains (words_at X l) x → k ≡ l
  atoms_common k l x first second c e = atoms_meet h first second x (atom_inside h first x c) (atom_inside h second x e)

  -- before the first atom the cycle words are done
  pub cycles_done : (P : List Word) (atoms : List (List ℕ)) → ((x : Word) → Contains X x → IsCycleWord shape p x ⊎ ¬ IsCycleWord shape p x)
      → IsPeriodicPart shape p X P → AreAtoms shape p X atoms → IsPartDone shape p X P atoms
  cycles_done P atoms told part are = record {
    within = λ x c. ((part.same x).0 c).0;
    free = ascending_free X P h.semi.basis.prefix_free part.ascending (λ x c. ((part.same x).0 c).0);
    each = are.each;
    different = atoms_different are;
    apart = λ x k c e d. (atom_words (All-contains (IsAtom shape p X) atoms k are.each e) x d).1 ((part.same x).0 c).1;
    whole = λ x c. elim (told x c) [
      | inl cycle ↦ inl ((part.same x).1 (c, cycle))
      | inr other ↦ inr (let a = atom_at h x (c, other) in (a.0, are.all a.0 a.1, a.2))
    ];
  }

  -- the words of an atom are done
  pub atom_done : {words : List Word} {k : List ℕ} {old new : List (List ℕ)} → IsTakenOut k old new → IsPartDone shape p X words old
      → IsPartDone shape p X (words ++ words_at X k) new
  atom_done {words} {k} {old} {new} t d =
      let atom = All-contains (IsAtom shape p X) old k d.each (taken_here t) in
      let others = taken_pairs t (λ y z. y ≢ z) (λ y z n e. n (sym e)) d.different in
      record {
        within = λ x c. elim (Contains-append_cases words (words_at X k) x c) [ inl e ↦ d.within x e | inr e ↦ (atom_words atom x e).0 ];
        free = AllPairs-append AreApart words (words_at X k) d.free (placed_free X h.semi.basis.prefix_free k atom.ascending)
            (λ x y c e. free_apart X h.semi.basis.prefix_free x y (d.within x c) (atom_words atom y e).0 (λ same. d.apart x k c (taken_here t) (subst (Contains (words_at X k)) (sym same) e)));
        each = All-from_contains (IsAtom shape p X) new (λ l c. All-contains (IsAtom shape p X) old l d.each (taken_more t l c));
        different = others.0;
        apart = λ x l c e at. elim (Contains-append_cases words (words_at X k) x c) [
          | inl i ↦ d.apart x l i (taken_more t l e) at
          | inr i ↦ others.1 l e (atoms_common k l x atom (All-contains (IsAtom shape p X) old l d.each (taken_more t l e)) i at)
        ];
        whole = λ x c. elim (d.whole x c) [
          | inl e ↦ inl (Contains-append_left words (words_at X k) x e)
          | inr a ↦ elim (taken_cases t a.0 a.1) [
            | inl e ↦ inl (Contains-append_right words (words_at X k) x (subst (λ l. Contains (words_at X l) x) (sym e) a.2))
            | inr e ↦ inr (a.0, e, a.2)
          ]
        ];
      }

  -- where no atom is left, a basis is done
  pub all_done : {words : List Word} → IsPartDone shape p X words [] → IsBasis shape words
  all_done {words} d = basis_from shape words (All-from_contains (IsWordOf shape) words (λ x c. basis_word shape X h.semi.basis x (d.within x c))) d.free (longest X)
      (λ u hu l. let s = basis_holds shape X h.semi.basis u hu l in some_at words s.above u (elim (d.whole s.above s.listed) [ inl c ↦ c | inr a ↦ absurd (Contains-nil a.0 a.1) ]) s.under)

-- the order of the atoms doesn't matter
pub done_reordered : {shape : Shape} {p : List Row} {X words : List Word} {old new : List (List ℕ)} → ((k : List ℕ) → Contains old k → Contains new k)
    → ((k : List ℕ) → Contains new k → Contains old k)
    → AllPairs (λ k l. k ≢ l) new → IsPartDone shape p X words old → IsPartDone shape p X words new
done_reordered {shape} {p} {X} {words} {old} {new} to from different d = record {
  within = d.within;
  free = d.free;
  each = All-from_contains (IsAtom shape p X) new (λ k c. All-contains (IsAtom shape p X) old k d.each (from k c));
  different = different;
  apart = λ x k c e. d.apart x k c (from k e);
  whole = λ x c. elim (d.whole x c) [ inl e ↦ inl e | inr a ↦ inr (a.0, to a.0 a.1, a.2) ];
}
