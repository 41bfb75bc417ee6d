-- The least attractor of an atom: the first attractor at its places.
use Rattle.std.proofs.Common.{◌≡◌, ℕ, ◌<◌, inl, inr, List, Some, slice_get, subst, subst₂, AllPairs}
use Rattle.std.specs.declared.cmp.Ordering.TheVariants.{Less}
use Rattle.std.proofs.lemmas.Option.{slice_get_within, get_or_from_slice_get}
use Rattle.ht_word.specs.Words.{word_cmp}
use Rattle.ht_word.specs.declared.word.Word.{Word}
use Rattle.ht_word.proofs.ListLaws.{same_element, trichotomy}
use Rattle.ht_word.proofs.WordLaws.{word_cmp_once}
use Rattle.ht_pair.specs.Atoms.{IsAtom}
use Rattle.ht_pair.specs.Kinds.{IsAttractorWord}
use Rattle.ht_pair.specs.NormalConjugators.{IsLeastAttractor}
use Rattle.ht_types.specs.TypedElements.{TypedValue, IsTyped}
use Rattle.ht_pieces.proofs.KeptAtoms.{atom_words}
use Rattle.ht_local.specs.Candidates.{IsWordAt}
use Rattle.ht_local.proofs.PlaceLaws.{word_at_same, word_listed, word_somewhere}

-- of each two entries of a list in order the later one stands later
pairs_at : {X : Type 0} (R : X → X → Type 0) (xs : List X) → AllPairs R xs → (i j : ℕ) (x y : X) → slice_get xs i ≡ Some x → slice_get xs j ≡ Some y → i < j → R x y
pairs_at R xs pairs i j x y e f less = subst₂ R (get_or_from_slice_get xs i x x e) (get_or_from_slice_get xs j y x f) (pairs i j x less (slice_get_within xs j y f))

module _ (t : TypedValue) (typed : IsTyped t.element t.quasi t.kinds) (places : List ℕ) (atom : IsAtom t.element.shape t.element.rows t.quasi.basis.words places) where
  -- a word at a later place of an atom is a greater word
  later_greater : (i j : ℕ) (x y : Word) → IsWordAt t places i x → IsWordAt t places j y → i < j → word_cmp x y ≡ Less
  later_greater i j x y v w less =
      pairs_at (λ (a : Word) (b : Word). word_cmp a b ≡ Less) t.quasi.basis.words typed.quasinormal.least.ascending v.place w.place x y v.here w.here
      (pairs_at (λ (a : ℕ) (b : ℕ). a < b) places atom.ascending i j v.place w.place v.at w.at less)

  -- the first attractor at the places of an atom is its least
  pub first_least : (i : ℕ) (x : Word) → IsWordAt t places i x → IsAttractorWord t.element.shape t.element.rows x
      → ((j : ℕ) (y : Word) → j < i → IsWordAt t places j y → ¬ IsAttractorWord t.element.shape t.element.rows y) → IsLeastAttractor t.element.shape t.element.rows t.quasi.basis.words places x
  first_least i x at attractor none = record {
    listed = word_listed t places i x at;
    attractor = attractor;
    least = λ y c other less.
        let w = word_somewhere t places y c in
        elim (trichotomy w.index i) [
          | inl k ↦ (elim k [
            | inl before ↦ none w.index y before w.word other
            | inr after ↦ word_cmp_once x y (later_greater i w.index x y at w.word after) less
          ])
          | inr e ↦ (let same : y ≡ x = word_at_same t places i y x (subst (λ k. IsWordAt t places k y) e w.word) at in
              let again : word_cmp x x ≡ Less = subst (λ u. word_cmp u x ≡ Less) same less in word_cmp_once x x again again)
        ];
  }

  -- an atom has one least attractor
  pub least_once : (x y : Word)
      → IsLeastAttractor t.element.shape t.element.rows t.quasi.basis.words places x → IsLeastAttractor t.element.shape t.element.rows t.quasi.basis.words places y → x ≡ y
  least_once x y first second =
      same_element (λ (a : Word) (b : Word). word_cmp a b ≡ Less) t.quasi.basis.words typed.quasinormal.least.ascending x y (atom_words atom x first.listed).0 (atom_words atom y second.listed).0
      (second.least x first.listed first.attractor) (first.least y second.listed second.attractor)
