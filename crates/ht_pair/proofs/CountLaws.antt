-- How many words a prefix-free list has, and that a basis under another has no fewer.
use Rattle.std.proofs.Common.{◌≡◌, ◌≢◌, ℕ, ◌≤◌, ◌⊎◌, inl, inr, List, [], ◌∷◌, length, sym, subst, arith, Contains}
use Rattle.std.specs.List.{sum_by}
use Rattle.std.proofs.lemmas.List.Sums.{sum_by-cons}
use Rattle.std.proofs.lemmas.List.Elements.{All-contains}
use Rattle.ht_word.specs.Words.{◌·◌, IsUnder, IsUnderSome}
use Rattle.ht_word.specs.declared.shape.Shape.{Shape}
use Rattle.ht_word.specs.declared.word.Word.{Word}
use Rattle.ht_word.proofs.ListLaws.{Contains-here, Contains-there, AllPairs-head, AllPairs-tail}
use Rattle.ht_word.proofs.WordLaws.{under_refl, under_after, under_trans, under_both, length-after, word_after, ones, length-ones, ones_letters}
use Rattle.ht_pair.specs.Bases.{AreApart, IsPrefixFree, longest, IsBasis, IsAllUnder}
use Rattle.ht_pair.proofs.BasisLaws.{basis_holds, basis_single, basis_word}
use Rattle.ht_pair.proofs.LeastBasisLaws.{without}

-- the words of a prefix-free list that count, each once, are no more than the words of a list that has them
pub counted : (f : Word → ℕ) → ((w : Word) → f w ≤ 1) → (X N : List Word) → IsPrefixFree X → ((w : Word) → Contains X w → 1 ≤ f w → Contains N w) → sum_by f X ≤ length N
counted f once [] N free listed = omega arith
counted f once (w ∷ X) N free listed = elim (none_or_one (f w) (once w)) [
  | inl none ↦ omega (arith, none, sum_by-cons f w X, counted f once X N (AllPairs-tail AreApart w X free) (λ v c l. listed v (Contains-there w X v c) l))
  | inr one ↦ (
      let r = without N w (listed w (Contains-here w X) (omega (arith, one))) in
      omega (
        arith,
        one,
        r.1,
        sum_by-cons f w X,
        counted f once X r.0 (AllPairs-tail AreApart w X free) (λ v c l. r.2 v (listed v (Contains-there w X v c) l) (another w X v free c)),
      ))
]
  where
    none_or_one : (k : ℕ) → k ≤ 1 → (k ≡ 0) ⊎ (k ≡ 1)
    none_or_one k l = grind arith

    another : (w : Word) (X : List Word) (v : Word) → IsPrefixFree (w ∷ X) → Contains X v → v ≢ w
    another w X v free c e = (All-contains (AreApart w) X v (AllPairs-head AreApart w X free) c).0 (subst (λ t. IsUnder w t) (sym e) (under_refl w))

each_once : (X : List Word) → sum_by (λ (w : Word). 1) X ≡ length X
each_once [] = omega arith
each_once (w ∷ X) = omega (arith, sum_by-cons (λ (w : Word). 1) w X, each_once X)

-- a prefix-free list has no more words than a list that has them all
pub no_more : (X N : List Word) → IsPrefixFree X → ((w : Word) → Contains X w → Contains N w) → length X ≤ length N
no_more X N free listed = omega (arith, each_once X, counted (λ (w : Word). 1) (λ w. omega arith) X N free (λ w c l. listed w c))

-- words that are apart, each with one of N under it, are no more than N
pub no_more_above : (X N : List Word) → IsPrefixFree X → ((x : Word) → Contains X x → (w : Word) × Contains N w × IsUnder w x) → length X ≤ length N
no_more_above [] N free has = omega arith
no_more_above (x ∷ X) N free has =
    let below = has x (Contains-here x X) in
    let r = without N below.0 below.1 in
    omega (
      arith,
      r.1,
      no_more_above X r.0 (AllPairs-tail AreApart x X free) (λ y c.
          let w = has y (Contains-there x X y c) in
          let apart = All-contains (AreApart x) X y (AllPairs-head AreApart x X free) c in
          (w.0, r.2 w.0 w.1 (λ e. elim (under_both (subst (λ t. IsUnder t y) e w.2) below.2) [ inl h ↦ apart.1 h | inr h ↦ apart.0 h ]), w.2)),
    )

-- where a basis is under another, each word of the other has one of its words under it
below_each : (shape : Shape) (X W : List Word) → IsBasis shape X → IsBasis shape W → IsAllUnder W X → (x : Word) → Contains X x → (w : Word) × Contains W w × IsUnder w x
below_each shape X W basis lower under x c =
    let k = longest W in
    let s = basis_holds shape W lower (x · ones k) (word_after shape x (ones k) (basis_word shape X basis x c) (ones_letters shape k)) (omega (arith, length-after x (ones k), length-ones k)) in
    let t = All-contains (λ w. IsUnderSome w X) W s.above under s.listed in
    let same : x ≡ t.above = basis_single shape X basis (x · ones k) x t.above c t.listed (under_after x (ones k)) (under_trans s.under t.under) in
    (s.above, s.listed, subst (λ y. IsUnder s.above y) (sym same) t.under)

-- and it has at least as many words
pub no_fewer_below : (shape : Shape) (X W : List Word) → IsBasis shape X → IsBasis shape W → IsAllUnder W X → length X ≤ length W
no_fewer_below shape X W basis lower under = no_more_above X W basis.prefix_free (below_each shape X W basis lower under)
