-- The words above a basis, its inner nodes: as many as it has expansions.
use Rattle.std.proofs.Common.{◌≡◌, ◌≢◌, ℕ, zero, suc, ◌≤◌, ◌+◌, ◌*◌, inl, inr, List, [], ◌∷◌, ◌++◌, length, refl, sym, ap, ◌∙◌, subst, arith, Contains}
use Rattle.std.specs.Prelude.{◌-◌}
use Rattle.std.proofs.lemmas.Bool.{cases_lt}
use Rattle.std.proofs.lemmas.List.{length-append}
use Rattle.std.proofs.lemmas.List.Elements.{All-nil, All-cons, Contains-append_left, Contains-append_right, Contains-append_cases}
use Rattle.ht_word.specs.Words.{child, root_word, IsLetter, IsWordOf, IsUnder, IsUnderSome}
use Rattle.ht_word.specs.declared.shape.Shape.{Shape}
use Rattle.ht_word.specs.declared.word.Word.{Word}
use Rattle.ht_word.proofs.Deciding.{under_some_or_not}
use Rattle.ht_word.proofs.ListLaws.{Contains-nil, Contains-here, Contains-there, Contains-cons_cases, AllPairs-nil, AllPairs-cons, AllPairs-append}
use Rattle.ht_word.proofs.WordLaws.{under_refl, under_trans, under_same, under_antisym, under_after, length-after, word_after}
use Rattle.ht_pair.specs.Bases.{AreApart, IsPrefixFree, longest, IsBasis}
use Rattle.ht_pair.proofs.BasisLaws.{some_at, basis_holds, child_of, child_above}
use Rattle.ht_pair.proofs.BasisSizes.{under_one_child}
use Rattle.ht_pair.proofs.CountLaws.{no_more}
use Rattle.ht_pair.proofs.ReducedLaws.{above_child}

-- the words under u that are not under B, and words of B under u, as many as the expansions of u make
record HasInner (shape : Shape) (B : List Word) (u : Word) : Type 0 where
  inner : List Word
  leaves : List Word
  holds : (w : Word) → IsWordOf shape w → IsUnder w u → ¬ IsUnderSome w B → Contains inner w
  listed : (b : Word) → Contains leaves b → Contains B b
  below : (b : Word) → Contains leaves b → IsUnder b u
  free : IsPrefixFree leaves
  size : length leaves ≡ 1 + length inner * (shape.n - 1)

-- the same for the words f 1 to f k together
record HaveInner (shape : Shape) (B : List Word) (f : ℕ → Word) (k : ℕ) : Type 0 where
  inner : List Word
  leaves : List Word
  holds : (w : Word) → IsWordOf shape w → (a : ℕ) → 1 ≤ a → a ≤ k → IsUnder w (f a) → ¬ IsUnderSome w B → Contains inner w
  listed : (b : Word) → Contains leaves b → Contains B b
  below : (b : Word) → Contains leaves b → (a : ℕ) × (a ≤ k) × IsUnder b (f a)
  free : IsPrefixFree leaves
  size : length leaves ≡ k + length inner * (shape.n - 1)

no_word_under_both : (ℕ → Word) → Type 0
no_word_under_both f = (w : Word) (a b : ℕ) → a ≢ b → IsUnder w (f a) → IsUnder w (f b) → ⊥

have_inner : (shape : Shape) (B : List Word) (f : ℕ → Word) → no_word_under_both f → (k : ℕ) → ((a : ℕ) → 1 ≤ a → a ≤ k → HasInner shape B (f a)) → HaveInner shape B f k
unfolding no_word_under_both
have_inner shape B f apart zero each = record {
  inner = [];
  leaves = [];
  holds = λ w h a low high. absurd (omega arith);
  listed = λ b c. absurd (Contains-nil b c);
  below = λ b c. absurd (Contains-nil b c);
  free = AllPairs-nil AreApart;
  size = omega arith;
}
have_inner shape B f apart (suc k) each =
    let t = have_inner shape B f apart k (λ a low high. each a low (omega arith)) in
    let e = each (suc k) (omega arith) (omega arith) in
    record {
      inner = t.inner ++ e.inner;
      leaves = t.leaves ++ e.leaves;
      holds = λ w h a low high under none. elim (cases_lt a (suc k)) [
        | inl l ↦ Contains-append_left t.inner e.inner w (t.holds w h a low (omega arith) under none)
        | inr l ↦ Contains-append_right t.inner e.inner w (e.holds w h (let same : a ≡ suc k = omega arith in subst (λ j. IsUnder w (f j)) same under) none)
      ];
      listed = λ b c. elim (Contains-append_cases t.leaves e.leaves b c) [ inl m ↦ t.listed b m | inr m ↦ e.listed b m ];
      below = λ b c. elim (Contains-append_cases t.leaves e.leaves b c) [
        | inl m ↦ (let g = t.below b m in (g.0, omega (arith, g.1), g.2))
        | inr m ↦ (suc k, omega arith, e.below b m)
      ];
      free = AllPairs-append AreApart t.leaves e.leaves t.free e.free (λ x y c d.
          let g = t.below x c in
          let other : g.0 ≢ suc k = λ same. omega (arith, g.1, same) in (
            (λ h. apart x g.0 (suc k) other g.2 (under_trans h (e.below y d))),
            (λ h. apart y g.0 (suc k) other (under_trans h g.2) (e.below y d)),
          ));
      size = together (length t.leaves) (length e.leaves) (length t.inner) (length e.inner) k (shape.n - 1) (length (t.leaves ++ e.leaves)) (length (t.inner ++ e.inner)) t.size e.size (length-append t.leaves e.leaves) (length-append t.inner e.inner);
    }
  where
    together : (leaves more inner other k each all whole : ℕ) → leaves ≡ k + inner * each → more ≡ 1 + other * each → all ≡ leaves + more → whole ≡ inner + other → all ≡ suc k + whole * each
    together leaves more inner other k each all whole e g h i = omega (arith, ap (λ j. j * each) i)

children_part : (u : Word) → no_word_under_both (child u)
unfolding no_word_under_both
children_part u = λ w a b n h g. under_one_child u w a b n h g

roots_part : no_word_under_both root_word
unfolding no_word_under_both
roots_part = λ w a b n h g. n (sym (ap (λ (t : Word). t.root) h.is) ∙ ap (λ (t : Word). t.root) g.is)

-- a word of the basis has no inner nodes under it
at_leaf : (shape : Shape) (B : List Word) (u : Word) → Contains B u → HasInner shape B u
at_leaf shape B u c = record {
  inner = [];
  leaves = u ∷ [];
  holds = λ w h under none. absurd (none (some_at B u w c under));
  listed = λ b d. elim (Contains-cons_cases u [] b d) [ inl e ↦ subst (Contains B) e c | inr n ↦ absurd (Contains-nil b n) ];
  below = λ b d. elim (Contains-cons_cases u [] b d) [ inl e ↦ subst (λ t. IsUnder t u) e (under_refl u) | inr n ↦ absurd (Contains-nil b n) ];
  free = AllPairs-cons AreApart u [] (All-nil (AreApart u)) (AllPairs-nil AreApart);
  size = omega arith;
}

-- an inner node has itself and those under its children
at_node : (shape : Shape) (B : List Word) (u : Word) → HaveInner shape B (child u) shape.n → HasInner shape B u
at_node shape B u t = record {
  inner = u ∷ t.inner;
  leaves = t.leaves;
  holds = λ w h under none. elim (cases_lt (length u.letters) (length w.letters)) [
    | inr l ↦ subst (Contains (u ∷ t.inner)) (sym (under_same under l)) (Contains-here u t.inner)
    | inl l ↦ (
        let s = child_above shape u w h under l in
        let c = child_of u shape.n s.above s.listed in
        Contains-there u t.inner w (t.holds w h c.letter c.low c.high (subst (λ x. IsUnder w x) c.is s.under) none))
  ];
  listed = t.listed;
  below = λ b c. let g = t.below b c in under_trans g.2 (under_after u (g.0 ∷ []));
  free = t.free;
  size = one_more (length t.leaves) (length t.inner) shape.n (shape.n - 1) t.size (omega (arith, shape.letters_low));
}
  where
    one_more : (leaves inner n each : ℕ) → leaves ≡ n + inner * each → n ≡ suc each → leaves ≡ 1 + suc inner * each
    one_more leaves inner n each e g = omega arith

-- a word that has no word of B strictly above it is a word of B, or an inner node
inner_under : (shape : Shape) (B : List Word) → IsBasis shape B → (k : ℕ) (u : Word) → IsWordOf shape u → longest B ≤ k + length u.letters → ((b : Word) → Contains B b → IsUnder u b → IsUnder b u) → HasInner shape B u
inner_under shape B basis zero u h l top =
    let s = basis_holds shape B basis u h (omega arith) in
    at_leaf shape B u (let same : s.above ≡ u = under_antisym (top s.above s.listed s.under) s.under in subst (Contains B) same s.listed)
inner_under shape B basis (suc k) u h l top = elim (under_some_or_not u B) [
  | inl s ↦ at_leaf shape B u (let same : s.above ≡ u = under_antisym (top s.above s.listed s.under) s.under in subst (Contains B) same s.listed)
  | inr none ↦ at_node shape B u (have_inner shape B (child u) (children_part u) shape.n (λ a low high.
      inner_under shape B basis k (child u a) (word_after shape u (a ∷ []) h (All-cons (IsLetter shape) a [] (low, high) (All-nil (IsLetter shape)))) (omega (arith, length-after u (a ∷ []))) (λ b c under. elim (above_child u b a under) [
        | inl g ↦ absurd (none (some_at B b u c g))
        | inr e ↦ subst (λ t. IsUnder b t) e (under_refl b)
      ])))
]

-- each basis has a list of all words that are not under it, of as many words as it has expansions
pub inner_nodes : (shape : Shape) (B : List Word) → IsBasis shape B → (N : List Word) × ((w : Word) → IsWordOf shape w → ¬ IsUnderSome w B → Contains N w) × (shape.r + length N * (shape.n - 1) ≤ length B)
inner_nodes shape B basis =
    let t = have_inner shape B root_word roots_part shape.r (λ a low high.
    inner_under shape B basis (longest B) (root_word a) (record { root_low = low; root_high = high; letters = All-nil (IsLetter shape) }) (omega arith) (λ b c under.
    subst (λ t. IsUnder b t) (sym (under_same under (omega arith))) (under_refl b))) in (
      t.inner,
      (λ w h none. t.holds w h w.root h.root_low h.root_high (record { rest = w.letters; is = refl }) none),
      omega (arith, t.size, no_more t.leaves B t.free t.listed),
    )
