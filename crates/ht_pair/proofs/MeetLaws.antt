-- The basis above two bases.
use Rattle.std.proofs.Common.{◌≡◌, ◌⊎◌, inl, inr, List, [], ◌∷◌, ◌++◌, sym, ◌∙◌, subst, Contains}
use Rattle.std.proofs.lemmas.List.Elements.{All-contains, Contains-append_left, Contains-append_right, Contains-append_cases}
use Rattle.ht_word.specs.Words.{IsWordOf, IsUnder, IsUnderSome}
use Rattle.ht_word.specs.declared.shape.Shape.{Shape}
use Rattle.ht_word.specs.declared.word.Word.{Word}
use Rattle.ht_word.proofs.Deciding.{under_or_not, under_some_or_not}
use Rattle.ht_word.proofs.ListLaws.{Contains-nil, Contains-here, Contains-there, Contains-cons_cases, AllPairs-head, AllPairs-tail, AllPairs-cons, AllPairs-append}
use Rattle.ht_word.proofs.WordLaws.{under_refl, under_trans, under_antisym, All-from_contains}
use Rattle.ht_pair.specs.Bases.{AreApart, IsPrefixFree, longest, IsBasis}
use Rattle.ht_pair.proofs.BasisLaws.{prefix_free_same, some_at, some_trans, basis_holds, basis_word, basis_from}
use Rattle.ht_pair.proofs.PrefixMapLaws.{back}

-- the words of a list with a property that is decided, in their order
pub record Chosen (P : Word → Type 0) (W : List Word) : Type 0 where
  pub words : List Word
  pub in_list : (w : Word) → Contains words w → Contains W w
  pub holds : (w : Word) → Contains words w → P w
  pub all : (w : Word) → Contains W w → P w → Contains words w
  pub free : IsPrefixFree W → IsPrefixFree words

-- words with a property that is decided can be chosen
pub chosen : (P : Word → Type 0) → ((w : Word) → P w ⊎ ¬ P w) → (W : List Word) → Chosen P W
chosen P dec [] = record { words = []; in_list = λ w c. c; holds = λ w c. absurd (Contains-nil w c); all = λ w c h. c; free = λ f. f }
chosen P dec (x ∷ W) =
    let rest = chosen P dec W in
    elim (dec x) [
      | inl h ↦ record {
        words = x ∷ rest.words;
        in_list = λ w c. elim (Contains-cons_cases x rest.words w c) [ inl e ↦ subst (Contains (x ∷ W)) e (Contains-here x W) | inr k ↦ Contains-there x W w (rest.in_list w k) ];
        holds = λ w c. elim (Contains-cons_cases x rest.words w c) [ inl e ↦ subst P e h | inr k ↦ rest.holds w k ];
        all = λ w c k. elim (Contains-cons_cases x W w c) [ inl e ↦ subst (Contains (x ∷ rest.words)) e (Contains-here x rest.words) | inr m ↦ Contains-there x rest.words w (rest.all w m k) ];
        free = λ f. AllPairs-cons AreApart x rest.words (All-from_contains (AreApart x) rest.words (λ w c. All-contains (AreApart x) W w (AllPairs-head AreApart x W f) (rest.in_list w c))) (rest.free (AllPairs-tail AreApart x W f));
      }
      | inr n ↦ record {
        words = rest.words;
        in_list = λ w c. Contains-there x W w (rest.in_list w c);
        holds = rest.holds;
        all = λ w c k. elim (Contains-cons_cases x W w c) [ inl e ↦ absurd (n (subst P (sym e) k)) | inr m ↦ rest.all w m k ];
        free = λ f. rest.free (AllPairs-tail AreApart x W f);
      }
    ]

-- ---- the basis above two bases

-- under no word of the list, but perhaps one of its words
IsOutside : List Word → Word → Type 0
IsOutside W w = (x : Word) → Contains W x → IsUnder w x → w ≡ x

-- whether a word is under no word of the list but itself
outside_or_not : (W : List Word) (w : Word) → IsOutside W w ⊎ ¬ IsOutside W w
unfolding IsOutside
outside_or_not [] w = inl (λ x c h. absurd (Contains-nil x c))
outside_or_not (y ∷ W) w = elim (outside_or_not W w) [
  | inr n ↦ inr (λ h. n (λ x c k. h x (Contains-there y W x c) k))
  | inl h ↦ elim (under_or_not w y) [
    | inr n ↦ inl (λ x c k. elim (Contains-cons_cases y W x c) [ inl e ↦ absurd (n (subst (λ t. IsUnder w t) (sym e) k)) | inr m ↦ h x m k ])
    | inl under ↦ elim (under_or_not y w) [
      | inl back ↦ inl (λ x c k. elim (Contains-cons_cases y W x c) [ inl e ↦ under_antisym under back ∙ e | inr m ↦ h x m k ])
      | inr n ↦ inr (λ g. n (subst (λ t. IsUnder t w) (g y (Contains-here y W) under) (under_refl w)))
    ]
  ]
]

-- the words just under X and those just under W are together those under the words of a basis
pub record IsMeet (shape : Shape) (X W V : List Word) : Type 0 where
  pub basis : IsBasis shape V
  pub from : (v : Word) → Contains V v → Contains X v ⊎ Contains W v
  pub first : (u : Word) → IsUnderSome u X → IsUnderSome u V
  pub second : (u : Word) → IsUnderSome u W → IsUnderSome u V

-- each two bases are under a basis whose words are words of theirs
pub meet : (shape : Shape) (X W : List Word) → IsBasis shape X → IsBasis shape W → (V : List Word) × IsMeet shape X W V
unfolding IsOutside
meet shape X W bx bw =
    -- the words of X that are not under W, and those of W that are not strictly under X
    let A = chosen (λ x. ¬ IsUnderSome x W) (λ x. not_or x) X in
    let B = chosen (IsOutside X) (outside_or_not X) W in
    let V = A.words ++ B.words in
    -- above a word of X that is under W there is a word of B
    let above_x : (x : Word) → Contains X x → (s : IsUnderSome x W) → Contains B.words s.above = λ x c s. B.all s.above s.listed (λ x' c' k. under_antisym k (subst (λ t. IsUnder t s.above) (prefix_free_same X bx.prefix_free x x' c c' (under_trans s.under k)) s.under)) in
    let first : (u : Word) → IsUnderSome u X → IsUnderSome u V = λ u s. elim (under_some_or_not s.above W) [
      | inl k ↦ some_at V k.above u (Contains-append_right A.words B.words k.above (above_x s.above s.listed k)) (under_trans s.under k.under)
      | inr n ↦ some_at V s.above u (Contains-append_left A.words B.words s.above (A.all s.above s.listed n)) s.under
    ] in
    let second : (u : Word) → IsUnderSome u W → IsUnderSome u V = λ u s. elim (under_some_or_not s.above X) [
      | inr n ↦ some_at V s.above u (Contains-append_right A.words B.words s.above (B.all s.above s.listed (λ x c k. absurd (n (some_at X x s.above c k))))) s.under
      | inl k ↦ some_trans s.under (first s.above k)
    ] in (
      V,
      record {
        basis = basis_from shape V
            (All-from_contains (IsWordOf shape) V (λ w c. elim (Contains-append_cases A.words B.words w c) [
              | inl h ↦ basis_word shape X bx w (A.in_list w h)
              | inr h ↦ basis_word shape W bw w (B.in_list w h)
            ]))
            (AllPairs-append AreApart A.words B.words (A.free bx.prefix_free) (B.free bw.prefix_free) (λ x w c e. (
              λ k. A.holds x c (some_at W w x (B.in_list w e) k),
              λ k. A.holds x c (some_at W w x (B.in_list w e) (subst (λ t. IsUnder t w) (B.holds w e x (A.in_list x c) k) (under_refl w))),
            )))
            (longest X)
            (λ u h l. first u (basis_holds shape X bx u h l));
        from = λ v c. elim (Contains-append_cases A.words B.words v c) [ inl h ↦ inl (A.in_list v h) | inr h ↦ inr (B.in_list v h) ];
        first = first;
        second = second;
      },
    )
  where
    not_or : (x : Word) → ¬ IsUnderSome x W ⊎ ¬ ¬ IsUnderSome x W
    not_or x = elim (under_some_or_not x W) [ inl s ↦ inr (λ n. n s) | inr n ↦ inl n ]
