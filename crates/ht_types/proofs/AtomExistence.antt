-- Each word of the infinite part is in an atom: which words are joined is decided, and so the words that chains lead to can be listed.
use Rattle.std.proofs.Common.{◌≡◌, ◌≢◌, ℕ, zero, suc, ◌≤◌, ◌<◌, ◌+◌, ◌⊎◌, inl, inr, List, [], ◌∷◌, ◌++◌, length, Option, Some, None, slice_get, refl, sym, ◌∙◌, subst, arith, ◌↔◌, pos, neg_ℤ, AllPairs, Contains, drop}
use Rattle.std.proofs.lemmas.Bool.{cases_lt}
use Rattle.std.proofs.lemmas.Option.{same_Some, slice_get_within}
use Rattle.std.proofs.lemmas.List.Elements.{All-nil, Contains-append_cases, Contains-append_left, Contains-append_right}
use Rattle.ht_word.specs.Words.{◌·◌, IsWordOf, IsUnder}
use Rattle.ht_word.specs.declared.shape.Shape.{Shape}
use Rattle.ht_word.specs.declared.word.Word.{Word}
use Rattle.ht_word.proofs.Deciding.{under_or_not, same_word_or_not, contains_or_not}
use Rattle.ht_word.proofs.ListLaws.{Contains-nil, Contains-here, Contains-there, Contains-cons_cases, AllPairs-nil, AllPairs-cons, AllPairs-append}
use Rattle.ht_word.proofs.WordLaws.{after-nil, under_after, under_trans, under_both, under_same, word_front, word_rest, ones, ones_letters}
use Rattle.ht_pair.specs.Actions.{Moves}
use Rattle.ht_pair.specs.Atoms.{IsInfiniteWord, AreJoined, AreLinked, IsAtom}
use Rattle.ht_pair.specs.Kinds.{IsCycleWord}
use Rattle.ht_pair.specs.Pairs.{IsPair}
use Rattle.ht_pair.specs.SemiNormal.{IsSemiNormal}
use Rattle.ht_pair.specs.Steps.{Carries}
use Rattle.ht_pair.specs.declared.row.Row.{Row}
use Rattle.ht_pair.proofs.BasisLaws.{front, front_is, length-front, under_front, basis_holds, basis_word, longest_least, words_of, words_of_basis, words_of_length}
use Rattle.ht_pair.proofs.CarriesLaws.{carries_single, carries_from_steps, carries_extends, carries_back}
use Rattle.ht_pair.proofs.LeastBasisLaws.{without}
use Rattle.ht_pair.proofs.MovesLaws.{moves_map}
use Rattle.ht_pair.proofs.PrefixMapLaws.{IsCarrying, long_word, length-long, length-carried}
use Rattle.ht_quasi.proofs.StepLaws.{listed_at}
use Rattle.ht_types.proofs.PeriodicLaws.{cycle_kept}

-- some entry of a list has the property, or none has
any_or_none : (P : Word → Type 0) (W : List Word) → ((w : Word) → Contains W w → P w ⊎ ¬ P w) → ((w : Word) × Contains W w × P w) ⊎ ((w : Word) → Contains W w → ¬ P w)
any_or_none P [] told = inr (λ w c. absurd (Contains-nil w c))
any_or_none P (x ∷ W) told = elim (told x (Contains-here x W)) [
  | inl h ↦ inl (x, Contains-here x W, h)
  | inr n ↦ elim (any_or_none P W (λ w c. told w (Contains-there x W w c))) [
    | inl g ↦ inl (g.0, Contains-there x W g.0 g.1, g.2)
    | inr none ↦ inr (λ w c. elim (Contains-cons_cases x W w c) [ inl e ↦ subst (λ t. ¬ P t) e n | inr d ↦ none w d ])
  ]
]

-- ---- whether words are joined

-- p moves w, which is under x, to a word under y
record IsMovedBetween (p : List Row) (x y w : Word) : Type 0 where
  to : Word
  moved : Moves p w to
  from_under : IsUnder w x
  to_under : IsUnder to y

-- whether it does, where the word is long enough to be moved
moved_or_not : (shape : Shape) (p : List Row) → (m : IsCarrying shape (Moves p)) (x y w : Word) → IsWordOf shape w → m.bound ≤ length w.letters → IsMovedBetween p x y w ⊎ ¬ IsMovedBetween p x y w
moved_or_not shape p m x y w word long =
    let v = m.total w word long in
    elim (under_or_not w x) [
      | inr n ↦ inr (λ h. n h.from_under)
      | inl under ↦ elim (under_or_not v.0 y) [
        | inl to ↦ inl (record { to = v.0; moved = v.1; from_under = under; to_under = to })
        | inr n ↦ inr (λ h. n (subst (λ t. IsUnder t y) (m.single w h.to v.0 word h.moved v.1) h.to_under))
      ]
    ]

-- joined words are told by words of a common length
joined_at : (shape : Shape) (p : List Row) → IsPair shape p → (m : IsCarrying shape (Moves p)) (x y : Word) → AreJoined shape p x y
    → (w : Word) × Contains (words_of shape (m.bound + length y.letters + length x.letters)) w × IsMovedBetween p x y w
joined_at shape p pair m x y h =
    let N = m.bound + length y.letters + length x.letters in
    let o = ones N in
    let u = h.from · o in
    let word_u = long_word shape h.from N h.carries.word in
    let long : N ≤ length u.letters = omega (arith, length-long h.from N) in
    let w = front u N in
    let rest = drop N u.letters in
    let u_is : u ≡ w · rest = front_is u N in
    let word_w = word_front shape w rest (subst (IsWordOf shape) u_is word_u) in
    let size : length w.letters ≡ N = length-front u N long in
    let v = m.total w word_w (omega (arith, size)) in
    let v_long : length y.letters ≤ length (v.0).letters = length-carried shape (Moves p) m w v.0 (length y.letters) word_w (omega (arith, size)) v.1 in
    let letters_rest = word_rest shape w rest (subst (IsWordOf shape) u_is word_u) in
    let there : Carries shape p (pos 1) u (h.to · o) = carries_extends shape p (pos 1) h.from h.to o (ones_letters shape N) h.carries in
    let here : Carries shape p (pos 1) u (v.0 · rest) = subst (λ t. Carries shape p (pos 1) t (v.0 · rest)) (sym u_is) (carries_extends shape p (pos 1) w v.0 rest letters_rest (carries_from_steps shape p pair (pos 1) w v.0 word_w (w, refl, v.1))) in
    let same : h.to · o ≡ v.0 · rest = carries_single shape p pair (pos 1) u (h.to · o) (v.0 · rest) there here in
    let below : IsUnder (v.0 · rest) y = subst (λ t. IsUnder t y) same (under_trans (under_after h.to o) h.under_second) in
    let v_under : IsUnder v.0 y = shorter (v.0 · rest) v.0 y (under_after v.0 rest) below v_long in
    let s = basis_holds shape (words_of shape N) (words_of_basis shape N) w word_w (longest_least (words_of shape N) (length w.letters) (λ t c. omega (arith, size, words_of_length shape N t c))) in
    let w_is : w ≡ s.above = under_same s.under (omega (arith, size, words_of_length shape N s.above s.listed)) in
    (w, subst (Contains (words_of shape N)) (sym w_is) s.listed, record { to = v.0; moved = v.1; from_under = under_front u x N long (under_trans (under_after h.from o) h.under_first) (omega arith); to_under = v_under })
  where
    shorter : (t v y : Word) → IsUnder t v → IsUnder t y → length y.letters ≤ length v.letters → IsUnder v y
    shorter t v y first second l = elim (under_both first second) [
      | inl k ↦ k
      | inr k ↦ subst (λ s. IsUnder s y) (under_same k l) (record { rest = []; is = sym (after-nil y) })
    ]

-- whether two words are joined
joined_or_not : (shape : Shape) (p : List Row) → IsPair shape p → (x y : Word) → AreJoined shape p x y ⊎ ¬ AreJoined shape p x y
joined_or_not shape p pair x y =
    let m = (moves_map shape p pair).ahead in
    let N = m.bound + length y.letters + length x.letters in
    let word : (w : Word) → Contains (words_of shape N) w → IsWordOf shape w = basis_word shape (words_of shape N) (words_of_basis shape N) in
    elim (any_or_none (IsMovedBetween p x y) (words_of shape N) (λ w c. moved_or_not shape p m x y w (word w c) (omega (arith, words_of_length shape N w c)))) [
      | inl (w, c, h) ↦ inl (record { from = w; to = h.to; under_first = h.from_under; carries = carries_from_steps shape p pair (pos 1) w h.to (word w c) (w, refl, h.moved); under_second = h.to_under })
      | inr none ↦ inr (λ h. let g = joined_at shape p pair m x y h in none g.0 g.1 g.2)
    ]

-- ---- all words that chains lead to

AreNext : Shape → List Row → Word → Word → Type 0
AreNext shape p x y = AreJoined shape p x y ⊎ AreJoined shape p y x

next_or_not : (shape : Shape) (p : List Row) → IsPair shape p → (x y : Word) → AreNext shape p x y ⊎ ¬ AreNext shape p x y
unfolding AreNext
next_or_not shape p pair x y = elim (joined_or_not shape p pair x y) [
  | inl h ↦ inl (inl h)
  | inr n ↦ elim (joined_or_not shape p pair y x) [
    | inl h ↦ inl (inr h)
    | inr k ↦ inr (λ s. elim s [ inl h ↦ n h | inr h ↦ k h ])
  ]
]

-- what is next to a word of the infinite part is of the infinite part
next_infinite : (shape : Shape) (p : List Row) → IsPair shape p → (X : List Word) → IsSemiNormal shape p X → (x y : Word) → IsInfiniteWord shape p X x → Contains X y → AreNext shape p x y → IsInfiniteWord shape p X y
unfolding AreNext
next_infinite shape p pair X semi x y infinite c (inl h) = (c, (λ cycle. infinite.1 (cycle_kept shape p pair X semi (neg_ℤ (pos 1)) h.to h.from y x c infinite.0 h.under_second h.under_first (carries_back shape p pair (pos 1) h.from h.to h.carries) cycle)))
next_infinite shape p pair X semi x y infinite c (inr h) = (c, (λ cycle. infinite.1 (cycle_kept shape p pair X semi (pos 1) h.from h.to y x c infinite.0 h.under_first h.under_second h.carries cycle)))

-- chains lead from x to the words of T, and the other words of X are in R
record AreReached (shape : Shape) (p : List Row) (X : List Word) (x : Word) (T R : List Word) : Type 0 where
  start : Contains T x
  linked : (t : Word) → Contains T t → (j : ℕ) × AreLinked shape p X j x t
  infinite : (t : Word) → Contains T t → IsInfiniteWord shape p X t
  others : (y : Word) → Contains X y → Contains T y ⊎ Contains R y

-- T has all words that chains lead to
record AreAllFound (shape : Shape) (p : List Row) (X : List Word) (x : Word) (T : List Word) : Type 0 where
  linked : (t : Word) → Contains T t → (j : ℕ) × AreLinked shape p X j x t
  all : (j : ℕ) (y : Word) → AreLinked shape p X j x y → Contains T y

-- where no other word is next to a word of T, T has all
closed_found : (shape : Shape) (p : List Row) (X : List Word) (x : Word) (T R : List Word) → AreReached shape p X x T R → ((r : Word) → Contains R r → Contains X r → (t : Word) → Contains T t → ¬ AreNext shape p t r) → AreAllFound shape p X x T
unfolding AreNext
closed_found shape p X x T R h closed = record { linked = h.linked; all = all }
  where
    all : (j : ℕ) (y : Word) → AreLinked shape p X j x y → Contains T y
    all zero y chain = subst (Contains T) chain h.start
    all (suc j) y (t, before, last, link) =
        let there = all j t before in
        elim (h.others y last.0) [ inl c ↦ c | inr r ↦ absurd (closed y r last.0 t there link) ]

-- a word next to one of T joins T
one_more_found : (shape : Shape) (p : List Row) → IsPair shape p → (X : List Word) → IsSemiNormal shape p X → (x : Word) (T R M : List Word) → AreReached shape p X x T R → (r t : Word) → Contains X r → Contains T t → AreNext shape p t r → ((u : Word) → Contains R u → u ≢ r → Contains M u) → AreReached shape p X x (r ∷ T) M
unfolding AreNext
one_more_found shape p pair X semi x T R M h r t c at link rest =
    let infinite = next_infinite shape p pair X semi t r (h.infinite t at) c link in
    record {
      start = Contains-there r T x h.start;
      linked = λ w d. elim (Contains-cons_cases r T w d) [
        | inr e ↦ h.linked w e
        | inl same ↦ (let g = h.linked t at in subst (λ s. (j : ℕ) × AreLinked shape p X j x s) same (suc g.0, (t, g.1, infinite, link)))
      ];
      infinite = λ w d. elim (Contains-cons_cases r T w d) [ inl same ↦ subst (IsInfiniteWord shape p X) same infinite | inr e ↦ h.infinite w e ];
      others = λ y d. elim (h.others y d) [
        | inl e ↦ inl (Contains-there r T y e)
        | inr e ↦ elim (same_word_or_not y r) [
          | inl same ↦ inl (subst (Contains (r ∷ T)) (sym same) (Contains-here r T))
          | inr n ↦ inr (rest y e n)
        ]
      ];
    }

-- r is a word of X, and next to a word of T
record IsNextToSome (shape : Shape) (p : List Row) (X T : List Word) (r : Word) : Type 0 where
  listed : Contains X r
  found : Word
  among : Contains T found
  next : AreNext shape p found r

next_to_some_or_not : (shape : Shape) (p : List Row) → IsPair shape p → (X T : List Word) (r : Word) → IsNextToSome shape p X T r ⊎ ¬ IsNextToSome shape p X T r
next_to_some_or_not shape p pair X T r = elim (contains_or_not X r) [
  | inr n ↦ inr (λ h. n h.listed)
  | inl c ↦ elim (any_or_none (λ t. AreNext shape p t r) T (λ t d. next_or_not shape p pair t r)) [
    | inl g ↦ inl (record { listed = c; found = g.0; among = g.1; next = g.2 })
    | inr none ↦ inr (λ h. none h.found h.among h.next)
  ]
]

-- one word after another joins T, as long as one of X is next to it
all_found : (shape : Shape) (p : List Row) → IsPair shape p → (X : List Word) → IsSemiNormal shape p X → (x : Word) (fuel : ℕ) (T R : List Word) → length R ≤ fuel → AreReached shape p X x T R → (W : List Word) × AreAllFound shape p X x W
all_found shape p pair X semi x zero T [] l h = (T, closed_found shape p X x T [] h (λ r c. absurd (Contains-nil r c)))
all_found shape p pair X semi x zero T (r ∷ R) l h = absurd (omega (arith, l))
all_found shape p pair X semi x (suc fuel) T R l h = elim (any_or_none (IsNextToSome shape p X T) R (λ r c. next_to_some_or_not shape p pair X T r)) [
  | inr none ↦ (T, closed_found shape p X x T R h (λ r c listed t d link. none r c (record { listed = listed; found = t; among = d; next = link })))
  | inl (r, c, g) ↦ (
      let M = without R r c in
      all_found shape p pair X semi x fuel (r ∷ T) M.0 (omega (arith, l, M.1)) (one_more_found shape p pair X semi x T R M.0 h r g.found g.listed g.among g.next M.2))
]

-- ---- their places

-- the places below n of the words of a list W, in ascending order
record ArePlacesBelow (X W : List Word) (n : ℕ) (places : List ℕ) : Type 0 where
  ascending : AllPairs (λ (i : ℕ) (j : ℕ). i < j) places
  below : (k : ℕ) → Contains places k → k < n
  same : (k : ℕ) → k < n → Contains places k ↔ ((y : Word) × (slice_get X k ≡ Some y) × Contains W y)

-- whether the word at a place is in the list
found_at : (X W : List Word) (k : ℕ) → ((y : Word) × (slice_get X k ≡ Some y) × Contains W y) ⊎ ¬ ((y : Word) × (slice_get X k ≡ Some y) × Contains W y)
found_at X W k = at (slice_get X k) refl
  where
    at : (o : Option Word) → slice_get X k ≡ o → ((y : Word) × (slice_get X k ≡ Some y) × Contains W y) ⊎ ¬ ((y : Word) × (slice_get X k ≡ Some y) × Contains W y)
    at None is = inr (λ h. none (sym is ∙ h.1))
      where
        none : {y : Word} → ◌≡◌ {A = Option Word} None (Some y) → ⊥
        none e = cc
    at (Some y) is = elim (contains_or_not W y) [
      | inl c ↦ inl (y, is, c)
      | inr n ↦ inr (λ h. n (subst (Contains W) (same_Some h.0 y (sym h.1 ∙ is)) h.2))
    ]

places_below : (X W : List Word) (n : ℕ) → (places : List ℕ) × ArePlacesBelow X W n places
places_below X W zero = ([], record { ascending = AllPairs-nil (λ (i : ℕ) (j : ℕ). i < j); below = λ k c. absurd (Contains-nil k c); same = λ k l. absurd (omega (arith, l)) })
places_below X W (suc n) =
    let (L, h) = places_below X W n in
    let not_there : ¬ Contains L n = λ c. (let l = h.below n c in omega (arith, l)) in
    elim (found_at X W n) [
      | inr none ↦ (
        L,
        record {
          ascending = h.ascending;
          below = λ k c. (let l = h.below k c in omega (arith, l));
          same = λ k l. elim (cases_lt k n) [
            | inl less ↦ h.same k less
            | inr more ↦ (
                let is : n ≡ k = omega (arith, l, more) in
                ((λ c. absurd (not_there (subst (Contains L) (sym is) c))), (λ g. absurd (none (subst (λ j. (y : Word) × (slice_get X j ≡ Some y) × Contains W y) (sym is) g)))))
          ];
        },
      )
      | inl found ↦ (
        L ++ n ∷ [],
        record {
          ascending = AllPairs-append (λ (i : ℕ) (j : ℕ). i < j) L (n ∷ []) h.ascending (AllPairs-cons (λ (i : ℕ) (j : ℕ). i < j) n [] (All-nil (λ (j : ℕ). n < j)) (AllPairs-nil (λ (i : ℕ) (j : ℕ). i < j)))
              (λ i j c d. elim (Contains-cons_cases n [] j d) [ inl e ↦ subst (λ t. i < t) e (h.below i c) | inr e ↦ absurd (Contains-nil j e) ]);
          below = λ k c. elim (Contains-append_cases L (n ∷ []) k c) [
            | inl d ↦ (let l = h.below k d in omega (arith, l))
            | inr d ↦ elim (Contains-cons_cases n [] k d) [ inl e ↦ omega (arith, e) | inr e ↦ absurd (Contains-nil k e) ]
          ];
          same = λ k l. elim (cases_lt k n) [
            | inl less ↦ (
              (λ c. elim (Contains-append_cases L (n ∷ []) k c) [
                | inl d ↦ (h.same k less).0 d
                | inr d ↦ elim (Contains-cons_cases n [] k d) [ inl e ↦ absurd (omega (arith, e, less)) | inr e ↦ absurd (Contains-nil k e) ]
              ]),
              (λ g. Contains-append_left L (n ∷ []) k ((h.same k less).1 g)),
            )
            | inr more ↦ (
                let is : n ≡ k = omega (arith, l, more) in
                ((λ c. subst (λ j. (y : Word) × (slice_get X j ≡ Some y) × Contains W y) is found), (λ g. subst (Contains (L ++ n ∷ [])) is (Contains-append_right L (n ∷ []) n (Contains-here n [])))))
          ];
        },
      )
    ]

-- each word of the infinite part is in an atom
pub atom_exists : (shape : Shape) (p : List Row) (X : List Word) (i : ℕ) (x : Word) → IsPair shape p → IsSemiNormal shape p X → slice_get X i ≡ Some x → ¬ IsCycleWord shape p x → (places : List ℕ) × IsAtom shape p X places × Contains places i
atom_exists shape p X i x pair semi here other =
    let infinite : IsInfiniteWord shape p X x = (listed_at X i x here, other) in
    let W = all_found shape p pair X semi x (length X) (x ∷ []) X (omega arith) (record {
      start = Contains-here x [];
      linked = λ t c. (0, only x t c);
      infinite = λ t c. subst (IsInfiniteWord shape p X) (only x t c) infinite;
      others = λ y c. inr c;
    }) in
    let L = places_below X W.0 (length X) in
    let same : (k : ℕ) → Contains L.0 k ↔ ((y : Word) × (slice_get X k ≡ Some y) × (j : ℕ) × AreLinked shape p X j x y) = λ k. (
      (λ c. let g = (L.1.same k (L.1.below k c)).0 c in let link = W.1.linked g.0 g.2 in (g.0, g.1, link.0, link.1)),
      (λ g. (L.1.same k (slice_get_within X k g.0 g.1)).1 (g.0, g.1, W.1.all g.2 g.0 g.3)),
    ) in
    (L.0, record { start = x; infinite = infinite; ascending = L.1.ascending; same = same }, (same i).1 (x, here, 0, refl))
  where
    only : (x t : Word) → Contains (x ∷ []) t → x ≡ t
    only x t c = elim (Contains-cons_cases x [] t c) [ inl e ↦ e | inr n ↦ absurd (Contains-nil t n) ]
