-- Prefix-free lists, covering lists and bases.
use Rattle.std.proofs.Common.{◌≡◌, ℕ, zero, suc, ◌≤◌, ◌<◌, ◌⊎◌, ◌↔◌, inl, inr, max, List, [], ◌∷◌, ◌++◌, length, take, drop, refl, sym, ap, ◌∙◌, subst, arith, All, Contains, take-append-drop, flat_map}
use Rattle.std.proofs.lemmas.List.{length-take}
use Rattle.std.proofs.lemmas.List.Elements.{All-contains, Contains-append_left, Contains-append_right, Contains-append_cases, All-cons, All-nil, All-head}
use Rattle.ht_word.specs.declared.word.Word.{Word}
use Rattle.ht_word.specs.declared.shape.Shape.{Shape}
use Rattle.ht_word.specs.Words.{◌·◌, child, root_word, IsLetter, IsLetters, IsWordOf, IsUnder, IsUnderSome}
use Rattle.ht_pair.specs.Bases.{AreApart, IsPrefixFree, longest, Covers, roots_to, roots, IsBasis}
use Rattle.ht_pair.specs.Merges.{each_to}
use Rattle.ht_pair.proofs.Sequences.{IsEach, each_hold, each_of}
use Rattle.ht_word.proofs.WordLaws.{word_eq, after-append, after-nil, after_cancel, under_refl, under_after, under_trans, under_same, under_both, word_after, word_front, word_rest, ones, length-ones, ones_letters, All-from_contains, length-after}
use Rattle.ht_word.proofs.ListLaws.{Contains-nil, Contains-here, Contains-there, Contains-cons_cases, same_place, same_element, AllPairs-head, AllPairs-tail, AllPairs-cons, AllPairs-nil, AllPairs-append, AllPairs-left, AllPairs-right, AllPairs-across, Contains-flat_map, contained_in_flat_map}

pub prefix_free_place : (W : List Word) → IsPrefixFree W → (u v : Word) (c : Contains W u) (e : Contains W v) → IsUnder u v → c.0 ≡ e.0
prefix_free_place W free u v c e h = same_place AreApart W free u v c e (λ k. k.0 h) (λ k. k.1 h)

pub prefix_free_same : (W : List Word) → IsPrefixFree W → (u v : Word) → Contains W u → Contains W v → IsUnder u v → u ≡ v
prefix_free_same W free u v c e h = same_element AreApart W free u v c e (λ k. k.0 h) (λ k. k.1 h)

pub longest_bounds : (W : List Word) (w : Word) → Contains W w → length w.letters ≤ longest W
longest_bounds [] w c = absurd (Contains-nil w c)
longest_bounds (x ∷ W) w c = elim (Contains-cons_cases x W w c) [
  | inl e ↦ omega (arith, ap (λ (u : Word). length u.letters) e)
  | inr h ↦ omega (arith, longest_bounds W w h)
]

pub longest_least : (W : List Word) (k : ℕ) → ((w : Word) → Contains W w → length w.letters ≤ k) → longest W ≤ k
longest_least [] k f = omega arith
longest_least (x ∷ W) k f = omega (arith, f x (Contains-here x W), longest_least W k (λ w c. f w (Contains-there x W w c)))

pub some_at : (W : List Word) (w u : Word) → Contains W w → IsUnder u w → IsUnderSome u W
some_at W w u c h = record { above = w; listed = c; under = h }

pub some_trans : {W : List Word} {u v : Word} → IsUnder u v → IsUnderSome v W → IsUnderSome u W
some_trans h s = record { above = s.above; listed = s.listed; under = under_trans h s.under }

-- the first k letters of a word
pub front : Word → ℕ → Word
front u k = record { root = u.root; letters = take k u.letters }

pub front_is : (u : Word) (k : ℕ) → u ≡ front u k · drop k u.letters
unfolding front
front_is u k = word_eq refl (sym (take-append-drop k u.letters))

pub length-front : (u : Word) (k : ℕ) → k ≤ length u.letters → length (front u k).letters ≡ k
unfolding front
length-front u k l = omega (arith, length-take k u.letters)

-- a prefix of a word that is not longer than its first k letters is a prefix of these
pub under_front : (u w : Word) (k : ℕ) → k ≤ length u.letters → IsUnder u w → length w.letters ≤ k → IsUnder (front u k) w
under_front u w k l h m = elim (under_both {u = front u k} {v = w} {w = u} (record { rest = drop k u.letters; is = front_is u k }) h) [
  | inl g ↦ g
  | inr g ↦ subst (λ t. IsUnder t w) (under_same g (omega (arith, length-front u k l))) (under_refl w)
]

-- covering, at any number of letters that is large enough
pub covers_long : (shape : Shape) (W V : List Word) → Covers shape W V → (u : Word) → IsWordOf shape u → max (longest W) (longest V) ≤ length u.letters → IsUnderSome u W ↔ IsUnderSome u V
covers_long shape W V c u h l =
    let k = max (longest W) (longest V) in
    let f : IsWordOf shape (front u k) = word_front shape (front u k) (drop k u.letters) (subst (IsWordOf shape) (front_is u k) h) in
    let same = c.same (front u k) f (length-front u k l) in
    let up : IsUnder u (front u k) = record { rest = drop k u.letters; is = front_is u k } in (
      (λ s. some_trans up (same.0 (some_at W s.above (front u k) s.listed (under_front u s.above k l s.under (omega (arith, longest_bounds W s.above s.listed)))))),
      (λ s. some_trans up (same.1 (some_at V s.above (front u k) s.listed (under_front u s.above k l s.under (omega (arith, longest_bounds V s.above s.listed)))))),
    )

-- ---- roots

pub roots_hold : (k root : ℕ) → 1 ≤ root → root ≤ k → Contains (roots_to k) (root_word root)
roots_hold zero root low high = absurd (omega arith)
roots_hold (suc k) root low high = elim (last_or k root high) [
  | inl l ↦ Contains-append_left (roots_to k) (root_word (suc k) ∷ []) (root_word root) (roots_hold k root low l)
  | inr e ↦ Contains-append_right (roots_to k) (root_word (suc k) ∷ []) (root_word root) (subst (λ j. Contains (root_word (suc k) ∷ []) (root_word j)) (sym e) (Contains-here (root_word (suc k)) []))
]
  where
    last_or : (k root : ℕ) → root ≤ suc k → (root ≤ k) ⊎ (root ≡ suc k)
    last_or k root l = grind arith

pub longest-roots : (k : ℕ) → longest (roots_to k) ≡ 0
longest-roots k = omega (arith, longest_least (roots_to k) 0 (no_letters k))
  where
    no_letters : (k : ℕ) (w : Word) → Contains (roots_to k) w → length w.letters ≤ 0
    no_letters zero w c = absurd (Contains-nil w c)
    no_letters (suc k) w c = elim (Contains-append_cases (roots_to k) (root_word (suc k) ∷ []) w c) [
      | inl h ↦ no_letters k w h
      | inr h ↦ elim (Contains-cons_cases (root_word (suc k)) [] w h) [
        | inl e ↦ omega (arith, ap (λ (u : Word). length u.letters) e)
        | inr n ↦ absurd (Contains-nil w n)
      ]
    ]

-- each word of the shape is under its root
pub under_roots : (shape : Shape) (u : Word) → IsWordOf shape u → IsUnderSome u (roots shape)
under_roots shape u h = some_at (roots shape) (root_word u.root) u (roots_hold shape.r u.root h.root_low h.root_high) (record { rest = u.letters; is = refl })

-- ---- bases

-- in a basis each long enough word is under some word
pub basis_holds : (shape : Shape) (X : List Word) → IsBasis shape X → (u : Word) → IsWordOf shape u → longest X ≤ length u.letters → IsUnderSome u X
basis_holds shape X b u h l = (covers_long shape X (roots shape) b u h (omega (arith, longest-roots shape.r))).1 (under_roots shape u h)

-- and under one only
pub basis_single : (shape : Shape) (X : List Word) → IsBasis shape X → (u x y : Word) → Contains X x → Contains X y → IsUnder u x → IsUnder u y → x ≡ y
basis_single shape X b u x y c e h g = elim (under_both h g) [
  | inl k ↦ prefix_free_same X b.prefix_free x y c e k
  | inr k ↦ sym (prefix_free_same X b.prefix_free y x e c k)
]

pub basis_word : (shape : Shape) (X : List Word) → IsBasis shape X → (x : Word) → Contains X x → IsWordOf shape x
basis_word shape X b x c = All-contains (IsWordOf shape) X x b.words c

-- a word with no fewer letters than each word of W is under one where it is so with more letters
pub some_shorter : (W : List Word) (u : Word) (z : List ℕ) → longest W ≤ length u.letters → IsUnderSome (u · z) W → IsUnderSome u W
some_shorter W u z l s = some_at W s.above u s.listed (elim (under_both (under_after u z) s.under) [
  | inl g ↦ g
  | inr g ↦ subst (λ t. IsUnder t s.above) (under_same g (omega (arith, longest_bounds W s.above s.listed))) (under_refl s.above)
])

-- a prefix-free list of words of the shape covers V where the words from some length on that are under it are those under V
pub covers_from : (shape : Shape) (W V : List Word) → All (IsWordOf shape) W → IsPrefixFree W → (k : ℕ) → ((u : Word) → IsWordOf shape u → k ≤ length u.letters → IsUnderSome u W ↔ IsUnderSome u V) → Covers shape W V
covers_from shape W V words free k long = record {
  words = words;
  prefix_free = free;
  same = λ u h l.
      let same = long (u · ones k) (word_after shape u (ones k) h (ones_letters shape k)) (omega (arith, length-after u (ones k), length-ones k)) in (
        (λ s. some_shorter V u (ones k) (omega arith) (same.0 (some_trans (under_after u (ones k)) s))),
        (λ s. some_shorter W u (ones k) (omega arith) (same.1 (some_trans (under_after u (ones k)) s))),
      );
}

-- it is a basis where each word from some length on is under it
pub basis_from : (shape : Shape) (X : List Word) → All (IsWordOf shape) X → IsPrefixFree X → (k : ℕ) → ((u : Word) → IsWordOf shape u → k ≤ length u.letters → IsUnderSome u X) → IsBasis shape X
basis_from shape X words free k long = covers_from shape X (roots shape) words free k (λ u h l. ((λ s. under_roots shape u h), (λ s. long u h l)))

-- ---- the roots are a basis

pub root_at_most : (k : ℕ) (w : Word) → Contains (roots_to k) w → (1 ≤ w.root) × (w.root ≤ k) × (w ≡ root_word w.root)
root_at_most zero w c = absurd (Contains-nil w c)
root_at_most (suc k) w c = elim (Contains-append_cases (roots_to k) (root_word (suc k) ∷ []) w c) [
  | inl h ↦ (let g = root_at_most k w h in (g.0, omega (arith, g.1), g.2))
  | inr h ↦ elim (Contains-cons_cases (root_word (suc k)) [] w h) [
    | inl e ↦ (omega (arith, ap (λ (u : Word). u.root) e), omega (arith, ap (λ (u : Word). u.root) e), sym e ∙ ap (λ (u : Word). root_word u.root) e)
    | inr n ↦ absurd (Contains-nil w n)
  ]
]

roots_apart : (k : ℕ) → IsPrefixFree (roots_to k)
roots_apart zero = AllPairs-nil AreApart
roots_apart (suc k) = AllPairs-append AreApart (roots_to k) (root_word (suc k) ∷ []) (roots_apart k) (AllPairs-cons AreApart (root_word (suc k)) [] (λ i d l. absurd (omega arith)) (AllPairs-nil AreApart))
    (λ x y c e. elim (Contains-cons_cases (root_word (suc k)) [] y e) [
      | inl h ↦ (let g = root_at_most k x c in (
        (λ n. absurd (omega (arith, g.1, ap (λ (u : Word). u.root) n.is, ap (λ (u : Word). u.root) h))),
        (λ n. absurd (omega (arith, g.1, ap (λ (u : Word). u.root) n.is, ap (λ (u : Word). u.root) h))),
      ))
      | inr n ↦ absurd (Contains-nil y n)
    ])

pub roots_basis : (shape : Shape) → IsBasis shape (roots shape)
roots_basis shape = basis_from shape (roots shape)
    (All-from_contains (IsWordOf shape) (roots shape) (λ w c. let g = root_at_most shape.r w c in record { root_low = g.0; root_high = g.1; letters = subst (λ (u : Word). IsLetters shape u.letters) (sym g.2) (λ k d l. absurd (omega arith)) }))
    (roots_apart shape.r) 0 (λ u h l. under_roots shape u h)

-- ---- expansions

-- the children of a word by the letters 1 to k
abbrev pub children_to : Word → ℕ → List Word
children_to u k = each_to (child u) k

pub children_hold : (u : Word) (k a : ℕ) → 1 ≤ a → a ≤ k → Contains (children_to u k) (child u a)
children_hold u k a low high = each_hold (child u) k a low high

pub child_of : (u : Word) (k : ℕ) (w : Word) → Contains (children_to u k) w → IsEach (child u) k w
child_of u k w c = each_of (child u) k w c

-- two children of one word, one under the other, are by one letter
child_letter : (u : Word) (a b : ℕ) (x y : Word) → x ≡ child u a → y ≡ child u b → IsUnder x y → a ≡ b
child_letter u a b x y e f h =
    let same : a ∷ [] ≡ b ∷ h.rest = after_cancel u (a ∷ []) (b ∷ h.rest) (sym e ∙ h.is ∙ ap (λ (w : Word). w · h.rest) f ∙ after-append u (b ∷ []) h.rest) in
    cc

pub children_apart : (u : Word) (k : ℕ) → IsPrefixFree (children_to u k)
children_apart u zero = AllPairs-nil AreApart
children_apart u (suc k) = AllPairs-append AreApart (children_to u k) (child u (suc k) ∷ []) (children_apart u k) (AllPairs-cons AreApart (child u (suc k)) [] (λ i d l. absurd (omega arith)) (AllPairs-nil AreApart))
    (λ x y c e. elim (Contains-cons_cases (child u (suc k)) [] y e) [
      | inl h ↦ (let g = child_of u k x c in (
        (λ n. absurd (omega (arith, g.high, child_letter u g.letter (suc k) x y g.is (sym h) n))),
        (λ n. absurd (omega (arith, g.high, child_letter u (suc k) g.letter y x (sym h) g.is n))),
      ))
      | inr n ↦ absurd (Contains-nil y n)
    ])

-- words under two words that are apart are apart
pub apart_under : {u v x y : Word} → AreApart x y → IsUnder u x → IsUnder v y → AreApart u v
apart_under {u} {v} {x} {y} h f g = (
  λ k. elim (under_both f (under_trans k g)) [ inl m ↦ h.0 m | inr m ↦ h.1 m ],
  λ k. elim (under_both (under_trans k f) g) [ inl m ↦ h.0 m | inr m ↦ h.1 m ],
)

pub child_under : (u : Word) (k : ℕ) (w : Word) → Contains (children_to u k) w → IsUnder w u
child_under u k w c = let g = child_of u k w c in record { rest = g.letter ∷ []; is = g.is }

pub child_word : (shape : Shape) (u w : Word) → IsWordOf shape u → Contains (children_to u shape.n) w → IsWordOf shape w
child_word shape u w h c = let g = child_of u shape.n w c in
    subst (IsWordOf shape) (sym g.is) (word_after shape u (g.letter ∷ []) h (All-cons (IsLetter shape) g.letter [] (g.low, g.high) (All-nil (IsLetter shape))))

-- a word under u and longer is under a child of u
pub child_above : (shape : Shape) (u w : Word) → IsWordOf shape w → IsUnder w u → length u.letters < length w.letters → IsUnderSome w (children_to u shape.n)
child_above shape u w h under l = by under.rest under.is
  where
    by : (z : List ℕ) → w ≡ u · z → IsUnderSome w (children_to u shape.n)
    by [] e = absurd (omega (arith, ap (λ (t : Word). length t.letters) (e ∙ after-nil u)))
    by (a ∷ z) e =
        let letter : IsLetter shape a = All-head (IsLetter shape) a z (word_rest shape u (a ∷ z) (subst (IsWordOf shape) e h)) in
        some_at (children_to u shape.n) (child u a) w (children_hold u shape.n a letter.0 letter.1) (record { rest = z; is = e ∙ sym (after-append u (a ∷ []) z) })

expanded_apart : (A B : List Word) (x : Word) (k : ℕ) → IsPrefixFree (A ++ x ∷ B) → IsPrefixFree (A ++ children_to x k ++ B)
expanded_apart A B x k free =
    let rest = AllPairs-right AreApart A (x ∷ B) free in
    let before_B : (a y : Word) → Contains A a → Contains B y → AreApart a y = λ a y c e. AllPairs-across AreApart A (x ∷ B) free a y c (Contains-there x B y e) in
    AllPairs-append AreApart (A ++ children_to x k) B
    (AllPairs-append AreApart A (children_to x k) (AllPairs-left AreApart A (x ∷ B) free) (children_apart x k)
    (λ a y c e. apart_under (AllPairs-across AreApart A (x ∷ B) free a x c (Contains-here x B)) (under_refl a) (child_under x k y e)))
    (AllPairs-tail AreApart x B rest)
    (λ a y c e. elim (Contains-append_cases A (children_to x k) a c) [
      | inl m ↦ before_B a y m e
      | inr m ↦ apart_under (All-contains (AreApart x) B y (AllPairs-head AreApart x B rest) e) (child_under x k a m) (under_refl y)
    ])

-- replacing a word of a basis by its n children gives a basis
pub basis_expanded : (shape : Shape) (A B : List Word) (x : Word) → IsBasis shape (A ++ x ∷ B) → IsBasis shape (A ++ children_to x shape.n ++ B)
basis_expanded shape A B x b =
    let C = children_to x shape.n in
    let here : Contains (A ++ x ∷ B) x = Contains-append_right A (x ∷ B) x (Contains-here x B) in
    basis_from shape (A ++ C ++ B)
    (All-from_contains (IsWordOf shape) (A ++ C ++ B) (λ w c. elim (Contains-append_cases (A ++ C) B w c) [
      | inl h ↦ elim (Contains-append_cases A C w h) [
        | inl k ↦ basis_word shape (A ++ x ∷ B) b w (Contains-append_left A (x ∷ B) w k)
        | inr k ↦ child_word shape x w (basis_word shape (A ++ x ∷ B) b x here) k
      ]
      | inr h ↦ basis_word shape (A ++ x ∷ B) b w (Contains-append_right A (x ∷ B) w (Contains-there x B w h))
    ]))
    (expanded_apart A B x shape.n b.prefix_free)
    (suc (longest (A ++ x ∷ B)))
    (λ u h l. let s = basis_holds shape (A ++ x ∷ B) b u h (omega arith) in
    elim (Contains-append_cases A (x ∷ B) s.above s.listed) [
      | inl k ↦ some_at (A ++ C ++ B) s.above u (Contains-append_left (A ++ C) B s.above (Contains-append_left A C s.above k)) s.under
      | inr k ↦ elim (Contains-cons_cases x B s.above k) [
        | inl e ↦ (let under : IsUnder u x = subst (λ t. IsUnder u t) (sym e) s.under in
            let longer : length x.letters ≤ longest (A ++ x ∷ B) = longest_bounds (A ++ x ∷ B) x here in
            let t = child_above shape x u h under (omega arith) in
            some_at (A ++ C ++ B) t.above u (Contains-append_left (A ++ C) B t.above (Contains-append_right A C t.above t.listed)) t.under)
        | inr m ↦ some_at (A ++ C ++ B) s.above u (Contains-append_right (A ++ C) B s.above m) s.under
      ]
    ])

-- each word of a list by its children
abbrev pub expand_all : Shape → List Word → List Word
expand_all shape X = flat_map (λ x. children_to x shape.n) X

all_apart : (X : List Word) (k : ℕ) → IsPrefixFree X → IsPrefixFree (flat_map (λ x. children_to x k) X)
all_apart [] k free = AllPairs-nil AreApart
all_apart (x ∷ X) k free = AllPairs-append AreApart (children_to x k) (flat_map (λ w. children_to w k) X) (children_apart x k) (all_apart X k (AllPairs-tail AreApart x X free))
    (λ u v c e. let g = contained_in_flat_map (λ w. children_to w k) X v e in
    apart_under (All-contains (AreApart x) X g.0 (AllPairs-head AreApart x X free) g.1) (child_under x k u c) (child_under g.0 k v g.2))

pub all_expanded : (shape : Shape) (X : List Word) → IsBasis shape X → IsBasis shape (expand_all shape X)
all_expanded shape X b = basis_from shape (expand_all shape X)
    (All-from_contains (IsWordOf shape) (expand_all shape X) (λ w c. let g = contained_in_flat_map (λ x. children_to x shape.n) X w c in child_word shape g.0 w (basis_word shape X b g.0 g.1) g.2))
    (all_apart X shape.n b.prefix_free)
    (suc (longest X))
    (λ u h l. let s = basis_holds shape X b u h (omega arith) in
    let shorter = longest_bounds X s.above s.listed in
    let t = child_above shape s.above u h s.under (omega arith) in
    some_at (expand_all shape X) t.above u (Contains-flat_map (λ x. children_to x shape.n) X s.above t.above s.listed t.listed) t.under)

-- all words of k letters
abbrev pub words_of : Shape → ℕ → List Word
words_of shape zero = roots shape
words_of shape (suc k) = expand_all shape (words_of shape k)

pub words_of_basis : (shape : Shape) (k : ℕ) → IsBasis shape (words_of shape k)
words_of_basis shape zero = roots_basis shape
words_of_basis shape (suc k) = all_expanded shape (words_of shape k) (words_of_basis shape k)

pub words_of_length : (shape : Shape) (k : ℕ) (w : Word) → Contains (words_of shape k) w → length w.letters ≡ k
words_of_length shape zero w c = omega (arith, longest-roots shape.r, longest_bounds (roots shape) w c)
words_of_length shape (suc k) w c =
    let g = contained_in_flat_map (λ x. children_to x shape.n) (words_of shape k) w c in
    let h = child_of g.0 shape.n w g.2 in
    let e = words_of_length shape k g.0 g.1 in
    omega (arith, e, ap (λ (t : Word). length t.letters) h.is, length-after g.0 (h.letter ∷ []))
