-- The n children of a word in a cover may be replaced by the word: the other way round than an expansion.
use Rattle.std.proofs.Common.{◌≡◌, ℕ, ◌≤◌, ◌<◌, ◌⊎◌, inl, inr, max, List, [], ◌∷◌, ◌++◌, length, sym, subst, arith, All, Contains}
use Rattle.std.proofs.lemmas.List.Elements.{All-contains, Contains-append_left, Contains-append_right, Contains-append_cases}
use Rattle.ht_word.specs.declared.word.Word.{Word}
use Rattle.ht_word.specs.declared.shape.Shape.{Shape}
use Rattle.ht_word.specs.Words.{child, IsWordOf, IsUnder, IsUnderSome}
use Rattle.ht_pair.specs.Bases.{AreApart, IsPrefixFree, longest, roots, Covers, IsBasis}
use Rattle.ht_word.proofs.WordLaws.{under_after, under_trans, under_same, word_front, length-after, All-from_contains}
use Rattle.ht_word.proofs.ListLaws.{Contains-here, Contains-there, Contains-cons_cases, AllPairs-left, AllPairs-right, AllPairs-across, AllPairs-cons, AllPairs-append}
use Rattle.ht_pair.proofs.BasisLaws.{children_to, children_hold, child_above, child_under, some_at, longest_bounds, covers_long, covers_from}

shorter_or : (i j : ℕ) → (i ≤ j) ⊎ (j < i)
shorter_or i j = grind arith

-- a word that is apart from each child of x is apart from x
apart_parent : (shape : Shape) (x y : Word) → IsWordOf shape y → ((w : Word) → Contains (children_to x shape.n) w → AreApart y w) → AreApart y x
apart_parent shape x y h apart =
    let first = children_hold x shape.n 1 (omega arith) (omega (arith, shape.letters_low)) in
    let down : IsUnder (child x 1) x = under_after x (1 ∷ []) in (
      λ k. elim (shorter_or (length y.letters) (length x.letters)) [
        | inl l ↦ (apart (child x 1) first).1 (subst (λ t. IsUnder (child x 1) t) (sym (under_same k l)) down)
        | inr l ↦ (let s = child_above shape x y h k l in (apart s.above s.listed).0 s.under)
      ],
      λ k. (apart (child x 1) first).1 (under_trans down k),
    )

turned_round : {x y : Word} → AreApart x y → AreApart y x
turned_round h = (h.1, h.0)

-- an entry of a list where x stands for the entries K is x or an entry of the list with K
pub in_merged : {T : Type 0} (A K B : List T) (x t : T) → Contains (A ++ x ∷ B) t → (x ≡ t) ⊎ Contains (A ++ K ++ B) t
in_merged A K B x t c = elim (Contains-append_cases A (x ∷ B) t c) [
  | inl a ↦ inr (Contains-append_left (A ++ K) B t (Contains-append_left A K t a))
  | inr k ↦ elim (Contains-cons_cases x B t k) [ inl e ↦ inl e | inr b ↦ inr (Contains-append_right (A ++ K) B t b) ]
]

pub first_child : (shape : Shape) (A B : List Word) (x : Word) → Contains (A ++ children_to x shape.n ++ B) (child x 1)
first_child shape A B x =
    Contains-append_left (A ++ children_to x shape.n) B (child x 1) (Contains-append_right A (children_to x shape.n) (child x 1) (children_hold x shape.n 1 (omega arith) (omega (arith, shape.letters_low))))

-- the words are of the shape and stay so
pub words_merged : (shape : Shape) (A B : List Word) (x : Word) → All (IsWordOf shape) (A ++ children_to x shape.n ++ B) → All (IsWordOf shape) (A ++ x ∷ B)
words_merged shape A B x words =
    let W = A ++ children_to x shape.n ++ B in
    All-from_contains (IsWordOf shape) (A ++ x ∷ B) (λ w c. elim (in_merged A (children_to x shape.n) B x w c) [
      | inl e ↦ subst (IsWordOf shape) e (word_front shape x (1 ∷ []) (All-contains (IsWordOf shape) W (child x 1) words (first_child shape A B x)))
      | inr h ↦ All-contains (IsWordOf shape) W w words h
    ])

-- they are apart and stay so
pub free_merged : (shape : Shape) (A B : List Word) (x : Word) → All (IsWordOf shape) (A ++ children_to x shape.n ++ B) → IsPrefixFree (A ++ children_to x shape.n ++ B) → IsPrefixFree (A ++ x ∷ B)
free_merged shape A B x words free =
    let K = children_to x shape.n in
    let front = AllPairs-left AreApart (A ++ K) B free in
    let word : (w : Word) → Contains (A ++ K ++ B) w → IsWordOf shape w = λ w c. All-contains (IsWordOf shape) (A ++ K ++ B) w words c in
    let in_A : (w : Word) → Contains A w → Contains (A ++ K ++ B) w = λ w c. Contains-append_left (A ++ K) B w (Contains-append_left A K w c) in
    let in_B : (w : Word) → Contains B w → Contains (A ++ K ++ B) w = λ w c. Contains-append_right (A ++ K) B w c in
    let a_x : (a : Word) → Contains A a → AreApart a x = λ a c. apart_parent shape x a (word a (in_A a c)) (λ w d. AllPairs-across AreApart A K front a w c d) in
    let x_b : (y : Word) → Contains B y → AreApart x y = λ y c. turned_round (apart_parent shape x y (word y (in_B y c)) (λ w d. turned_round (AllPairs-across AreApart (A ++ K) B free w y (Contains-append_right A K w d) c))) in
    AllPairs-append AreApart A (x ∷ B) (AllPairs-left AreApart A K front)
    (AllPairs-cons AreApart x B (All-from_contains (AreApart x) B x_b) (AllPairs-right AreApart (A ++ K) B free))
    (λ a y c d. elim (Contains-cons_cases x B y d) [
      | inl e ↦ subst (AreApart a) e (a_x a c)
      | inr m ↦ AllPairs-across AreApart (A ++ K) B free a y (Contains-append_left A K a c) m
    ])

-- what is under the list with the children is under the one with their parent
under_merged : (shape : Shape) (A B : List Word) (x u : Word) → IsUnderSome u (A ++ children_to x shape.n ++ B) → IsUnderSome u (A ++ x ∷ B)
under_merged shape A B x u s = elim (Contains-append_cases (A ++ children_to x shape.n) B s.above s.listed) [
  | inr m ↦ some_at (A ++ x ∷ B) s.above u (Contains-append_right A (x ∷ B) s.above (Contains-there x B s.above m)) s.under
  | inl k ↦ elim (Contains-append_cases A (children_to x shape.n) s.above k) [
    | inl a ↦ some_at (A ++ x ∷ B) s.above u (Contains-append_left A (x ∷ B) s.above a) s.under
    | inr c ↦ some_at (A ++ x ∷ B) x u (Contains-append_right A (x ∷ B) x (Contains-here x B)) (under_trans s.under (child_under x shape.n s.above c))
  ]
]

-- and the other way round, for a word with more letters than the parent
under_unmerged : (shape : Shape) (A B : List Word) (x u : Word) → IsWordOf shape u → length x.letters < length u.letters → IsUnderSome u (A ++ x ∷ B) → IsUnderSome u (A ++ children_to x shape.n ++ B)
under_unmerged shape A B x u h l s =
    let K = children_to x shape.n in
    elim (in_merged A K B x s.above s.listed) [
      | inr c ↦ some_at (A ++ K ++ B) s.above u c s.under
      | inl e ↦ (let g = child_above shape x u h (subst (IsUnder u) (sym e) s.under) l in some_at (A ++ K ++ B) g.above u (Contains-append_left (A ++ K) B g.above (Contains-append_right A K g.above g.listed)) g.under)
    ]

-- a cover stays one
pub covers_merged : (shape : Shape) (A B V : List Word) (x : Word) → Covers shape (A ++ children_to x shape.n ++ B) V → Covers shape (A ++ x ∷ B) V
covers_merged shape A B V x h =
    let W = A ++ children_to x shape.n ++ B in
    covers_from shape (A ++ x ∷ B) V (words_merged shape A B x h.words) (free_merged shape A B x h.words h.prefix_free)
    (max (longest W) (longest V))
    (λ u word l.
    let same = covers_long shape W V h u word l in
    let longer : length x.letters < length u.letters = omega (arith, longest_bounds W (child x 1) (first_child shape A B x), length-after x (1 ∷ [])) in (
      (λ s. same.0 (under_unmerged shape A B x u word longer s)),
      (λ s. under_merged shape A B x u (same.1 s)),
    ))

pub basis_merged : (shape : Shape) (A B : List Word) (x : Word) → IsBasis shape (A ++ children_to x shape.n ++ B) → IsBasis shape (A ++ x ∷ B)
basis_merged shape A B x b = covers_merged shape A B (roots shape) x b
