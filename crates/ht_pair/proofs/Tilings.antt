-- The tilings are the bases in ascending order.
use Rattle.std.proofs.Common.{◌≡◌, ℕ, suc, ◌≤◌, ◌<◌, inl, inr, List, [], ◌∷◌, length, refl, sym, subst, arith, All, AllPairs, Less}
use Rattle.std.proofs.lemmas.List.Elements.{All-head, All-tail, All-nil, All-cons, All-weaker, All-contains}
use Rattle.ht_word.specs.declared.word.Word.{Word}
use Rattle.ht_word.specs.declared.shape.Shape.{Shape}
use Rattle.ht_word.specs.Words.{◌·◌, root_word, word_cmp, IsLetter, IsLetters, IsWordOf, IsUnder, IsUnderSome, IsAscending}
use Rattle.ht_word.proofs.WordLaws.{after-nil, length-after, word_after, ones, length-ones, ones_letters}
use Rattle.ht_word.proofs.ListLaws.{Contains-nil, Contains-here, Contains-there, Contains-cons_cases, AllPairs-nil, AllPairs-cons, AllPairs-head, AllPairs-tail, AllPairs-weaker}
use Rattle.ht_pair.specs.Bases.{AreApart, longest, IsBasis}
use Rattle.ht_pair.specs.Tilings.{NextPath, Follows, TilesBehind, IsTiling}
use Rattle.ht_pair.proofs.BasisLaws.{some_at, basis_holds, basis_from}
use Rattle.ht_pair.proofs.ConeOrder.{IsBelow, IsBefore, before_trans, before_extended, before_less, before_apart, before_from, before_or, follows_before, none_between}

-- ---- a tiling is a basis

-- each word is behind the word that the tiling goes on from
all_behind : (shape : Shape) (u : Word) (W : List Word) → TilesBehind shape u W → All (IsBefore u) W
all_behind shape u [] h = All-nil (IsBefore u)
all_behind shape u (v ∷ W) h =
    let step = follows_before shape u v h.0 in
    All-cons (IsBefore u) v W step (All-weaker (IsBefore v) (IsBefore u) (λ w. before_trans u v w step) W (all_behind shape v W h.1))

-- and behind all words that stand before it
one_behind_other : (shape : Shape) (u : Word) (W : List Word) → TilesBehind shape u W → AllPairs IsBefore W
one_behind_other shape u [] h = AllPairs-nil IsBefore
one_behind_other shape u (v ∷ W) h = AllPairs-cons IsBefore v W (all_behind shape v W h.1) (one_behind_other shape v W h.1)

-- a long word behind u is under the first word that isn't before it
tile_above : (shape : Shape) (u : Word) (W : List Word) → TilesBehind shape u W → (w : Word) → IsWordOf shape w → longest W ≤ length w.letters → IsBefore u w → IsUnderSome w W
tile_above shape u [] h w word long after = absurd (none_between shape u (root_word (suc shape.r)) w word h after (inl (omega (arith, word.root_high))))
tile_above shape u (v ∷ W) h w word long after = elim (before_or w v (omega arith)) [
  | inl k ↦ elim k [ inl b ↦ absurd (none_between shape u v w word h.0 after b) | inr under ↦ some_at (v ∷ W) v w (Contains-here v W) under ]
  | inr b ↦ (let s = tile_above shape v W h.1 w word (omega arith) b in some_at (v ∷ W) s.above w (Contains-there v W s.above s.listed) s.under)
]

-- the words of a tiling are a basis in ascending order
pub tiling_basis : (shape : Shape) (W : List Word) → All (IsWordOf shape) W → IsTiling shape W → IsBasis shape W × IsAscending W
tiling_basis shape W words h =
    let order = one_behind_other shape (root_word 0) W h in (
      basis_from shape W words (AllPairs-weaker IsBefore AreApart W order (λ u v c e. before_apart u v)) (longest W) (λ u word long. tile_above shape (root_word 0) W h u word long (inl word.root_low)),
      AllPairs-weaker IsBefore (λ u v. word_cmp u v ≡ Less) W order (λ u v c e. before_less u v),
    )

-- ---- a basis in ascending order is a tiling

-- no list is below the empty one
not_below_nil : (s : List ℕ) → ¬ IsBelow s []
not_below_nil [] h = h
not_below_nil (a ∷ s) h = h

-- a number that is no more than another one, and no less, is that one
reached : (a b : ℕ) → a ≤ b → ¬ (a < b) → a ≡ b
reached a b l h = grind arith

-- letters that are below no letters are the last letter only
last_from : (shape : Shape) (s : List ℕ) → IsLetters shape s → ((y : List ℕ) → IsLetters shape y → ¬ IsBelow s y) → All (λ c. c ≡ shape.n) s
last_from shape [] letters none = All-nil (λ c. c ≡ shape.n)
last_from shape (a ∷ s) letters none =
    let letter = All-head (IsLetter shape) a s letters in
    All-cons (λ c. c ≡ shape.n) a s
    (reached a shape.n letter.1 (λ l. none (shape.n ∷ []) (All-cons (IsLetter shape) shape.n [] (omega (arith, letter.0), omega arith) (All-nil (IsLetter shape))) (inl l)))
    (last_from shape s (All-tail (IsLetter shape) a s letters) (λ y h k. none (a ∷ y) (All-cons (IsLetter shape) a y letter h) (inr (refl, k))))

-- and letters that no letters are below are the first letter only
first_from : (shape : Shape) (t : List ℕ) → IsLetters shape t → ((y : List ℕ) → IsLetters shape y → ¬ IsBelow y t) → All (λ c. c ≡ 1) t
first_from shape [] letters none = All-nil (λ c. c ≡ 1)
first_from shape (a ∷ t) letters none =
    let letter = All-head (IsLetter shape) a t letters in
    All-cons (λ c. c ≡ 1) a t
    (sym (reached 1 a letter.0 (λ l. none (1 ∷ []) (All-cons (IsLetter shape) 1 [] (omega arith, omega (arith, letter.1)) (All-nil (IsLetter shape))) (inl l))))
    (first_from shape t (All-tail (IsLetter shape) a t letters) (λ y h k. none (a ∷ y) (All-cons (IsLetter shape) a y letter h) (inr (refl, k))))

-- a list below another one is next to it where nothing lies between;
-- the first entries are from 1 to `high`, or beside these with no letters behind
next_from : (shape : Shape) (high a b : ℕ) (s t : List ℕ) → IsLetters shape s → IsLetters shape t → ((y : List ℕ) → IsBelow s y → 1 ≤ a) → ((y : List ℕ) → IsBelow y t → b ≤ high) → b ≤ suc high
    → ((c : ℕ) (y : List ℕ) → 1 ≤ c → c ≤ high → IsLetters shape y → IsBelow (a ∷ s) (c ∷ y) → ¬ IsBelow (c ∷ y) (b ∷ t)) → IsBelow (a ∷ s) (b ∷ t) → NextPath shape.n (a ∷ s) (b ∷ t)
next_from shape high a b [] t hs ht opens closes beside none (inr h) = absurd h.1
next_from shape high a b (c ∷ s) [] hs ht opens closes beside none (inr h) = absurd h.1
next_from shape high a b (c ∷ s) (d ∷ t) hs ht opens closes beside none (inr h) =
    let first = All-head (IsLetter shape) c s hs in
    let second = All-head (IsLetter shape) d t ht in
    inl (
      h.0,
      next_from shape shape.n c d s t (All-tail (IsLetter shape) c s hs) (All-tail (IsLetter shape) d t ht) (λ y k. first.0) (λ y k. second.1) (omega (arith, second.1))
          (λ e y low top letters above below. none a (e ∷ y) (opens (d ∷ t) h.1) (omega (arith, h.0, closes (c ∷ s) h.1)) (All-cons (IsLetter shape) e y (low, top) letters) (inr (refl, above)) (inr (h.0, below)))
          h.1,
    )
next_from shape high a b s t hs ht opens closes beside none (inl l) = inr (
  reached (suc a) b l (λ far. none (suc a) [] (omega arith) (omega arith) (All-nil (IsLetter shape)) (inl (omega arith)) (inl far)),
  last_from shape s hs (λ y letters k. none a y (opens y k) (omega arith) letters (inr (refl, k)) (inl l)),
  first_from shape t ht (λ y letters k. none b y (omega arith) (closes y k) letters (inl l) (inr (refl, k))),
)

-- a word of the shape, or the root 0: what a tiling goes on from
record IsStart (shape : Shape) (u : Word) : Type 0 where
  letters : IsLetters shape u.letters
  high : u.root ≤ shape.r
  opens : (y : List ℕ) → IsBelow u.letters y → 1 ≤ u.root

-- a word before another one is followed by it where no cone of k letters or more lies between
follows_from : (shape : Shape) (k : ℕ) (u v : Word) → IsStart shape u → IsLetters shape v.letters → ((y : List ℕ) → IsBelow y v.letters → v.root ≤ shape.r) → v.root ≤ suc shape.r
    → ((w : Word) → IsWordOf shape w → k ≤ length w.letters → IsBefore u w → ¬ IsBefore w v) → IsBefore u v → Follows shape u v
follows_from shape k u v start letters closes beside none = next_from shape shape.r u.root v.root u.letters v.letters start.letters letters start.opens closes beside
    (λ c y low high rest above below.
    let w : Word = record { root = c; letters = y } in
    none (w · ones k) (word_after shape w (ones k) (record { root_low = low; root_high = high; letters = rest }) (ones_letters shape k)) (omega (arith, length-after w (ones k), length-ones k))
    (subst (λ t. IsBefore t (w · ones k)) (after-nil u) (before_extended u w [] (ones k) above))
    (subst (IsBefore (w · ones k)) (after-nil v) (before_extended w v (ones k) [] below)))

-- words in order, over each long word behind u, go on from u as a tiling does
tiles_from : (shape : Shape) (k : ℕ) (u : Word) (W : List Word) → IsStart shape u → All (IsWordOf shape) W → AllPairs IsBefore (u ∷ W) → ((w : Word) → IsWordOf shape w → k ≤ length w.letters → IsBefore u w → IsUnderSome w W) → TilesBehind shape u W
tiles_from shape k u [] start words order tile =
    follows_from shape k u (root_word (suc shape.r)) start (All-nil (IsLetter shape)) (λ y h. absurd (not_below_nil y h)) (omega arith)
    (λ w word long after before. Contains-nil _ (tile w word long after).listed) (inl (omega (arith, start.high)))
tiles_from shape k u (v ∷ W) start words order tile =
    let word = All-head (IsWordOf shape) v W words in
    let step = All-head (IsBefore u) v W (AllPairs-head IsBefore u (v ∷ W) order) in
    let rest = AllPairs-tail IsBefore u (v ∷ W) order in
    let under_rest : (w : Word) → ¬ IsUnder w v → IsUnderSome w (v ∷ W) → IsUnderSome w W = λ w apart s. elim (Contains-cons_cases v W s.above s.listed) [
      | inl e ↦ absurd (apart (subst (IsUnder w) (sym e) s.under))
      | inr c ↦ some_at W s.above w c s.under
    ] in (
      follows_from shape k u v start word.letters (λ y h. word.root_high) (omega (arith, word.root_high))
          (λ w is_word long after before.
          let s = under_rest w (before_apart w v before).0 (tile w is_word long after) in
          (before_apart w s.above (before_trans w v s.above before (All-contains (IsBefore v) W s.above (AllPairs-head IsBefore v W rest) s.listed))).0 s.under)
          step,
      tiles_from shape k v W (record { letters = word.letters; high = word.root_high; opens = λ y h. word.root_low }) (All-tail (IsWordOf shape) v W words) rest
          (λ w is_word long after. under_rest w (before_apart v w after).1 (tile w is_word long (before_trans u v w step after))),
    )

-- and a basis in ascending order is a tiling
pub basis_tiling : (shape : Shape) (W : List Word) → IsBasis shape W → IsAscending W → IsTiling shape W
basis_tiling shape W basis ascending = tiles_from shape (longest W) (root_word 0) W
    (record { letters = All-nil (IsLetter shape); high = omega arith; opens = λ y h. absurd h })
    basis.words
    (AllPairs-cons IsBefore (root_word 0) W (All-weaker (IsWordOf shape) (IsBefore (root_word 0)) (λ w word. inl word.root_low) W basis.words)
    (λ i j d l m. before_from _ _ (ascending i j d l m) (basis.prefix_free i j d l m)))
    (λ w word long after. basis_holds shape W basis w word long)
