-- The order of cones, and what follows a cone with nothing between.
use Rattle.std.proofs.Common.{◌≡◌, ℕ, suc, ◌≤◌, ◌<◌, ◌⊎◌, inl, inr, List, [], ◌∷◌, ◌++◌, length, refl, sym, ap, ◌∙◌, subst, arith, All, AllPairs}
use Rattle.std.proofs.lemmas.List.Elements.{All-head, All-tail, All-nil}
use Rattle.std.specs.Ordering.{nat_cmp, ordering_then}
use Rattle.std.specs.Cmp.{nat_cmp_is}
use Rattle.std.specs.Cmp.Lexicographic.{slice_cmp}
use Rattle.std.specs.declared.cmp.Ordering.TheVariants.{Less, Equal}
use Rattle.ht_word.specs.declared.word.Word.{Word}
use Rattle.ht_word.specs.declared.shape.Shape.{Shape}
use Rattle.ht_word.specs.Words.{◌·◌, child, word_cmp, IsLetter, IsLetters, IsWordOf, IsUnder, IsAscending}
use Rattle.ht_word.proofs.WordLaws.{word_eq, after-nil, under_refl, under_same, word_cmp_once}
use Rattle.ht_word.proofs.ListLaws.{trichotomy}
use Rattle.ht_pair.specs.Bases.{AreApart, IsPrefixFree}
use Rattle.ht_pair.specs.Tilings.{path, NextPath, Follows}

-- the lists part at an entry that is less in the first
abbrev pub IsBelow : List ℕ → List ℕ → Type 0
IsBelow [] t = ⊥
IsBelow (a ∷ s) [] = ⊥
IsBelow (a ∷ s) (b ∷ t) = (a < b) ⊎ ((a ≡ b) × IsBelow s t)

-- all of the cone of u is before the cone of v
abbrev pub IsBefore : Word → Word → Type 0
IsBefore u v = IsBelow (path u) (path v)

-- no list is below itself
below_irreflexive : (s : List ℕ) → ¬ IsBelow s s
below_irreflexive [] h = h
below_irreflexive (a ∷ s) (inl l) = omega arith
below_irreflexive (a ∷ s) (inr h) = below_irreflexive s h.1

-- the order of lists that part is transitive
below_trans : (s t y : List ℕ) → IsBelow s t → IsBelow t y → IsBelow s y
below_trans [] t y h g = absurd h
below_trans (a ∷ s) [] y h g = absurd h
below_trans (a ∷ s) (b ∷ t) [] h g = g
below_trans (a ∷ s) (b ∷ t) (c ∷ y) (inl l) (inl m) = inl (omega arith)
below_trans (a ∷ s) (b ∷ t) (c ∷ y) (inl l) (inr m) = inl (omega arith)
below_trans (a ∷ s) (b ∷ t) (c ∷ y) (inr l) (inl m) = inl (omega arith)
below_trans (a ∷ s) (b ∷ t) (c ∷ y) (inr l) (inr m) = inr (l.0 ∙ m.0, below_trans s t y l.1 m.1)

-- lists that have parted may go on as they like
below_extended : (s t y z : List ℕ) → IsBelow s t → IsBelow (s ++ y) (t ++ z)
below_extended [] t y z h = absurd h
below_extended (a ∷ s) [] y z h = absurd h
below_extended (a ∷ s) (b ∷ t) y z (inl l) = inl l
below_extended (a ∷ s) (b ∷ t) y z (inr h) = inr (h.0, below_extended s t y z h.1)

-- the order entry by entry agrees
below_less : (s t : List ℕ) → IsBelow s t → slice_cmp nat_cmp s t ≡ Less
below_less [] t h = absurd h
below_less (a ∷ s) [] h = absurd h
below_less (a ∷ s) (b ∷ t) (inl l) = ap (λ o. ordering_then o (slice_cmp nat_cmp s t)) (sym (nat_cmp_is a b Less l))
below_less (a ∷ s) (b ∷ t) (inr h) = ap (λ o. ordering_then o (slice_cmp nat_cmp s t)) (sym (nat_cmp_is a b Equal h.0)) ∙ below_less s t h.1

-- of two lists one is below the other, or continues it
below_or : (s t : List ℕ) → (IsBelow s t ⊎ ((z : List ℕ) × (s ≡ t ++ z))) ⊎ (IsBelow t s ⊎ ((z : List ℕ) × (t ≡ s ++ z)))
below_or s [] = inl (inr (s, refl))
below_or [] (b ∷ t) = inr (inr (b ∷ t, refl))
below_or (a ∷ s) (b ∷ t) = elim (trichotomy a b) [
  | inl l ↦ elim l [ inl m ↦ inl (inl (inl m)) | inr m ↦ inr (inl (inl m)) ]
  | inr e ↦ elim (below_or s t) [
    | inl h ↦ elim h [ inl g ↦ inl (inl (inr (e, g))) | inr g ↦ inl (inr (g.0, (let k = g.1 in cc))) ]
    | inr h ↦ elim h [ inl g ↦ inr (inl (inr (sym e, g))) | inr g ↦ inr (inr (g.0, (let k = g.1 in cc))) ]
  ]
]

-- no cone is before itself
pub before_irreflexive : (u : Word) → ¬ IsBefore u u
before_irreflexive u = below_irreflexive (path u)

-- the order of cones is transitive
pub before_trans : (u v w : Word) → IsBefore u v → IsBefore v w → IsBefore u w
before_trans u v w = below_trans (path u) (path v) (path w)

-- what lies in one cone is before what lies in a later one
pub before_extended : (u v : Word) (y z : List ℕ) → IsBefore u v → IsBefore (u · y) (v · z)
before_extended u v y z = below_extended (path u) (path v) y z

-- where a cone is before another one, so is its word
pub before_less : (u v : Word) → IsBefore u v → word_cmp u v ≡ Less
before_less u v = below_less (path u) (path v)

-- and the words are apart
pub before_apart : (u v : Word) → IsBefore u v → AreApart u v
before_apart u v h = (
  λ k. before_irreflexive u (subst (IsBefore u) (sym k.is) (subst (λ t. IsBefore t (v · k.rest)) (after-nil u) (before_extended u v [] k.rest h))),
  λ k. before_irreflexive v (subst (λ t. IsBefore t v) (sym k.is) (subst (IsBefore (u · k.rest)) (after-nil v) (before_extended u v k.rest [] h))),
)

-- of two words one is before the other, or under it
pub parted : (u v : Word) → (IsBefore u v ⊎ IsUnder u v) ⊎ (IsBefore v u ⊎ IsUnder v u)
parted u v = elim (below_or (path u) (path v)) [
  | inl h ↦ inl (elim h [ inl b ↦ inl b | inr c ↦ inr (continued u v c.0 c.1) ])
  | inr h ↦ inr (elim h [ inl b ↦ inl b | inr c ↦ inr (continued v u c.0 c.1) ])
]
  where
    continued : (u v : Word) (z : List ℕ) → path u ≡ path v ++ z → IsUnder u v
    continued u v z e = record { rest = z; is = word_eq (cc) (cc) }

-- the cone of a word that is no shorter than w is before the cone of w, in it or after it
pub before_or : (u w : Word) → length w.letters ≤ length u.letters → (IsBefore u w ⊎ IsUnder u w) ⊎ IsBefore w u
before_or u w l = elim (parted u w) [
  | inl h ↦ inl h
  | inr h ↦ elim h [ inl b ↦ inr b | inr k ↦ inl (inr (subst (IsUnder u) (sym (under_same k l)) (under_refl u))) ]
]

-- words that are apart have cones one before the other
pub apart_before : (u v : Word) → AreApart u v → IsBefore u v ⊎ IsBefore v u
apart_before u v apart = elim (parted u v) [
  | inl h ↦ inl (elim h [ inl b ↦ b | inr k ↦ absurd (apart.0 k) ])
  | inr h ↦ inr (elim h [ inl b ↦ b | inr k ↦ absurd (apart.1 k) ])
]

-- of words that are apart the lesser one has the earlier cone
pub before_from : (u v : Word) → word_cmp u v ≡ Less → AreApart u v → IsBefore u v
before_from u v less apart = elim (apart_before u v apart) [ inl b ↦ b | inr b ↦ absurd (word_cmp_once u v less (before_less v u b)) ]

-- a list is below the next one
next_below : (n : ℕ) (s t : List ℕ) → NextPath n s t → IsBelow s t
next_below n [] t h = absurd h
next_below n (a ∷ s) [] h = absurd h
next_below n (a ∷ s) (b ∷ t) (inl h) = inr (h.0, next_below n s t h.1)
next_below n (a ∷ s) (b ∷ t) (inr h) = inl (omega (arith, h.0))

-- a cone is before the one that follows it
pub follows_before : (shape : Shape) (u v : Word) → Follows shape u v → IsBefore u v
follows_before shape u v = next_below shape.n (path u) (path v)

-- ---- between a word and the next one there is none

-- no letters are above letters n
none_above_last : (shape : Shape) (s y : List ℕ) → All (λ c. c ≡ shape.n) s → IsLetters shape y → ¬ IsBelow s y
none_above_last shape [] y last letters h = h
none_above_last shape (a ∷ s) [] last letters h = h
none_above_last shape (a ∷ s) (b ∷ y) last letters (inl l) = omega (arith, All-head (λ c. c ≡ shape.n) a s last, (All-head (IsLetter shape) b y letters).1)
none_above_last shape (a ∷ s) (b ∷ y) last letters (inr h) = none_above_last shape s y (All-tail (λ c. c ≡ shape.n) a s last) (All-tail (IsLetter shape) b y letters) h.1

-- and none are below letters 1
none_below_first : (shape : Shape) (y t : List ℕ) → All (λ c. c ≡ 1) t → IsLetters shape y → ¬ IsBelow y t
none_below_first shape [] t first letters h = h
none_below_first shape (b ∷ y) [] first letters h = h
none_below_first shape (b ∷ y) (a ∷ t) first letters (inl l) = omega (arith, All-head (λ c. c ≡ 1) a t first, (All-head (IsLetter shape) b y letters).0)
none_below_first shape (b ∷ y) (a ∷ t) first letters (inr h) = none_below_first shape y t (All-tail (λ c. c ≡ 1) a t first) (All-tail (IsLetter shape) b y letters) h.1

-- no path lies between a path and the next one
between : (shape : Shape) (s t : List ℕ) (c : ℕ) (y : List ℕ) → IsLetters shape y → NextPath shape.n s t → IsBelow s (c ∷ y) → IsBelow (c ∷ y) t → ⊥
between shape [] t c y letters h low high = h
between shape (a ∷ s) [] c y letters h low high = h
between shape (a ∷ s) (b ∷ t) c y letters (inl h) (inl l) (inl m) = omega (arith, h.0)
between shape (a ∷ s) (b ∷ t) c y letters (inl h) (inl l) (inr m) = omega (arith, h.0, m.0)
between shape (a ∷ s) (b ∷ t) c y letters (inl h) (inr l) (inl m) = omega (arith, h.0, l.0)
between shape (a ∷ s) (b ∷ t) c [] letters (inl h) (inr l) (inr m) = m.1
between shape (a ∷ s) (b ∷ t) c (d ∷ y) letters (inl h) (inr l) (inr m) = between shape s t d y (All-tail (IsLetter shape) d y letters) h.1 l.1 m.1
between shape (a ∷ s) (b ∷ t) c y letters (inr h) (inl l) (inl m) = omega (arith, h.0)
between shape (a ∷ s) (b ∷ t) c y letters (inr h) (inl l) (inr m) = none_below_first shape y t h.2 letters m.1
between shape (a ∷ s) (b ∷ t) c y letters (inr h) (inr l) m = none_above_last shape s y h.1 letters l.1

-- no cone lies between a cone and the one that follows it
pub none_between : (shape : Shape) (u v w : Word) → IsWordOf shape w → Follows shape u v → IsBefore u w → IsBefore w v → ⊥
none_between shape u v w h = between shape (path u) (path v) w.root w.letters h.letters

-- ---- children

-- lists that differ by one in the last entry are next to each other
next_entry : (n : ℕ) (s : List ℕ) (c : ℕ) → NextPath n (s ++ c ∷ []) (s ++ suc c ∷ [])
next_entry n [] c = inr (refl, All-nil (λ a. a ≡ n), All-nil (λ a. a ≡ 1))
next_entry n (a ∷ s) c = inl (refl, next_entry n s c)

-- the cones of the children follow one another
pub child_follows : (shape : Shape) (x : Word) (c : ℕ) → Follows shape (child x c) (child x (suc c))
child_follows shape x c = next_entry shape.n (path x) c

-- lists that differ in the last entry are in its order
below_entry : (s : List ℕ) (c d : ℕ) → c < d → IsBelow (s ++ c ∷ []) (s ++ d ∷ [])
below_entry [] c d l = inl l
below_entry (a ∷ s) c d l = inr (refl, below_entry s c d l)

-- children are in the order of their letters
pub child_before : (x : Word) (c d : ℕ) → c < d → IsBefore (child x c) (child x d)
child_before x c d l = below_entry (path x) c d l

-- lists that part behind one list part so alone
below_behind : (s y z : List ℕ) → IsBelow (s ++ y) (s ++ z) → IsBelow y z
below_behind [] y z h = h
below_behind (a ∷ s) y z (inl l) = absurd (omega arith)
below_behind (a ∷ s) y z (inr h) = below_behind s y z h.1

-- and the other way round
below_under : (s y z : List ℕ) → IsBelow y z → IsBelow (s ++ y) (s ++ z)
below_under [] y z h = h
below_under (a ∷ s) y z h = inr (refl, below_under s y z h)

-- what is before behind one word is so behind another
pub before_behind : (u v : Word) (y z : List ℕ) → IsBefore (u · y) (u · z) → IsBefore (v · y) (v · z)
before_behind u v y z h = below_under (path v) y z (below_behind (path u) y z h)

-- ascending words that are apart are in order of cones
pub all_before : (W : List Word) → IsPrefixFree W → IsAscending W → AllPairs IsBefore W
all_before W free ascending i j d l m = before_from _ _ (ascending i j d l m) (free i j d l m)

-- and the other way round
pub before_free : (W : List Word) → AllPairs IsBefore W → IsPrefixFree W
before_free W before i j d l m = before_apart _ _ (before i j d l m)

pub before_ascending : (W : List Word) → AllPairs IsBefore W → IsAscending W
before_ascending W before i j d l m = before_less _ _ (before i j d l m)
