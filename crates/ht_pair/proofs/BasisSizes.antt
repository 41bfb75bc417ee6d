-- How many letters a basis has, and how many of its words are roots.
use Rattle.std.proofs.Common.{◌≡◌, ◌≢◌, ℕ, zero, suc, ◌≤◌, ◌+◌, ◌*◌, ◌⊎◌, inl, inr, List, [], ◌∷◌, length, refl, sym, ap, ◌∙◌, subst, arith, Contains}
use Rattle.std.specs.Prelude.{◌-◌}
use Rattle.std.specs.List.{sum_by}
use Rattle.std.proofs.lemmas.Bool.{cases_lt}
use Rattle.std.proofs.lemmas.List.{length-append}
use Rattle.std.proofs.lemmas.List.Elements.{All-cons, All-nil}
use Rattle.std.proofs.lemmas.List.Sums.{sum_by-cons, get_or-le-sum_by}
use Rattle.ht_word.specs.Words.{◌·◌, child, root_word, IsLetter, IsWordOf, IsUnder}
use Rattle.ht_word.specs.declared.word.Word.{Word}
use Rattle.ht_word.specs.declared.shape.Shape.{Shape}
use Rattle.ht_word.proofs.Deciding.{same_or_not, under_or_not}
use Rattle.ht_word.proofs.WordLaws.{word_eq, after-append, after_cancel, length-after, under_refl, under_after, under_trans, under_length, under_same, under_both, word_after, word_front, ones, length-ones, ones_letters}
use Rattle.ht_pair.specs.Bases.{IsPrefixFree, longest, roots_to, roots, IsBasis}
use Rattle.ht_pair.proofs.BasisLaws.{prefix_free_same, longest_least, roots_hold, basis_holds, basis_word}
use Rattle.ht_pair.proofs.CountLaws.{counted}

-- ---- words that are roots

-- 1 for the letters of a root, none
abbrev pub root_once : List ℕ → ℕ
root_once [] = 1
root_once (a ∷ z) = 0

-- the words that are roots
abbrev pub count_roots : List Word → ℕ
count_roots X = sum_by (λ w. root_once w.letters) X

at_most_once : (z : List ℕ) → root_once z ≤ 1
at_most_once [] = omega arith
at_most_once (a ∷ z) = omega arith

no_letters : (z : List ℕ) → 1 ≤ root_once z → z ≡ []
no_letters [] l = refl
no_letters (a ∷ z) l = absurd (omega arith)

pub length-roots : (k : ℕ) → length (roots_to k) ≡ k
length-roots zero = omega arith
length-roots (suc k) = omega (arith, length-append (roots_to k) (root_word (suc k) ∷ []), length-roots k)

-- a basis has at most r roots
pub few_roots : (shape : Shape) (X : List Word) → IsBasis shape X → count_roots X ≤ shape.r
few_roots shape X basis = omega (arith, length-roots shape.r, counted (λ w. root_once w.letters) (λ w. at_most_once w.letters) X (roots shape) basis.prefix_free listed)
  where
    listed : (w : Word) → Contains X w → 1 ≤ root_once w.letters → Contains (roots shape) w
    listed w c l =
        let word = basis_word shape X basis w c in
        let same : root_word w.root ≡ w = word_eq refl (sym (no_letters w.letters l)) in
        subst (Contains (roots shape)) same (roots_hold shape.r w.root word.root_low word.root_high)

-- ---- letters

-- k where P holds, else 0
where_holds : (P : Type 0) → ℕ → P ⊎ ¬ P → ℕ
where_holds P k (inl h) = k
where_holds P k (inr n) = 0

-- the letters of a word that is under u, and 0 for others
letters_under : Word → Word → ℕ
letters_under u w = where_holds (IsUnder w u) (length w.letters) (under_or_not w u)

-- the letters of all words
abbrev pub all_letters : List Word → ℕ
all_letters X = sum_by (λ w. length w.letters) X

it_holds : (P : Type 0) (k : ℕ) (d : P ⊎ ¬ P) → P → where_holds P k d ≡ k
unfolding where_holds
it_holds P k (inl h) p = refl
it_holds P k (inr n) p = absurd (n p)

at_most : (P : Type 0) (k : ℕ) (d : P ⊎ ¬ P) → where_holds P k d ≤ k
unfolding where_holds
at_most P k (inl h) = omega arith
at_most P k (inr n) = omega arith

apart_holds : (P Q R : Type 0) (k : ℕ) (p : P ⊎ ¬ P) (q : Q ⊎ ¬ Q) (r : R ⊎ ¬ R) → (P → R) → (Q → R) → (P → Q → ⊥) → where_holds P k p + where_holds Q k q ≤ where_holds R k r
unfolding where_holds
apart_holds P Q R k (inl p) (inl q) r f g apart = absurd (apart p q)
apart_holds P Q R k (inl p) (inr m) (inl r) f g apart = omega arith
apart_holds P Q R k (inl p) (inr m) (inr n) f g apart = absurd (n (f p))
apart_holds P Q R k (inr m) (inl q) (inl r) f g apart = omega arith
apart_holds P Q R k (inr m) (inl q) (inr n) f g apart = absurd (n (g q))
apart_holds P Q R k (inr m) (inr n) (inl r) f g apart = omega arith
apart_holds P Q R k (inr m) (inr n) (inr o) f g apart = omega arith

-- no word is under two children
pub under_one_child : (u w : Word) (a b : ℕ) → a ≢ b → IsUnder w (child u a) → IsUnder w (child u b) → ⊥
under_one_child u w a b n h g =
    let same : a ∷ h.rest ≡ b ∷ g.rest = after_cancel u (a ∷ h.rest) (b ∷ g.rest) (sym (after-append u (a ∷ []) h.rest) ∙ sym h.is ∙ g.is ∙ after-append u (b ∷ []) g.rest) in
    let heads : a ≡ b = cc in
    n heads

under_child : (u w : Word) (a : ℕ) → IsUnder w (child u a) → IsUnder w u
under_child u w a h = under_trans h (under_after u (a ∷ []))

child_letters : (u w : Word) (a b : ℕ) → a ≢ b → letters_under (child u a) w + letters_under (child u b) w ≤ letters_under u w
unfolding letters_under
child_letters u w a b n = apart_holds (IsUnder w (child u a)) (IsUnder w (child u b)) (IsUnder w u) (length w.letters)
    (under_or_not w (child u a)) (under_or_not w (child u b)) (under_or_not w u) (under_child u w a) (under_child u w b) (under_one_child u w a b n)

-- the letters under two children of u are letters under u
both_children : (u : Word) (a b : ℕ) → a ≢ b → (X : List Word) → sum_by (letters_under (child u a)) X + sum_by (letters_under (child u b)) X ≤ sum_by (letters_under u) X
both_children u a b n [] = omega arith
both_children u a b n (w ∷ X) =
    omega (arith, child_letters u w a b n, both_children u a b n X, sum_by-cons (letters_under (child u a)) w X, sum_by-cons (letters_under (child u b)) w X, sum_by-cons (letters_under u) w X)

-- a word of the list has its letters under each of its prefixes
word_counts : (X : List Word) (u w : Word) → Contains X w → IsUnder w u → length w.letters ≤ sum_by (letters_under u) X
unfolding letters_under
word_counts X u w c h =
    omega (arith, get_or-le-sum_by (letters_under u) X c.0 w c.1, ap (letters_under u) c.2, it_holds (IsUnder w u) (length w.letters) (under_or_not w u) h)

no_more_letters : (u w : Word) → letters_under u w ≤ length w.letters
unfolding letters_under
no_more_letters u w = at_most (IsUnder w u) (length w.letters) (under_or_not w u)

-- what is under u is part of the whole
part_of_all : (u : Word) (X : List Word) → sum_by (letters_under u) X ≤ all_letters X
part_of_all u [] = omega arith
part_of_all u (w ∷ X) = omega (arith, no_more_letters u w, part_of_all u X, sum_by-cons (letters_under u) w X, sum_by-cons (λ (v : Word). length v.letters) w X)

-- a prefix-free list with a longer word under u has no prefix of u
none_above : (X : List Word) (u x : Word) (a : ℕ) (z : List ℕ) → IsPrefixFree X → Contains X (child u a · z) → Contains X x → IsUnder u x → ⊥
none_above X u x a z free c d h =
    let same = prefix_free_same X free (child u a · z) x c d (under_trans (under_trans (under_after (child u a) z) (under_after u (a ∷ []))) h) in
    absurd (omega (arith, under_length h, ap (λ (w : Word). length w.letters) same, length-after (child u a) z, length-after u (a ∷ [])))

-- a prefix of a child of u that is no longer than u is a prefix of u
above_parent : (u x : Word) (b : ℕ) → IsUnder (child u b) x → length x.letters ≤ length u.letters → IsUnder u x
above_parent u x b h l = elim (under_both h (under_after u (b ∷ []))) [
  | inl g ↦ subst (λ t. IsUnder u t) (sym (under_same g l)) (under_refl u)
  | inr g ↦ g
]

-- where a basis has a longer word under u, it has a word under each child of u
sibling_counts : (shape : Shape) (X : List Word) → IsBasis shape X → (u : Word) (a b : ℕ) (z : List ℕ) → Contains X (child u a · z) → IsWordOf shape (child u b) → suc (length u.letters) ≤ sum_by (letters_under (child u b)) X
sibling_counts shape X basis u a b z c word =
    let k = longest X in
    let s = basis_holds shape X basis (child u b · ones k) (word_after shape (child u b) (ones k) word (ones_letters shape k)) (omega (arith, length-after (child u b) (ones k), length-ones k)) in
    elim (under_both s.under (under_after (child u b) (ones k))) [
      | inl g ↦ omega (arith, under_length g, word_counts X (child u b) s.above s.listed g, length-after u (b ∷ []))
      | inr g ↦ elim (cases_lt (length u.letters) (length s.above.letters)) [
        | inl l ↦ (
            let same = under_same g (omega (arith, length-after u (b ∷ []))) in
            omega (arith, word_counts X (child u b) s.above s.listed (subst (λ t. IsUnder s.above t) (sym same) (under_refl s.above))))
        | inr l ↦ absurd (none_above X u s.above a z basis.prefix_free c s.listed (above_parent u s.above b g l))
      ]
    ]

another_letter : (shape : Shape) (a : ℕ) → (b : ℕ) × IsLetter shape b × (a ≢ b)
another_letter shape a = elim (same_or_not a 1) [
  | inl e ↦ (2, (omega arith, shape.letters_low), (λ f. absurd (omega (arith, e, f))))
  | inr n ↦ (1, (omega arith, omega (arith, shape.letters_low)), n)
]

-- from 256 letters on, each letter of a word costs 256 letters of other words
long_words : (shape : Shape) (X : List Word) → IsBasis shape X → (z : List ℕ) (u : Word) → Contains X (u · z) → 256 * length z ≤ sum_by (letters_under u) X + 256 * (256 - length u.letters)
long_words shape X basis [] u c = omega arith
long_words shape X basis (a ∷ z) u c =
    let b = another_letter shape a in
    let below : Contains X (child u a · z) = subst (Contains X) (sym (after-append u (a ∷ []) z)) c in
    let word : IsWordOf shape (child u b.0) = word_after shape u (b.0 ∷ []) (word_front shape u (a ∷ z) (basis_word shape X basis (u · (a ∷ z)) c)) (All-cons (IsLetter shape) b.0 [] b.1 (All-nil (IsLetter shape))) in
    one_more (length u.letters) (length z) (length (child u a).letters) (sum_by (letters_under (child u a)) X) (sum_by (letters_under (child u b.0)) X) (sum_by (letters_under u) X)
    (omega (arith, length-after u (a ∷ []))) (long_words shape X basis z (child u a) below) (sibling_counts shape X basis u a b.0 z below word) (both_children u a b.0 b.2 X)
  where
    one_more : (m k n first second whole : ℕ) → n ≡ suc m → 256 * k ≤ first + 256 * (256 - n) → suc m ≤ second → first + second ≤ whole → 256 * suc k ≤ whole + 256 * (256 - m)
    one_more m k n first second whole next rest sibling both = omega arith

-- a basis with at most 65,536 letters has no word of more than 1,024
pub short_words : (shape : Shape) (X : List Word) → IsBasis shape X → all_letters X ≤ 65536 → longest X ≤ 1024
short_words shape X basis few = longest_least X 1024 (λ w c.
    omega (arith, part_of_all (root_word w.root) X, long_words shape X basis w.letters (root_word w.root) c))
