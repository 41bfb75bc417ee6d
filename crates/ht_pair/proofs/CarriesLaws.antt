-- What powers carry.
use Rattle.std.proofs.Common.{◌≡◌, ℕ, List, [], ◌∷◌, ◌++◌, refl, sym, ap, ◌∙◌, subst, arith, ℤ, pos, neg_ℤ, ◌↔◌, ◌+ℤ◌}
use Rattle.std.proofs.lemmas.Int.{ints}
use Rattle.std.proofs.lemmas.List.Elements.{All-nil, All-head, All-tail}
use Rattle.ht_word.specs.Words.{IsLetter, IsLetters, IsWordOf, ◌·◌, child}
use Rattle.ht_word.specs.declared.shape.Shape.{Shape}
use Rattle.ht_word.specs.declared.word.Word.{Word}
use Rattle.ht_word.proofs.WordLaws.{after-append, after-nil, after_cancel_right, letters_append, word_after, word_front, ones, ones_letters}
use Rattle.ht_pair.specs.Pairs.{IsPair}
use Rattle.ht_pair.specs.Steps.{Steps, Carries}
use Rattle.ht_pair.specs.declared.row.Row.{Row}
use Rattle.ht_pair.proofs.PrefixMapLaws.{Then, long_word, moved_long, then_map}
use Rattle.ht_pair.proofs.StepsLaws.{steps_map, steps_add}

-- what is carried is reached by steps, once it is long enough
pub carries_long : (shape : Shape) (p : List Row) (pair : IsPair shape p) (k : ℤ) (u v : Word) → Carries shape p k u v → Steps p k (u · ones (steps_map shape p pair k).ahead.bound) (v · ones (steps_map shape p pair k).ahead.bound)
carries_long shape p pair k u v c =
    let m = (steps_map shape p pair k).ahead in
    let x = moved_long shape (Steps p k) m u m.bound c.word (omega arith) in
    subst (λ t. Steps p k (u · ones m.bound) t) (c.carried (ones m.bound) x.0 (ones_letters shape m.bound) x.1) x.1

-- a power carries a word to at most one word
pub carries_single : (shape : Shape) (p : List Row) → IsPair shape p → (k : ℤ) (u v v' : Word) → Carries shape p k u v → Carries shape p k u v' → v ≡ v'
carries_single shape p pair k u v v' c d =
    let z = ones (steps_map shape p pair k).ahead.bound in
    after_cancel_right v v' z (d.carried z (v · z) (ones_letters shape (steps_map shape p pair k).ahead.bound) (carries_long shape p pair k u v c))

-- words of the shape are carried to words of the shape
pub carries_word : (shape : Shape) (p : List Row) → IsPair shape p → (k : ℤ) (u v : Word) → Carries shape p k u v → IsWordOf shape v
carries_word shape p pair k u v c =
    let m = (steps_map shape p pair k).ahead in
    word_front shape v (ones m.bound) (m.word (u · ones m.bound) (v · ones m.bound) (long_word shape u m.bound c.word) (carries_long shape p pair k u v c))

-- a word that k steps lead from u to
pub carries_from_steps : (shape : Shape) (p : List Row) → IsPair shape p → (k : ℤ) (u v : Word) → IsWordOf shape u → Steps p k u v → Carries shape p k u v
carries_from_steps shape p pair k u v h s = let m = (steps_map shape p pair k).ahead in
    record { word = h; carried = λ z w hz t. m.single (u · z) w (v · z) (word_after shape u z h hz) t (m.extends u v z s) }

-- the letters behind a prefix that is carried stay
pub carries_extends : (shape : Shape) (p : List Row) (k : ℤ) (u v : Word) (z : List ℕ) → IsLetters shape z → Carries shape p k u v → Carries shape p k (u · z) (v · z)
carries_extends shape p k u v z hz c = record {
  word = word_after shape u z c.word hz;
  carried = λ y w hy s. c.carried (z ++ y) w (letters_append shape z y hz hy) (subst (λ t. Steps p k t w) (after-append u z y) s) ∙ sym (after-append v z y);
}

-- a word all of whose children are carried to the children of another is carried there
pub carries_children : (shape : Shape) (p : List Row) → IsPair shape p → (k : ℤ) (u v : Word) → IsWordOf shape u → ((a : ℕ) → IsLetter shape a → Carries shape p k (child u a) (child v a)) → Carries shape p k u v
carries_children shape p pair k u v h each = record { word = h; carried = by }
  where
    by : (z : List ℕ) (w : Word) → IsLetters shape z → Steps p k (u · z) w → w ≡ v · z
    by [] w hz s =
        let m = (steps_map shape p pair k).ahead in
        let one : IsLetter shape 1 = (omega arith, omega (arith, shape.letters_low)) in
        let longer : Steps p k (child u 1 · []) (child w 1) = subst (λ t. Steps p k t (child w 1)) (ap (λ t. child t 1) (after-nil u) ∙ sym (after-nil (child u 1))) (m.extends (u · []) w (1 ∷ []) s) in
        after_cancel_right w (v · []) (1 ∷ []) ((each 1 one).carried [] (child w 1) hz longer ∙ after-nil (child v 1) ∙ ap (λ t. child t 1) (sym (after-nil v)))
    by (a ∷ z) w hz s =
        (each a (All-head (IsLetter shape) a z hz)).carried z w (All-tail (IsLetter shape) a z hz) (subst (λ t. Steps p k t w) (sym (after-append u (a ∷ []) z)) s) ∙ after-append v (a ∷ []) z

-- no steps carry each word to itself, and to no other
pub carries_none : (shape : Shape) (p : List Row) (u v : Word) → IsWordOf shape u → Carries shape p (pos 0) u v ↔ (u ≡ v)
carries_none shape p u v h = (
  (λ c. sym (after-nil u) ∙ c.carried [] (u · []) (All-nil (IsLetter shape)) refl ∙ after-nil v),
  (λ e. record { word = h; carried = λ z w hz s. sym s ∙ ap (λ t. t · z) e }),
)

-- j and k add up
pub carries_add : (shape : Shape) (p : List Row) → IsPair shape p → (j k : ℤ) (u v w : Word) → Carries shape p j u v → Carries shape p k v w → Carries shape p (j +ℤ k) u w
carries_add shape p pair j k u v w c d = record {
  word = c.word;
  carried = λ z x hz s.
      let first = steps_map shape p pair j in
      let second = steps_map shape p pair k in
      let both = (then_map shape (Steps p j) (Steps p k) first second).ahead in
      let y = ones both.bound in
      let hy = ones_letters shape both.bound in
      let hu = word_after shape u z c.word hz in
      let t = moved_long shape (Then (Steps p j) (Steps p k)) both (u · z) both.bound hu (omega arith) in
      let middle : t.1.middle ≡ v · (z ++ y) = c.carried (z ++ y) t.1.middle (letters_append shape z y hz hy) (subst (λ a. Steps p j a t.1.middle) (after-append u z y) t.1.first) in
      let last : t.0 ≡ w · (z ++ y) = d.carried (z ++ y) t.0 (letters_append shape z y hz hy) (subst (λ a. Steps p k a t.0) middle t.1.second) in
      let sum = (steps_map shape p pair (j +ℤ k)).ahead in
      let hl = long_word shape (u · z) both.bound hu in
      let same : x · y ≡ t.0 = sum.single ((u · z) · y) (x · y) t.0 hl (sum.extends (u · z) x y s) (steps_add shape p pair j k ((u · z) · y) t.1.middle t.0 hl t.1.first t.1.second) in
      after_cancel_right x (w · z) y (same ∙ last ∙ sym (after-append w z y));
}

-- the power -k carries back
pub carries_back : (shape : Shape) (p : List Row) → IsPair shape p → (k : ℤ) (u v : Word) → Carries shape p k u v → Carries shape p (neg_ℤ k) v u
carries_back shape p pair k u v c = record {
  word = carries_word shape p pair k u v c;
  carried = λ z w hz s.
      let m = (steps_map shape p pair k).ahead in
      let back = (steps_map shape p pair (neg_ℤ k)).ahead in
      let y = ones m.bound in
      let hu = word_after shape u z c.word hz in
      let hv = word_after shape v z (carries_word shape p pair k u v c) hz in
      let x = moved_long shape (Steps p k) m (u · z) m.bound hu (omega arith) in
      let there : x.0 ≡ v · (z ++ y) = c.carried (z ++ y) x.0 (letters_append shape z y hz (ones_letters shape m.bound)) (subst (λ a. Steps p k a x.0) (after-append u z y) x.1) in
      let down : Steps p (neg_ℤ k) x.0 (w · y) = subst (λ a. Steps p (neg_ℤ k) a (w · y)) (after-append v z y ∙ sym there) (back.extends (v · z) w y s) in
      let none : k +ℤ neg_ℤ k ≡ pos 0 = omega (arith, ints) in
      let same : (u · z) · y ≡ w · y = subst (λ i. Steps p i ((u · z) · y) (w · y)) none (steps_add shape p pair k (neg_ℤ k) ((u · z) · y) x.0 (w · y) (long_word shape (u · z) m.bound hu) x.1 down) in
      sym (after_cancel_right (u · z) w y same);
}

-- one word is carried to a word by one power only from one word
pub carries_injective : (shape : Shape) (p : List Row) → IsPair shape p → (k : ℤ) (u u' v : Word) → Carries shape p k u v → Carries shape p k u' v → u ≡ u'
carries_injective shape p pair k u u' v c d = carries_single shape p pair (neg_ℤ k) v u u' (carries_back shape p pair k u v c) (carries_back shape p pair k u' v d)

-- what k and then j more steps carry
pub carries_rest : (shape : Shape) (p : List Row) → IsPair shape p → (j k i : ℤ) → j +ℤ k ≡ i → (u v w : Word) → Carries shape p j u v → Carries shape p i u w → Carries shape p k v w
carries_rest shape p pair j k i sum u v w c d =
    let e : neg_ℤ j +ℤ i ≡ k = omega (arith, ints, sum) in
    subst (λ t. Carries shape p t v w) e (carries_add shape p pair (neg_ℤ j) i v u w (carries_back shape p pair j u v c) d)

-- two powers that carry one after another carry as their sum
pub carries_sum : (shape : Shape) (p : List Row) → IsPair shape p → (j k i : ℤ) → j +ℤ k ≡ i → (u v w : Word) → Carries shape p j u v → Carries shape p k v w → Carries shape p i u w
carries_sum shape p pair j k i sum u v w c d = subst (λ t. Carries shape p t u w) sum (carries_add shape p pair j k u v w c d)

-- no steps carry a word to itself
pub carries_itself : (shape : Shape) (p : List Row) (u : Word) → IsWordOf shape u → Carries shape p (pos 0) u u
carries_itself shape p u h = (carries_none shape p u u h).1 refl
