-- Powers of a pair, word by word.
use Rattle.std.proofs.Common.{◌≡◌, ℕ, zero, suc, List, refl, sym, ap, ◌∙◌, subst, arith, ℤ, pos, negsuc, subst₂, ◌+ℤ◌, ◌-ℤ◌, add-one}
use Rattle.std.proofs.lemmas.Int.{ints}
use Rattle.ht_word.specs.Words.{IsWordOf, ◌·◌}
use Rattle.ht_word.specs.declared.shape.Shape.{Shape}
use Rattle.ht_word.specs.declared.word.Word.{Word}
use Rattle.ht_pair.specs.Actions.{Moves}
use Rattle.ht_pair.specs.Pairs.{IsPair, turned}
use Rattle.ht_pair.specs.Steps.{StepsAhead, Steps}
use Rattle.ht_pair.specs.declared.row.Row.{Row}
use Rattle.ht_pair.proofs.MovesLaws.{turned_pair, moves_turned, moves_back, moves_map}
use Rattle.ht_pair.proofs.PrefixMapLaws.{IsCarrying, IsPrefixMap, Then, then_map, same_carrying}

-- each word to itself
stay_carrying : (shape : Shape) → IsCarrying shape (λ u v. u ≡ v)
stay_carrying shape = record {
  extends = λ u v z e. ap (λ t. t · z) e;
  word = λ u v h e. subst (IsWordOf shape) e h;
  single = λ u v v' h e f. sym e ∙ f;
  bound = 0;
  total = λ u h l. (u, refl);
}

-- the same the other way round
stay_back : (shape : Shape) → IsCarrying shape (λ u v. v ≡ u)
stay_back shape = record {
  extends = λ u v z e. ap (λ t. t · z) e;
  word = λ u v h e. subst (IsWordOf shape) (sym e) h;
  single = λ u v v' h e f. e ∙ sym f;
  bound = 0;
  total = λ u h l. (u, refl);
}

-- k moves of a pair are a bijection of the long enough words
ahead_map : (shape : Shape) (p : List Row) → IsPair shape p → (k : ℕ) → IsPrefixMap shape (StepsAhead p k)
ahead_map shape p pair zero = record { ahead = stay_carrying shape; behind = stay_back shape }
ahead_map shape p pair (suc k) = same_carrying shape (Then (StepsAhead p k) (Moves p)) (StepsAhead p (suc k))
    (λ u v t. (t.middle, t.first, t.second))
    (λ u v t. record { middle = t.0; first = t.1; second = t.2 })
    (then_map shape (StepsAhead p k) (Moves p) (ahead_map shape p pair k) (moves_map shape p pair))

-- the steps of a pair are a bijection of the long enough words
pub steps_map : (shape : Shape) (p : List Row) → IsPair shape p → (k : ℤ) → IsPrefixMap shape (Steps p k)
steps_map shape p pair (pos k) = ahead_map shape p pair k
steps_map shape p pair (negsuc k) = ahead_map shape (turned p) (turned_pair shape p pair) (suc k)

-- one more step
pub steps_up : (shape : Shape) (p : List Row) → IsPair shape p → (k : ℤ) (u t w : Word) → IsWordOf shape u → Steps p k u t → Moves p t w → Steps p (k +ℤ pos 1) u w
steps_up shape p pair (pos k) u t w h s m = subst (λ j. StepsAhead p j u w) (sym (add-one k)) (t, s, m)
steps_up shape p pair (negsuc zero) u t w h s m =
    let same : s.0 ≡ w = (moves_map shape p pair).ahead.single t s.0 w ((steps_map shape p pair (negsuc zero)).ahead.word u t h s) (moves_back p t s.0 s.2) m in
    s.1 ∙ same
steps_up shape p pair (negsuc (suc k)) u t w h s m =
    let same : s.0 ≡ w = (moves_map shape p pair).ahead.single t s.0 w ((steps_map shape p pair (negsuc (suc k))).ahead.word u t h s) (moves_back p t s.0 s.2) m in
    let higher : negsuc (suc k) +ℤ pos 1 ≡ negsuc k = omega (arith, ints) in
    subst₂ (λ j x. Steps p j u x) (sym higher) same s.1

-- one step less
pub steps_down : (shape : Shape) (p : List Row) → IsPair shape p → (k : ℤ) (u t w : Word) → IsWordOf shape u → Steps p k u t → Moves p w t → Steps p (k -ℤ pos 1) u w
steps_down shape p pair (pos zero) u t w h s m = (t, s, moves_turned p w t m)
steps_down shape p pair (pos (suc k)) u t w h s m =
    let same : s.0 ≡ w = (moves_map shape p pair).behind.single t s.0 w ((steps_map shape p pair (pos (suc k))).ahead.word u t h s) s.2 m in
    let lower : pos (suc k) -ℤ pos 1 ≡ pos k = omega (arith, ints) in
    subst₂ (λ j x. Steps p j u x) (sym lower) same s.1
steps_down shape p pair (negsuc k) u t w h s m =
    let lower : negsuc k -ℤ pos 1 ≡ negsuc (suc k) = omega (arith, ints) in
    subst (λ j. Steps p j u w) (sym lower) (t, s, moves_turned p w t m)

-- j steps and then k moves are j + k steps
more_ahead : (shape : Shape) (p : List Row) → IsPair shape p → (j : ℤ) (k : ℕ) (u t w : Word) → IsWordOf shape u → Steps p j u t → StepsAhead p k t w → Steps p (j +ℤ pos k) u w
more_ahead shape p pair j zero u t w h s m =
    let none : j +ℤ pos 0 ≡ j = omega (arith, ints) in
    subst₂ (λ i x. Steps p i u x) (sym none) m s
more_ahead shape p pair j (suc k) u t w h s m =
    let more : (j +ℤ pos k) +ℤ pos 1 ≡ j +ℤ pos (suc k) = omega (arith, ints) in
    subst (λ i. Steps p i u w) more (steps_up shape p pair (j +ℤ pos k) u m.0 w h (more_ahead shape p pair j k u t m.0 h s m.1) m.2)

-- j steps and then k moves of the turned pair are j - k steps
more_behind : (shape : Shape) (p : List Row) → IsPair shape p → (j : ℤ) (k : ℕ) (u t w : Word) → IsWordOf shape u → Steps p j u t → StepsAhead (turned p) k t w → Steps p (j -ℤ pos k) u w
more_behind shape p pair j zero u t w h s m =
    let none : j -ℤ pos 0 ≡ j = omega (arith, ints) in
    subst₂ (λ i x. Steps p i u x) (sym none) m s
more_behind shape p pair j (suc k) u t w h s m =
    let more : (j -ℤ pos k) -ℤ pos 1 ≡ j -ℤ pos (suc k) = omega (arith, ints) in
    subst (λ i. Steps p i u w) more (steps_down shape p pair (j -ℤ pos k) u m.0 w h (more_behind shape p pair j k u t m.0 h s m.1) (moves_back p w m.0 m.2))

-- j steps and then k steps are j + k steps
pub steps_add : (shape : Shape) (p : List Row) → IsPair shape p → (j k : ℤ) (u t w : Word) → IsWordOf shape u → Steps p j u t → Steps p k t w → Steps p (j +ℤ k) u w
steps_add shape p pair j (pos k) u t w h s m = more_ahead shape p pair j k u t w h s m
steps_add shape p pair j (negsuc k) u t w h s m =
    let same : j -ℤ pos (suc k) ≡ j +ℤ negsuc k = omega (arith, ints) in
    subst (λ i. Steps p i u w) same (more_behind shape p pair j (suc k) u t w h s m)
