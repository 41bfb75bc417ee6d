-- What conjugates two elements conjugates their powers, and sends the words that a power of one carries to those that the power of
-- the other carries.
use Rattle.std.proofs.Common.{◌≡◌, ℕ, zero, suc, ◌+◌, List, ◌++◌, sym, ◌∙◌, subst, arith, ℤ, pos, negsuc}
use Rattle.ht_word.specs.Words.{IsWordOf, ◌·◌}
use Rattle.ht_word.specs.declared.shape.Shape.{Shape}
use Rattle.ht_word.specs.declared.word.Word.{Word}
use Rattle.ht_word.proofs.WordLaws.{after-append, after_cancel_right, letters_append, word_after, ones, ones_letters}
use Rattle.ht_pair.specs.Actions.{Moves}
use Rattle.ht_pair.specs.Conjugacy.{Conjugates}
use Rattle.ht_pair.specs.Pairs.{IsPair, turned}
use Rattle.ht_pair.specs.Products.{IsPower}
use Rattle.ht_pair.specs.Steps.{StepsAhead, Steps, Carries}
use Rattle.ht_pair.specs.declared.row.Row.{Row}
use Rattle.ht_pair.proofs.MovesLaws.{turned_pair, moves_back, moves_map}
use Rattle.ht_pair.proofs.PrefixMapLaws.{long_word, moved_long}
use Rattle.ht_pair.proofs.StepsLaws.{steps_map}

-- what conjugates a into b conjugates the inverse of a into that of b
pub conjugates_back : (shape : Shape) (h a b : List Row) → IsPair shape a → IsPair shape b → Conjugates shape h a b → Conjugates shape h (turned a) (turned b)
conjugates_back shape h a b pair_a pair_b c = record {
  pair = c.pair;
  commutes = λ u u' v v' w word f g e k.
      -- a sends u' to u, h sends u to v and u' to v', and b sends w to v
      let ma = moves_map shape a pair_a in
      let mb = moves_map shape b pair_b in
      let mh = (moves_map shape h c.pair).ahead in
      let down = moves_back a u' u f in
      let up = moves_back b w v k in
      let word_u' = ma.behind.word u u' word down in
      let size = mb.ahead.bound in
      let z = ones size in
      let x = moved_long shape (Moves b) mb.ahead v' size (mh.word u' v' word_u' g) (omega arith) in
      let same : x.0 ≡ v · z = c.commutes (u' · z) (u · z) (v' · z) (v · z) x.0 (long_word shape u' size word_u') (ma.ahead.extends u' u z down) (mh.extends u v z e) (mh.extends u' v' z g) x.1 in
      after_cancel_right w v' z (mb.behind.single (v · z) (w · z) (v' · z) (long_word shape v size (mh.word u v word e)) (mb.ahead.extends w v z up) (subst (λ t. Moves b (v' · z) t) same x.1));
}

-- k moves of a and then h are h and then k moves of b
conjugates_ahead : (shape : Shape) (h a b : List Row) → IsPair shape a → IsPair shape b → Conjugates shape h a b → (k : ℕ) (u u' v v' w : Word) → IsWordOf shape u → StepsAhead a k u u' → Moves h u' v' → Moves h u v → StepsAhead b k v w → w ≡ v'
conjugates_ahead shape h a b pair_a pair_b c zero u u' v v' w word s g e t = sym t ∙ (moves_map shape h c.pair).ahead.single u v v' word e (subst (λ x. Moves h x v') (sym s) g)
conjugates_ahead shape h a b pair_a pair_b c (suc k) u u' v v' w word s g e t =
    let sa = (steps_map shape a pair_a (pos k)).ahead in
    let mh = (moves_map shape h c.pair).ahead in
    let word_x = sa.word u s.0 word s.1 in
    let z = ones mh.bound in
    let x = moved_long shape (Moves h) mh s.0 mh.bound word_x (omega arith) in
    let same : t.0 · z ≡ x.0 = conjugates_ahead shape h a b pair_a pair_b c k (u · z) (s.0 · z) (v · z) x.0 (t.0 · z) (long_word shape u mh.bound word) (sa.extends u s.0 z s.1) x.1 (mh.extends u v z e) ((steps_map shape b pair_b (pos k)).ahead.extends v t.0 z t.1) in
    after_cancel_right w v' z (c.commutes (s.0 · z) (u' · z) x.0 (v' · z) (w · z) (long_word shape s.0 mh.bound word_x) ((moves_map shape a pair_a).ahead.extends s.0 u' z s.2) (mh.extends u' v' z g) x.1
    (subst (λ y. Moves b y (w · z)) same ((moves_map shape b pair_b).ahead.extends t.0 w z t.2)))

-- k steps of a and then h are h and then k steps of b
pub conjugates_steps : (shape : Shape) (h a b : List Row) → IsPair shape a → IsPair shape b → Conjugates shape h a b → (k : ℤ) (u u' v v' w : Word) → IsWordOf shape u → Steps a k u u' → Moves h u' v' → Moves h u v → Steps b k v w → w ≡ v'
conjugates_steps shape h a b pair_a pair_b c (pos k) = conjugates_ahead shape h a b pair_a pair_b c k
conjugates_steps shape h a b pair_a pair_b c (negsuc k) = conjugates_ahead shape h (turned a) (turned b) (turned_pair shape a pair_a) (turned_pair shape b pair_b) (conjugates_back shape h a b pair_a pair_b c) (suc k)

-- what conjugates a into b conjugates each power of a into that of b
pub conjugates_power : (shape : Shape) (h a b s t : List Row) (k : ℤ) → IsPair shape a → IsPair shape b → Conjugates shape h a b → IsPower shape a k s → IsPower shape b k t → Conjugates shape h s t
conjugates_power shape h a b s t k pair_a pair_b c hs ht = record {
  pair = c.pair;
  commutes = λ u u' v v' w word f g e l.
      let sa = (steps_map shape a pair_a k).ahead in
      let sb = (steps_map shape b pair_b k).ahead in
      let mh = (moves_map shape h c.pair).ahead in
      let word_v = mh.word u v word e in
      let size = sa.bound + sb.bound in
      let z = ones size in
      let long_u = long_word shape u size word in
      let x = moved_long shape (Steps a k) sa u size word (omega arith) in
      let y = moved_long shape (Steps b k) sb v size word_v (omega arith) in
      let first : x.0 ≡ u' · z = hs.stepped (u · z) x.0 (u' · z) long_u x.1 ((moves_map shape s hs.pair).ahead.extends u u' z f) in
      let second : y.0 ≡ w · z = ht.stepped (v · z) y.0 (w · z) (long_word shape v size word_v) y.1 ((moves_map shape t ht.pair).ahead.extends v w z l) in
      let steps = conjugates_steps shape h a b pair_a pair_b c k (u · z) (u' · z) (v · z) (v' · z) y.0 long_u (subst (λ q. Steps a k (u · z) q) first x.1) (mh.extends u' v' z g) (mh.extends u v z e) y.1 in
      after_cancel_right w v' z (sym second ∙ steps);
}

-- where the k-th power of a carries u to u', that of b carries what h moves u to to what h moves u' to
pub conjugates_carries : (shape : Shape) (h a b : List Row) → IsPair shape a → IsPair shape b → Conjugates shape h a b → (k : ℤ) (u u' v v' : Word) → Carries shape a k u u' → Moves h u v → Moves h u' v' → Carries shape b k v v'
conjugates_carries shape h a b pair_a pair_b c k u u' v v' carries e g = record {
  word = (moves_map shape h c.pair).ahead.word u v carries.word e;
  carried = λ y w hy s.
      let sa = (steps_map shape a pair_a k).ahead in
      let mh = (moves_map shape h c.pair).ahead in
      let z = ones sa.bound in
      let word = word_after shape u y carries.word hy in
      let x = moved_long shape (Steps a k) sa (u · y) sa.bound word (omega arith) in
      let there : x.0 ≡ (u' · y) · z = carries.carried (y ++ z) x.0 (letters_append shape y z hy (ones_letters shape sa.bound)) (subst (λ t. Steps a k t x.0) (after-append u y z) x.1) ∙ sym (after-append u' y z) in
      after_cancel_right w (v' · y) z (conjugates_steps shape h a b pair_a pair_b c k ((u · y) · z) ((u' · y) · z) ((v · y) · z) ((v' · y) · z) (w · z) (long_word shape (u · y) sa.bound word) (subst (λ t. Steps a k ((u · y) · z) t) there x.1)
      (mh.extends (u' · y) (v' · y) z (mh.extends u' v' y g)) (mh.extends (u · y) (v · y) z (mh.extends u v y e)) ((steps_map shape b pair_b k).ahead.extends (v · y) w z s));
}
