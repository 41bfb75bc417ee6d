-- Powers of powers.
use Rattle.std.proofs.Common.{◌≡◌, ℕ, zero, suc, List, sym, ap, ◌∙◌, subst, arith, ℤ, pos, negsuc, neg_ℤ, ◌+ℤ◌, ◌-ℤ◌, ◌*ℤ◌}
use Rattle.std.proofs.Math.IntN.{suc_ℤ-*ℤ, pred_ℤ-*ℤ, zero-*ℤ}
use Rattle.std.proofs.lemmas.Int.{ints}
use Rattle.ht_word.specs.Words.{◌·◌}
use Rattle.ht_word.specs.declared.shape.Shape.{Shape}
use Rattle.ht_word.proofs.WordLaws.{after_cancel_right, ones}
use Rattle.ht_pair.specs.Actions.{Moves}
use Rattle.ht_pair.specs.Pairs.{IsPair, turned}
use Rattle.ht_pair.specs.Products.{IsPower}
use Rattle.ht_pair.specs.Steps.{Steps}
use Rattle.ht_pair.specs.declared.row.Row.{Row}
use Rattle.ht_pair.proofs.MovesLaws.{turned_pair, moves_back, moves_map}
use Rattle.ht_pair.proofs.PowerLaws.{power_exists, power_once, power_add, first_power, power_to_inverse}
use Rattle.ht_pair.proofs.PrefixMapLaws.{long_word, moved_long}
use Rattle.ht_pair.proofs.ProductLaws.{product_exists, product_of, inverse_is}
use Rattle.ht_pair.proofs.StepsLaws.{steps_map, steps_add}

-- the power k turned round is the power -k
pub power_turned : (shape : Shape) (p s : List Row) (k : ℤ) → IsPair shape p → IsPower shape p k s → IsPower shape p (neg_ℤ k) (turned s)
power_turned shape p s k pair power = record {
  pair = turned_pair shape s power.pair;
  stepped = λ u v w h f g.
      -- s sends w to u
      let ms = moves_map shape s power.pair in
      let up = moves_back s w u g in
      let word_w = ms.behind.word u w h up in
      let m = (steps_map shape p pair k).ahead in
      let size = m.bound in
      let z = ones size in
      let x = moved_long shape (Steps p k) m w size word_w (omega arith) in
      let long = long_word shape w size word_w in
      let there : x.0 ≡ u · z = power.stepped (w · z) x.0 (u · z) long x.1 (ms.ahead.extends w u z up) in
      let down = subst (λ a. Steps p (neg_ℤ k) a (v · z)) (sym there) ((steps_map shape p pair (neg_ℤ k)).ahead.extends u v z f) in
      let none : k +ℤ neg_ℤ k ≡ pos 0 = omega (arith, ints) in
      let same : w · z ≡ v · z = subst (λ i. Steps p i (w · z) (v · z)) none (steps_add shape p pair k (neg_ℤ k) (w · z) x.0 (v · z) long x.1 down) in
      sym (after_cancel_right w v z same);
}

-- a pair that moves words as a power of s, a power of p, does is that power of p
same_power : (shape : Shape) (p s q t : List Row) (i j : ℤ) → IsPair shape s → IsPower shape p i q → IsPower shape s j q → IsPower shape s j t → IsPair shape p → IsPower shape p i t
same_power shape p s q t i j pair_s power own other pair = record {
  pair = other.pair;
  stepped = λ u v w h f g.
      let m = (moves_map shape q power.pair).ahead in
      let z = ones m.bound in
      let x = moved_long shape (Moves q) m u m.bound h (omega arith) in
      let long = long_word shape u m.bound h in
      let first : v · z ≡ x.0 = power.stepped (u · z) (v · z) x.0 long ((steps_map shape p pair i).ahead.extends u v z f) x.1 in
      let second : x.0 ≡ w · z = power_once shape s q t j pair_s own other (u · z) x.0 (w · z) long x.1 ((moves_map shape t other.pair).ahead.extends u w z g) in
      after_cancel_right v w z (first ∙ second);
}

-- the power j from 0 on of the power k is the power j k
power_mul_ahead : (shape : Shape) (p s t : List Row) (k : ℤ) (j : ℕ) → IsPair shape p → IsPower shape p k s → IsPower shape s (pos j) t → IsPower shape p (pos j *ℤ k) t
power_mul_ahead shape p s t k zero pair hs ht = subst (λ i. IsPower shape p i t) (sym (zero-*ℤ k)) (record { pair = ht.pair; stepped = ht.stepped })
power_mul_ahead shape p s t k (suc j) pair hs ht =
    let x = power_exists shape s (pos j) hs.pair in
    let before = power_mul_ahead shape p s x.0 k j pair hs x.1 in
    let q = product_exists shape x.0 s x.1.pair hs.pair in
    let product = product_of shape x.0 s x.1.pair hs.pair q in
    let next : pos j +ℤ pos 1 ≡ pos (suc j) = omega (arith, ints) in
    let own = subst (λ i. IsPower shape s i q.rows) next (power_add shape s x.0 s q.rows (pos j) (pos 1) hs.pair x.1 (first_power shape s hs.pair) product) in
    subst (λ i. IsPower shape p i t) (sym (suc_ℤ-*ℤ (pos j) k))
    (same_power shape p s q.rows t (pos j *ℤ k +ℤ k) (pos (suc j)) hs.pair (power_add shape p x.0 s q.rows (pos j *ℤ k) k pair before hs product) own ht pair)

-- the sign may go to either factor
both_signs : (k : ℤ) (j : ℕ) → pos (suc j) *ℤ neg_ℤ k ≡ negsuc j *ℤ k
both_signs k zero =
    let up : pos 1 *ℤ neg_ℤ k ≡ pos 0 *ℤ neg_ℤ k +ℤ neg_ℤ k = suc_ℤ-*ℤ (pos 0) (neg_ℤ k) in
    let down : negsuc 0 *ℤ k ≡ pos 0 *ℤ k -ℤ k = pred_ℤ-*ℤ (pos 0) k in
    up ∙ ap (λ i. i +ℤ neg_ℤ k) (zero-*ℤ (neg_ℤ k)) ∙ ap (λ i. i -ℤ k) (sym (zero-*ℤ k)) ∙ sym down
both_signs k (suc j) =
    let up : pos (suc (suc j)) *ℤ neg_ℤ k ≡ pos (suc j) *ℤ neg_ℤ k +ℤ neg_ℤ k = suc_ℤ-*ℤ (pos (suc j)) (neg_ℤ k) in
    let down : negsuc (suc j) *ℤ k ≡ negsuc j *ℤ k -ℤ k = pred_ℤ-*ℤ (negsuc j) k in
    up ∙ ap (λ i. i +ℤ neg_ℤ k) (both_signs k j) ∙ sym down

-- the power j of the power k is the power j k
pub power_mul : (shape : Shape) (p s t : List Row) (k j : ℤ) → IsPair shape p → IsPower shape p k s → IsPower shape s j t → IsPower shape p (j *ℤ k) t
power_mul shape p s t k (pos j) pair hs ht = power_mul_ahead shape p s t k j pair hs ht
power_mul shape p s t k (negsuc j) pair hs ht =
    let back = power_turned shape p s k pair hs in
    let power = power_mul_ahead shape p (turned s) t (neg_ℤ k) (suc j) pair back (power_to_inverse shape s (turned s) t (pos (suc j)) hs.pair (inverse_is shape s hs.pair) ht) in
    subst (λ i. IsPower shape p i t) (both_signs k j) power
