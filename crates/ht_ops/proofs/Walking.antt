-- Many steps of an image: one after another, or all at once by a power.
use lib.Signed.{lt_z}
use Rattle.std.proofs.Common.{◌≡◌, true, false, ℕ, ◌+◌, List, sym, ◌∙◌, subst, arith, ℤ, pos, negsuc, neg_ℤ, ◌+ℤ◌, ◌<ℤ◌, ◌≤ℤ◌, ap}
use Rattle.std.proofs.lemmas.Int.{ints}
use Rattle.std.proofs.lemmas.Result.{IfOk-weaker}
use Rattle.std.specs.Int.RustNames.{unsigned_abs}
use Rattle.std.specs.Result.{IfOk}
use Rattle.std.specs.declared.result.Result.{Result}
use Rattle.ht_word.specs.declared.shape.Shape.{Shape}
use Rattle.ht_pair.specs.Images.{Entry}
use Rattle.ht_pair.specs.Pairs.{IsPair}
use Rattle.ht_pair.specs.Products.{IsPower}
use Rattle.ht_pair.specs.ValueLists.{IsValueList, IsFollowed}
use Rattle.ht_pair.specs.declared.row.Row.{Row}
use Rattle.ht_pair.proofs.ValueListLaws.{followed_none, followed_power, followed_then}
use Rattle.ht_pair.proofs.PowerLaws.{first_power}
use Rattle.ht_ops.specs.Walks.{IsWalked}

-- before the first step
pub none_walked : (shape : Shape) (L : List Entry) (g : List Row) → IsValueList shape L → IsWalked shape L g 0 L
none_walked shape L g value = record { value = value; ahead = λ p pair power. followed_none shape p L value; back = λ p pair power. followed_none shape p L value }

-- and after one more
pub one_more_walked : (shape : Shape) (L M N : List Entry) (g : List Row) (n : ℕ) → IsValueList shape L → IsWalked shape L g n M → IsFollowed shape M g (pos 1) N → IsWalked shape L g (n + 1) N
one_more_walked shape L M N g n value h step = record {
  value = step.value_list;
  ahead = λ p pair power. followed_then shape p (pos n) (pos 1) L M N pair value (h.ahead p pair power) (followed_power shape p g (pos 1) M N pair h.value power step);
  back = λ p pair power.
      let lower : neg_ℤ (pos n) +ℤ neg_ℤ (pos 1) ≡ neg_ℤ (pos (n + 1)) = omega (arith, ints) in
      subst (λ k. IsFollowed shape L p k N) lower (followed_then shape p (neg_ℤ (pos n)) (neg_ℤ (pos 1)) L M N pair value (h.back p pair power) (followed_power shape p g (neg_ℤ (pos 1)) M N pair h.value power step));
}

-- ---- the answers

-- what the test for numbers below 0 tells
pub below_none : (k j : ℤ) → j ≡ k → lt_z j (pos 0) ≡ true → k <ℤ pos 0
below_none k j e t = let h : lt_z k (pos 0) ≡ true = ap (λ i. lt_z i (pos 0)) (sym e) ∙ t in grind (arith, ints)

pub from_none : (k j : ℤ) → j ≡ k → lt_z j (pos 0) ≡ false → pos 0 ≤ℤ k
from_none k j e t = let h : lt_z k (pos 0) ≡ false = ap (λ i. lt_z i (pos 0)) (sym e) ∙ t in grind (arith, ints)

-- a number from 0 on is its absolute value
abs_ahead : (k : ℤ) (n : ℕ) → n ≡ unsigned_abs k → pos 0 ≤ℤ k → pos n ≡ k
abs_ahead (pos m) n e l = ap pos e
abs_ahead (negsuc m) n e l = absurd (omega (arith, ints))

-- and one below 0 its negative
abs_back : (k : ℤ) (n : ℕ) → n ≡ unsigned_abs k → k <ℤ pos 0 → neg_ℤ (pos n) ≡ k
abs_back (pos m) n e l = absurd (omega (arith, ints))
abs_back (negsuc m) n e l = ap (λ j. neg_ℤ (pos j)) e

-- steps by a pair are its power
pub walked_ahead : {E : Type 0} (shape : Shape) (L : List Entry) (p : List Row) (k : ℤ) (n : ℕ) (r : Result (List Entry) E) → IsPair shape p → n ≡ unsigned_abs k → pos 0 ≤ℤ k
    → IfOk r (IsWalked shape L p n) → IfOk r (IsFollowed shape L p k)
walked_ahead shape L p k n r pair e l = IfOk-weaker r (IsWalked shape L p n) (IsFollowed shape L p k) (λ M h. subst (λ j. IsFollowed shape L p j M) (abs_ahead k n e l) (h.ahead p pair (first_power shape p pair)))

-- and steps by its inverse are its power below 0
pub walked_back : {E : Type 0} (shape given_shape : Shape) (L : List Entry) (p g : List Row) (k : ℤ) (n : ℕ) (r : Result (List Entry) E) → given_shape ≡ shape → IsPair shape p → IsPower shape p (neg_ℤ (pos 1)) g → n ≡ unsigned_abs k → k <ℤ pos 0
    → IfOk r (IsWalked given_shape L g n) → IfOk r (IsFollowed shape L p k)
walked_back shape given_shape L p g k n r shapes pair power e l = IfOk-weaker r (IsWalked given_shape L g n) (IsFollowed shape L p k) (λ M h. subst (λ j. IsFollowed shape L p j M) (abs_back k n e l) ((subst (λ (s : Shape). IsWalked s L g n M) shapes h).back p pair power))

-- one step by a power
pub leaped : {E : Type 0} (shape given_shape : Shape) (L : List Entry) (p s : List Row) (k : ℤ) (r : Result (List Entry) E) → given_shape ≡ shape → IsPair shape p → IsValueList shape L → IsPower shape p k s
    → IfOk r (IsFollowed given_shape L s (pos 1)) → IfOk r (IsFollowed shape L p k)
leaped shape given_shape L p s k r shapes pair value power = IfOk-weaker r (IsFollowed given_shape L s (pos 1)) (IsFollowed shape L p k) (λ M h. followed_power shape p s k L M pair value power (subst (λ (t : Shape). IsFollowed t L s (pos 1) M) shapes h))
