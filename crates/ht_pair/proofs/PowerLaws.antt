-- Powers of pairs, and power conjugacy.
use Rattle.std.proofs.Common.{◌≡◌, ◌≢◌, ◌+◌, List, refl, sym, ◌∙◌, subst, arith, ℤ, pos, negsuc, neg_ℤ, ◌+ℤ◌}
use Rattle.ht_word.specs.Words.{◌·◌}
use Rattle.ht_word.specs.declared.shape.Shape.{Shape}
use Rattle.ht_word.proofs.WordLaws.{after_cancel_right, ones}
use Rattle.ht_pair.specs.Actions.{Moves, Alike}
use Rattle.ht_pair.specs.Conjugacy.{ArePowerConjugate}
use Rattle.ht_pair.specs.Pairs.{IsPair, identity, turned}
use Rattle.ht_pair.specs.Products.{IsProduct, IsPower}
use Rattle.ht_pair.specs.Steps.{Steps}
use Rattle.ht_pair.specs.declared.row.Row.{Row}
use Rattle.ht_pair.proofs.AlikePowerLaws.{steps_alike}
use Rattle.ht_pair.proofs.ConjugacyLaws.{conjugate_sym}
use Rattle.ht_pair.proofs.IdentityLaws.{identity_pair, identity_moves}
use Rattle.ht_pair.proofs.MovesLaws.{turned_pair, moves_map}
use Rattle.ht_pair.proofs.PrefixMapLaws.{Then, then_map, long_word, moved_long, realised}
use Rattle.ht_pair.proofs.ProductLaws.{inverse_is}
use Rattle.ht_pair.proofs.StepsLaws.{steps_map, steps_add}
use Rattle.ht_pair.proofs.TurnedLaws.{steps_of_turned, steps_to_turned}

-- each power is an element
pub power_exists : (shape : Shape) (p : List Row) (k : ℤ) → IsPair shape p → (s : List Row) × IsPower shape p k s
power_exists shape p k pair =
    let m = steps_map shape p pair k in
    let s = realised shape (Steps p k) m in
    (s.rows, record { pair = s.pair; stepped = λ u v w h f g. m.ahead.single u v w h f (s.by u w g) })

-- and just one
pub power_once : (shape : Shape) (p s t : List Row) (k : ℤ) → IsPair shape p → IsPower shape p k s → IsPower shape p k t → Alike shape s t
power_once shape p s t k pair hs ht = λ w v v' h f g.
    let mp = (steps_map shape p pair k).ahead in
    let z = ones mp.bound in
    let x = moved_long shape (Steps p k) mp w mp.bound h (omega arith) in
    let hz = long_word shape w mp.bound h in
    let first : x.0 ≡ v · z = hs.stepped (w · z) x.0 (v · z) hz x.1 ((moves_map shape s hs.pair).ahead.extends w v z f) in
    let second : x.0 ≡ v' · z = ht.stepped (w · z) x.0 (v' · z) hz x.1 ((moves_map shape t ht.pair).ahead.extends w v' z g) in
    after_cancel_right v v' z (sym first ∙ second)

-- the power 0 is the identity
pub zero_power : (shape : Shape) (p s : List Row) → IsPower shape p (pos 0) s → Alike shape s (identity shape)
zero_power shape p s h = λ w v v' word m i. sym (h.stepped w w v word refl m) ∙ identity_moves shape w v' i

-- the identity is the power 0
pub identity_power : (shape : Shape) (p : List Row) → IsPower shape p (pos 0) (identity shape)
identity_power shape p = record { pair = identity_pair shape; stepped = λ u v w h f g. sym f ∙ identity_moves shape u w g }

-- a pair is its power 1
pub first_power : (shape : Shape) (p : List Row) → IsPair shape p → IsPower shape p (pos 1) p
first_power shape p pair = record {
  pair = pair;
  stepped = λ u v w h f g. (moves_map shape p pair).ahead.single u v w h (subst (λ t. Moves p t v) (sym f.1) f.2) g;
}

-- the product of the powers j and k is the power j + k
pub power_add : (shape : Shape) (p s t q : List Row) (j k : ℤ) → IsPair shape p → IsPower shape p j s → IsPower shape p k t → IsProduct shape s t q → IsPower shape p (j +ℤ k) q
power_add shape p s t q j k pair hs ht product = record {
  pair = product.pair;
  stepped = λ u v w h f g.
      let first = steps_map shape p pair j in
      let sum = (steps_map shape p pair (j +ℤ k)).ahead in
      let steps = (then_map shape (Steps p j) (Steps p k) first (steps_map shape p pair k)).ahead in
      let moves = (then_map shape (Moves s) (Moves t) (moves_map shape s hs.pair) (moves_map shape t ht.pair)).ahead in
      let both = steps.bound + moves.bound in
      let z = ones both in
      let long = long_word shape u both h in
      let x = moved_long shape (Then (Steps p j) (Steps p k)) steps u both h (omega arith) in
      let y = moved_long shape (Then (Moves s) (Moves t)) moves u both h (omega arith) in
      let stepped : v · z ≡ x.0 = sum.single (u · z) (v · z) x.0 long (sum.extends u v z f) (steps_add shape p pair j k (u · z) x.1.middle x.0 long x.1.first x.1.second) in
      let middle : x.1.middle ≡ y.1.middle = hs.stepped (u · z) x.1.middle y.1.middle long x.1.first y.1.first in
      let word = first.ahead.word (u · z) x.1.middle long x.1.first in
      let moved : x.0 ≡ y.0 = ht.stepped x.1.middle x.0 y.0 word x.1.second (subst (λ a. Moves t a y.0) (sym middle) y.1.second) in
      let composed : y.0 ≡ w · z = product.composed (u · z) y.1.middle y.0 (w · z) long y.1.first y.1.second ((moves_map shape q product.pair).ahead.extends u w z g) in
      after_cancel_right v w z (stepped ∙ moved ∙ composed);
}

-- alike pairs have the same powers
pub power_of_alike : (shape : Shape) (p q s : List Row) (k : ℤ) → IsPair shape p → IsPair shape q → Alike shape p q → IsPower shape p k s → IsPower shape q k s
power_of_alike shape p q s k pair_p pair_q alike power = record {
  pair = power.pair;
  stepped = λ u v w h f g.
      let m = (steps_map shape p pair_p k).ahead in
      let z = ones m.bound in
      let long = long_word shape u m.bound h in
      let x = moved_long shape (Steps p k) m u m.bound h (omega arith) in
      let first : x.0 ≡ v · z = steps_alike shape p q pair_p pair_q alike k (u · z) x.0 (v · z) long x.1 ((steps_map shape q pair_q k).ahead.extends u v z f) in
      let second : x.0 ≡ w · z = power.stepped (u · z) x.0 (w · z) long x.1 ((moves_map shape s power.pair).ahead.extends u w z g) in
      after_cancel_right v w z (sym first ∙ second);
}

-- the k-th power of the inverse is the power -k
pub power_of_inverse : (shape : Shape) (p q s : List Row) (k : ℤ) → IsPair shape p → IsPower shape p (negsuc 0) q → IsPower shape q k s → IsPower shape p (neg_ℤ k) s
power_of_inverse shape p q s k pair inverse power =
    let other = power_of_alike shape q (turned p) s k inverse.pair (turned_pair shape p pair) (power_once shape p q (turned p) (negsuc 0) pair inverse (inverse_is shape p pair)) power in
    record { pair = power.pair; stepped = λ u v w h f g. other.stepped u v w h (steps_to_turned p k u v f) g }

-- and the power -k is the k-th power of the inverse
pub power_to_inverse : (shape : Shape) (p q s : List Row) (k : ℤ) → IsPair shape p → IsPower shape p (negsuc 0) q → IsPower shape p (neg_ℤ k) s → IsPower shape q k s
power_to_inverse shape p q s k pair inverse power =
    let other : IsPower shape (turned p) k s = record { pair = power.pair; stepped = λ u v w h f g. power.stepped u v w h (steps_of_turned p k u v f) g } in
    power_of_alike shape (turned p) q s k (turned_pair shape p pair) inverse.pair (power_once shape p (turned p) q (negsuc 0) pair (inverse_is shape p pair) inverse) other

-- power conjugacy is symmetric
pub power_conjugate_sym : (shape : Shape) (a b : List Row) (i j : ℤ) → ArePowerConjugate shape a b i j → ArePowerConjugate shape b a j i
power_conjugate_sym shape a b i j h = record {
  first = h.second;
  second = h.first;
  first_power = h.second_power;
  second_power = h.first_power;
  first_moves = h.second_moves;
  second_moves = h.first_moves;
  conjugate = conjugate_sym shape h.first h.second h.first_power.pair h.second_power.pair h.conjugate;
}

-- its exponents are not 0
pub power_conjugate_some : (shape : Shape) (a b : List Row) (i j : ℤ) → ArePowerConjugate shape a b i j → i ≢ pos 0
power_conjugate_some shape a b i j h none = h.first_moves (zero_power shape a h.first (subst (λ k. IsPower shape a k h.first) none h.first_power))
