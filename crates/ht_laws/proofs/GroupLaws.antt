-- The group laws, up to pairs that move words alike.
use Rattle.std.proofs.Common.{◌≡◌, ℕ, ◌+◌, ◌≤◌, List, ◌++◌, sym, ◌∙◌, subst, arith, ℤ, pos, negsuc, ◌*ℤ◌, ◌↔◌}
use Rattle.std.proofs.Math.IntN.{*ℤ_comm}
use Rattle.ht_word.specs.Words.{IsLetters, IsWordOf, ◌·◌}
use Rattle.ht_word.specs.declared.shape.Shape.{Shape}
use Rattle.ht_word.specs.declared.word.Word.{Word}
use Rattle.ht_word.proofs.WordLaws.{after-append, after_cancel_right, letters_append, ones, ones_letters, word_after}
use Rattle.ht_pair.specs.Actions.{Moves, Alike}
use Rattle.ht_pair.specs.Pairs.{IsPair, turned, identity}
use Rattle.ht_pair.specs.Products.{IsProduct, IsPower}
use Rattle.ht_pair.specs.Steps.{Steps, Carries}
use Rattle.ht_pair.specs.declared.row.Row.{Row}
use Rattle.ht_pair.proofs.IdentityLaws.{identity_pair, identity_moves}
use Rattle.ht_pair.proofs.MovesLaws.{moves_extends, moves_back, moves_map, turned_pair}
use Rattle.ht_pair.proofs.PowerLaws.{power_once}
use Rattle.ht_pair.proofs.PowerProducts.{power_mul}
use Rattle.ht_pair.proofs.PrefixMapLaws.{IsCarrying, Then, then_map, long_word, moved_long}
use Rattle.ht_pair.proofs.ProductLaws.{product_once, inverse_is, product_first_alike, product_second_alike}
use Rattle.ht_pair.proofs.StepsLaws.{steps_map}

-- a product moves words as its factors one after another, once they are long enough
pub product_moves : (shape : Shape) (p q s : List Row) (product : IsProduct shape p q s) (k : ℕ) → (moves_map shape s product.pair).ahead.bound ≤ k → (u v w : Word) → IsWordOf shape u → Moves p u v → Moves q v w → Moves s (u · ones k) (w · ones k)
product_moves shape p q s product k low u v w word f g =
    let z = ones k in
    let x = moved_long shape (Moves s) (moves_map shape s product.pair).ahead u k word low in
    subst (Moves s (u · z)) (sym (product.composed (u · z) (v · z) (w · z) x.0 (long_word shape u k word) (moves_extends p u v z f) (moves_extends q v w z g) x.1)) x.1

-- products are associative
pub product_assoc : (shape : Shape) (p q s first second left right : List Row) → IsPair shape p → IsPair shape q → IsPair shape s → IsProduct shape p q first → IsProduct shape first s left → IsProduct shape q s second → IsProduct shape p second right → Alike shape left right
product_assoc shape p q s first second left right pair_p pair_q pair_s hf hl hs hr = λ u v v' word f g.
    let mp = moves_map shape p pair_p in
    let all = (then_map shape (Then (Moves p) (Moves q)) (Moves s) (then_map shape (Moves p) (Moves q) mp (moves_map shape q pair_q)) (moves_map shape s pair_s)).ahead in
    let z = ones all.bound in
    let long = long_word shape u all.bound word in
    -- p, q and s lead from u to x, to y and to t
    let t = moved_long shape (Then (Then (Moves p) (Moves q)) (Moves s)) all u all.bound word (omega arith) in
    let y = t.1.middle in
    let x = t.1.first.middle in
    let k = (moves_map shape first hf.pair).ahead.bound + (moves_map shape second hs.pair).ahead.bound in
    let e = ones k in
    let by_first = product_moves shape p q first hf k (omega arith) (u · z) x y long t.1.first.first t.1.first.second in
    let by_second = product_moves shape q s second hs k (omega arith) x y t.0 (mp.ahead.word (u · z) x long t.1.first.first) t.1.first.second t.1.second in
    let longer = long_word shape (u · z) k long in
    let to_left : t.0 · e ≡ (v · z) · e = hl.composed ((u · z) · e) (y · e) (t.0 · e) ((v · z) · e) longer by_first (moves_extends s y t.0 e t.1.second) (moves_extends left (u · z) (v · z) e (moves_extends left u v z f)) in
    let to_right : t.0 · e ≡ (v' · z) · e = hr.composed ((u · z) · e) (x · e) (t.0 · e) ((v' · z) · e) longer (moves_extends p (u · z) x e t.1.first.first) by_second (moves_extends right (u · z) (v' · z) e (moves_extends right u v' z g)) in
    after_cancel_right v v' z (after_cancel_right (v · z) (v' · z) e (sym to_left ∙ to_right))

-- the identity behind an element
pub identity_after : (shape : Shape) (p : List Row) → IsPair shape p → IsProduct shape p (identity shape) p
identity_after shape p pair = record {
  pair = pair;
  composed = λ u v w w' word f g e. sym (identity_moves shape v w g) ∙ (moves_map shape p pair).ahead.single u v w' word f e;
}

-- the identity before an element
pub identity_before : (shape : Shape) (p : List Row) → IsPair shape p → IsProduct shape (identity shape) p p
identity_before shape p pair = record {
  pair = pair;
  composed = λ u v w w' word f g e. (moves_map shape p pair).ahead.single u w w' word (subst (λ t. Moves p t w) (sym (identity_moves shape u v f)) g) e;
}

-- the turned pair behind an element
pub turned_after : (shape : Shape) (p : List Row) → IsPair shape p → IsProduct shape p (turned p) (identity shape)
turned_after shape p pair = record {
  pair = identity_pair shape;
  composed = λ u v w w' word f g e.
      let m = moves_map shape p pair in
      m.behind.single v w u (m.ahead.word u v word f) (moves_back p w v g) f ∙ identity_moves shape u w' e;
}

-- the turned pair before an element
pub turned_before : (shape : Shape) (p : List Row) → IsPair shape p → IsProduct shape (turned p) p (identity shape)
turned_before shape p pair = record {
  pair = identity_pair shape;
  composed = λ u v w w' word f g e.
      let m = moves_map shape p pair in
      let back = moves_back p v u f in
      m.ahead.single v w u (m.behind.word u v word back) g back ∙ identity_moves shape u w' e;
}

-- the power -1 is alike the turned pair
turned_alike_inverse : (shape : Shape) (p q : List Row) → IsPair shape p → IsPower shape p (negsuc 0) q → Alike shape (turned p) q
turned_alike_inverse shape p q pair power = power_once shape p (turned p) q (negsuc 0) pair (inverse_is shape p pair) power

-- the inverse behind an element
pub inverse_after : (shape : Shape) (p q : List Row) → IsPair shape p → IsPower shape p (negsuc 0) q → IsProduct shape p q (identity shape)
inverse_after shape p q pair power = product_second_alike shape p (turned p) q (identity shape) pair (turned_pair shape p pair) (turned_alike_inverse shape p q pair power) (turned_after shape p pair)

-- the inverse before an element
pub inverse_before : (shape : Shape) (p q : List Row) → IsPair shape p → IsPower shape p (negsuc 0) q → IsProduct shape q p (identity shape)
inverse_before shape p q pair power = product_first_alike shape (turned p) q p (identity shape) (turned_pair shape p pair) pair (turned_alike_inverse shape p q pair power) (turned_before shape p pair)

-- products of alike pairs are alike
pub products_alike : (shape : Shape) (p p' q q' s s' : List Row) → IsPair shape p → IsPair shape p' → IsPair shape q → IsPair shape q' → Alike shape p p' → Alike shape q q' → IsProduct shape p q s → IsProduct shape p' q' s' → Alike shape s s'
products_alike shape p p' q q' s s' pair_p pair_p' pair_q pair_q' first second h g =
    product_once shape p' q' s s' pair_p' pair_q' (product_second_alike shape p' q q' s pair_p' pair_q second (product_first_alike shape p p' q s pair_p pair_q first h)) g

-- a pair alike to a product is that product
pub product_each : (shape : Shape) (p q s t : List Row) → IsPair shape t → IsProduct shape p q s → Alike shape s t → IsProduct shape p q t
product_each shape p q s t pair product alike = record {
  pair = pair;
  composed = λ u v w w' word f g e.
      let k = (moves_map shape s product.pair).ahead.bound in
      let z = ones k in
      after_cancel_right w w' z (alike (u · z) (w · z) (w' · z) (long_word shape u k word) (product_moves shape p q s product k (omega arith) u v w word f g) (moves_extends t u w' z e));
}

-- the inverse of a product is the product of the inverses in reverse order
pub product_turned : (shape : Shape) (p q s : List Row) → IsPair shape p → IsPair shape q → IsProduct shape p q s → IsProduct shape (turned q) (turned p) (turned s)
product_turned shape p q s pair_p pair_q product = record {
  pair = turned_pair shape s product.pair;
  composed = λ u v w w' word f g e.
      -- p sends w to v, q sends v to u, and s sends w' to u
      let ms = moves_map shape s product.pair in
      let by_q = moves_back q v u f in
      let by_p = moves_back p w v g in
      let by_s = moves_back s w' u e in
      let word_w = (moves_map shape p pair_p).behind.word v w ((moves_map shape q pair_q).behind.word u v word by_q) by_p in
      let k = ms.ahead.bound in
      let z = ones k in
      after_cancel_right w w' z (ms.behind.single (u · z) (w · z) (w' · z) (long_word shape u k word) (product_moves shape p q s product k (omega arith) w v u word_w by_p by_q) (moves_extends s w' u z by_s));
}

-- the exponents of powers of powers multiply
pub powers_multiply : (shape : Shape) (p s t : List Row) (j k : ℤ) → IsPair shape p → IsPower shape p j s → IsPower shape s k t → IsPower shape p (j *ℤ k) t
powers_multiply shape p s t j k pair hs ht = subst (λ i. IsPower shape p i t) (*ℤ_comm k j) (power_mul shape p s t j k pair hs ht)

-- ---- what products and powers carry

-- where F and G lead from a word to the same words, and F replaces the prefix u by v, G does
carried_too : (shape : Shape) (F G : Word → Word → Type 0) (m : IsCarrying shape F) → ((u w : Word) (z : List ℕ) → G u w → G (u · z) (w · z)) → ((u x w : Word) → IsWordOf shape u → F u x → G u w → x ≡ w) → (u v : Word) → IsWordOf shape u
    → ((z : List ℕ) (w : Word) → IsLetters shape z → F (u · z) w → w ≡ v · z) → (z : List ℕ) (w : Word) → IsLetters shape z → G (u · z) w → w ≡ v · z
carried_too shape F G m extends same u v word carried z w letters g =
    let y = ones m.bound in
    let word_z = word_after shape u z word letters in
    let x = moved_long shape F m (u · z) m.bound word_z (omega arith) in
    let there : x.0 ≡ v · (z ++ y) = carried (z ++ y) x.0 (letters_append shape z y letters (ones_letters shape m.bound)) (subst (λ t. F t x.0) (after-append u z y) x.1) in
    let is : x.0 ≡ w · y = same ((u · z) · y) x.0 (w · y) (long_word shape (u · z) m.bound word_z) x.1 (extends (u · z) w y g) in
    after_cancel_right w (v · z) y (sym is ∙ there ∙ sym (after-append v z y))

-- one step is a move
one_move : (p : List Row) (u w : Word) → Steps p (pos 1) u w → Moves p u w
one_move p u w s = subst (λ t. Moves p t w) (sym s.1) s.2

-- a product carries words as its first factor and then its second do
pub product_carries : (shape : Shape) (p q s : List Row) (u v w : Word) → IsPair shape p → IsPair shape q → IsProduct shape p q s → Carries shape p (pos 1) u v → Carries shape q (pos 1) v w → Carries shape s (pos 1) u w
product_carries shape p q s u v w pair_p pair_q product c d = record {
  word = c.word;
  carried = carried_too shape (Then (Steps p (pos 1)) (Steps q (pos 1))) (Steps s (pos 1))
      ((then_map shape (Steps p (pos 1)) (Steps q (pos 1)) (steps_map shape p pair_p (pos 1)) (steps_map shape q pair_q (pos 1))).ahead)
      ((steps_map shape s product.pair (pos 1)).ahead.extends)
      (λ a b b' word f g. product.composed a f.middle b b' word (one_move p a f.middle f.first) (one_move q f.middle b f.second) (one_move s a b' g))
      u w c.word
      (λ z b letters f. d.carried z b letters (subst (λ t. Steps q (pos 1) t b) (c.carried z f.middle letters f.first) f.second));
}

-- what the k-th power carries, it carries as an element of its own
pub carries_by_power : (shape : Shape) (p s : List Row) (k : ℤ) (u v : Word) → IsPair shape p → IsPower shape p k s → Carries shape p k u v ↔ Carries shape s (pos 1) u v
carries_by_power shape p s k u v pair power =
    let mp = (steps_map shape p pair k).ahead in
    let ms = (steps_map shape s power.pair (pos 1)).ahead in (
      (λ c. record { word = c.word; carried = carried_too shape (Steps p k) (Steps s (pos 1)) mp ms.extends (λ a b b' word f g. power.stepped a b b' word f (one_move s a b' g)) u v c.word c.carried }),
      (λ c. record { word = c.word; carried = carried_too shape (Steps s (pos 1)) (Steps p k) ms mp.extends (λ a b b' word f g. sym (power.stepped a b' b word g (one_move s a b f))) u v c.word c.carried }),
    )
