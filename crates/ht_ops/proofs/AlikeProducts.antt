-- Pairs that move words as a power or a product does.
use Rattle.std.proofs.Common.{◌≡◌, ◌≤◌, ℕ, List, length, sym, subst, ◌∙◌, arith, ℤ, Result, Ok, Err, IfOk, OnOk}
use Rattle.ht_word.specs.Words.{◌·◌}
use Rattle.ht_word.specs.declared.shape.Shape.{Shape}
use Rattle.ht_word.proofs.WordLaws.{after_cancel_right, ones}
use Rattle.ht_pair.specs.declared.row.Row.{Row}
use Rattle.ht_pair.specs.Actions.{Moves, Alike, IsCanonicalFor}
use Rattle.ht_pair.specs.Pairs.{IsPair, longest_of}
use Rattle.ht_pair.specs.Elements.{ElementValue}
use Rattle.ht_pair.specs.Products.{IsProduct, IsPower}
use Rattle.ht_pair.specs.Sizes.{IsLarge}
use Rattle.ht_pair.proofs.MovesLaws.{moves_map}
use Rattle.ht_pair.proofs.PrefixMapLaws.{long_word, moved_long}
use Rattle.ht_pair.proofs.ProductLaws.{product_once}
use Rattle.ht_pair.proofs.SizeLaws.{alike_not_large}
use Rattle.ht_pair.proofs.StepsLaws.{steps_map}

-- a pair that moves words as a power does is that power
pub power_alike : (shape : Shape) (p q s : List Row) (k : ℤ) → IsPair shape p → IsPower shape p k q → IsPair shape s → Alike shape s q → IsPower shape p k s
power_alike shape p q s k pair power pair_s alike = record {
  pair = pair_s;
  stepped = λ u v w h f g.
      let m = (moves_map shape q power.pair).ahead in
      let z = ones m.bound in
      let x = moved_long shape (Moves q) m u m.bound h (omega arith) in
      let long = long_word shape u m.bound h in
      let first : v · z ≡ x.0 = power.stepped (u · z) (v · z) x.0 long ((steps_map shape p pair k).ahead.extends u v z f) x.1 in
      let second : w · z ≡ x.0 = alike (u · z) (w · z) x.0 long ((moves_map shape s pair_s).ahead.extends u w z g) x.1 in
      after_cancel_right v w z (first ∙ sym second);
}

-- a pair that moves words as a product does is that product
product_alike : (shape : Shape) (p q t s : List Row) → IsPair shape p → IsPair shape q → IsProduct shape p q t → IsPair shape s → Alike shape s t → IsProduct shape p q s
product_alike shape p q t s pair_p pair_q product pair_s alike = record {
  pair = pair_s;
  composed = λ u v w w' h f g e.
      let m = (moves_map shape t product.pair).ahead in
      let z = ones m.bound in
      let x = moved_long shape (Moves t) m u m.bound h (omega arith) in
      let long = long_word shape u m.bound h in
      let first : w · z ≡ x.0 = product.composed (u · z) (v · z) (w · z) x.0 long ((moves_map shape p pair_p).ahead.extends u v z f) ((moves_map shape q pair_q).ahead.extends v w z g) x.1 in
      let second : w' · z ≡ x.0 = alike (u · z) (w' · z) x.0 long ((moves_map shape s pair_s).ahead.extends u w' z e) x.1 in
      after_cancel_right w w' z (first ∙ sym second);
}

-- the canonical pair of a product's rows is the product
pub product_canonical : (shape given_shape : Shape) (p q rows : List Row) (s : ElementValue) → given_shape ≡ shape → IsPair shape p → IsPair shape q → IsProduct shape p q rows
    → (s.shape ≡ given_shape) × IsCanonicalFor given_shape s.rows rows → (s.shape ≡ shape) × IsProduct shape p q s.rows
product_canonical shape given_shape p q rows s shapes pair_p pair_q product h =
    let c = subst (λ (t : Shape). IsCanonicalFor t s.rows rows) shapes h.1 in
    (h.0 ∙ shapes, product_alike shape p q rows s.rows pair_p pair_q product c.pair c.alike)

-- no pair that is the product is large where that canonical pair is within the limits
product_not_large : (shape given_shape : Shape) (p q rows : List Row) (e : ElementValue) → given_shape ≡ shape → IsPair shape p → IsPair shape q → IsProduct shape p q rows
    → (e.shape ≡ given_shape) × IsCanonicalFor given_shape e.rows rows → (length e.rows ≤ 8192) × (longest_of e.rows ≤ 1024)
    → (s : List Row) (i j : ℕ) → IsProduct shape p q s → ¬ IsLarge shape s i j
product_not_large shape given_shape p q rows e shapes pair_p pair_q product h small s i j other =
    let c = subst (λ (t : Shape). IsCanonicalFor t e.rows rows) shapes h.1 in
    let own = product_canonical shape given_shape p q rows e shapes pair_p pair_q product h in
    alike_not_large shape e.rows s i j (record { canonical = c.form; few_rows = small.0; short_words = small.1 }) other.pair (product_once shape p q s e.rows pair_p pair_q other own.1)

-- of what is made of the product's rows
pub made_not_large : {E : Type 0} (shape given_shape : Shape) (p q rows : List Row) (made : Result ElementValue E) → given_shape ≡ shape → IsPair shape p → IsPair shape q → IsProduct shape p q rows
    → IfOk made (λ e. (e.shape ≡ given_shape) × IsCanonicalFor given_shape e.rows rows) → IfOk made (λ e. (length e.rows ≤ 8192) × (longest_of e.rows ≤ 1024))
    → OnOk made ((s : List Row) (i j : ℕ) → IsProduct shape p q s → ¬ IsLarge shape s i j)
made_not_large shape given_shape p q rows (Ok e) shapes pair_p pair_q product h small = product_not_large shape given_shape p q rows e shapes pair_p pair_q product h small
made_not_large shape given_shape p q rows (Err f) shapes pair_p pair_q product h small = tt
