-- Products and inverses of pairs.
use Rattle.std.proofs.Common.{◌≡◌, List, sym, ◌∙◌, subst, negsuc, arith}
use Rattle.ht_word.specs.Words.{◌·◌}
use Rattle.ht_word.specs.declared.shape.Shape.{Shape}
use Rattle.ht_word.proofs.WordLaws.{after_cancel_right, ones}
use Rattle.ht_pair.specs.Actions.{Moves, Alike}
use Rattle.ht_pair.specs.Pairs.{IsPair, turned}
use Rattle.ht_pair.specs.Products.{IsProduct, IsPower}
use Rattle.ht_pair.specs.declared.row.Row.{Row}
use Rattle.ht_pair.proofs.MovesLaws.{turned_pair, moves_map, moves_extends}
use Rattle.ht_pair.proofs.PrefixMapLaws.{Then, then_map, long_word, moved_long, IsRealised, realised}

-- each two pairs have a product
pub product_exists : (shape : Shape) (p q : List Row) → IsPair shape p → IsPair shape q → IsRealised shape (Then (Moves p) (Moves q))
product_exists shape p q pair_p pair_q = realised shape (Then (Moves p) (Moves q)) (then_map shape (Moves p) (Moves q) (moves_map shape p pair_p) (moves_map shape q pair_q))

-- a pair that moves words as p and then q is their product
pub product_of : (shape : Shape) (p q : List Row) (pair_p : IsPair shape p) (pair_q : IsPair shape q) (s : IsRealised shape (Then (Moves p) (Moves q))) → IsProduct shape p q s.rows
product_of shape p q pair_p pair_q s = record {
  pair = s.pair;
  composed = λ u v w w' h f g e. (then_map shape (Moves p) (Moves q) (moves_map shape p pair_p) (moves_map shape q pair_q)).ahead.single u w w' h (record { middle = v; first = f; second = g }) (s.by u w' e);
}

-- and just one
pub product_once : (shape : Shape) (p q s t : List Row) → IsPair shape p → IsPair shape q → IsProduct shape p q s → IsProduct shape p q t → Alike shape s t
product_once shape p q s t pair_p pair_q hs ht = λ u w w' h f g.
    let m = (then_map shape (Moves p) (Moves q) (moves_map shape p pair_p) (moves_map shape q pair_q)).ahead in
    let z = ones m.bound in
    let x = moved_long shape (Then (Moves p) (Moves q)) m u m.bound h (omega arith) in
    let long = long_word shape u m.bound h in
    let first : x.0 ≡ w · z = hs.composed (u · z) x.1.middle x.0 (w · z) long x.1.first x.1.second ((moves_map shape s hs.pair).ahead.extends u w z f) in
    let second : x.0 ≡ w' · z = ht.composed (u · z) x.1.middle x.0 (w' · z) long x.1.first x.1.second ((moves_map shape t ht.pair).ahead.extends u w' z g) in
    after_cancel_right w w' z (sym first ∙ second)

-- the turned pair is the inverse
pub inverse_is : (shape : Shape) (p : List Row) → IsPair shape p → IsPower shape p (negsuc 0) (turned p)
inverse_is shape p pair = record {
  pair = turned_pair shape p pair;
  stepped = λ u v w h f g. (moves_map shape (turned p) (turned_pair shape p pair)).ahead.single u v w h (subst (λ t. Moves (turned p) t v) (sym f.1) f.2) g;
}

-- a product of p is one of each pair alike p
pub product_first_alike : (shape : Shape) (p p' q s : List Row) → IsPair shape p → IsPair shape q → Alike shape p p' → IsProduct shape p q s → IsProduct shape p' q s
product_first_alike shape p p' q s pair_p pair_q alike h = record {
  pair = h.pair;
  composed = λ u v w w' word f g e.
      let m = (moves_map shape p pair_p).ahead in
      let z = ones m.bound in
      let x = moved_long shape (Moves p) m u m.bound word (omega arith) in
      let long = long_word shape u m.bound word in
      let there : x.0 ≡ v · z = alike (u · z) x.0 (v · z) long x.1 (moves_extends p' u v z f) in
      after_cancel_right w w' z (h.composed (u · z) (v · z) (w · z) (w' · z) long (subst (Moves p (u · z)) there x.1) (moves_extends q v w z g) (moves_extends s u w' z e));
}

-- and so with q
pub product_second_alike : (shape : Shape) (p q q' s : List Row) → IsPair shape p → IsPair shape q → Alike shape q q' → IsProduct shape p q s → IsProduct shape p q' s
product_second_alike shape p q q' s pair_p pair_q alike h = record {
  pair = h.pair;
  composed = λ u v w w' word f g e.
      let m = (moves_map shape q pair_q).ahead in
      let z = ones m.bound in
      let word_v = (moves_map shape p pair_p).ahead.word u v word f in
      let x = moved_long shape (Moves q) m v m.bound word_v (omega arith) in
      let there : x.0 ≡ w · z = alike (v · z) x.0 (w · z) (long_word shape v m.bound word_v) x.1 (moves_extends q' v w z g) in
      after_cancel_right w w' z (h.composed (u · z) (v · z) (w · z) (w' · z) (long_word shape u m.bound word) (moves_extends p u v z f) (subst (Moves q (v · z)) there x.1) (moves_extends s u w' z e));
}
