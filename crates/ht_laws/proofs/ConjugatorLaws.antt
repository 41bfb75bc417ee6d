-- Conjugators: by products, and of pairs that move words alike.
use Rattle.std.proofs.Common.{◌≡◌, List, sym, ◌∙◌, subst, arith}
use Rattle.ht_word.specs.Words.{◌·◌}
use Rattle.ht_word.specs.declared.shape.Shape.{Shape}
use Rattle.ht_word.proofs.WordLaws.{after_cancel_right, ones}
use Rattle.ht_pair.specs.Actions.{Moves, Alike}
use Rattle.ht_pair.specs.Conjugacy.{Conjugates}
use Rattle.ht_pair.specs.Pairs.{IsPair, turned}
use Rattle.ht_pair.specs.Products.{IsProduct}
use Rattle.ht_pair.specs.declared.row.Row.{Row}
use Rattle.ht_pair.proofs.AlikeLaws.{alike_sym}
use Rattle.ht_pair.proofs.ConjugacyLaws.{conjugates_product, conjugates_alike}
use Rattle.ht_pair.proofs.MovesLaws.{moves_extends, moves_back, moves_turned, moves_map, turned_pair}
use Rattle.ht_pair.proofs.PrefixMapLaws.{Then, then_map, long_word, moved_long}
use Rattle.ht_pair.proofs.ProductLaws.{product_exists, product_of, product_once}
use Rattle.ht_laws.proofs.GroupLaws.{product_moves}

-- the inverse of h, a and then h lead where b leads, if h conjugates a into b
pub conjugate_alike : (shape : Shape) (h a b s t : List Row) → IsPair shape a → IsProduct shape (turned h) a s → IsProduct shape s h t → Conjugates shape h a b → Alike shape t b
conjugate_alike shape h a b s t pair_a hs ht c = λ u v v' word f g.
    let mh = moves_map shape h c.pair in
    let mt = moves_map shape (turned h) (turned_pair shape h c.pair) in
    let ma = moves_map shape a pair_a in
    let all = (then_map shape (Then (Moves (turned h)) (Moves a)) (Moves h) (then_map shape (Moves (turned h)) (Moves a) mt ma) mh).ahead in
    let z = ones all.bound in
    let long = long_word shape u all.bound word in
    -- h sends x to u, a sends x to y, and h sends y to r
    let r = moved_long shape (Then (Then (Moves (turned h)) (Moves a)) (Moves h)) all u all.bound word (omega arith) in
    let y = r.1.middle in
    let x = r.1.first.middle in
    let k = (moves_map shape s hs.pair).ahead.bound in
    let e = ones k in
    let by_s = product_moves shape (turned h) a s hs k (omega arith) (u · z) x y long r.1.first.first r.1.first.second in
    let to_t : r.0 · e ≡ (v · z) · e = ht.composed ((u · z) · e) (y · e) (r.0 · e) ((v · z) · e) (long_word shape (u · z) k long) by_s (moves_extends h y r.0 e r.1.second) (moves_extends t (u · z) (v · z) e (moves_extends t u v z f)) in
    let up = moves_back h x (u · z) r.1.first.first in
    let to_b : v' · z ≡ r.0 = c.commutes x y (u · z) r.0 (v' · z) (mh.behind.word (u · z) x long up) r.1.first.second r.1.second up (moves_extends b u v' z g) in
    after_cancel_right v v' z (sym (after_cancel_right r.0 (v · z) e to_t) ∙ sym to_b)

-- and only then
pub conjugates_where_alike : (shape : Shape) (h a b s t : List Row) → IsPair shape h → IsProduct shape (turned h) a s → IsProduct shape s h t → Alike shape t b → Conjugates shape h a b
conjugates_where_alike shape h a b s t pair_h hs ht alike = record {
  pair = pair_h;
  commutes = λ u u' v v' w word f g e l.
      let word_v = (moves_map shape h pair_h).ahead.word u v word e in
      let j = (moves_map shape s hs.pair).ahead.bound in
      let y = ones j in
      let k = (moves_map shape t ht.pair).ahead.bound in
      let z = ones k in
      let by_s = product_moves shape (turned h) a s hs j (omega arith) v u u' word_v (moves_turned h u v e) f in
      let by_t = product_moves shape s h t ht k (omega arith) (v · y) (u' · y) (v' · y) (long_word shape v j word_v) by_s (moves_extends h u' v' y g) in
      after_cancel_right w v' y (after_cancel_right (w · y) (v' · y) z (sym (alike ((v · y) · z) ((v' · y) · z) ((w · y) · z) (long_word shape (v · y) k (long_word shape v j word_v)) by_t (moves_extends b (v · y) (w · y) z (moves_extends b v w y l)))));
}

-- h and then g conjugate as h and then g do
pub conjugators_multiply : (shape : Shape) (h g s a b c : List Row) → IsPair shape a → IsPair shape b → IsPair shape c → IsProduct shape h g s → Conjugates shape h a b → Conjugates shape g b c → Conjugates shape s a c
conjugators_multiply shape h g s a b c pair_a pair_b pair_c product first second =
    let r = product_exists shape h g first.pair second.pair in
    conjugates_alike shape r.rows s a c pair_a product.pair (product_once shape h g s r.rows first.pair second.pair product (product_of shape h g first.pair second.pair r))
    (conjugates_product shape h g r.rows a b c pair_a pair_b pair_c r.pair r.by first second)

-- what conjugates a conjugates each pair alike a
first_alike : (shape : Shape) (h a c b : List Row) → IsPair shape a → Alike shape a c → Conjugates shape h a b → Conjugates shape h c b
first_alike shape h a c b pair_a alike conjugates = record {
  pair = conjugates.pair;
  commutes = λ u u' v v' w word f g e l.
      let m = (moves_map shape a pair_a).ahead in
      let z = ones m.bound in
      let x = moved_long shape (Moves a) m u m.bound word (omega arith) in
      let long = long_word shape u m.bound word in
      let same : x.0 ≡ u' · z = alike (u · z) x.0 (u' · z) long x.1 (moves_extends c u u' z f) in
      after_cancel_right w v' z (conjugates.commutes (u · z) (u' · z) (v · z) (v' · z) (w · z) long (subst (Moves a (u · z)) same x.1) (moves_extends h u' v' z g) (moves_extends h u v z e) (moves_extends b v w z l));
}

-- what conjugates into b conjugates into each pair alike b
second_alike : (shape : Shape) (h a b d : List Row) → IsPair shape b → Alike shape b d → Conjugates shape h a b → Conjugates shape h a d
second_alike shape h a b d pair_b alike conjugates = record {
  pair = conjugates.pair;
  commutes = λ u u' v v' w word f g e l.
      let m = (moves_map shape b pair_b).ahead in
      let z = ones m.bound in
      let word_v = (moves_map shape h conjugates.pair).ahead.word u v word e in
      let x = moved_long shape (Moves b) m v m.bound word_v (omega arith) in
      let same : x.0 ≡ w · z = alike (v · z) x.0 (w · z) (long_word shape v m.bound word_v) x.1 (moves_extends d v w z l) in
      after_cancel_right w v' z (sym same ∙ conjugates.commutes (u · z) (u' · z) (v · z) (v' · z) x.0 (long_word shape u m.bound word) (moves_extends a u u' z f) (moves_extends h u' v' z g) (moves_extends h u v z e) x.1);
}

-- alike pairs conjugate alike pairs
pub conjugates_of_alike : (shape : Shape) (h g a c b d : List Row) → IsPair shape g → IsPair shape a → IsPair shape c → IsPair shape b → Alike shape h g → Alike shape a c → Alike shape b d → Conjugates shape h a b → Conjugates shape g c d
conjugates_of_alike shape h g a c b d pair_g pair_a pair_c pair_b alike_h alike_a alike_b conjugates =
    conjugates_alike shape h g c d pair_c pair_g (alike_sym shape h g alike_h) (second_alike shape h c b d pair_b alike_b (first_alike shape h a c b pair_a alike_a conjugates))
