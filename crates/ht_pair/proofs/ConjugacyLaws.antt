-- Conjugacy is an equivalence of pairs, and pairs that move words alike conjugate alike.
use Rattle.std.proofs.Common.{◌≡◌, List, sym, subst, arith}
use Rattle.ht_word.specs.Words.{◌·◌}
use Rattle.ht_word.specs.declared.shape.Shape.{Shape}
use Rattle.ht_word.specs.declared.word.Word.{Word}
use Rattle.ht_word.proofs.WordLaws.{after_cancel_right, ones}
use Rattle.ht_pair.specs.Actions.{Moves, Alike}
use Rattle.ht_pair.specs.Conjugacy.{Conjugates, AreConjugate}
use Rattle.ht_pair.specs.Pairs.{IsPair, turned, identity}
use Rattle.ht_pair.specs.declared.row.Row.{Row}
use Rattle.ht_pair.proofs.IdentityLaws.{identity_pair, identity_moves}
use Rattle.ht_pair.proofs.MovesLaws.{moves_extends, turned_pair, moves_back, moves_map}
use Rattle.ht_pair.proofs.PrefixMapLaws.{Then, long_word, moved_long}
use Rattle.ht_pair.proofs.ProductLaws.{product_exists}

-- the identity conjugates a into a
pub conjugate_refl : (shape : Shape) (a : List Row) → IsPair shape a → AreConjugate shape a a
conjugate_refl shape a pair = record {
  by = identity shape;
  conjugates = record {
    pair = identity_pair shape;
    commutes = λ u u' v v' w h f g e k.
        let same : u ≡ v = identity_moves shape u v e in
        let same' : u' ≡ v' = identity_moves shape u' v' g in
        (moves_map shape a pair).ahead.single u w v' h (subst (λ t. Moves a t w) (sym same) k) (subst (λ t. Moves a u t) same' f);
  };
}

-- what conjugates a into b conjugates b into a, turned round
pub conjugates_turned : (shape : Shape) (h a b : List Row) → IsPair shape a → IsPair shape b → Conjugates shape h a b → Conjugates shape (turned h) b a
conjugates_turned shape h a b pair_a pair_b c = record {
  pair = turned_pair shape h c.pair;
  commutes = λ u u' v v' w word f g e k.
      -- h sends v to u and v' to u', b sends u to u', and a sends v to w
      let m = moves_map shape h c.pair in
      let down = moves_back h v u e in
      let down' = moves_back h v' u' g in
      let word_v = m.behind.word u v word down in
      let word_w = (moves_map shape a pair_a).ahead.word v w word_v k in
      let word_u' = (moves_map shape b pair_b).ahead.word u u' word f in
      let z = ones m.ahead.bound in
      let x = moved_long shape (Moves h) m.ahead w m.ahead.bound word_w (omega arith) in
      let long = long_word shape v m.ahead.bound word_v in
      let same : u' · z ≡ x.0 = c.commutes (v · z) (w · z) (u · z) x.0 (u' · z) long ((moves_map shape a pair_a).ahead.extends v w z k) x.1 (m.ahead.extends v u z down) ((moves_map shape b pair_b).ahead.extends u u' z f) in
      after_cancel_right w v' z (m.behind.single (u' · z) (w · z) (v' · z) (long_word shape u' m.ahead.bound word_u') (subst (λ t. Moves h (w · z) t) (sym same) x.1) (m.ahead.extends v' u' z down'));
}

-- being conjugate is symmetric
pub conjugate_sym : (shape : Shape) (a b : List Row) → IsPair shape a → IsPair shape b → AreConjugate shape a b → AreConjugate shape b a
conjugate_sym shape a b pair_a pair_b c = record { by = turned c.by; conjugates = conjugates_turned shape c.by a b pair_a pair_b c.conjugates }

-- what moves words as two conjugators one after another conjugates
pub conjugates_product : (shape : Shape) (h g s a b c : List Row) → IsPair shape a → IsPair shape b → IsPair shape c → IsPair shape s → ((u v : Word) → Moves s u v → Then (Moves h) (Moves g) u v) → Conjugates shape h a b → Conjugates shape g b c → Conjugates shape s a c
conjugates_product shape h g s a b c pair_a pair_b pair_c pair_s by first second = record {
  pair = pair_s;
  commutes = λ u u' v v' w word f e k l.
      let ma = (moves_map shape a pair_a).ahead in
      let mb = (moves_map shape b pair_b).ahead in
      let mc = (moves_map shape c pair_c).ahead in
      let mh = (moves_map shape h first.pair).ahead in
      let mg = (moves_map shape g second.pair).ahead in
      -- u goes by h to x and u' by h to x'
      let x = by u v k in
      let x' = by u' v' e in
      let z = ones mb.bound in
      let word_x = mh.word u x.middle word x.first in
      let y = moved_long shape (Moves b) mb x.middle mb.bound word_x (omega arith) in
      let same : y.0 ≡ x'.middle · z = first.commutes (u · z) (u' · z) (x.middle · z) (x'.middle · z) y.0 (long_word shape u mb.bound word) (ma.extends u u' z f) (mh.extends u' x'.middle z x'.first) (mh.extends u x.middle z x.first) y.1 in
      after_cancel_right w v' z (second.commutes (x.middle · z) (x'.middle · z) (v · z) (v' · z) (w · z) (long_word shape x.middle mb.bound word_x) (subst (λ t. Moves b (x.middle · z) t) same y.1) (mg.extends x'.middle v' z x'.second) (mg.extends x.middle v z x.second) (mc.extends v w z l));
}

-- being conjugate is transitive
pub conjugate_trans : (shape : Shape) (a b c : List Row) → IsPair shape a → IsPair shape b → IsPair shape c → AreConjugate shape a b → AreConjugate shape b c → AreConjugate shape a c
conjugate_trans shape a b c pair_a pair_b pair_c first second =
    let s = product_exists shape first.by second.by first.conjugates.pair second.conjugates.pair in
    record { by = s.rows; conjugates = conjugates_product shape first.by second.by s.rows a b c pair_a pair_b pair_c s.pair s.by first.conjugates second.conjugates }

-- a pair that moves words as a conjugator does conjugates
pub conjugates_alike : (shape : Shape) (h q a b : List Row) → IsPair shape a → IsPair shape q → Alike shape q h → Conjugates shape h a b → Conjugates shape q a b
conjugates_alike shape h q a b pair_a pair alike c = record {
  pair = pair;
  commutes = λ u u' v v' w word f g e k.
      -- q sends u to v and u' to v', as h does behind letters enough
      let mh = (moves_map shape h c.pair).ahead in
      let z = ones mh.bound in
      let long = long_word shape u mh.bound word in
      let word' = (moves_map shape a pair_a).ahead.word u u' word f in
      let x = moved_long shape (Moves h) mh u mh.bound word (omega arith) in
      let x' = moved_long shape (Moves h) mh u' mh.bound word' (omega arith) in
      let same : x.0 ≡ v · z = sym (alike (u · z) (v · z) x.0 long (moves_extends q u v z e) x.1) in
      let same' : x'.0 ≡ v' · z = sym (alike (u' · z) (v' · z) x'.0 (long_word shape u' mh.bound word') (moves_extends q u' v' z g) x'.1) in
      after_cancel_right w v' z (c.commutes (u · z) (u' · z) (v · z) (v' · z) (w · z) long (moves_extends a u u' z f) (subst (λ t. Moves h (u' · z) t) same' x'.1) (subst (λ t. Moves h (u · z) t) same x.1) (moves_extends b v w z k));
}
