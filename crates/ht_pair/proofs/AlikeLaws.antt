-- Moving words alike is an equivalence of pairs.
use Rattle.std.proofs.Common.{◌≡◌, List, sym, ◌∙◌, arith}
use Rattle.ht_word.specs.Words.{◌·◌}
use Rattle.ht_word.specs.declared.shape.Shape.{Shape}
use Rattle.ht_word.proofs.WordLaws.{after_cancel_right, ones}
use Rattle.ht_pair.specs.Actions.{Moves, Alike}
use Rattle.ht_pair.specs.Pairs.{IsPair}
use Rattle.ht_pair.specs.declared.row.Row.{Row}
use Rattle.ht_pair.proofs.MovesLaws.{moves_map}
use Rattle.ht_pair.proofs.PrefixMapLaws.{long_word, moved_long}

-- a pair moves words as itself
pub alike_refl : (shape : Shape) (p : List Row) → IsPair shape p → Alike shape p p
alike_refl shape p pair = λ w v v' h f g. (moves_map shape p pair).ahead.single w v v' h f g

-- what is alike is alike the other way round
pub alike_sym : (shape : Shape) (p q : List Row) → Alike shape p q → Alike shape q p
alike_sym shape p q h = λ w v v' k f g. sym (h w v' v k g f)

-- what is alike one pair is alike: a long word is moved by all three
pub alike_trans : (shape : Shape) (p q s : List Row) → IsPair shape p → IsPair shape q → IsPair shape s → Alike shape p q → Alike shape q s → Alike shape p s
alike_trans shape p q s pair_p pair_q pair_s h g = λ w v v' k f e.
    let m = (moves_map shape q pair_q).ahead in
    let z = ones m.bound in
    let long = long_word shape w m.bound k in
    let x = moved_long shape (Moves q) m w m.bound k (omega arith) in
    let first : v · z ≡ x.0 = h (w · z) (v · z) x.0 long ((moves_map shape p pair_p).ahead.extends w v z f) x.1 in
    let second : x.0 ≡ v' · z = g (w · z) x.0 (v' · z) long x.1 ((moves_map shape s pair_s).ahead.extends w v' z e) in
    after_cancel_right v v' z (first ∙ second)
