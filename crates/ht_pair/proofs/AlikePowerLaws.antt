-- Alike pairs carry alike: what is said of powers is said of the element.
use Rattle.std.proofs.Common.{◌≡◌, ℕ, zero, suc, ◌⊎◌, inl, inr, List, ◌++◌, sym, ◌∙◌, subst, arith, ℤ, pos, negsuc, neg_ℤ}
use Rattle.std.proofs.lemmas.List.Elements.{All-contains}
use Rattle.ht_word.specs.Words.{IsWordOf, ◌·◌}
use Rattle.ht_word.specs.declared.shape.Shape.{Shape}
use Rattle.ht_word.specs.declared.word.Word.{Word}
use Rattle.ht_word.proofs.WordLaws.{after-append, after_cancel_right, All-from_contains, letters_append, word_after, ones, ones_letters}
use Rattle.ht_pair.specs.Actions.{Moves, Alike}
use Rattle.ht_pair.specs.Pairs.{IsPair, turned}
use Rattle.ht_pair.specs.SemiNormal.{CarriesUnder, StaysAhead, StaysBehind, IsSemiNormal, IsQuasinormal}
use Rattle.ht_pair.specs.Steps.{StepsAhead, Steps, Carries}
use Rattle.ht_pair.specs.declared.row.Row.{Row}
use Rattle.ht_pair.proofs.AlikeLaws.{alike_sym}
use Rattle.ht_pair.proofs.ExistenceLaws.{canonical_exists}
use Rattle.ht_pair.proofs.MovesLaws.{turned_pair, moves_back, moves_map}
use Rattle.ht_pair.proofs.PrefixMapLaws.{long_word, moved_long}
use Rattle.ht_pair.proofs.QuasinormalLaws.{quasinormal_exists}
use Rattle.ht_pair.proofs.StepsLaws.{steps_map}

-- k moves of alike pairs lead to the same word
ahead_alike : (shape : Shape) (p q : List Row) → IsPair shape p → Alike shape p q → (k : ℕ) (u x v : Word) → IsWordOf shape u → StepsAhead p k u x → StepsAhead q k u v → x ≡ v
ahead_alike shape p q pair alike zero u x v h s t = sym s ∙ t
ahead_alike shape p q pair alike (suc k) u x v h s t =
    let same : s.0 ≡ t.0 = ahead_alike shape p q pair alike k u s.0 t.0 h s.1 t.1 in
    alike s.0 x v ((steps_map shape p pair (pos k)).ahead.word u s.0 h s.1) s.2 (subst (λ w. Moves q w v) (sym same) t.2)

-- alike pairs turned round are alike
turned_alike : (shape : Shape) (p q : List Row) → IsPair shape p → IsPair shape q → Alike shape p q → Alike shape (turned p) (turned q)
turned_alike shape p q pair_p pair_q alike = λ w v v' h f g.
    let mp = moves_map shape p pair_p in
    let mq = moves_map shape q pair_q in
    let down = moves_back p v w f in
    let down' = moves_back q v' w g in
    let word_v = mp.behind.word w v h down in
    let z = ones mq.ahead.bound in
    let y = moved_long shape (Moves q) mq.ahead v mq.ahead.bound word_v (omega arith) in
    let same : w · z ≡ y.0 = alike (v · z) (w · z) y.0 (long_word shape v mq.ahead.bound word_v) (mp.ahead.extends v w z down) y.1 in
    after_cancel_right v v' z (mq.behind.single (w · z) (v · z) (v' · z) (long_word shape w mq.ahead.bound h) (subst (λ t. Moves q (v · z) t) (sym same) y.1) (mq.ahead.extends v' w z down'))

-- k steps of alike pairs lead to the same word
pub steps_alike : (shape : Shape) (p q : List Row) → IsPair shape p → IsPair shape q → Alike shape p q → (k : ℤ) (u x v : Word) → IsWordOf shape u → Steps p k u x → Steps q k u v → x ≡ v
steps_alike shape p q pair_p pair_q alike (pos k) = ahead_alike shape p q pair_p alike k
steps_alike shape p q pair_p pair_q alike (negsuc k) = ahead_alike shape (turned p) (turned q) (turned_pair shape p pair_p) (turned_alike shape p q pair_p pair_q alike) (suc k)

-- alike pairs carry alike
pub carries_alike : (shape : Shape) (p q : List Row) → IsPair shape p → IsPair shape q → Alike shape p q → (k : ℤ) (u v : Word) → Carries shape p k u v → Carries shape q k u v
carries_alike shape p q pair_p pair_q alike k u v c = record {
  word = c.word;
  carried = λ z w hz s.
      let m = (steps_map shape p pair_p k).ahead in
      let y = ones m.bound in
      let hu = word_after shape u z c.word hz in
      let x = moved_long shape (Steps p k) m (u · z) m.bound hu (omega arith) in
      let there : x.0 ≡ v · (z ++ y) = c.carried (z ++ y) x.0 (letters_append shape z y hz (ones_letters shape m.bound)) (subst (λ a. Steps p k a x.0) (after-append u z y) x.1) in
      let same : x.0 ≡ w · y = steps_alike shape p q pair_p pair_q alike k ((u · z) · y) x.0 (w · y) (long_word shape (u · z) m.bound hu) x.1 ((steps_map shape q pair_q k).ahead.extends (u · z) w y s) in
      after_cancel_right w (v · z) y (sym same ∙ there ∙ sym (after-append v z y));
}

-- a semi-normal basis of a pair is one of each pair alike it
pub semi_normal_alike : (shape : Shape) (p q : List Row) → IsPair shape p → IsPair shape q → Alike shape p q → (X : List Word) → IsSemiNormal shape p X → IsSemiNormal shape q X
semi_normal_alike shape p q pair_p pair_q alike X h = record {
  basis = h.basis;
  stays = All-from_contains (λ x. StaysAhead shape q X x ⊎ StaysBehind shape q X x) X (λ x c. elim (All-contains (λ x. StaysAhead shape p X x ⊎ StaysBehind shape p X x) X x h.stays c) [
    | inl ahead ↦ inl (λ k. under (pos k) x (ahead k))
    | inr behind ↦ inr (λ k. under (neg_ℤ (pos k)) x (behind k))
  ]);
}
  where
    under : (k : ℤ) (x : Word) → CarriesUnder shape p k x X → CarriesUnder shape q k x X
    under k x c = record { to = c.to; carries = carries_alike shape p q pair_p pair_q alike k x c.to c.carries; under = c.under }

-- and so it is with a quasinormal basis
pub quasinormal_alike : (shape : Shape) (p q : List Row) → IsPair shape p → IsPair shape q → Alike shape p q → (X : List Word) → IsQuasinormal shape p X → IsQuasinormal shape q X
quasinormal_alike shape p q pair_p pair_q alike X h = record {
  semi_normal = semi_normal_alike shape p q pair_p pair_q alike X h.semi_normal;
  ascending = h.ascending;
  least = λ W semi. h.least W (semi_normal_alike shape q p pair_q pair_p (alike_sym shape p q alike) W semi);
}

-- each pair has a quasinormal basis: that of its canonical pair
pub each_quasinormal : (shape : Shape) (p : List Row) → IsPair shape p → (X : List Word) × IsQuasinormal shape p X
each_quasinormal shape p pair =
    let q = canonical_exists shape p pair in
    let X = quasinormal_exists shape q.0 q.1.pair q.1.reduced in
    (X.0, quasinormal_alike shape q.0 p q.1.pair pair q.1.alike X.0 X.1)
