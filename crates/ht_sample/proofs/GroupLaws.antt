-- The rows of groups: both sides are words of the groups some of which gave way to their children.
use Rattle.std.proofs.Common.{◌≡◌, ℕ, zero, suc, ◌+◌, ◌*◌, ◌%◌, ◌≤◌, eqb, List, [], ◌∷◌, ◌++◌, length, take, drop, append-nil, add-one, refl, sym, ap, ◌∙◌, subst, arith, rules}
use Rattle.std.proofs.lemmas.Bool.{cond_both}
use Rattle.std.proofs.lemmas.List.{length-take, length-drop, length-map, map-append, take_all}
use Rattle.std.proofs.lemmas.List.Sorted.{IsPermutation-sym, IsPermutation-to_front}
use Rattle.std.proofs.Math.Seq.{take-add}
use Rattle.std.specs.List.Sorted.{IsPermutation}
use Rattle.ht_word.specs.Words.{child}
use Rattle.ht_word.specs.declared.shape.Shape.{Shape}
use Rattle.ht_word.specs.declared.word.Word.{Word}
use Rattle.ht_pair.specs.Bases.{IsBasis}
use Rattle.ht_pair.specs.Pairs.{from_words, to_words}
use Rattle.ht_pair.specs.declared.row.Row.{Row}
use Rattle.ht_sample.specs.Groups.{turn_from, turn, exchange, drift, wheel, in_twos, in_fours, group_rows, groups, sample_rows}
use Rattle.ht_sample.specs.Samples.{IsSampleBasis, IsSmallPair}
use Rattle.ht_sample.proofs.OpenedLaws.{IsOpened, opened_order, opened_same, opened_word, opened_then}

-- both sides of the rows may stand for W
pub record AreOpened (shape : Shape) (W : List Word) (rows : List Row) : Type 0 where
  pub from : IsOpened shape W (from_words rows)
  pub to : IsOpened shape W (to_words rows)

opened_rows_then : (shape : Shape) (W V : List Word) (p q : List Row) → AreOpened shape W p → AreOpened shape V q → AreOpened shape (W ++ V) (p ++ q)
opened_rows_then shape W V p q o r = record {
  from = subst (IsOpened shape (W ++ V)) (sym (map-append (λ (row : Row). row.from) p q)) (opened_then o.from r.from);
  to = subst (IsOpened shape (W ++ V)) (sym (map-append (λ (row : Row). row.to) p q)) (opened_then o.to r.to);
}

-- ---- one group

turn-from_words : (first u : Word) (W : List Word) → from_words (turn_from first u W) ≡ u ∷ W
turn-from_words first u [] = refl
turn-from_words first u (v ∷ W) = ap (λ (X : List Word). u ∷ X) (turn-from_words first v W)

turn-to_words : (first u : Word) (W : List Word) → to_words (turn_from first u W) ≡ W ++ first ∷ []
turn-to_words first u [] = refl
turn-to_words first u (v ∷ W) = ap (λ (X : List Word). v ∷ X) (turn-to_words first v W)

opened_turn : (shape : Shape) (W : List Word) → AreOpened shape W (turn W)
opened_turn shape [] = record { from = opened_same shape []; to = opened_same shape [] }
opened_turn shape (u ∷ W) = record {
  from = subst (IsOpened shape (u ∷ W)) (sym (turn-from_words u u W)) (opened_same shape (u ∷ W));
  to = subst (IsOpened shape (u ∷ W)) (sym (turn-to_words u u W)) (opened_order (IsPermutation-sym (W ++ u ∷ []) (u ∷ W) (IsPermutation-to_front W u)) (opened_same shape (u ∷ W)));
}

opened_exchange : (shape : Shape) (u v : Word) → AreOpened shape (u ∷ v ∷ []) (exchange u v)
opened_exchange shape u v = record { from = opened_same shape (u ∷ v ∷ []); to = opened_order (IsPermutation-to_front (u ∷ []) v) (opened_same shape (u ∷ v ∷ [])) }

opened_drift : (shape : Shape) → shape.n ≡ 2 → (u v : Word) → AreOpened shape (u ∷ v ∷ []) (drift u v)
opened_drift shape two u v = record {
  from = opened_then (opened_same shape (u ∷ [])) (opened_word shape two v);
  to = opened_then (opened_word shape two u) (opened_same shape (v ∷ []));
}

opened_wheel : (shape : Shape) → shape.n ≡ 2 → (t u v y : Word) → AreOpened shape (t ∷ u ∷ v ∷ y ∷ []) (wheel t u v y)
opened_wheel shape two t u v y = record {
  from = opened_then (opened_same shape (t ∷ u ∷ v ∷ [])) (opened_word shape two y);
  to = opened_order (five (child t 1) (child t 2) u v y) (opened_then (opened_word shape two t) (opened_same shape (u ∷ v ∷ y ∷ [])));
}
  where
    five : (a b c d e : Word) → IsPermutation (a ∷ b ∷ c ∷ d ∷ e ∷ []) (c ∷ a ∷ e ∷ b ∷ d ∷ [])
    five a b c d e = record { moves = (3, 4) ∷ (2, 4) ∷ (1, 2) ∷ (0, 2) ∷ []; below = search rules; is = refl }

opened_twos : (shape : Shape) (f : Word → Word → List Row) → ((u v : Word) → AreOpened shape (u ∷ v ∷ []) (f u v)) → (k : ℕ) (W : List Word) → length W ≡ 2 * k → AreOpened shape W (in_twos f W)
opened_twos shape f each zero [] e = record { from = opened_same shape []; to = opened_same shape [] }
opened_twos shape f each zero (u ∷ W) e = absurd (omega arith)
opened_twos shape f each (suc k) [] e = absurd (omega arith)
opened_twos shape f each (suc k) (u ∷ []) e = absurd (omega arith)
opened_twos shape f each (suc k) (u ∷ v ∷ W) e = opened_rows_then shape (u ∷ v ∷ []) W (f u v) (in_twos f W) (each u v) (opened_twos shape f each k W (omega arith))

opened_fours : (shape : Shape) (f : Word → Word → Word → Word → List Row) → ((t u v y : Word) → AreOpened shape (t ∷ u ∷ v ∷ y ∷ []) (f t u v y)) → (k : ℕ) (W : List Word) → length W ≡ 4 * k → AreOpened shape W (in_fours f W)
opened_fours shape f each zero [] e = record { from = opened_same shape []; to = opened_same shape [] }
opened_fours shape f each zero (t ∷ W) e = absurd (omega arith)
opened_fours shape f each (suc k) [] e = absurd (omega arith)
opened_fours shape f each (suc k) (t ∷ []) e = absurd (omega arith)
opened_fours shape f each (suc k) (t ∷ u ∷ []) e = absurd (omega arith)
opened_fours shape f each (suc k) (t ∷ u ∷ v ∷ []) e = absurd (omega arith)
opened_fours shape f each (suc k) (t ∷ u ∷ v ∷ y ∷ W) e = opened_rows_then shape (t ∷ u ∷ v ∷ y ∷ []) W (f t u v y) (in_fours f W) (each t u v y) (opened_fours shape f each k W (omega arith))

opened_group : (shape : Shape) → shape.n ≡ 2 → (k : ℕ) (W : List Word) → length W ≡ 8 → AreOpened shape W (group_rows k W)
unfolding group_rows
opened_group shape two k W e =
    let P = AreOpened shape W in
    cond_both (eqb (k % 4) 0) (turn W) _ P (λ _. opened_turn shape W) (λ _.
    cond_both (eqb (k % 4) 1) (in_twos exchange W) _ P (λ _. opened_twos shape exchange (opened_exchange shape) 4 W e) (λ _.
    cond_both (eqb (k % 4) 2) (in_twos drift W) (in_fours wheel W) P (λ _. opened_twos shape drift (opened_drift shape two) 4 W e) (λ _. opened_fours shape wheel (opened_wheel shape two) 2 W e)))

-- ---- all groups

pub groups_none : (W : List Word) → groups 0 W ≡ []
unfolding groups
groups_none W = refl

pub groups_more : (k n : ℕ) (W : List Word) → n ≡ 8 → groups (k + 1) W ≡ groups k W ++ group_rows k (take n (drop (8 * k) W))
unfolding groups
groups_more k n W eight = ap (λ j. groups j W) (add-one k) ∙ ap (λ i. groups k W ++ group_rows k (take i (drop (8 * k) W))) (sym eight)

opened_groups : (shape : Shape) → shape.n ≡ 2 → (k : ℕ) (W : List Word) → 8 * k ≤ length W → AreOpened shape (take (8 * k) W) (groups k W)
unfolding groups
opened_groups shape two zero W l = record { from = opened_same shape []; to = opened_same shape [] }
opened_groups shape two (suc k) W l =
    let next : take (8 * suc k) W ≡ take (8 * k) W ++ take 8 (drop (8 * k) W) = ap (λ i. take i W) (more k) ∙ take-add (8 * k) 8 W in
    subst (λ (V : List Word). AreOpened shape V (groups k W ++ group_rows k (take 8 (drop (8 * k) W)))) (sym next)
    (opened_rows_then shape (take (8 * k) W) (take 8 (drop (8 * k) W)) (groups k W) (group_rows k (take 8 (drop (8 * k) W)))
    (opened_groups shape two k W (omega arith))
    (opened_group shape two k (take 8 (drop (8 * k) W)) (omega (arith, length-take 8 (drop (8 * k) W), length-drop (8 * k) W))))
  where
    more : (k : ℕ) → 8 * suc k ≡ 8 * k + 8
    more k = omega arith

opened_sample : (shape : Shape) → shape.n ≡ 2 → (W : List Word) → length W ≡ 4000 → AreOpened shape W (sample_rows W)
opened_sample shape two W e = subst (λ (V : List Word). AreOpened shape V (sample_rows W)) (take_all 4000 W (omega arith)) (opened_groups shape two 500 W (omega arith))

opened_basis : (shape : Shape) (W X : List Word) → IsBasis shape W → IsOpened shape W X → IsBasis shape X
opened_basis shape W X b o = subst (IsBasis shape) (append-nil X) (o.basis [] [] (subst (IsBasis shape) (sym (append-nil W)) b))

-- the rows of all groups of the words of a sample
pub groups_pair : (shape : Shape) → shape.n ≡ 2 → (W : List Word) → IsSampleBasis shape W → IsSmallPair shape (sample_rows W)
groups_pair shape two W h = small (sample_rows W) (opened_sample shape two W h.size)
  where
    small : (p : List Row) → AreOpened shape W p → IsSmallPair shape p
    small p o = record {
      pair = record { from = opened_basis shape W (from_words p) h.basis o.from; to = opened_basis shape W (to_words p) h.basis o.to };
      few = omega (arith, h.size, o.from.few, length-map p (λ (row : Row). row.from));
      short = omega (arith, h.short, o.from.short, o.to.short);
    }
