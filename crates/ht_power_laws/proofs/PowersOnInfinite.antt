-- The powers of an element, and those of its infinite part, act on the infinite part as these powers of the element. X is a semi-normal basis of p.
use Rattle.std.proofs.Common.{◌≡◌, ℕ, zero, suc, ◌+◌, ◌*◌, ◌≤◌, ◌↔◌, pos, ◌+ℤ◌, List, length, sym, ◌∙◌, subst, arith}
use Rattle.std.proofs.Math.IntN.{pos-*ℤ-pos}
use Rattle.std.proofs.lemmas.Int.{ints}
use Rattle.ht_word.specs.Words.{◌·◌, IsUnderSome, IsWordOf}
use Rattle.ht_word.specs.declared.shape.Shape.{Shape}
use Rattle.ht_word.specs.declared.word.Word.{Word}
use Rattle.ht_word.proofs.WordLaws.{length-after, under_after, under_refl, word_after}
use Rattle.ht_pair.specs.Actions.{Moves}
use Rattle.ht_pair.specs.Pairs.{IsPair}
use Rattle.ht_pair.specs.Parts.{HasParts}
use Rattle.ht_pair.specs.Products.{IsPower}
use Rattle.ht_pair.specs.Steps.{Carries}
use Rattle.ht_pair.specs.declared.row.Row.{Row}
use Rattle.ht_pair.proofs.BasisLaws.{some_at, some_trans}
use Rattle.ht_pair.proofs.CarriesLaws.{carries_extends, carries_itself, carries_none, carries_rest, carries_single, carries_sum}
use Rattle.ht_pair.proofs.MovesLaws.{moves_map}
use Rattle.ht_laws.proofs.PrefixLaws.{moves_carries}
use Rattle.ht_types.specs.Flows.{IsUnderInfinite}
use Rattle.ht_types.proofs.PeriodicLaws.{carries_round}
use Rattle.ht_types.proofs.TurnLaws.{HasSemiNormal}
use Rattle.ht_power_laws.specs.OnInfinite.{ActsAsPower}
use Rattle.ht_power_laws.proofs.FarWords.{carries_behind, far_bound, leads_far, longer_infinite}
use Rattle.ht_power_laws.proofs.PowerCarries.{power_carries}

-- k steps of the i-th power are k times i steps
power_steps : (shape : Shape) (p f : List Row) → IsPair shape p → (i : ℕ) → IsPower shape p (pos i) f → (k : ℕ) (u v : Word)
    → Carries shape f (pos k) u v ↔ Carries shape p (pos (k * i)) u v
power_steps shape p f pair i power k u v =
    subst (λ n. Carries shape f (pos k) u v ↔ Carries shape p n u v) (pos-*ℤ-pos k i) (power_carries pair power (pos k) u v)

-- ---- powers of the element

pub power_acts : {shape : Shape} {p : List Row} {X : List Word} → HasSemiNormal shape p X → (i : ℕ) (f : List Row) → IsPower shape p (pos i) f
    → ActsAsPower shape p i X f
power_acts {shape} {p} h i f power = record {
  pair = power.pair;
  same = λ k u v under. power_steps shape p f h.pair i power k u v;
  home = λ x m listed cycle.
      let round = subst (λ n. Carries shape p (pos n) x x) (turn i m) (carries_round shape p h.pair m x cycle.holds i) in
      (m, cycle.positive, (power_steps shape p f h.pair i power m x x).1 round);
}
  where
    turn : (i m : ℕ) → i * m ≡ m * i
    turn i m = omega arith

-- ---- powers of the infinite part

module _ {shape : Shape} {p : List Row} {X : List Word} (h : HasSemiNormal shape p X) {rest s : List Row} (parts : HasParts shape p X rest s) where
  -- one step carries long words under the infinite part as one step of the element does
  part_step : (w w' : Word) → IsUnderInfinite shape p X w
      → (moves_map shape p h.pair).ahead.bound + (moves_map shape s parts.on_infinite.pair).ahead.bound ≤ length w.letters
      → Carries shape p (pos 1) w w' → Carries shape s (pos 1) w w'
  part_step w w' under long carries =
      let pair = parts.on_infinite.pair in
      let x = (moves_map shape p h.pair).ahead.total w carries.word (omega arith) in
      let y = (moves_map shape s pair).ahead.total w carries.word (omega arith) in
      let listed = (parts.is_infinite.same under.above).1 under.infinite in
      let at : IsUnderSome w parts.infinite = some_at parts.infinite under.above w listed under.under in
      let there : y.0 ≡ w' = sym (parts.on_infinite.on w x.0 y.0 carries.word at x.1 y.1)
      ∙ carries_single shape p h.pair (pos 1) w x.0 w' (moves_carries shape p w x.0 h.pair carries.word x.1) carries in
      subst (Carries shape s (pos 1) w) there (moves_carries shape s w y.0 pair carries.word y.1)

  -- so do all further steps
  part_from : (k : ℕ) (u v : Word) → IsUnderInfinite shape p X u → Carries shape p (pos k) u v → Carries shape s (pos k) u v
  part_from zero u v under carries =
      subst (Carries shape s (pos 0) u) ((carries_none shape p u v carries.word).0 carries) (carries_itself shape s u carries.word)
  part_from (suc k) u v under carries =
      let pair = parts.on_infinite.pair in
      let size = (moves_map shape p h.pair).ahead.bound + (moves_map shape s pair).ahead.bound in
      carries_behind shape s pair (pos (suc k)) u v carries.word (far_bound h (pos k) size) (λ z hz long.
      let at = longer_infinite under z in
      let hu = word_after shape u z carries.word hz in
      let far = leads_far h (pos k) size (u · z) hu (omega (arith, long, length-after u z)) at in
      let last = carries_rest shape p h.pair (pos k) (pos 1) (pos (suc k)) (one_more k) (u · z) far.to (v · z) far.carries
      (carries_extends shape p (pos (suc k)) u v z hz carries) in
      carries_sum shape s pair (pos k) (pos 1) (pos (suc k)) (one_more k) (u · z) far.to (v · z) (part_from k (u · z) far.to at far.carries)
      (part_step far.to (v · z) far.infinite far.long last))
    where
      one_more : (k : ℕ) → pos k +ℤ pos 1 ≡ pos (suc k)
      one_more k = omega (arith, ints)

  -- and no others
  part_to : (k : ℕ) (u v : Word) → IsUnderInfinite shape p X u → Carries shape s (pos k) u v → Carries shape p (pos k) u v
  part_to k u v under carries = carries_behind shape p h.pair (pos k) u v carries.word (far_bound h (pos k) 0) (λ z hz long.
      let pair = parts.on_infinite.pair in
      let at = longer_infinite under z in
      let far = leads_far h (pos k) 0 (u · z) (word_after shape u z carries.word hz) (omega (arith, long, length-after u z)) at in
      let same : far.to ≡ v · z = carries_single shape s pair (pos k) (u · z) far.to (v · z) (part_from k (u · z) far.to at far.carries)
      (carries_extends shape s (pos k) u v z hz carries) in
      subst (Carries shape p (pos k) (u · z)) same far.carries)

  -- words under the periodic part stay
  pub part_stays : (x : Word) → IsWordOf shape x → IsUnderSome x parts.periodic → Carries shape s (pos 1) x x
  part_stays x word under = record {
    word = word;
    carried = λ z w hz t. sym (parts.on_infinite.off (x · z) w (word_after shape x z word hz)
        (some_trans (under_after x z) under) (subst (λ y. Moves s y w) (sym t.1) t.2));
  }

  pub part_acts : (i : ℕ) (f : List Row) → IsPower shape s (pos i) f → ActsAsPower shape p i X f
  part_acts i f power = record {
    pair = power.pair;
    same = λ k u v under.
        let steps = power_steps shape s f parts.on_infinite.pair i power k u v in
        ((λ c. part_to (k * i) u v under (steps.0 c)), (λ c. steps.1 (part_from (k * i) u v under c)));
    home = λ x m listed cycle.
        let pair = parts.on_infinite.pair in
        let at = some_at parts.periodic x x ((parts.is_periodic.same x).1 (listed, (m, cycle))) (under_refl x) in
        let round = carries_round shape s pair 1 x (part_stays x cycle.holds.word at) i in
        (1, (omega arith), (power_steps shape s f pair i power 1 x x).1 (subst (λ n. Carries shape s (pos n) x x) (turn i) round));
  }
    where
      turn : (i : ℕ) → i * 1 ≡ 1 * i
      turn i = omega arith
