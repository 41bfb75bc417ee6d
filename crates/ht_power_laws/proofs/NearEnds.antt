-- Words under the infinite part come near the attractors of X by as many steps as one likes a multiple of.
use Rattle.std.proofs.Common.{◌≡◌, ℕ, ◌+◌, ◌-◌, ◌*◌, ◌/◌, ◌≤◌, List, ◌++◌, ap, ◌∙◌, subst, arith, pos, ◌+ℤ◌}
use Rattle.std.specs.Int.{◌∣◌}
use Rattle.std.proofs.Math.Nat.{div-mul_cancel, mul-le-mul_left}
use Rattle.std.proofs.lemmas.Int.{ints}
use Rattle.ht_word.specs.Words.{◌·◌, IsLetters, IsWordOf}
use Rattle.ht_word.specs.declared.shape.Shape.{Shape}
use Rattle.ht_word.specs.declared.word.Word.{Word}
use Rattle.ht_word.proofs.WordLaws.{after-append, word_rest}
use Rattle.ht_pair.specs.Repeats.{repeated}
use Rattle.ht_pair.specs.Steps.{Carries}
use Rattle.ht_pair.specs.declared.row.Row.{Row}
use Rattle.ht_pair.proofs.CarriesLaws.{carries_extends, carries_sum, carries_word}
use Rattle.ht_pair.proofs.KindLaws.{carries_times}
use Rattle.ht_types.specs.Flows.{IsUnderInfinite}
use Rattle.ht_types.proofs.AttractorLaws.{IsAttractorOf, attractor_ahead, attractor_moved}
use Rattle.ht_types.proofs.FlowLaws.{flows_ahead}
use Rattle.ht_types.proofs.TurnLaws.{HasSemiNormal}

-- ---- rounds of an attractor

module _ {shape : Shape} {p : List Row} {X : List Word} {x : Word} {m : ℕ} {G : List ℕ} (h : HasSemiNormal shape p X) (a : IsAttractorOf shape p X x m G) where
  -- j rounds, again and again
  pub carries_again : (j N : ℕ) → Carries shape p (pos (N * (j * m))) x (x · repeated N (repeated j G))
  carries_again j N =
      carries_times shape p h.pair (j * m) x (repeated j G) (carries_times shape p h.pair m x G a.attractor.lengthens.1 j) N

  -- k times those in a multiple of its period
  pub carries_rounds : (k M : ℕ) → m ∣ M → Carries shape p (pos (k * M)) x (x · repeated (k * (M / m)) G)
  carries_rounds k M divides =
      subst (λ i. Carries shape p (pos i) x (x · repeated (k * (M / m)) G)) (regroup (M / m) ∙ ap (λ i. k * i) (div-mul_cancel m divides))
      (carries_times shape p h.pair m x G a.attractor.lengthens.1 (k * (M / m)))
    where
      regroup : (r : ℕ) → k * r * m ≡ k * (r * m)
      regroup r = omega arith

-- ---- words that come near

-- some multiple of j steps leads from v, with letters behind it, under an attractor of X
pub record NearEnd (shape : Shape) (p : List Row) (X : List Word) (v : Word) (j : ℕ) : Type 0 where
  pub letters : List ℕ
  pub of_shape : IsLetters shape letters
  pub times : ℕ
  pub word : Word
  pub period : ℕ
  pub by : List ℕ
  pub end : IsAttractorOf shape p X word period by
  pub rest : List ℕ
  pub carries : Carries shape p (pos (times * j)) (v · letters) (word · rest)

-- the steps by which it flows under one, and then as many as make a multiple, which lead from there under one
pub near_end : {shape : Shape} {p : List Row} {X : List Word} → HasSemiNormal shape p X → (v : Word) (j : ℕ) → IsWordOf shape v → 1 ≤ j
    → IsUnderInfinite shape p X v → NearEnd shape p X v j
near_end {shape} {p} {X} h v j hv low u =
    let f = flows_ahead h v u.above hv u.infinite.0 u.infinite.1 u.under in
    let t = v · f.letters in
    let k = f.steps in
    let x = f.reached.above in
    let r = f.reached.under.rest in
    let here = subst (Carries shape p (pos k) t) f.reached.under.is f.reached.carries in
    let hr = word_rest shape x r (carries_word shape p h.pair (pos k) t (x · r) here) in
    let a : IsAttractorOf shape p X x f.reached.such.0 f.reached.such.1 = record { listed = f.reached.listed; attractor = f.reached.such.2 } in
    let more = k * j - k in
    let on = attractor_ahead h a more in
    let y = on.under.above in
    let z = on.under.under.rest in
    let there : Carries shape p (pos more) x (y · z) = subst (Carries shape p (pos more) x) on.under.under.is on.carries in
    let further = subst (Carries shape p (pos more) (x · r)) (after-append y z r) (carries_extends shape p (pos more) x (y · z) r hr there) in
    let end = attractor_moved h a (pos more) y z on.under.listed there in
    record {
      letters = f.letters;
      of_shape = f.of_shape;
      times = k;
      word = y;
      period = end.0;
      by = end.1;
      end = record { listed = on.under.listed; attractor = end.2 };
      rest = z ++ r;
      carries = carries_sum shape p h.pair (pos k) (pos more) (pos (k * j)) (sum k) t (x · r) (y · (z ++ r)) here further;
    }
  where
    sum : (s : ℕ) → pos s +ℤ pos (s * j - s) ≡ pos (s * j)
    sum s = omega (arith, ints, mul-le-mul_left s low)

-- further multiples lead on, with j times the letters of the attractor again and again between
pub nearer_end : {shape : Shape} {p : List Row} {X : List Word} {v : Word} {j : ℕ} → HasSemiNormal shape p X → (e : NearEnd shape p X v j) (N : ℕ)
    → Carries shape p (pos ((e.times + N * e.period) * j)) (v · e.letters) ((e.word · repeated N (repeated j e.by)) · e.rest)
nearer_end {shape} {p} {v = v} {j} h e N =
    let t = v · e.letters in
    let here = e.word · e.rest in
    let d = e.word · repeated N (repeated j e.by) in
    let more = pos (N * (j * e.period)) in
    let hr = word_rest shape e.word e.rest (carries_word shape p h.pair (pos (e.times * j)) t here e.carries) in
    carries_sum shape p h.pair (pos (e.times * j)) more (pos ((e.times + N * e.period) * j)) (sum e.times e.period) t here (d · e.rest) e.carries
    (carries_extends shape p more e.word d e.rest hr (carries_again h e.end j N))
  where
    sum : (s m : ℕ) → pos (s * j) +ℤ pos (N * (j * m)) ≡ pos ((s + N * m) * j)
    sum s m = omega (arith, ints)
