-- A conjugator of powers of a and b on their infinite parts conjugates the roots of these powers whose exponents the periods of all ends divide.
use Rattle.std.proofs.Common.{◌≡◌, ℕ, ◌+◌, ◌*◌, ◌/◌, ◌≤◌, List, ◌++◌, sym, ap, ◌∙◌, subst, arith, pos, ◌+ℤ◌}
use Rattle.std.specs.Int.{◌∣◌}
use Rattle.std.proofs.Math.Nat.{one-le-mul}
use Rattle.std.proofs.lemmas.Int.{ints}
use Rattle.ht_word.specs.Words.{◌·◌, IsLetters}
use Rattle.ht_word.specs.declared.shape.Shape.{Shape}
use Rattle.ht_word.specs.declared.word.Word.{Word}
use Rattle.ht_word.proofs.WordLaws.{after-append, after_cancel_right, length-after, word_after, word_rest}
use Rattle.ht_pair.specs.Actions.{Moves}
use Rattle.ht_pair.specs.Bases.{longest}
use Rattle.ht_pair.specs.Pairs.{IsPair, turned}
use Rattle.ht_pair.specs.Repeats.{repeated}
use Rattle.ht_pair.specs.Steps.{Carries}
use Rattle.ht_pair.specs.declared.row.Row.{Row}
use Rattle.ht_pair.proofs.BasisLaws.{basis_holds}
use Rattle.ht_pair.proofs.CarriesLaws.{carries_extends, carries_injective, carries_rest, carries_sum, carries_word}
use Rattle.ht_pair.proofs.KindLaws.{lengthened_there}
use Rattle.ht_pair.proofs.MovesLaws.{moves_back, moves_extends, moves_map, moves_turned}
use Rattle.ht_types.specs.Flows.{IsUnderInfinite}
use Rattle.ht_types.proofs.AttractorLaws.{IsAttractorOf}
use Rattle.ht_types.proofs.TurnLaws.{HasSemiNormal}
use Rattle.ht_power_laws.proofs.Injections.{injected}
use Rattle.ht_power_laws.proofs.NearEnds.{carries_again, carries_rounds, near_end, nearer_end}
use Rattle.ht_power_laws.specs.OnInfinite.{OnInfinite}
use Rattle.ht_power_laws.proofs.FarWords.{carries_behind, far_bound, leads_far, longer_infinite, moved_infinite}
use Rattle.ht_power_laws.proofs.OnInfinite.{on_steps, on_turned}
use Rattle.ht_power_laws.proofs.RootEquations.{root_passes}

-- M is a multiple of the periods of all attractors
abbrev pub IsCommonPeriod : Shape → List Row → List Word → ℕ → Type 0
IsCommonPeriod shape p X M = (x : Word) (m : ℕ) (G : List ℕ) → IsAttractorOf shape p X x m G → m ∣ M

-- h turns the power p t of a into the power q t of b on the infinite parts, and M is a common period of both
pub record TurnsPowers (shape : Shape) (h a : List Row) (X : List Word) (b : List Row) (Y : List Word) (p q t M : ℕ) : Type 0 where
  pub first : HasSemiNormal shape a X
  pub second : HasSemiNormal shape b Y
  pub p_low : 1 ≤ p
  pub q_low : 1 ≤ q
  pub t_low : 1 ≤ t
  pub M_low : 1 ≤ M
  pub first_period : IsCommonPeriod shape a X M
  pub second_period : IsCommonPeriod shape b Y M
  pub on : OnInfinite shape h a (p * t) X b (q * t) Y

-- h sends a word to y with the letters D some times behind it, and i steps of a and j of b lengthen both by the same letters
record SharesShift (shape : Shape) (h a : List Row) (i : ℕ) (b : List Row) (j : ℕ) (y : Word) (D : List ℕ) : Type 0 where
  times : ℕ
  word : Word
  sent : Moves h word (y · repeated times D)
  by : List ℕ
  first : Carries shape a (pos i) word (word · by)
  second : Carries shape b (pos j) (y · repeated times D) ((y · repeated times D) · by)

-- where i steps lead from u to w and lengthen c by B, k steps that lead from u z to c r lead from w z to c B r
across : (shape : Shape) (p : List Row) → IsPair shape p → (i k : ℕ) (u w c : Word) (z r B : List ℕ) → IsLetters shape z → IsLetters shape r
    → Carries shape p (pos i) u w → Carries shape p (pos i) c (c · B) → Carries shape p (pos k) (u · z) (c · r)
    → Carries shape p (pos k) (w · z) (c · (B ++ r))
across shape p pair i k u w c z r B hz hr step grows there =
    let far = subst (Carries shape p (pos i) (c · r)) (after-append c B r) (carries_extends shape p (pos i) c (c · B) r hr grows) in
    let whole = carries_sum shape p pair (pos k) (pos i) (pos (i + k)) (turn k) (u · z) (c · r) (c · (B ++ r)) there far in
    let here = carries_extends shape p (pos i) u w z hz step in
    carries_rest shape p pair (pos i) (pos k) (pos (i + k)) (omega (arith, ints)) (u · z) (w · z) (c · (B ++ r)) here whole
  where
    turn : (k : ℕ) → pos k +ℤ pos i ≡ pos (i + k)
    turn k = omega (arith, ints)

module _ {shape : Shape} {h a : List Row} {X : List Word} {b : List Row} {Y : List Word} {p q t M : ℕ} (r : TurnsPowers shape h a X b Y p q t M) where
  back_on : OnInfinite shape (turned h) b (q * t) Y a (p * t) X
  back_on = on_turned r.first r.second r.on

  -- at each attractor of b
  shares_shift : (y : Word) (n : ℕ) (L : List ℕ) → IsAttractorOf shape b Y y n L → SharesShift shape h a (p * M) b (q * M) y (repeated (q * t) L)
  shares_shift y n L end =
      let s = injected r.second r.first back_on (one-le-mul r.q_low r.t_low) (one-le-mul r.p_low r.t_low) end in
      let x = s.end in
      let z = s.rest in
      let first = r.first_period x s.steps s.by s.attractor in
      let second = r.second_period y n L end in
      let A = repeated (p * (M / s.steps)) s.by in
      let B = repeated (q * (M / n)) L in
      let d = y · repeated s.times (repeated (q * t) L) in
      let steps = s.times * (q * t * n) in
      let there = carries_again r.second end (q * t) s.times in
      let hd = carries_word shape b r.second.pair (pos steps) y d there in
      let hz = word_rest shape x z ((moves_map shape (turned h) back_on.pair).ahead.word d (x · z) hd s.sent) in
      let some = s.attractor.attractor.lengthens.0 in
      let passes : A ++ z ≡ z ++ B =
      root_passes s.by z L s.steps n p q t s.rounds M r.p_low r.t_low r.M_low first second some s.divides s.passes in
      record {
        times = s.times;
        word = x · z;
        sent = moves_back h (x · z) d s.sent;
        by = B;
        first = subst (Carries shape a (pos (p * M)) (x · z))
            (after-append x A z ∙ ap (λ l. x · l) passes ∙ sym (after-append x z B))
            (carries_extends shape a (pos (p * M)) x (x · A) z hz (carries_rounds r.first s.attractor p M first));
        second = lengthened_there shape b r.second.pair (pos steps) (q * M) y d B there (carries_rounds r.second end q M second);
      }

  -- where h sends long words u to v and u' to v', and the power p M of a leads from u to u', the power q M of b leads from v to v': multiples of the
  -- powers by p t and q t lead from all of these near an attractor
  sent_alike : (u u' v v' w : Word) → IsUnderInfinite shape a X u → IsUnderInfinite shape a X u' → IsUnderInfinite shape b Y v
      → Carries shape a (pos (p * M)) u u' → Moves h u v → Moves h u' v' → Carries shape b (pos (q * M)) v w → w ≡ v'
  sent_alike u u' v v' w under under' at step sent sent' moved =
      let near = near_end r.second v (q * t) moved.word (one-le-mul r.q_low r.t_low) at in
      let s = shares_shift near.word near.period near.by near.end in
      let z = near.letters in
      let hz = near.of_shape in
      let k = near.times + s.times * near.period in
      let c = s.word in
      let d = near.word · repeated s.times (repeated (q * t) near.by) in
      let e = near.rest in
      let down = nearer_end r.second near s.times in
      let he = word_rest shape d e (carries_word shape b r.second.pair (pos (k * (q * t))) (v · z) (d · e) down) in
      let back = on_steps r.second r.first back_on k (v · z) (d · e) (u · z) (c · e) (longer_infinite at z) down
      (moves_turned h (u · z) (v · z) (moves_extends h u v z sent)) (moves_turned h (c · e) (d · e) (moves_extends h c d e s.sent)) in
      let over = across shape a r.first.pair (p * M) (k * (p * t)) u u' c z e s.by hz he step s.first back in
      let there = on_steps r.first r.second r.on k (u' · z) (c · (s.by ++ e)) (v' · z) (d · (s.by ++ e)) (longer_infinite under' z) over
      (moves_extends h u' v' z sent') (moves_extends h c d (s.by ++ e) s.sent) in
      let other = across shape b r.second.pair (q * M) (k * (q * t)) v w d z e s.by hz he moved s.second down in
      after_cancel_right w v' z (carries_injective shape b r.second.pair (pos (k * (q * t))) (w · z) (v' · z) (d · (s.by ++ e)) other there)

  pub turns_roots : OnInfinite shape h a (p * M) X b (q * M) Y
  turns_roots = record {
    pair = r.on.pair;
    bound = r.on.bound;
    ahead = r.on.ahead;
    behind = r.on.behind;
    commutes = λ u u' v v' under step sent sent'.
        let i = pos (p * M) in
        let j = pos (q * M) in
        let hv = (moves_map shape h r.on.pair).ahead.word u v step.word sent in
        let hu' = carries_word shape a r.first.pair i u u' step in
        carries_behind shape b r.second.pair j v v' hv (r.on.bound + longest X + far_bound r.second j 0) (λ z hz long.
        let step_z = carries_extends shape a i u u' z hz step in
        let sent_z = moves_extends h u v z sent in
        let at = longer_infinite under z in
        let some = basis_holds shape X r.first.semi.basis (u' · z) (word_after shape u' z hu' hz) (omega (arith, long, length-after u' z)) in
        let there = moved_infinite r.first i (u · z) (u' · z) at some step_z in
        let hu = word_after shape u z step.word hz in
        let over = r.on.ahead (u · z) (v · z) hu (omega (arith, long, length-after u z)) at sent_z in
        let far = leads_far r.second j 0 (v · z) (word_after shape v z hv hz) (omega (arith, long, length-after v z)) over in
        let same = sent_alike (u · z) (u' · z) (v · z) (v' · z) far.to at there over step_z sent_z (moves_extends h u' v' z sent') far.carries in
        subst (Carries shape b j (v · z)) same far.carries);
  }
