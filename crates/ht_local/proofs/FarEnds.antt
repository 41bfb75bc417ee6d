-- The value of a conjugator at an end, told by an end of the other element under which steps lead from where the conjugator sends a word under it:
-- the front of that end's letters, by its length, and the power.
use Rattle.std.proofs.Common.{◌≡◌, ◌≢◌, ℕ, zero, suc, ◌+◌, ◌*◌, ◌≤◌, inl, inr, List, [], ◌++◌, length, refl, sym, ap, ◌∙◌, subst, arith, append_assoc, Contains, ℤ, pos, negsuc, neg_ℤ, ◌+ℤ◌}
use Rattle.std.proofs.lemmas.Int.{ints}
use Rattle.std.proofs.lemmas.List.{length-append}
use Rattle.ht_word.specs.Words.{◌·◌, IsLetters, IsUnder, IsWordOf}
use Rattle.ht_word.specs.declared.shape.Shape.{Shape}
use Rattle.ht_word.specs.declared.word.Word.{Word}
use Rattle.ht_word.proofs.WordLaws.{after-append, letters_front, word_after, word_rest}
use Rattle.ht_pair.specs.Atoms.{IsInfiniteWord}
use Rattle.ht_pair.specs.Kinds.{IsRepeller}
use Rattle.ht_pair.specs.Repeats.{repeated}
use Rattle.ht_pair.specs.Steps.{Carries}
use Rattle.ht_pair.specs.declared.row.Row.{Row}
use Rattle.ht_pair.proofs.CarriesLaws.{carries_back, carries_extends, carries_sum, carries_word}
use Rattle.ht_pair.proofs.KindLaws.{carries_times, lengthened_there}
use Rattle.ht_types.proofs.AttractorLaws.{IsAttractorOf, attractor_ahead, comes_round, period_le, periods_of, repeated_next, repeated_none}
use Rattle.ht_types.proofs.FlowLaws.{turned_base}
use Rattle.ht_types.proofs.MirrorLaws.{repeller_attractor, turned_mirrors}
use Rattle.ht_types.proofs.PeriodicLaws.{carried_further, periodic_word_either}
use Rattle.ht_types.proofs.PointLaws.{repeated_length}
use Rattle.ht_types.proofs.TurnLaws.{HasSemiNormal}
use Rattle.ht_pieces.specs.Pieces.{IsInside, IsKept}
use Rattle.ht_pieces.specs.Values.{IsValue}
use Rattle.ht_pieces.proofs.Conjugating.{IsConjugator, turned_conjugate}
use Rattle.ht_pieces.proofs.EndValues.{end_value}
use Rattle.ht_pieces.proofs.KeptLaws.{kept_turned}
use Rattle.ht_pieces.proofs.TurnedLetters.{repeated_once, turn_of, turn_once}
use Rattle.ht_pieces.proofs.Values.{value_from, value_once, value_turned, value_under}
use Rattle.ht_local.specs.Crossings.{AreRoundsApart}

-- ---- ends that powers lead to

-- steps on from x lead to y and further letters
record LeadsRound (shape : Shape) (p : List Row) (x y : Word) : Type 0 where
  pub count : ℕ
  pub letters : List ℕ
  pub carries : Carries shape p (pos count) x (y · letters)

module _ {shape : Shape} {p : List Row} {X : List Word} (h : HasSemiNormal shape p X) where
  -- of two attractors under which one power leads steps on lead from the first to the second
  leads_round : {x y : Word} {m n : ℕ} {G L : List ℕ} → IsAttractorOf shape p X x m G → IsAttractorOf shape p X y n L → (k : ℤ) (z w : List ℕ) → Carries shape p k (x · z) (y · w) → LeadsRound shape p x y
  leads_round {x} {y} a b (pos d) z w c =
      let f = carried_further shape p h.pair X h.semi.basis (pos d) x y z w b.listed (word_rest shape x z c.word) (attractor_ahead h a d) c in
      record { count = d; letters = f.letters; carries = f.carries }
  leads_round {x} {y} a b (negsuc d) z w c =
      let back = carries_back shape p h.pair (negsuc d) (x · z) (y · w) c in
      let f = carried_further shape p h.pair X h.semi.basis (pos (suc d)) y x w z a.listed (word_rest shape y w back.word) (attractor_ahead h b (suc d)) back in
      let r = comes_round h b (suc d) x f.letters a.listed f.carries in
      record { count = r.count; letters = r.letters; carries = r.carries }

  -- the periods are the same, and the letters pass into one another
  record ArePassed (m n : ℕ) (G L z : List ℕ) : Type 0 where
    pub same : n ≡ m
    pub passes : L ++ z ≡ z ++ G

  period_on : {x y : Word} {m n : ℕ} {G L : List ℕ} → IsAttractorOf shape p X x m G → IsAttractorOf shape p X y n L → (d : ℕ) (z : List ℕ) → Carries shape p (pos d) x (y · z) → (B : List ℕ) × Carries shape p (pos m) y (y · B) × (B ++ z ≡ z ++ G)
  period_on {x} {y} {m} {n} {G} {L} a b d z c =
      let grows : Carries shape p (pos m) (y · z) (y · (z ++ G)) = subst (Carries shape p (pos m) (y · z)) (after-append y z G) (lengthened_there shape p h.pair (pos d) m x (y · z) G c a.attractor.lengthens.1) in
      let f = carried_further shape p h.pair X h.semi.basis (pos m) y y z (z ++ G) b.listed (word_rest shape y z grows.word) (attractor_ahead h b m) grows in
      (f.letters, f.carries, f.is)

  passed : {x y : Word} {m n : ℕ} {G L : List ℕ} → IsAttractorOf shape p X x m G → IsAttractorOf shape p X y n L → (d : ℕ) (z : List ℕ) → Carries shape p (pos d) x (y · z) → ArePassed m n G L z
  passed {x} {y} {m} {n} {G} {L} a b d z c =
      let there = period_on a b d z c in
      let r = comes_round h a d y z b.listed c in
      let again = period_on b a r.count r.letters r.carries in
      let less = period_le h b m there.0 a.attractor.first.positive there.1 in
      let more = period_le h a n again.0 b.attractor.first.positive again.1 in
      let k = periods_of h b m there.0 there.1 in
      let one = once k.count n m a.attractor.first.positive k.steps less more in
      record {
        same = one.1;
        passes = ap (λ t. t ++ z) (sym (repeated_once L) ∙ ap (λ c. repeated c L) (sym one.0) ∙ sym k.letters) ∙ there.2;
      }
    where
      once : (k n m : ℕ) → 1 ≤ m → m ≡ k * n → n ≤ m → m ≤ n → (k ≡ 1) × (n ≡ m)
      once zero n m low e less more = absurd (omega arith)
      once (suc zero) n m low e less more = (refl, omega arith)
      once (suc (suc k)) n m low e less more = absurd (omega arith)

  -- ---- lengths

  -- where powers lead from one word under an attractor to another, whole repeats of its letters are between them
  rounds_apart : {y : Word} {n : ℕ} {L : List ℕ} → IsAttractorOf shape p X y n L → (k : ℤ) (z w : List ℕ) → Carries shape p k (y · z) (y · w) → AreRoundsApart (length L) (length w) (length z)
  rounds_apart {y} {n} {L} b (pos d) z w c =
      let f = carried_further shape p h.pair X h.semi.basis (pos d) y y z w b.listed (word_rest shape y z c.word) (attractor_ahead h b d) c in
      let k = periods_of h b d f.letters f.carries in
      inl (k.count, omega (arith, ap (λ (t : List ℕ). length t) f.is, length-append f.letters z, ap (λ (t : List ℕ). length t) k.letters, repeated_length k.count L))
  rounds_apart {y} {n} {L} b (negsuc d) z w c =
      let back = carries_back shape p h.pair (negsuc d) (y · z) (y · w) c in
      let f = carried_further shape p h.pair X h.semi.basis (pos (suc d)) y y w z b.listed (word_rest shape y w back.word) (attractor_ahead h b (suc d)) back in
      let k = periods_of h b (suc d) f.letters f.carries in
      inr (k.count, omega (arith, ap (λ (t : List ℕ). length t) f.is, length-append f.letters w, ap (λ (t : List ℕ). length t) k.letters, repeated_length k.count L))

-- ---- the value by another end

-- the value of F at b by the end, which has the period and the letters of b turned by a front of them; its length is told by that of the letters to
-- which steps lead, and of those behind it
pub record HasFarValue (shape : Shape) (F : Word → Word → Type 0) (g : List Row) (b end v : Word) (m n : ℕ) (G L x y w : List ℕ) : Type 0 where
  pub same : n ≡ m
  pub front : List ℕ
  pub back : List ℕ
  pub whole : L ≡ front ++ back
  pub turned : G ≡ back ++ front
  pub proper : back ≢ []
  pub apart : AreRoundsApart (length L) (length w) (length front + (length x + length y))
  pub power : ℤ
  pub value : IsValue shape F g b (end · front) power
  pub shares : Carries shape g power ((end · front) · x) v

module _ {shape : Shape} {f g : List Row} {X Y V W : List Word} {F : Word → Word → Type 0} (c : IsConjugator shape f g V W F) (kept : IsKept shape g (IsInside shape W)) (first : HasSemiNormal shape f X) (second : HasSemiNormal shape g Y)
    (b : Word) (m : ℕ) (G : List ℕ) where
  -- what stands behind two values
  value_shares : {t v : Word} {i : ℤ} (x : List ℕ) → IsWordOf shape b → IsWordOf shape t → IsLetters shape x → IsWordOf shape v → IsValue shape F g b t i → IsValue shape F g (b · x) v (pos 0) → Carries shape g i (t · x) v
  value_shares {t} {v} {i} x hb ht hx hv value other = value_once c (word_after shape b x hb hx) (word_after shape t x ht hx) hv (value_under value x hx) other (none i)
    where
      none : (i : ℤ) → i +ℤ pos 0 ≡ i
      none i = omega (arith, ints)

  further : {t v : Word} {i : ℤ} (end : Word) (front x y w : List ℕ) (s : ℤ) → IsLetters shape y → t ≡ end · front → (e : Word) → Carries shape g i (t · x) v → Carries shape g s (v · y) (e · w) → Carries shape g (i +ℤ s) (end · (front ++ (x ++ y))) (e · w)
  further {t} {v} {i} end front x y w s hy is e near far =
      let long = carries_sum shape g c.second i s (i +ℤ s) refl ((t · x) · y) (v · y) (e · w) (carries_extends shape g i (t · x) v y hy near) far in
      subst (λ u. Carries shape g (i +ℤ s) u (e · w)) (after-append t x y ∙ ap (λ u. u · (x ++ y)) is ∙ after-append end front (x ++ y)) long

  -- by an attractor under which steps lead
  pub far_ahead : IsAttractorOf shape f X b m G → IsInside shape V b → (x y w : List ℕ) (v end : Word) (n : ℕ) (L : List ℕ) (s : ℤ) → IsLetters shape x → IsLetters shape y → IsWordOf shape v
      → IsValue shape F g (b · x) v (pos 0) → IsAttractorOf shape g Y end n L → Carries shape g s (v · y) (end · w) → HasFarValue shape F g b end v m n G L x y w
  far_ahead a d x y w v end n L s hx hy hv value other leads =
      let e = end_value c kept first second b m G a d in
      let of : IsAttractorOf shape g Y e.end m (e.front ++ e.back) = record { listed = e.listed; attractor = e.ends } in
      let near = value_shares x d.word e.inside.word hx hv e.value value in
      let r = leads_round second of other (e.power +ℤ s) (e.front ++ (x ++ y)) w (further e.end e.front x y w s hy refl end near leads) in
      let p = passed second of other r.count r.letters r.carries in
      let z = r.letters ++ e.front in
      let passes : L ++ z ≡ z ++ G = sym (append_assoc L r.letters e.front) ∙ ap (λ t. t ++ e.front) p.passes ∙ append_assoc r.letters (e.front ++ e.back) e.front ∙ ap (λ t. r.letters ++ t) (append_assoc e.front e.back e.front ∙ ap (λ t. e.front ++ t) (sym e.turned)) ∙ sym (append_assoc r.letters e.front G) in
      let some = other.attractor.lengthens.0 in
      let t = turn_of L G some 1 (omega arith) z (ap (λ u. u ++ z) (repeated_once L) ∙ passes) in
      let hL = word_rest shape end L (carries_word shape g second.pair (pos n) end (end · L) other.attractor.lengthens.1) in
      let hf = letters_front shape t.front t.back (subst (IsLetters shape) t.whole hL) in
      let up : Carries shape g (pos (t.times * n)) (end · t.front) (end · z) = subst (Carries shape g (pos (t.times * n)) (end · t.front)) (after-append end (repeated t.times L) t.front ∙ ap (λ u. end · u) (sym t.is))
      (carries_extends shape g (pos (t.times * n)) end (end · repeated t.times L) t.front hf (carries_times shape g second.pair n end L other.attractor.lengthens.1 t.times)) in
      let down : Carries shape g (pos r.count) (e.end · e.front) (end · z) = subst (Carries shape g (pos r.count) (e.end · e.front)) (after-append end r.letters e.front) (carries_extends shape g (pos r.count) e.end (end · r.letters) e.front (word_rest shape e.end e.front e.inside.word) r.carries) in
      let i = pos (t.times * n) +ℤ neg_ℤ (pos r.count) in
      let to = carries_sum shape g second.pair (pos (t.times * n)) (neg_ℤ (pos r.count)) i refl (end · t.front) (end · z) (e.end · e.front) up (carries_back shape g second.pair (pos r.count) (e.end · e.front) (end · z) down) in
      let there = value_from c e.value i (end · t.front) to in
      let shares = value_shares x d.word to.word hx hv there value in
      record {
        same = p.same;
        front = t.front;
        back = t.back;
        whole = t.whole;
        turned = turn_once L z G t passes;
        proper = t.proper;
        apart = subst (AreRoundsApart (length L) (length w)) (length-append t.front (x ++ y) ∙ ap (λ k. length t.front + k) (length-append x y)) (rounds_apart second other ((i +ℤ e.power) +ℤ s) (t.front ++ (x ++ y)) w (further end t.front x y w s hy refl end shares leads));
        power = i +ℤ e.power;
        value = there;
        shares = shares;
      }

-- so by a repeller: by the turned rows
pub far_behind : {shape : Shape} {f g : List Row} {X Y V W : List Word} {F : Word → Word → Type 0} → IsConjugator shape f g V W F → IsKept shape g (IsInside shape W) → HasSemiNormal shape f X → HasSemiNormal shape g Y
    → (b : Word) (m : ℕ) (G : List ℕ) → Contains X b → IsRepeller shape f b m G → IsInside shape V b → (x y w : List ℕ) (v end : Word) (n : ℕ) (L : List ℕ) (s : ℤ) → IsLetters shape x → IsLetters shape y → IsWordOf shape v
    → IsValue shape F g (b · x) v (pos 0) → Contains Y end → IsRepeller shape g end n L → Carries shape g s (v · y) (end · w) → HasFarValue shape F g b end v m n G L x y w
far_behind {shape} {f} {g} c kept first second b m G listed r d x y w v end n L s hx hy hv value there r' leads =
    let mirrors = turned_mirrors shape g c.second in
    let a = repeller_attractor (turned_mirrors shape f c.first) b m G r in
    let a' = repeller_attractor mirrors end n L r' in
    let far = far_ahead (turned_conjugate c) (kept_turned c.second kept) (turned_base first) (turned_base second) b m G (record { listed = listed; attractor = a }) d x y w v end n L (neg_ℤ s) hx hy hv
    (record { bound = value.bound; at = value.at }) (record { listed = there; attractor = a' }) (mirrors.from (neg_ℤ s) (v · y) (end · w) (subst (λ k. Carries shape g k (v · y) (end · w)) (sym (twice s)) leads)) in
    record {
      same = far.same;
      front = far.front;
      back = far.back;
      whole = far.whole;
      turned = far.turned;
      proper = far.proper;
      apart = far.apart;
      power = neg_ℤ far.power;
      value = value_turned far.value;
      shares = mirrors.to far.power ((end · far.front) · x) v far.shares;
    }
  where
    twice : (i : ℤ) → neg_ℤ (neg_ℤ i) ≡ i
    twice i = omega (arith, ints)

-- ---- one power alone

-- a power that leads from a word under an infinite word to itself is none
only_none : {shape : Shape} {p : List Row} {X : List Word} → HasSemiNormal shape p X → (x u : Word) → IsInfiniteWord shape p X x → IsUnder u x → (k : ℤ) → Carries shape p k u u → k ≡ pos 0
only_none {shape} {p} {X} h x u infinite under (pos zero) c = refl
only_none {shape} {p} {X} h x u infinite under (pos (suc k)) c = absurd (infinite.1 (periodic_word_either shape p h.pair X h.semi (pos (suc k)) u x (λ e. omega (arith, ints, e)) infinite.0 under c))
only_none {shape} {p} {X} h x u infinite under (negsuc k) c = absurd (infinite.1 (periodic_word_either shape p h.pair X h.semi (negsuc k) u x (λ e. omega (arith, ints, e)) infinite.0 under c))

-- so two powers that lead from a word there to one word are the same
pub power_once_only : {shape : Shape} {p : List Row} {X : List Word} → HasSemiNormal shape p X → (x u v : Word) → IsInfiniteWord shape p X x → IsUnder u x → (i j : ℤ) → Carries shape p i u v → Carries shape p j u v → i ≡ j
power_once_only {shape} {p} {X} h x u v infinite under i j first second =
    less i j (only_none h x u infinite under (i +ℤ neg_ℤ j) (carries_sum shape p h.pair i (neg_ℤ j) (i +ℤ neg_ℤ j) refl u v u first (carries_back shape p h.pair j u v second)))
  where
    less : (i j : ℤ) → i +ℤ neg_ℤ j ≡ pos 0 → i ≡ j
    less i j e = omega (arith, ints, e)
