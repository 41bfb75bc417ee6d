-- Candidates at one attractor are candidates at all of its round: where steps lead from it under an attractor with the same period, a power
-- carries that attractor and a front of its letters to the first one and a front of its letters.
use Rattle.std.proofs.Common.{◌≡◌, ℕ, ◌*◌, List, ◌++◌, sym, ap, ◌∙◌, subst, arith, Contains, ℤ, pos, neg_ℤ, ◌+ℤ◌}
use Rattle.std.proofs.lemmas.List.{append_assoc}
use Rattle.ht_word.specs.Words.{◌·◌, IsLetters}
use Rattle.ht_word.specs.declared.word.Word.{Word}
use Rattle.ht_word.proofs.WordLaws.{after-append, after_cancel, letters_back, letters_front, word_rest}
use Rattle.ht_pair.specs.Kinds.{IsAttractor}
use Rattle.ht_pair.specs.Repeats.{repeated}
use Rattle.ht_pair.specs.Steps.{Carries}
use Rattle.ht_pair.proofs.CarriesLaws.{carries_add, carries_back, carries_extends, carries_single, carries_word}
use Rattle.ht_pair.proofs.KindLaws.{carries_times, lengthened_there}
use Rattle.ht_types.specs.TypedElements.{TypedValue}
use Rattle.ht_types.proofs.AttractorLaws.{IsAttractorOf, comes_round}
use Rattle.ht_types.proofs.TurnLaws.{HasSemiNormal}
use Rattle.ht_pieces.proofs.TurnedLetters.{repeated_once, turn_of, turn_once}
use Rattle.ht_local.specs.declared.candidates.Candidate.{Candidate}
use Rattle.ht_local.specs.Candidates.{AreFound, HasCandidate, known_of}

module _ (g : TypedValue) (h : HasSemiNormal g.element.shape g.element.rows g.quasi.basis.words) (m : ℕ) (d x : Word) (L front back by : List ℕ) (first : IsAttractorOf g.element.shape g.element.rows g.quasi.basis.words d m L)
    (other : IsAttractorOf g.element.shape g.element.rows g.quasi.basis.words x m (front ++ back)) where
  abbrev carries : ℤ → Word → Word → Type 0
  carries i u v = Carries g.element.shape g.element.rows i u v

  -- d's letters pass through those with which x comes under it again
  passes : (e : ℕ) (c : List ℕ) → carries (pos e) x (d · c) → L ++ c ≡ c ++ (front ++ back)
  passes e c there =
      let hc = word_rest g.element.shape d c (lengthened_there g.element.shape g.element.rows h.pair (pos e) m x (d · c) (front ++ back) there other.attractor.lengthens.1).word in
      let far = subst (carries (pos m) (d · c)) (after-append d L c) (carries_extends g.element.shape g.element.rows (pos m) d (d · L) c hc first.attractor.lengthens.1) in
      let near = lengthened_there g.element.shape g.element.rows h.pair (pos e) m x (d · c) (front ++ back) there other.attractor.lengthens.1 in
      after_cancel d (L ++ c) (c ++ (front ++ back)) (carries_single g.element.shape g.element.rows h.pair (pos m) (d · c) (d · (L ++ c)) ((d · c) · (front ++ back)) far near ∙ after-append d c (front ++ back))

  -- with the front of x's letters behind them too
  passes_front : (c : List ℕ) → by ≡ back ++ front → L ++ c ≡ c ++ (front ++ back) → L ++ (c ++ front) ≡ (c ++ front) ++ by
  passes_front c turned e =
      sym (append_assoc L c front) ∙ ap (λ z. z ++ front) e ∙ append_assoc c (front ++ back) front ∙ ap (λ z. c ++ z) (append_assoc front back front)
      ∙ ap (λ z. c ++ (front ++ z)) (sym turned) ∙ sym (append_assoc c front by)

  -- a power carries x and the front of its letters to d and a front of its own
  found_by : (candidates : List Candidate) (e : ℕ) (c : List ℕ) → carries (pos e) x (d · c) → by ≡ back ++ front → AreFound g m by d candidates → HasCandidate g (x · front) candidates
  found_by candidates e c there turned found =
      let s = g.element.shape in
      let p = g.element.rows in
      let pass = passes_front c turned (passes e c there) in
      let t = turn_of L by first.attractor.lengthens.0 1 (omega arith) (c ++ front) (ap (λ z. z ++ (c ++ front)) (repeated_once L) ∙ pass) in
      let hf = letters_front s front back (word_rest s x (front ++ back) (carries_word s p h.pair (pos m) x (x · (front ++ back)) other.attractor.lengthens.1)) in
      let up : carries (pos e) (x · front) (d · (c ++ front)) = subst (carries (pos e) (x · front)) (after-append d c front) (carries_extends s p (pos e) x (d · c) front hf there) in
      let hd = word_rest s d (c ++ front) (carries_word s p h.pair (pos e) (x · front) (d · (c ++ front)) up) in
      let ht = letters_back s (repeated t.times L) t.front (subst (IsLetters s) t.is hd) in
      let down : carries (pos (t.times * m)) (d · t.front) (d · (c ++ front)) = subst (carries (pos (t.times * m)) (d · t.front)) (after-append d (repeated t.times L) t.front ∙ ap (λ z. d · z) (sym t.is))
      (carries_extends s p (pos (t.times * m)) d (d · repeated t.times L) t.front ht (carries_times s p h.pair m d L first.attractor.lengthens.1 t.times)) in
      let f = found t.front t.back (subst (IsAttractor s p d m) t.whole first.attractor) t.proper (turn_once L (c ++ front) by t pass) in
      record {
        candidate = f.candidate;
        listed = f.listed;
        power = (pos e +ℤ neg_ℤ (pos (t.times * m))) +ℤ f.power;
        carries = carries_add s p h.pair (pos e +ℤ neg_ℤ (pos (t.times * m))) f.power (x · front) (d · t.front) (known_of g f.candidate).word
            (carries_add s p h.pair (pos e) (neg_ℤ (pos (t.times * m))) (x · front) (d · (c ++ front)) (d · t.front) up (carries_back s p h.pair (pos (t.times * m)) (d · t.front) (d · (c ++ front)) down)) f.carries;
      }

-- where the candidates at d are found, and steps lead from d under x, those at x are found
pub round_found : (g : TypedValue) → HasSemiNormal g.element.shape g.element.rows g.quasi.basis.words → (m : ℕ) (d x : Word) (L by : List ℕ) (candidates : List Candidate)
    → IsAttractorOf g.element.shape g.element.rows g.quasi.basis.words d m L → Contains g.quasi.basis.words x → (k : ℕ) (b : List ℕ) → Carries g.element.shape g.element.rows (pos k) d (x · b)
    → AreFound g m by d candidates → AreFound g m by x candidates
round_found g h m d x L by candidates first listed k b there found front back attractor proper turned =
    let r = comes_round h first k x b listed there in
    found_by g h m d x L front back by first (record { listed = listed; attractor = attractor }) candidates r.count r.letters r.carries turned found
