-- Values of a conjugator: what it sends the long words under a word to, told by a word and a power.
use Rattle.std.proofs.Common.{◌≡◌, ℕ, ◌+◌, ◌≤◌, List, ◌++◌, length, refl, sym, ◌∙◌, subst, arith, ℤ, pos, neg_ℤ, ◌+ℤ◌}
use Rattle.std.proofs.lemmas.Int.{ints}
use Rattle.std.proofs.lemmas.List.{length-append}
use Rattle.ht_word.specs.Words.{◌·◌, IsLetters, IsWordOf}
use Rattle.ht_word.specs.declared.shape.Shape.{Shape}
use Rattle.ht_word.specs.declared.word.Word.{Word}
use Rattle.ht_word.proofs.WordLaws.{after-append, after_cancel_right, length-after, length-ones, letters_append, ones, ones_letters, word_after}
use Rattle.ht_pair.specs.Pairs.{turned}
use Rattle.ht_pair.specs.Steps.{Steps, Carries}
use Rattle.ht_pair.specs.declared.row.Row.{Row}
use Rattle.ht_pair.proofs.CarriesLaws.{carries_back, carries_from_steps, carries_single, carries_sum}
use Rattle.ht_pair.proofs.PrefixMapLaws.{Then}
use Rattle.ht_pair.proofs.StepsLaws.{steps_add, steps_map}
use Rattle.ht_pair.proofs.TurnedLaws.{steps_of_turned}
use Rattle.ht_pieces.specs.Values.{IsValue}
use Rattle.ht_pieces.specs.Pieces.{IsInside}
use Rattle.ht_pieces.proofs.Conjugating.{IsConjugator, steps_commute}
use Rattle.ht_pieces.proofs.KeptLaws.{kept_carries}
use Rattle.ht_pieces.proofs.LongSteps.{leads_on, steps_long}
use Rattle.ht_pieces.proofs.PartMaps.{sent_long}

module _ {shape : Shape} {f g : List Row} {V W : List Word} {F : Word → Word → Type 0} (c : IsConjugator shape f g V W F) where
  -- the value at a word that F sends somewhere
  pub value_here : (u v : Word) → F u v → IsValue shape F g u v (pos 0)
  value_here u v s = record { bound = 0; at = λ z hz l. (v · z, c.map.extends u v z s, refl) }

  -- a value by a word that steps of g lead from
  pub value_from : {u t' : Word} {i : ℤ} → IsValue shape F g u t' i → (j : ℤ) (t : Word) → Carries shape g j t t' → IsValue shape F g u t (j +ℤ i)
  value_from {u} {t'} {i} v j t carries = record {
    bound = v.bound + (steps_map shape g c.second j).ahead.bound;
    at = λ z hz l.
        let y = v.at z hz (omega arith) in
        (y.0, y.1, steps_add shape g c.second j i (t · z) (t' · z) y.0 (word_after shape t z carries.word hz) (steps_long shape g c.second j t t' carries z hz (omega arith)) y.2);
  }

  -- steps of f move a value by as many steps of g
  pub value_moved : {u t : Word} {i : ℤ} → IsInside shape V u → IsWordOf shape t → IsValue shape F g u t i → (k : ℤ) (u' : Word) → Carries shape f k u u' → IsValue shape F g u' t (i +ℤ k)
  value_moved {u} {t} {i} d ht v k u' carries = record {
    bound = (v.bound + (steps_map shape f c.first k).ahead.bound) + (c.map.bound + ((steps_map shape g c.second i).ahead.bound + (steps_map shape g c.second k).ahead.bound));
    at = λ z hz l.
        let y = v.at z hz (omega arith) in
        let x = sent_long c.map u' (kept_carries c.first c.kept k u u' d carries) z hz (omega arith) in
        let w = leads_on shape g c.second i k (t · z) y.0 (word_after shape t z ht hz) y.2 (omega (arith, length-after t z)) in
        let same : w.word ≡ x.0 = steps_commute c k (u · z) (u' · z) y.0 x.0 w.word (word_after shape u z d.word hz) (steps_long shape f c.first k u u' carries z hz (omega arith)) x.1 y.1 w.more in
        (x.0, x.1, subst (Steps g (i +ℤ k) (t · z)) {x = w.word} {y = x.0} same w.whole);
  }

  -- the value of F with steps of g behind it
  pub value_then : {u t : Word} {i : ℤ} → IsWordOf shape t → IsValue shape F g u t i → (k : ℤ) → IsValue shape (Then F (Steps g k)) g u t (i +ℤ k)
  value_then {u} {t} {i} ht v k = record {
    bound = v.bound + ((steps_map shape g c.second i).ahead.bound + (steps_map shape g c.second k).ahead.bound);
    at = λ z hz l.
        let y = v.at z hz (omega arith) in
        let w = leads_on shape g c.second i k (t · z) y.0 (word_after shape t z ht hz) y.2 (omega (arith, length-after t z)) in
        (w.word, record { middle = y.0; first = y.1; second = w.more }, w.whole);
  }

  -- with no steps it is the word that F sends each word under u under
  pub value_exact : {u t : Word} → IsWordOf shape u → IsValue shape F g u t (pos 0) → (z : List ℕ) (w : Word) → IsLetters shape z → F (u · z) w → w ≡ t · z
  value_exact {u} {t} hu v z w hz s =
      let y = ones v.bound in
      let hy = ones_letters shape v.bound in
      let x = v.at (z ++ y) (letters_append shape z y hz hy) (omega (arith, length-append z y, length-ones v.bound)) in
      let long : F (u · (z ++ y)) (w · y) = subst (λ e. F e (w · y)) (after-append u z y) (c.map.extends (u · z) w y s) in
      let same : w · y ≡ x.0 = c.map.single (u · (z ++ y)) (w · y) x.0 (word_after shape u (z ++ y) hu (letters_append shape z y hz hy)) long x.1 in
      after_cancel_right w (t · z) y (same ∙ sym x.2 ∙ sym (after-append t z y))

  -- with some steps it is the word that these carry to
  pub value_at : {u t : Word} {i : ℤ} → IsWordOf shape u → IsValue shape F g u t i → (y : Word) → Carries shape g i t y → (z : List ℕ) (w : Word) → IsLetters shape z → F (u · z) w → w ≡ y · z
  value_at {u} {t} {i} hu v y carries = value_exact hu (subst (IsValue shape F g u y) (none i) (value_from v (neg_ℤ i) y (carries_back shape g c.second i t y carries)))
    where
      none : (i : ℤ) → neg_ℤ i +ℤ i ≡ pos 0
      none i = omega (arith, ints)

  -- two values at a word are carried to one another
  pub value_once : {u t t' : Word} {i j k : ℤ} → IsWordOf shape u → IsWordOf shape t → IsWordOf shape t' → IsValue shape F g u t i → IsValue shape F g u t' j → k +ℤ j ≡ i → Carries shape g k t t'
  value_once {u} {t} {t'} {i} {j} {k} hu ht ht' v v' sum = record {
    word = ht;
    carried = λ z w hz s.
        let b = v.bound + v'.bound in
        let y = z ++ ones b in
        let hy = letters_append shape z (ones b) hz (ones_letters shape b) in
        let long : b ≤ length y = omega (arith, length-append z (ones b), length-ones b) in
        let first = v.at y hy (omega arith) in
        let second = v'.at y hy (omega arith) in
        let same : second.0 ≡ first.0 = c.map.single (u · y) second.0 first.0 (word_after shape u y hu hy) second.1 first.1 in
        let to = carries_from_steps shape g c.second i (t · y) first.0 (word_after shape t y ht hy) first.2 in
        let from = carries_from_steps shape g c.second j (t' · y) first.0 (word_after shape t' y ht' hy) (subst (Steps g j (t' · y)) {x = second.0} {y = first.0} same second.2) in
        let whole = carries_sum shape g c.second i (neg_ℤ j) k (less sum) (t · y) first.0 (t' · y) to (carries_back shape g c.second j (t' · y) first.0 from) in
        let led = (steps_map shape g c.second k).ahead.extends (t · z) w (ones b) s in
        let other = carries_from_steps shape g c.second k (t · y) (w · ones b) (word_after shape t y ht hy) (subst (λ e. Steps g k e (w · ones b)) (after-append t z (ones b)) led) in
        after_cancel_right w (t' · z) (ones b) (carries_single shape g c.second k (t · y) (w · ones b) (t' · y) other whole ∙ sym (after-append t' z (ones b)));
  }
    where
      less : k +ℤ j ≡ i → i +ℤ neg_ℤ j ≡ k
      less e = omega (arith, ints, e)

-- a value goes on under longer words
pub value_under : {shape : Shape} {F : Word → Word → Type 0} {g : List Row} {u t : Word} {i : ℤ} → IsValue shape F g u t i → (y : List ℕ) → IsLetters shape y → IsValue shape F g (u · y) (t · y) i
value_under {shape} {F} {g} {u} {t} {i} v y hy = record {
  bound = v.bound;
  at = λ z hz l.
      let x = v.at (y ++ z) (letters_append shape y z hy hz) (omega (arith, length-append y z)) in
      (x.0, subst (λ e. F e x.0) (sym (after-append u y z)) x.1, subst (λ e. Steps g i e x.0) (sym (after-append t y z)) x.2);
}

-- a value by steps of the turned rows
pub value_turned : {shape : Shape} {F : Word → Word → Type 0} {g : List Row} {u t : Word} {i : ℤ} → IsValue shape F (turned g) u t i → IsValue shape F g u t (neg_ℤ i)
value_turned {g = g} {t = t} {i = i} v = record { bound = v.bound; at = λ z hz l. let y = v.at z hz l in (y.0, y.1, steps_of_turned g i (t · z) y.0 y.2) }
