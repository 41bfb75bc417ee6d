-- Belonging together is an equivalence of attractors.
use Rattle.std.proofs.Common.{◌≡◌, ℕ, zero, suc, ◌≤◌, inl, inr, List, [], ◌∷◌, ◌++◌, length, refl, sym, ap, ◌∙◌, subst, arith, ℤ, pos, neg_ℤ, ◌*◌, append-nil, ◌+ℤ◌}
use Rattle.std.proofs.lemmas.List.{length-append}
use Rattle.ht_word.specs.Words.{IsWordOf, ◌·◌}
use Rattle.ht_word.specs.declared.shape.Shape.{Shape}
use Rattle.ht_word.specs.declared.word.Word.{Word}
use Rattle.ht_word.proofs.WordLaws.{after-append, after_cancel, list_prefixes, under_refl, under_after, under_trans, word_rest}
use Rattle.ht_pair.specs.Addresses.{BelongTogether}
use Rattle.ht_pair.specs.Kinds.{IsAttractorWord}
use Rattle.ht_pair.specs.Pairs.{IsPair}
use Rattle.ht_pair.specs.Steps.{Carries}
use Rattle.ht_pair.specs.declared.row.Row.{Row}
use Rattle.ht_pair.proofs.CarriesLaws.{carries_single, carries_word, carries_extends, carries_add, carries_back, carries_itself}
use Rattle.ht_pair.specs.Repeats.{repeated}
use Rattle.ht_pair.proofs.KindLaws.{length-repeated, carries_times, lengthened_there}

-- a word belongs together with itself
pub together_refl : (shape : Shape) (p : List Row) (x : Word) → IsWordOf shape x → BelongTogether shape p x x
together_refl shape p x h = record { steps = pos 0; to = x; carries = carries_itself shape p x h; under = under_refl x }

-- a power that carries x to y with the letters w, and then one that carries y under z
pub together_trans : (shape : Shape) (p : List Row) (x y z : Word) → IsPair shape p → BelongTogether shape p x y → BelongTogether shape p y z → BelongTogether shape p x z
together_trans shape p x y z pair h g =
    let w = h.under.rest in
    let first : Carries shape p h.steps x (y · w) = subst (Carries shape p h.steps x) h.under.is h.carries in
    let hw = word_rest shape y w (carries_word shape p pair h.steps x (y · w) first) in
    record {
      steps = h.steps +ℤ g.steps;
      to = g.to · w;
      carries = carries_add shape p pair h.steps g.steps x (y · w) (g.to · w) first (carries_extends shape p g.steps y g.to w hw g.carries);
      under = under_trans (under_after g.to w) g.under;
    }

-- of two lists of letters of which the first is no longer, and which begin one list, the second begins with the first
begins_with : (w D G : List ℕ) → w ++ G ≡ D ++ w → length w ≤ length D → (v : List ℕ) × (D ≡ w ++ v)
begins_with w D G same l = elim (list_prefixes w D G w same) [
  | inr h ↦ (h.0, h.1)
  | inl h ↦ ([], sym (append-nil w ∙ h.1 ∙ ap (λ z. D ++ z) (none h.0 (omega (arith, l, ap (λ (t : List ℕ). length t) h.1, length-append D h.0))) ∙ append-nil D))
]
  where
    none : (z : List ℕ) → length z ≡ 0 → z ≡ []
    none [] e = refl
    none (a ∷ z) e = absurd (omega (arith, e))

-- where a power carries x to y with the letters w, and one power lengthens x by G and y by D, D no shorter than w, the words belong together the other way round
turned_together : (shape : Shape) (p : List Row) → IsPair shape p → (i : ℤ) (N : ℕ) (x y : Word) (w G D : List ℕ) → Carries shape p i x (y · w) → Carries shape p (pos N) x (x · G) → Carries shape p (pos N) y (y · D) → length w ≤ length D → BelongTogether shape p y x
turned_together shape p pair i N x y w G D c first second l =
    let hw = word_rest shape y w (carries_word shape p pair i x (y · w) c) in
    let one : Carries shape p (pos N) (y · w) ((y · w) · G) = lengthened_there shape p pair i N x (y · w) G c first in
    let other : Carries shape p (pos N) (y · w) ((y · D) · w) = carries_extends shape p (pos N) y (y · D) w hw second in
    let same : w ++ G ≡ D ++ w = after_cancel y (w ++ G) (D ++ w) (sym (after-append y w G) ∙ carries_single shape p pair (pos N) (y · w) ((y · w) · G) ((y · D) · w) one other ∙ after-append y D w) in
    let v = begins_with w D G same l in
    let there : Carries shape p (pos N) y ((y · w) · v.0) = subst (Carries shape p (pos N) y) (ap (λ z. y · z) v.1 ∙ sym (after-append y w v.0)) second in
    let hv = word_rest shape (y · w) v.0 (carries_word shape p pair (pos N) y ((y · w) · v.0) there) in
    record {
      steps = pos N +ℤ neg_ℤ i;
      to = x · v.0;
      carries = carries_add shape p pair (pos N) (neg_ℤ i) y ((y · w) · v.0) (x · v.0) there (carries_extends shape p (neg_ℤ i) (y · w) x v.0 hv (carries_back shape p pair i x (y · w) c));
      under = under_after x v.0;
    }

-- attractors belong together both ways
pub together_sym : (shape : Shape) (p : List Row) (x y : Word) → IsPair shape p → IsAttractorWord shape p x → IsAttractorWord shape p y → BelongTogether shape p x y → BelongTogether shape p y x
together_sym shape p x y pair (m, G, at_x) (k, D, at_y) h =
    let w = h.under.rest in
    let a = length w in
    let turn : (m * a) * k ≡ (k * a) * m = omega arith in
    turned_together shape p pair h.steps ((k * a) * m) x y w (repeated (k * a) G) (repeated (m * a) D)
    (subst (Carries shape p h.steps x) h.under.is h.carries)
    (carries_times shape p pair m x G at_x.lengthens.1 (k * a))
    (subst (λ j. Carries shape p (pos j) y (y · repeated (m * a) D)) turn (carries_times shape p pair k y D at_y.lengthens.1 (m * a)))
    (long_enough (length (repeated (m * a) D)) m a at_x.first.positive (length-repeated (m * a) D at_y.lengthens.0))
  where
    long_enough : (l m a : ℕ) → 1 ≤ m → m * a ≤ l → a ≤ l
    long_enough l zero a low h = absurd (omega (arith, low))
    long_enough l (suc m) a low h = omega (arith, h)
