-- A word has one reach at most, ahead and behind.
use Rattle.std.proofs.Common.{◌≡◌, ℕ, List, refl, sym, subst, ℤ, pos, neg_ℤ, Option, Some, None}
use Rattle.ht_word.specs.declared.shape.Shape.{Shape}
use Rattle.ht_word.specs.declared.word.Word.{Word}
use Rattle.ht_num.proofs.NumberLaws.{once_least}
use Rattle.ht_pair.specs.Pairs.{IsPair}
use Rattle.ht_pair.specs.Reaches.{HasAhead, HasBehind}
use Rattle.ht_pair.specs.Steps.{Carries}
use Rattle.ht_pair.specs.declared.row.Row.{Row}
use Rattle.ht_pair.proofs.CarriesLaws.{carries_single}

-- the same step and the same word make the same reach
reach_same : {k j : ℕ} {v w : Word} → k ≡ j → v ≡ w → ◌≡◌ {A = Option (ℕ × Word)} (Some (k, v)) (Some (j, w))
reach_same e f = λ i. Some (e i, f i)

-- the k-th and the j-th powers carry x to v and w, and k is j
carried_same : (shape : Shape) (p : List Row) → IsPair shape p → (power : ℕ → ℤ) (x v w : Word) (k j : ℕ) → k ≡ j → Carries shape p (power k) x v → Carries shape p (power j) x w → v ≡ w
carried_same shape p pair power x v w k j e c d = carries_single shape p pair (power k) x v w c (subst (λ i. Carries shape p (power i) x w) (sym e) d)

-- a word has one reach ahead, or none
pub ahead_once : (shape : Shape) (p : List Row) (X : List Word) (x : Word) (reach other : Option (ℕ × Word)) → IsPair shape p → HasAhead shape p X x reach → HasAhead shape p X x other → reach ≡ other
ahead_once shape p X x None None pair h g = refl
ahead_once shape p X x None (Some r) pair h g = absurd (h g.0)
ahead_once shape p X x (Some r) None pair h g = absurd (g h.0)
ahead_once shape p X x (Some r) (Some s) pair h g =
    let same : r.0 ≡ s.0 = once_least r.0 s.0 h.1.first g.1.first in
    reach_same same (carried_same shape p pair (λ k. pos k) x r.1 s.1 r.0 s.0 same h.1.reached.carries g.1.reached.carries)

-- and one reach behind, or none
pub behind_once : (shape : Shape) (p : List Row) (X : List Word) (x : Word) (reach other : Option (ℕ × Word)) → IsPair shape p → HasBehind shape p X x reach → HasBehind shape p X x other → reach ≡ other
behind_once shape p X x None None pair h g = refl
behind_once shape p X x None (Some r) pair h g = absurd (h g.0)
behind_once shape p X x (Some r) None pair h g = absurd (g h.0)
behind_once shape p X x (Some r) (Some s) pair h g =
    let same : r.0 ≡ s.0 = once_least r.0 s.0 h.1.first g.1.first in
    reach_same same (carried_same shape p pair (λ k. neg_ℤ (pos k)) x r.1 s.1 r.0 s.0 same h.1.reached.carries g.1.reached.carries)
