-- A pair whose powers are those of another, the other way round, as those of an inverse are: what stays ahead for the one
-- stays behind for the other, and they have one quasinormal basis.
use Rattle.std.proofs.Common.{◌≡◌, ℕ, ◌⊎◌, inl, inr, List, sym, subst, arith, ℤ, pos, negsuc, neg_ℤ, ◌↔◌}
use Rattle.std.proofs.lemmas.Int.{ints}
use Rattle.std.proofs.lemmas.List.Elements.{All-contains}
use Rattle.ht_word.specs.declared.shape.Shape.{Shape}
use Rattle.ht_word.specs.declared.word.Word.{Word}
use Rattle.ht_word.proofs.WordLaws.{All-from_contains}
use Rattle.ht_pair.specs.Actions.{Alike}
use Rattle.ht_pair.specs.Pairs.{IsPair, turned}
use Rattle.ht_pair.specs.Products.{IsPower}
use Rattle.ht_pair.specs.SemiNormal.{CarriesUnder, StaysAhead, StaysBehind, IsSemiNormal, IsQuasinormal}
use Rattle.ht_pair.specs.Steps.{Carries}
use Rattle.ht_pair.specs.declared.row.Row.{Row}
use Rattle.ht_pair.proofs.AlikeLaws.{alike_sym}
use Rattle.ht_pair.proofs.AlikePowerLaws.{carries_alike}
use Rattle.ht_pair.proofs.MovesLaws.{turned_pair}
use Rattle.ht_pair.proofs.PowerLaws.{power_once}
use Rattle.ht_pair.proofs.ProductLaws.{inverse_is}
use Rattle.ht_pair.proofs.TurnedLaws.{carries_of_turned, carries_to_turned}

-- the powers of q carry what those of p carry back
pub record Mirrors (shape : Shape) (p q : List Row) : Type 0 where
  pub to : (k : ℤ) (u v : Word) → Carries shape q k u v → Carries shape p (neg_ℤ k) u v
  pub from : (k : ℤ) (u v : Word) → Carries shape p (neg_ℤ k) u v → Carries shape q k u v

-- the inverse does
pub inverse_mirrors : (shape : Shape) (p q : List Row) → IsPair shape p → IsPower shape p (neg_ℤ (pos 1)) q → Mirrors shape p q
inverse_mirrors shape p q pair power =
    let back = turned_pair shape p pair in
    let alike : Alike shape (turned p) q = power_once shape p (turned p) q (negsuc 0) pair (inverse_is shape p pair) power in
    record {
      to = λ k u v c. carries_of_turned shape p k u v (carries_alike shape q (turned p) power.pair back (alike_sym shape (turned p) q alike) k u v c);
      from = λ k u v c. carries_alike shape (turned p) q back power.pair alike k u v (carries_to_turned shape p k u v c);
    }

-- so does p for q
pub mirrors_back : {shape : Shape} {p q : List Row} → Mirrors shape p q → Mirrors shape q p
mirrors_back {shape} {p} {q} m = record {
  to = λ k u v c. m.from (neg_ℤ k) u v (subst (λ i. Carries shape p i u v) (twice k) c);
  from = λ k u v c. subst (λ i. Carries shape p i u v) (sym (twice k)) (m.to (neg_ℤ k) u v c);
}
  where
    twice : (k : ℤ) → k ≡ neg_ℤ (neg_ℤ k)
    twice k = omega (arith, ints)

-- ---- words that stay

pub under_to : {shape : Shape} {p q : List Row} → Mirrors shape p q → (k : ℤ) (u : Word) (X : List Word) → CarriesUnder shape q k u X → CarriesUnder shape p (neg_ℤ k) u X
under_to m k u X c = record { to = c.to; carries = m.to k u c.to c.carries; under = c.under }

pub under_from : {shape : Shape} {p q : List Row} → Mirrors shape p q → (k : ℤ) (u : Word) (X : List Word) → CarriesUnder shape p (neg_ℤ k) u X → CarriesUnder shape q k u X
under_from m k u X c = record { to = c.to; carries = m.from k u c.to c.carries; under = c.under }

-- what stays ahead for q stays behind for p
pub ahead_behind : {shape : Shape} {p q : List Row} → Mirrors shape p q → (X : List Word) (u : Word) → StaysAhead shape q X u → StaysBehind shape p X u
ahead_behind m X u ahead = λ k. under_to m (pos k) u X (ahead k)

-- and the other way round
pub behind_ahead : {shape : Shape} {p q : List Row} → Mirrors shape p q → (X : List Word) (u : Word) → StaysBehind shape p X u → StaysAhead shape q X u
behind_ahead m X u behind = λ k. under_from m (pos k) u X (behind k)

-- a semi-normal basis of p is one of q
pub mirrored_semi_normal : {shape : Shape} {p q : List Row} → Mirrors shape p q → (X : List Word) → IsSemiNormal shape p X → IsSemiNormal shape q X
mirrored_semi_normal {shape} {p} {q} m X semi = record {
  basis = semi.basis;
  stays = All-from_contains (λ u. StaysAhead shape q X u ⊎ StaysBehind shape q X u) X (λ u c. elim (All-contains (λ u. StaysAhead shape p X u ⊎ StaysBehind shape p X u) X u semi.stays c) [
    | inl ahead ↦ inr (λ k. under_from m (neg_ℤ (pos k)) u X (subst (λ i. CarriesUnder shape p i u X) (twice k) (ahead k)))
    | inr behind ↦ inl (behind_ahead m X u behind)
  ]);
}
  where
    twice : (k : ℕ) → pos k ≡ neg_ℤ (neg_ℤ (pos k))
    twice k = omega (arith, ints)

-- ---- the quasinormal basis

-- that of p is that of q
mirrored_quasinormal : {shape : Shape} {p q : List Row} → Mirrors shape p q → (X : List Word) → IsQuasinormal shape p X → IsQuasinormal shape q X
mirrored_quasinormal m X h = record { semi_normal = mirrored_semi_normal m X h.semi_normal; ascending = h.ascending; least = λ W semi. h.least W (mirrored_semi_normal (mirrors_back m) W semi) }

-- that of an element is that of its inverse
pub quasinormal_inverse : (shape : Shape) (p q : List Row) (X : List Word) → IsPair shape p → IsPower shape p (neg_ℤ (pos 1)) q → IsQuasinormal shape p X ↔ IsQuasinormal shape q X
quasinormal_inverse shape p q X pair power =
    let m = inverse_mirrors shape p q pair power in
    (mirrored_quasinormal m X, mirrored_quasinormal (mirrors_back m) X)

-- and that of the turned pair
pub quasinormal_turned : (shape : Shape) (p : List Row) (X : List Word) → IsPair shape p → IsQuasinormal shape p X ↔ IsQuasinormal shape (turned p) X
quasinormal_turned shape p X pair = quasinormal_inverse shape p (turned p) X pair (inverse_is shape p pair)
