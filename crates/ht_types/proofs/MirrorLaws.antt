-- The kinds of words and their reaches by a pair whose powers are those of another, the other way round: what is told ahead of
-- the one holds behind of the other.
use Rattle.std.proofs.Common.{ℕ, List, pos, neg_ℤ}
use Rattle.ht_word.specs.Words.{◌·◌}
use Rattle.ht_word.specs.declared.shape.Shape.{Shape}
use Rattle.ht_word.specs.declared.word.Word.{Word}
use Rattle.ht_pair.specs.Kinds.{Lengthens, IsAttractor, IsRepeller, IsAttractorWord, IsRepellerWord}
use Rattle.ht_pair.specs.Pairs.{IsPair, turned}
use Rattle.ht_pair.specs.Reaches.{CarriesUnderSuch, IsReachAhead, IsReachBehind}
use Rattle.ht_pair.specs.declared.row.Row.{Row}
use Rattle.ht_pair.proofs.ProductLaws.{inverse_is}
use Rattle.ht_quasi.proofs.MirrorLaws.{Mirrors, ahead_behind, inverse_mirrors}
use Rattle.ht_types.specs.WordKinds.{LeadsAhead, LeadsBehind}
use Rattle.ht_types.specs.declared.kind.Reach.{Reach}

-- the turned rows of a pair mirror it
pub turned_mirrors : (shape : Shape) (p : List Row) → IsPair shape p → Mirrors shape p (turned p)
turned_mirrors shape p pair = inverse_mirrors shape p (turned p) pair (inverse_is shape p pair)

-- ---- kinds

lengthens_to : {shape : Shape} {p q : List Row} → Mirrors shape p q → (u : Word) (k : ℕ) (z : List ℕ) → Lengthens shape q (pos k) u z → Lengthens shape p (neg_ℤ (pos k)) u z
lengthens_to m u k z l = (l.0, m.to (pos k) u (u · z) l.1)

lengthens_from : {shape : Shape} {p q : List Row} → Mirrors shape p q → (u : Word) (k : ℕ) (z : List ℕ) → Lengthens shape p (neg_ℤ (pos k)) u z → Lengthens shape q (pos k) u z
lengthens_from m u k z l = (l.0, m.from (pos k) u (u · z) l.1)

-- an attractor of q is a repeller of p
pub attractor_repeller : {shape : Shape} {p q : List Row} → Mirrors shape p q → (u : Word) (k : ℕ) (z : List ℕ) → IsAttractor shape q u k z → IsRepeller shape p u k z
attractor_repeller m u k z a = record {
  lengthens = lengthens_to m u k z a.lengthens;
  first = record {
    positive = a.first.positive;
    holds = (a.first.holds.0, lengthens_to m u k a.first.holds.0 a.first.holds.1);
    least = λ j low high l. a.first.least j low high (l.0, lengthens_from m u j l.0 l.1);
  };
}

-- and a repeller of p is an attractor of q
pub repeller_attractor : {shape : Shape} {p q : List Row} → Mirrors shape p q → (u : Word) (k : ℕ) (z : List ℕ) → IsRepeller shape p u k z → IsAttractor shape q u k z
repeller_attractor m u k z a = record {
  lengthens = lengthens_from m u k z a.lengthens;
  first = record {
    positive = a.first.positive;
    holds = (a.first.holds.0, lengthens_from m u k a.first.holds.0 a.first.holds.1);
    least = λ j low high l. a.first.least j low high (l.0, lengthens_to m u j l.0 l.1);
  };
}

pub no_repeller : {shape : Shape} {p q : List Row} → Mirrors shape p q → (u : Word) → ¬ IsAttractorWord shape q u → ¬ IsRepellerWord shape p u
no_repeller m u none = λ r. none (r.0, r.1, repeller_attractor m u r.0 r.1 r.2)

-- ---- reaches

-- what q carries under an attractor ahead, p carries under a repeller behind
pub such_to : {shape : Shape} {p q : List Row} → Mirrors shape p q → (X : List Word) (k : ℕ) (u v : Word) → CarriesUnderSuch shape q (IsAttractorWord shape q) X (pos k) u v → CarriesUnderSuch shape p (IsRepellerWord shape p) X (neg_ℤ (pos k)) u v
such_to m X k u v s = record { above = s.above; listed = s.listed; such = (s.such.0, s.such.1, attractor_repeller m s.above s.such.0 s.such.1 s.such.2); carries = m.to (pos k) u v s.carries; under = s.under }

pub such_from : {shape : Shape} {p q : List Row} → Mirrors shape p q → (X : List Word) (k : ℕ) (u v : Word) → CarriesUnderSuch shape p (IsRepellerWord shape p) X (neg_ℤ (pos k)) u v → CarriesUnderSuch shape q (IsAttractorWord shape q) X (pos k) u v
such_from m X k u v s = record { above = s.above; listed = s.listed; such = (s.such.0, s.such.1, repeller_attractor m s.above s.such.0 s.such.1 s.such.2); carries = m.from (pos k) u v s.carries; under = s.under }

-- a reach ahead for q is one behind for p
pub reach_behind : {shape : Shape} {p q : List Row} → Mirrors shape p q → (X : List Word) (u : Word) (k : ℕ) (v : Word) → IsReachAhead shape q X u k v → IsReachBehind shape p X u k v
reach_behind m X u k v r = record {
  reached = such_to m X k u v r.reached;
  first = record {
    positive = r.first.positive;
    holds = (r.first.holds.0, such_to m X k u r.first.holds.0 r.first.holds.1);
    least = λ j low high s. r.first.least j low high (s.0, such_from m X j u s.0 s.1);
  };
}

pub leads_behind : {shape : Shape} {p q : List Row} → Mirrors shape p q → (X : List Word) (u : Word) (reach : Reach) → LeadsAhead shape q X u reach → LeadsBehind shape p X u reach
leads_behind m X u reach l = record { above = l.above; here = l.here; first = (ahead_behind m X u l.first.0, reach_behind m X u reach.steps (l.above · reach.rest) l.first.1) }
