-- Where the steps of a word come to, one after another and over ponds.
use Rattle.std.proofs.Common.{◌≡◌, ℕ, ◌+◌, ◌-◌, ◌≤◌, ◌<◌, ◌↔◌, List, refl, sym, subst, arith, ℤ, pos, ◌+ℤ◌}
use Rattle.std.proofs.lemmas.Int.{ints}
use Rattle.ht_word.specs.Words.{◌·◌, IsWordOf, IsUnderSome}
use Rattle.ht_word.specs.declared.shape.Shape.{Shape}
use Rattle.ht_word.specs.declared.word.Word.{Word}
use Rattle.ht_word.proofs.WordLaws.{under_after, after_cancel_right, word_rest}
use Rattle.ht_pair.specs.Orbits.{IsPond}
use Rattle.ht_pair.specs.Pairs.{IsPair}
use Rattle.ht_pair.specs.SemiNormal.{CarriesUnder}
use Rattle.ht_pair.specs.Steps.{Carries}
use Rattle.ht_pair.specs.declared.row.Row.{Row}
use Rattle.ht_pair.proofs.BasisLaws.{some_at}
use Rattle.ht_pair.proofs.CarriesLaws.{carries_single, carries_itself, carries_extends, carries_rest, carries_sum}
use Rattle.ht_quasi.proofs.StepLaws.{listed_at}
use Rattle.ht_types.specs.Flows.{IsPlaced}
use Rattle.ht_types.specs.declared.walk.Walk.{Walk}
use Rattle.ht_share.specs.InnerWords.{IsInner}
use Rattle.ht_share.specs.PondWalks.{ComesTo}
use Rattle.ht_share.proofs.ReturnLaws.{none_ever, not_before}

-- a word stands where it is placed
pub stands : (shape : Shape) (p : List Row) (X : List Word) (u : Word) (walk : Walk) → IsWordOf shape u → IsPlaced X u walk → ComesTo shape p X u walk
stands shape p X u walk h placed = record {
  above = placed.above;
  here = placed.here;
  carries = subst (λ k. Carries shape p (pos k) u (placed.above · walk.rest)) (sym placed.none) (subst (Carries shape p (pos 0) u) placed.is (carries_itself shape p u h));
}

-- what is carried under X at last is so from where its steps have come to
pub from_there : (shape : Shape) (p : List Row) → IsPair shape p → (X : List Word) (u w : Word) (k most : ℕ) → k ≤ most → Carries shape p (pos k) u w → CarriesUnder shape p (pos most) u X → CarriesUnder shape p (pos (most - k)) w X
from_there shape p pair X u w k most less carries s = record { to = s.to; carries = carries_rest shape p pair (pos k) (pos (most - k)) (pos most) (sum k most less) u w s.to carries s.carries; under = s.under }
  where
    sum : (j k : ℕ) → j ≤ k → pos j +ℤ pos (k - j) ≡ pos k
    sum j k l = omega (arith, ints)

-- a word without a pond leads no further
pub no_further : (shape : Shape) (p : List Row) → IsPair shape p → (X : List Word) (u w : Word) (k most : ℕ) → k < most → Carries shape p (pos k) u w → IsInner shape p X w → ((j : ℕ) (v : Word) → ¬ IsPond shape p X w j v) → ¬ CarriesUnder shape p (pos most) u X
no_further shape p pair X u w k most less carries inner none s = none_ever shape p X w inner none (most - k) (most - k) (omega (arith, less)) (omega arith) (from_there shape p pair X u w k most (omega (arith, less)) carries s)

-- nor does one whose pond ends later
pub not_so_far : (shape : Shape) (p : List Row) → IsPair shape p → (X : List Word) (u w v : Word) (k j most : ℕ) → k < most → most - k < j → Carries shape p (pos k) u w → IsPond shape p X w j v → ¬ CarriesUnder shape p (pos most) u X
not_so_far shape p pair X u w v k j most less short carries pond s = not_before shape p X w v j (most - k) pond (omega (arith, less)) short (from_there shape p pair X u w k most (omega (arith, less)) carries s)

-- and else the steps come to the end of the pond
pub over_pond : (shape : Shape) (p : List Row) → IsPair shape p → (X : List Word) (u w v : Word) (k j : ℕ) (start : Walk) → Carries shape p (pos k) u w → IsPond shape p X w j v → IsPlaced X v start → ComesTo shape p X u (record { steps = k + j; to = start.to; rest = start.rest })
over_pond shape p pair X u w v k j start carries pond placed = record {
  above = placed.above;
  here = placed.here;
  carries = subst (Carries shape p (pos (k + j)) u) placed.is (carries_sum shape p pair (pos k) (pos j) (pos (k + j)) refl u w v carries pond.carries);
}

-- what steps come to is under X
pub comes_under : (shape : Shape) (p : List Row) (X : List Word) (u : Word) (k : ℕ) (walk : Walk) → ComesTo shape p X u walk → walk.steps ≡ k → CarriesUnder shape p (pos k) u X
comes_under shape p X u k walk c all = record {
  to = c.above · walk.rest;
  carries = subst (λ i. Carries shape p (pos i) u (c.above · walk.rest)) all c.carries;
  under = some_at X c.above (c.above · walk.rest) (listed_at X walk.to c.above c.here) (under_after c.above walk.rest);
}

-- a power that carries one word with letters behind it to another with these letters carries the one to a word under X, if to any, just where to the other
pub agreed : (shape : Shape) (p : List Row) → IsPair shape p → (X : List Word) (u v : Word) (k : ℤ) (z : List ℕ) → IsUnderSome v X → Carries shape p k (u · z) (v · z) → CarriesUnder shape p k u X ↔ Carries shape p k u v
agreed shape p pair X u v k z under both = (
  λ s.
      let longer = carries_extends shape p k u s.to z (word_rest shape u z both.word) s.carries in
      subst (Carries shape p k u) (after_cancel_right s.to v z (carries_single shape p pair k (u · z) (s.to · z) (v · z) longer both)) s.carries,
  λ c. record { to = v; carries = c; under = under },
)
