-- Powers of an element on its infinite part alone: those of the infinite part, and the turned rows. X is a semi-normal basis of a.
use Rattle.std.proofs.Common.{◌≡◌, ℕ, ◌*◌, ◌≤◌, ◌⊎◌, inl, inr, List, length, subst, arith, mul-one, pos, neg_ℤ}
use Rattle.std.proofs.lemmas.Int.{ints}
use Rattle.ht_word.specs.Words.{◌·◌, IsWordOf}
use Rattle.ht_word.specs.declared.shape.Shape.{Shape}
use Rattle.ht_word.specs.declared.word.Word.{Word}
use Rattle.ht_word.proofs.WordLaws.{length-after, word_after}
use Rattle.ht_pair.specs.Bases.{longest}
use Rattle.ht_pair.specs.Kinds.{IsCycle}
use Rattle.ht_pair.specs.Pairs.{IsPair, turned}
use Rattle.ht_pair.specs.Parts.{HasParts}
use Rattle.ht_pair.specs.Products.{IsPower}
use Rattle.ht_pair.specs.Steps.{Carries}
use Rattle.ht_pair.specs.declared.row.Row.{Row}
use Rattle.ht_pair.proofs.BasisLaws.{basis_holds}
use Rattle.ht_pair.proofs.CarriesLaws.{carries_back, carries_extends, carries_single, carries_word}
use Rattle.ht_pair.proofs.MovesLaws.{turned-turned, turned_pair}
use Rattle.ht_pair.proofs.PowerProducts.{power_turned}
use Rattle.ht_pair.proofs.TurnedLaws.{carries_of_turned, carries_to_turned}
use Rattle.ht_types.specs.Flows.{IsUnderInfinite}
use Rattle.ht_types.proofs.FlowLaws.{turned_base}
use Rattle.ht_types.proofs.PeriodicLaws.{carries_round}
use Rattle.ht_types.proofs.TurnLaws.{HasSemiNormal}
use Rattle.ht_laws.proofs.GroupLaws.{carries_by_power}
use Rattle.ht_laws.proofs.KeptPartLaws.{under_a_part}
use Rattle.ht_power_laws.specs.OnInfinite.{ActsAsPower}
use Rattle.ht_power_laws.proofs.FarWords.{carries_behind, far_bound, infinite_of_turned, leads_far, longer_infinite, moved_infinite, turned_infinite}
use Rattle.ht_power_laws.proofs.OnInfinite.{twice}
use Rattle.ht_power_laws.proofs.PowersOnInfinite.{part_acts, part_stays}

-- f acts as the i-th power of a under the infinite part alone: each other long word it leads back to itself
pub record ActsAlone (shape : Shape) (a : List Row) (i : ℕ) (X : List Word) (f : List Row) : Type 0 where
  pub acts : ActsAsPower shape a i X f
  pub apart : (u : Word) → IsWordOf shape u → longest X ≤ length u.letters → IsUnderInfinite shape a X u ⊎ Carries shape f (pos 1) u u

-- a power of the infinite part
pub part_alone : {shape : Shape} {a : List Row} {X : List Word} {s t : List Row} → HasSemiNormal shape a X → HasParts shape a X s t
    → (i : ℕ) (f : List Row) → IsPower shape t (pos i) f → ActsAlone shape a i X f
part_alone {shape} {a} {X} {s} {t} h parts i f power = record {
  acts = part_acts h parts i f power;
  apart = λ u word long. elim (under_a_part shape a X s t h.semi.basis parts u word long) [
    | inl under ↦ inr ((carries_by_power shape t f (pos i) u u parts.on_infinite.pair power).0 (stays u (part_stays h parts u word under)))
    | inr under ↦ inl (record { above = under.above; infinite = (parts.is_infinite.same under.above).0 under.listed; under = under.under })
  ];
}
  where
    stays : (u : Word) → Carries shape t (pos 1) u u → Carries shape t (pos i) u u
    stays u once = subst (λ k. Carries shape t (pos k) u u) (mul-one i) (carries_round shape t parts.on_infinite.pair 1 u once i)

-- where k steps of the turned rows lead, k steps lead back
back_of_turned : (shape : Shape) (p : List Row) → IsPair shape p → (k : ℕ) (u v : Word) → Carries shape (turned p) (pos k) u v
    → Carries shape p (pos k) v u
back_of_turned shape p pair k u v c =
    subst (λ i. Carries shape p i v u) (twice k) (carries_back shape p pair (neg_ℤ (pos k)) u v (carries_of_turned shape p (pos k) u v c))

back_to_turned : (shape : Shape) (p : List Row) → IsPair shape p → (k : ℕ) (u v : Word) → Carries shape p (pos k) v u
    → Carries shape (turned p) (pos k) u v
back_to_turned shape p pair k u v c = carries_to_turned shape p (pos k) u v (carries_back shape p pair (pos k) v u c)

module _ {shape : Shape} {a : List Row} {i : ℕ} {X : List Word} {f : List Row} (h : HasSemiNormal shape a X) (acts : ActsAsPower shape a i X f) where
  back_steps : (k : ℕ) (u v : Word) → IsUnderInfinite shape (turned a) X v → Carries shape (turned a) (pos (k * i)) u v
      → Carries shape (turned f) (pos k) u v
  back_steps k u v under c =
      back_to_turned shape f acts.pair k u v ((acts.same k v u (infinite_of_turned h under)).1 (back_of_turned shape a h.pair (k * i) u v c))

  back_cycle : (x : Word) (m : ℕ) → IsCycle shape (turned a) x m → IsCycle shape a x m
  back_cycle x m cycle = record {
    positive = cycle.positive;
    holds = back_of_turned shape a h.pair m x x cycle.holds;
    least = λ j low high c. cycle.least j low high (back_to_turned shape a h.pair j x x c);
  }

  turned_acts : ActsAsPower shape (turned a) i X (turned f)
  turned_acts =
      let base = turned_base h in
      let pair = turned_pair shape f acts.pair in
      record {
        pair = pair;
        same = λ k u v under.
            let steps = pos (k * i) in (
              (λ c. carries_behind shape (turned a) base.pair steps u v c.word (far_bound base steps 0) (λ z hz long.
                  let hu = word_after shape u z c.word hz in
                  let far = leads_far base steps 0 (u · z) hu (omega (arith, long, length-after u z)) (longer_infinite under z) in
                  let there = back_steps k (u · z) far.to far.infinite far.carries in
                  let moved = carries_extends shape (turned f) (pos k) u v z hz c in
                  let same = carries_single shape (turned f) pair (pos k) (u · z) far.to (v · z) there moved in
                  subst (Carries shape (turned a) steps (u · z)) same far.carries)),
              (λ c. carries_behind shape (turned f) pair (pos k) u v c.word (longest X) (λ z hz long.
                  let moved = carries_extends shape (turned a) steps u v z hz c in
                  let hv = carries_word shape (turned a) base.pair steps (u · z) (v · z) moved in
                  let some = basis_holds shape X base.semi.basis (v · z) hv (omega (arith, long, length-after v z)) in
                  back_steps k (u · z) (v · z) (moved_infinite base steps (u · z) (v · z) (longer_infinite under z) some moved) moved)),
            );
        home = λ x m listed cycle.
            let home = acts.home x m listed (back_cycle x m cycle) in
            (home.0, home.1, back_to_turned shape f acts.pair home.0 x x home.2);
      }

-- the turned rows act as a power of the inverse
pub turned_alone : {shape : Shape} {a : List Row} {i : ℕ} {X : List Word} {f : List Row} → HasSemiNormal shape a X → ActsAlone shape a i X f
    → ActsAlone shape (turned a) i X (turned f)
turned_alone {shape} {f = f} h alone = record {
  acts = turned_acts h alone.acts;
  apart = λ u word long. elim (alone.apart u word long) [
    | inl under ↦ inl (turned_infinite h under)
    | inr back ↦ inr (back_to_turned shape f alone.acts.pair 1 u u back)
  ];
}

-- the power -i of an infinite part acts as the i-th power of the inverse
pub part_alone_back : {shape : Shape} {b : List Row} {Y : List Word} {s t : List Row} → HasSemiNormal shape b Y → HasParts shape b Y s t
    → (i : ℕ) (g : List Row) → IsPower shape t (neg_ℤ (pos i)) g → ActsAlone shape (turned b) i Y g
part_alone_back {shape} {b} {Y} {t = t} h parts i g power =
    let ahead = power_turned shape t g (neg_ℤ (pos i)) parts.on_infinite.pair power in
    subst (ActsAlone shape (turned b) i Y) (turned-turned g)
    (turned_alone h (part_alone h parts i (turned g) (subst (λ k. IsPower shape t k (turned g)) (twice i) ahead)))
