-- A semi-normal basis of an element is one of each of its powers, and of each power of its infinite part; so these take no more expansions.
use Rattle.std.proofs.Common.{◌≡◌, ℕ, zero, suc, ◌*◌, ◌⊎◌, inl, inr, List, sym, ap, ◌∙◌, subst, arith, Contains, ℤ, pos, negsuc, neg_ℤ, ◌*ℤ◌}
use Rattle.std.proofs.Common.{zero-mul}
use Rattle.std.proofs.Math.IntN.{pos-*ℤ-pos, negsuc-*ℤ-pos, zero-*ℤ}
use Rattle.std.proofs.lemmas.Int.{ints}
use Rattle.std.proofs.lemmas.List.Elements.{All-contains}
use Rattle.ht_word.specs.declared.shape.Shape.{Shape}
use Rattle.ht_word.specs.declared.word.Word.{Word}
use Rattle.ht_word.proofs.Deciding.{contains_or_not}
use Rattle.ht_word.proofs.WordLaws.{All-from_contains, under_refl}
use Rattle.ht_pair.specs.Atoms.{IsInfiniteWord}
use Rattle.ht_pair.specs.Bases.{TakesAtMost}
use Rattle.ht_pair.specs.Budgets.{FitsBudget, IsOverBudget}
use Rattle.ht_pair.specs.Pairs.{IsPair, turned}
use Rattle.ht_pair.specs.Parts.{HasParts}
use Rattle.ht_pair.specs.Products.{IsPower}
use Rattle.ht_pair.specs.SemiNormal.{CarriesUnder, StaysAhead, StaysBehind, IsSemiNormal, IsQuasinormal}
use Rattle.ht_pair.specs.Steps.{Carries}
use Rattle.ht_pair.specs.declared.row.Row.{Row}
use Rattle.ht_pair.proofs.BasisLaws.{basis_word, some_at}
use Rattle.ht_pair.proofs.CarriesLaws.{carries_back}
use Rattle.ht_pair.proofs.CountLaws.{no_fewer_below}
use Rattle.ht_pair.proofs.MovesLaws.{turned_pair}
use Rattle.ht_pair.proofs.PowerLaws.{first_power, power_to_inverse}
use Rattle.ht_pair.proofs.ProductLaws.{inverse_is}
use Rattle.ht_pair.proofs.QuasinormalLaws.{quasinormal_unique}
use Rattle.ht_quasi.proofs.MirrorLaws.{mirrored_semi_normal}
use Rattle.ht_types.specs.Flows.{IsUnderInfinite}
use Rattle.ht_types.proofs.MirrorLaws.{turned_mirrors}
use Rattle.ht_types.proofs.PeriodicLaws.{carries_round}
use Rattle.ht_types.proofs.TurnLaws.{HasSemiNormal}
use Rattle.ht_power_laws.proofs.OnInfinite.{twice}
use Rattle.ht_power_laws.proofs.FarWords.{moved_infinite}
use Rattle.ht_power_laws.proofs.PowerCarries.{power_carries}
use Rattle.ht_power_laws.proofs.PowersOnInfinite.{part_acts, part_stays}

-- a word stays one way
abbrev Stays : Shape → List Row → List Word → Word → Type 0
Stays shape p X x = StaysAhead shape p X x ⊎ StaysBehind shape p X x

-- ---- powers

-- a semi-normal basis is one of each power from 0 on
ahead_semi_normal : (shape : Shape) (p s : List Row) (n : ℕ) (X : List Word) → IsPair shape p → IsPower shape p (pos n) s → IsSemiNormal shape p X
    → IsSemiNormal shape s X
ahead_semi_normal shape p s n X pair power semi = record {
  basis = semi.basis;
  stays = All-from_contains (Stays shape s X) X (λ x c. elim (All-contains (Stays shape p X) X x semi.stays c) [
    | inl ahead ↦ inl (λ j. under (pos j) (pos (j * n)) x (pos-*ℤ-pos j n) (ahead (j * n)))
    | inr behind ↦ inr (λ j. under (neg_ℤ (pos j)) (neg_ℤ (pos (j * n))) x (below_times j n) (behind (j * n)))
  ]);
}
  where
    under : (j k : ℤ) (x : Word) → j *ℤ pos n ≡ k → CarriesUnder shape p k x X → CarriesUnder shape s j x X
    under j k x is c = record {
      to = c.to;
      carries = (power_carries pair power j x c.to).1 (subst (λ i. Carries shape p i x c.to) (sym is) c.carries);
      under = c.under;
    }

    below_times : (j k : ℕ) → neg_ℤ (pos j) *ℤ pos k ≡ neg_ℤ (pos (j * k))
    below_times zero k = zero-*ℤ (pos k) ∙ ap (λ (i : ℕ). neg_ℤ (pos i)) (sym (zero-mul k))
    below_times (suc j) k = negsuc-*ℤ-pos j k

-- and of all powers: those from 0 down are powers of the inverse
pub power_semi_normal : (shape : Shape) (p s : List Row) (k : ℤ) (X : List Word) → IsPair shape p → IsPower shape p k s → IsSemiNormal shape p X
    → IsSemiNormal shape s X
power_semi_normal shape p s (pos n) X pair power semi = ahead_semi_normal shape p s n X pair power semi
power_semi_normal shape p s (negsuc n) X pair power semi =
    ahead_semi_normal shape (turned p) s (suc n) X (turned_pair shape p pair)
    (power_to_inverse shape p (turned p) s (pos (suc n)) pair (inverse_is shape p pair) power)
    (mirrored_semi_normal (turned_mirrors shape p pair) X semi)

-- ---- infinite parts

once : (k : ℕ) → k * 1 ≡ k
once k = omega arith

module _ {shape : Shape} {p : List Row} {X : List Word} (h : HasSemiNormal shape p X) {s t : List Row} (parts : HasParts shape p X s t) where
  -- the infinite part carries words under infinite ones as the element does
  carries_too : (k : ℕ) (u v : Word) → IsUnderInfinite shape p X u → Carries shape p (pos k) u v → Carries shape t (pos k) u v
  carries_too k u v under carries =
      let acts = part_acts h parts 1 t (first_power shape t parts.on_infinite.pair) in
      (acts.same k u v under).1 (subst (λ (i : ℕ). Carries shape p (pos i) u v) (sym (once k)) carries)

  -- an infinite word stays for the infinite part as it does for the element
  infinite_stays : (x : Word) → IsInfiniteWord shape p X x → Stays shape p X x → Stays shape t X x
  infinite_stays x infinite stays = elim stays [
    | inl ahead ↦ inl (λ k. let c = ahead k in record { to = c.to; carries = carries_too k x c.to at c.carries; under = c.under })
    | inr behind ↦ inr (λ k.
        let c = behind k in
        let there = moved_infinite h (neg_ℤ (pos k)) x c.to at c.under c.carries in
        let home = subst (λ i. Carries shape p i c.to x) (twice k) (carries_back shape p h.pair (neg_ℤ (pos k)) x c.to c.carries) in
        let by_part = carries_too k c.to x there home in
        record { to = c.to; carries = carries_back shape t parts.on_infinite.pair (pos k) c.to x by_part; under = c.under })
  ]
    where
      at : IsUnderInfinite shape p X x
      at = record { above = x; infinite = infinite; under = under_refl x }

  -- and a cycle word stays where it is
  cycle_word_stays : (x : Word) → Contains X x → Contains parts.periodic x → StaysAhead shape t X x
  cycle_word_stays x c cycle k =
      let fixed = part_stays h parts x (basis_word shape X h.semi.basis x c) (some_at parts.periodic x x cycle (under_refl x)) in
      let round = carries_round shape t parts.on_infinite.pair 1 x fixed k in
      record { to = x; carries = subst (λ (i : ℕ). Carries shape t (pos i) x x) (once k) round; under = some_at X x x c (under_refl x) }

  -- so a semi-normal basis of the element is one of its infinite part
  infinite_semi_normal : IsSemiNormal shape t X
  infinite_semi_normal = record {
    basis = h.semi.basis;
    stays = All-from_contains (Stays shape t X) X (λ x c. elim (contains_or_not parts.periodic x) [
      | inl cycle ↦ inl (cycle_word_stays x c cycle)
      | inr other ↦ infinite_stays x (c, λ cycle. other ((parts.is_periodic.same x).1 (c, cycle))) (All-contains (Stays shape p X) X x h.semi.stays c)
    ]);
  }

-- ---- budgets

-- the quasinormal basis of a pair takes no more expansions than a semi-normal one
within_budget : (shape : Shape) (s : List Row) (X : List Word) (budget : ℕ) → IsSemiNormal shape s X → TakesAtMost shape X budget
    → ¬ IsOverBudget shape budget s
within_budget shape s X budget semi within over =
    let fewer = no_fewer_below shape over.basis X over.quasinormal.semi_normal.basis semi.basis (over.quasinormal.least X semi) in
    over.over (omega (arith, within, fewer))

-- what fits a budget fits it in all its powers
pub powers_fit : (shape : Shape) (p s : List Row) (k : ℤ) (budget : ℕ) → IsPair shape p → IsPower shape p k s → FitsBudget shape budget p
    → ¬ IsOverBudget shape budget s
powers_fit shape p s k budget pair power fits =
    within_budget shape s fits.basis budget (power_semi_normal shape p s k fits.basis pair power fits.quasinormal.semi_normal) fits.within

-- and so do the powers of its infinite part
pub parts_fit : (shape : Shape) (p first second s : List Row) (X : List Word) (k : ℤ) (budget : ℕ) → IsPair shape p → IsQuasinormal shape p X
    → HasParts shape p X first second → IsPower shape second k s → FitsBudget shape budget p → ¬ IsOverBudget shape budget s
parts_fit shape p first second s X k budget pair least parts power fits =
    let semi = infinite_semi_normal (record { pair = pair; semi = least.semi_normal }) parts in
    within_budget shape s X budget (power_semi_normal shape second s k X parts.on_infinite.pair power semi)
    (subst (λ (W : List Word). TakesAtMost shape W budget) (quasinormal_unique shape p fits.basis X fits.quasinormal least) fits.within)
