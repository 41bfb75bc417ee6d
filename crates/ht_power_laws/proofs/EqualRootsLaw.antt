-- Conjugate powers of infinite parts have conjugate roots.
use Rattle.std.proofs.Common.{ℕ, ◌*◌, ◌≤◌, inl, inr, List, pos}
use Rattle.std.proofs.Math.Nat.{one-le-mul}
use Rattle.ht_word.specs.declared.shape.Shape.{Shape}
use Rattle.ht_word.specs.declared.word.Word.{Word}
use Rattle.ht_pair.specs.Conjugacy.{AreConjugate, Conjugates}
use Rattle.ht_pair.specs.Pairs.{IsPair}
use Rattle.ht_pair.specs.Parts.{HasParts}
use Rattle.ht_pair.specs.PowerSizes.{Sign, Plus, Minus, signed}
use Rattle.ht_pair.specs.Products.{IsPower}
use Rattle.ht_pair.specs.Rates.{HasRates}
use Rattle.ht_pair.specs.SemiNormal.{IsQuasinormal}
use Rattle.ht_pair.specs.declared.row.Row.{Row}
use Rattle.ht_types.proofs.FlowLaws.{turned_base}
use Rattle.ht_types.proofs.MirrorLaws.{attractor_repeller, turned_mirrors}
use Rattle.ht_types.proofs.TurnLaws.{HasSemiNormal}
use Rattle.ht_power_laws.proofs.EqualRoots.{IsCommonPeriod, turns_roots}
use Rattle.ht_power_laws.proofs.GluedInfinite.{glued}
use Rattle.ht_power_laws.proofs.OnInfinite.{on_conjugate}
use Rattle.ht_power_laws.proofs.PowersAlone.{ActsAlone, part_alone, part_alone_back}

-- a conjugator of powers that act on the infinite parts alone conjugates their roots
roots_conjugate : {shape : Shape} {h a b f g root other : List Row} {X Y : List Word} {M k p q : ℕ} → HasSemiNormal shape a X → HasSemiNormal shape b Y
    → 1 ≤ M → 1 ≤ k → 1 ≤ p → 1 ≤ q → IsCommonPeriod shape a X M → IsCommonPeriod shape b Y M → ActsAlone shape a (p * k) X f
    → ActsAlone shape b (q * k) Y g → Conjugates shape h f g → ActsAlone shape a (p * M) X root → ActsAlone shape b (q * M) Y other
    → Conjugates shape h root other
roots_conjugate first second M_low k_low p_low q_low first_period second_period f g c root other =
    glued first (one-le-mul p_low M_low) root other (turns_roots (record {
      first = first;
      second = second;
      p_low = p_low;
      q_low = q_low;
      t_low = k_low;
      M_low = M_low;
      first_period = first_period;
      second_period = second_period;
      on = on_conjugate first second (one-le-mul p_low k_low) (one-le-mul q_low k_low) f.acts g.acts c;
    }))

pub equal_roots : (shape : Shape) (a b first s second t f g root other : List Row) (X Y : List Word) (M ahead_a behind_a ahead_b behind_b k p q : ℕ) (sign : Sign)
    → IsPair shape a → IsPair shape b → IsQuasinormal shape a X → IsQuasinormal shape b Y → HasRates shape a b X Y M ahead_a behind_a ahead_b behind_b
    → HasParts shape a X first s → HasParts shape b Y second t → 1 ≤ k → 1 ≤ p → 1 ≤ q → IsPower shape s (pos (p * k)) f
    → IsPower shape t (signed sign (q * k)) g → AreConjugate shape f g → IsPower shape s (pos (p * M)) root
    → IsPower shape t (signed sign (q * M)) other → AreConjugate shape root other
equal_roots shape a b first s second t f g root other X Y M ahead_a behind_a ahead_b behind_b k p q sign pair_a pair_b normal_a normal_b rates parts_a parts_b k_low p_low q_low power_f power_g c power_root power_other =
    record { by = c.by; conjugates = by_sign sign power_g power_other }
  where
    base_a : HasSemiNormal shape a X
    base_a = record { pair = pair_a; semi = normal_a.semi_normal }

    base_b : HasSemiNormal shape b Y
    base_b = record { pair = pair_b; semi = normal_b.semi_normal }

    low : 1 ≤ M
    low = rates.period.positive

    by_sign : (sign : Sign) → IsPower shape t (signed sign (q * k)) g → IsPower shape t (signed sign (q * M)) other → Conjugates shape c.by root other
    by_sign Plus power_g power_other = roots_conjugate base_a base_b low k_low p_low q_low
        (λ x m G e. rates.period.holds m (inl (x, G, e.listed, inl e.attractor)))
        (λ y n L e. rates.period.holds n (inr (y, L, e.listed, inl e.attractor)))
        (part_alone base_a parts_a (p * k) f power_f) (part_alone base_b parts_b (q * k) g power_g) c.conjugates
        (part_alone base_a parts_a (p * M) root power_root) (part_alone base_b parts_b (q * M) other power_other)
    by_sign Minus power_g power_other = roots_conjugate base_a (turned_base base_b) low k_low p_low q_low
        (λ x m G e. rates.period.holds m (inl (x, G, e.listed, inl e.attractor)))
        (λ y n L e. rates.period.holds n (inr (y, L, e.listed, inr (attractor_repeller (turned_mirrors shape b pair_b) y n L e.attractor))))
        (part_alone base_a parts_a (p * k) f power_f) (part_alone_back base_b parts_b (q * k) g power_g) c.conjugates
        (part_alone base_a parts_a (p * M) root power_root) (part_alone_back base_b parts_b (q * M) other power_other)
