-- Where powers of two elements of finite order that aren't the identity are conjugate, those by their orders over a prime are.
-- Some power of both has a prime order d, and is conjugate to the power by the order over d.
use Rattle.std.proofs.Common.{ℕ, ◌*◌, ◌/◌, List, [], sym, subst, ℤ, pos}
use Rattle.std.specs.Int.{◌∣◌}
use Rattle.ht_word.specs.declared.shape.Shape.{Shape}
use Rattle.ht_word.specs.declared.word.Word.{Word}
use Rattle.ht_word.proofs.ListLaws.{Contains-map, contained_in_map}
use Rattle.ht_word.proofs.WordLaws.{after-nil}
use Rattle.ht_pair.specs.Actions.{Moves, Alike}
use Rattle.ht_pair.specs.Conjugacy.{AreConjugate, ArePowerConjugate}
use Rattle.ht_pair.specs.FiniteTrials.{IsTried}
use Rattle.ht_pair.specs.Orders.{FixesRoots, IsOrder}
use Rattle.ht_pair.specs.Pairs.{IsPair, from_words, to_words, identity}
use Rattle.ht_pair.specs.PowerRule.{BothFinite}
use Rattle.ht_pair.specs.Products.{IsPower}
use Rattle.ht_pair.specs.SemiNormal.{IsQuasinormal}
use Rattle.ht_pair.specs.Steps.{Carries}
use Rattle.ht_pair.specs.declared.row.Row.{Row}
use Rattle.ht_pair.proofs.BasisLaws.{basis_word}
use Rattle.ht_pair.proofs.ConjugacyLaws.{conjugate_sym, conjugate_trans}
use Rattle.ht_pair.proofs.ConjugatePowerLaws.{conjugates_carries, conjugates_power}
use Rattle.ht_pair.proofs.IdentityLaws.{fixed_word}
use Rattle.ht_pair.proofs.PowerLaws.{power_exists}
use Rattle.ht_types.proofs.TurnLaws.{HasSemiNormal}
use Rattle.ht_laws.proofs.FiniteOrderLaws.{fixes_over}
use Rattle.ht_laws.proofs.PrefixLaws.{fixing_is_identity}
use Rattle.ht_power_laws.proofs.OrderPowers.{power_fixes, multiple_fixes, power_ahead, order_divides}
use Rattle.ht_power_laws.proofs.PrimePowers.{prime_conjugate, long_cycle}
use Rattle.ht_power_laws.proofs.PrimeNumbers.{common_prime}

-- where a power of an element is the identity, so is that of each conjugate element
pub conjugate_fixes : {shape : Shape} {s t : List Row} → IsPair shape s → IsPair shape t → AreConjugate shape s t → (k : ℕ) → FixesRoots shape s k → FixesRoots shape t k
conjugate_fixes {shape} {s} {t} pair_s pair_t c k fixes =
    let g = c.conjugates in
    fixes_over shape t pair_t (to_words c.by) g.pair.to k (λ w listed n.
    let row = contained_in_map (λ (r : Row). r.to) c.by w listed in
    let moved : Moves c.by row.0.from row.0.to = record { row = row.0; rest = []; listed = row.1; from = sym (after-nil row.0.from); to = sym (after-nil row.0.to) } in
    let stays = fixed_word shape s k fixes row.0.from (basis_word shape (from_words c.by) g.pair.from row.0.from (Contains-map (λ (r : Row). r.from) c.by row.0 row.1)) in
    n (subst (λ u. Carries shape t (pos k) u u) row.2 (conjugates_carries shape c.by s t pair_s pair_t g (pos k) row.0.from row.0.from row.0.to row.0.to stays moved moved)))

-- so where s and t are conjugate powers of a and of b, the order of a divides multiples of the one exponent only where that of b divides those of the other
conjugate_divides : {shape : Shape} {a b s t : List Row} {M N i j : ℕ} → IsPair shape a → IsPair shape b → IsOrder shape a M → IsOrder shape b N
    → IsPower shape a (pos i) s → IsPower shape b (pos j) t → AreConjugate shape s t → (k : ℕ) → M ∣ k * i → N ∣ k * j
conjugate_divides {i = i} {j = j} pair_a pair_b m n first second c k divides =
    let fixes = (power_fixes pair_a first k).1 (multiple_fixes pair_a m.positive m.holds (k * i) divides) in
    order_divides pair_b n (k * j) ((power_fixes pair_b second k).0 (conjugate_fixes first.pair second.pair c k fixes))

-- some d that the power rule tries gives conjugate powers
abbrev HasTrial : Shape → List Row → List Row → List Word → List Word → ℕ → ℕ → Type 0
HasTrial shape a b X Y M N = (d : ℕ) × IsTried shape a b X Y M N d × ((f g : List Row) → IsPower shape a (pos (M / d)) f → IsPower shape b (pos (N / d)) g → AreConjugate shape f g)

-- so it is where powers by i and j from 0 on are conjugate and aren't the identity
trial_exists : {shape : Shape} {a b s t : List Row} {X Y : List Word} {M N i j : ℕ} → HasSemiNormal shape a X → HasSemiNormal shape b Y → IsOrder shape a M → IsOrder shape b N
    → IsPower shape a (pos i) s → IsPower shape b (pos j) t → ¬ Alike shape s (identity shape) → AreConjugate shape s t → HasTrial shape a b X Y M N
trial_exists {shape} {a} {b} {s} {t} {M = M} {N = N} {i = i} {j = j} ha hb m n first second moves c =
    let other : ¬ (M ∣ i) = λ divides. moves ((fixing_is_identity shape a s i ha.pair first).0 (multiple_fixes ha.pair m.positive m.holds i divides)) in
    let to = conjugate_divides ha.pair hb.pair m n first second c in
    let from = conjugate_divides hb.pair ha.pair n m second first (conjugate_sym shape s t first.pair second.pair c) in
    let common = common_prime M N i j m.positive to from other in
    -- the powers of prime order
    let x = power_exists shape s (pos common.times) first.pair in
    let y = power_exists shape t (pos common.times) second.pair in
    let middle : AreConjugate shape x.0 y.0 = record { by = c.by; conjugates = conjugates_power shape c.by s t x.0 y.0 (pos common.times) first.pair second.pair c.conjugates x.1 y.1 } in (
      common.prime,
      record {
        not_one = common.is_prime.not_one;
        first = common.first.divides;
        second = common.second.divides;
        some_cycle = long_cycle ha m common.is_prime common.first.divides;
        some_other = long_cycle hb n common.is_prime common.second.divides;
      },
      (λ f g power_f power_g.
          let left = prime_conjugate ha m common.is_prime common.first first x.1 power_f in
          let right = conjugate_sym shape g y.0 power_g.pair y.1.pair (prime_conjugate hb n common.is_prime common.second second y.1 power_g) in
          conjugate_trans shape f x.0 g power_f.pair x.1.pair power_g.pair left (conjugate_trans shape x.0 y.0 g x.1.pair y.1.pair power_g.pair middle right)),
    )

-- and where powers by any exponents are
pub finite_powers : (shape : Shape) (a b : List Row) (X Y : List Word) (M N : ℕ) (i j : ℤ) → IsPair shape a → IsPair shape b → IsQuasinormal shape a X → IsQuasinormal shape b Y
    → BothFinite shape a b X Y M N → ArePowerConjugate shape a b i j → HasTrial shape a b X Y M N
finite_powers shape a b X Y M N i j pair_a pair_b quasi_a quasi_b finite powers =
    let m = finite.first_order in
    let n = finite.second_order in
    let s = power_ahead pair_a m.positive m.holds powers.first i powers.first_power in
    let t = power_ahead pair_b n.positive n.holds powers.second j powers.second_power in
    trial_exists (record { pair = pair_a; semi = quasi_a.semi_normal }) (record { pair = pair_b; semi = quasi_b.semi_normal }) m n s.1 t.1 powers.first_moves powers.conjugate
