-- The powers of an element beside those of its infinite part; and powers that are not the identity.
use Rattle.std.proofs.Common.{◌≡◌, ◌≢◌, ℕ, zero, suc, ◌+◌, ◌*◌, ◌/◌, ◌≤◌, ◌<◌, inl, inr, List, length, sym, ap, ◌∙◌, subst, arith, Contains, ℤ, pos, neg_ℤ}
use Rattle.std.specs.Int.{◌∣◌}
use Rattle.std.proofs.Math.IntN.{pos-*ℤ-pos}
use Rattle.std.proofs.Math.Nat.{div-mul_cancel, dvd-mul_left, mul-le-mul_left}
use Rattle.std.proofs.lemmas.Int.{ints}
use Rattle.std.proofs.lemmas.Nat.Gcd.{dvd_trans}
use Rattle.ht_word.specs.Words.{◌·◌, IsWordOf, IsUnderSome}
use Rattle.ht_word.specs.declared.shape.Shape.{Shape}
use Rattle.ht_word.specs.declared.word.Word.{Word}
use Rattle.ht_word.proofs.WordLaws.{after_cancel_right, ones, under_after, under_refl, word_rest}
use Rattle.ht_pair.specs.Actions.{Moves, Alike}
use Rattle.ht_pair.specs.Atoms.{IsInfiniteWord}
use Rattle.ht_pair.specs.Bases.{longest}
use Rattle.ht_pair.specs.Kinds.{IsCycle}
use Rattle.ht_pair.specs.Orders.{IsOrder}
use Rattle.ht_pair.specs.Pairs.{IsPair, identity, turned}
use Rattle.ht_pair.specs.Parts.{MovesOnly, HasParts}
use Rattle.ht_pair.specs.PowerSizes.{Sign, Plus, Minus, signed}
use Rattle.ht_pair.specs.Products.{IsPower}
use Rattle.ht_pair.specs.Steps.{StepsAhead, Steps, Carries}
use Rattle.ht_pair.specs.declared.row.Row.{Row}
use Rattle.ht_pair.proofs.BasisLaws.{basis_word, some_trans}
use Rattle.ht_pair.proofs.CarriesLaws.{carries_single, carries_from_steps, carries_extends}
use Rattle.ht_pair.proofs.MovesLaws.{moves_extends, turned-turned, turned_pair}
use Rattle.ht_pair.proofs.PowerLaws.{power_exists, power_of_inverse}
use Rattle.ht_pair.proofs.PowerProducts.{power_mul, power_turned}
use Rattle.ht_pair.proofs.PrefixMapLaws.{long_word, length-long, moved_long}
use Rattle.ht_pair.proofs.ProductLaws.{inverse_is}
use Rattle.ht_pair.proofs.StepsLaws.{steps_map}
use Rattle.ht_ops.proofs.AlikeProducts.{power_alike}
use Rattle.ht_types.proofs.PeriodicLaws.{periodic_word_either, multiple_carries}
use Rattle.ht_types.proofs.TurnLaws.{HasSemiNormal}
use Rattle.ht_laws.proofs.KeptPartLaws.{long_infinite_part_kept, under_a_part}
use Rattle.ht_laws.proofs.PartEndLaws.{quotient_positive}
use Rattle.ht_laws.proofs.PrefixLaws.{identity_carries, fixing_is_identity}

-- ---- what the infinite part does

-- steps of the infinite part lead from a word under the periodic part to itself
periodic_stays : (shape : Shape) (p s : List Row) (V W : List Word) → MovesOnly shape p V W s → (k : ℕ) (u w : Word) → IsWordOf shape u → IsUnderSome u W → StepsAhead s k u w → u ≡ w
periodic_stays shape p s V W only zero u w h under steps = steps
periodic_stays shape p s V W only (suc k) u w h under steps =
    let same : u ≡ steps.0 = periodic_stays shape p s V W only k u steps.0 h under steps.1 in
    only.off u w h under (subst (λ t. Moves s t w) (sym same) steps.2)

-- from a word under the infinite part they lead where those of the element do
infinite_moves : {shape : Shape} {p : List Row} {X : List Word} → HasSemiNormal shape p X → (s t : List Row) (parts : HasParts shape p X s t) (k : ℕ) (u w v : Word) → IsWordOf shape u → IsUnderSome u parts.infinite → StepsAhead p k u w → StepsAhead t k u v → w ≡ v
infinite_moves h s t parts zero u w v word under there other = sym there ∙ other
infinite_moves {shape} {p} {X} h s t parts (suc k) u w v word under there other =
    let same : there.0 ≡ other.0 = infinite_moves h s t parts k u there.0 other.0 word under there.1 other.1 in
    let steps = (steps_map shape p h.pair (pos k)).ahead in
    let z = ones (longest X) in
    let middle = long_word shape there.0 (longest X) (steps.word u there.0 word there.1) in
    let carries = carries_from_steps shape p h.pair (pos k) (u · z) (there.0 · z) (long_word shape u (longest X) word) (steps.extends u there.0 z there.1) in
    let at = long_infinite_part_kept shape p X parts.infinite (pos k) (u · z) (there.0 · z) h.pair h.semi parts.is_infinite (some_trans (under_after u z) under) carries (omega (arith, length-long there.0 (longest X))) in
    after_cancel_right w v z (parts.on_infinite.on (there.0 · z) (w · z) (v · z) middle at (moves_extends p there.0 w z there.2) (subst (λ x. Moves t (x · z) (v · z)) (sym same) (moves_extends t other.0 v z other.2)))

-- steps that the length of each cycle divides lead the infinite part where they lead the element, also from a word under the periodic part
parts_agree : {shape : Shape} {p : List Row} {X : List Word} → HasSemiNormal shape p X → (s t : List Row) (parts : HasParts shape p X s t) (k : ℕ) → ((x : Word) (m : ℕ) → Contains X x → IsCycle shape p x m → m ∣ k)
    → (u w v : Word) → IsWordOf shape u → longest X ≤ length u.letters → StepsAhead p k u w → StepsAhead t k u v → w ≡ v
parts_agree {shape} {p} {X} h s t parts k divides u w v word long there other = elim (under_a_part shape p X s t h.semi.basis parts u word long) [
  | inl under ↦ sym (back under) ∙ periodic_stays shape p t parts.infinite parts.periodic parts.on_infinite k u v word under other
  | inr under ↦ infinite_moves h s t parts k u w v word under there other
]
  where
    back : IsUnderSome u parts.periodic → u ≡ w
    back under =
        let x = under.above in
        let z = under.under.rest in
        let hz = word_rest shape x z (subst (IsWordOf shape) under.under.is word) in
        let cycle = (parts.is_periodic.same x).0 under.listed in
        let round = multiple_carries shape p h.pair x cycle.1.0 k cycle.1.1 (divides x cycle.1.0 cycle.0 cycle.1.1) in
        let home : Carries shape p (pos k) u u = subst (λ y. Carries shape p (pos k) y y) (sym under.under.is) (carries_extends shape p (pos k) x x z hz round) in
        carries_single shape p h.pair (pos k) u u w home (carries_from_steps shape p h.pair (pos k) u w word there)

-- ---- powers of the infinite part

-- the N-th power of a power of the infinite part is a power of the element, where the length of each cycle divides N
power_of_part : {shape : Shape} {p : List Row} {X : List Word} → HasSemiNormal shape p X → (s t : List Row) → HasParts shape p X s t → (i N : ℕ) → ((x : Word) (m : ℕ) → Contains X x → IsCycle shape p x m → m ∣ N)
    → (f q : List Row) → IsPower shape t (pos i) f → IsPower shape p (pos (i * N)) q → IsPower shape f (pos N) q
power_of_part {shape} {p} {X} h s t parts i N divides f q part whole =
    let r = power_exists shape f (pos N) part.pair in
    let turn : N * i ≡ i * N = omega arith in
    let other : IsPower shape t (pos (i * N)) r.0 = subst (λ k. IsPower shape t k r.0) (pos-*ℤ-pos N i ∙ ap pos turn) (power_mul shape t f r.0 (pos i) (pos N) parts.on_infinite.pair part r.1) in
    power_alike shape f r.0 q (pos N) part.pair r.1 whole.pair (alike r.0 other)
  where
    multiple : (m : ℕ) → m ∣ N → m ∣ i * N
    multiple m d = dvd_trans m d (dvd-mul_left N i)

    alike : (r : List Row) → IsPower shape t (pos (i * N)) r → Alike shape q r
    alike r other = λ u v v' word moved there.
        let sp = (steps_map shape p h.pair (pos (i * N))).ahead in
        let st = (steps_map shape t parts.on_infinite.pair (pos (i * N))).ahead in
        let size = sp.bound + st.bound + longest X in
        let z = ones size in
        let long = long_word shape u size word in
        let x = moved_long shape (Steps p (pos (i * N))) sp u size word (omega arith) in
        let y = moved_long shape (Steps t (pos (i * N))) st u size word (omega arith) in
        let first : x.0 ≡ v · z = whole.stepped (u · z) x.0 (v · z) long x.1 (moves_extends q u v z moved) in
        let second : y.0 ≡ v' · z = other.stepped (u · z) y.0 (v' · z) long y.1 (moves_extends r u v' z there) in
        let same : x.0 ≡ y.0 = parts_agree h s t parts (i * N) (λ w m c cycle. multiple m (divides w m c cycle)) (u · z) x.0 y.0 long (omega (arith, length-long u size)) x.1 y.1 in
        after_cancel_right v v' z (sym first ∙ same ∙ second)

-- so it is with either sign
pub power_of_infinite : {shape : Shape} {p : List Row} {X : List Word} → HasSemiNormal shape p X → (s t : List Row) → HasParts shape p X s t → (sign : Sign) (i N : ℕ) → ((x : Word) (m : ℕ) → Contains X x → IsCycle shape p x m → m ∣ N)
    → (f q : List Row) → IsPower shape t (signed sign i) f → IsPower shape p (signed sign (i * N)) q → IsPower shape f (pos N) q
power_of_infinite h s t parts Plus i N divides f q part whole = power_of_part h s t parts i N divides f q part whole
power_of_infinite {shape} {p} h s t parts Minus i N divides f q part whole =
    let other = power_of_part h s t parts i N divides (turned f) (turned q) (back t f i parts.on_infinite.pair part) (back p q (i * N) h.pair whole) in
    let down : IsPower shape (turned f) (neg_ℤ (pos N)) q = subst (λ r. IsPower shape (turned f) (neg_ℤ (pos N)) r) (turned-turned q) (power_turned shape (turned f) (turned q) (pos N) (turned_pair shape f part.pair) other) in
    subst (λ k. IsPower shape f k q) (twice N) (power_of_inverse shape f (turned f) q (neg_ℤ (pos N)) part.pair (inverse_is shape f part.pair) down)
  where
    twice : (k : ℕ) → neg_ℤ (neg_ℤ (pos k)) ≡ pos k
    twice k = omega (arith, ints)

    back : (r g : List Row) (k : ℕ) → IsPair shape r → IsPower shape r (neg_ℤ (pos k)) g → IsPower shape r (pos k) (turned g)
    back r g k pair power = subst (λ i. IsPower shape r i (turned g)) (twice k) (power_turned shape r g (neg_ℤ (pos k)) pair power)

-- ---- powers that are not the identity

-- where a word of a semi-normal basis is no cycle word, no power but that by 0 is the identity
pub infinite_moves_on : {shape : Shape} {p : List Row} {X : List Word} → HasSemiNormal shape p X → (x : Word) → IsInfiniteWord shape p X x → (k : ℤ) → k ≢ pos 0 → (s : List Row) → IsPower shape p k s → ¬ Alike shape s (identity shape)
infinite_moves_on {shape} {p} {X} h x infinite k other s power alike =
    infinite.1 (periodic_word_either shape p h.pair X h.semi k x x other infinite.0 (under_refl x) (identity_carries shape p s k h.pair power alike x (basis_word shape X h.semi.basis x infinite.0)))

-- a proper part of a number from 1 on is from 1 on, and less
pub proper_part : (k d : ℕ) → 1 ≤ k → 2 ≤ d → d ∣ k → (1 ≤ k / d) × (k / d < k)
proper_part k d positive two divides =
    let low = quotient_positive k d positive divides in
    (low, omega (arith, low, div-mul_cancel d divides, mul-le-mul_left (k / d) two))

-- nor is the power by a proper part of the order
pub order_moves_on : (shape : Shape) (p : List Row) (order d : ℕ) → IsPair shape p → IsOrder shape p order → 2 ≤ d → d ∣ order → (s : List Row) → IsPower shape p (pos (order / d)) s → ¬ Alike shape s (identity shape)
order_moves_on shape p order d pair is two divides s power alike =
    let part = proper_part order d is.positive two divides in
    is.least (order / d) part.0 part.1 ((fixing_is_identity shape p s (order / d) pair power).1 alike)
