-- An infinite part that is not empty has attractors and repellers, and rates from 1 on.
use Rattle.std.proofs.Common.{◌≡◌, ◌≢◌, ℕ, ◌*◌, ◌/◌, ◌≤◌, inl, inr, List, [], ◌∷◌, length, refl, sym, subst, arith, Contains, sum}
use Rattle.std.specs.Int.{◌∣◌}
use Rattle.std.specs.List.{AllZip}
use Rattle.std.proofs.Math.Nat.{div-mul_cancel, dvd-mul_left, dvd-mul_right, one-le-mul, pos_of_dvd_of_pos}
use Rattle.std.proofs.lemmas.List.Sums.{sum_by-cons}
use Rattle.std.proofs.lemmas.Nat.Gcd.{dvd_trans}
use Rattle.ht_word.specs.declared.shape.Shape.{Shape}
use Rattle.ht_word.specs.declared.word.Word.{Word}
use Rattle.ht_word.proofs.ListLaws.{Contains-nil, Contains-here}
use Rattle.ht_word.proofs.WordLaws.{under_refl}
use Rattle.ht_pair.specs.Atoms.{IsInfiniteWord}
use Rattle.ht_pair.specs.Kinds.{IsAttractor, IsRepeller}
use Rattle.ht_pair.specs.Parts.{IsInfinitePart}
use Rattle.ht_pair.specs.Rates.{IsPeriod, IsRateSum}
use Rattle.ht_pair.specs.declared.row.Row.{Row}
use Rattle.ht_pair.proofs.BasisLaws.{basis_word}
use Rattle.ht_types.proofs.FlowLaws.{flows_ahead, flows_behind}
use Rattle.ht_types.proofs.TurnLaws.{HasSemiNormal}

-- a word of an infinite part that is not empty
pub some_infinite : (shape : Shape) (p : List Row) (X I : List Word) → IsInfinitePart shape p X I → I ≢ [] → (x : Word) × IsInfiniteWord shape p X x
some_infinite shape p X [] part some = absurd (some refl)
some_infinite shape p X (x ∷ I) part some = (x, (part.same x).0 (Contains-here x I))

-- letters that are some are one at least
some_letters : (by : List ℕ) → by ≢ [] → 1 ≤ length by
some_letters [] some = absurd (some refl)
some_letters (a ∷ by) some = omega arith

-- the quotient of a multiple from 1 on by a divisor is from 1 on
pub quotient_positive : (k m : ℕ) → 1 ≤ k → m ∣ k → 1 ≤ k / m
quotient_positive k m positive d =
    let whole : k / m * m ≡ k = div-mul_cancel m d in
    pos_of_dvd_of_pos (subst (λ (n : ℕ). k / m ∣ n) whole (dvd-mul_right (k / m) m)) positive

-- where some word is of a kind whose periods divide M, the rates of the kind add up to 1 at least
rate_positive : (IsKind : Word → ℕ → List ℕ → Type 0) (X : List Word) (M total : ℕ) → 1 ≤ M → ((x : Word) (m : ℕ) (by : List ℕ) → Contains X x → IsKind x m by → (by ≢ []) × (m ∣ M))
    → (x : Word) → Contains X x → (m : ℕ) × (by : List ℕ) × IsKind x m by → IsRateSum IsKind X M total → 1 ≤ total
rate_positive IsKind X M total positive each x c kind rates =
    subst (λ (n : ℕ). 1 ≤ n) (sym rates.total_is) (head rates.words rates.rates rates.rated (λ y d. ((rates.selected.same y).0 d).0) ((rates.selected.same x).1 (c, kind)))
  where
    head : (words : List Word) (rs : List ℕ) → AllZip (λ y rate. (m : ℕ) × (by : List ℕ) × IsKind y m by × (rate ≡ length by * M / m)) words rs → ((y : Word) → Contains words y → Contains X y) → Contains words x → 1 ≤ sum rs
    head [] rs rated among d = absurd (Contains-nil x d)
    head (y ∷ words) [] rated among d = absurd rated
    head (y ∷ words) (r ∷ rs) rated among d =
        let m = rated.0.0 in
        let by = rated.0.1 in
        let fits = each y m by (among y (Contains-here y words)) rated.0.2 in
        let one : 1 ≤ length by * M / m = quotient_positive (length by * M) m (one-le-mul (some_letters by fits.0) positive) (dvd_trans m fits.1 (dvd-mul_left M (length by))) in
        let low : 1 ≤ r = subst (λ (n : ℕ). 1 ≤ n) (sym rated.0.3) one in
        omega (arith, low, sum_by-cons (λ (n : ℕ). n) r rs)

-- the rates at attractors add up to 1 at least, where some word is infinite
pub attractor_rate : {shape : Shape} {p : List Row} {X : List Word} → HasSemiNormal shape p X → (x : Word) → IsInfiniteWord shape p X x → (M total : ℕ) → 1 ≤ M → ((m : ℕ) → IsPeriod shape p X m → m ∣ M) → IsRateSum (IsAttractor shape p) X M total → 1 ≤ total
attractor_rate {shape} {p} {X} h x infinite M total positive periods rates =
    let f = flows_ahead h x x (basis_word shape X h.semi.basis x infinite.0) infinite.0 infinite.1 (under_refl x) in
    rate_positive (IsAttractor shape p) X M total positive (λ y m by c kind. (kind.lengthens.0, periods m (y, by, c, inl kind))) f.reached.above f.reached.listed f.reached.such rates

-- and so do those at repellers
pub repeller_rate : {shape : Shape} {p : List Row} {X : List Word} → HasSemiNormal shape p X → (x : Word) → IsInfiniteWord shape p X x → (M total : ℕ) → 1 ≤ M → ((m : ℕ) → IsPeriod shape p X m → m ∣ M) → IsRateSum (IsRepeller shape p) X M total → 1 ≤ total
repeller_rate {shape} {p} {X} h x infinite M total positive periods rates =
    let f = flows_behind h x x (basis_word shape X h.semi.basis x infinite.0) infinite.0 infinite.1 (under_refl x) in
    rate_positive (IsRepeller shape p) X M total positive (λ y m by c kind. (kind.lengthens.0, periods m (y, by, c, inr kind))) f.reached.above f.reached.listed f.reached.such rates
