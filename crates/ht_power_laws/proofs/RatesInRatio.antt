-- Where powers are conjugate, the exponents are to one another as the rates of the elements. X is a semi-normal basis of a, and Y one of b.
use Rattle.std.proofs.Common.{◌≡◌, ◌≢◌, ℕ, ◌*◌, ◌/◌, ◌≤◌, inl, inr, List, [], ◌∷◌, length, refl, sym, ap, ◌∙◌, subst, subst₂, arith, AllPairs, Contains, pos, neg_ℤ}
use Rattle.std.specs.Int.{◌∣◌}
use Rattle.std.specs.List.{AllZip}
use Rattle.std.proofs.Math.Nat.{div-mul_cancel, le_antisymm, mul-div_assoc, mul-div_cancel}
use Rattle.std.specs.declared.cmp.Ordering.TheVariants.{Less}
use Rattle.ht_word.specs.Words.{word_cmp}
use Rattle.ht_word.specs.declared.shape.Shape.{Shape}
use Rattle.ht_word.specs.declared.word.Word.{Word}
use Rattle.ht_word.proofs.ListLaws.{AllPairs-weaker}
use Rattle.ht_word.proofs.WordLaws.{word_cmp_once}
use Rattle.ht_pair.specs.Conjugacy.{AreConjugate}
use Rattle.ht_pair.specs.Kinds.{IsAttractor, IsRepeller}
use Rattle.ht_pair.specs.Pairs.{IsPair, turned}
use Rattle.ht_pair.specs.Products.{IsPower}
use Rattle.ht_pair.specs.Rates.{HasRates, IsPeriod, IsRateSum}
use Rattle.ht_pair.specs.SemiNormal.{IsQuasinormal}
use Rattle.ht_pair.specs.declared.row.Row.{Row}
use Rattle.ht_pair.proofs.KindLaws.{attractor_once}
use Rattle.ht_pair.proofs.PowerLaws.{power_to_inverse}
use Rattle.ht_pair.proofs.ProductLaws.{inverse_is}
use Rattle.ht_quasi.proofs.MirrorLaws.{Mirrors, mirrors_back}
use Rattle.ht_types.proofs.AttractorLaws.{IsAttractorOf}
use Rattle.ht_types.proofs.FlowLaws.{turned_base}
use Rattle.ht_types.proofs.MirrorLaws.{attractor_repeller, repeller_attractor, turned_mirrors}
use Rattle.ht_types.proofs.TurnLaws.{HasSemiNormal}
use Rattle.ht_power_laws.specs.OnInfinite.{OnInfinite}
use Rattle.ht_power_laws.proofs.Injections.{SendsEnd, injected, injected_once, sent_rate}
use Rattle.ht_power_laws.proofs.OnInfinite.{on_conjugate, on_inverses, on_turned}
use Rattle.ht_power_laws.proofs.PowersOnInfinite.{power_acts}
use Rattle.ht_power_laws.proofs.SumInjection.{sum_injection}

-- ---- rates of two ends

-- g letters in m steps, i times, are l letters in n steps, j times: in a common period M too
rates_fit : (i j M m n g l : ℕ) → 1 ≤ n → m ∣ M → n ∣ M → i * g * n ≡ m * j * l → i * (g * M / m) ≡ j * (l * M / n)
rates_fit i j M m n g l low d e same =
    let c = M / m in
    let k = M / n in
    let whole : c * m ≡ k * n = div-mul_cancel m d ∙ sym (div-mul_cancel n e) in
    ap (λ r. i * r) (mul-div_assoc m g d) ∙ cancelled (i * (g * c)) (j * (l * k)) n low (round i j m n g l c k same whole)
    ∙ ap (λ r. j * r) (sym (mul-div_assoc n l e))
  where
    cancelled : (s t n : ℕ) → 1 ≤ n → s * n ≡ t * n → s ≡ t
    cancelled s t n low e = sym (mul-div_cancel s low) ∙ ap (λ k. k / n) e ∙ mul-div_cancel t low

    round : (i j m n g l c k : ℕ) → i * g * n ≡ m * j * l → c * m ≡ k * n → i * (g * c) * n ≡ j * (l * k) * n
    round i j m n g l c k same whole = before i g c n ∙ ap (λ r. r * c) same ∙ turn m j l c ∙ ap (λ r. j * l * r) whole ∙ after j l k n
      where
        before : (i g c n : ℕ) → i * (g * c) * n ≡ i * g * n * c
        before i g c n = omega arith

        turn : (m j l c : ℕ) → m * j * l * c ≡ j * l * (c * m)
        turn m j l c = omega arith

        after : (j l k n : ℕ) → j * l * (k * n) ≡ j * (l * k) * n
        after j l k n = omega arith

-- ---- sums of rates, and the other order of time

-- the periods of attractors and repellers of p divide M
abbrev AreCommon : Shape → List Row → List Word → ℕ → Type 0
AreCommon shape p X M = (m : ℕ) → IsPeriod shape p X m → m ∣ M

-- so do those of the turned rows
common_turned : {shape : Shape} {p q : List Row} → Mirrors shape p q → (X : List Word) (M : ℕ) → AreCommon shape p X M → AreCommon shape q X M
common_turned mirrors X M common m period = common m (
  period.0,
  period.1,
  period.2,
  elim period.3 [
    | inl at ↦ inr (attractor_repeller mirrors period.0 m period.1 at)
    | inr at ↦ inl (repeller_attractor (mirrors_back mirrors) period.0 m period.1 at)
  ],
)

-- the rate of a word of the kind
abbrev IsRate : (Word → ℕ → List ℕ → Type 0) → ℕ → Word → ℕ → Type 0
IsRate IsKind M x rate = (m : ℕ) × (by : List ℕ) × IsKind x m by × (rate ≡ length by * M / m)

-- words of one kind are words of another
rates_same : (K K' : Word → ℕ → List ℕ → Type 0) → ((x : Word) (m : ℕ) (G : List ℕ) → K x m G → K' x m G)
    → ((x : Word) (m : ℕ) (G : List ℕ) → K' x m G → K x m G) → {X : List Word} {M total : ℕ} → IsRateSum K X M total → IsRateSum K' X M total
rates_same K K' to from {M = M} r = record {
  words = r.words;
  rates = r.rates;
  selected = record {
    ascending = r.selected.ascending;
    same = λ x. (
      (λ c. let s = (r.selected.same x).0 c in (s.0, (s.1.0, s.1.1, to x s.1.0 s.1.1 s.1.2))),
      (λ s. (r.selected.same x).1 (s.0, (s.1.0, s.1.1, from x s.1.0 s.1.1 s.1.2))),
    );
  };
  rated = weaker (IsRate K M) (IsRate K' M) (λ x rate t. (t.0, t.1, to x t.0 t.1 t.2, t.3)) r.words r.rates r.rated;
  total_is = r.total_is;
}
  where
    weaker : (P Q : Word → ℕ → Type 0) → ((x : Word) (r : ℕ) → P x r → Q x r) → (xs : List Word) (rs : List ℕ) → AllZip P xs rs → AllZip Q xs rs
    weaker P Q to [] [] h = h
    weaker P Q to [] (r ∷ rs) h = absurd h
    weaker P Q to (x ∷ xs) [] h = absurd h
    weaker P Q to (x ∷ xs) (r ∷ rs) h = (to x r h.0, weaker P Q to xs rs h.1)

-- the rates at repellers are those at the attractors of the turned rows
rates_turned : {shape : Shape} {p : List Row} {X : List Word} {M total : ℕ} → IsPair shape p → IsRateSum (IsRepeller shape p) X M total
    → IsRateSum (IsAttractor shape (turned p)) X M total
rates_turned {shape} {p} pair r =
    let m = turned_mirrors shape p pair in
    rates_same (IsRepeller shape p) (IsAttractor shape (turned p)) (repeller_attractor m) (attractor_repeller m) r

-- ---- attractors that are sent to attractors

-- the attractor x of a is sent under the attractor y of b
record Matches (shape : Shape) (h a : List Row) (i : ℕ) (X : List Word) (b : List Row) (j : ℕ) (Y : List Word) (x y : Word) : Type 0 where
  period : ℕ
  letters : List ℕ
  from : IsAttractorOf shape a X x period letters
  sends : SendsEnd shape h i b j Y x period letters
  to : sends.end ≡ y

-- so one sum is at most the other
rates_le : {shape : Shape} {h a b : List Row} {i j : ℕ} {X Y : List Word} → HasSemiNormal shape a X → HasSemiNormal shape b Y
    → OnInfinite shape h a i X b j Y → 1 ≤ i → 1 ≤ j → {M A C : ℕ} → AreCommon shape a X M → AreCommon shape b Y M
    → IsRateSum (IsAttractor shape a) X M A → IsRateSum (IsAttractor shape b) Y M C → i * A ≤ j * C
rates_le {shape} {h} {a} {b} {i} {j} {X} {Y} first second o low low' {M} {A} {C} periods others r q =
    subst₂ (λ s t. i * s ≤ j * t) (sym r.total_is) (sym q.total_is)
    (sum_injection (IsRate (IsAttractor shape a) M) (IsRate (IsAttractor shape b) M) (Matches shape h a i X b j Y) i j equal once
    r.words r.rates q.words q.rates apart r.rated q.rated match)
  where
    apart : AllPairs (λ (x : Word) (y : Word). x ≢ y) r.words
    apart = AllPairs-weaker (λ (x : Word) (y : Word). word_cmp x y ≡ Less) (λ (x : Word) (y : Word). x ≢ y) r.words r.selected.ascending
        (λ x y c d less same. word_cmp_once x y less (subst₂ (λ s t. word_cmp s t ≡ Less) same (sym same) less))

    equal : (x y : Word) (s t : ℕ) → Matches shape h a i X b j Y x y → IsRate (IsAttractor shape a) M x s → IsRate (IsAttractor shape b) M y t
        → i * s ≡ j * t
    equal x y s t f rate other =
        let e = f.sends in
        let there = subst (λ w. IsAttractorOf shape b Y w e.steps e.by) f.to e.attractor in
        let one = attractor_once shape a first.pair x f.period rate.0 f.letters rate.1 f.from.attractor rate.2 in
        let two = attractor_once shape b second.pair y e.steps other.0 e.by other.1 there.attractor other.2 in
        let here : s ≡ length f.letters * M / f.period = subst₂ (λ m (z : List ℕ). s ≡ length z * M / m) (sym one.0) (sym one.1) rate.3 in
        let far : t ≡ length e.by * M / e.steps = subst₂ (λ n (z : List ℕ). t ≡ length z * M / n) (sym two.0) (sym two.1) other.3 in
        let fit = rates_fit i j M f.period e.steps (length f.letters) (length e.by) there.attractor.first.positive
        (periods f.period (x, f.letters, f.from.listed, inl f.from.attractor)) (others e.steps (y, e.by, there.listed, inl there.attractor))
        (sent_rate e) in
        ap (λ k. i * k) here ∙ fit ∙ ap (λ k. j * k) (sym far)

    once : (x x' y : Word) → Matches shape h a i X b j Y x y → Matches shape h a i X b j Y x' y → x ≡ x'
    once x x' y f g = injected_once first second o low f.from g.from f.sends g.sends (f.to ∙ sym g.to)

    match : (x : Word) → Contains r.words x → (y : Word) × Contains q.words y × Matches shape h a i X b j Y x y
    match x c =
        let s = (r.selected.same x).0 c in
        let at : IsAttractorOf shape a X x s.1.0 s.1.1 = record { listed = s.0; attractor = s.1.2 } in
        let e = injected first second o low low' at in (
          e.end,
          (q.selected.same e.end).1 (e.attractor.listed, (e.steps, e.by, e.attractor.attractor)),
          record { period = s.1.0; letters = s.1.1; from = at; sends = e; to = refl },
        )

-- the exponents are to one another as the sums
in_ratio : {shape : Shape} {h a b : List Row} {i j : ℕ} {X Y : List Word} → HasSemiNormal shape a X → HasSemiNormal shape b Y
    → OnInfinite shape h a i X b j Y → 1 ≤ i → 1 ≤ j → {M A C : ℕ} → AreCommon shape a X M → AreCommon shape b Y M
    → IsRateSum (IsAttractor shape a) X M A → IsRateSum (IsAttractor shape b) Y M C → i * A ≡ j * C
in_ratio first second o low low' periods others r q =
    le_antisymm (rates_le first second o low low' periods others r q) (rates_le second first (on_turned first second o) low' low others periods q r)

-- ---- conjugate powers

-- the exponents are to one another as the rates at attractors, and as those at repellers
ratios : {shape : Shape} {h a b : List Row} {i j : ℕ} {X Y : List Word} {M A B C D : ℕ} → HasSemiNormal shape a X → HasSemiNormal shape b Y
    → OnInfinite shape h a i X b j Y → 1 ≤ i → 1 ≤ j → AreCommon shape a X M → AreCommon shape b Y M
    → IsRateSum (IsAttractor shape a) X M A → IsRateSum (IsRepeller shape a) X M B
    → IsRateSum (IsAttractor shape b) Y M C → IsRateSum (IsRepeller shape b) Y M D → (i * A ≡ j * C) × (i * B ≡ j * D)
ratios {shape} {a = a} {b} {X = X} {Y} {M} first second o low low' periods others ahead behind other_ahead other_behind = (
  in_ratio first second o low low' periods others ahead other_ahead,
  in_ratio (turned_base first) (turned_base second) (on_inverses first second o) low low'
      (common_turned (turned_mirrors shape a first.pair) X M periods) (common_turned (turned_mirrors shape b second.pair) Y M others)
      (rates_turned first.pair behind) (rates_turned second.pair other_behind),
)

module _ (shape : Shape) (a b s t : List Row) (X Y : List Word) (M ahead_a behind_a ahead_b behind_b i j : ℕ) (pair_a : IsPair shape a) (pair_b : IsPair shape b) (least_a : IsQuasinormal shape a X) (least_b : IsQuasinormal shape b Y) (rates : HasRates shape a b X Y M ahead_a behind_a ahead_b behind_b) (low : 1 ≤ i) (low' : 1 ≤ j) where
  first : HasSemiNormal shape a X
  first = record { pair = pair_a; semi = least_a.semi_normal }

  second : HasSemiNormal shape b Y
  second = record { pair = pair_b; semi = least_b.semi_normal }

  pub rates_in_ratio : IsPower shape a (pos i) s → IsPower shape b (pos j) t → AreConjugate shape s t
      → (i * ahead_a ≡ j * ahead_b) × (i * behind_a ≡ j * behind_b)
  rates_in_ratio power power' c =
      ratios first second (on_conjugate first second low low' (power_acts first i s power) (power_acts second j t power') c.conjugates) low low'
      (λ k period. rates.period.holds k (inl period)) (λ k period. rates.period.holds k (inr period))
      rates.first_ahead rates.first_behind rates.second_ahead rates.second_behind

  -- the power -j of b is the power j of its inverse
  pub rates_in_ratio_minus : IsPower shape a (pos i) s → IsPower shape b (neg_ℤ (pos j)) t → AreConjugate shape s t
      → (i * ahead_a ≡ j * behind_b) × (i * behind_a ≡ j * ahead_b)
  rates_in_ratio_minus power power' c =
      let back = turned_base second in
      let m = turned_mirrors shape b pair_b in
      let inverse = power_to_inverse shape b (turned b) t (pos j) pair_b (inverse_is shape b pair_b) power' in
      ratios first back (on_conjugate first back low low' (power_acts first i s power) (power_acts back j t inverse) c.conjugates) low low'
      (λ k period. rates.period.holds k (inl period)) (common_turned m Y M (λ k period. rates.period.holds k (inr period)))
      rates.first_ahead rates.first_behind (rates_turned pair_b rates.second_behind)
      (rates_same (IsAttractor shape b) (IsRepeller shape (turned b)) (attractor_repeller (mirrors_back m)) (repeller_attractor (mirrors_back m))
      rates.second_ahead)
