-- The least common multiple of two periodic orders, and when it is wide.
use Rattle.std.proofs.Common.{◌≡◌, ℕ, ◌≤◌, ◌<◌, ◌^◌, ◌⊎◌, inl, inr, sym, subst, arith, List, [], ◌∷◌, ◌*◌, Option, Some, None, MatchOption}
use Rattle.std.specs.Int.{◌∣◌}
use Rattle.std.proofs.lemmas.Nat.Gcd.{le_of_dvd}
use Rattle.ht_word.specs.declared.shape.Shape.{Shape}
use Rattle.ht_word.specs.declared.word.Word.{Word}
use Rattle.ht_num.specs.Numbers.{IsLcm, IsWide}
use Rattle.ht_num.proofs.NumberLaws.{lcm_exists, least_multiple_same, once_least}
use Rattle.ht_pair.specs.declared.row.Row.{Row}
use Rattle.ht_pair.specs.Orders.{IsPeriodicOrder}
use Rattle.ht_pair.specs.SignTrials.{IsCommonOrder}
use Rattle.ht_types.specs.TypedElements.{TypedValue}
use Rattle.ht_power.specs.SignsTold.{HasCommonOrder, TellsWhole}
use Rattle.ht_power.proofs.WideNumbers.{narrow_at, none_wide, none_wide_too, some_wide}

-- what is told of an order gives one, that is wide where none is told
pub order_told : (shape : Shape) (p : List Row) (X : List Word) (told : Option ℕ) → MatchOption told ((k : ℕ) × IsPeriodicOrder shape p X k × IsWide k) (λ k. IsPeriodicOrder shape p X k × (k < 2 ^ 127)) → (k : ℕ) × IsPeriodicOrder shape p X k
order_told shape p X (Some k) h = (k, h.0)
order_told shape p X None h = (h.0, h.1)

-- a multiple of a wide number is wide
wide_over : (N m : ℕ) → 1 ≤ N → IsWide m → m ∣ N → IsWide N
wide_over N m positive w divides = omega (arith, w, le_of_dvd positive divides)

module _ (shape : Shape) (a b : List Row) (X Y : List Word) where
  -- it is that of both numbers
  pub common_order : (k j N : ℕ) → IsPeriodicOrder shape a X k → IsPeriodicOrder shape b Y j → IsLcm k j N → IsCommonOrder shape a b X Y N
  common_order k j N first second = least_multiple_same (λ m. (
    λ either. elim either [
      | inl e ↦ inl (subst (IsPeriodicOrder shape a X) (sym e) first)
      | inr e ↦ inr (subst (IsPeriodicOrder shape b Y) (sym e) second)
    ],
    λ either. elim either [
      | inl h ↦ inl (once_least m k h first)
      | inr h ↦ inr (once_least m j h second)
    ],
  ))

  -- there is one, and it is wide where one of the two is
  pub common_order_wide : (k j : ℕ) → IsPeriodicOrder shape a X k → IsPeriodicOrder shape b Y j → IsWide k ⊎ IsWide j → (N : ℕ) × IsCommonOrder shape a b X Y N × IsWide N
  common_order_wide k j first second wide =
      let N = lcm_exists k j first.positive second.positive in
      let common = common_order k j N.0 first second N.1 in (
        N.0,
        common,
        elim wide [
          | inl w ↦ wide_over N.0 k common.positive w (common.holds k (inl first))
          | inr w ↦ wide_over N.0 j common.positive w (common.holds j (inr second))
        ],
      )

-- ---- of two elements with their quasinormal bases

-- the periodic order of one
abbrev pub HasPeriodicOrder : TypedValue → ℕ → Type 0
HasPeriodicOrder t k = IsPeriodicOrder t.element.shape t.element.rows t.quasi.basis.words k

-- what is told of it
abbrev pub IsOrderTold : TypedValue → Option ℕ → Type 0
IsOrderTold t told = MatchOption told ((k : ℕ) × HasPeriodicOrder t k × IsWide k) (λ k. HasPeriodicOrder t k × (k < 2 ^ 127))

module _ (f g : TypedValue) (same : g.element.shape ≡ f.element.shape) (i j : ℕ) where
  of_first : {k : ℕ} → HasPeriodicOrder g k → IsPeriodicOrder f.element.shape g.element.rows g.quasi.basis.words k
  of_first {k} order = subst (λ (s : Shape). IsPeriodicOrder s g.element.rows g.quasi.basis.words k) same order

  -- one of the two orders is wide
  order_wide : {k m : ℕ} → HasPeriodicOrder f k → HasPeriodicOrder g m → IsWide k ⊎ IsWide m → TellsWhole f g i j None
  order_wide {k} {m} first second wide =
      let common = common_order_wide f.element.shape f.element.rows g.element.rows f.quasi.basis.words g.quasi.basis.words k m first (of_first second) wide in
      (common.0, common.1, some_wide [] ((i * common.0) ∷ (j * common.0) ∷ []) common.0 common.2)

  -- that of the first is
  pub first_wide : (second : Option ℕ) → (k : ℕ) × HasPeriodicOrder f k × IsWide k → IsOrderTold g second → TellsWhole f g i j None
  first_wide second wide told =
      let other = order_told g.element.shape g.element.rows g.quasi.basis.words second told in
      order_wide wide.1 other.1 (inl wide.2)

  -- that of the second is
  pub second_wide : {k : ℕ} → HasPeriodicOrder f k → (m : ℕ) × HasPeriodicOrder g m × IsWide m → TellsWhole f g i j None
  second_wide first wide = order_wide first wide.1 (inr wide.2)

  -- numbers that are told are below the limit
  pub whole_narrow : {x y : ℕ} → TellsWhole f g i j (Some (x, y)) → (x < 2 ^ 127) × (y < 2 ^ 127)
  whole_narrow (N, common, one, two, none) =
      let all = N ∷ (i * N) ∷ (j * N) ∷ [] in
      (subst (λ (n : ℕ). n < 2 ^ 127) (sym one) (narrow_at all 1 none (omega arith)), subst (λ (n : ℕ). n < 2 ^ 127) (sym two) (narrow_at all 2 none (omega arith)))

  module _ {k m N : ℕ} (first : HasPeriodicOrder f k) (second : HasPeriodicOrder g m) (least : IsLcm k m N) where
    common : HasCommonOrder f g N
    common = common_order f.element.shape f.element.rows g.element.rows f.quasi.basis.words g.quasi.basis.words k m N first (of_first second) least

    -- their least common multiple is
    pub least_wide : IsWide N → TellsWhole f g i j None
    least_wide wide = (N, common, some_wide [] ((i * N) ∷ (j * N) ∷ []) N wide)

    -- a product is
    pub first_product_wide : IsWide (i * N) → TellsWhole f g i j None
    first_product_wide wide = (N, common, some_wide (N ∷ []) ((j * N) ∷ []) (i * N) wide)

    pub second_product_wide : IsWide (j * N) → TellsWhole f g i j None
    second_product_wide wide = (N, common, some_wide (N ∷ (i * N) ∷ []) [] (j * N) wide)

    -- none is
    pub whole_told : {x y : ℕ} → N < 2 ^ 127 → (x ≡ i * N) × (x < 2 ^ 127) → (y ≡ j * N) × (y < 2 ^ 127) → TellsWhole f g i j (Some (x, y))
    whole_told narrow one two = (
      N,
      common,
      one.0,
      two.0,
      none_wide_too N ((i * N) ∷ (j * N) ∷ []) narrow (none_wide_too (i * N) ((j * N) ∷ []) (subst (λ (n : ℕ). n < 2 ^ 127) one.0 one.1) (none_wide_too (j * N) [] (subst (λ (n : ℕ). n < 2 ^ 127) two.0 two.1) none_wide)),
    )
