-- Powers that are made over the chain of their exponent, step by step.
use Rattle.std.proofs.Common.{◌≡◌, ◌≤◌, ◌+◌, ◌*◌, ◌/◌, ◌%◌, ℕ, ◌⊎◌, inl, inr, Bool, true, false, if◌then◌else◌, nat_eq, List, [], ◌∷◌, refl, sym, ap, ◌∙◌, subst, subst₂, arith, ℤ, pos, negsuc, neg_ℤ, ◌<ℤ◌, ◌≤ℤ◌, unsigned_abs}
use Rattle.std.proofs.lemmas.Int.{ints}
use Rattle.ht_num.specs.Chains.{chain, doubled}
use Rattle.ht_num.proofs.ChainLaws.{chain_step}
use Rattle.ht_word.specs.declared.shape.Shape.{Shape}
use Rattle.ht_pair.specs.declared.row.Row.{Row}
use Rattle.ht_pair.specs.Elements.{ElementValue, IsElement}
use Rattle.ht_pair.specs.Pairs.{IsPair, identity}
use Rattle.ht_pair.specs.PowerSizes.{Plus, Minus, IsFirstLarge, IsLargePower}
use Rattle.ht_pair.specs.Products.{IsProduct, IsPower}
use Rattle.ht_pair.specs.Sizes.{IsLarge}
use Rattle.ht_pair.proofs.LargePowerLaws.{NoneFirst, first_large_front, first_large_behind, none_first_append, none_first_cons, none_first_element, first_large_of_inverse, first_large_to_inverse}
use Rattle.ht_pair.proofs.PowerLaws.{identity_power, first_power, power_add, power_once, power_of_inverse}
use Rattle.ht_pair.proofs.ProductLaws.{product_exists, product_of}
use Rattle.ht_pair.proofs.SizeLaws.{large_alike}

-- some pair that is the product of s and t is large, with these numbers
abbrev pub HasLargeProduct : Shape → List Row → List Row → ℕ → ℕ → Type 0
HasLargeProduct shape s t rows letters = (q : List Row) × IsProduct shape s t q × IsLarge shape q rows letters

-- no pair that is the product is large
abbrev pub NoLargeProduct : Shape → List Row → List Row → Type 0
NoLargeProduct shape s t = (q : List Row) (rows letters : ℕ) → IsProduct shape s t q → ¬ IsLarge shape q rows letters

-- the product of the powers j and k, where i is their sum
pub power_sum : (shape : Shape) (p s t q : List Row) (j k i : ℕ) → i ≡ j + k → IsPair shape p → IsPower shape p (pos j) s → IsPower shape p (pos k) t → IsProduct shape s t q → IsPower shape p (pos i) q
power_sum shape p s t q j k i sum pair hs ht product = subst (λ m. IsPower shape p (pos m) q) (sym sum) (power_add shape p s t q (pos j) (pos k) pair hs ht product)

-- such a power isn't large where no product is
pub sum_not_large : (shape : Shape) (p s t q : List Row) (j k i : ℕ) → i ≡ j + k → IsPair shape p → IsPower shape p (pos j) s → IsPower shape p (pos k) t → NoLargeProduct shape s t → IsPower shape p (pos i) q
    → (rows letters : ℕ) → ¬ IsLarge shape q rows letters
sum_not_large shape p s t q j k i sum pair hs ht none power rows letters large =
    let x = product_exists shape s t hs.pair ht.pair in
    let product = product_of shape s t hs.pair ht.pair x in
    let other = power_sum shape p s t x.rows j k i sum pair hs ht product in
    none x.rows rows letters product (large_alike shape q x.rows rows letters power.pair product.pair (power_once shape p q x.rows (pos i) pair power other) large)

-- what doubling begins with
double_first : (shape : Shape) (p : List Row) (c d rows letters : ℕ) → ((ks : List ℕ) → IsFirstLarge shape p Plus ((c * 2) ∷ ks) rows letters) → IsFirstLarge shape p Plus (doubled c d) rows letters
double_first shape p c d rows letters h = either (nat_eq d 1)
  where
    either : (both : Bool) → IsFirstLarge shape p Plus (if both then ((c * 2) ∷ (c * 2 + 1) ∷ []) else ((c * 2) ∷ [])) rows letters
    either true = h ((c * 2 + 1) ∷ [])
    either false = h []

-- a large square is the first large power of those that doubling adds
pub square_large : (shape own : Shape) (p h : List Row) (c d rows letters : ℕ) → shape ≡ own → IsPair shape p → IsPower shape p (pos c) h → HasLargeProduct own h h rows letters → IsFirstLarge shape p Plus (doubled c d) rows letters
square_large shape own p h c d rows letters shapes pair power large =
    let found = subst (λ (s : Shape). HasLargeProduct s h h rows letters) (sym shapes) large in
    double_first shape p c d rows letters (λ ks. (found.0, power_sum shape p h h found.0 c c (c * 2) (omega arith) pair power power found.1, inl found.2))

-- the square is the power that doubling adds
pub square_power : (shape own : Shape) (p h t : List Row) (c : ℕ) → shape ≡ own → IsPair shape p → IsPower shape p (pos c) h → IsProduct own h h t → IsPower shape p (pos (c * 2)) t
square_power shape own p h t c shapes pair power product = power_sum shape p h h t c c (c * 2) (omega arith) pair power power (subst (λ (s : Shape). IsProduct s h h t) (sym shapes) product)

-- nor is it large where no product is
square_small : (shape own : Shape) (p h t : List Row) (c : ℕ) → shape ≡ own → IsPair shape p → IsPower shape p (pos c) h → NoLargeProduct own h h → IsProduct own h h t → (rows letters : ℕ) → ¬ IsLarge shape t rows letters
square_small shape own p h t c shapes pair power none product rows letters large =
    none t rows letters product (subst (λ (s : Shape). IsLarge s t rows letters) shapes large)

-- with the digit 0 the square is all
pub even_kept : (shape own : Shape) (p h t : List Row) (c d : ℕ) → d ≡ 0 → shape ≡ own → IsPair shape p → IsPower shape p (pos c) h → NoLargeProduct own h h → IsProduct own h h t → NoneFirst shape p Plus (doubled c d)
even_kept shape own p h t c d digit shapes pair power none product =
    subst (λ e. NoneFirst shape p Plus (doubled c e)) (sym digit)
    (none_first_cons shape p t Plus (c * 2) [] pair (square_power shape own p h t c shapes pair power product) (square_small shape own p h t c shapes pair power none product) (λ i j e. e))

-- with the digit 1 the element comes behind the square
pub odd_power : (shape own : Shape) (p t q : List Row) (c k : ℕ) → k ≡ c * 2 + 1 → shape ≡ own → IsPair shape p → IsPower shape p (pos (c * 2)) t → IsProduct own t p q → IsPower shape p (pos k) q
odd_power shape own p t q c k is shapes pair power product = power_sum shape p t p q (c * 2) 1 k is pair power (first_power shape p pair) (subst (λ (s : Shape). IsProduct s t p q) (sym shapes) product)

-- this product may be the first large one
pub odd_large : (shape own other : Shape) (p h t : List Row) (c d rows letters : ℕ) → d ≡ 1 → shape ≡ own → shape ≡ other → IsPair shape p → IsPower shape p (pos c) h → NoLargeProduct own h h → IsProduct own h h t
    → HasLargeProduct other t p rows letters → IsFirstLarge shape p Plus (doubled c d) rows letters
odd_large shape own other p h t c d rows letters digit shapes others pair power none product large =
    let square = square_power shape own p h t c shapes pair power product in
    let found = subst (λ (s : Shape). HasLargeProduct s t p rows letters) (sym others) large in
    subst (λ e. IsFirstLarge shape p Plus (doubled c e) rows letters) (sym digit)
    (t, square, inr (square_small shape own p h t c shapes pair power none product, (found.0, odd_power shape shape p t found.0 c (c * 2 + 1) refl refl pair square found.1, inl found.2)))

-- or none is large
pub odd_kept : (shape own other : Shape) (p h t : List Row) (c d : ℕ) → d ≡ 1 → shape ≡ own → shape ≡ other → IsPair shape p → IsPower shape p (pos c) h → NoLargeProduct own h h → IsProduct own h h t
    → NoLargeProduct other t p → NoneFirst shape p Plus (doubled c d)
odd_kept shape own other p h t c d digit shapes others pair power none product last =
    let square = square_power shape own p h t c shapes pair power product in
    let none_last = subst (λ (s : Shape). NoLargeProduct s t p) (sym others) last in
    let x = product_exists shape t p product_pair pair in
    let next = product_of shape t p product_pair pair x in
    subst (λ e. NoneFirst shape p Plus (doubled c e)) (sym digit)
    (none_first_cons shape p t Plus (c * 2) ((c * 2 + 1) ∷ []) pair square (square_small shape own p h t c shapes pair power none product)
    (none_first_cons shape p x.rows Plus (c * 2 + 1) [] pair (odd_power shape shape p t x.rows c (c * 2 + 1) refl refl pair square next) (λ i j. none_last x.rows i j next) (λ i j e. e)))
  where
    product_pair : IsPair shape t
    product_pair = subst (λ (s : Shape). IsPair s t) (sym shapes) product.pair

-- ---- the chain

-- the chain of 1 has the element alone
pub one_kept : (shape : Shape) (p : List Row) (k : ℕ) → k ≡ 1 → IsElement shape p → NoneFirst shape p Plus (chain k)
one_kept shape p k one e = subst (λ m. NoneFirst shape p Plus (chain m)) (sym one) (none_first_element shape p p Plus 1 e.canonical.pair (first_power shape p e.canonical.pair) e)

-- the first large power over the chain of the half is that over the chain
pub half_large : (shape : Shape) (p : List Row) (k rows letters : ℕ) → 2 ≤ k → IsFirstLarge shape p Plus (chain (k / 2)) rows letters → IsFirstLarge shape p Plus (chain k) rows letters
half_large shape p k rows letters l h =
    subst (λ (ks : List ℕ). IsFirstLarge shape p Plus ks rows letters) (sym (chain_step k l)) (first_large_front shape p Plus (chain (k / 2)) (doubled (k / 2) (k % 2)) rows letters h)

-- where there is none, it is that of those that doubling adds
pub step_large : (shape : Shape) (p : List Row) (k rows letters : ℕ) → 2 ≤ k → IsPair shape p → NoneFirst shape p Plus (chain (k / 2)) → IsFirstLarge shape p Plus (doubled (k / 2) (k % 2)) rows letters → IsFirstLarge shape p Plus (chain k) rows letters
step_large shape p k rows letters l pair none h =
    subst (λ (ks : List ℕ). IsFirstLarge shape p Plus ks rows letters) (sym (chain_step k l)) (first_large_behind shape p Plus (chain (k / 2)) (doubled (k / 2) (k % 2)) rows letters pair none h)

-- and where those have none either, there is none
pub step_kept : (shape : Shape) (p : List Row) (k : ℕ) → 2 ≤ k → NoneFirst shape p Plus (chain (k / 2)) → NoneFirst shape p Plus (doubled (k / 2) (k % 2)) → NoneFirst shape p Plus (chain k)
step_kept shape p k l none others =
    subst (λ (ks : List ℕ). NoneFirst shape p Plus ks) (sym (chain_step k l)) (none_first_append shape p Plus (chain (k / 2)) (doubled (k / 2) (k % 2)) none others)

-- ---- the sign

-- the power of the inverse is that with the other sign
pub inverse_power : (shape own : Shape) (p q : List Row) (k : ℕ) (s : ElementValue) → own ≡ shape → IsPair shape p → IsPower shape p (negsuc 0) q → (s.shape ≡ own) × IsPower own q (pos k) s.rows → (s.shape ≡ shape) × IsPower shape p (neg_ℤ (pos k)) s.rows
inverse_power shape own p q k s shapes pair inverse h = (h.0 ∙ shapes, power_of_inverse shape p q s.rows (pos k) pair inverse (subst (λ (t : Shape). IsPower t q (pos k) s.rows) shapes h.1))

-- the first large power of the inverse is that with the other sign
pub inverse_large : (shape own : Shape) (p q : List Row) (k rows letters : ℕ) → own ≡ shape → IsPair shape p → IsPower shape p (negsuc 0) q → IsFirstLarge own q Plus (chain k) rows letters → IsFirstLarge shape p Minus (chain k) rows letters
inverse_large shape own p q k rows letters shapes pair inverse h =
    first_large_of_inverse shape p q (chain k) rows letters pair inverse (subst (λ (t : Shape). IsFirstLarge t q Plus (chain k) rows letters) shapes h)

-- where the inverse has none, there is none
pub inverse_kept : (shape own : Shape) (p q : List Row) (k : ℕ) → own ≡ shape → IsPair shape p → IsPower shape p (negsuc 0) q → NoneFirst own q Plus (chain k) → NoneFirst shape p Minus (chain k)
inverse_kept shape own p q k shapes pair inverse none = λ i j h.
    none i j (subst (λ (t : Shape). IsFirstLarge t q Plus (chain k) i j) (sym shapes) (first_large_to_inverse shape p q (chain k) i j pair inverse h))

-- the inverse alone is an element
pub inverse_alone : (shape own : Shape) (p q : List Row) (k : ℕ) → k ≡ 1 → own ≡ shape → IsPair shape p → IsPower shape p (negsuc 0) q → IsElement own q → NoneFirst shape p Minus (chain k)
inverse_alone shape own p q k one shapes pair inverse e =
    subst (λ m. NoneFirst shape p Minus (chain m)) (sym one) (none_first_element shape p q Minus 1 pair inverse (subst (λ (t : Shape). IsElement t q) shapes e))

-- a whole number below 0 is less its size
pub below_zero : (k : ℤ) → k <ℤ pos 0 → neg_ℤ (pos (unsigned_abs k)) ≡ k
below_zero (pos k) l = absurd (omega (arith, ints, l))
below_zero (negsuc k) l = refl

-- a first large power with the sign minus is that of a number below 0
pub down_large : (shape : Shape) (p : List Row) (k : ℤ) (m rows letters : ℕ) → k <ℤ pos 0 → m ≡ unsigned_abs k → IsFirstLarge shape p Minus (chain m) rows letters → IsLargePower shape p k rows letters
down_large shape p (pos k) m rows letters l e h = absurd (omega (arith, ints, l))
down_large shape p (negsuc k) m rows letters l e h = subst (λ j. IsFirstLarge shape p Minus (chain j) rows letters) e h

-- and the other way round
pub large_down : (shape : Shape) (p : List Row) (k : ℤ) (m rows letters : ℕ) → k <ℤ pos 0 → m ≡ unsigned_abs k → IsLargePower shape p k rows letters → IsFirstLarge shape p Minus (chain m) rows letters
large_down shape p (pos k) m rows letters l e h = absurd (omega (arith, ints, l))
large_down shape p (negsuc k) m rows letters l e h = subst (λ j. IsFirstLarge shape p Minus (chain j) rows letters) (sym e) h

-- neither the power 0 nor the power 1 is made over a large one
pub small_kept : (shape : Shape) (p : List Row) (k : ℤ) → (k ≡ pos 0) ⊎ (k ≡ pos 1) → IsElement shape p → (rows letters : ℕ) → ¬ IsLargePower shape p k rows letters
small_kept shape p k which e rows letters h = elim which [
  | inl zero ↦ first rows letters (subst (λ j. IsLargePower shape p j rows letters) zero h)
  | inr one ↦ first rows letters (subst (λ j. IsLargePower shape p j rows letters) one h)
]
  where
    first : NoneFirst shape p Plus (1 ∷ [])
    first = none_first_element shape p p Plus 1 e.canonical.pair (first_power shape p e.canonical.pair) e

-- a power from 0 on is made over the chain of its size
pub up_kept : (shape : Shape) (p : List Row) (k j : ℤ) → k ≡ j → pos 0 ≤ℤ k → NoneFirst shape p Plus (chain (unsigned_abs j)) → (rows letters : ℕ) → ¬ IsLargePower shape p k rows letters
up_kept shape p (pos k) j e l none rows letters h = none rows letters (subst (λ m. IsFirstLarge shape p Plus (chain (unsigned_abs m)) rows letters) e h)
up_kept shape p (negsuc k) j e l none rows letters h = absurd (omega (arith, ints, l))

-- the identity is the power 0 of an element
pub zero_power_is : (shape own : Shape) (p : List Row) (k : ℤ) (s : ElementValue) → k ≡ pos 0 → own ≡ shape → (s.shape ≡ own) × (s.rows ≡ identity own) → (s.shape ≡ shape) × IsPower shape p k s.rows
zero_power_is shape own p k s zero shapes h = (h.0 ∙ shapes, subst₂ (λ j (q : List Row). IsPower shape p j q) (sym zero) (sym (h.1 ∙ ap (λ (t : Shape). identity t) shapes)) (identity_power shape p))

-- an element is its power 1
pub one_power_is : (a s : ElementValue) (k : ℤ) → k ≡ pos 1 → s ≡ a → IsPair a.shape a.rows → (s.shape ≡ a.shape) × IsPower a.shape a.rows k s.rows
one_power_is a s k one same pair = (ap (λ (t : ElementValue). t.shape) same, subst₂ (λ j (q : List Row). IsPower a.shape a.rows j q) (sym one) (sym (ap (λ (t : ElementValue). t.rows) same)) (first_power a.shape a.rows pair))
