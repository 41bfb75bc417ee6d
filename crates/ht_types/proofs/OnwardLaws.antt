-- Walks ahead: they go on step by step, one after another, and take no more steps than the words of the basis and the letters allow.
use Rattle.std.proofs.Common.{◌≡◌, ℕ, zero, suc, ◌+◌, ◌-◌, ◌*◌, ◌≤◌, ◌<◌, inl, inr, List, ◌++◌, length, Some, slice_get, refl, sym, ap, ◌∙◌, subst, arith, Contains, ℤ, pos, ◌+ℤ◌}
use Rattle.std.proofs.Math.Nat.{mul-le-mul_left}
use Rattle.std.proofs.lemmas.Bool.{cases_lt}
use Rattle.std.proofs.lemmas.Int.{ints}
use Rattle.ht_word.specs.Words.{◌·◌, IsLetters, IsWordOf}
use Rattle.ht_word.specs.declared.shape.Shape.{Shape}
use Rattle.ht_word.specs.declared.word.Word.{Word}
use Rattle.ht_word.proofs.WordLaws.{after-append, letters_back, under_after, length-after, under_trans, word_rest}
use Rattle.ht_pair.specs.Atoms.{IsInfiniteWord}
use Rattle.ht_pair.specs.Kinds.{IsAttractorWord}
use Rattle.ht_pair.specs.Pairs.{IsPair}
use Rattle.ht_pair.specs.Reaches.{CarriesUnderSuch}
use Rattle.ht_pair.specs.SemiNormal.{CarriesUnder}
use Rattle.ht_pair.specs.Steps.{Carries}
use Rattle.ht_pair.specs.declared.row.Row.{Row}
use Rattle.ht_pair.proofs.BasisLaws.{basis_single, some_at}
use Rattle.ht_pair.proofs.CarriesLaws.{carries_single, carries_extends, carries_rest, carries_sum, carries_itself}
use Rattle.ht_quasi.proofs.StepLaws.{listed_at}
use Rattle.ht_types.specs.Flows.{IsWalk}
use Rattle.ht_types.specs.declared.direction.Direction.TheVariants.{Ahead}
use Rattle.ht_types.specs.declared.walk.Walk.{Walk}
use Rattle.ht_types.proofs.TurnLaws.{HasSemiNormal, StaysFor, FallsBack, turns, falls_to, falls_shorter}

-- none of the first k words on the way of u is under an attractor
abbrev pub NoneBefore : Shape → List Row → List Word → ℕ → Word → Type 0
NoneBefore shape p X k u = (j : ℕ) (v : Word) → j < k → ¬ CarriesUnderSuch shape p (IsAttractorWord shape p) X (pos j) u v

-- the word of X above a carried word is one
pub such_above : {shape : Shape} {p : List Row} {X : List Word} → HasSemiNormal shape p X → (k : ℤ) (u x v : Word) (z : List ℕ) → Contains X x → Carries shape p k u (x · z) → CarriesUnderSuch shape p (IsAttractorWord shape p) X k u v → IsAttractorWord shape p x
such_above {shape} {p} {X} h k u x v z c carries s =
    let is : v ≡ x · z = carries_single shape p h.pair k u v (x · z) s.carries carries in
    subst (IsAttractorWord shape p) (basis_single shape X h.semi.basis v s.above x s.listed c s.under (record { rest = z; is = is })) s.such

-- ---- what steps lead to goes on as the word where they begin does

sum : (k j i : ℕ) → k + j ≡ i → pos k +ℤ pos j ≡ pos i
sum k j i e = omega (arith, ints)

later_under : (shape : Shape) (p : List Row) → IsPair shape p → (X : List Word) (k j i : ℕ) → k + j ≡ i → (u v : Word) → Carries shape p (pos k) u v → CarriesUnder shape p (pos j) v X → CarriesUnder shape p (pos i) u X
later_under shape p pair X k j i e u v c s = record { to = s.to; carries = carries_sum shape p pair (pos k) (pos j) (pos i) (sum k j i e) u v s.to c s.carries; under = s.under }

pub sooner_under : (shape : Shape) (p : List Row) → IsPair shape p → (X : List Word) (k j i : ℕ) → k + j ≡ i → (u v : Word) → Carries shape p (pos k) u v → CarriesUnder shape p (pos i) u X → CarriesUnder shape p (pos j) v X
sooner_under shape p pair X k j i e u v c s = record { to = s.to; carries = carries_rest shape p pair (pos k) (pos j) (pos i) (sum k j i e) u v s.to c s.carries; under = s.under }

later_such : (shape : Shape) (p : List Row) → IsPair shape p → (X : List Word) (k j i : ℕ) → k + j ≡ i → (u v w : Word) → Carries shape p (pos k) u v → CarriesUnderSuch shape p (IsAttractorWord shape p) X (pos j) v w → CarriesUnderSuch shape p (IsAttractorWord shape p) X (pos i) u w
later_such shape p pair X k j i e u v w c s = record { above = s.above; listed = s.listed; such = s.such; carries = carries_sum shape p pair (pos k) (pos j) (pos i) (sum k j i e) u v w c s.carries; under = s.under }

sooner_such : (shape : Shape) (p : List Row) → IsPair shape p → (X : List Word) (k j i : ℕ) → k + j ≡ i → (u v w : Word) → Carries shape p (pos k) u v → CarriesUnderSuch shape p (IsAttractorWord shape p) X (pos i) u w → CarriesUnderSuch shape p (IsAttractorWord shape p) X (pos j) v w
sooner_such shape p pair X k j i e u v w c s = record { above = s.above; listed = s.listed; such = s.such; carries = carries_rest shape p pair (pos k) (pos j) (pos i) (sum k j i e) u v w c s.carries; under = s.under }

pub stays_on : (shape : Shape) (p : List Row) → IsPair shape p → (X : List Word) (k i : ℕ) → k ≤ i → (u v : Word) → Carries shape p (pos k) u v → StaysFor shape p X i u → StaysFor shape p X (i - k) v
stays_on shape p pair X k i less u v c stays = λ j l. sooner_under shape p pair X k j (k + j) refl u v c (stays (k + j) (omega arith))

pub none_on : (shape : Shape) (p : List Row) → IsPair shape p → (X : List Word) (k i : ℕ) → k ≤ i → (u v : Word) → Carries shape p (pos k) u v → NoneBefore shape p X i u → NoneBefore shape p X (i - k) v
none_on shape p pair X k i less u v c none = λ j w l s. none (k + j) w (omega arith) (later_such shape p pair X k j (k + j) refl u v w c s)

-- ---- one walk

-- no steps
pub walk_none : (shape : Shape) (p : List Row) (X : List Word) (u x : Word) (walk : Walk) → IsWordOf shape u → slice_get X walk.to ≡ Some x → u ≡ x · walk.rest → walk.steps ≡ 0 → IsWalk shape p X Ahead u x walk
walk_none shape p X u x walk hu here e none = record {
  here = here;
  carries = subst (λ k. Carries shape p (pos k) u (x · walk.rest)) (sym none) (subst (Carries shape p (pos 0) u) e (carries_itself shape p u hu));
  under = λ j l. subst (λ k. CarriesUnder shape p (pos k) u X) (nothing j (walk.steps) none l)
      (record { to = u; carries = carries_itself shape p u hu; under = record { above = x; listed = listed_at X walk.to x here; under = record { rest = walk.rest; is = e } } });
  before = λ j v l s. nowhere j walk.steps none l;
}
  where
    nothing : (j k : ℕ) → k ≡ 0 → j ≤ k → 0 ≡ j
    nothing j k e l = omega arith

    nowhere : (j k : ℕ) → k ≡ 0 → j < k → ⊥
    nowhere j k e l = omega arith

-- one more step
pub walk_more : {shape : Shape} {p : List Row} {X : List Word} → HasSemiNormal shape p X → (u x y : Word) (walk next : Walk) → IsWalk shape p X Ahead u x walk → ¬ IsAttractorWord shape p x → slice_get X next.to ≡ Some y → Carries shape p (pos 1) (x · walk.rest) (y · next.rest)
    → next.steps ≡ walk.steps + 1 → IsWalk shape p X Ahead u y next
walk_more {shape} {p} {X} h u x y walk next w open_end here one more =
    let k = walk.steps in
    let there : Carries shape p (pos next.steps) u (y · next.rest) = carries_sum shape p h.pair (pos k) (pos 1) (pos next.steps) (omega (arith, ints)) u (x · walk.rest) (y · next.rest) w.carries one in
    record {
      here = here;
      carries = there;
      under = λ j l. elim (cases_lt k j) [
        | inl less ↦ subst (λ i. CarriesUnder shape p (pos i) u X) (last j l less) (record { to = y · next.rest; carries = there; under = some_at X y (y · next.rest) (listed_at X next.to y here) (under_after y next.rest) })
        | inr other ↦ w.under j other
      ];
      before = λ j v l s. elim (cases_lt j k) [
        | inl less ↦ w.before j v less s
        | inr other ↦ open_end (such_above h (pos k) u x v walk.rest (listed_at X walk.to x w.here) w.carries (subst (λ i. CarriesUnderSuch shape p (IsAttractorWord shape p) X (pos i) u v) (same j l other) s))
      ];
    }
  where
    last : (j : ℕ) → j ≤ next.steps → walk.steps < j → next.steps ≡ j
    last j l m = omega arith

    same : (j : ℕ) → j < next.steps → walk.steps ≤ j → j ≡ walk.steps
    same j l m = omega arith

-- with more letters behind it a word is carried under X as well
pub early_under : (shape : Shape) (p : List Row) (X : List Word) (j : ℕ) (u : Word) (z : List ℕ) → IsLetters shape z → CarriesUnder shape p (pos j) u X → CarriesUnder shape p (pos j) (u · z) X
early_under shape p X j u z hz s = record { to = s.to · z; carries = carries_extends shape p (pos j) u s.to z hz s.carries; under = some_at X s.under.above (s.to · z) s.under.listed (under_trans (under_after s.to z) s.under.under) }

-- and under the same word of X
early_such : {shape : Shape} {p : List Row} {X : List Word} → HasSemiNormal shape p X → (j : ℕ) (u r : Word) (z : List ℕ) → IsLetters shape z → CarriesUnder shape p (pos j) u X → CarriesUnderSuch shape p (IsAttractorWord shape p) X (pos j) (u · z) r → (w : Word) × CarriesUnderSuch shape p (IsAttractorWord shape p) X (pos j) u w
early_such {shape} {p} {X} h j u r z hz s such =
    let x = s.under.above in
    let y = s.under.under.rest in
    let is : s.to · z ≡ x · (y ++ z) = ap (λ t. t · z) s.under.under.is ∙ after-append x y z in
    let long = subst (Carries shape p (pos j) (u · z)) is (carries_extends shape p (pos j) u s.to z hz s.carries) in
    (s.to, record { above = x; listed = s.under.listed; such = such_above h (pos j) (u · z) x r (y ++ z) s.under.listed long such; carries = s.carries; under = s.under.under })

-- a walk, and another from the word where it comes with more letters behind it
pub walk_then : {shape : Shape} {p : List Row} {X : List Word} → HasSemiNormal shape p X → (u x y t : Word) (z : List ℕ) (walk more next : Walk) → IsLetters shape z → u · z ≡ t → IsWalk shape p X Ahead u x walk → IsWalk shape p X Ahead ((x · walk.rest) · z) y more
    → next.steps ≡ walk.steps + more.steps → next.to ≡ more.to → next.rest ≡ more.rest → IsWalk shape p X Ahead t y next
walk_then {shape} {p} {X} h u x y t z walk more next hz e w m steps to rest =
    let k = walk.steps in
    let v = (x · walk.rest) · z in
    let first : Carries shape p (pos k) t v = subst (λ s. Carries shape p (pos k) s v) e (carries_extends shape p (pos k) u (x · walk.rest) z hz w.carries) in
    record {
      here = subst (λ i. slice_get X i ≡ Some y) (sym to) m.here;
      carries = subst (λ s. Carries shape p (pos next.steps) t (y · s)) (sym rest) (carries_sum shape p h.pair (pos k) (pos more.steps) (pos next.steps) (sum k more.steps next.steps (sym steps)) t v (y · more.rest) first m.carries);
      under = λ j l. elim (cases_lt j k) [
        | inl less ↦ subst (λ s. CarriesUnder shape p (pos j) s X) e (early_under shape p X j u z hz (w.under j (omega arith)))
        | inr other ↦ later_under shape p h.pair X k (j - k) j (omega arith) t v first (m.under (j - k) (omega arith))
      ];
      before = λ j r l s. elim (cases_lt j k) [
        | inl less ↦ (let b = early_such h j u r z hz (w.under j (omega arith)) (subst (λ s. CarriesUnderSuch shape p (IsAttractorWord shape p) X (pos j) s r) (sym e) s) in w.before j b.0 less b.1)
        | inr other ↦ m.before (j - k) r (omega arith) (sooner_such shape p h.pair X k (j - k) j (omega arith) t v r first s)
      ];
    }

-- ---- how long walks are

-- where the word falls back, what is left has fewer letters
bounded_by : {shape : Shape} {p : List Row} {X : List Word} → HasSemiNormal shape p X → (x : Word) (z : List ℕ) → IsInfiniteWord shape p X x → (k : ℕ) → StaysFor shape p X k (x · z) → NoneBefore shape p X k (x · z)
    → ((y : List ℕ) → length y < length z → (i : ℕ) → StaysFor shape p X i (x · y) → NoneBefore shape p X i (x · y) → i ≤ length X * (length y + 1)) → k ≤ length X * (length z + 1)
bounded_by {shape} {p} {X} h x z infinite k stays none shorter = elim (cases_lt k (length X)) [
  | inl less ↦ short k (length X) (length z) less
  | inr other ↦ elim (turns h x z infinite (λ j m. stays j (omega arith))) [
    | inl m ↦ absurd (none m.count m.to (let less = m.less in omega arith) m.reached)
    | inr b ↦ by other b
  ]
]
  where
    short : (k n l : ℕ) → k < n → k ≤ n * (l + 1)
    short k n l less = omega (arith, mul-le-mul_left n (let one : 1 ≤ l + 1 = omega arith in one))

    more : (k d n l m : ℕ) → d ≤ n → k - d ≤ n * (m + 1) → m < l → k ≤ n * (l + 1)
    more k d n l m within few less = omega (arith, mul-le-mul_left n less)

    by : length X ≤ k → FallsBack shape p X x z → k ≤ length X * (length z + 1)
    by other b =
        let hz = word_rest shape x z (stays 0 (omega arith)).carries.word in
        let hy = letters_back shape b.front b.back (subst (IsLetters shape) b.whole hz) in
        let there : Carries shape p (pos b.count) (x · z) (x · b.back) = subst (λ s. Carries shape p (pos b.count) (x · s) (x · b.back)) (sym b.whole) (falls_to h x z b.back b hy) in
        let early : b.count ≤ k = (let w = b.within in omega arith) in
        let less = falls_shorter x z z b.back b b.whole in
        more k b.count (length X) (length z) (length b.back) b.within
        (shorter b.back less (k - b.count) (stays_on shape p h.pair X b.count k early (x · z) (x · b.back) there stays) (none_on shape p h.pair X b.count k early (x · z) (x · b.back) there none)) less

bounded_within : {shape : Shape} {p : List Row} {X : List Word} → HasSemiNormal shape p X → (x : Word) → IsInfiniteWord shape p X x → (n : ℕ) (z : List ℕ) → length z ≤ n → (k : ℕ) → StaysFor shape p X k (x · z) → NoneBefore shape p X k (x · z) → k ≤ length X * (length z + 1)
bounded_within h x infinite zero z l k stays none = bounded_by h x z infinite k stays none (λ y less. absurd (omega arith))
bounded_within h x infinite (suc n) z l k stays none = bounded_by h x z infinite k stays none (λ y less. bounded_within h x infinite n y (omega arith))

-- few words and letters, few steps
pub walk_bound : {shape : Shape} {p : List Row} {X : List Word} → HasSemiNormal shape p X → (u x y : Word) (z : List ℕ) (walk : Walk) → IsInfiniteWord shape p X x → u ≡ x · z → IsWalk shape p X Ahead u y walk → walk.steps ≤ length X * (length u.letters + 1)
walk_bound {shape} {p} {X} h u x y z walk infinite e w =
    let few = bounded_within h x infinite (length z) z (omega arith) walk.steps (subst (StaysFor shape p X walk.steps) e w.under) (subst (NoneBefore shape p X walk.steps) e w.before) in
    omega (arith, mul-le-mul_left (length X) (less x z u e), few)
  where
    less : (x : Word) (z : List ℕ) (u : Word) → u ≡ x · z → length z + 1 ≤ length u.letters + 1
    less x z u e = omega (arith, length-after x z, ap (λ (w : Word). length w.letters) e)

-- a walk of u has come somewhere
pub record IsOnWay (shape : Shape) (p : List Row) (X : List Word) (u : Word) (walk : Walk) : Type 0 where
  pub above : Word
  pub walked : IsWalk shape p X Ahead u above walk
