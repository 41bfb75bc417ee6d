-- The cycle words of a semi-normal basis X of p: the words of X to which some power leads back from a word under them.
use Rattle.std.proofs.Common.{◌≡◌, ◌≢◌, ℕ, zero, suc, ◌-◌, ◌*◌, ◌≤◌, ◌⊎◌, inl, inr, List, [], ◌∷◌, ◌++◌, refl, sym, ap, ◌∙◌, subst, arith, zero-mul, Contains, ℤ, pos, negsuc, neg_ℤ, ◌+ℤ◌, ◌/◌, ◌%◌}
use Rattle.std.proofs.lemmas.Int.{ints}
use Rattle.std.proofs.lemmas.List.{append_cancel_right}
use Rattle.std.proofs.Math.Nat.{mul-le-mul_left, mod-lt, div-mul_cancel}
use Rattle.std.proofs.lemmas.List.Elements.{All-contains}
use Rattle.std.proofs.lemmas.Bool.{cases_eq}
use Rattle.std.proofs.lemmas.Nat.{div-add-mod'}
use Rattle.std.proofs.lemmas.Nat.Gcd.{dvd_of_mod-eq-zero}
use Rattle.std.specs.Int.{◌∣◌}
use Rattle.ht_word.specs.Words.{◌·◌, IsLetters, IsWordOf, IsUnder}
use Rattle.ht_word.specs.declared.shape.Shape.{Shape}
use Rattle.ht_word.specs.declared.word.Word.{Word}
use Rattle.ht_word.proofs.Deciding.{same_word_or_not}
use Rattle.ht_word.proofs.WordLaws.{after-append, after-nil, after_cancel, under_refl, under_after, word_rest}
use Rattle.ht_num.proofs.NumberLaws.{least_decided}
use Rattle.ht_pair.specs.Bases.{IsBasis}
use Rattle.ht_pair.specs.Kinds.{IsCycle, IsCycleWord}
use Rattle.ht_pair.specs.Pairs.{IsPair}
use Rattle.ht_pair.specs.SemiNormal.{CarriesUnder, StaysAhead, StaysBehind, IsSemiNormal}
use Rattle.ht_pair.specs.Steps.{Carries}
use Rattle.ht_pair.specs.declared.row.Row.{Row}
use Rattle.ht_pair.proofs.BasisLaws.{basis_single}
use Rattle.ht_pair.proofs.CarriesLaws.{carries_single, carries_word, carries_extends, carries_back, carries_rest, carries_sum, carries_itself}
use Rattle.ht_types.specs.CycleWords.{IsUnderCycle}

-- ---- words that a power leads back to

-- k steps lead from the prefix x to y and further letters
pub record CarriesFurther (shape : Shape) (p : List Row) (k : ℤ) (x y : Word) (z w : List ℕ) : Type 0 where
  pub letters : List ℕ
  pub carries : Carries shape p k x (y · letters)
  pub is : letters ++ z ≡ w

-- a word of X that k steps carry under X is carried so to the word of X to which they carry some word under it
pub carried_further : (shape : Shape) (p : List Row) → IsPair shape p → (X : List Word) → IsBasis shape X → (k : ℤ) (x y : Word) (z w : List ℕ) → Contains X y → IsLetters shape z → CarriesUnder shape p k x X → Carries shape p k (x · z) (y · w) → CarriesFurther shape p k x y z w
carried_further shape p pair X basis k x y z w c hz under carries =
    let above = under.under.above in
    let rest = under.under.under.rest in
    let to_is : under.to ≡ above · rest = under.under.under.is in
    let same : y · w ≡ above · (rest ++ z) = carries_single shape p pair k (x · z) (y · w) (under.to · z) carries (carries_extends shape p k x under.to z hz under.carries) ∙ ap (λ t. t · z) to_is ∙ after-append above rest z in
    let one : above ≡ y = basis_single shape X basis (y · w) above y under.under.listed c (record { rest = rest ++ z; is = same }) (under_after y w) in
    record {
      letters = rest;
      carries = subst (Carries shape p k x) (to_is ∙ ap (λ t. t · rest) one) under.carries;
      is = after_cancel y (rest ++ z) w (ap (λ t. t · (rest ++ z)) (sym one) ∙ sym same);
    }

-- where k steps lead from a word under x back to it, they lead from x back to x, if they carry x under X
back_to_top : (shape : Shape) (p : List Row) → IsPair shape p → (X : List Word) → IsBasis shape X → (k : ℤ) (x : Word) (z : List ℕ) → Contains X x → IsLetters shape z → CarriesUnder shape p k x X → Carries shape p k (x · z) (x · z) → Carries shape p k x x
back_to_top shape p pair X basis k x z c hz under carries =
    let f = carried_further shape p pair X basis k x x z z c hz under carries in
    subst (Carries shape p k x) (ap (λ t. x · t) (no_letters f.letters z f.is) ∙ after-nil x) f.carries
  where
    no_letters : (y z : List ℕ) → y ++ z ≡ z → y ≡ []
    no_letters y z e = append_cancel_right y [] z e

-- so they do in a semi-normal basis
periodic_top : (shape : Shape) (p : List Row) → IsPair shape p → (X : List Word) → IsSemiNormal shape p X → (k : ℕ) (x : Word) (z : List ℕ) → Contains X x → IsLetters shape z → Carries shape p (pos k) (x · z) (x · z) → Carries shape p (pos k) x x
periodic_top shape p pair X semi k x z c hz carries = elim (All-contains (λ t. StaysAhead shape p X t ⊎ StaysBehind shape p X t) X x semi.stays c) [
  | inl ahead ↦ back_to_top shape p pair X semi.basis (pos k) x z c hz (ahead k) carries
  | inr behind ↦
      let turned = carries_back shape p pair (pos k) (x · z) (x · z) carries in
      let twice : neg_ℤ (neg_ℤ (pos k)) ≡ pos k = omega (arith, ints) in
      subst (λ i. Carries shape p i x x) twice (carries_back shape p pair (neg_ℤ (pos k)) x x (back_to_top shape p pair X semi.basis (neg_ℤ (pos k)) x z c hz (behind k) turned))
]

-- ---- cycle words stay

-- k steps that lead back to x do so again and again
pub carries_round : (shape : Shape) (p : List Row) → IsPair shape p → (k : ℕ) (x : Word) → Carries shape p (pos k) x x → (j : ℕ) → Carries shape p (pos (j * k)) x x
carries_round shape p pair k x c zero = subst (λ i. Carries shape p (pos i) x x) (sym (zero-mul k)) (carries_itself shape p x c.word)
carries_round shape p pair k x c (suc j) = carries_sum shape p pair (pos k) (pos (j * k)) (pos (suc j * k)) (omega (arith, ints)) x x x c (carries_round shape p pair k x c j)

-- the length of a cycle divides each number of steps that leads back
pub length_divides : (shape : Shape) (p : List Row) → IsPair shape p → (x : Word) (m k : ℕ) → IsCycle shape p x m → Carries shape p (pos k) x x → m ∣ k
length_divides shape p pair x m k cycle carries = elim (cases_eq (k % m) 0) [
  | inl none ↦ dvd_of_mod-eq-zero m none
  | inr some ↦
      let sum : pos (k / m * m) +ℤ pos (k % m) ≡ pos k = ap pos (div-add-mod' k m) in
      absurd (cycle.least (k % m) (omega (arith, some)) (mod-lt k cycle.positive) (carries_rest shape p pair (pos (k / m * m)) (pos (k % m)) (pos k) sum x x x (carries_round shape p pair m x cycle.holds (k / m)) carries))
]

-- and each multiple of it does
pub multiple_carries : (shape : Shape) (p : List Row) → IsPair shape p → (x : Word) (m k : ℕ) → IsCycle shape p x m → m ∣ k → Carries shape p (pos k) x x
multiple_carries shape p pair x m k cycle divides = subst (λ i. Carries shape p (pos i) x x) (div-mul_cancel m divides) (carries_round shape p pair m x cycle.holds (k / m))

-- a word of a semi-normal basis that k steps lead back to itself stays ahead: if it stays behind, go round far enough first
returns_ahead : (shape : Shape) (p : List Row) → IsPair shape p → (X : List Word) → IsSemiNormal shape p X → (k : ℕ) (x : Word) → 1 ≤ k → Contains X x → Carries shape p (pos k) x x → StaysAhead shape p X x
returns_ahead shape p pair X semi k x positive c carries j = elim (All-contains (λ t. StaysAhead shape p X t ⊎ StaysBehind shape p X t) X x semi.stays c) [
  | inl ahead ↦ ahead j
  | inr behind ↦
      let u = behind (j * k - j) in
      let sum : pos (j * k) +ℤ neg_ℤ (pos (j * k - j)) ≡ pos j = omega (arith, ints, mul-le-mul_left j positive) in
      record { to = u.to; under = u.under; carries = carries_sum shape p pair (pos (j * k)) (neg_ℤ (pos (j * k - j))) (pos j) sum x x u.to (carries_round shape p pair k x carries j) u.carries }
]

-- and behind
returns_behind : (shape : Shape) (p : List Row) → IsPair shape p → (X : List Word) → IsSemiNormal shape p X → (k : ℕ) (x : Word) → 1 ≤ k → Contains X x → Carries shape p (pos k) x x → StaysBehind shape p X x
returns_behind shape p pair X semi k x positive c carries j = elim (All-contains (λ t. StaysAhead shape p X t ⊎ StaysBehind shape p X t) X x semi.stays c) [
  | inr behind ↦ behind j
  | inl ahead ↦
      let u = ahead (j * k - j) in
      let sum : neg_ℤ (pos (j * k)) +ℤ pos (j * k - j) ≡ neg_ℤ (pos j) = omega (arith, ints, mul-le-mul_left j positive) in
      record { to = u.to; under = u.under; carries = carries_sum shape p pair (neg_ℤ (pos (j * k))) (pos (j * k - j)) (neg_ℤ (pos j)) sum x x u.to (carries_back shape p pair (pos (j * k)) x x (carries_round shape p pair k x carries j)) u.carries }
]

-- a cycle word of a semi-normal basis stays ahead and behind
pub cycle_stays : (shape : Shape) (p : List Row) → IsPair shape p → (X : List Word) → IsSemiNormal shape p X → (x : Word) → Contains X x → IsCycleWord shape p x → StaysAhead shape p X x × StaysBehind shape p X x
cycle_stays shape p pair X semi x c (m, cycle) = (returns_ahead shape p pair X semi m x cycle.positive c cycle.holds, returns_behind shape p pair X semi m x cycle.positive c cycle.holds)

-- each power carries it under the basis
pub cycle_under : (shape : Shape) (p : List Row) → IsPair shape p → (X : List Word) → IsSemiNormal shape p X → (k : ℤ) (x : Word) → Contains X x → IsCycleWord shape p x → CarriesUnder shape p k x X
cycle_under shape p pair X semi (pos k) x c cycle = (cycle_stays shape p pair X semi x c cycle).0 k
cycle_under shape p pair X semi (negsuc k) x c cycle = (cycle_stays shape p pair X semi x c cycle).1 (suc k)

-- ---- periodic words are under cycle words

-- a word of a semi-normal basis to which some power from 1 on leads back is a cycle word: whether a power does is told from where it carries the word
pub returns_cycle : (shape : Shape) (p : List Row) → IsPair shape p → (X : List Word) → IsSemiNormal shape p X → (k : ℕ) (x : Word) → 1 ≤ k → Contains X x → Carries shape p (pos k) x x → IsCycleWord shape p x
returns_cycle shape p pair X semi k x positive c carries = least_decided (λ j. Carries shape p (pos j) x x) decided k positive carries
  where
    decided : (j : ℕ) → Carries shape p (pos j) x x ⊎ ¬ Carries shape p (pos j) x x
    decided j = let u = returns_ahead shape p pair X semi k x positive c carries j in elim (same_word_or_not u.to x) [
      | inl e ↦ inl (subst (Carries shape p (pos j) x) e u.carries)
      | inr n ↦ inr (λ h. n (carries_single shape p pair (pos j) x u.to x u.carries h))
    ]

-- where some power from 1 on leads back to a word under a word of a semi-normal basis, that word is a cycle word
pub periodic_word : (shape : Shape) (p : List Row) → IsPair shape p → (X : List Word) → IsSemiNormal shape p X → (k : ℕ) (u x : Word) → 1 ≤ k → Contains X x → IsUnder u x → Carries shape p (pos k) u u → IsCycleWord shape p x
periodic_word shape p pair X semi k u x positive c under carries =
    let z = under.rest in
    let hz = word_rest shape x z (subst (IsWordOf shape) under.is carries.word) in
    returns_cycle shape p pair X semi k x positive c (periodic_top shape p pair X semi k x z c hz (subst (λ t. Carries shape p (pos k) t t) under.is carries))

-- so it is where another power than that by 0 does
pub periodic_word_either : (shape : Shape) (p : List Row) → IsPair shape p → (X : List Word) → IsSemiNormal shape p X → (k : ℤ) (u x : Word) → k ≢ pos 0 → Contains X x → IsUnder u x → Carries shape p k u u → IsCycleWord shape p x
periodic_word_either shape p pair X semi (pos zero) u x some c under carries = absurd (some refl)
periodic_word_either shape p pair X semi (pos (suc k)) u x some c under carries = periodic_word shape p pair X semi (suc k) u x (omega arith) c under carries
periodic_word_either shape p pair X semi (negsuc k) u x some c under carries = periodic_word shape p pair X semi (suc k) u x (omega arith) c under (carries_back shape p pair (negsuc k) u u carries)

-- ---- cycle words lead to cycle words

-- k steps from u to v take each number of steps that leads back to u to v
round_moved : (shape : Shape) (p : List Row) → IsPair shape p → (k i : ℤ) (u v : Word) → Carries shape p k u v → Carries shape p i u u → Carries shape p i v v
round_moved shape p pair k i u v carries round =
    let there = carries_sum shape p pair i k (k +ℤ i) (omega (arith, ints)) u u v round carries in
    carries_rest shape p pair k i (k +ℤ i) refl u v v carries there

-- what k steps lead to from under a cycle word is under a cycle word
pub cycle_kept : (shape : Shape) (p : List Row) → IsPair shape p → (X : List Word) → IsSemiNormal shape p X → (k : ℤ) (u v x y : Word) → Contains X x → Contains X y → IsUnder u x → IsUnder v y → Carries shape p k u v → IsCycleWord shape p x → IsCycleWord shape p y
cycle_kept shape p pair X semi k u v x y c e under_x under_y carries (m, cycle) =
    let z = under_x.rest in
    let hz = word_rest shape x z (subst (IsWordOf shape) under_x.is carries.word) in
    let round : Carries shape p (pos m) u u = subst (λ t. Carries shape p (pos m) t t) (sym under_x.is) (carries_extends shape p (pos m) x x z hz cycle.holds) in
    periodic_word shape p pair X semi m v y cycle.positive e under_y (round_moved shape p pair k (pos m) u v carries round)

-- a word that steps lead to from a cycle word is one with the same number
pub cycle_moved : (shape : Shape) (p : List Row) → IsPair shape p → (k : ℤ) (x y : Word) (m : ℕ) → Carries shape p k x y → IsCycle shape p x m → IsCycle shape p y m
cycle_moved shape p pair k x y m carries cycle = record {
  positive = cycle.positive;
  holds = round_moved shape p pair k (pos m) x y carries cycle.holds;
  least = λ j low high round. cycle.least j low high (round_moved shape p pair (neg_ℤ k) (pos j) y x (carries_back shape p pair k x y carries) round);
}

-- a word of X, on the cycle of x, to which k steps lead from x
pub record IsOnCycle (shape : Shape) (p : List Row) (X : List Word) (x : Word) (m : ℕ) (k : ℤ) : Type 0 where
  pub word : Word
  pub listed : Contains X word
  pub carries : Carries shape p k x word
  pub cycle : IsCycle shape p word m

-- steps ahead and back lead from a cycle word of a semi-normal basis to such a word, with no letters behind it
pub cycle_around : (shape : Shape) (p : List Row) → IsPair shape p → (X : List Word) → IsSemiNormal shape p X → (k : ℤ) (x : Word) (m : ℕ) → Contains X x → IsCycle shape p x m → IsOnCycle shape p X x m k
cycle_around shape p pair X semi k x m c cycle =
    let u = cycle_under shape p pair X semi k x c (m, cycle) in
    let y = u.under.above in
    let z = u.under.under.rest in
    let there : Carries shape p k x (y · z) = subst (Carries shape p k x) u.under.under.is u.carries in
    let hz = word_rest shape y z (carries_word shape p pair k x (y · z) there) in
    let other = cycle_kept shape p pair X semi k x (y · z) x y c u.under.listed (under_refl x) (under_after y z) there (m, cycle) in
    let back : Carries shape p (neg_ℤ k) (y · z) (x · []) = subst (Carries shape p (neg_ℤ k) (y · z)) (sym (after-nil x)) (carries_back shape p pair k x (y · z) there) in
    let f = carried_further shape p pair X semi.basis (neg_ℤ k) y x z [] c hz (cycle_under shape p pair X semi (neg_ℤ k) y u.under.listed other) back in
    let exact : Carries shape p k x y = subst (Carries shape p k x) (ap (λ t. y · t) (no_letters f.letters z f.is) ∙ after-nil y) there in
    record { word = y; listed = u.under.listed; carries = exact; cycle = cycle_moved shape p pair k x y m exact cycle }
  where
    no_letters : (y z : List ℕ) → y ++ z ≡ [] → z ≡ []
    no_letters [] z e = e
    no_letters (a ∷ y) z e = cc

-- one step leads from a cycle word of a semi-normal basis to a cycle word of it with the same number
pub cycle_next : (shape : Shape) (p : List Row) → IsPair shape p → (X : List Word) → IsSemiNormal shape p X → (x : Word) (m : ℕ) → Contains X x → IsCycle shape p x m → IsOnCycle shape p X x m (pos 1)
cycle_next shape p pair X semi x m c cycle = cycle_around shape p pair X semi (pos 1) x m c cycle

-- and from one to it
pub cycle_before : (shape : Shape) (p : List Row) → IsPair shape p → (X : List Word) → IsSemiNormal shape p X → (x : Word) (m : ℕ) → Contains X x → IsCycle shape p x m → (z : Word) × Contains X z × Carries shape p (pos 1) z x × IsCycle shape p z m
cycle_before shape p pair X semi x m c cycle = let f = cycle_around shape p pair X semi (negsuc 0) x m c cycle in (f.word, f.listed, carries_back shape p pair (negsuc 0) x f.word f.carries, f.cycle)

-- ---- words under cycle words

-- k steps lead from a word under a cycle word to one under a word of the same cycle, with the same letters behind it
pub under_cycle_moved : (shape : Shape) (p : List Row) → IsPair shape p → (X : List Word) → IsSemiNormal shape p X → (k : ℤ) (u : Word) (m : ℕ) → IsWordOf shape u → (c : IsUnderCycle shape p X u m) → (on : IsOnCycle shape p X c.above m k) × Carries shape p k u (on.word · c.under.rest)
under_cycle_moved shape p pair X semi k u m word c =
    let z = c.under.rest in
    let hz = word_rest shape c.above z (subst (IsWordOf shape) c.under.is word) in
    let on = cycle_around shape p pair X semi k c.above m c.listed c.cycle in
    (on, subst (λ t. Carries shape p k t (on.word · z)) (sym c.under.is) (carries_extends shape p k c.above on.word z hz on.carries))

-- and as many steps as the cycle is long lead back to it
pub under_cycle_home : (shape : Shape) (p : List Row) (X : List Word) (u : Word) (m : ℕ) → IsWordOf shape u → IsUnderCycle shape p X u m → Carries shape p (pos m) u u
under_cycle_home shape p X u m word c =
    let z = c.under.rest in
    let hz = word_rest shape c.above z (subst (IsWordOf shape) c.under.is word) in
    subst (λ t. Carries shape p (pos m) t t) (sym c.under.is) (carries_extends shape p (pos m) c.above c.above z hz c.cycle.holds)
