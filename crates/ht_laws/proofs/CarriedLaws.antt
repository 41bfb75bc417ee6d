-- What is said of an element by the words that its powers carry is the same for pairs that move words alike.
use Rattle.std.proofs.Common.{ℕ, zero, suc, inl, inr, List, Contains, ℤ, pos, neg_ℤ, ◌↔◌, Option, None, Some}
use Rattle.std.proofs.lemmas.List.Elements.{All-contains}
use Rattle.ht_word.specs.Words.{◌·◌, root_word}
use Rattle.ht_word.specs.declared.shape.Shape.{Shape}
use Rattle.ht_word.specs.declared.word.Word.{Word}
use Rattle.ht_word.proofs.WordLaws.{All-from_contains}
use Rattle.ht_num.specs.Numbers.{IsLeastPositive}
use Rattle.ht_num.proofs.NumberLaws.{least_multiple_same, least_same}
use Rattle.ht_pair.specs.Actions.{Alike}
use Rattle.ht_pair.specs.Addresses.{BelongTogether, IsAddress}
use Rattle.ht_pair.specs.Atoms.{IsInfiniteWord, AreJoined, AreLinked, IsAtom}
use Rattle.ht_pair.specs.Images.{Entry, IsImage}
use Rattle.ht_pair.specs.Kinds.{IsCycle, Lengthens, IsAttractor, IsRepeller, IsCycleWord, IsAttractorWord, IsRepellerWord, IsPassing}
use Rattle.ht_pair.specs.Orbits.{IsPond}
use Rattle.ht_pair.specs.Orders.{FixesRoots, IsOrder, HasInfiniteOrder, IsPeriodicOrder}
use Rattle.ht_pair.specs.Pairs.{IsPair}
use Rattle.ht_pair.specs.Parts.{IsSelected, IsPeriodicPart, IsInfinitePart}
use Rattle.ht_pair.specs.Profiles.{HasCycles, IsProfile}
use Rattle.ht_pair.specs.Reaches.{CarriesUnderSuch, IsReachAhead, IsReachBehind, HasAhead, HasBehind}
use Rattle.ht_pair.specs.SemiNormal.{CarriesUnder, StaysAhead, StaysBehind}
use Rattle.ht_pair.specs.Steps.{Carries}
use Rattle.ht_pair.specs.declared.row.Row.{Row}
use Rattle.ht_pair.proofs.AlikeLaws.{alike_refl, alike_sym}
use Rattle.ht_pair.proofs.AlikePowerLaws.{carries_alike}
use Rattle.ht_pair.proofs.CarriesLaws.{carries_single}
use Rattle.ht_laws.proofs.PrefixLaws.{moves_carries}

-- two pairs that move words alike
pub record AreAlike (shape : Shape) (p q : List Row) : Type 0 where
  pub first : IsPair shape p
  pub second : IsPair shape q
  pub alike : Alike shape p q

-- the other way round
pub other_way : (shape : Shape) (p q : List Row) → AreAlike shape p q → AreAlike shape q p
other_way shape p q pairs = record { first = pairs.second; second = pairs.first; alike = alike_sym shape p q pairs.alike }

-- a pair and itself
pub with_itself : (shape : Shape) (p : List Row) → IsPair shape p → AreAlike shape p p
with_itself shape p pair = record { first = pair; second = pair; alike = alike_refl shape p pair }

-- what the powers of p carry, those of each pair alike p carry
pub carries_there : (shape : Shape) (p q : List Row) → AreAlike shape p q → (k : ℤ) (u v : Word) → Carries shape p k u v → Carries shape q k u v
carries_there shape p q pairs = carries_alike shape p q pairs.first pairs.second pairs.alike

-- pairs of which one carries words as the other does are alike
pub alike_from_carries : (shape : Shape) (p q : List Row) → IsPair shape p → IsPair shape q → ((u v : Word) → Carries shape p (pos 1) u v → Carries shape q (pos 1) u v) → Alike shape p q
alike_from_carries shape p q pair_p pair_q carried = λ u v v' word f g. carries_single shape q pair_q (pos 1) u v v' (carried u v (moves_carries shape p u v pair_p word f)) (moves_carries shape q u v' pair_q word g)

-- what each pair passes on to each pair alike to it is the same for alike pairs
pub same_of_alike : (shape : Shape) (P : List Row → Type 0) → ((p q : List Row) → AreAlike shape p q → P p → P q) → (p q : List Row) → IsPair shape p → IsPair shape q → Alike shape p q → P p ↔ P q
same_of_alike shape P passed p q pair_p pair_q alike =
    let pairs : AreAlike shape p q = record { first = pair_p; second = pair_q; alike = alike } in
    (passed p q pairs, passed q p (other_way shape p q pairs))

-- ---- kinds

-- a cycle word is one of the same period
pub cycle_alike : (shape : Shape) (p q : List Row) → AreAlike shape p q → (x : Word) (m : ℕ) → IsCycle shape p x m → IsCycle shape q x m
cycle_alike shape p q pairs x m = least_same (λ k. Carries shape p (pos k) x x) (λ k. Carries shape q (pos k) x x) (λ k. carries_there shape p q pairs (pos k) x x) (λ k. carries_there shape q p (other_way shape p q pairs) (pos k) x x) m

-- a word that a power lengthens is lengthened by the same letters
lengthens_alike : (shape : Shape) (p q : List Row) → AreAlike shape p q → (k : ℤ) (x : Word) (z : List ℕ) → Lengthens shape p k x z → Lengthens shape q k x z
lengthens_alike shape p q pairs k x z h = (h.0, carries_there shape p q pairs k x (x · z) h.1)

-- of powers in some order, the first that lengthens a word is the same
first_lengthened_alike : (shape : Shape) (p q : List Row) → AreAlike shape p q → (power : ℕ → ℤ) (x : Word) (m : ℕ) → IsLeastPositive (λ k. (z : List ℕ) × Lengthens shape p (power k) x z) m → IsLeastPositive (λ k. (z : List ℕ) × Lengthens shape q (power k) x z) m
first_lengthened_alike shape p q pairs power x m = least_same (λ k. (z : List ℕ) × Lengthens shape p (power k) x z) (λ k. (z : List ℕ) × Lengthens shape q (power k) x z)
    (λ k l. (l.0, lengthens_alike shape p q pairs (power k) x l.0 l.1))
    (λ k l. (l.0, lengthens_alike shape q p (other_way shape p q pairs) (power k) x l.0 l.1))
    m

-- an attractor is one of the same period and letters
pub attractor_alike : (shape : Shape) (p q : List Row) → AreAlike shape p q → (x : Word) (m : ℕ) (z : List ℕ) → IsAttractor shape p x m z → IsAttractor shape q x m z
attractor_alike shape p q pairs x m z h = record { lengthens = lengthens_alike shape p q pairs (pos m) x z h.lengthens; first = first_lengthened_alike shape p q pairs (λ k. pos k) x m h.first }

-- so is a repeller
pub repeller_alike : (shape : Shape) (p q : List Row) → AreAlike shape p q → (x : Word) (m : ℕ) (z : List ℕ) → IsRepeller shape p x m z → IsRepeller shape q x m z
repeller_alike shape p q pairs x m z h = record { lengthens = lengthens_alike shape p q pairs (neg_ℤ (pos m)) x z h.lengthens; first = first_lengthened_alike shape p q pairs (λ k. neg_ℤ (pos k)) x m h.first }

-- a cycle word is one for both
cycle_word_alike : (shape : Shape) (p q : List Row) → AreAlike shape p q → (x : Word) → IsCycleWord shape p x → IsCycleWord shape q x
cycle_word_alike shape p q pairs x h = (h.0, cycle_alike shape p q pairs x h.0 h.1)

-- so is an attractor
pub attractor_word_alike : (shape : Shape) (p q : List Row) → AreAlike shape p q → (x : Word) → IsAttractorWord shape p x → IsAttractorWord shape q x
attractor_word_alike shape p q pairs x h = (h.0, h.1, attractor_alike shape p q pairs x h.0 h.1 h.2)

-- so is a repeller
repeller_word_alike : (shape : Shape) (p q : List Row) → AreAlike shape p q → (x : Word) → IsRepellerWord shape p x → IsRepellerWord shape q x
repeller_word_alike shape p q pairs x h = (h.0, h.1, repeller_alike shape p q pairs x h.0 h.1 h.2)

-- and a passing word
pub passing_alike : (shape : Shape) (p q : List Row) → AreAlike shape p q → (x : Word) → IsPassing shape p x → IsPassing shape q x
passing_alike shape p q pairs x h =
    let other = other_way shape p q pairs in
    ((λ c. h.0 (cycle_word_alike shape q p other x c)), (λ a. h.1 (attractor_word_alike shape q p other x a)), (λ r. h.2 (repeller_word_alike shape q p other x r)))

-- ---- reaches

-- a word that a power carries under X is carried there by both
pub under_alike : (shape : Shape) (p q : List Row) → AreAlike shape p q → (k : ℤ) (u : Word) (X : List Word) → CarriesUnder shape p k u X → CarriesUnder shape q k u X
under_alike shape p q pairs k u X h = record { to = h.to; carries = carries_there shape p q pairs k u h.to h.carries; under = h.under }

-- a word stays ahead for both
stays_ahead_alike : (shape : Shape) (p q : List Row) → AreAlike shape p q → (X : List Word) (x : Word) → StaysAhead shape p X x → StaysAhead shape q X x
stays_ahead_alike shape p q pairs X x h = λ k. under_alike shape p q pairs (pos k) x X (h k)

-- or stays behind for both
stays_behind_alike : (shape : Shape) (p q : List Row) → AreAlike shape p q → (X : List Word) (x : Word) → StaysBehind shape p X x → StaysBehind shape q X x
stays_behind_alike shape p q pairs X x h = λ k. under_alike shape p q pairs (neg_ℤ (pos k)) x X (h k)

-- a word that a power carries under a word with a property is carried there by both
under_such_alike : (shape : Shape) (p q : List Row) → AreAlike shape p q → (P Q : Word → Type 0) → ((x : Word) → P x → Q x) → (X : List Word) (k : ℤ) (u v : Word) → CarriesUnderSuch shape p P X k u v → CarriesUnderSuch shape q Q X k u v
under_such_alike shape p q pairs P Q such X k u v h = record { above = h.above; listed = h.listed; such = such h.above h.such; carries = carries_there shape p q pairs k u v h.carries; under = h.under }

-- of powers in some order, the first that carries under a word with a property is the same
first_under_alike : (shape : Shape) (p q : List Row) → AreAlike shape p q → (P Q : Word → Type 0) → ((x : Word) → P x → Q x) → ((x : Word) → Q x → P x) → (X : List Word) (power : ℕ → ℤ) (x : Word) (k : ℕ)
    → IsLeastPositive (λ j. (w : Word) × CarriesUnderSuch shape p P X (power j) x w) k → IsLeastPositive (λ j. (w : Word) × CarriesUnderSuch shape q Q X (power j) x w) k
first_under_alike shape p q pairs P Q such back X power x k = least_same (λ j. (w : Word) × CarriesUnderSuch shape p P X (power j) x w) (λ j. (w : Word) × CarriesUnderSuch shape q Q X (power j) x w)
    (λ j h. (h.0, under_such_alike shape p q pairs P Q such X (power j) x h.0 h.1))
    (λ j h. (h.0, under_such_alike shape q p (other_way shape p q pairs) Q P back X (power j) x h.0 h.1))
    k

-- the reach ahead is the same
reach_ahead_alike : (shape : Shape) (p q : List Row) → AreAlike shape p q → (X : List Word) (x : Word) (k : ℕ) (v : Word) → IsReachAhead shape p X x k v → IsReachAhead shape q X x k v
reach_ahead_alike shape p q pairs X x k v h =
    let such = attractor_word_alike shape p q pairs in
    let back = attractor_word_alike shape q p (other_way shape p q pairs) in
    record {
      reached = under_such_alike shape p q pairs (IsAttractorWord shape p) (IsAttractorWord shape q) such X (pos k) x v h.reached;
      first = first_under_alike shape p q pairs (IsAttractorWord shape p) (IsAttractorWord shape q) such back X (λ j. pos j) x k h.first;
    }

-- the reach behind is the same
reach_behind_alike : (shape : Shape) (p q : List Row) → AreAlike shape p q → (X : List Word) (x : Word) (k : ℕ) (v : Word) → IsReachBehind shape p X x k v → IsReachBehind shape q X x k v
reach_behind_alike shape p q pairs X x k v h =
    let such = repeller_word_alike shape p q pairs in
    let back = repeller_word_alike shape q p (other_way shape p q pairs) in
    record {
      reached = under_such_alike shape p q pairs (IsRepellerWord shape p) (IsRepellerWord shape q) such X (neg_ℤ (pos k)) x v h.reached;
      first = first_under_alike shape p q pairs (IsRepellerWord shape p) (IsRepellerWord shape q) such back X (λ j. neg_ℤ (pos j)) x k h.first;
    }

-- and so is whether there is a reach ahead
pub ahead_alike : (shape : Shape) (p q : List Row) → AreAlike shape p q → (X : List Word) (x : Word) (reach : Option (ℕ × Word)) → HasAhead shape p X x reach → HasAhead shape q X x reach
ahead_alike shape p q pairs X x None h = λ stays. h (stays_ahead_alike shape q p (other_way shape p q pairs) X x stays)
ahead_alike shape p q pairs X x (Some reach) h = (stays_ahead_alike shape p q pairs X x h.0, reach_ahead_alike shape p q pairs X x reach.0 reach.1 h.1)

-- or behind
pub behind_alike : (shape : Shape) (p q : List Row) → AreAlike shape p q → (X : List Word) (x : Word) (reach : Option (ℕ × Word)) → HasBehind shape p X x reach → HasBehind shape q X x reach
behind_alike shape p q pairs X x None h = λ stays. h (stays_behind_alike shape q p (other_way shape p q pairs) X x stays)
behind_alike shape p q pairs X x (Some reach) h = (stays_behind_alike shape p q pairs X x h.0, reach_behind_alike shape p q pairs X x reach.0 reach.1 h.1)

-- ---- parts and profiles

-- words with the same properties are selected alike
pub selected_alike : (P Q : Word → Type 0) → ((x : Word) → P x → Q x) → ((x : Word) → Q x → P x) → (X W : List Word) → IsSelected P X W → IsSelected Q X W
selected_alike P Q to from X W h = record {
  ascending = h.ascending;
  same = λ x. ((λ c. let g = (h.same x).0 c in (g.0, to x g.1)), (λ g. (h.same x).1 (g.0, from x g.1)));
}

-- the periodic part is the same
pub periodic_alike : (shape : Shape) (p q : List Row) → AreAlike shape p q → (X W : List Word) → IsPeriodicPart shape p X W → IsPeriodicPart shape q X W
periodic_alike shape p q pairs = selected_alike (IsCycleWord shape p) (IsCycleWord shape q) (cycle_word_alike shape p q pairs) (cycle_word_alike shape q p (other_way shape p q pairs))

-- a word that is no cycle word of p is none of q
no_cycle_alike : (shape : Shape) (p q : List Row) → AreAlike shape p q → (x : Word) → ¬ IsCycleWord shape p x → ¬ IsCycleWord shape q x
no_cycle_alike shape p q pairs x none c = none (cycle_word_alike shape q p (other_way shape p q pairs) x c)

-- the infinite part is the same
pub infinite_alike : (shape : Shape) (p q : List Row) → AreAlike shape p q → (X W : List Word) → IsInfinitePart shape p X W → IsInfinitePart shape q X W
infinite_alike shape p q pairs = selected_alike (λ x. ¬ IsCycleWord shape p x) (λ x. ¬ IsCycleWord shape q x) (no_cycle_alike shape p q pairs) (no_cycle_alike shape q p (other_way shape p q pairs))

-- the cycles of each length are as many
cycles_alike : (shape : Shape) (p q : List Row) → AreAlike shape p q → (X : List Word) (m c : ℕ) → HasCycles shape p X m c → HasCycles shape q X m c
cycles_alike shape p q pairs X m c h = record {
  cycle_words = h.cycle_words;
  selected = selected_alike (λ x. IsCycle shape p x m) (λ x. IsCycle shape q x m) (λ x. cycle_alike shape p q pairs x m) (λ x. cycle_alike shape q p (other_way shape p q pairs) x m) X h.cycle_words h.selected;
  some = h.some;
  count = h.count;
}

-- the profile is the same
pub profile_alike : (shape : Shape) (p q : List Row) → AreAlike shape p q → (X : List Word) (profile : List (ℕ × ℕ)) → IsProfile shape p X profile → IsProfile shape q X profile
profile_alike shape p q pairs X profile h = record {
  ascending = h.ascending;
  same = λ m c. ((λ l. cycles_alike shape p q pairs X m c ((h.same m c).0 l)), (λ g. (h.same m c).1 (cycles_alike shape q p (other_way shape p q pairs) X m c g)));
}

-- ---- orders

-- the powers that fix the roots are the same
fixes_alike : (shape : Shape) (p q : List Row) → AreAlike shape p q → (k : ℕ) → FixesRoots shape p k → FixesRoots shape q k
fixes_alike shape p q pairs k h = λ root low high. carries_there shape p q pairs (pos k) (root_word root) (root_word root) (h root low high)

-- the order is the same
pub order_alike : (shape : Shape) (p q : List Row) → AreAlike shape p q → (k : ℕ) → IsOrder shape p k → IsOrder shape q k
order_alike shape p q pairs = least_same (FixesRoots shape p) (FixesRoots shape q) (fixes_alike shape p q pairs) (fixes_alike shape q p (other_way shape p q pairs))

-- an infinite order is one for both
pub infinite_order_alike : (shape : Shape) (p q : List Row) → AreAlike shape p q → HasInfiniteOrder shape p → HasInfiniteOrder shape q
infinite_order_alike shape p q pairs h = λ k low fixed. h k low (fixes_alike shape q p (other_way shape p q pairs) k fixed)

-- the lengths of the cycles in a list are the same
length_alike : (shape : Shape) (p q : List Row) → AreAlike shape p q → (X : List Word) (m : ℕ) → (x : Word) × Contains X x × IsCycle shape p x m → (x : Word) × Contains X x × IsCycle shape q x m
length_alike shape p q pairs X m (x, c, cycle) = (x, c, cycle_alike shape p q pairs x m cycle)

-- the periodic order is the same
pub periodic_order_alike : (shape : Shape) (p q : List Row) → AreAlike shape p q → (X : List Word) (k : ℕ) → IsPeriodicOrder shape p X k → IsPeriodicOrder shape q X k
periodic_order_alike shape p q pairs X k = least_multiple_same (λ m. (length_alike shape p q pairs X m, length_alike shape q p (other_way shape p q pairs) X m))

-- ---- orbits, ponds, addresses and atoms

-- the ponds are the same
pub pond_alike : (shape : Shape) (p q : List Row) → AreAlike shape p q → (X : List Word) (u v : Word) (k : ℕ) → IsPond shape p X u k v → IsPond shape q X u k v
pond_alike shape p q pairs X u v k h =
    let other = other_way shape p q pairs in
    record {
      under = h.under;
      leaves = λ c. h.leaves (under_alike shape q p other (pos 1) u X c);
      first = least_same (λ j. CarriesUnder shape p (pos j) u X) (λ j. CarriesUnder shape q (pos j) u X) (λ j. under_alike shape p q pairs (pos j) u X) (λ j. under_alike shape q p other (pos j) u X) k h.first;
      carries = carries_there shape p q pairs (pos k) u v h.carries;
      returns = h.returns;
    }

-- attractors belong together for both
together_alike : (shape : Shape) (p q : List Row) → AreAlike shape p q → (x y : Word) → BelongTogether shape p x y → BelongTogether shape q x y
together_alike shape p q pairs x y h = record { steps = h.steps; to = h.to; carries = carries_there shape p q pairs h.steps x h.to h.carries; under = h.under }

-- the addresses are the same
pub address_alike : (shape : Shape) (p q : List Row) → AreAlike shape p q → (X : List Word) (u x : Word) (z : List ℕ) (k : ℤ) → IsAddress shape p X u x z k → IsAddress shape q X u x z k
address_alike shape p q pairs X u x z k h =
    let other = other_way shape p q pairs in
    record {
      listed = h.listed;
      steps = h.steps;
      by = h.by;
      attractor = attractor_alike shape p q pairs x h.steps h.by h.attractor;
      least = λ y c a t. h.least y c (attractor_word_alike shape q p other y a) (together_alike shape q p other x y t);
      carries = carries_there shape p q pairs k u (x · z) h.carries;
      short = h.short;
    }

-- a word of the infinite part is one for both
infinite_word_alike : (shape : Shape) (p q : List Row) → AreAlike shape p q → (X : List Word) (x : Word) → IsInfiniteWord shape p X x → IsInfiniteWord shape q X x
infinite_word_alike shape p q pairs X x h = (h.0, no_cycle_alike shape p q pairs x h.1)

-- words are joined for both
joined_alike : (shape : Shape) (p q : List Row) → AreAlike shape p q → (x y : Word) → AreJoined shape p x y → AreJoined shape q x y
joined_alike shape p q pairs x y h = record { from = h.from; to = h.to; under_first = h.under_first; carries = carries_there shape p q pairs (pos 1) h.from h.to h.carries; under_second = h.under_second }

-- chains of joined words are the same
linked_alike : (shape : Shape) (p q : List Row) → AreAlike shape p q → (X : List Word) (k : ℕ) (x y : Word) → AreLinked shape p X k x y → AreLinked shape q X k x y
linked_alike shape p q pairs X zero x y h = h
linked_alike shape p q pairs X (suc k) x y h = (
  h.0,
  linked_alike shape p q pairs X k x h.0 h.1,
  infinite_word_alike shape p q pairs X y h.2,
  elim h.3 [
    | inl first ↦ inl (joined_alike shape p q pairs h.0 y first)
    | inr second ↦ inr (joined_alike shape p q pairs y h.0 second)
  ],
)

-- the atoms are the same
pub atom_alike : (shape : Shape) (p q : List Row) → AreAlike shape p q → (X : List Word) (places : List ℕ) → IsAtom shape p X places → IsAtom shape q X places
atom_alike shape p q pairs X places h = record {
  start = h.start;
  infinite = infinite_word_alike shape p q pairs X h.start h.infinite;
  ascending = h.ascending;
  same = λ k. (
    (λ c. let g = (h.same k).0 c in (g.0, g.1, g.2, linked_alike shape p q pairs X g.2 h.start g.0 g.3)),
    (λ g. (h.same k).1 (g.0, g.1, g.2, linked_alike shape q p (other_way shape p q pairs) X g.2 h.start g.0 g.3)),
  );
}

-- ---- images

-- the image of a word is the same
pub image_alike : (shape : Shape) (p q : List Row) → AreAlike shape p q → (k : ℤ) (u : Word) (L : List Entry) → IsImage shape p k u L → IsImage shape q k u L
image_alike shape p q pairs k u L h = record {
  order = h.order;
  covers = h.covers;
  carries = All-from_contains (λ (e : Entry). Carries shape q k (u · e.letters) e.word) L (λ e c. carries_there shape p q pairs k (u · e.letters) e.word (All-contains (λ (d : Entry). Carries shape p k (u · d.letters) d.word) L e h.carries c));
  merged = h.merged;
}
