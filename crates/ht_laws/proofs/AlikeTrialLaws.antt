-- Trials of the power rule: what one tells of two pairs, it tells of each two that move words alike, and it tells one thing.
use Rattle.std.proofs.Common.{◌≡◌, ℕ, inl, inr, List, [], ◌∷◌, ℤ, pos}
use Rattle.ht_word.specs.declared.shape.Shape.{Shape}
use Rattle.ht_num.specs.Chains.{chain}
use Rattle.ht_pair.specs.Conjugacy.{AreConjugate, Conjugates}
use Rattle.ht_pair.specs.Pairs.{IsPair}
use Rattle.ht_pair.specs.PowerSizes.{Sign, Plus, signed, IsFirstLarge, NoneLarge}
use Rattle.ht_pair.specs.PowerTrials.{IsPrinted, TrialIsLarge, TrialCompares}
use Rattle.ht_pair.specs.Products.{IsPower}
use Rattle.ht_pair.specs.Sizes.{IsLarge}
use Rattle.ht_pair.specs.declared.row.Row.{Row}
use Rattle.ht_pair.proofs.AlikeLaws.{alike_refl}
use Rattle.ht_pair.proofs.PowerLaws.{power_of_alike, power_once}
use Rattle.ht_pair.proofs.SizeLaws.{large_alike, size_once}
use Rattle.ht_laws.proofs.CarriedLaws.{AreAlike, other_way}
use Rattle.ht_laws.proofs.ConjugatorLaws.{conjugates_of_alike}

-- ---- large powers

-- the first large power is that of each alike pair
pub first_large_alike : (shape : Shape) (p q : List Row) → AreAlike shape p q → (sign : Sign) (ks : List ℕ) (rows letters : ℕ) → IsFirstLarge shape p sign ks rows letters → IsFirstLarge shape q sign ks rows letters
first_large_alike shape p q h sign [] rows letters first = first
first_large_alike shape p q h sign (k ∷ ks) rows letters first = (
  first.0,
  power_of_alike shape p q first.0 (signed sign k) h.first h.second h.alike first.1,
  elim first.2 [
    | inl large ↦ inl large
    | inr rest ↦ inr (rest.0, first_large_alike shape p q h sign ks rows letters rest.1)
  ],
)

-- so no power of it is large, where none of the other is
pub none_large_alike : (shape : Shape) (p q : List Row) → AreAlike shape p q → (sign : Sign) (k : ℕ) → NoneLarge shape p sign k → NoneLarge shape q sign k
none_large_alike shape p q h sign k none = λ i j large. none i j (first_large_alike shape q p (other_way shape p q h) sign (chain k) i j large)

-- what is large has one size
pub large_once : (shape : Shape) (p : List Row) (rows letters i j : ℕ) → IsPair shape p → IsLarge shape p rows letters → IsLarge shape p i j → (rows ≡ i) × (letters ≡ j)
large_once shape p rows letters i j pair h g = size_once shape p rows letters i j pair h.0 g.0

-- the first large power has one size
pub first_large_once : (shape : Shape) (p : List Row) → IsPair shape p → (sign : Sign) (ks : List ℕ) (rows letters i j : ℕ) → IsFirstLarge shape p sign ks rows letters → IsFirstLarge shape p sign ks i j → (rows ≡ i) × (letters ≡ j)
first_large_once shape p pair sign [] rows letters i j h g = absurd h
first_large_once shape p pair sign (k ∷ ks) rows letters i j h g =
    let there : AreAlike shape h.0 g.0 = record { first = h.1.pair; second = g.1.pair; alike = power_once shape p h.0 g.0 (signed sign k) pair h.1 g.1 } in
    let back = other_way shape h.0 g.0 there in
    elim h.2 [
      | inl large ↦ elim g.2 [
        | inl other ↦ large_once shape g.0 rows letters i j g.1.pair (large_alike shape h.0 g.0 rows letters there.first there.second there.alike large) other
        | inr later ↦ absurd (later.0 rows letters (large_alike shape h.0 g.0 rows letters there.first there.second there.alike large))
      ]
      | inr rest ↦ elim g.2 [
        | inl other ↦ absurd (rest.0 i j (large_alike shape g.0 h.0 i j back.first back.second back.alike other))
        | inr later ↦ first_large_once shape p pair sign ks rows letters i j rest.1 later.1
      ]
    ]

-- ---- trials

-- a large trial is one of alike pairs
pub trial_large_alike : (shape : Shape) (a b c d : List Row) → AreAlike shape a c → AreAlike shape b d → (sign : Sign) (i j rows letters : ℕ) → TrialIsLarge shape a b sign i j rows letters → TrialIsLarge shape c d sign i j rows letters
trial_large_alike shape a b c d first second sign i j rows letters (TrialIsLarge.first_large h) = TrialIsLarge.first_large (first_large_alike shape a c first Plus (chain i) rows letters h)
trial_large_alike shape a b c d first second sign i j rows letters (TrialIsLarge.second_large none h) = TrialIsLarge.second_large (none_large_alike shape a c first Plus i none) (first_large_alike shape b d second sign (chain j) rows letters h)

-- so are the powers that are compared
pub compares_alike : (shape : Shape) (a b c d : List Row) → AreAlike shape a c → AreAlike shape b d → (sign : Sign) (i j : ℕ) (f g : List Row) → TrialCompares shape a b sign i j f g → TrialCompares shape c d sign i j f g
compares_alike shape a b c d first second sign i j f g h = record {
  first_small = none_large_alike shape a c first Plus i h.first_small;
  second_small = none_large_alike shape b d second sign j h.second_small;
  first_power = power_of_alike shape a c f (pos i) first.first first.second first.alike h.first_power;
  second_power = power_of_alike shape b d g (signed sign j) second.first second.second second.alike h.second_power;
}

-- a large trial has one size
pub trial_large_once : (shape : Shape) (a b : List Row) → IsPair shape a → IsPair shape b → (sign : Sign) (i j rows letters k l : ℕ) → TrialIsLarge shape a b sign i j rows letters → TrialIsLarge shape a b sign i j k l → (rows ≡ k) × (letters ≡ l)
trial_large_once shape a b pair_a pair_b sign i j rows letters k l (TrialIsLarge.first_large h) (TrialIsLarge.first_large g) = first_large_once shape a pair_a Plus (chain i) rows letters k l h g
trial_large_once shape a b pair_a pair_b sign i j rows letters k l (TrialIsLarge.first_large h) (TrialIsLarge.second_large none g) = absurd (none rows letters h)
trial_large_once shape a b pair_a pair_b sign i j rows letters k l (TrialIsLarge.second_large none h) (TrialIsLarge.first_large g) = absurd (none k l g)
trial_large_once shape a b pair_a pair_b sign i j rows letters k l (TrialIsLarge.second_large none h) (TrialIsLarge.second_large other g) = first_large_once shape b pair_b sign (chain j) rows letters k l h g

-- and no large trial compares
pub large_or_compares : (shape : Shape) (a b : List Row) (sign : Sign) (i j rows letters : ℕ) (f g : List Row) → TrialIsLarge shape a b sign i j rows letters → TrialCompares shape a b sign i j f g → ⊥
large_or_compares shape a b sign i j rows letters f g (TrialIsLarge.first_large h) c = c.first_small rows letters h
large_or_compares shape a b sign i j rows letters f g (TrialIsLarge.second_large none h) c = c.second_small rows letters h

-- ---- conjugators of powers

-- what conjugates two powers conjugates each two pairs that are these powers
pub conjugates_powers : (shape : Shape) (h a b f g s t : List Row) (i j : ℤ) → IsPair shape a → IsPair shape b → IsPower shape a i f → IsPower shape b j g → IsPower shape a i s → IsPower shape b j t → Conjugates shape h f g → Conjugates shape h s t
conjugates_powers shape h a b f g s t i j pair_a pair_b hf hg hs ht c =
    conjugates_of_alike shape h h f s g t c.pair hf.pair hs.pair hg.pair (alike_refl shape h c.pair) (power_once shape a f s i pair_a hf hs) (power_once shape b g t j pair_b hg ht) c

-- what is printed conjugates
pub printed_conjugate : (shape : Shape) (f g h : List Row) → IsPrinted shape f g h → AreConjugate shape f g
printed_conjugate shape f g h printed = record { by = h; conjugates = printed.normal.conjugates }

-- whether the powers of a trial are conjugate doesn't rest on the pairs that stand for them
pub compared_conjugate : (shape : Shape) (a b : List Row) (sign : Sign) (i j : ℕ) (f g s t : List Row) → IsPair shape a → IsPair shape b → TrialCompares shape a b sign i j f g → TrialCompares shape a b sign i j s t → AreConjugate shape f g → AreConjugate shape s t
compared_conjugate shape a b sign i j f g s t pair_a pair_b c d conjugate = record {
  by = conjugate.by;
  conjugates = conjugates_powers shape conjugate.by a b f g s t (pos i) (signed sign j) pair_a pair_b c.first_power c.second_power d.first_power d.second_power conjugate.conjugates;
}
