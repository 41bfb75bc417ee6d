-- Powers over lists of exponents, and the first of them that is large.
use Rattle.std.proofs.Common.{ℕ, inl, inr, List, [], ◌∷◌, ◌++◌, pos, negsuc}
use Rattle.ht_word.specs.declared.shape.Shape.{Shape}
use Rattle.ht_pair.specs.Elements.{IsElement}
use Rattle.ht_pair.specs.Pairs.{IsPair}
use Rattle.ht_pair.specs.PowerSizes.{Sign, Plus, Minus, signed, IsFirstLarge}
use Rattle.ht_pair.specs.Products.{IsPower}
use Rattle.ht_pair.specs.Sizes.{IsLarge}
use Rattle.ht_pair.specs.declared.row.Row.{Row}
use Rattle.ht_pair.proofs.PowerLaws.{power_exists, power_once, power_of_inverse, power_to_inverse}
use Rattle.ht_pair.proofs.SizeLaws.{large_alike, element_not_large}

-- none of the powers is large
abbrev pub NoneFirst : Shape → List Row → Sign → List ℕ → Type 0
NoneFirst shape p sign ks = (i j : ℕ) → ¬ IsFirstLarge shape p sign ks i j

-- the first large power of a list is that of a longer one
pub first_large_front : (shape : Shape) (p : List Row) (sign : Sign) (ks js : List ℕ) (rows letters : ℕ) → IsFirstLarge shape p sign ks rows letters → IsFirstLarge shape p sign (ks ++ js) rows letters
first_large_front shape p sign [] js rows letters h = absurd h
first_large_front shape p sign (k ∷ ks) js rows letters h = elim h.2 [
  | inl large ↦ (h.0, h.1, inl large)
  | inr rest ↦ (h.0, h.1, inr (rest.0, first_large_front shape p sign ks js rows letters rest.1))
]

-- where none of the first powers is large, the first large one behind them is the first of all
pub first_large_behind : (shape : Shape) (p : List Row) (sign : Sign) (ks js : List ℕ) (rows letters : ℕ) → IsPair shape p → NoneFirst shape p sign ks → IsFirstLarge shape p sign js rows letters → IsFirstLarge shape p sign (ks ++ js) rows letters
first_large_behind shape p sign [] js rows letters pair none h = h
first_large_behind shape p sign (k ∷ ks) js rows letters pair none h =
    let s = power_exists shape p (signed sign k) pair in
    let small : (i j : ℕ) → ¬ IsLarge shape s.0 i j = λ i j large. none i j (s.0, s.1, inl large) in
    (s.0, s.1, inr (small, first_large_behind shape p sign ks js rows letters pair (λ i j first. none i j (s.0, s.1, inr (small, first))) h))

-- where none is large in front, nor behind, none is large
pub none_first_append : (shape : Shape) (p : List Row) (sign : Sign) (ks js : List ℕ) → NoneFirst shape p sign ks → NoneFirst shape p sign js → NoneFirst shape p sign (ks ++ js)
none_first_append shape p sign [] js none others = others
none_first_append shape p sign (k ∷ ks) js none others = λ i j h. elim h.2 [
  | inl large ↦ none i j (h.0, h.1, inl large)
  | inr rest ↦ none_first_append shape p sign ks js (λ a b first. none a b (h.0, h.1, inr (rest.0, first))) others i j rest.1
]

-- the first large power of the inverse is that of the pair with the other sign
pub first_large_of_inverse : (shape : Shape) (p q : List Row) (ks : List ℕ) (rows letters : ℕ) → IsPair shape p → IsPower shape p (negsuc 0) q → IsFirstLarge shape q Plus ks rows letters → IsFirstLarge shape p Minus ks rows letters
first_large_of_inverse shape p q [] rows letters pair inverse h = absurd h
first_large_of_inverse shape p q (k ∷ ks) rows letters pair inverse h =
    let power = power_of_inverse shape p q h.0 (pos k) pair inverse h.1 in
    elim h.2 [
      | inl large ↦ (h.0, power, inl large)
      | inr rest ↦ (h.0, power, inr (rest.0, first_large_of_inverse shape p q ks rows letters pair inverse rest.1))
    ]

-- and the other way round
pub first_large_to_inverse : (shape : Shape) (p q : List Row) (ks : List ℕ) (rows letters : ℕ) → IsPair shape p → IsPower shape p (negsuc 0) q → IsFirstLarge shape p Minus ks rows letters → IsFirstLarge shape q Plus ks rows letters
first_large_to_inverse shape p q [] rows letters pair inverse h = absurd h
first_large_to_inverse shape p q (k ∷ ks) rows letters pair inverse h =
    let power = power_to_inverse shape p q h.0 (pos k) pair inverse h.1 in
    elim h.2 [
      | inl large ↦ (h.0, power, inl large)
      | inr rest ↦ (h.0, power, inr (rest.0, first_large_to_inverse shape p q ks rows letters pair inverse rest.1))
    ]

-- a power that isn't large, before others of which none is
pub none_first_cons : (shape : Shape) (p s : List Row) (sign : Sign) (k : ℕ) (ks : List ℕ) → IsPair shape p → IsPower shape p (signed sign k) s → ((i j : ℕ) → ¬ IsLarge shape s i j) → NoneFirst shape p sign ks → NoneFirst shape p sign (k ∷ ks)
none_first_cons shape p s sign k ks pair power small none = λ i j h. elim h.2 [
  | inl large ↦ small i j (large_alike shape h.0 s i j h.1.pair power.pair (power_once shape p h.0 s (signed sign k) pair h.1 power) large)
  | inr rest ↦ none i j rest.1
]

-- an element is a power that isn't large
pub none_first_element : (shape : Shape) (p s : List Row) (sign : Sign) (k : ℕ) → IsPair shape p → IsPower shape p (signed sign k) s → IsElement shape s → NoneFirst shape p sign (k ∷ [])
none_first_element shape p s sign k pair power e = none_first_cons shape p s sign k [] pair power (λ i j. element_not_large shape s i j e) (λ i j h. h)
