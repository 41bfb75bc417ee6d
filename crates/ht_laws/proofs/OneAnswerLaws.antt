-- The power rule gives one answer, but for the conjugator that it prints.
use Rattle.std.proofs.Common.{◌≡◌, ◌≢◌, ℕ, ◌*◌, ◌/◌, ◌≤◌, ◌<◌, ◌⊎◌, ◌↔◌, inl, inr, List, [], ◌∷◌, length, refl, sym, ap, ◌∙◌, subst, subst₂, arith, All, AllPairs, Contains, ℤ, pos, sum}
use Rattle.std.specs.List.{AllZip}
use Rattle.std.proofs.lemmas.List.Elements.{All-cons, All-nil, All-head, All-tail}
use Rattle.ht_word.specs.declared.shape.Shape.{Shape}
use Rattle.ht_word.specs.declared.word.Word.{Word}
use Rattle.ht_word.proofs.ListLaws.{ascending_same}
use Rattle.ht_num.specs.Numbers.{IsSomeWide}
use Rattle.ht_num.proofs.FractionLaws.{ratio_once}
use Rattle.ht_num.proofs.NumberLaws.{once_least}
use Rattle.ht_pair.specs.Bases.{TakesAtMost}
use Rattle.ht_pair.specs.Conjugacy.{AreConjugate}
use Rattle.ht_pair.specs.FiniteTrials.{IsTried, FiniteTrials}
use Rattle.ht_pair.specs.Kinds.{IsAttractor, IsCycleWord, IsRepeller}
use Rattle.ht_pair.specs.Orders.{IsOrder}
use Rattle.ht_pair.specs.Pairs.{IsPair}
use Rattle.ht_pair.specs.Parts.{IsInfinitePart}
use Rattle.ht_pair.specs.PowerRule.{BothFinite, BothInfinite, OneInfinite, Answers, PowerRule}
use Rattle.ht_pair.specs.PowerSizes.{Sign, Plus, Minus, signed, IsFirstLargeOf}
use Rattle.ht_pair.specs.PowerTrials.{PowerAnswer, Powers, NoPowers, FirstPastBudget, SecondPastBudget, TooLarge, TooWide, TrialIsLarge, TrialCompares}
use Rattle.ht_pair.specs.Rates.{IsRateSum, HasRates}
use Rattle.ht_pair.specs.SemiNormal.{IsQuasinormal}
use Rattle.ht_pair.specs.SignTrials.{BothParts, all_parts, HasBothParts, IsCommonOrder, SignTrial, SignAnswers, BothSigns}
use Rattle.ht_pair.specs.declared.row.Row.{Row}
use Rattle.ht_pair.proofs.KindLaws.{attractor_once, repeller_once}
use Rattle.ht_pair.proofs.PartLaws.{parts_once, selected_once}
use Rattle.ht_pair.proofs.QuasinormalLaws.{quasinormal_unique}
use Rattle.ht_pair.proofs.SizeLaws.{large_alike}
use Rattle.ht_types.proofs.TurnLaws.{HasSemiNormal}
use Rattle.ht_laws.specs.PowerAnswers.{SameAnswer}
use Rattle.ht_laws.proofs.AlikeTrialLaws.{large_once, trial_large_alike, trial_large_once, compares_alike, large_or_compares, printed_conjugate, compared_conjugate}
use Rattle.ht_laws.proofs.CarriedLaws.{AreAlike, other_way}
use Rattle.ht_laws.proofs.PartEndLaws.{some_infinite, attractor_rate}

-- ---- conditions that give one answer

-- all answers that meet the condition are one, but for the conjugator
abbrev GivesOne : (PowerAnswer → Type 0) → Type 0
GivesOne F = (x y : PowerAnswer) → F x → F y → SameAnswer x y

-- where P holds A answers, and elsewhere B
abbrev AnswersBy : Type 0 → (PowerAnswer → Type 0) → (PowerAnswer → Type 0) → PowerAnswer → Type 0
AnswersBy P A B x = (P × A x) ⊎ ((¬ P) × B x)

-- such a choice gives one answer where both sides do
one_chosen : (P : Type 0) (A B : PowerAnswer → Type 0) → GivesOne A → GivesOne B → GivesOne (AnswersBy P A B)
one_chosen P A B first second x y h g = elim h [
  | inl a ↦ elim g [ inl b ↦ first x y a.1 b.1 | inr b ↦ absurd (b.0 a.0) ]
  | inr a ↦ elim g [ inl b ↦ absurd (a.0 b.0) | inr b ↦ second x y a.1 b.1 ]
]

-- with a condition that holds where P does, and answers that are among others
chosen_moved : (P Q : Type 0) (A B C D : PowerAnswer → Type 0) → P ↔ Q → (x : PowerAnswer) → (A x → C x) → (B x → D x) → AnswersBy P A B x → AnswersBy Q C D x
chosen_moved P Q A B C D same x first second h = elim h [
  | inl a ↦ inl (same.0 a.0, first a.1)
  | inr b ↦ inr ((λ q. b.0 (same.1 q)), second b.1)
]

-- an equal answer
one_answer : (z : PowerAnswer) → GivesOne (λ x. x ≡ z)
one_answer z x y e d = subst (λ t. SameAnswer x t) (e ∙ sym d) SameAnswer.equal

-- powers with these exponents
abbrev ArePowers : ℤ → ℤ → PowerAnswer → Type 0
ArePowers i j x = (h : List Row) × (x ≡ Powers i j h)

-- answers with these exponents are one, but for the conjugator
one_powers : (i j : ℤ) → GivesOne (ArePowers i j)
one_powers i j x y e d = subst₂ SameAnswer (sym e.1) (sym d.1) SameAnswer.powers

-- some numbers of rows and letters
abbrev SomeSize : (ℕ → ℕ → Type 0) → Type 0
SomeSize L = (rows : ℕ) × (letters : ℕ) × L rows letters

-- these are the answer
abbrev IsTooLarge : (ℕ → ℕ → Type 0) → PowerAnswer → Type 0
IsTooLarge L x = (rows : ℕ) × (letters : ℕ) × L rows letters × (x ≡ TooLarge rows letters)

-- they are determined
abbrev OneSize : (ℕ → ℕ → Type 0) → Type 0
OneSize L = (rows letters i j : ℕ) → L rows letters → L i j → (rows ≡ i) × (letters ≡ j)

-- an answer that tells determined numbers is one
one_large : (L : ℕ → ℕ → Type 0) → OneSize L → GivesOne (IsTooLarge L)
one_large L once x y h g =
    let same = once h.0 h.1 g.0 g.1 h.2 g.2 in
    let sizes : TooLarge h.0 h.1 ≡ TooLarge g.0 g.1 = λ i. TooLarge (same.0 i) (same.1 i) in
    one_answer y x y (h.3 ∙ sizes ∙ sym g.3) refl

-- a condition on numbers or lists that are determined
one_told : (K : Type 0) (Q : K → Type 0) (F : K → PowerAnswer → Type 0) → ((k j : K) → Q k → Q j → k ≡ j) → ((k : K) → Q k → GivesOne (F k)) → GivesOne (λ x. (k : K) × Q k × F k x)
one_told K Q F once each x y h g = each g.0 g.1 x y (subst (λ k. F k x) (once h.0 g.0 h.1 g.1) h.2) g.2

-- ---- the powers of one trial

-- the two powers are conjugate
record CompareEqual (shape : Shape) (a b : List Row) (sign : Sign) (i j : ℕ) : Type 0 where
  f : List Row
  g : List Row
  compares : TrialCompares shape a b sign i j f g
  conjugate : AreConjugate shape f g

-- the trial is large; or A answers where its powers are conjugate, and B where they are not
abbrev Compared : Shape → List Row → List Row → Sign → ℕ → ℕ → (PowerAnswer → Type 0) → (PowerAnswer → Type 0) → PowerAnswer → Type 0
Compared shape a b sign i j A B =
    AnswersBy (SomeSize (TrialIsLarge shape a b sign i j)) (IsTooLarge (TrialIsLarge shape a b sign i j))
    (AnswersBy (CompareEqual shape a b sign i j) A B)

-- a trial gives one answer where both sides do
one_compared : (shape : Shape) (a b : List Row) → IsPair shape a → IsPair shape b → (sign : Sign) (i j : ℕ) (A B : PowerAnswer → Type 0) → GivesOne A → GivesOne B → GivesOne (Compared shape a b sign i j A B)
one_compared shape a b pair_a pair_b sign i j A B first second =
    one_chosen (SomeSize (TrialIsLarge shape a b sign i j)) (IsTooLarge (TrialIsLarge shape a b sign i j)) (AnswersBy (CompareEqual shape a b sign i j) A B)
    (one_large (TrialIsLarge shape a b sign i j) (trial_large_once shape a b pair_a pair_b sign i j))
    (one_chosen (CompareEqual shape a b sign i j) A B first second)

-- where the trial compares it is not large
not_large : (shape : Shape) (a b : List Row) (sign : Sign) (i j : ℕ) (f g : List Row) → TrialCompares shape a b sign i j f g → ¬ SomeSize (TrialIsLarge shape a b sign i j)
not_large shape a b sign i j f g compares (rows, letters, large) = large_or_compares shape a b sign i j rows letters f g large compares

-- and where its powers are not conjugate, none are
not_equal : (shape : Shape) (a b : List Row) → IsPair shape a → IsPair shape b → (sign : Sign) (i j : ℕ) (f g : List Row) → TrialCompares shape a b sign i j f g → ¬ AreConjugate shape f g → ¬ CompareEqual shape a b sign i j
not_equal shape a b pair_a pair_b sign i j f g compares none other = none (compared_conjugate shape a b sign i j other.f other.g f g pair_a pair_b other.compares compares other.conjugate)

-- ---- finite orders

-- the trial of the first divisor, and then the others
finite_cases : (shape : Shape) (a b : List Row) → IsPair shape a → IsPair shape b → (M N d : ℕ) (ds : List ℕ) (x : PowerAnswer) → FiniteTrials shape a b M N (d ∷ ds) x
    → Compared shape a b Plus (M / d) (N / d) (ArePowers (pos (M / d)) (pos (N / d))) (FiniteTrials shape a b M N ds) x
finite_cases shape a b pair_a pair_b M N d ds x (FiniteTrials.large {rows = rows} {letters = letters} h) = inl ((rows, letters, h), (rows, letters, h, refl))
finite_cases shape a b pair_a pair_b M N d ds x (FiniteTrials.found {f = f} {g = g} {h = h} compares printed) =
    inr (not_large shape a b Plus (M / d) (N / d) f g compares, inl (record { f = f; g = g; compares = compares; conjugate = printed_conjugate shape f g h printed }, (h, refl)))
finite_cases shape a b pair_a pair_b M N d ds x (FiniteTrials.go_on {f = f} {g = g} compares none rest) =
    inr (not_large shape a b Plus (M / d) (N / d) f g compares, inr (not_equal shape a b pair_a pair_b Plus (M / d) (N / d) f g compares none, rest))

-- the trials of divisors give one answer
finite_once : (shape : Shape) (a b : List Row) → IsPair shape a → IsPair shape b → (M N : ℕ) (ds : List ℕ) → GivesOne (FiniteTrials shape a b M N ds)
finite_once shape a b pair_a pair_b M N [] x y FiniteTrials.none_left FiniteTrials.none_left = SameAnswer.equal
finite_once shape a b pair_a pair_b M N (d ∷ ds) x y h g =
    one_compared shape a b pair_a pair_b Plus (M / d) (N / d) (ArePowers (pos (M / d)) (pos (N / d))) (FiniteTrials shape a b M N ds) (one_powers (pos (M / d)) (pos (N / d))) (finite_once shape a b pair_a pair_b M N ds) x y
    (finite_cases shape a b pair_a pair_b M N d ds x h) (finite_cases shape a b pair_a pair_b M N d ds y g)

-- ---- the parts

-- pairs with their basis
record Setting : Type 0 where
  shape : Shape
  a : List Row
  b : List Row
  X : List Word
  Y : List Word
  first : HasSemiNormal shape a X
  second : HasSemiNormal shape b Y

-- the parts of a and of b
abbrev Has : Setting → BothParts → Type 0
Has c parts = HasBothParts c.shape c.a c.b c.X c.Y parts

-- lists of pairs that move words alike, one by one
abbrev AreAllAlike : Shape → List (List Row) → List (List Row) → Type 0
AreAllAlike shape ss ts = AllZip (AreAlike shape) ss ts

-- the other way round
all_other_way : (shape : Shape) (ss ts : List (List Row)) → AreAllAlike shape ss ts → AreAllAlike shape ts ss
all_other_way shape [] [] alike = alike
all_other_way shape [] (t ∷ ts) alike = alike
all_other_way shape (s ∷ ss) [] alike = alike
all_other_way shape (s ∷ ss) (t ∷ ts) alike = (other_way shape s t alike.0, all_other_way shape ss ts alike.1)

-- the first large one has the same size
first_of_alike : (shape : Shape) (ss ts : List (List Row)) → AreAllAlike shape ss ts → (rows letters : ℕ) → IsFirstLargeOf shape ss rows letters → IsFirstLargeOf shape ts rows letters
first_of_alike shape [] [] alike rows letters h = h
first_of_alike shape [] (t ∷ ts) alike rows letters h = absurd alike
first_of_alike shape (s ∷ ss) [] alike rows letters h = absurd alike
first_of_alike shape (s ∷ ss) (t ∷ ts) alike rows letters h =
    let there = alike.0 in
    let back = other_way shape s t there in
    elim h [
      | inl large ↦ inl (large_alike shape s t rows letters there.first there.second there.alike large)
      | inr rest ↦ inr ((λ i j large. rest.0 i j (large_alike shape t s i j back.first back.second back.alike large)), first_of_alike shape ss ts alike.1 rows letters rest.1)
    ]

-- and just one
first_of_once : (shape : Shape) (ss : List (List Row)) → All (IsPair shape) ss → OneSize (IsFirstLargeOf shape ss)
first_of_once shape [] pairs rows letters i j h g = absurd h
first_of_once shape (s ∷ ss) pairs rows letters i j h g = elim h [
  | inl large ↦ elim g [
    | inl other ↦ large_once shape s rows letters i j (All-head (IsPair shape) s ss pairs) large other
    | inr rest ↦ absurd (rest.0 rows letters large)
  ]
  | inr rest ↦ elim g [
    | inl other ↦ absurd (rest.0 i j other)
    | inr later ↦ first_of_once shape ss (All-tail (IsPair shape) s ss pairs) rows letters i j rest.1 later.1
  ]
]

-- two cuts of a and b are alike, part by part
record PartsAlike (shape : Shape) (parts others : BothParts) : Type 0 where
  a_infinite : AreAlike shape parts.a_infinite others.a_infinite
  b_infinite : AreAlike shape parts.b_infinite others.b_infinite
  all : AreAllAlike shape (all_parts parts) (all_parts others)

-- each two cuts are
both_parts_once : (c : Setting) (parts others : BothParts) → Has c parts → Has c others → PartsAlike c.shape parts others
both_parts_once c parts others h g =
    let first = parts_once c.shape c.a c.X c.first.pair c.first.semi.basis parts.a_periodic parts.a_infinite others.a_periodic others.a_infinite h.first g.first in
    let second = parts_once c.shape c.b c.Y c.second.pair c.second.semi.basis parts.b_periodic parts.b_infinite others.b_periodic others.b_infinite h.second g.second in
    let a_periodic : AreAlike c.shape parts.a_periodic others.a_periodic = record { first = h.first.on_periodic.pair; second = g.first.on_periodic.pair; alike = first.0 } in
    let a_infinite : AreAlike c.shape parts.a_infinite others.a_infinite = record { first = h.first.on_infinite.pair; second = g.first.on_infinite.pair; alike = first.1 } in
    let b_periodic : AreAlike c.shape parts.b_periodic others.b_periodic = record { first = h.second.on_periodic.pair; second = g.second.on_periodic.pair; alike = second.0 } in
    let b_infinite : AreAlike c.shape parts.b_infinite others.b_infinite = record { first = h.second.on_infinite.pair; second = g.second.on_infinite.pair; alike = second.1 } in
    record { a_infinite = a_infinite; b_infinite = b_infinite; all = (a_periodic, (a_infinite, (b_periodic, (b_infinite, tt)))) }

-- the parts are pairs
part_pairs : (c : Setting) (parts : BothParts) → Has c parts → All (IsPair c.shape) (all_parts parts)
part_pairs c parts h =
    All-cons (IsPair c.shape) parts.a_periodic (parts.a_infinite ∷ parts.b_periodic ∷ parts.b_infinite ∷ []) h.first.on_periodic.pair
    (All-cons (IsPair c.shape) parts.a_infinite (parts.b_periodic ∷ parts.b_infinite ∷ []) h.first.on_infinite.pair
    (All-cons (IsPair c.shape) parts.b_periodic (parts.b_infinite ∷ []) h.second.on_periodic.pair
    (All-cons (IsPair c.shape) parts.b_infinite [] h.second.on_infinite.pair (All-nil (IsPair c.shape)))))

-- ---- the trial of a sign

-- powers of a and b by N times i and by N times j, where no number is wide
abbrev FoundBy : Sign → ℕ → ℕ → ℕ → PowerAnswer → Type 0
FoundBy sign i j N = AnswersBy (IsSomeWide (N ∷ (i * N) ∷ (j * N) ∷ [])) (λ x. x ≡ TooWide) (ArePowers (pos (i * N)) (signed sign (j * N)))

-- for N that is the common order
abbrev FoundFor : Setting → Sign → ℕ → ℕ → PowerAnswer → Type 0
FoundFor c sign i j x = (N : ℕ) × IsCommonOrder c.shape c.a c.b c.X c.Y N × FoundBy sign i j N x

-- they are one answer
found_once : (c : Setting) (sign : Sign) (i j : ℕ) → GivesOne (FoundFor c sign i j)
found_once c sign i j = one_told ℕ (IsCommonOrder c.shape c.a c.b c.X c.Y) (FoundBy sign i j) (λ N M h g. once_least N M h g)
    (λ N order. one_chosen (IsSomeWide (N ∷ (i * N) ∷ (j * N) ∷ [])) (λ x. x ≡ TooWide) (ArePowers (pos (i * N)) (signed sign (j * N))) (one_answer TooWide) (one_powers (pos (i * N)) (signed sign (j * N))))

-- once the parts are at hand
abbrev WithParts : Setting → Sign → ℕ → ℕ → (PowerAnswer → Type 0) → BothParts → PowerAnswer → Type 0
WithParts c sign i j later parts =
    AnswersBy (SomeSize (IsFirstLargeOf c.shape (all_parts parts))) (IsTooLarge (IsFirstLargeOf c.shape (all_parts parts)))
    (Compared c.shape parts.a_infinite parts.b_infinite sign i j (FoundFor c sign i j) later)

-- one answer by these parts
with_parts_once : (c : Setting) (sign : Sign) (i j : ℕ) (later : PowerAnswer → Type 0) → GivesOne later → (parts : BothParts) → Has c parts → GivesOne (WithParts c sign i j later parts)
with_parts_once c sign i j later once parts has =
    one_chosen (SomeSize (IsFirstLargeOf c.shape (all_parts parts))) (IsTooLarge (IsFirstLargeOf c.shape (all_parts parts))) (Compared c.shape parts.a_infinite parts.b_infinite sign i j (FoundFor c sign i j) later)
    (one_large (IsFirstLargeOf c.shape (all_parts parts)) (first_of_once c.shape (all_parts parts) (part_pairs c parts has)))
    (one_compared c.shape parts.a_infinite parts.b_infinite has.first.on_infinite.pair has.second.on_infinite.pair sign i j (FoundFor c sign i j) later (found_once c sign i j) once)

-- the same by other parts
sizes_moved : (L K : ℕ → ℕ → Type 0) → ((rows letters : ℕ) → L rows letters → K rows letters) → SomeSize L → SomeSize K
sizes_moved L K among (rows, letters, l) = (rows, letters, among rows letters l)

-- so are the answers that tell them
large_moved : (L K : ℕ → ℕ → Type 0) → ((rows letters : ℕ) → L rows letters → K rows letters) → (x : PowerAnswer) → IsTooLarge L x → IsTooLarge K x
large_moved L K among x (rows, letters, l, e) = (rows, letters, among rows letters l, e)

-- powers that are compared equal, by alike pairs
equal_moved : (shape : Shape) (a b c d : List Row) → AreAlike shape a c → AreAlike shape b d → (sign : Sign) (i j : ℕ) → CompareEqual shape a b sign i j → CompareEqual shape c d sign i j
equal_moved shape a b c d first second sign i j h = record { f = h.f; g = h.g; compares = compares_alike shape a b c d first second sign i j h.f h.g h.compares; conjugate = h.conjugate }

-- a trial's answer is that of alike pairs
compared_moved : (shape : Shape) (a b c d : List Row) → AreAlike shape a c → AreAlike shape b d → (sign : Sign) (i j : ℕ) (A B : PowerAnswer → Type 0) (x : PowerAnswer) → Compared shape a b sign i j A B x → Compared shape c d sign i j A B x
compared_moved shape a b c d first second sign i j A B x =
    let to = trial_large_alike shape a b c d first second sign i j in
    let from = trial_large_alike shape c d a b (other_way shape a c first) (other_way shape b d second) sign i j in
    chosen_moved (SomeSize (TrialIsLarge shape a b sign i j)) (SomeSize (TrialIsLarge shape c d sign i j)) (IsTooLarge (TrialIsLarge shape a b sign i j)) (AnswersBy (CompareEqual shape a b sign i j) A B)
    (IsTooLarge (TrialIsLarge shape c d sign i j)) (AnswersBy (CompareEqual shape c d sign i j) A B)
    (sizes_moved (TrialIsLarge shape a b sign i j) (TrialIsLarge shape c d sign i j) to, sizes_moved (TrialIsLarge shape c d sign i j) (TrialIsLarge shape a b sign i j) from) x
    (large_moved (TrialIsLarge shape a b sign i j) (TrialIsLarge shape c d sign i j) to x)
    (chosen_moved (CompareEqual shape a b sign i j) (CompareEqual shape c d sign i j) A B A B
    (equal_moved shape a b c d first second sign i j, equal_moved shape c d a b (other_way shape a c first) (other_way shape b d second) sign i j) x (λ h. h) (λ h. h))

-- an answer by some parts is one by each others
with_parts_moved : (c : Setting) (sign : Sign) (i j : ℕ) (later : PowerAnswer → Type 0) (parts others : BothParts) → Has c parts → Has c others → (x : PowerAnswer) → WithParts c sign i j later parts x → WithParts c sign i j later others x
with_parts_moved c sign i j later parts others h g x =
    let L = IsFirstLargeOf c.shape (all_parts parts) in
    let K = IsFirstLargeOf c.shape (all_parts others) in
    let there = both_parts_once c parts others h g in
    let to = first_of_alike c.shape (all_parts parts) (all_parts others) there.all in
    let from = first_of_alike c.shape (all_parts others) (all_parts parts) (all_other_way c.shape (all_parts parts) (all_parts others) there.all) in
    chosen_moved (SomeSize L) (SomeSize K) (IsTooLarge L) (Compared c.shape parts.a_infinite parts.b_infinite sign i j (FoundFor c sign i j) later)
    (IsTooLarge K) (Compared c.shape others.a_infinite others.b_infinite sign i j (FoundFor c sign i j) later)
    (sizes_moved L K to, sizes_moved K L from) x
    (large_moved L K to x)
    (compared_moved c.shape parts.a_infinite parts.b_infinite others.a_infinite others.b_infinite there.a_infinite there.b_infinite sign i j (FoundFor c sign i j) later x)

-- by whichever parts
abbrev WithSomeParts : Setting → Sign → ℕ → ℕ → (PowerAnswer → Type 0) → PowerAnswer → Type 0
WithSomeParts c sign i j later x = (parts : BothParts) × Has c parts × WithParts c sign i j later parts x

-- the trial of a sign: wide, or told by parts
abbrev Tried : Setting → Sign → ℕ → ℕ → (PowerAnswer → Type 0) → PowerAnswer → Type 0
Tried c sign i j later = AnswersBy (IsSomeWide (i ∷ j ∷ [])) (λ x. x ≡ TooWide) (WithSomeParts c sign i j later)

-- each case of the trial is one of these
trial_cases : (c : Setting) (sign : Sign) (i j : ℕ) (later : PowerAnswer → Type 0) (x : PowerAnswer) → SignTrial c.shape c.a c.b c.X c.Y sign i j later x → Tried c sign i j later x
trial_cases c sign i j later x (SignTrial.wide w) = inl (w, refl)
trial_cases c sign i j later x (SignTrial.parts_large {parts = parts} {rows = rows} {letters = letters} fit has large) = inr (fit, (parts, has, inl ((rows, letters, large), (rows, letters, large, refl))))
trial_cases c sign i j later x (SignTrial.powers_large {parts = parts} {rows = rows} {letters = letters} fit has small large) =
    inr (fit, (parts, has, inr ((λ (k, l, h). small k l h), inl ((rows, letters, large), (rows, letters, large, refl)))))
trial_cases c sign i j later x (SignTrial.go_on {f = f} {g = g} t none rest) =
    inr (t.fit, (t.parts, t.has_parts, inr ((λ (k, l, h). t.parts_small k l h), inr (not_large c.shape t.parts.a_infinite t.parts.b_infinite sign i j f g t.compares, inr (not_equal c.shape t.parts.a_infinite t.parts.b_infinite t.has_parts.first.on_infinite.pair t.has_parts.second.on_infinite.pair sign i j f g t.compares none, rest)))))
trial_cases c sign i j later x (SignTrial.found_wide {f = f} {g = g} {N = N} t conjugate order wide) =
    inr (t.fit, (t.parts, t.has_parts, inr ((λ (k, l, h). t.parts_small k l h), inr (not_large c.shape t.parts.a_infinite t.parts.b_infinite sign i j f g t.compares, inl (record { f = f; g = g; compares = t.compares; conjugate = conjugate }, (N, order, inl (wide, refl)))))))
trial_cases c sign i j later x (SignTrial.found {f = f} {g = g} {h = h} {N = N} t printed order fits) =
    inr (t.fit, (t.parts, t.has_parts, inr ((λ (k, l, h). t.parts_small k l h), inr (not_large c.shape t.parts.a_infinite t.parts.b_infinite sign i j f g t.compares, inl (record { f = f; g = g; compares = t.compares; conjugate = printed_conjugate c.shape f g h printed }, (N, order, inr (fits, (h, refl))))))))

-- the trial of a sign gives one answer where what comes later does
trial_once : (c : Setting) (sign : Sign) (i j : ℕ) (later : PowerAnswer → Type 0) → GivesOne later → GivesOne (SignTrial c.shape c.a c.b c.X c.Y sign i j later)
trial_once c sign i j later once x y h g =
    one_chosen (IsSomeWide (i ∷ j ∷ [])) (λ z. z ≡ TooWide) (WithSomeParts c sign i j later) (one_answer TooWide)
    (λ z w k l. with_parts_once c sign i j later once l.0 l.1 z w (with_parts_moved c sign i j later k.0 l.0 k.1 l.1 z k.2) l.2)
    x y (trial_cases c sign i j later x h) (trial_cases c sign i j later y g)

-- so does a sign, since the ratio has one lowest form
sign_once : (c : Setting) (sign : Sign) (M ahead behind over over_behind : ℕ) (later : PowerAnswer → Type 0) → 1 ≤ ahead → GivesOne later → GivesOne (SignAnswers c.shape c.a c.b c.X c.Y sign M ahead behind over over_behind later)
sign_once c sign M ahead behind over over_behind later some once x y (SignAnswers.tried {p = p} {q = q} same ratio h) (SignAnswers.tried {p = r} {q = s} again other g) =
    let one = ratio_once over ahead p q r s some ratio other in
    trial_once c sign (r * M) (s * M) later once x y (subst₂ (λ (m : ℕ) (n : ℕ). SignTrial c.shape c.a c.b c.X c.Y sign (m * M) (n * M) later x) one.0 one.1 h) g
sign_once c sign M ahead behind over over_behind later some once x y (SignAnswers.tried same ratio h) (SignAnswers.left_out differ g) = absurd (differ same)
sign_once c sign M ahead behind over over_behind later some once x y (SignAnswers.left_out differ h) (SignAnswers.tried same ratio g) = absurd (differ same)
sign_once c sign M ahead behind over over_behind later some once x y (SignAnswers.left_out differ h) (SignAnswers.left_out other g) = once x y h g

-- and so do both signs, the last with no powers
signs_once : (c : Setting) (M A B C D : ℕ) → 1 ≤ A → GivesOne (BothSigns c.shape c.a c.b c.X c.Y M A B C D)
signs_once c M A B C D some =
    sign_once c Plus M A B C D (SignAnswers c.shape c.a c.b c.X c.Y Minus M A B D C (λ last. last ≡ NoPowers)) some
    (sign_once c Minus M A B D C (λ last. last ≡ NoPowers) some (one_answer NoPowers))

-- ---- rates

-- a word of a kind has one period and one list of letters
abbrev KindOnce : (Word → ℕ → List ℕ → Type 0) → Type 0
KindOnce IsKind = (x : Word) (m k : ℕ) (y z : List ℕ) → IsKind x m y → IsKind x k z → (m ≡ k) × (y ≡ z)

-- the rates of words are determined, one by one
rates_once : (IsKind : Word → ℕ → List ℕ → Type 0) → KindOnce IsKind → (M : ℕ) (words : List Word) (rs ss : List ℕ) → AllZip (λ x rate. (m : ℕ) × (by : List ℕ) × IsKind x m by × (rate ≡ length by * M / m)) words rs → AllZip (λ x rate. (m : ℕ) × (by : List ℕ) × IsKind x m by × (rate ≡ length by * M / m)) words ss → rs ≡ ss
rates_once IsKind once M [] [] [] h g = refl
rates_once IsKind once M [] [] (s ∷ ss) h g = absurd g
rates_once IsKind once M [] (r ∷ rs) ss h g = absurd h
rates_once IsKind once M (x ∷ words) [] ss h g = absurd h
rates_once IsKind once M (x ∷ words) (r ∷ rs) [] h g = absurd g
rates_once IsKind once M (x ∷ words) (r ∷ rs) (s ∷ ss) h g =
    let same = once x h.0.0 g.0.0 h.0.1 g.0.1 h.0.2 g.0.2 in
    let heads : r ≡ s = h.0.3 ∙ (λ i. length (same.1 i) * M / (same.0 i)) ∙ sym g.0.3 in
    let tails : rs ≡ ss = rates_once IsKind once M words rs ss h.1 g.1 in
    λ i. heads i ∷ tails i

-- the sum of its rates is determined
sum_once : (IsKind : Word → ℕ → List ℕ → Type 0) → KindOnce IsKind → (X : List Word) (M m n : ℕ) → IsRateSum IsKind X M m → IsRateSum IsKind X M n → m ≡ n
sum_once IsKind once X M m n h g =
    let same : g.words ≡ h.words = selected_once (λ x. (m : ℕ) × (by : List ℕ) × IsKind x m by) X g.words h.words g.selected h.selected in
    let rates : h.rates ≡ g.rates = rates_once IsKind once M h.words h.rates g.rates h.rated (subst (λ W. AllZip (λ x rate. (m : ℕ) × (by : List ℕ) × IsKind x m by × (rate ≡ length by * M / m)) W g.rates) same g.rated) in
    h.total_is ∙ ap (λ (rs : List ℕ). sum rs) rates ∙ sym g.total_is

-- the common period and the four sums
record Rates : Type 0 where
  M : ℕ
  A : ℕ
  B : ℕ
  C : ℕ
  D : ℕ

-- these are the rates of a and b
abbrev AreRates : Setting → Rates → Type 0
AreRates c r = HasRates c.shape c.a c.b c.X c.Y r.M r.A r.B r.C r.D

-- they are determined
all_rates_once : (c : Setting) (r s : Rates) → AreRates c r → AreRates c s → r ≡ s
all_rates_once c r s h g =
    let same : s.M ≡ r.M = once_least s.M r.M g.period h.period in
    let first = sum_once (IsAttractor c.shape c.a) (attractor_once c.shape c.a c.first.pair) c.X r.M r.A s.A h.first_ahead (subst (λ k. IsRateSum (IsAttractor c.shape c.a) c.X k s.A) same g.first_ahead) in
    let second = sum_once (IsRepeller c.shape c.a) (repeller_once c.shape c.a c.first.pair) c.X r.M r.B s.B h.first_behind (subst (λ k. IsRateSum (IsRepeller c.shape c.a) c.X k s.B) same g.first_behind) in
    let third = sum_once (IsAttractor c.shape c.b) (attractor_once c.shape c.b c.second.pair) c.Y r.M r.C s.C h.second_ahead (subst (λ k. IsRateSum (IsAttractor c.shape c.b) c.Y k s.C) same g.second_ahead) in
    let fourth = sum_once (IsRepeller c.shape c.b) (repeller_once c.shape c.b c.second.pair) c.Y r.M r.D s.D h.second_behind (subst (λ k. IsRateSum (IsRepeller c.shape c.b) c.Y k s.D) same g.second_behind) in
    λ i. record { M = sym same i; A = first i; B = second i; C = third i; D = fourth i }

-- ---- the answers, once the bases are at hand

-- the orders of a and b
record Orders : Type 0 where
  M : ℕ
  N : ℕ

-- these are the orders of a and b
abbrev AreOrders : Setting → Orders → Type 0
AreOrders c o = IsOrder c.shape c.a o.M × IsOrder c.shape c.b o.N

-- they are determined
orders_once : (c : Setting) (o r : Orders) → AreOrders c o → AreOrders c r → o ≡ r
orders_once c o r h g =
    let first = once_least o.M r.M h.0 g.0 in
    let second = once_least o.N r.N h.1 g.1 in
    λ i. record { M = first i; N = second i }

-- the divisors that are tried, in order
record AreTried (c : Setting) (o : Orders) (ds : List ℕ) : Type 0 where
  ascending : AllPairs (λ (i : ℕ) (j : ℕ). i < j) ds
  same : (d : ℕ) → Contains ds d ↔ IsTried c.shape c.a c.b c.X c.Y o.M o.N d

-- they are determined
tried_once : (c : Setting) (o : Orders) (ds es : List ℕ) → AreTried c o ds → AreTried c o es → ds ≡ es
tried_once c o ds es h g = ascending_same (λ (i : ℕ) (j : ℕ). i < j) (λ i j l m. omega (arith, l, m)) ds es h.ascending g.ascending (λ d k. (g.same d).1 ((h.same d).0 k)) (λ d k. (h.same d).1 ((g.same d).0 k))

-- the trials of these divisors
abbrev ByDivisors : Setting → Orders → PowerAnswer → Type 0
ByDivisors c o x = (ds : List ℕ) × AreTried c o ds × FiniteTrials c.shape c.a c.b o.M o.N ds x

-- wide orders, or the trials of divisors
abbrev ByOrders : Setting → Orders → PowerAnswer → Type 0
ByOrders c o = AnswersBy (IsSomeWide (o.M ∷ o.N ∷ [])) (λ x. x ≡ TooWide) (ByDivisors c o)

-- the answer where both orders are finite
abbrev Finite : Setting → PowerAnswer → Type 0
Finite c x = (o : Orders) × AreOrders c o × ByOrders c o x

-- it is one
finite_gives_one : (c : Setting) → GivesOne (Finite c)
finite_gives_one c = one_told Orders (AreOrders c) (ByOrders c) (orders_once c)
    (λ o orders. one_chosen (IsSomeWide (o.M ∷ o.N ∷ [])) (λ x. x ≡ TooWide) (ByDivisors c o) (one_answer TooWide)
    (one_told (List ℕ) (AreTried c o) (FiniteTrials c.shape c.a c.b o.M o.N) (tried_once c o) (λ ds tried. finite_once c.shape c.a c.b c.first.pair c.second.pair o.M o.N ds)))

-- both signs, with these rates
abbrev BySigns : Setting → Rates → PowerAnswer → Type 0
BySigns c r = BothSigns c.shape c.a c.b c.X c.Y r.M r.A r.B r.C r.D

-- wide rates, or both signs
abbrev ByRates : Setting → Rates → PowerAnswer → Type 0
ByRates c r = AnswersBy (IsSomeWide (r.M ∷ r.A ∷ r.B ∷ r.C ∷ r.D ∷ [])) (λ x. x ≡ TooWide) (BySigns c r)

-- no infinite part is empty, and a has a rate from 1 on
abbrev AreSomeRates : Setting → Rates → Type 0
AreSomeRates c r = AreRates c r × (1 ≤ r.A)

-- the answer where no infinite part is empty
abbrev Infinite : Setting → PowerAnswer → Type 0
Infinite c x = (r : Rates) × AreSomeRates c r × ByRates c r x

-- it is one
infinite_gives_one : (c : Setting) → GivesOne (Infinite c)
infinite_gives_one c = one_told Rates (AreSomeRates c) (ByRates c) (λ r s h g. all_rates_once c r s h.0 g.0)
    (λ r some. one_chosen (IsSomeWide (r.M ∷ r.A ∷ r.B ∷ r.C ∷ r.D ∷ [])) (λ x. x ≡ TooWide) (BySigns c r) (one_answer TooWide) (signs_once c r.M r.A r.B r.C r.D some.1))

-- whether the infinite part of a is empty
abbrev FirstFinite : Setting → Type 0
FirstFinite c = IsInfinitePart c.shape c.a c.X []

-- and that of b
abbrev SecondFinite : Setting → Type 0
SecondFinite c = IsInfinitePart c.shape c.b c.Y []

-- the four cases of these two
abbrev Cases : Setting → PowerAnswer → Type 0
Cases c = AnswersBy (FirstFinite c) (AnswersBy (SecondFinite c) (Finite c) (λ x. x ≡ NoPowers)) (AnswersBy (SecondFinite c) (λ x. x ≡ NoPowers) (Infinite c))

-- they give one answer
cases_once : (c : Setting) → GivesOne (Cases c)
cases_once c = one_chosen (FirstFinite c) (AnswersBy (SecondFinite c) (Finite c) (λ x. x ≡ NoPowers)) (AnswersBy (SecondFinite c) (λ x. x ≡ NoPowers) (Infinite c))
    (one_chosen (SecondFinite c) (Finite c) (λ x. x ≡ NoPowers) (finite_gives_one c) (one_answer NoPowers))
    (one_chosen (SecondFinite c) (λ x. x ≡ NoPowers) (Infinite c) (one_answer NoPowers) (infinite_gives_one c))

-- an infinite part that is not empty is no empty one
not_empty : (shape : Shape) (p : List Row) (X I : List Word) → IsInfinitePart shape p X I → I ≢ [] → ¬ IsInfinitePart shape p X []
not_empty shape p X I part some none = some (selected_once (λ x. ¬ IsCycleWord shape p x) X I [] part none)

-- where both are empty
finite_case : (c : Setting) (M N : ℕ) (x : PowerAnswer) → BothFinite c.shape c.a c.b c.X c.Y M N → ByOrders c (record { M = M; N = N }) x → Cases c x
finite_case c M N x both by = inl (both.first_empty, inl (both.second_empty, (record { M = M; N = N }, (both.first_order, both.second_order), by)))

-- where neither is
infinite_case : (c : Setting) (M A B C D : ℕ) (x : PowerAnswer) → BothInfinite c.shape c.a c.b c.X c.Y → (rates : HasRates c.shape c.a c.b c.X c.Y M A B C D) → ByRates c (record { M = M; A = A; B = B; C = C; D = D }) x → Cases c x
infinite_case c M A B C D x both rates by =
    let some = some_infinite c.shape c.a c.X both.first both.first_part both.first_some in
    let low = attractor_rate c.first some.0 some.1 M A rates.period.positive (λ m period. rates.period.holds m (inl period)) rates.first_ahead in
    inr (not_empty c.shape c.a c.X both.first both.first_part both.first_some, inr (not_empty c.shape c.b c.Y both.second both.second_part both.second_some, (record { M = M; A = A; B = B; C = C; D = D }, (rates, low), by)))

-- each answer with both bases at hand is of one of the four cases
answer_cases : (c : Setting) (x : PowerAnswer) → Answers c.shape c.a c.b c.X c.Y x → Cases c x
answer_cases c x (Answers.one_infinite (OneInfinite.first_infinite {I = I} part some none)) = inr (not_empty c.shape c.a c.X I part some, inl (none, refl))
answer_cases c x (Answers.one_infinite (OneInfinite.second_infinite {J = J} none part some)) = inl (none, inr (not_empty c.shape c.b c.Y J part some, refl))
answer_cases c x (Answers.wide_order {order_a = M} {order_b = N} both wide) = finite_case c M N x both (inl (wide, refl))
answer_cases c x (Answers.finite {order_a = M} {order_b = N} {divisors = ds} both fit ascending same trials) = finite_case c M N x both (inr (fit, (ds, record { ascending = ascending; same = same }, trials)))
answer_cases c x (Answers.wide_rates {M = M} {ahead_a = A} {behind_a = B} {ahead_b = C} {behind_b = D} both rates wide) = infinite_case c M A B C D x both rates (inl (wide, refl))
answer_cases c x (Answers.infinite {M = M} {ahead_a = A} {behind_a = B} {ahead_b = C} {behind_b = D} both rates fit signs) = infinite_case c M A B C D x both rates (inr (fit, signs))

-- ---- the rule

-- once both bases are at hand
abbrev WithBoth : Shape → List Row → List Row → ℕ → List Word → List Word → PowerAnswer → Type 0
WithBoth shape a b budget X Y = AnswersBy (TakesAtMost shape Y budget) (Answers shape a b X Y) (λ x. x ≡ SecondPastBudget)

-- with the basis of a alone
abbrev WithFirst : Shape → List Row → List Row → ℕ → List Word → PowerAnswer → Type 0
WithFirst shape a b budget X = AnswersBy (TakesAtMost shape X budget) (λ x. (Y : List Word) × IsQuasinormal shape b Y × WithBoth shape a b budget X Y x) (λ x. x ≡ FirstPastBudget)

-- with whichever basis of a is quasinormal
abbrev ByBases : Shape → List Row → List Row → ℕ → PowerAnswer → Type 0
ByBases shape a b budget x = (X : List Word) × IsQuasinormal shape a X × WithFirst shape a b budget X x

-- each answer of the rule is one of these
rule_cases : (shape : Shape) (a b : List Row) (budget : ℕ) (x : PowerAnswer) → PowerRule shape a b budget x → ByBases shape a b budget x
rule_cases shape a b budget x (PowerRule.first_past {X = X} first past) = (X, first, inr (past, refl))
rule_cases shape a b budget x (PowerRule.second_past {X = X} {Y = Y} first second small past) = (X, first, inl (small, (Y, second, inr (past, refl))))
rule_cases shape a b budget x (PowerRule.answers {X = X} {Y = Y} first second small also answered) = (X, first, inl (small, (Y, second, inl (also, answered))))

-- the power rule gives one answer for each two pairs and each budget, but for the conjugator
pub rule_once : (shape : Shape) (a b : List Row) (budget : ℕ) (x y : PowerAnswer) → IsPair shape a → IsPair shape b → PowerRule shape a b budget x → PowerRule shape a b budget y → SameAnswer x y
rule_once shape a b budget x y pair_a pair_b h g =
    one_told (List Word) (IsQuasinormal shape a) (WithFirst shape a b budget) (quasinormal_unique shape a)
    (λ X first. one_chosen (TakesAtMost shape X budget) (λ z. (Y : List Word) × IsQuasinormal shape b Y × WithBoth shape a b budget X Y z) (λ z. z ≡ FirstPastBudget)
    (one_told (List Word) (IsQuasinormal shape b) (WithBoth shape a b budget X) (quasinormal_unique shape b)
    (λ Y second. one_chosen (TakesAtMost shape Y budget) (Answers shape a b X Y) (λ z. z ≡ SecondPastBudget)
    (λ z w k l. cases_once (setting X Y first second) z w (answer_cases (setting X Y first second) z k) (answer_cases (setting X Y first second) w l))
    (one_answer SecondPastBudget)))
    (one_answer FirstPastBudget))
    x y (rule_cases shape a b budget x h) (rule_cases shape a b budget y g)
  where
    setting : (X Y : List Word) → IsQuasinormal shape a X → IsQuasinormal shape b Y → Setting
    setting X Y first second = record { shape = shape; a = a; b = b; X = X; Y = Y; first = record { pair = pair_a; semi = first.semi_normal }; second = record { pair = pair_b; semi = second.semi_normal } }
