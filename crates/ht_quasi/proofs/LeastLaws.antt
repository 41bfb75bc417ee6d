-- The rounds from the roots to the least semi-normal basis, and what they spend.
use Rattle.std.proofs.Common.{◌≡◌, ℕ, ◌+◌, ◌*◌, ◌^◌, ◌<◌, ◌≤◌, inl, inr, Bool, List, length, refl, sym, ap, ◌∙◌, subst, subst₂, arith, Contains, negsuc}
use Rattle.std.specs.Prelude.{◌-◌}
use Rattle.std.proofs.Math.Nat.{mul-le-mul_left}
use Rattle.std.proofs.lemmas.Bool.{cases_lt}
use Rattle.std.proofs.lemmas.List.Elements.{All-contains}
use Rattle.std.proofs.lemmas.Option.{slice_get_read}
use Rattle.ht_word.specs.declared.shape.Shape.{Shape}
use Rattle.ht_word.specs.declared.word.Word.{Word}
use Rattle.ht_word.specs.Words.{IsUnderSome}
use Rattle.ht_word.proofs.WordLaws.{All-from_contains}
use Rattle.ht_pair.specs.Actions.{IsCanonical}
use Rattle.ht_pair.specs.Bases.{roots, IsAllUnder, TakesAtMost}
use Rattle.ht_pair.specs.HeldBases.{BasisValue, expanded_at}
use Rattle.ht_pair.specs.Products.{IsPower}
use Rattle.ht_pair.specs.SemiNormal.{IsSemiNormal, IsQuasinormal}
use Rattle.ht_pair.specs.declared.row.Row.{Row}
use Rattle.ht_pair.proofs.BadChainLaws.{HasNoBadChain, semi_normal_without, bad_word_out}
use Rattle.ht_pair.proofs.BasisLaws.{some_trans, under_roots, basis_word}
use Rattle.ht_pair.proofs.BasisSizes.{length-roots}
use Rattle.ht_pair.proofs.ChainSearch.{bad_or_none}
use Rattle.ht_pair.proofs.CountLaws.{no_fewer_below}
use Rattle.ht_pair.proofs.HeldBasisLaws.{held_expanded_at}
use Rattle.ht_pair.proofs.LeastBasisSizes.{quasinormal_size}
use Rattle.ht_pair.proofs.QuasinormalLaws.{quasinormal_exists}
use Rattle.ht_quasi.specs.Rounds.{AreRoundSteps}
use Rattle.ht_quasi.specs.declared.step.Step.{Step}
use Rattle.ht_quasi.specs.Kept.{place_after, AreAllInside, IsRenewed}
use Rattle.ht_quasi.specs.Walks.{AreBadPlaces}
use Rattle.ht_quasi.proofs.KeptLaws.{place_of_all, all_inside}
use Rattle.ht_quasi.proofs.RoundLaws.{AreBadMarks, bad_marks}
use Rattle.ht_quasi.proofs.ExpandedLaws.{under_expanded, count_set, length-expanded, none_set}

-- every semi-normal basis is under the basis, and so much of the budget is left
pub record IsOnTheWay (shape : Shape) (p : List Row) (budget left : ℕ) (basis : BasisValue) : Type 0 where
  pub shape_is : basis.shape ≡ shape
  pub wide : (W : List Word) → IsSemiNormal shape p W → IsAllUnder W basis.words
  pub size : length basis.words + left * (shape.n - 1) ≡ shape.r + budget * (shape.n - 1)

-- at the roots nothing is spent
pub at_roots : (shape given : Shape) (p : List Row) (budget : ℕ) (basis : BasisValue) → given ≡ shape → (basis.shape ≡ given) × (basis.words ≡ roots given) → IsOnTheWay shape p budget budget basis
at_roots shape given p budget basis e h =
    let words_are : basis.words ≡ roots shape = h.1 ∙ ap roots e in
    record {
      shape_is = h.0 ∙ e;
      wide = λ W semi. subst (IsAllUnder W) (sym words_are) (All-from_contains (λ w. IsUnderSome w (roots shape)) W (λ w c. under_roots shape w (basis_word shape W semi.basis w c)));
      size = omega (arith, ap (λ (X : List Word). length X) words_are, length-roots shape.r);
    }

-- a semi-normal basis under X is under it when the words of bad chains have given way
kept_wide : (shape : Shape) (p : List Row) → IsCanonical shape p → (X : List Word) (marks : List Bool) → AreBadMarks shape p X marks → ((W : List Word) → IsSemiNormal shape p W → IsAllUnder W X)
    → (W : List Word) → IsSemiNormal shape p W → IsAllUnder W (expanded_at shape X marks)
kept_wide shape p canonical X marks bad wide W semi = All-from_contains (λ w. IsUnderSome w (expanded_at shape X marks)) W (λ w c.
    under_expanded shape X marks w (basis_word shape W semi.basis w c) (above w c) (λ m.
    let b = bad.bad m.place w m.here m.marked in
    bad_word_out shape p canonical.pair X W semi (λ u s. some_trans s.under (above s.above s.listed)) w b.before b.behind b.comes b.leads c))
  where
    above : (w : Word) → Contains W w → IsUnderSome w X
    above w c = All-contains (λ w. IsUnderSome w X) W w (wide W semi) c

-- one round
pub after_round : (shape : Shape) (p : List Row) (budget left : ℕ) (old new : BasisValue) (marks : List Bool) (count : ℕ) → IsCanonical shape p → IsOnTheWay shape p budget left old → AreBadMarks shape p old.words marks
    → count ≡ count_set marks → count ≤ left → (new.shape ≡ old.shape) × (new.words ≡ expanded_at old.shape old.words marks) → IsOnTheWay shape p budget (left - count) new
after_round shape p budget left old new marks count canonical way bad counted within h =
    let words_are : new.words ≡ expanded_at shape old.words marks = h.1 ∙ ap (λ s. expanded_at s old.words marks) way.shape_is in
    record {
      shape_is = h.0 ∙ way.shape_is;
      wide = λ W semi. subst (IsAllUnder W) (sym words_are) (kept_wide shape p canonical old.words marks bad way.wide W semi);
      size = spent (length old.words) (length new.words) left count (left - count) (shape.n - 1) (shape.r + budget * (shape.n - 1)) way.size
          (ap (λ (X : List Word). length X) words_are ∙ length-expanded shape old.words marks bad.many ∙ ap (λ k. length old.words + k * (shape.n - 1)) (sym counted)) (omega arith);
    }
  where
    spent : (before after left count rest each all : ℕ) → before + left * each ≡ all → after ≡ before + count * each → left ≡ rest + count → after + rest * each ≡ all
    spent before after left count rest each all e f g = omega (arith, ap (λ k. k * each) g)

-- without a mark there is no bad chain
no_bad_chain : (shape : Shape) (p : List Row) → IsCanonical shape p → (X : List Word) (marks : List Bool) → AreBadMarks shape p X marks → count_set marks ≡ 0 → HasNoBadChain shape p X
no_bad_chain shape p canonical X marks bad none = elim (bad_or_none shape p canonical.pair canonical.reduced X bad.held.basis) [
  | inr h ↦ h
  | inl b ↦ absurd (
      let c = b.listed in
      none_set marks none c.0 (bad.all c.0 b.start (slice_get_read X (length X) c.0 b.start refl c.1 (sym c.2)) (record { joined = b.joined; steps = b.steps; leads = b.leads })))
]

-- so the basis is the least semi-normal one
pub least_at_end : (shape : Shape) (p : List Row) (budget left : ℕ) (basis : BasisValue) (marks : List Bool) → IsCanonical shape p → IsOnTheWay shape p budget left basis → AreBadMarks shape p basis.words marks → count_set marks ≡ 0
    → (basis.shape ≡ shape) × IsQuasinormal shape p basis.words
least_at_end shape p budget left basis marks canonical way bad none = (
  way.shape_is,
  record {
    semi_normal = semi_normal_without shape p canonical.pair basis.words (no_bad_chain shape p canonical basis.words marks bad none);
    ascending = bad.held.ascending;
    least = way.wide;
  },
)

-- what was taken is within the budget
pub within_at_end : (shape : Shape) (p : List Row) (budget left : ℕ) (basis : BasisValue) → IsOnTheWay shape p budget left basis → TakesAtMost shape basis.words budget
within_at_end shape p budget left basis way = omega (arith, way.size)

-- where the round would take more than is left, the least semi-normal basis takes more than the budget
pub over_budget : (shape : Shape) (p : List Row) (budget left : ℕ) (basis : BasisValue) (marks : List Bool) (count : ℕ) → IsCanonical shape p → IsOnTheWay shape p budget left basis → AreBadMarks shape p basis.words marks
    → count ≡ count_set marks → left < count → (X : List Word) × IsQuasinormal shape p X × ¬ TakesAtMost shape X budget
over_budget shape p budget left basis marks count canonical way bad counted more =
    let q = quasinormal_exists shape p canonical.pair canonical.reduced in
    let new = expanded_at shape basis.words marks in
    let fewer = no_fewer_below shape new q.0 (held_expanded_at shape basis.words marks bad.held).basis q.1.semi_normal.basis (kept_wide shape p canonical basis.words marks bad way.wide q.0 q.1.semi_normal) in (
      q.0,
      q.1,
      λ h. too_many (length basis.words) (length new) (length q.0) left count (shape.n - 1) (shape.r + budget * (shape.n - 1)) way.size
          (length-expanded shape basis.words marks bad.many ∙ ap (λ k. length basis.words + k * (shape.n - 1)) (sym counted)) fewer h more (omega (arith, shape.letters_low)),
    )
  where
    too_many : (before after least left count each all : ℕ) → before + left * each ≡ all → after ≡ before + count * each → after ≤ least → least ≤ all → left < count → 0 < each → ⊥
    too_many before after least left count each all e f g h more some = absurd (omega (arith, mul-le-mul_left {m = left + 1} {n = count} each (omega arith)))

-- the budget was less than enough for any pair of so many rows
pub not_enough : (shape : Shape) (p : List Row) (budget : ℕ) → IsCanonical shape p → (X : List Word) × IsQuasinormal shape p X × ¬ TakesAtMost shape X budget → (d : ℕ) → length p ≡ shape.r + d * (shape.n - 1)
    → budget * (shape.n - 1) + shape.r < shape.r * shape.n ^ d
not_enough shape p budget canonical q d e =
    elim (cases_lt (budget * (shape.n - 1) + shape.r) (shape.r * shape.n ^ d)) [
      | inl l ↦ l
      | inr l ↦ absurd (q.2 (omega (arith, l, quasinormal_size shape p canonical.pair canonical.reduced q.0 q.1 d e)))
    ]

-- ---- the rounds

-- the basis on the way, with the steps of its words ahead and back
pub record HasBothSteps (shape : Shape) (p q : List Row) (budget left : ℕ) (basis : BasisValue) (ahead behind : List Step) : Type 0 where
  pub way : IsOnTheWay shape p budget left basis
  pub steps : AreRoundSteps shape p basis.words ahead
  pub back : AreRoundSteps shape q basis.words behind

-- there are few words on the way
pub few_words : (shape : Shape) (p q : List Row) (budget left : ℕ) (basis : BasisValue) (ahead behind : List Step) (marks : List Bool) → budget ≤ 65536 → HasBothSteps shape p q budget left basis ahead behind → AreBadPlaces ahead behind marks → length marks < 2 ^ 32
few_words shape p q budget left basis ahead behind marks l r bad =
    omega (arith, bad.many, r.steps.many, r.way.size, shape.roots_high, shape.letters_high, mul-le-mul_left {m = budget} {n = 65536} (shape.n - 1) l)

-- as many words come after as are told
pub words_after : (shape : Shape) (p q : List Row) (budget left : ℕ) (old new : BasisValue) (ahead behind : List Step) (marks given : List Bool) → HasBothSteps shape p q budget left old ahead behind → AreBadPlaces ahead behind marks → given ≡ marks
    → (new.shape ≡ old.shape) × (new.words ≡ expanded_at old.shape old.words given) → (new.shape ≡ shape) × (new.words ≡ expanded_at shape old.words marks) × (length new.words ≡ place_after shape.n marks (length marks))
words_after shape p q budget left old new ahead behind marks given r bad e h =
    let words_are : new.words ≡ expanded_at shape old.words marks = h.1 ∙ ap (λ s. expanded_at s old.words given) r.way.shape_is ∙ ap (λ (t : List Bool). expanded_at shape old.words t) e in (
      h.0 ∙ r.way.shape_is,
      words_are,
      ap (λ (X : List Word). length X) words_are ∙ place_of_all shape old.words marks (bad.many ∙ r.steps.many),
    )

pub places_bad : (ahead behind given other : List Step) (marks : List Bool) → given ≡ ahead → other ≡ behind → AreBadPlaces given other marks → AreBadPlaces ahead behind marks
places_bad ahead behind given other marks e f bad = subst₂ (λ (x y : List Step). AreBadPlaces x y marks) e f bad

-- the marks of a round
pub round_marks : (shape : Shape) (p q : List Row) (budget left : ℕ) (basis : BasisValue) (ahead behind : List Step) (marks : List Bool) → IsCanonical shape p → IsPower shape p (negsuc 0) q → HasBothSteps shape p q budget left basis ahead behind → AreBadPlaces ahead behind marks
    → AreBadMarks shape p basis.words marks
round_marks shape p q budget left basis ahead behind marks canonical power r bad = bad_marks shape p q canonical.pair power basis.words ahead behind marks r.steps r.back bad

-- the steps after a round
pub renewed : (shape given : Shape) (p : List Row) (steps told : List Step) (marks set : List Bool) (before X : List Word) (new : List Step) → given ≡ shape → told ≡ steps → set ≡ marks → IsRenewed given p told set X new → AreRoundSteps shape p before steps → X ≡ expanded_at shape before marks
    → AreRoundSteps shape p X new
renewed shape given p steps told marks set before X new e f g h old is =
    subst (λ (s : Shape). AreRoundSteps s p X new) e (h before (subst (λ (s : Shape). AreRoundSteps s p before told) (sym e) (subst (AreRoundSteps shape p before) (sym f) old))
    (is ∙ ap (λ (m : List Bool). expanded_at shape before m) (sym g) ∙ ap (λ (s : Shape). expanded_at s before set) (sym e)))

-- they tell of places of the basis
pub told_inside : (shape : Shape) (p : List Row) (X : List Word) (steps told : List Step) (marks set : List Bool) → told ≡ steps → set ≡ marks → length marks ≡ length X → AreRoundSteps shape p X steps → AreAllInside told (length set)
told_inside shape p X steps told marks set e f many h = all_inside shape p X told (length set) (subst (AreRoundSteps shape p X) (sym e) h) (ap (λ (m : List Bool). length m) f ∙ many)
