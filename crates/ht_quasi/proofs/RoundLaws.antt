-- The marks of a round are those of the words of bad chains.
use Rattle.std.proofs.Common.{◌≡◌, ℕ, zero, suc, ◌<◌, Bool, List, [], ◌∷◌, length, Some, slice_get, refl, sym, ap, ◌∙◌, subst, arith, Contains, pos, negsuc}
use Rattle.std.proofs.lemmas.Option.{slice_get_within}
use Rattle.ht_word.specs.declared.shape.Shape.{Shape}
use Rattle.ht_word.specs.declared.word.Word.{Word}
use Rattle.ht_word.specs.Words.{◌·◌}
use Rattle.ht_word.proofs.WordLaws.{after-nil, after_cancel, under_refl, under_after}
use Rattle.ht_pair.specs.BadChains.{Splits as SplitsIn, IsJoined, LeadsToSplit, ComesFromJoined}
use Rattle.ht_pair.specs.HeldBases.{IsHeldBasis}
use Rattle.ht_pair.specs.Pairs.{IsPair}
use Rattle.ht_pair.specs.Products.{IsPower}
use Rattle.ht_pair.specs.Steps.{Carries}
use Rattle.ht_pair.specs.declared.row.Row.{Row}
use Rattle.ht_pair.proofs.BasisLaws.{prefix_free_same, some_at}
use Rattle.ht_pair.proofs.CarriesLaws.{carries_single, carries_back}
use Rattle.ht_quasi.specs.declared.step.Step.{Step}
use Rattle.ht_quasi.specs.declared.step.Step.TheVariants.{Splits, Next, Descends}
use Rattle.ht_quasi.specs.Rounds.{GoesTo, GoesBelow, HasRoundStep, AreRoundSteps, IsMarked}
use Rattle.ht_quasi.specs.Walks.{StayInside, SplitsAfter, FollowsIn, AreBadPlaces}
use Rattle.ht_quasi.proofs.ChainLaws.{leads_within}
use Rattle.ht_quasi.proofs.MirrorLaws.{inverse_mirrors, under_to, under_from}
use Rattle.ht_quasi.proofs.StepLaws.{listed_at, same_at}

-- x is joined, and p carries it through words of X to one that splits
pub record BeginsBadChain (shape : Shape) (p : List Row) (X : List Word) (x : Word) : Type 0 where
  pub joined : IsJoined shape p X x
  pub steps : ℕ
  pub leads : LeadsToSplit shape p X steps x

-- a joined word of X leads to x, and x to a word that splits
pub record IsInBadChain (shape : Shape) (p : List Row) (X : List Word) (x : Word) : Type 0 where
  pub before : ℕ
  pub comes : ComesFromJoined shape p X before x
  pub behind : ℕ
  pub leads : LeadsToSplit shape p X behind x

-- words of bad chains of the basis X are marked, all that begin one among them, and no others
pub record AreBadMarks (shape : Shape) (p : List Row) (X : List Word) (marks : List Bool) : Type 0 where
  pub held : IsHeldBasis shape X
  pub many : length marks ≡ length X
  pub bad : (place : ℕ) (x : Word) → slice_get X place ≡ Some x → IsMarked marks place → IsInBadChain shape p X x
  pub all : (place : ℕ) (x : Word) → slice_get X place ≡ Some x → BeginsBadChain shape p X x → IsMarked marks place

-- ---- steps back

-- a word splits by the inverse exactly where it is joined
joined_from_split : (shape : Shape) (p q : List Row) → IsPair shape p → IsPower shape p (negsuc 0) q → (X : List Word) (x : Word) → SplitsIn shape q X x → IsJoined shape p X x
unfolding SplitsIn IsJoined
joined_from_split shape p q pair power X x s = λ c. s (under_from (inverse_mirrors shape p q pair power) (pos 1) x X c)

split_from_joined : (shape : Shape) (p q : List Row) → IsPair shape p → IsPower shape p (negsuc 0) q → (X : List Word) (x : Word) → IsJoined shape p X x → SplitsIn shape q X x
unfolding SplitsIn IsJoined
split_from_joined shape p q pair power X x j = λ c. j (under_to (inverse_mirrors shape p q pair power) (pos 1) x X c)

-- ---- steps and what is carried

-- at each place of a list something stands
pub something_at : {T : Type 0} (xs : List T) (place : ℕ) → place < length xs → (x : T) × (slice_get xs place ≡ Some x)
something_at [] place l = absurd (omega arith)
something_at (x ∷ xs) zero l = (x, refl)
something_at (x ∷ xs) (suc place) l = something_at xs place (omega arith)

-- a word that has a next word, or goes below one, doesn't split
next_no_split : (shape : Shape) (p : List Row) (X : List Word) (x : Word) (place : ℕ) → GoesTo shape p X x place → SplitsIn shape p X x → ⊥
unfolding SplitsIn
next_no_split shape p X x place g s = s (record { to = g.to; carries = g.carries; under = some_at X g.to g.to (listed_at X place g.to g.here) (under_refl g.to) })

below_no_split : (shape : Shape) (p : List Row) (X : List Word) (x : Word) (place : ℕ) → GoesBelow shape p X x place → SplitsIn shape p X x → ⊥
unfolding SplitsIn
below_no_split shape p X x place g s = s (record { to = g.above · g.rest; carries = g.carries; under = some_at X g.above (g.above · g.rest) (listed_at X place g.above g.here) (under_after g.above g.rest) })

-- a word that splits has that step
split_step : (shape : Shape) (p : List Row) (X : List Word) (steps : List Step) → AreRoundSteps shape p X steps → (place : ℕ) (x : Word) → slice_get X place ≡ Some x → SplitsIn shape p X x → slice_get steps place ≡ Some Splits
split_step shape p X steps h place x here s =
    let at = something_at steps place (omega (arith, h.many, slice_get_within X place x here)) in
    by at.0 at.1 (h.each place x at.0 here at.1)
  where
    by : (step : Step) → slice_get steps place ≡ Some step → HasRoundStep shape p X x step → slice_get steps place ≡ Some Splits
    by Splits at g = at
    by (Next next) at g = absurd (next_no_split shape p X x next g s)
    by (Descends below) at g = absurd (below_no_split shape p X x below g s)

-- a word that is carried to a word of X goes to it
exact_step : (shape : Shape) (p : List Row) → IsPair shape p → (X : List Word) (steps : List Step) → AreRoundSteps shape p X steps → (place : ℕ) (x y : Word) → slice_get X place ≡ Some x → Contains X y → Carries shape p (pos 1) x y
    → (next : ℕ) × (slice_get steps place ≡ Some (Next next)) × (slice_get X next ≡ Some y)
exact_step shape p pair X steps h place x y here c carries =
    let at = something_at steps place (omega (arith, h.many, slice_get_within X place x here)) in
    by at.0 at.1 (h.each place x at.0 here at.1)
  where
    by : (step : Step) → slice_get steps place ≡ Some step → HasRoundStep shape p X x step → (next : ℕ) × (slice_get steps place ≡ Some (Next next)) × (slice_get X next ≡ Some y)
    by Splits at g = absurd (splits_not g)
      where
        splits_not : SplitsIn shape p X x → ⊥
        splits_not s = unfold SplitsIn in s (record { to = y; carries = carries; under = some_at X y y c (under_refl y) })
    by (Next next) at g = (next, at, g.here ∙ ap (λ (t : Word). Some t) (carries_single shape p pair (pos 1) x g.to y g.carries carries))
    by (Descends below) at g = absurd (
        let is : g.above · g.rest ≡ y = carries_single shape p pair (pos 1) x (g.above · g.rest) y g.carries carries in
        let same : y ≡ g.above = prefix_free_same X h.held.basis.prefix_free y g.above c (listed_at X below g.above g.here) (record { rest = g.rest; is = sym is }) in
        g.longer (after_cancel g.above g.rest [] (is ∙ same ∙ sym (after-nil g.above))))

-- ---- walks and chains

-- a walk to a split is a chain to a word that splits
leads_words : (shape : Shape) (p : List Row) (X : List Word) (steps : List Step) → AreRoundSteps shape p X steps → (k place : ℕ) (x : Word) → slice_get X place ≡ Some x → SplitsAfter steps k place → LeadsToSplit shape p X k x
unfolding SplitsAfter LeadsToSplit
leads_words shape p X steps h zero place x here l = h.each place x Splits here l
leads_words shape p X steps h (suc k) place x here l =
    let g = h.each place x (Next l.0) here l.1 in
    (g.to, listed_at X l.0 g.to g.here, g.carries, leads_words shape p X steps h k l.0 g.to g.here l.2)

-- and the other way round
leads_places : (shape : Shape) (p : List Row) → IsPair shape p → (X : List Word) (steps : List Step) → AreRoundSteps shape p X steps → (k place : ℕ) (x : Word) → slice_get X place ≡ Some x → LeadsToSplit shape p X k x → SplitsAfter steps k place
unfolding SplitsAfter LeadsToSplit
leads_places shape p pair X steps h zero place x here l = split_step shape p X steps h place x here l
leads_places shape p pair X steps h (suc k) place x here l =
    let n = exact_step shape p pair X steps h place x l.0 here l.1 l.2 in
    (n.0, n.1, leads_places shape p pair X steps h k n.0 l.0 n.2 l.3)

-- a walk from a joined word is a chain from it
comes_words : (shape : Shape) (p : List Row) → IsPair shape p → (X : List Word) (steps : List Step) → AreRoundSteps shape p X steps → (start : ℕ) → ((y : Word) → slice_get X start ≡ Some y → IsJoined shape p X y)
    → (k place : ℕ) (x : Word) → slice_get X place ≡ Some x → FollowsIn steps k start place → ComesFromJoined shape p X k x
unfolding FollowsIn ComesFromJoined
comes_words shape p pair X steps h start joined zero place x here f = joined x (subst (λ t. slice_get X t ≡ Some x) (sym f) here)
comes_words shape p pair X steps h start joined (suc k) place x here f =
    let y = something_at X f.0 (omega (arith, h.many, slice_get_within steps f.0 (Next place) f.2)) in
    let g = h.each f.0 y.0 (Next place) y.1 f.2 in
    let same : g.to ≡ x = same_at X X place g.to x refl g.here here in
    (y.0, listed_at X f.0 y.0 y.1, carries_back shape p pair (pos 1) y.0 x (subst (Carries shape p (pos 1) y.0) same g.carries), comes_words shape p pair X steps h start joined k f.0 y.0 y.1 f.1)

-- ---- the marks

-- next places are places
pub inside_steps : (shape : Shape) (p : List Row) (X : List Word) (steps : List Step) → AreRoundSteps shape p X steps → StayInside steps
inside_steps shape p X steps h place next at =
    let x = something_at X place (omega (arith, h.many, slice_get_within steps place (Next next) at)) in
    let g = h.each place x.0 (Next next) x.1 at in
    omega (arith, h.many, slice_get_within X next g.to g.here)

-- the marked words are those of bad chains
pub bad_marks : (shape : Shape) (p q : List Row) → IsPair shape p → IsPower shape p (negsuc 0) q → (X : List Word) (ahead behind : List Step) (marks : List Bool) → AreRoundSteps shape p X ahead → AreRoundSteps shape q X behind
    → AreBadPlaces ahead behind marks → AreBadMarks shape p X marks
bad_marks shape p q pair power X ahead behind marks h g m = record {
  held = h.held;
  many = m.many ∙ h.many;
  bad = λ place x here marked.
      let b = m.bad place marked in
      record {
        before = b.on.before;
        comes = comes_words shape p pair X ahead h b.start (λ y at. joined_from_split shape p q pair power X y (g.each b.start y Splits at b.joined)) b.on.before place x here b.on.follows;
        behind = b.on.behind;
        leads = leads_words shape p X ahead h b.on.behind place x here b.on.leads;
      };
  all = λ place x here b.
      m.all place b.steps (split_step shape q X behind g place x here (split_from_joined shape p q pair power X x b.joined))
      (omega (arith, h.many, leads_within shape p pair X h.held.basis.prefix_free b.steps x (listed_at X place x here) b.leads))
      (leads_places shape p pair X ahead h b.steps place x here b.leads);
}
