-- What the steps of the words of a semi-normal basis tell of these words.
use Rattle.std.proofs.Common.{◌≡◌, ◌≢◌, ℕ, zero, suc, ◌+◌, ◌-◌, ◌*◌, ◌≤◌, ◌<◌, ◌⊎◌, inl, inr, List, [], ◌∷◌, ◌++◌, Some, slice_get, refl, sym, ap, ◌∙◌, subst, subst₂, arith, Contains, pos, neg_ℤ, ◌+ℤ◌}
use Rattle.std.proofs.lemmas.Int.{ints}
use Rattle.std.proofs.lemmas.List.Elements.{All-contains}
use Rattle.std.proofs.lemmas.Option.{slice_get_within, get_or_from_slice_get}
use Rattle.ht_num.specs.Numbers.{IsLeastPositive}
use Rattle.ht_word.specs.Words.{◌·◌, IsUnder}
use Rattle.ht_word.specs.declared.shape.Shape.{Shape}
use Rattle.ht_word.specs.declared.word.Word.{Word}
use Rattle.ht_word.proofs.WordLaws.{after-append, after-nil, after_cancel, under_after, under_refl, word_rest}
use Rattle.ht_pair.specs.Bases.{IsPrefixFree}
use Rattle.ht_pair.specs.Kinds.{IsCycle, Lengthens, IsAttractor, IsCycleWord, IsAttractorWord}
use Rattle.ht_pair.specs.Pairs.{IsPair}
use Rattle.ht_pair.specs.Reaches.{CarriesUnderSuch}
use Rattle.ht_pair.specs.SemiNormal.{StaysAhead, StaysBehind, IsSemiNormal}
use Rattle.ht_pair.specs.Steps.{Carries}
use Rattle.ht_pair.specs.declared.row.Row.{Row}
use Rattle.ht_pair.proofs.BadChainLaws.{strict_ends}
use Rattle.ht_pair.proofs.BasisLaws.{prefix_free_place, some_at, basis_single, basis_word}
use Rattle.ht_pair.proofs.CarriesLaws.{carries_single, carries_word, carries_extends, carries_back, carries_rest, carries_sum, carries_itself}
use Rattle.ht_quasi.proofs.RoundLaws.{something_at}
use Rattle.ht_quasi.proofs.StepLaws.{listed_at, same_at}
use Rattle.ht_types.specs.Courses.{Goes, IsRound, Turns, EndsFrom, JoinsFirst}
use Rattle.ht_types.specs.WordKinds.{LeadsAhead}
use Rattle.ht_types.specs.WordSteps.{HasStep, AreSteps}
use Rattle.ht_types.specs.declared.kind.Reach.{Reach}
use Rattle.ht_types.specs.declared.step.Step.{Step}
use Rattle.ht_types.specs.declared.step.Step.TheVariants.{Splits, Leads}
use Rattle.ht_types.proofs.GoesLaws.{CanGo, turns_on, first_round}
use Rattle.ht_types.proofs.OnwardLaws.{such_above}
use Rattle.ht_types.proofs.PathLaws.{goes_none, no_steps, goes_next, first_step, goes_front, turns_by}
use Rattle.ht_types.proofs.PeriodicLaws.{carries_round}

-- a semi-normal basis of a pair, with the steps of its words
pub record IsStepped (shape : Shape) (p : List Row) (X : List Word) (steps : List Step) : Type 0 where
  pub pair : IsPair shape p
  pub semi : IsSemiNormal shape p X
  pub are : AreSteps shape p X (pos 1) steps

-- the k-th power carries u to the word of X at the place y with the letters z behind it
pub record CarriesTo (shape : Shape) (p : List Row) (X : List Word) (k : ℕ) (u : Word) (y : ℕ) (z : List ℕ) : Type 0 where
  pub above : Word
  pub here : slice_get X y ≡ Some above
  pub carries : Carries shape p (pos k) u (above · z)

-- ---- what is carried in turn

-- the letters left by one power stay behind those of the next
carries_through : (shape : Shape) (p : List Row) → IsPair shape p → (j k i : ℕ) → j + k ≡ i → (u v w : Word) (y z : List ℕ) → Carries shape p (pos j) u (v · y) → Carries shape p (pos k) v (w · z) → Carries shape p (pos i) u (w · (z ++ y))
carries_through shape p pair j k i e u v w y z c d =
    let hy = word_rest shape v y (carries_word shape p pair (pos j) u (v · y) c) in
    carries_sum shape p pair (pos j) (pos k) (pos i) (omega (arith, ints)) u (v · y) (w · (z ++ y)) c
    (subst (Carries shape p (pos k) (v · y)) (after-append w z y) (carries_extends shape p (pos k) v (w · z) y hy d))

-- a power that carries v to itself carries to itself what is carried to v and further letters
carries_around : (shape : Shape) (p : List Row) → IsPair shape p → (j k : ℕ) (u v : Word) (z : List ℕ) → Carries shape p (pos j) u (v · z) → Carries shape p (pos k) v v → Carries shape p (pos k) u u
carries_around shape p pair j k u v z c d =
    let hz = word_rest shape v z (carries_word shape p pair (pos j) u (v · z) c) in
    let there : Carries shape p (pos (j + k)) u (v · z) = carries_sum shape p pair (pos j) (pos k) (pos (j + k)) (omega (arith, ints)) u (v · z) (v · z) c (carries_extends shape p (pos k) v v z hz d) in
    carries_sum shape p pair (pos (j + k)) (neg_ℤ (pos j)) (pos k) (omega (arith, ints)) u (v · z) u there (carries_back shape p pair (pos j) u (v · z) c)

-- without letters behind it a word is itself
carries_exactly : (shape : Shape) (p : List Row) (k : ℕ) (u v : Word) (z : List ℕ) → z ≡ [] → Carries shape p (pos k) u (v · z) → Carries shape p (pos k) u v
carries_exactly shape p k u v z e c = subst (Carries shape p (pos k) u) (ap (λ s. v · s) e ∙ after-nil v) c

-- ---- words that stay ahead

-- the word that a word of X that stays ahead leads to stays ahead
ahead_next : (shape : Shape) (p : List Row) → IsPair shape p → (X : List Word) → IsSemiNormal shape p X → (u v : Word) (r : List ℕ) → Contains X u → Contains X v → Carries shape p (pos 1) u (v · r) → StaysAhead shape p X u → StaysAhead shape p X v
ahead_next shape p pair X semi u v r c d carries ahead = elim (All-contains (λ t. StaysAhead shape p X t ⊎ StaysBehind shape p X t) X v semi.stays d) [
  | inl h ↦ h
  | inr behind ↦ exactly (carries_exactly shape p 1 u v r (strict_ends shape p pair X semi.basis (pos 1) u v r c carries (behind 1)) carries)
]
  where
    exactly : Carries shape p (pos 1) u v → StaysAhead shape p X v
    exactly e = λ j.
        let w = ahead (suc j) in
        record { to = w.to; carries = carries_rest shape p pair (pos 1) (pos j) (pos (suc j)) (omega (arith, ints)) u v w.to e w.carries; under = w.under }

-- a word of X that a power carries to itself with letters behind it stays ahead
back_stays : (shape : Shape) (p : List Row) → IsPair shape p → (X : List Word) → IsSemiNormal shape p X → (u : Word) → Contains X u → (k : ℕ) (z : List ℕ) → 1 ≤ k → Carries shape p (pos k) u (u · z) → StaysAhead shape p X u
back_stays shape p pair X semi u c k z positive carries = elim (All-contains (λ t. StaysAhead shape p X t ⊎ StaysBehind shape p X t) X u semi.stays c) [
  | inl h ↦ h
  | inr behind ↦ round behind (carries_exactly shape p k u u z (strict_ends shape p pair X semi.basis (pos k) u u z c carries (behind k)) carries)
]
  where
    enough : (j : ℕ) → j ≤ j * k
    enough zero = omega arith
    enough (suc j) = let r = enough j in omega arith

    less : (i j : ℕ) → j ≤ i → pos i +ℤ neg_ℤ (pos (i - j)) ≡ pos j
    less i j l = omega (arith, ints)

    round : StaysBehind shape p X u → Carries shape p (pos k) u u → StaysAhead shape p X u
    round behind e = λ j.
        let w = behind (j * k - j) in
        record {
          to = w.to;
          carries = carries_sum shape p pair (pos (j * k)) (neg_ℤ (pos (j * k - j))) (pos j) (less (j * k) j (enough j)) u u w.to (carries_round shape p pair k u e j) w.carries;
          under = w.under;
        }

-- ---- steps and what is carried

-- steps carry to where they lead
pub goes_carries : {shape : Shape} {p : List Row} {X : List Word} {steps : List Step} → IsStepped shape p X steps → (k x y : ℕ) (z : List ℕ) (u : Word) → slice_get X x ≡ Some u → Goes steps k x y z → CarriesTo shape p X k u y z
goes_carries {shape} {p} {X} {steps} h zero x y z u here g =
    let a = no_steps steps x y z g in
    let stay : Carries shape p (pos 0) u u = carries_itself shape p u (basis_word shape X h.semi.basis u (listed_at X x u here)) in
    record { above = u; here = subst (λ t. slice_get X t ≡ Some u) a.0 here; carries = subst (Carries shape p (pos 0) u) (sym (after-nil u) ∙ ap (λ s. u · s) (sym a.1)) stay }
goes_carries {shape} {p} {X} {steps} h (suc k) x y z u here g =
    let a = first_step steps k x y z g in
    let one = h.are.each x u (Leads a.next a.rest) here a.here in
    let r = goes_carries h k a.next y a.behind one.above one.here a.goes in
    record {
      above = r.above;
      here = r.here;
      carries = subst (λ s. Carries shape p (pos (suc k)) u (r.above · s)) (sym a.whole) (carries_through shape p h.pair 1 k (suc k) (omega arith) u one.above r.above a.rest a.behind one.carries r.carries);
    }

-- a word that stays ahead goes as many steps as one likes
ahead_goes : {shape : Shape} {p : List Row} {X : List Word} {steps : List Step} → IsStepped shape p X steps → (k x : ℕ) (u : Word) → slice_get X x ≡ Some u → StaysAhead shape p X u → CanGo steps k x
ahead_goes {shape} {p} {X} {steps} h zero x u here ahead = record { to = x; behind = []; goes = goes_none steps x }
ahead_goes {shape} {p} {X} {steps} h (suc k) x u here ahead =
    let at = something_at steps x (omega (arith, h.are.as_many, slice_get_within X x u here)) in
    by (λ y v there stays. ahead_goes h k y v there stays) at.0 at.1 (h.are.each x u at.0 here at.1)
  where
    by : ((y : ℕ) (v : Word) → slice_get X y ≡ Some v → StaysAhead shape p X v → CanGo steps k y) → (step : Step) → slice_get steps x ≡ Some step → HasStep shape p X (pos 1) u step → CanGo steps (suc k) x
    by further Splits at g = absurd (let c = ahead 1 in g c.to c.carries)
    by further (Leads next rest) at g =
        let c = further next g.above g.here (ahead_next shape p h.pair X h.semi u g.above rest (listed_at X x u here) (listed_at X next g.above g.here) g.carries ahead) in
        record { to = c.to; behind = c.behind ++ rest; goes = goes_next steps k x next c.to rest c.behind at c.goes }

-- a word whose steps lead to one that splits doesn't stay ahead
ends_leaves : {shape : Shape} {p : List Row} {X : List Word} {steps : List Step} → IsStepped shape p X steps → (k x last : ℕ) (z : List ℕ) (u : Word) → slice_get X x ≡ Some u → Goes steps k x last z → slice_get steps last ≡ Some Splits → StaysAhead shape p X u → ⊥
ends_leaves {shape} {p} {X} {steps} h zero x last z u here g splits ahead =
    let c = ahead 1 in
    h.are.each x u Splits here (subst (λ t. slice_get steps t ≡ Some Splits) (sym ((no_steps steps x last z g).0)) splits) c.to c.carries
ends_leaves {shape} {p} {X} {steps} h (suc k) x last z u here g splits ahead =
    let a = first_step steps k x last z g in
    let one = h.are.each x u (Leads a.next a.rest) here a.here in
    ends_leaves h k a.next last a.behind one.above one.here a.goes splits (ahead_next shape p h.pair X h.semi u one.above a.rest (listed_at X x u here) (listed_at X a.next one.above one.here) one.carries ahead)

-- a word whose steps lead to one that turns stays ahead
turns_stays : {shape : Shape} {p : List Row} {X : List Word} {steps : List Step} → IsStepped shape p X steps → (k x y : ℕ) (z : List ℕ) (u : Word) → slice_get X x ≡ Some u → Goes steps k x y z → Turns steps y → StaysAhead shape p X u
turns_stays {shape} {p} {X} {steps} h k x y z u here g turns = λ j.
    let c = turns_on steps k x y z g turns j in
    let t = goes_carries h j x c.to c.behind u here c.goes in
    record { to = t.above · c.behind; carries = t.carries; under = some_at X t.above (t.above · c.behind) (listed_at X c.to t.above t.here) (under_after t.above c.behind) }

-- ---- words that are carried back

-- a word is at one place of a basis
pub same_place : (X : List Word) → IsPrefixFree X → (x y : ℕ) (u v : Word) → slice_get X x ≡ Some u → slice_get X y ≡ Some v → u ≡ v → x ≡ y
same_place X free x y u v here there e =
    prefix_free_place X free u v (x, slice_get_within X x u here, get_or_from_slice_get X x u u here) (y, slice_get_within X y v there, get_or_from_slice_get X y v v there) (subst (IsUnder u) e (under_refl u))

-- the steps of a word that a power carries to itself with letters behind it lead back to it
pub carried_round : {shape : Shape} {p : List Row} {X : List Word} {steps : List Step} → IsStepped shape p X steps → (k x : ℕ) (z : List ℕ) (u : Word) → slice_get X x ≡ Some u → 1 ≤ k → Carries shape p (pos k) u (u · z) → Goes steps k x x z
carried_round {shape} {p} {X} {steps} h k x z u here positive carries =
    let listed = listed_at X x u here in
    let c = ahead_goes h k x u here (back_stays shape p h.pair X h.semi u listed k z positive carries) in
    let t = goes_carries h k x c.to c.behind u here c.goes in
    let is : u · z ≡ t.above · c.behind = carries_single shape p h.pair (pos k) u (u · z) (t.above · c.behind) carries t.carries in
    let same : u ≡ t.above = basis_single shape X h.semi.basis (u · z) u t.above listed (listed_at X c.to t.above t.here) (under_after u z) (record { rest = c.behind; is = is }) in
    let rests : z ≡ c.behind = after_cancel u z c.behind (is ∙ ap (λ w. w · c.behind) (sym same)) in
    subst₂ (λ i s. Goes steps k x i s) (sym (same_place X h.semi.basis.prefix_free x c.to u t.above here t.here same)) (sym rests) c.goes

-- so it turns
pub carried_turns : {shape : Shape} {p : List Row} {X : List Word} {steps : List Step} → IsStepped shape p X steps → (k x : ℕ) (z : List ℕ) (u : Word) → slice_get X x ≡ Some u → 1 ≤ k → Carries shape p (pos k) u (u · z) → Turns steps x
carried_turns {shape} {p} {X} {steps} h k x z u here positive carries = turns_by steps k x z positive (carried_round h k x z u here positive carries)

-- and so does one that is carried to itself
pub cycle_turns : {shape : Shape} {p : List Row} {X : List Word} {steps : List Step} → IsStepped shape p X steps → (k x : ℕ) (u : Word) → slice_get X x ≡ Some u → 1 ≤ k → Carries shape p (pos k) u u → Turns steps x
cycle_turns {shape} {p} {X} {steps} h k x u here positive carries = carried_turns h k x [] u here positive (subst (Carries shape p (pos k) u) (sym (after-nil u)) carries)

-- a word that doesn't turn is no cycle word
pub no_cycle : {shape : Shape} {p : List Row} {X : List Word} {steps : List Step} → IsStepped shape p X steps → (x : ℕ) (u : Word) → slice_get X x ≡ Some u → ¬ Turns steps x → ¬ IsCycleWord shape p u
no_cycle h x u here none = λ c. none (cycle_turns h c.0 x u here c.1.positive c.1.holds)

-- nor is it an attractor
pub no_attractor : {shape : Shape} {p : List Row} {X : List Word} {steps : List Step} → IsStepped shape p X steps → (x : ℕ) (u : Word) → slice_get X x ≡ Some u → ¬ Turns steps x → ¬ IsAttractorWord shape p u
no_attractor h x u here none = λ a. none (carried_turns h a.0 x a.1 u here a.2.first.positive a.2.lengthens.1)

-- ---- the kinds that the steps ahead tell

-- a word that no further letters come behind is a cycle word
pub returns_cycle : {shape : Shape} {p : List Row} {X : List Word} {steps : List Step} → IsStepped shape p X steps → (x m : ℕ) (z : List ℕ) (u : Word) → slice_get X x ≡ Some u → IsLeastPositive (IsRound steps x) m → Goes steps m x x z → z ≡ [] → IsCycle shape p u m
returns_cycle {shape} {p} {X} {steps} h x m z u here first g e =
    let t = goes_carries h m x x z u here g in
    let same : t.above ≡ u = same_at X X x t.above u refl t.here here in
    record {
      positive = first.positive;
      holds = subst (Carries shape p (pos m) u) same (carries_exactly shape p m u t.above z e t.carries);
      least = λ k low high carries. first.least k low high ([], carried_round h k x [] u here low (subst (Carries shape p (pos k) u) (sym (after-nil u)) carries));
    }

-- and one that further letters come behind is an attractor
pub returns_attractor : {shape : Shape} {p : List Row} {X : List Word} {steps : List Step} → IsStepped shape p X steps → (x m : ℕ) (z : List ℕ) (u : Word) → slice_get X x ≡ Some u → IsLeastPositive (IsRound steps x) m → Goes steps m x x z → z ≢ [] → IsAttractor shape p u m z
returns_attractor {shape} {p} {X} {steps} h x m z u here first g some =
    let t = goes_carries h m x x z u here g in
    let same : t.above ≡ u = same_at X X x t.above u refl t.here here in
    let lengthens : Lengthens shape p (pos m) u z = (some, subst (λ w. Carries shape p (pos m) u (w · z)) same t.carries) in
    record {
      lengthens = lengthens;
      first = record {
        positive = first.positive;
        holds = (z, lengthens);
        least = λ k low high l. first.least k low high (l.0, carried_round h k x l.0 u here low l.1.1);
      };
    }

-- ---- the reach

-- a word that turns and that no power carries to itself is an attractor
turned_attractor : {shape : Shape} {p : List Row} {X : List Word} {steps : List Step} → IsStepped shape p X steps → (x : ℕ) (u : Word) → slice_get X x ≡ Some u → Turns steps x → ((k : ℕ) → 1 ≤ k → ¬ Carries shape p (pos k) u u) → IsAttractorWord shape p u
turned_attractor {shape} {p} {X} {steps} h x u here turns none =
    let f = first_round steps x turns in
    by f.0 f.1 f.1.holds.0 f.1.holds.1
  where
    by : (m : ℕ) → IsLeastPositive (IsRound steps x) m → (z : List ℕ) → Goes steps m x x z → IsAttractorWord shape p u
    by m first [] g = absurd (none m first.positive ((returns_cycle h x m [] u here first g refl).holds))
    by m first (a ∷ z) g = (m, a ∷ z, returns_attractor h x m (a ∷ z) u here first g (λ e. cc))

-- no word on the way is under an attractor
none_before : {shape : Shape} {p : List Row} {X : List Word} {steps : List Step} → IsStepped shape p X steps → (x : ℕ) (u : Word) (reach : Reach) → slice_get X x ≡ Some u → JoinsFirst steps x reach
    → (j : ℕ) (w : Word) → j < reach.steps → CarriesUnderSuch shape p (IsAttractorWord shape p) X (pos j) u w → ⊥
none_before {shape} {p} {X} {steps} h x u reach here joins j w high s =
    let c = goes_front steps j reach.steps x reach.to reach.rest (omega arith) joins.goes in
    let t = goes_carries h j x c.mid c.rest u here c.first in
    let a = such_above (record { pair = h.pair; semi = h.semi }) (pos j) u t.above w c.rest (listed_at X c.mid t.above t.here) t.carries s in
    joins.first j c.mid c.rest high c.first (carried_turns h a.0 c.mid a.1 t.above t.here a.2.first.positive a.2.lengthens.1)

-- where the steps join a round, the word is first carried under an attractor
pub joins_leads : {shape : Shape} {p : List Row} {X : List Word} {steps : List Step} → IsStepped shape p X steps → (x : ℕ) (u : Word) (reach : Reach) → slice_get X x ≡ Some u → 1 ≤ reach.steps → JoinsFirst steps x reach → ¬ Turns steps x
    → LeadsAhead shape p X u reach
joins_leads {shape} {p} {X} {steps} h x u reach here positive joins none =
    let t = goes_carries h reach.steps x reach.to reach.rest u here joins.goes in
    let such : IsAttractorWord shape p t.above = turned_attractor h reach.to t.above t.here joins.turns (λ k low carries.
    none (cycle_turns h k x u here low (carries_around shape p h.pair reach.steps k u t.above reach.rest t.carries carries))) in
    let reached : CarriesUnderSuch shape p (IsAttractorWord shape p) X (pos reach.steps) u (t.above · reach.rest) =
    record { above = t.above; listed = listed_at X reach.to t.above t.here; such = such; carries = t.carries; under = under_after t.above reach.rest } in
    record {
      above = t.above;
      here = t.here;
      first = (
        turns_stays h reach.steps x reach.to reach.rest u here joins.goes joins.turns,
        record { reached = reached; first = record { positive = positive; holds = (t.above · reach.rest, reached); least = λ j low high s. none_before h x u reach here joins j s.0 high s.1 } },
      );
    }

-- the word where the reach begins doesn't turn
pub joins_no_turn : (steps : List Step) (x : ℕ) (reach : Reach) → 1 ≤ reach.steps → JoinsFirst steps x reach → ¬ Turns steps x
joins_no_turn steps x reach positive joins = joins.first 0 x [] (omega arith) (goes_none steps x)

-- ---- the end

-- a word whose steps end doesn't stay ahead
pub ends_not_ahead : {shape : Shape} {p : List Row} {X : List Word} {steps : List Step} → IsStepped shape p X steps → (x : ℕ) (u : Word) → slice_get X x ≡ Some u → EndsFrom steps x → ¬ StaysAhead shape p X u
ends_not_ahead h x u here ends = ends_leaves h ends.count x ends.last ends.behind u here ends.goes ends.splits
