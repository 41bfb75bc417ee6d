-- The round of an attractor, and the earliest word of the basis on it.
use Rattle.std.proofs.Common.{◌≡◌, ◌≢◌, ℕ, ◌+◌, ◌-◌, ◌≤◌, ◌<◌, inl, inr, List, [], ◌++◌, length, Some, slice_get, refl, sym, ap, ◌∙◌, subst, arith, Contains, pos, ◌+ℤ◌, ◌^◌}
use Rattle.std.specs.declared.cmp.Ordering.TheVariants.{Less}
use Rattle.std.proofs.lemmas.Bool.{cases_lt}
use Rattle.std.proofs.lemmas.Int.{ints}
use Rattle.std.proofs.lemmas.List.{length-append}
use Rattle.std.proofs.lemmas.Option.{get_or_from_slice_get, slice_get_within}
use Rattle.ht_word.specs.Words.{◌·◌, word_cmp, IsAscending}
use Rattle.ht_word.specs.declared.shape.Shape.{Shape}
use Rattle.ht_word.specs.declared.word.Word.{Word}
use Rattle.ht_word.proofs.WordLaws.{after-append, after-nil, under_after, word_cmp_once, word_rest}
use Rattle.ht_pair.specs.SemiNormal.{CarriesUnder}
use Rattle.ht_pair.specs.Steps.{Carries}
use Rattle.ht_pair.specs.declared.row.Row.{Row}
use Rattle.ht_pair.proofs.BasisLaws.{basis_single, basis_word}
use Rattle.ht_pair.proofs.CarriesLaws.{carries_single, carries_word, carries_extends, carries_rest, carries_sum, carries_itself}
use Rattle.ht_quasi.proofs.StepLaws.{listed_at, same_at}
use Rattle.ht_types.specs.WordSteps.{HasStep}
use Rattle.ht_types.specs.declared.step.Step.{Step}
use Rattle.ht_types.proofs.CourseLaws.{same_place}
use Rattle.ht_types.proofs.PeriodicLaws.{carried_further}
use Rattle.ht_types.proofs.TurnLaws.{HasSemiNormal}
use Rattle.ht_flow.specs.Rounds.{IsAttractorAt, IsStage, IsNextStage, IsHead, IsSooner}
use Rattle.ht_flow.specs.declared.round.Stage.{Stage}
use Rattle.ht_types.proofs.AttractorLaws.{IsAttractorOf, moved_ahead}

-- the attractor at a place
pub attractor_of : {shape : Shape} {p : List Row} {X : List Word} {at m : ℕ} {by : List ℕ} → (a : IsAttractorAt shape p X at m by) → IsAttractorOf shape p X a.above m by
attractor_of {shape} {p} {X} {at} a = record { listed = listed_at X at a.above a.here; attractor = a.attractor }

-- what stands behind a word on the round ends the letters of the attractor
pub round_back : {shape : Shape} {p : List Row} {X : List Word} {a : Word} {m : ℕ} {G : List ℕ} → HasSemiNormal shape p X → IsAttractorOf shape p X a m G → (j : ℕ) (y : Word) (c : List ℕ) → j ≤ m → Contains X y → Carries shape p (pos j) a (y · c) → (d : List ℕ) × (d ++ c ≡ G)
round_back {shape} {p} {X} {a} {m} {G} h at j y c l listed carries =
    let i = m - j in
    let rest = carries_rest shape p h.pair (pos j) (pos i) (pos m) (sum j m l) a (y · c) (a · G) carries at.attractor.lengthens.1 in
    let f = carried_further shape p h.pair X h.semi.basis (pos i) y a c G at.listed (word_rest shape y c rest.word) (moved_ahead h at (pos j) y c listed carries i) rest in
    (f.letters, f.is)
  where
    sum : (j m : ℕ) → j ≤ m → pos j +ℤ pos (m - j) ≡ pos m
    sum j m l = omega (arith, ints)

-- so there are no more of them
pub round_short : {shape : Shape} {p : List Row} {X : List Word} {a : Word} {m : ℕ} {G : List ℕ} → HasSemiNormal shape p X → IsAttractorOf shape p X a m G → (j : ℕ) (y : Word) (c : List ℕ) → j ≤ m → Contains X y → Carries shape p (pos j) a (y · c) → length c ≤ length G
round_short h at j y c l listed carries = let r = round_back h at j y c l listed carries in omega (arith, length-append r.0 c, ap (λ (t : List ℕ). length t) r.1)

-- ---- stages

pub stage_on : {shape : Shape} {p : List Row} {X : List Word} → HasSemiNormal shape p X → (a : Word) (stage next : Stage) (s : IsStage shape p X a stage) → IsNextStage shape p X s.above stage next → IsStage shape p X a next
stage_on {shape} {p} {X} h a stage next s n =
    let hb = word_rest shape s.above s.behind (carries_word shape p h.pair (pos stage.steps) a (s.above · s.behind) s.carries) in
    record {
      above = n.above;
      here = n.here;
      behind = n.behind ++ s.behind;
      as_many = omega (arith, length-append n.behind s.behind, s.as_many, n.as_many);
      carries = carries_sum shape p h.pair (pos stage.steps) (pos 1) (pos next.steps) (sum n.steps) a (s.above · s.behind) (n.above · (n.behind ++ s.behind)) s.carries
          (subst (Carries shape p (pos 1) (s.above · s.behind)) (after-append n.above n.behind s.behind) (carries_extends shape p (pos 1) s.above (n.above · n.behind) s.behind hb n.carries));
    }
  where
    sum : next.steps ≡ stage.steps + 1 → pos stage.steps +ℤ pos 1 ≡ pos next.steps
    sum e = omega (arith, ints)

-- two words of X above one word stand at one place
one_place : {shape : Shape} {p : List Row} {X : List Word} → HasSemiNormal shape p X → (i j : ℕ) (x y : Word) (c d : List ℕ) → slice_get X i ≡ Some x → slice_get X j ≡ Some y → x · c ≡ y · d → i ≡ j
one_place {shape} {p} {X} h i j x y c d here there e =
    let one = basis_single shape X h.semi.basis (x · c) x y (listed_at X i x here) (listed_at X j y there) (under_after x c) (record { rest = d; is = e }) in
    same_place X h.semi.basis.prefix_free i j x y here there one

-- the attractor itself, after no steps
pub head_begins : {shape : Shape} {p : List Row} {X : List Word} → HasSemiNormal shape p X → (a : Word) (stage : Stage) → slice_get X stage.at ≡ Some a → stage.steps ≡ 0 → stage.letters ≡ 0 → IsHead shape p X a 1 stage
head_begins {shape} {p} {X} h a stage here none no_letters =
    let ha = basis_word shape X h.semi.basis a (listed_at X stage.at a here) in
    let top : Carries shape p (pos 0) a (a · []) = subst (Carries shape p (pos 0) a) (sym (after-nil a)) (carries_itself shape p a ha) in
    record {
      stage = record { above = a; here = here; behind = []; as_many = sym no_letters; carries = subst (λ k. Carries shape p (pos k) a (a · [])) (sym none) top };
      within = omega arith;
      first = λ j place x z l there c.
          let first : Carries shape p (pos 0) a (x · z) = subst (λ k. Carries shape p (pos k) a (x · z)) (let e : j ≡ 0 = omega arith in e) c in
          let e = one_place h stage.at place a x [] z here there (carries_single shape p h.pair (pos 0) a (a · []) (x · z) top first) in
          omega arith;
    }

-- one more stage
pub head_more : {shape : Shape} {p : List Row} {X : List Word} → HasSemiNormal shape p X → (a : Word) (count : ℕ) (head next new : Stage) → IsHead shape p X a count head → IsStage shape p X a next → next.steps ≡ count → IsSooner head next new → IsHead shape p X a (count + 1) new
head_more {shape} {p} {X} h a count head next new g s is sooner = by sooner
  where
    at_next : (j place : ℕ) (x : Word) (z : List ℕ) → j < count + 1 → count ≤ j → slice_get X place ≡ Some x → Carries shape p (pos j) a (x · z) → next.at ≡ place
    at_next j place x z l m there c =
        let same : j ≡ next.steps = omega arith in
        one_place h next.at place s.above x s.behind z s.here there (carries_single shape p h.pair (pos next.steps) a (s.above · s.behind) (x · z) s.carries (subst (λ k. Carries shape p (pos k) a (x · z)) same c))

    first : (k : ℕ) → k ≤ head.at → k ≤ next.at → (j place : ℕ) (x : Word) (z : List ℕ) → j < count + 1 → slice_get X place ≡ Some x → Carries shape p (pos j) a (x · z) → k ≤ place
    first k l m j place x z within there c = elim (cases_lt j count) [
      | inl less ↦ (let e = g.first j place x z less there c in omega arith)
      | inr other ↦ (let e = at_next j place x z within other there c in omega arith)
    ]

    by : IsSooner head next new → IsHead shape p X a (count + 1) new
    by (inl k) = subst (IsHead shape p X a (count + 1)) (sym k.0) (record { stage = g.stage; within = (let w = g.within in omega arith); first = first head.at (omega arith) k.1 })
    by (inr k) = subst (IsHead shape p X a (count + 1)) (sym k.0) (record { stage = s; within = omega arith; first = first next.at (let l = k.1 in omega arith) (omega arith) })

-- ---- the loop

pub record IsGoingRound (shape : Shape) (p : List Row) (X : List Word) (a : Word) (count : ℕ) (stage head : Stage) : Type 0 where
  pub here : IsStage shape p X a stage
  pub reached : stage.steps + 1 ≡ count
  pub least : IsHead shape p X a count head

-- a step of the element from the word alone
pub step_top : (shape : Shape) (p : List Row) (X : List Word) (x : Word) (z : List ℕ) → z ≡ [] → (step : Step) → HasStep shape p X (pos 1) (x · z) step → HasStep shape p X (pos 1) x step
step_top shape p X x z none step h = subst (λ t. HasStep shape p X (pos 1) t step) (ap (λ y. x · y) none ∙ after-nil x) h

-- what stands at a stage is the word there
pub stage_word : {shape : Shape} {p : List Row} {X : List Word} (a x : Word) (stage : Stage) (s : IsStage shape p X a stage) → slice_get X stage.at ≡ Some x → s.above ≡ x
stage_word {shape} {p} {X} a x stage s here = same_at X X stage.at s.above x refl s.here here

pub round_begins : {shape : Shape} {p : List Row} {X : List Word} → HasSemiNormal shape p X → (a : Word) (stage : Stage) → slice_get X stage.at ≡ Some a → stage.steps ≡ 0 → stage.letters ≡ 0 → IsGoingRound shape p X a 1 stage stage
round_begins h a stage here none no_letters = let g = head_begins h a stage here none no_letters in record { here = g.stage; reached = omega arith; least = g }

pub round_more : {shape : Shape} {p : List Row} {X : List Word} → HasSemiNormal shape p X → (a : Word) (count : ℕ) (stage head next new : Stage) → IsGoingRound shape p X a count stage head → ((x : Word) → slice_get X stage.at ≡ Some x → IsNextStage shape p X x stage next) → IsSooner head next new → IsGoingRound shape p X a (count + 1) next new
round_more h a count stage head next new g n sooner =
    let more = n g.here.above g.here.here in
    let s = stage_on h a stage next g.here more in
    let e = more.steps in
    let r = g.reached in
    record { here = s; reached = omega arith; least = head_more h a count head next new g.least s (omega arith) sooner }

-- one more step leads to a word under X
pub stage_ahead : {shape : Shape} {p : List Row} {X : List Word} {a : Word} {m : ℕ} {G : List ℕ} → HasSemiNormal shape p X → IsAttractorOf shape p X a m G → (stage : Stage) → IsStage shape p X a stage → (x : Word) → slice_get X stage.at ≡ Some x → CarriesUnder shape p (pos 1) x X
stage_ahead {shape} {p} {X} {a} h at stage s x here =
    subst (λ y. CarriesUnder shape p (pos 1) y X) (stage_word a x stage s here) (moved_ahead h at (pos stage.steps) s.above s.behind (listed_at X stage.at s.above s.here) s.carries 1)

-- with few letters behind it
pub stage_few : {shape : Shape} {p : List Row} {X : List Word} {a : Word} {m : ℕ} {G : List ℕ} → HasSemiNormal shape p X → IsAttractorOf shape p X a m G → (stage : Stage) → IsStage shape p X a stage → stage.steps < m → length G < 2 ^ 64 → (x y : Word) (place : ℕ) (rest : List ℕ) → slice_get X stage.at ≡ Some x → slice_get X place ≡ Some y → Carries shape p (pos 1) x (y · rest) → stage.letters + length rest < 2 ^ 64
stage_few {shape} {p} {X} {a} {m} h at stage s less few x y place rest here there c =
    let next : Stage = record { steps = stage.steps + 1; at = place; letters = stage.letters + length rest } in
    let n : IsNextStage shape p X s.above stage next = record { above = y; here = there; behind = rest; as_many = refl; steps = refl; carries = subst (λ t. Carries shape p (pos 1) t (y · rest)) (sym (stage_word a x stage s here)) c } in
    let t = stage_on h a stage next s n in
    let short = round_short h at (stage.steps + 1) t.above t.behind (omega arith) (listed_at X place t.above t.here) t.carries in
    let many = t.as_many in
    omega arith

-- ---- order

-- no word at a later place is less
pub not_less : (X : List Word) → IsAscending X → (i j : ℕ) (x y : Word) → slice_get X i ≡ Some x → slice_get X j ≡ Some y → i ≤ j → word_cmp y x ≢ Less
not_less X ascending i j x y here there l e = elim (cases_lt i j) [
  | inl less ↦ word_cmp_once x y (rw (← get_or_from_slice_get X i x x here, ← get_or_from_slice_get X j y x there) (ascending i j x less (slice_get_within X j y there))) e
  | inr other ↦
      let same : x ≡ y = same_at X X i x y refl here (subst (λ k. slice_get X k ≡ Some y) (let g : j ≡ i = omega arith in g) there) in
      let k = subst (λ t. word_cmp y t ≡ Less) same e in
      word_cmp_once y y k k
]
