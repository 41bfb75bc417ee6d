-- Walks by the steps of a basis, and the marks on them.
use Rattle.std.proofs.Common.{◌≡◌, ℕ, zero, suc, ◌+◌, ◌<◌, ◌≤◌, ◌⊎◌, inl, inr, Bool, true, false, List, length, replicate, set, get_or, Some, slice_get, refl, sym, ap, ◌∙◌, subst, arith, get_or-set_same, get_or-set_other}
use Rattle.std.proofs.lemmas.Bool.{cases_lt, false≢true}
use Rattle.std.proofs.lemmas.List.{length-replicate, length-set}
use Rattle.std.proofs.lemmas.Option.{slice_get_within, slice_get-get_or}
use Rattle.ht_word.proofs.Deciding.{same_or_not}
use Rattle.ht_quasi.specs.declared.step.Step.{Step}
use Rattle.ht_quasi.specs.declared.step.Step.TheVariants.{Splits, Next, Descends}
use Rattle.ht_quasi.specs.Rounds.{IsMarked}
use Rattle.ht_quasi.specs.Walks.{SplitsAfter, FollowsIn, IsOnWalk, IsBadPlace, AreBadPlaces}

-- the step at a place
pub step_at : (steps : List Step) (place : ℕ) (d step : Step) → place < length steps → get_or steps place d ≡ step → slice_get steps place ≡ Some step
step_at steps place d step l e = slice_get-get_or steps place d l ∙ ap (λ (t : Step). Some t) e

-- ---- the search for a split

-- so many steps were taken from the start to the place
pub record IsWalkSoFar (steps : List Step) (start count place : ℕ) : Type 0 where
  pub inside : place < length steps
  pub on : (k : ℕ) → SplitsAfter steps k place → SplitsAfter steps (count + k) start
  pub off : (k : ℕ) → SplitsAfter steps k start → (j : ℕ) × (k ≡ count + j) × SplitsAfter steps j place

pub not_walked : (steps : List Step) (start : ℕ) → start < length steps → IsWalkSoFar steps start 0 start
not_walked steps start inside = record {
  inside = inside;
  on = λ k h. subst (λ j. SplitsAfter steps j start) (omega arith) h;
  off = λ k h. (k, omega arith, h);
}

-- what leads on from a place whose step is known
leads_on : (steps : List Step) (place next k : ℕ) → slice_get steps place ≡ Some (Next next) → SplitsAfter steps k place → (j : ℕ) × (k ≡ suc j) × SplitsAfter steps j next
unfolding SplitsAfter
leads_on steps place next zero here h = absurd (let e : Some (Next next) ≡ Some Splits = sym here ∙ h in cc)
leads_on steps place next (suc k) here h = (k, refl, (let e : Some (Next next) ≡ Some (Next h.0) = sym here ∙ h.1 in let same : h.0 ≡ next = cc in subst (SplitsAfter steps k) same h.2))

leads_from : (steps : List Step) (place next k : ℕ) → slice_get steps place ≡ Some (Next next) → SplitsAfter steps k next → SplitsAfter steps (suc k) place
unfolding SplitsAfter
leads_from steps place next k here h = (next, here, h)

pub walked_on : (steps : List Step) (start count place next : ℕ) → IsWalkSoFar steps start count place → slice_get steps place ≡ Some (Next next) → next < length steps → IsWalkSoFar steps start (count + 1) next
walked_on steps start count place next w here inside = record {
  inside = inside;
  on = λ k h. subst (λ j. SplitsAfter steps j start) (omega arith) (w.on (suc k) (leads_from steps place next k here h));
  off = λ k h.
      let f = w.off k h in
      let g = leads_on steps place next f.0 here f.2 in
      (g.0, omega (arith, f.1, g.1), g.2);
}

-- at a word that splits the walk ends
pub walked_out : (steps : List Step) (start count place : ℕ) → IsWalkSoFar steps start count place → slice_get steps place ≡ Some Splits → SplitsAfter steps count start
unfolding SplitsAfter
walked_out steps start count place w here = subst (λ j. SplitsAfter steps j start) (omega arith) (w.on 0 here)

-- a word that descends leads to none
pub walked_down : (steps : List Step) (start count place below : ℕ) → IsWalkSoFar steps start count place → slice_get steps place ≡ Some (Descends below) → (k : ℕ) → k < length steps → ¬ SplitsAfter steps k start
unfolding SplitsAfter
walked_down steps start count place below w here k l h = none (w.off k h).0 (w.off k h).2
  where
    none : (j : ℕ) → SplitsAfter steps j place → ⊥
    none zero g = let e : Some (Descends below) ≡ Some Splits = sym here ∙ g in cc
    none (suc j) g = let e : Some (Descends below) ≡ Some (Next g.0) = sym here ∙ g.1 in cc

-- nor does one from which as many steps were taken as there are words
pub walked_far : (steps : List Step) (start count place : ℕ) → IsWalkSoFar steps start count place → length steps ≤ count → (k : ℕ) → k < length steps → ¬ SplitsAfter steps k start
walked_far steps start count place w far k l h = absurd (let f = (w.off k h).1 in omega arith)

-- ---- marks

pub mark_here : (marks : List Bool) (place : ℕ) → place < length marks → IsMarked (set marks place true) place
mark_here marks place l = get_or-set_same marks place true false l

pub mark_kept : (marks : List Bool) (place other : ℕ) → place < length marks → IsMarked marks other → IsMarked (set marks place true) other
mark_kept marks place other l h = elim (same_or_not other place) [
  | inl e ↦ subst (IsMarked (set marks place true)) (sym e) (mark_here marks place l)
  | inr n ↦ get_or-set_other marks place other true false n ∙ h
]

pub mark_only : (marks : List Bool) (place other : ℕ) → IsMarked (set marks place true) other → IsMarked marks other ⊎ (other ≡ place)
mark_only marks place other h = elim (same_or_not other place) [
  | inl e ↦ inr e
  | inr n ↦ inl (sym (get_or-set_other marks place other true false n) ∙ h)
]

-- the marks on a walk, up to a place that isn't marked yet
pub record AreOnWalk (steps : List Step) (count start : ℕ) (old marks : List Bool) (taken place : ℕ) : Type 0 where
  pub follows : FollowsIn steps taken start place
  pub inside : place < length steps
  pub left : ℕ
  pub all : taken + left ≡ count
  pub leads : SplitsAfter steps left place
  pub begun : IsMarked (set marks place true) start
  pub kept : (other : ℕ) → IsMarked old other → IsMarked marks other
  pub only : (other : ℕ) → IsMarked marks other → IsMarked old other ⊎ IsOnWalk steps count start other

-- a place on a walk is a place
pub leads_inside : (steps : List Step) (k place : ℕ) → SplitsAfter steps k place → place < length steps
unfolding SplitsAfter
leads_inside steps zero place h = slice_get_within steps place Splits h
leads_inside steps (suc k) place h = slice_get_within steps place (Next h.0) h.1

pub none_on_walk : (steps : List Step) (count start : ℕ) (marks : List Bool) → length marks ≡ length steps → SplitsAfter steps count start → AreOnWalk steps count start marks marks 0 start
unfolding FollowsIn
none_on_walk steps count start marks many leads = record {
  follows = refl;
  inside = leads_inside steps count start leads;
  left = count;
  all = omega arith;
  leads = leads;
  begun = mark_here marks start (omega (arith, many, leads_inside steps count start leads));
  kept = λ other h. h;
  only = λ other h. inl h;
}

-- before the end of the walk each word has a next one
pub has_next : (steps : List Step) (count start : ℕ) (old marks : List Bool) (taken place : ℕ) → AreOnWalk steps count start old marks taken place → taken < count → (next : ℕ) × (slice_get steps place ≡ Some (Next next))
unfolding SplitsAfter
has_next steps count start old marks taken place w l = by w.left (omega (arith, w.all)) w.leads
  where
    by : (left : ℕ) → 0 < left → SplitsAfter steps left place → (next : ℕ) × (slice_get steps place ≡ Some (Next next))
    by zero l h = absurd (omega arith)
    by (suc left) l h = (h.0, h.1)

follows_then : (steps : List Step) (taken start place next : ℕ) → FollowsIn steps taken start place → slice_get steps place ≡ Some (Next next) → FollowsIn steps (suc taken) start next
unfolding FollowsIn
follows_then steps taken start place next f here = (place, f, here)

follows_on : (steps : List Step) (taken start place next : ℕ) → FollowsIn steps taken start place → slice_get steps place ≡ Some (Next next) → FollowsIn steps (taken + 1) start next
follows_on steps taken start place next f here = subst (λ k. FollowsIn steps k start next) (omega arith) (follows_then steps taken start place next f here)

-- what was marked on the way, with the place
only_on : (steps : List Step) (count start : ℕ) (old marks : List Bool) (taken place : ℕ) → AreOnWalk steps count start old marks taken place → (other : ℕ) → IsMarked (set marks place true) other → IsMarked old other ⊎ IsOnWalk steps count start other
only_on steps count start old marks taken place w other h = elim (mark_only marks place other h) [
  | inl m ↦ w.only other m
  | inr e ↦ inr (record {
    before = taken;
    behind = w.left;
    all = w.all;
    follows = subst (FollowsIn steps taken start) (sym e) w.follows;
    leads = subst (SplitsAfter steps w.left) (sym e) w.leads;
  })
]

pub one_more_on_walk : (steps : List Step) (count start : ℕ) (old marks : List Bool) (taken place next : ℕ) → length marks ≡ length steps → AreOnWalk steps count start old marks taken place
    → slice_get steps place ≡ Some (Next next) → AreOnWalk steps count start old (set marks place true) (taken + 1) next
one_more_on_walk steps count start old marks taken place next many w here =
    let rest = leads_on steps place next w.left here w.leads in
    let inside = leads_inside steps rest.0 next rest.2 in
    record {
      follows = follows_on steps taken start place next w.follows here;
      inside = inside;
      left = rest.0;
      all = omega (arith, w.all, rest.1);
      leads = rest.2;
      begun = mark_kept (set marks place true) next start (omega (arith, many, inside, length-marked marks place)) w.begun;
      kept = λ other h. mark_kept marks place other (omega (arith, many, w.inside)) (w.kept other h);
      only = only_on steps count start old marks taken place w;
    }
  where
    length-marked : (marks : List Bool) (place : ℕ) → length (set marks place true) ≡ length marks
    length-marked marks place = omega (arith, length-set {A = Bool})

-- what the marks are at the end of the walk
pub kept_at_end : (steps : List Step) (count start : ℕ) (old marks : List Bool) (taken place : ℕ) → length marks ≡ length steps → AreOnWalk steps count start old marks taken place → (other : ℕ) → IsMarked old other → IsMarked (set marks place true) other
kept_at_end steps count start old marks taken place many w other h = mark_kept marks place other (omega (arith, many, w.inside)) (w.kept other h)

pub only_at_end : (steps : List Step) (count start : ℕ) (old marks : List Bool) (taken place : ℕ) → AreOnWalk steps count start old marks taken place → (other : ℕ) → IsMarked (set marks place true) other → IsMarked old other ⊎ IsOnWalk steps count start other
only_at_end steps count start old marks taken place w other h = only_on steps count start old marks taken place w other h

-- ---- the marks of all bad places

-- the marks are those of the walks from the first starts
pub record AreBadSoFar (ahead behind : List Step) (marks : List Bool) (count : ℕ) : Type 0 where
  pub many : length marks ≡ length ahead
  pub bad : (place : ℕ) → IsMarked marks place → IsBadPlace ahead behind place
  pub all : (start k : ℕ) → start < count → slice_get behind start ≡ Some Splits → k < length ahead → SplitsAfter ahead k start → IsMarked marks start

pub none_bad_yet : (ahead behind : List Step) (marks : List Bool) → marks ≡ replicate (length ahead) false → AreBadSoFar ahead behind marks 0
none_bad_yet ahead behind marks e = subst (λ t. AreBadSoFar ahead behind t 0) (sym e) (record {
  many = length-replicate (length ahead) false;
  bad = λ place h. absurd (false≢true (sym (unmarked (length ahead) place) ∙ h));
  all = λ start k l s m h. absurd (omega arith);
})
  where
    unmarked : (n place : ℕ) → get_or (replicate n false) place false ≡ false
    unmarked zero place = refl
    unmarked (suc n) zero = refl
    unmarked (suc n) (suc place) = unmarked n place

pub one_more_start : (ahead behind : List Step) (marks new : List Bool) (start : ℕ) → AreBadSoFar ahead behind marks start → length new ≡ length marks
    → ((k : ℕ) → slice_get behind start ≡ Some Splits → k < length ahead → SplitsAfter ahead k start → IsMarked new start) → ((place : ℕ) → IsMarked marks place → IsMarked new place)
    → ((place : ℕ) → IsMarked new place → IsMarked marks place ⊎ IsBadPlace ahead behind place) → AreBadSoFar ahead behind new (start + 1)
one_more_start ahead behind marks new start h many all kept only = record {
  many = many ∙ h.many;
  bad = λ place m. elim (only place m) [ inl k ↦ h.bad place k | inr b ↦ b ];
  all = λ other k l s m leads. elim (cases_lt other start) [
    | inl less ↦ kept other (h.all other k less s m leads)
    | inr more ↦ (let same : other ≡ start = omega arith in subst (IsMarked new) (sym same) (all k (subst (λ t. slice_get behind t ≡ Some Splits) same s) m (subst (SplitsAfter ahead k) same leads)))
  ];
}

pub all_bad : (ahead behind : List Step) (marks : List Bool) (count : ℕ) → length ahead ≤ count → AreBadSoFar ahead behind marks count → AreBadPlaces ahead behind marks
all_bad ahead behind marks count l h = record {
  many = h.many;
  bad = h.bad;
  all = λ start k s m leads. h.all start k (omega (arith, leads_inside ahead k start leads)) s m leads;
}
