-- The round at the end of a path: its letters, the courses of its words, and what is known once they are told.
use Rattle.std.proofs.Common.{◌≡◌, ◌≢◌, ℕ, zero, suc, ◌+◌, ◌-◌, ◌≤◌, ◌<◌, ◌⊎◌, inl, inr, List, [], ◌++◌, length, set, take, get_or, Option, None, Some, slice_get, refl, sym, ap, ◌∙◌, subst, arith, length-set}
use Rattle.std.proofs.lemmas.Bool.{cases_lt}
use Rattle.std.proofs.lemmas.List.{get_or_past, get_or_default, length-take-le}
use Rattle.std.proofs.lemmas.Option.{slice_get_within, slice_get-get_or, get_or_from_slice_get}
use Rattle.ht_word.proofs.Deciding.{same_or_not}
use Rattle.ht_types.specs.declared.step.Step.{Step}
use Rattle.ht_types.specs.declared.step.Step.TheVariants.{Leads}
use Rattle.ht_types.specs.declared.course.Course.{Course}
use Rattle.ht_types.specs.declared.course.Course.TheVariants.{Returns}
use Rattle.ht_types.specs.declared.course.State.{State}
use Rattle.ht_types.specs.declared.course.State.TheVariants.{New, Met, Known}
use Rattle.ht_types.specs.Courses.{Goes, IsRound, HasCourse}
use Rattle.ht_types.specs.CourseStates.{LeadsOn, IsKnown, IsNextKnown, AreStates, EndsKnown, IsRoundPath, IsPathWalked, StaysTold, IsPathSettled}
use Rattle.ht_types.proofs.PathLaws.{step_once, goes_along, goes_none, goes_next, goes_last, goes_once, round_along, round_turned, IsTurned}
use Rattle.ht_types.proofs.EntryLaws.{entry_set, entry_kept, entry_in_take, entry_of_take}
use Rattle.ht_types.proofs.StateLaws.{new_known, met_known, path_once}

-- ---- from the walk

pub walked_round : (steps : List Step) (path : List ℕ) (first x : ℕ) (states : List State) → IsPathWalked steps path first states → first < length path → x ≡ get_or path first 0 → IsRoundPath steps path first x
walked_round steps path first x states w l is = record {
  within = l;
  begins = begins;
  leads = λ i low high. elim (cases_lt (i + 1) (length path)) [
    | inl inner ↦ w.known.joined i (get_or path i x) (get_or path (i + 1) x) (slice_get-get_or path i x high) (slice_get-get_or path (i + 1) x inner)
    | inr last ↦ subst (λ a. LeadsOn steps (get_or path i x) a) (sym (get_or_past path (i + 1) x last)) (w.back i (get_or path i x) x (omega arith) (slice_get-get_or path i x high) begins)
  ];
}
  where
    begins : slice_get path first ≡ Some x
    begins = slice_get-get_or path first 0 l ∙ ap (λ a. Some a) (sym is)

-- ---- steps on a round

-- from its first word, before it is back
ahead : (steps : List Step) (path : List ℕ) (first x : ℕ) → IsRoundPath steps path first x → (k : ℕ) → first + k < length path → (z : List ℕ) × Goes steps k x (get_or path (first + k) x) z
ahead steps path first x round zero l =
    let here : x ≡ get_or path (first + 0) x = sym (ap (λ i. get_or path i x) (let e : first + 0 ≡ first = omega arith in e) ∙ get_or_from_slice_get path first x x round.begins) in
    ([], goes_along steps refl refl here refl (goes_none steps x))
ahead steps path first x round (suc k) l =
    let before = ahead steps path first x round k (omega arith) in
    let step = round.leads (first + k) (omega arith) (omega arith) in
    let next : get_or path (first + k + 1) x ≡ get_or path (first + suc k) x = ap (λ i. get_or path i x) (omega arith) in
    (step.0 ++ before.0, goes_along steps refl refl next refl (goes_last steps k x (get_or path (first + k) x) (get_or path (first + k + 1) x) before.0 step.0 before.1 step.1))

-- and back to it
back : (steps : List Step) (path : List ℕ) (first x : ℕ) → IsRoundPath steps path first x → (k i : ℕ) → first ≤ i → i + k ≡ length path → (z : List ℕ) × Goes steps k (get_or path i x) x z
back steps path first x round zero i low e = ([], goes_along steps refl refl (get_or_past path i x (omega arith)) refl (goes_none steps (get_or path i x)))
back steps path first x round (suc k) i low e =
    let behind = back steps path first x round k (i + 1) (omega arith) (omega arith) in
    let step = round.leads i low (omega arith) in
    (behind.0 ++ step.0, goes_next steps k (get_or path i x) (get_or path (i + 1) x) x step.0 behind.0 step.1 behind.1)

-- the step of a word that was read from the path
pub step_on : (steps : List Step) (path : List ℕ) (first x i d : ℕ) → IsRoundPath steps path first x → first ≤ i → i < length path → LeadsOn steps (get_or path i d) (get_or path (i + 1) x)
step_on steps path first x i d round low high = subst (λ a. LeadsOn steps a (get_or path (i + 1) x)) (get_or_default path i x d high) (round.leads i low high)

pub inside_on : (steps : List Step) (path : List ℕ) (first x i d : ℕ) → IsRoundPath steps path first x → first ≤ i → i < length path → get_or path i d < length steps
inside_on steps path first x i d round low high = let s = step_on steps path first x i d round low high in slice_get_within steps (get_or path i d) (Leads (get_or path (i + 1) x) s.0) s.1

-- ---- the letters of its first word

-- those of the steps from the i-th word of the path on
abbrev pub AreBehind : List Step → List ℕ → ℕ → ℕ → List ℕ → Type 0
AreBehind steps path x i by = Goes steps (length path - i) (get_or path i x) x by

pub none_behind : (steps : List Step) (path : List ℕ) (x : ℕ) → AreBehind steps path x (length path) []
none_behind steps path x = goes_along steps (omega arith) refl (get_or_past path (length path) x (omega arith)) refl (goes_none steps (get_or path (length path) x))

pub one_more_behind : (steps : List Step) (path : List ℕ) (first x i y : ℕ) (rest by : List ℕ) → IsRoundPath steps path first x → first ≤ i → i < length path → slice_get steps (get_or path i x) ≡ Some (Leads y rest)
    → AreBehind steps path x (i + 1) by → AreBehind steps path x i (by ++ rest)
one_more_behind steps path first x i y rest by round low high here g =
    let step = round.leads i low high in
    let o = step_once steps (get_or path i x) (get_or path (i + 1) x) y step.0 rest step.1 here in
    goes_along steps (omega arith) refl refl refl (goes_next steps (length path - (i + 1)) (get_or path i x) y x rest by here (goes_along steps refl o.0 refl refl g))

pub all_behind : (steps : List Step) (path : List ℕ) (first x : ℕ) (by : List ℕ) → IsRoundPath steps path first x → AreBehind steps path x first by → Goes steps (length path - first) x x by
all_behind steps path first x by round g = goes_along steps refl (get_or_from_slice_get path first x x round.begins) refl refl g

-- ---- the course of a word

-- fewer steps lead no word of the round back
no_sooner : (steps : List Step) (path : List ℕ) (first x : ℕ) (states : List State) → AreStates steps path states → IsRoundPath steps path first x → (i : ℕ) → first ≤ i → i < length path
    → (k : ℕ) → 1 ≤ k → k < length path - first → ¬ IsRound steps (get_or path i x) k
no_sooner steps path first x states s round i low high k positive less r =
    let way = back steps path first x round (length path - i) i low (omega arith) in
    let turn = round_along steps (length path - i) k (get_or path i x) x way.0 positive way.1 r in
    let on = ahead steps path first x round k (omega arith) in
    let same = (goes_once steps k x x (get_or path (first + k) x) turn.0 on.0 turn.1 on.1).0 in
    let again : slice_get path (first + k) ≡ Some x = slice_get-get_or path (first + k) x (omega arith) ∙ ap (λ a. Some a) (sym same) in
    let e : first ≡ first + k = path_once steps path states s first (first + k) x round.begins again in
    absurd (omega arith)

round_course : (steps : List Step) (path : List ℕ) (first x : ℕ) (states : List State) → AreStates steps path states → IsRoundPath steps path first x → (i : ℕ) → first ≤ i → i < length path → (by : List ℕ)
    → Goes steps (length path - first) (get_or path i x) (get_or path i x) by → HasCourse steps (get_or path i x) (Returns (length path - first) by)
round_course steps path first x states s round i low high by g = (
  record { positive = omega arith; holds = (by, g); least = no_sooner steps path first x states s round i low high },
  g,
)

-- ---- the courses of the first words of the round are told

-- the words of the path from `first` to before i are known, nothing else has changed, and these are the letters of the i-th word
pub record AreTold (steps : List Step) (path : List ℕ) (first x i : ℕ) (old states : List State) (by : List ℕ) : Type 0 where
  pub as_many : length states ≡ length old
  pub done : (j y : ℕ) → first ≤ j → j < i → slice_get path j ≡ Some y → (course : Course) × (slice_get states y ≡ Some (Known course)) × HasCourse steps y course
  pub kept : (y : ℕ) → ((j : ℕ) → first ≤ j → j < i → slice_get path j ≡ Some y → ⊥) → slice_get states y ≡ slice_get old y
  pub letters : Goes steps (length path - first) (get_or path i x) (get_or path i x) by

-- the letters of the i-th word end with those of its step, which come to the front
pub turned_next : (steps : List Step) (path : List ℕ) (first x i y : ℕ) (old states : List State) (by rest : List ℕ) → IsRoundPath steps path first x → first ≤ i → i < length path
    → slice_get steps (get_or path i x) ≡ Some (Leads y rest) → AreTold steps path first x i old states by → IsTurned steps (length path - first) (get_or path (i + 1) x) by rest
turned_next steps path first x i y old states by rest round low high here t =
    let step = round.leads i low high in
    let o = step_once steps (get_or path i x) (get_or path (i + 1) x) y step.0 rest step.1 here in
    let here_on : slice_get steps (get_or path i x) ≡ Some (Leads (get_or path (i + 1) x) rest) = subst (λ a. slice_get steps (get_or path i x) ≡ Some (Leads a rest)) (sym o.0) here in
    round_turned steps (length path - first) (get_or path i x) (get_or path (i + 1) x) rest by (omega arith) here_on t.letters

pub one_more_told : (steps : List Step) (path : List ℕ) (first x i place y m : ℕ) (old states : List State) (by rest next : List ℕ) → AreStates steps path old → IsRoundPath steps path first x → first ≤ i → i < length path
    → place ≡ get_or path i x → m ≡ length path - first → slice_get steps place ≡ Some (Leads y rest) → ((front : List ℕ) → by ≡ front ++ rest → next ≡ rest ++ front) → AreTold steps path first x i old states by
    → AreTold steps path first x (i + 1) old (set states place (Known (Returns m by))) next
one_more_told steps path first x i place y m old states by rest next s round low high is many here turned t = record {
  as_many = length-set states place (Known (Returns m by)) ∙ t.as_many;
  done = λ j w from to h. elim (same_or_not w place) [
    | inl e ↦ (Returns m by, subst (λ a. slice_get (set states place (Known (Returns m by))) a ≡ Some (Known (Returns m by))) (sym e) (entry_set states place (Known (Returns m by)) inside), subst (λ a. HasCourse steps a (Returns m by)) (sym e) right)
    | inr n ↦ (
        let other : j ≢ i = λ e. n (let f : Some w ≡ Some place = sym h ∙ ap (λ a. slice_get path a) e ∙ at_place in cc) in
        let less : j < i = grind (arith, other, to) in
        let d = t.done j w from less h in
        (d.0, entry_kept states place w (Known (Returns m by)) n ∙ d.1, d.2)
        )
  ];
  kept = λ w none.
      let other : w ≢ place = λ e. none i low (omega arith) (at_place ∙ ap (λ a. Some a) (sym e)) in
      entry_kept states place w (Known (Returns m by)) other ∙ t.kept w (λ j from to h. none j from (omega arith) h);
  letters = goes_along steps refl refl refl (sym (turned turn.front turn.whole)) turn.goes;
}
  where
    at_place : slice_get path i ≡ Some place
    at_place = slice_get-get_or path i x high ∙ ap (λ a. Some a) (sym is)

    inside : place < length states
    inside = omega (arith, t.as_many, slice_get_within old place (Met i) (s.on place i at_place))

    right : HasCourse steps place (Returns m by)
    right = subst (λ a. HasCourse steps a (Returns m by)) (sym is) (subst (λ a. HasCourse steps (get_or path i x) (Returns a by)) (sym many) (round_course steps path first x old s round i low high by t.letters))

    turn : IsTurned steps (length path - first) (get_or path (i + 1) x) by rest
    turn = turned_next steps path first x i y old states by rest round low high (subst (λ a. slice_get steps a ≡ Some (Leads y rest)) is here) t

-- ---- all are told

module _ (steps : List Step) (path : List ℕ) (first x : ℕ) (old states : List State) (by : List ℕ) (s : AreStates steps path old) (round : IsRoundPath steps path first x) (t : AreTold steps path first x (length path) old states by) where
  -- a word is on the round, or it isn't
  on_round_or_not : (y : ℕ) → ((j : ℕ) × (first ≤ j) × (slice_get path j ≡ Some y)) ⊎ ((j : ℕ) → first ≤ j → slice_get path j ≡ Some y → ⊥)
  on_round_or_not y = by_state (slice_get old y) refl
    where
      by_state : (o : Option State) → slice_get old y ≡ o → ((j : ℕ) × (first ≤ j) × (slice_get path j ≡ Some y)) ⊎ ((j : ℕ) → first ≤ j → slice_get path j ≡ Some y → ⊥)
      by_state None e = inr (λ j low h. let f : None ≡ Some (Met j) = sym e ∙ s.on y j h in cc)
      by_state (Some New) e = inr (λ j low h. let f : Some New ≡ Some (Met j) = sym e ∙ s.on y j h in cc)
      by_state (Some (Known c)) e = inr (λ j low h. let f : Some (Known c) ≡ Some (Met j) = sym e ∙ s.on y j h in cc)
      by_state (Some (Met i)) e = elim (cases_lt i first) [
        | inl less ↦ inr (λ j low h. let f = path_once steps path old s i j y (s.met y i e) h in absurd (omega arith))
        | inr more ↦ inl (i, more, s.met y i e)
      ]

  round_known : (y j : ℕ) → first ≤ j → slice_get path j ≡ Some y → IsKnown states y
  round_known y j low h = let d = t.done j y low (slice_get_within path j y h) h in (d.0, d.1)

  others : (y : ℕ) → ((j : ℕ) → first ≤ j → slice_get path j ≡ Some y → ⊥) → slice_get states y ≡ slice_get old y
  others y none = t.kept y (λ j low high h. none j low h)

  known_stays : (y : ℕ) → IsKnown old y → IsKnown states y
  known_stays y known = (known.0, others y (λ j low h. met_known old y (s.on y j h) known) ∙ known.1)

  all_right : (y : ℕ) (course : Course) → slice_get states y ≡ Some (Known course) → HasCourse steps y course
  all_right y course h = elim (on_round_or_not y) [
    | inl on ↦ (
        let d = t.done on.0 y on.1 (slice_get_within path on.0 y on.2) on.2 in
        let f : Some (Known d.0) ≡ Some (Known course) = sym d.1 ∙ h in
        let same : d.0 ≡ course = cc in
        subst (λ a. HasCourse steps y a) same d.2
        )
    | inr off ↦ s.right y course (sym (others y off) ∙ h)
  ]

  round_closed : (y j : ℕ) → first ≤ j → slice_get path j ≡ Some y → IsNextKnown steps states y
  round_closed y j low h w leads =
      let high = slice_get_within path j y h in
      let at = get_or_from_slice_get path j y x h in
      let step = round.leads j low high in
      let same : get_or path (j + 1) x ≡ w = (step_once steps y (get_or path (j + 1) x) w step.0 leads.0 (subst (λ a. slice_get steps a ≡ Some (Leads (get_or path (j + 1) x) step.0)) at step.1) leads.1).0 in
      elim (cases_lt (j + 1) (length path)) [
        | inl inner ↦ round_known w (j + 1) (omega arith) (slice_get-get_or path (j + 1) x inner ∙ ap (λ a. Some a) same)
        | inr last ↦ round_known w first (omega arith) (round.begins ∙ ap (λ a. Some a) (sym (get_or_past path (j + 1) x last) ∙ same))
      ]

  all_closed : (y : ℕ) → IsKnown states y → IsNextKnown steps states y
  all_closed y known w leads = elim (on_round_or_not y) [
    | inl on ↦ round_closed y on.0 on.1 on.2 w leads
    | inr off ↦ known_stays w (s.closed y (known.0, sym (others y off) ∙ known.1) w leads)
  ]

  front_off : (y i : ℕ) → i < first → slice_get path i ≡ Some y → (j : ℕ) → first ≤ j → slice_get path j ≡ Some y → ⊥
  front_off y i less h j low g = let e = path_once steps path old s i j y h g in absurd (omega arith)

  front_states : AreStates steps (take first path) states
  front_states = record {
    as_many = t.as_many ∙ s.as_many;
    right = all_right;
    closed = all_closed;
    met = λ y i h. elim (on_round_or_not y) [
      | inl on ↦ absurd (met_known states y h (round_known y on.0 on.1 on.2))
      | inr off ↦ (
          let here = s.met y i (sym (others y off) ∙ h) in
          elim (cases_lt i first) [ inl less ↦ entry_in_take first path i y less here | inr more ↦ absurd (off i more here) ]
          )
    ];
    on = λ y i h. let e = entry_of_take first path i y h in others y (front_off y i e.0 e.1) ∙ s.on y i e.1;
    joined = λ i y w h g. s.joined i y w (entry_of_take first path i y h).1 (entry_of_take first path (i + 1) w g).1;
  }

  front_ends : EndsKnown steps (take first path) states
  front_ends i y e h w leads =
      let at = (entry_of_take first path i y h).1 in
      let last : i + 1 ≡ first = e ∙ length-take-le first path (let l = round.within in omega arith) in
      let to = s.joined i y x at (ap (λ a. slice_get path a) last ∙ round.begins) in
      let same = (step_once steps y x w to.0 leads.0 to.1 leads.1).0 in
      subst (λ a. IsKnown states a) same (round_known x first (omega arith) round.begins)

  round_told : StaysTold old states
  round_told y h = elim (on_round_or_not y) [
    | inl on ↦ absurd (new_known states y h (round_known y on.0 on.1 on.2))
    | inr off ↦ sym (others y off) ∙ h
  ]

  pub round_settled : IsPathSettled steps (take first path) old states
  round_settled = record { known = front_states; ends = front_ends; told = round_told }
