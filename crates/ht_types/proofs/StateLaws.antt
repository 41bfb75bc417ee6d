-- What is known of words while courses are looked for, after a word is met and after the course of a word is told.
use Rattle.std.proofs.Common.{◌≡◌, ◌≢◌, ℕ, zero, suc, ◌+◌, ◌≤◌, ◌<◌, inl, inr, List, [], ◌∷◌, ◌++◌, length, set, get_or, Some, slice_get, sym, ap, ◌∙◌, subst, arith, length-set, length-append}
use Rattle.std.proofs.lemmas.Bool.{cases_lt}
use Rattle.std.proofs.lemmas.Option.{slice_get_within, slice_get-get_or}
use Rattle.ht_word.proofs.Deciding.{same_or_not}
use Rattle.ht_quasi.proofs.StepLaws.{at_push}
use Rattle.ht_types.specs.declared.step.Step.{Step}
use Rattle.ht_types.specs.declared.course.Course.{Course}
use Rattle.ht_types.specs.declared.course.State.{State}
use Rattle.ht_types.specs.declared.course.State.TheVariants.{New, Met, Known}
use Rattle.ht_types.specs.Courses.{Goes, Turns, HasCourse}
use Rattle.ht_types.specs.CourseStates.{LeadsOn, IsKnown, IsNextKnown, AreStates, StaysTold, IsPathSettled}
use Rattle.ht_types.proofs.PathLaws.{step_once, no_steps, first_step}
use Rattle.ht_types.proofs.EntryLaws.{entry_set, entry_kept, entry_cases, entry_front, entry_push}
use Rattle.ht_types.proofs.Repeats.{repeats_below}

-- ---- three states

pub new_known : (states : List State) (x : ℕ) → slice_get states x ≡ Some New → IsKnown states x → ⊥
new_known states x h k = let e : Some New ≡ Some (Known k.0) = sym h ∙ k.1 in cc

pub met_known : (states : List State) (x : ℕ) {i : ℕ} → slice_get states x ≡ Some (Met i) → IsKnown states x → ⊥
met_known states x {i} h k = let e : Some (Met i) ≡ Some (Known k.0) = sym h ∙ k.1 in cc

new_met : (states : List State) (x : ℕ) {i : ℕ} → slice_get states x ≡ Some New → slice_get states x ≡ Some (Met i) → ⊥
new_met states x {i} h k = let e : Some New ≡ Some (Met i) = sym h ∙ k in cc

met_once : (states : List State) (x : ℕ) {i j : ℕ} → slice_get states x ≡ Some (Met i) → slice_get states x ≡ Some (Met j) → i ≡ j
met_once states x {i} {j} h k = let e : Some (Met i) ≡ Some (Met j) = sym h ∙ k in cc

-- ---- the path

-- a word stands once on the path
pub path_once : (steps : List Step) (path : List ℕ) (states : List State) → AreStates steps path states → (i j x : ℕ) → slice_get path i ≡ Some x → slice_get path j ≡ Some x → i ≡ j
path_once steps path states s i j x h k = met_once states x (s.on x i h) (s.on x j k)

-- so the path is no longer than the list of words
pub path_short : (steps : List Step) (path : List ℕ) (states : List State) → AreStates steps path states → length path ≤ length steps
path_short steps path states s = elim (cases_lt (length steps) (length path)) [
  | inr short ↦ omega arith
  | inl long ↦ (
      let n = length steps in
      let here : (i : ℕ) → i ≤ n → slice_get path i ≡ Some (get_or path i 0) = λ i l. slice_get-get_or path i 0 (omega arith) in
      let below : (i : ℕ) → i ≤ n → get_or path i 0 < n = λ i l. omega (arith, s.as_many, slice_get_within states (get_or path i 0) (Met i) (s.on (get_or path i 0) i (here i l))) in
      let r = repeats_below n (λ i. get_or path i 0) below in
      let less = r.less in
      let within = r.within in
      let same = path_once steps path states s r.first r.second (get_or path r.first 0) (here r.first (omega arith)) (here r.second within ∙ ap (λ a. Some a) (sym r.same)) in
      absurd (omega arith)
      )
]

-- ---- known words

pub known_along : (steps : List Step) (path : List ℕ) (states : List State) → AreStates steps path states → (k x y : ℕ) (z : List ℕ) → Goes steps k x y z → IsKnown states x → IsKnown states y
known_along steps path states s zero x y z g known = subst (λ a. IsKnown states a) (no_steps steps x y z g).0 known
known_along steps path states s (suc k) x y z g known =
    let f = first_step steps k x y z g in
    known_along steps path states s k f.next y f.behind f.goes (s.closed x known f.next (f.rest, f.here))

-- a word that isn't known and leads to a known one doesn't turn
pub unknown_once : (steps : List Step) (path : List ℕ) (states : List State) → AreStates steps path states → (x : ℕ) → (IsKnown states x → ⊥) → IsNextKnown steps states x → ¬ Turns steps x
unknown_once steps path states s x unknown next t = by t.count t.positive t.round.0 t.round.1
  where
    by : (k : ℕ) → 1 ≤ k → (z : List ℕ) → Goes steps k x x z → ⊥
    by zero l z g = absurd (omega arith)
    by (suc k) l z g =
        let f = first_step steps k x x z g in
        unknown (known_along steps path states s k f.next x f.behind f.goes (next f.next (f.rest, f.here)))

-- ---- a new word is met

pub met_next : (steps : List Step) (path : List ℕ) (states : List State) (place : ℕ) → AreStates steps path states → slice_get states place ≡ Some New
    → ((i x : ℕ) → i + 1 ≡ length path → slice_get path i ≡ Some x → LeadsOn steps x place) → AreStates steps (path ++ place ∷ []) (set states place (Met (length path)))
met_next steps path states place s new last = record {
  as_many = length-set states place (Met (length path)) ∙ s.as_many;
  right = λ x course h. elim (entry_cases states place x (Met (length path)) (Known course) inside h) [
    | inl e ↦ absurd (let f = e.1 in cc)
    | inr e ↦ s.right x course e.1
  ];
  closed = λ x known y leads. elim (entry_cases states place x (Met (length path)) (Known known.0) inside known.1) [
    | inl e ↦ absurd (let f = e.1 in cc)
    | inr e ↦ stays y (s.closed x (known.0, e.1) y leads)
  ];
  met = λ x i h. elim (entry_cases states place x (Met (length path)) (Met i) inside h) [
    | inl e ↦ (let f = e.1 in let same : length path ≡ i = cc in subst (λ a. slice_get (path ++ place ∷ []) i ≡ Some a) (sym e.0) (subst (λ a. slice_get (path ++ place ∷ []) a ≡ Some place) same (entry_push path place)))
    | inr e ↦ entry_front path (place ∷ []) i x (s.met x i e.1)
  ];
  on = λ x i h. elim (at_push path place x i h) [
    | inl e ↦ entry_kept states place x (Met (length path)) (λ same. new_met states x (subst (λ a. slice_get states a ≡ Some New) (sym same) new) (s.on x i e)) ∙ s.on x i e
    | inr e ↦ subst (λ a. slice_get (set states place (Met (length path))) a ≡ Some (Met i)) e.1 (subst (λ a. slice_get (set states place (Met (length path))) place ≡ Some (Met a)) (sym e.0) (entry_set states place (Met (length path)) inside))
  ];
  joined = λ i x y h g. elim (at_push path place x i h) [
    | inl e ↦ elim (at_push path place y (i + 1) g) [
      | inl f ↦ s.joined i x y e f
      | inr f ↦ subst (λ a. LeadsOn steps x a) f.1 (last i x f.0 e)
    ]
    | inr e ↦ absurd (let w = slice_get_within (path ++ place ∷ []) (i + 1) y g in let l = e.0 in omega (arith, length-append path (place ∷ [])))
  ];
}
  where
    inside : place < length states
    inside = slice_get_within states place New new

    stays : (y : ℕ) → IsKnown states y → IsKnown (set states place (Met (length path))) y
    stays y known = (known.0, entry_kept states place y (Met (length path)) (λ same. new_known states y (subst (λ a. slice_get states a ≡ Some New) (sym same) new) known) ∙ known.1)

-- it is told, and no word is new that wasn't
pub met_told : (old states : List State) (place i : ℕ) → place < length states → StaysTold old states → StaysTold old (set states place (Met i))
met_told old states place i l told x h = elim (entry_cases states place x (Met i) New l h) [ inl e ↦ absurd (let f = e.1 in cc) | inr e ↦ told x e.1 ]

-- ---- the course of the last word of the path is told

known_set : (states : List State) (x y : ℕ) (course : Course) → x < length states → IsKnown states y → IsKnown (set states x (Known course)) y
known_set states x y course l known = elim (same_or_not y x) [
  | inl e ↦ (course, subst (λ a. slice_get (set states x (Known course)) a ≡ Some (Known course)) (sym e) (entry_set states x (Known course) l))
  | inr n ↦ (known.0, entry_kept states x y (Known course) n ∙ known.1)
]

told_last : (steps : List Step) (path : List ℕ) (states : List State) (x : ℕ) (course : Course) → AreStates steps (path ++ x ∷ []) states → HasCourse steps x course → IsNextKnown steps states x
    → AreStates steps path (set states x (Known course))
told_last steps path states x course s right next = record {
  as_many = length-set states x (Known course) ∙ s.as_many;
  right = λ y told h. elim (entry_cases states x y (Known course) (Known told) inside h) [
    | inl e ↦ (let f = e.1 in let same : course ≡ told = cc in subst (λ a. HasCourse steps a told) (sym e.0) (subst (λ a. HasCourse steps x a) same right))
    | inr e ↦ s.right y told e.1
  ];
  closed = λ y known w leads. elim (entry_cases states x y (Known course) (Known known.0) inside known.1) [
    | inl e ↦ known_set states x w course inside (next w (subst (λ a. LeadsOn steps a w) e.0 leads))
    | inr e ↦ known_set states x w course inside (s.closed y (known.0, e.1) w leads)
  ];
  met = λ y i h. elim (entry_cases states x y (Known course) (Met i) inside h) [
    | inl e ↦ absurd (let f = e.1 in cc)
    | inr e ↦ elim (at_push path x y i (s.met y i e.1)) [ inl f ↦ f | inr f ↦ absurd (e.0 (sym f.1)) ]
  ];
  on = λ y i h.
      let old = s.on y i (entry_front path (x ∷ []) i y h) in
      let other : y ≢ x = λ same. (let e : i ≡ length path = met_once states x (subst (λ a. slice_get states a ≡ Some (Met i)) same old) here in let l = slice_get_within path i y h in absurd (omega arith)) in
      entry_kept states x y (Known course) other ∙ old;
  joined = λ i y w h g. s.joined i y w (entry_front path (x ∷ []) i y h) (entry_front path (x ∷ []) (i + 1) w g);
}
  where
    here : slice_get states x ≡ Some (Met (length path))
    here = s.on x (length path) (entry_push path x)

    inside : x < length states
    inside = slice_get_within states x (Met (length path)) here

pub settled_last : (steps : List Step) (path : List ℕ) (old states : List State) (x : ℕ) (course : Course) → IsPathSettled steps (path ++ x ∷ []) old states → HasCourse steps x course → IsNextKnown steps states x
    → IsPathSettled steps path old (set states x (Known course))
settled_last steps path old states x course s right next = record {
  known = told_last steps path states x course s.known right next;
  ends = λ i y e h w leads.
      let to : LeadsOn steps y x = s.known.joined i y x (entry_front path (x ∷ []) i y h) (subst (λ a. slice_get (path ++ x ∷ []) a ≡ Some x) (sym e) (entry_push path x)) in
      let same = (step_once steps y x w to.0 leads.0 to.1 leads.1).0 in
      (course, subst (λ a. slice_get (set states x (Known course)) a ≡ Some (Known course)) same (entry_set states x (Known course) inside));
  told = λ y h. elim (entry_cases states x y (Known course) New inside h) [ inl e ↦ absurd (let f = e.1 in cc) | inr e ↦ s.told y e.1 ];
}
  where
    inside : x < length states
    inside = slice_get_within states x (Met (length path)) (s.known.on x (length path) (entry_push path x))

-- the last word doesn't turn, and the word that it leads to is known
pub last_next : (steps : List Step) (path : List ℕ) (old states : List State) (x : ℕ) → IsPathSettled steps (path ++ x ∷ []) old states → IsNextKnown steps states x
last_next steps path old states x s = s.ends (length path) x (omega (arith, length-append path (x ∷ []))) (entry_push path x)

pub last_once : (steps : List Step) (path : List ℕ) (old states : List State) (x : ℕ) → IsPathSettled steps (path ++ x ∷ []) old states → ¬ Turns steps x
last_once steps path old states x s = unknown_once steps (path ++ x ∷ []) states s.known x (met_known states x (s.known.on x (length path) (entry_push path x))) (last_next steps path old states x s)

pub last_inside : (steps : List Step) (path : List ℕ) (old states : List State) (x : ℕ) → IsPathSettled steps (path ++ x ∷ []) old states → x < length steps
last_inside steps path old states x s = omega (arith, s.known.as_many, slice_get_within states x (Met (length path)) (s.known.on x (length path) (entry_push path x)))
