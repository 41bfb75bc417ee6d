-- Walks over new words, one after another from each word that is new.
use Rattle.std.proofs.Common.{◌≡◌, ◌≢◌, ℕ, zero, suc, ◌+◌, ◌≤◌, ◌<◌, inl, inr, List, [], ◌∷◌, ◌++◌, length, set, map, Option, None, Some, slice_get, refl, sym, ap, ◌∙◌, subst, arith, length-append}
use Rattle.std.proofs.lemmas.List.{length-map}
use Rattle.std.proofs.lemmas.Option.{slice_get_within, slice_get-map}
use Rattle.std.specs.Option.{option_map}
use Rattle.ht_quasi.proofs.StepLaws.{at_push}
use Rattle.ht_types.specs.declared.step.Step.{Step}
use Rattle.ht_types.specs.declared.step.Step.TheVariants.{Splits, Leads}
use Rattle.ht_types.specs.declared.course.Course.{Course}
use Rattle.ht_types.specs.declared.course.State.{State}
use Rattle.ht_types.specs.declared.course.State.TheVariants.{New, Met, Known}
use Rattle.ht_types.specs.Courses.{AreInside, AreCourses}
use Rattle.ht_types.specs.CourseStates.{LeadsOn, IsKnown, AreStates, IsPathWalked, StaysTold, AreAllKnown}
use Rattle.ht_types.proofs.PathLaws.{step_once, splits_leads}
use Rattle.ht_types.proofs.EntryLaws.{entry_cases}
use Rattle.ht_types.proofs.StateLaws.{met_next, met_told, path_short}

-- the words of the path were met, and its last leads to the place
pub record IsUnderWay (steps : List Step) (path : List ℕ) (start place : ℕ) (old states : List State) : Type 0 where
  pub known : AreStates steps path states
  pub inside : place < length steps
  pub last : (i x : ℕ) → i + 1 ≡ length path → slice_get path i ≡ Some x → LeadsOn steps x place
  pub told : StaysTold old states
  pub begun : slice_get states start ≡ Some New → place ≡ start

-- at a word that isn't new the start isn't
pub start_told : (steps : List Step) (path : List ℕ) (start place : ℕ) (old states : List State) (state : State) → IsUnderWay steps path start place old states → slice_get states place ≡ Some state → (Some state ≡ Some New → ⊥)
    → slice_get states start ≢ Some New
start_told steps path start place old states state w here not_new h = not_new (sym here ∙ ap (λ a. slice_get states a) (w.begun h) ∙ h)

pub back_on_path : (steps : List Step) (path : List ℕ) (start place first : ℕ) (old states : List State) → IsUnderWay steps path start place old states → slice_get states place ≡ Some (Met first) → IsPathWalked steps path first states
back_on_path steps path start place first old states w here =
    let at = w.known.met place first here in
    let inside = slice_get_within path first place at in
    record {
      known = w.known;
      within = omega arith;
      back = λ i x y last h g. (let e : Some place ≡ Some y = sym at ∙ g in let same : place ≡ y = cc in subst (λ a. LeadsOn steps x a) same (w.last i x last h));
      out = λ e. absurd (omega arith);
    }

no_word_past : (path : List ℕ) (y : ℕ) → slice_get path (length path) ≡ Some y → ⊥
no_word_past path y h = absurd (let l = slice_get_within path (length path) y h in omega arith)

pub at_known : (steps : List Step) (path : List ℕ) (start place : ℕ) (old states : List State) (course : Course) → IsUnderWay steps path start place old states → slice_get states place ≡ Some (Known course) → IsPathWalked steps path (length path) states
at_known steps path start place old states course w here = record {
  known = w.known;
  within = omega arith;
  back = λ i x y last h g. absurd (no_word_past path y g);
  out = λ e i x last h y leads.
      let to = w.last i x last h in
      (course, subst (λ a. slice_get states a ≡ Some (Known course)) (step_once steps x place y to.0 leads.0 to.1 leads.1).0 here);
}

pub walked_along : {path longer : List ℕ} {first count : ℕ} {states new : List State} (steps : List Step) → path ≡ longer → first ≡ count → states ≡ new → IsPathWalked steps path first states → IsPathWalked steps longer count new
walked_along {path} {longer} {first} {count} {states} {new} steps e f g w = subst (λ a. IsPathWalked steps longer count a) g (subst (λ a. IsPathWalked steps longer a states) f (subst (λ a. IsPathWalked steps a first states) e w))

pub under_way_along : {path longer : List ℕ} {states new : List State} (steps : List Step) (start place : ℕ) (old : List State) → path ≡ longer → states ≡ new → IsUnderWay steps path start place old states → IsUnderWay steps longer start place old new
under_way_along {path} {longer} {states} {new} steps start place old e g w = subst (λ a. IsUnderWay steps longer start place old a) g (subst (λ a. IsUnderWay steps a start place old states) e w)

-- ---- a new word is met

module _ (steps : List Step) (path : List ℕ) (start place : ℕ) (old states : List State) (w : IsUnderWay steps path start place old states) (new : slice_get states place ≡ Some New) where
  pub met_states : AreStates steps (path ++ place ∷ []) (set states place (Met (length path)))
  met_states = met_next steps path states place w.known new w.last

  pub met_longer : length path < length steps
  met_longer = let l = path_short steps (path ++ place ∷ []) (set states place (Met (length path))) met_states in omega (arith, length-append path (place ∷ []))

  pub still_told : StaysTold old (set states place (Met (length path)))
  still_told = met_told old states place (length path) (slice_get_within states place New new) w.told

  pub start_met : slice_get (set states place (Met (length path))) start ≢ Some New
  start_met h = elim (entry_cases states place start (Met (length path)) New (slice_get_within states place New new) h) [
    | inl e ↦ (let f = e.1 in cc)
    | inr e ↦ e.0 (sym (w.begun e.1))
  ]

  -- the last word of the longer path
  last_is : (i x : ℕ) → i + 1 ≡ length (path ++ place ∷ []) → slice_get (path ++ place ∷ []) i ≡ Some x → place ≡ x
  last_is i x e h = elim (at_push path place x i h) [
    | inl f ↦ absurd (let l = slice_get_within path i x f in omega (arith, length-append path (place ∷ [])))
    | inr f ↦ f.1
  ]

  pub out_at_split : slice_get steps place ≡ Some Splits → IsPathWalked steps (path ++ place ∷ []) (length (path ++ place ∷ [])) (set states place (Met (length path)))
  out_at_split here = record {
    known = met_states;
    within = omega arith;
    back = λ i x y last h g. absurd (no_word_past (path ++ place ∷ []) y g);
    out = λ e i x last h y leads. absurd (splits_leads steps place y leads.0 here (subst (λ a. slice_get steps a ≡ Some (Leads y leads.0)) (sym (last_is i x last h)) leads.1));
  }

  pub one_more_met : (to : ℕ) (rest : List ℕ) → AreInside steps → slice_get steps place ≡ Some (Leads to rest) → IsUnderWay steps (path ++ place ∷ []) start to old (set states place (Met (length path)))
  one_more_met to rest inside here = record {
    known = met_states;
    inside = inside place to rest here;
    last = λ i x e h. (rest, subst (λ a. slice_get steps a ≡ Some (Leads to rest)) (last_is i x e h) here);
    told = still_told;
    begun = λ h. absurd (start_met h);
  }

-- ---- walks from all words

-- no word before the count is new
pub record AreSettledTo (steps : List Step) (states : List State) (count : ℕ) : Type 0 where
  pub known : AreStates steps [] states
  pub told : (x : ℕ) → x < count → slice_get states x ≢ Some New

pub all_settled : (steps : List Step) (states : List State) (count : ℕ) → AreSettledTo steps states count → length steps ≤ count → AreAllKnown states
all_settled steps states count s all x l = by_state (slice_get states x) refl
  where
    by_state : (o : Option State) → slice_get states x ≡ o → IsKnown states x
    by_state None e = absurd (some_there states x l e)
      where
        some_there : (xs : List State) (i : ℕ) → i < length xs → slice_get xs i ≡ None → ⊥
        some_there [] i l e = absurd (omega arith)
        some_there (y ∷ xs) zero l e = cc
        some_there (y ∷ xs) (suc i) l e = some_there xs i (omega arith) e
    by_state (Some New) e = absurd (s.told x (omega (arith, s.known.as_many)) e)
    by_state (Some (Met i)) e = absurd (let w = slice_get_within [] i x (s.known.met x i e) in omega arith)
    by_state (Some (Known course)) e = (course, e)

pub all_courses : (steps : List Step) (states : List State) (courses : List Course) → AreStates steps [] states → states ≡ map (λ course. Known course) courses → AreCourses steps courses
all_courses steps states courses s are = record {
  as_many = omega (arith, s.as_many, length-map courses (λ course. Known course), ap (λ (l : List State). length l) are);
  each = λ x course h. s.right x course (ap (λ (l : List State). slice_get l x) are ∙ slice_get-map (λ course. Known course) courses x ∙ ap (λ o. option_map (λ course. Known course) o) h);
}
