-- Words that stay, and their steps, after marked words of a basis gave way to their children.
use Rattle.std.proofs.Common.{◌≡◌, ℕ, zero, suc, ◌+◌, ◌*◌, ◌<◌, ◌≤◌, inl, inr, Bool, true, false, cond, List, [], ◌∷◌, ◌++◌, length, get_or, Option, Some, IfSome, slice_get, refl, sym, ap, ◌∙◌, subst, arith}
use Rattle.std.proofs.Math.Seq.{get_or-append_seam}
use Rattle.std.proofs.lemmas.Bool.{cases_lt}
use Rattle.std.proofs.lemmas.List.{length-append, get_or_append_left}
use Rattle.std.proofs.lemmas.List.Elements.{Contains-append_cases}
use Rattle.std.proofs.lemmas.Option.{slice_get_within, slice_get-get_or}
use Rattle.ht_word.specs.declared.shape.Shape.{Shape}
use Rattle.ht_word.specs.declared.word.Word.{Word}
use Rattle.ht_word.specs.Words.{child, IsUnder, IsUnderSome}
use Rattle.ht_word.proofs.ListLaws.{Contains-nil, Contains-here, Contains-there, Contains-cons_cases}
use Rattle.ht_word.proofs.WordLaws.{under_trans}
use Rattle.ht_pair.specs.BadChains.{Splits as SplitsIn}
use Rattle.ht_pair.specs.HeldBases.{IsHeldBasis, children, expanded_at}
use Rattle.ht_pair.specs.declared.row.Row.{Row}
use Rattle.ht_pair.proofs.BasisLaws.{some_at, child_under}
use Rattle.ht_pair.proofs.HeldBasisLaws.{held_expanded_at}
use Rattle.ht_pair.proofs.Sequences.{length-each}
use Rattle.ht_quasi.specs.declared.step.Step.{Step}
use Rattle.ht_quasi.specs.declared.step.Step.TheVariants.{Splits, Next, Descends}
use Rattle.ht_quasi.specs.Kept.{place_after, ArePlacesAfter, IsStepInside, AreAllInside, StaysAs, IsRightAt, HaveRoundSteps, IsRenewed}
use Rattle.ht_quasi.specs.Rounds.{HasRoundStep, AreRoundSteps}
use Rattle.ht_quasi.proofs.RoundLaws.{something_at}
use Rattle.ht_quasi.proofs.StepLaws.{same_at}

-- ---- places

-- one word more
place_next : (n : ℕ) (marks : List Bool) (place : ℕ) (mark : Bool) → slice_get marks place ≡ Some mark → place_after n marks (suc place) ≡ place_after n marks place + cond mark n 1
place_next n [] place mark e = absurd cc
place_next n (m ∷ marks) zero mark e = let same : m ≡ mark = cc in omega (arith, ap (λ b. cond b n 1) same)
place_next n (m ∷ marks) (suc place) mark e = omega (arith, place_next n marks place mark e)

pub place_more : (n : ℕ) (marks : List Bool) (place : ℕ) (mark : Bool) → slice_get marks place ≡ Some mark → place_after n marks (place + 1) ≡ place_after n marks place + cond mark n 1
place_more n marks place mark e = ap (λ k. place_after n marks k) (let next : place + 1 ≡ suc place = omega arith in next) ∙ place_next n marks place mark e

-- the entry at a place of a list
pub entry_at : {T : Type 0} (xs : List T) (place : ℕ) (d x : T) → place < length xs → get_or xs place d ≡ x → slice_get xs place ≡ Some x
entry_at xs place d x l e = slice_get-get_or xs place d l ∙ ap (λ t. Some t) e

pub from_few : (n : ℕ) (mark : Bool) → n ≤ 9 → cond mark n 1 ≤ 9
from_few n true l = l
from_few n false l = omega arith

pub place_bound : (n : ℕ) (marks : List Bool) (place : ℕ) → n ≤ 9 → place_after n marks place ≤ 9 * place
place_bound n marks zero l = omega arith
place_bound n [] (suc place) l = omega arith
place_bound n (true ∷ marks) (suc place) l = omega (arith, place_bound n marks place l)
place_bound n (false ∷ marks) (suc place) l = omega (arith, place_bound n marks place l)

-- later words stand later
place_later : (n : ℕ) (marks : List Bool) (place other : ℕ) → place ≤ other → place_after n marks place ≤ place_after n marks other
place_later n marks zero other l = omega arith
place_later n marks (suc place) zero l = absurd (omega arith)
place_later n [] (suc place) (suc other) l = omega arith
place_later n (mark ∷ marks) (suc place) (suc other) l = omega (arith, place_later n marks place other (omega arith))

-- the words that come from one are among all
pub place_within : (n : ℕ) (marks : List Bool) (place : ℕ) (mark : Bool) → slice_get marks place ≡ Some mark → place_after n marks place + cond mark n 1 ≤ place_after n marks (length marks)
place_within n marks place mark e = omega (arith, place_more n marks place mark e, place_later n marks (place + 1) (length marks) (omega (arith, slice_get_within marks place mark e)))

-- as many words as come from all of them
pub place_of_all : (shape : Shape) (X : List Word) (marks : List Bool) → length marks ≡ length X → length (expanded_at shape X marks) ≡ place_after shape.n marks (length marks)
place_of_all shape [] [] e = refl
place_of_all shape [] (mark ∷ marks) e = absurd (omega arith)
place_of_all shape (x ∷ X) [] e = absurd (omega arith)
place_of_all shape (x ∷ X) (false ∷ marks) e = omega (arith, place_of_all shape X marks (omega arith))
place_of_all shape (x ∷ X) (true ∷ marks) e = omega (arith, place_of_all shape X marks (omega arith), length-append (children shape x) (expanded_at shape X marks), length-each (child x) shape.n)

-- the places of the first words
pub record ArePlacesSoFar (n : ℕ) (marks : List Bool) (places : List ℕ) (next count : ℕ) : Type 0 where
  pub next_is : next ≡ place_after n marks count
  pub many : length places ≡ count
  pub each : (place : ℕ) → place < count → get_or places place 0 ≡ place_after n marks place

pub no_places : (n : ℕ) (marks : List Bool) (places : List ℕ) → places ≡ [] → ArePlacesSoFar n marks places 0 0
no_places n marks places e = subst (λ t. ArePlacesSoFar n marks t 0 0) (sym e) (record { next_is = refl; many = refl; each = λ place l. absurd (omega arith) })

pub one_more_place : (n : ℕ) (marks : List Bool) (places new : List ℕ) (next more count : ℕ) (mark : Bool) → ArePlacesSoFar n marks places next count → slice_get marks count ≡ Some mark → new ≡ places ++ next ∷ [] → more ≡ cond mark n 1
    → ArePlacesSoFar n marks new (next + more) (count + 1)
one_more_place n marks places new next more count mark h here e f = subst (λ t. ArePlacesSoFar n marks t (next + more) (count + 1)) (sym e) (record {
  next_is = omega (arith, h.next_is, f, place_more n marks count mark here);
  many = omega (arith, length-append places (next ∷ []), h.many);
  each = λ place l. elim (cases_lt place count) [
    | inl less ↦ get_or_append_left places (next ∷ []) 0 place (omega (arith, h.many)) ∙ h.each place less
    | inr more ↦ (let same : place ≡ length places = omega (arith, h.many) in
        ap (λ k. get_or (places ++ next ∷ []) k 0) same ∙ get_or-append_seam places next [] 0 ∙ h.next_is ∙ ap (λ k. place_after n marks k) (sym h.many ∙ sym same))
  ];
})

pub all_places : (n : ℕ) (marks : List Bool) (places : List ℕ) (next count : ℕ) → count ≡ length marks → ArePlacesSoFar n marks places next count → ArePlacesAfter n marks places
all_places n marks places next count e h = record { many = h.many ∙ e; each = λ place l. h.each place (omega (arith, e)) }

-- behind other entries
behind_others : {T : Type 0} (xs ys : List T) (n place : ℕ) → length xs ≡ n → slice_get (xs ++ ys) (n + place) ≡ slice_get ys place
behind_others [] ys n place e = ap (λ k. slice_get ys k) (let none : n + place ≡ place = omega arith in none)
behind_others (x ∷ xs) ys zero place e = absurd (omega arith)
behind_others (x ∷ xs) ys (suc n) place e = ap (λ k. slice_get (x ∷ (xs ++ ys)) k) (let next : suc n + place ≡ suc (n + place) = omega arith in next) ∙ behind_others xs ys n place (omega arith)

-- a word that isn't marked stands at its place after
pub stays_at : (shape : Shape) (X : List Word) (marks : List Bool) (place : ℕ) (x : Word) → slice_get X place ≡ Some x → get_or marks place false ≡ false → slice_get (expanded_at shape X marks) (place_after shape.n marks place) ≡ Some x
stays_at shape [] marks place x e none = absurd cc
stays_at shape (y ∷ X) [] zero x e none = e
stays_at shape (y ∷ X) [] (suc place) x e none = e
stays_at shape (y ∷ X) (true ∷ marks) zero x e none = absurd cc
stays_at shape (y ∷ X) (false ∷ marks) zero x e none = e
stays_at shape (y ∷ X) (true ∷ marks) (suc place) x e none = behind_others (children shape y) (expanded_at shape X marks) shape.n (place_after shape.n marks place) (length-each (child y) shape.n) ∙ stays_at shape X marks place x e none
stays_at shape (y ∷ X) (false ∷ marks) (suc place) x e none = behind_others (y ∷ []) (expanded_at shape X marks) 1 (place_after shape.n marks place) refl ∙ stays_at shape X marks place x e none

-- what is under the words after is under those before
pub under_before : (shape : Shape) (X : List Word) (marks : List Bool) (u : Word) → IsUnderSome u (expanded_at shape X marks) → IsUnderSome u X
under_before shape [] marks u s = absurd (Contains-nil s.above s.listed)
under_before shape (x ∷ X) [] u s = s
under_before shape (x ∷ X) (false ∷ marks) u s = elim (Contains-cons_cases x (expanded_at shape X marks) s.above s.listed) [
  | inl e ↦ some_at (x ∷ X) x u (Contains-here x X) (subst (λ t. IsUnder u t) (sym e) s.under)
  | inr c ↦ (let t = under_before shape X marks u (some_at (expanded_at shape X marks) s.above u c s.under) in some_at (x ∷ X) t.above u (Contains-there x X t.above t.listed) t.under)
]
under_before shape (x ∷ X) (true ∷ marks) u s = elim (Contains-append_cases (children shape x) (expanded_at shape X marks) s.above s.listed) [
  | inl c ↦ some_at (x ∷ X) x u (Contains-here x X) (under_trans s.under (child_under x shape.n s.above c))
  | inr c ↦ (let t = under_before shape X marks u (some_at (expanded_at shape X marks) s.above u c s.under) in some_at (x ∷ X) t.above u (Contains-there x X t.above t.listed) t.under)
]

-- ---- steps

-- a step that stays is right after, too
stays_right : (shape : Shape) (p : List Row) (X : List Word) (marks : List Bool) (places : List ℕ) (x : Word) (old new : Step) → length marks ≡ length X → ArePlacesAfter shape.n marks places → HasRoundStep shape p X x old → StaysAs marks places old new
    → HasRoundStep shape p (expanded_at shape X marks) x new
stays_right shape p X marks places x Splits new many after has stays = subst (HasRoundStep shape p (expanded_at shape X marks) x) (sym stays) (splits_after has)
  where
    splits_after : SplitsIn shape p X x → SplitsIn shape p (expanded_at shape X marks) x
    splits_after s = unfold SplitsIn in λ c. s (record { to = c.to; carries = c.carries; under = under_before shape X marks c.to c.under })
stays_right shape p X marks places x (Next place) new many after has stays = subst (HasRoundStep shape p (expanded_at shape X marks) x) (sym stays.1) (record {
  to = has.to;
  here = ap (λ k. slice_get (expanded_at shape X marks) k) (after.each place (omega (arith, many, slice_get_within X place has.to has.here))) ∙ stays_at shape X marks place has.to has.here stays.0;
  carries = has.carries;
})
stays_right shape p X marks places x (Descends place) new many after has stays = subst (HasRoundStep shape p (expanded_at shape X marks) x) (sym stays.1) (record {
  above = has.above;
  rest = has.rest;
  here = ap (λ k. slice_get (expanded_at shape X marks) k) (after.each place (omega (arith, many, slice_get_within X place has.above has.here))) ∙ stays_at shape X marks place has.above has.here stays.0;
  longer = has.longer;
  carries = has.carries;
})

-- the steps so far, where the old ones were those of a basis
pub record AreRenewed (shape : Shape) (p : List Row) (old : List Step) (marks : List Bool) (X : List Word) (place : ℕ) (steps : List Step) : Type 0 where
  pub count : length steps ≡ place_after shape.n marks place
  pub have : (before : List Word) → AreRoundSteps shape p before old → X ≡ expanded_at shape before marks → HaveRoundSteps shape p X (length steps) steps

pub none_renewed : (shape : Shape) (p : List Row) (old : List Step) (marks : List Bool) (X : List Word) (steps : List Step) → steps ≡ [] → AreRenewed shape p old marks X 0 steps
none_renewed shape p old marks X steps e = subst (AreRenewed shape p old marks X 0) (sym e) (record { count = refl; have = λ before h is. record { many = refl; each = λ place x step here at. absurd (none place step at) } })
  where
    none : (place : ℕ) (step : Step) → slice_get [] place ≡ Some step → ⊥
    none place step e = cc

-- the step of a word that stays
pub right_at : (shape : Shape) (p : List Row) (old : List Step) (marks : List Bool) (X : List Word) (places : List ℕ) (place : ℕ) (step kept : Step) (at : ℕ) → length marks ≡ length old → ArePlacesAfter shape.n marks places → slice_get old place ≡ Some step
    → slice_get marks place ≡ Some false → at ≡ place_after shape.n marks place → StaysAs marks places step kept → (before : List Word) → AreRoundSteps shape p before old → X ≡ expanded_at shape before marks → (x : Word) → slice_get X at ≡ Some x → HasRoundStep shape p X x kept
right_at shape p old marks X places place step kept at many after old_at unmarked at_is stays before h is x here =
    let y = something_at before place (omega (arith, h.many, slice_get_within old place step old_at)) in
    let stays_here = stays_at shape before marks place y.0 y.1 (unmarked_read marks place unmarked) in
    let same : y.0 ≡ x = same_at (expanded_at shape before marks) X (place_after shape.n marks place) y.0 x (sym is) stays_here (subst (λ k. slice_get X k ≡ Some x) at_is here) in
    subst (λ (Y : List Word). HasRoundStep shape p Y x kept) (sym is) (stays_right shape p before marks places x step kept (many ∙ h.many) after (subst (λ t. HasRoundStep shape p before t step) same (h.each place y.0 step y.1 old_at)) stays)
  where
    unmarked_read : (marks : List Bool) (place : ℕ) → slice_get marks place ≡ Some false → get_or marks place false ≡ false
    unmarked_read [] place e = absurd cc
    unmarked_read (m ∷ marks) zero e = cc
    unmarked_read (m ∷ marks) (suc place) e = unmarked_read marks place e

-- a marked word gives as many steps as it has children
pub renewed_children : (shape : Shape) (p : List Row) (old : List Step) (marks : List Bool) (X : List Word) (place : ℕ) (steps new : List Step) → slice_get marks place ≡ Some true → AreRenewed shape p old marks X place steps
    → (length new ≡ length steps + shape.n) × (HaveRoundSteps shape p X (length steps) steps → HaveRoundSteps shape p X (length new) new) → AreRenewed shape p old marks X (place + 1) new
renewed_children shape p old marks X place steps new marked r h = record {
  count = omega (arith, h.0, r.count, place_more shape.n marks place true marked);
  have = λ before g is. h.1 (r.have before g is);
}

-- a word that stays gives one
pub renewed_kept : (shape : Shape) (p : List Row) (old : List Step) (marks : List Bool) (X : List Word) (places given : List ℕ) (place : ℕ) (step : Step) (known : Option Step) (steps new : List Step) → length marks ≡ length old
    → ArePlacesAfter shape.n marks places → given ≡ places → slice_get old place ≡ Some step → slice_get marks place ≡ Some false → IfSome known (StaysAs marks given step) → AreRenewed shape p old marks X place steps
    → (length new ≡ length steps + 1) × (IsRightAt shape p X known (length steps) → HaveRoundSteps shape p X (length steps) steps → HaveRoundSteps shape p X (length new) new) → AreRenewed shape p old marks X (place + 1) new
renewed_kept shape p old marks X places given place step known steps new many after e old_at unmarked stays r h = record {
  count = omega (arith, h.0, r.count, place_more shape.n marks place false unmarked);
  have = λ before g is.
      h.1 (λ kept x k here.
      let s : StaysAs marks places step kept = subst (λ (t : List ℕ). StaysAs marks t step kept) e (subst (λ (o : Option Step). IfSome o (StaysAs marks given step)) k stays) in
      right_at shape p old marks X places place step kept (length steps) many after old_at unmarked r.count s before g is x here) (r.have before g is);
}

step_inside : (shape : Shape) (p : List Row) (X : List Word) (x : Word) (step : Step) (count : ℕ) → count ≡ length X → HasRoundStep shape p X x step → IsStepInside step count
step_inside shape p X x Splits count e g = tt
step_inside shape p X x (Next next) count e g = omega (arith, e, slice_get_within X next g.to g.here)
step_inside shape p X x (Descends below) count e g = omega (arith, e, slice_get_within X below g.above g.here)

-- the steps tell of places of the basis
pub all_inside : (shape : Shape) (p : List Row) (X : List Word) (steps : List Step) (count : ℕ) → AreRoundSteps shape p X steps → count ≡ length X → AreAllInside steps count
all_inside shape p X steps count h e place step at =
    let x = something_at X place (omega (arith, h.many, slice_get_within steps place step at)) in
    step_inside shape p X x.0 step count e (h.each place x.0 step x.1 at)

-- the steps of all words
pub all_renewed : (shape : Shape) (p : List Row) (old : List Step) (marks : List Bool) (X : List Word) (count : ℕ) (steps : List Step) → length marks ≡ count → length X ≡ place_after shape.n marks (length marks) → AreRenewed shape p old marks X count steps → IsRenewed shape p old marks X steps
all_renewed shape p old marks X count steps e long r before h is =
    let all : length steps ≡ length X = r.count ∙ ap (λ k. place_after shape.n marks k) (sym e) ∙ sym long in
    record {
      held = subst (λ (Y : List Word). IsHeldBasis shape Y) (sym is) (held_expanded_at shape before marks h.held);
      many = all;
      each = (r.have before h is).each;
    }
