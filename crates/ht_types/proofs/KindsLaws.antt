-- The kinds of all words of a basis, told by the courses ahead and back.
use Rattle.std.proofs.Common.{◌≡◌, ℕ, zero, suc, ◌<◌, ◌^◌, List, [], ◌∷◌, length, map, Some, slice_get, refl, sym, ap, ◌∙◌, subst, arith, ℤ, pos, neg_ℤ}
use Rattle.std.specs.Prelude.{zip, All}
use Rattle.std.proofs.lemmas.Option.{slice_get_within, slice_get-get_or}
use Rattle.ht_word.specs.declared.shape.Shape.{Shape}
use Rattle.ht_word.specs.declared.word.Word.{Word}
use Rattle.ht_word.proofs.WordLaws.{All-from_contains}
use Rattle.ht_pair.specs.declared.row.Row.{Row}
use Rattle.ht_pair.specs.Pairs.{IsPair}
use Rattle.ht_pair.specs.SemiNormal.{IsSemiNormal}
use Rattle.ht_types.specs.declared.course.Course.{Course}
use Rattle.ht_types.specs.declared.course.Course.TheVariants.{Ends, Returns, Joins}
use Rattle.ht_types.specs.declared.kind.Kind.{Kind}
use Rattle.ht_types.specs.declared.step.Step.{Step}
use Rattle.ht_types.specs.declared.step.Step.TheVariants.{Leads}
use Rattle.ht_types.specs.Courses.{AreInside, HasCourse, AreCourses}
use Rattle.ht_types.specs.TypedElements.{HasShortReach, HasShortReaches}
use Rattle.ht_types.specs.WordKinds.{HasKind, AreKinds}
use Rattle.ht_types.specs.WordSteps.{AreSteps, ReturnsToo, reach_of, turned_kind, told_kind}
use Rattle.ht_types.proofs.CourseSizes.{joins_short}
use Rattle.ht_types.proofs.ToldLaws.{told_right, returns_right}
use Rattle.ht_quasi.proofs.RoundLaws.{something_at}

-- steps lead to words of the basis
pub steps_inside : (shape : Shape) (p : List Row) (X : List Word) (k : ℤ) (steps : List Step) → AreSteps shape p X k steps → AreInside steps
steps_inside shape p X k steps h x y rest here =
    let at = something_at X x (let l = slice_get_within steps x (Leads y rest) here in omega (arith, l, h.as_many)) in
    let to = h.each x at.0 (Leads y rest) at.1 here in
    let l = slice_get_within X y to.above to.here in
    omega (arith, l, h.as_many)

-- the courses of the words of a basis by the k-th power
pub record AreCoursesOf (shape : Shape) (p : List Row) (X : List Word) (k : ℤ) (courses : List Course) : Type 0 where
  pub steps : List Step
  pub are : AreSteps shape p X k steps
  pub told : AreCourses steps courses

-- two courses that stand side by side stand in their lists
zip_at : (ahead behind : List Course) (place : ℕ) (both : Course × Course) → slice_get (zip ahead behind) place ≡ Some both → (slice_get ahead place ≡ Some both.0) × (slice_get behind place ≡ Some both.1)
zip_at [] behind place both e = absurd cc
zip_at (a ∷ ahead) [] place both e = absurd cc
zip_at (a ∷ ahead) (b ∷ behind) zero both e = let same : (a, b) ≡ both = cc in (ap (λ (t : Course × Course). Some t.0) same, ap (λ (t : Course × Course). Some t.1) same)
zip_at (a ∷ ahead) (b ∷ behind) (suc place) both e = zip_at ahead behind place both e

pair_at : (ahead behind : List Course) (place : ℕ) (kind : Kind) → slice_get (map (λ p. told_kind p.0 p.1) (zip ahead behind)) place ≡ Some kind → (a : Course) × (b : Course) × (slice_get ahead place ≡ Some a) × (slice_get behind place ≡ Some b) × (told_kind a b ≡ kind)
pair_at [] behind place kind e = absurd cc
pair_at (a ∷ ahead) [] place kind e = absurd cc
pair_at (a ∷ ahead) (b ∷ behind) zero kind e = (a, b, refl, refl, cc)
pair_at (a ∷ ahead) (b ∷ behind) (suc place) kind e = pair_at ahead behind place kind e

many_kinds : (ahead behind : List Course) → length ahead ≡ length behind → length (map (λ p. told_kind p.0 p.1) (zip ahead behind)) ≡ length ahead
many_kinds [] behind e = refl
many_kinds (a ∷ ahead) [] e = absurd (omega arith)
many_kinds (a ∷ ahead) (b ∷ behind) e = ap suc (many_kinds ahead behind (omega arith))

short_course : (steps : List Step) (x : ℕ) (course : Course) → length steps < 2 ^ 121 → HasCourse steps x course → HasShortReach (reach_of course)
short_course steps x Ends few h = tt
short_course steps x (Returns m by) few h = tt
short_course steps x (Joins reach) few h = let l = joins_short steps x (reach) h in omega (arith, l, few)

short_behind : (a b : Course) → HasShortReach (reach_of a) → HasShortReach (reach_of b) → HasShortReaches (turned_kind a b)
short_behind a Ends first second = (first, tt)
short_behind a (Returns m by) first second = tt
short_behind a (Joins reach) first second = (first, second)

short_told : (a b : Course) → HasShortReach (reach_of a) → HasShortReach (reach_of b) → HasShortReaches (told_kind a b)
short_told Ends b first second = short_behind Ends b first second
short_told (Returns m []) b first second = tt
short_told (Returns m (l ∷ by)) b first second = tt
short_told (Joins reach) b first second = short_behind (Joins reach) b first second

-- ---- the courses ahead and behind

module _ (shape : Shape) (p : List Row) (X : List Word) (ahead behind : List Course) (there : AreCoursesOf shape p X (pos 1) ahead) (back : AreCoursesOf shape p X (neg_ℤ (pos 1)) behind) where
  -- where steps back lead to a word itself, steps ahead come back to it
  pub courses_return : IsPair shape p → IsSemiNormal shape p X → All (λ (both : Course × Course). ReturnsToo both.0 both.1) (zip ahead behind)
  courses_return pair semi = All-from_contains (λ (both : Course × Course). ReturnsToo both.0 both.1) (zip ahead behind) (λ both c.
      let at = zip_at ahead behind c.0 both (slice_get-get_or (zip ahead behind) c.0 both c.1 ∙ ap (λ (t : Course × Course). Some t) c.2) in
      let inside = slice_get_within ahead c.0 both.0 at.0 in
      let x = something_at X c.0 (omega (arith, inside, there.told.as_many, there.are.as_many)) in
      returns_right shape p pair X semi there.steps back.steps there.are back.are c.0 x.0 both.0 both.1 x.1 (there.told.each c.0 both.0 at.0) (back.told.each c.0 both.1 at.1))

  -- the kinds that they tell are those of the words
  pub kinds_right : IsPair shape p → IsSemiNormal shape p X → (kinds : List Kind) → kinds ≡ map (λ p. told_kind p.0 p.1) (zip ahead behind) → AreKinds shape p X kinds
  kinds_right pair semi kinds e = subst (AreKinds shape p X) (sym e) (record {
    as_many = omega (arith, many_kinds ahead behind (omega (arith, there.are.as_many, there.told.as_many, back.are.as_many, back.told.as_many)), there.are.as_many, there.told.as_many);
    each = λ place x kind here at.
        let both = pair_at ahead behind place kind at in
        subst (λ (k : Kind). HasKind shape p X x k) both.4
        (told_right shape p pair X semi there.steps back.steps there.are back.are place x both.0 both.1 here (there.told.each place both.0 both.2) (back.told.each place both.1 both.3));
  })

  -- and their reaches are short
  pub kinds_short : (kinds : List Kind) → length X < 2 ^ 121 → kinds ≡ map (λ p. told_kind p.0 p.1) (zip ahead behind) → All HasShortReaches kinds
  kinds_short kinds few e = subst (All HasShortReaches) (sym e) (All-from_contains HasShortReaches (map (λ p. told_kind p.0 p.1) (zip ahead behind)) (λ kind c.
      let all = map (λ p. told_kind p.0 p.1) (zip ahead behind) in
      let both = pair_at ahead behind c.0 kind (slice_get-get_or all c.0 kind c.1 ∙ ap (λ (k : Kind). Some k) c.2) in
      subst HasShortReaches both.4
      (short_told both.0 both.1 (short_course there.steps c.0 both.0 (omega (arith, there.are.as_many, few)) (there.told.each c.0 both.0 both.2)) (short_course back.steps c.0 both.1 (omega (arith, back.are.as_many, few)) (back.told.each c.0 both.1 both.3)))))
