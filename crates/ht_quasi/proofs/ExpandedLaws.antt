-- The words of a basis some of whose words give way to their children.
use Rattle.std.proofs.Common.{◌≡◌, ℕ, zero, suc, ◌+◌, ◌*◌, inl, inr, Bool, true, false, cond, ap, ◌∙◌, List, [], ◌∷◌, ◌++◌, length, Some, slice_get, refl, sym, subst, arith}
use Rattle.std.specs.Prelude.{◌-◌}
use Rattle.std.specs.List.{count_by}
use Rattle.std.proofs.lemmas.Bool.{cases_lt}
use Rattle.std.proofs.lemmas.List.{length-append}
use Rattle.std.proofs.lemmas.List.Elements.{Contains-append_left, Contains-append_right}
use Rattle.std.proofs.lemmas.List.Sums.{sum_by-cons}
use Rattle.ht_word.specs.declared.shape.Shape.{Shape}
use Rattle.ht_word.specs.declared.word.Word.{Word}
use Rattle.ht_word.specs.Words.{child, IsWordOf, IsUnder, IsUnderSome}
use Rattle.ht_word.proofs.ListLaws.{Contains-nil, Contains-here, Contains-cons_cases}
use Rattle.ht_word.proofs.WordLaws.{under_same}
use Rattle.ht_pair.specs.HeldBases.{children, expanded_at}
use Rattle.ht_pair.proofs.BasisLaws.{some_at, child_above}
use Rattle.ht_pair.proofs.Sequences.{length-each}
use Rattle.ht_quasi.specs.Rounds.{IsMarked}

-- a word of X at a place that is marked
pub record IsMarkedWord (X : List Word) (marks : List Bool) (u : Word) : Type 0 where
  pub place : ℕ
  pub here : slice_get X place ≡ Some u
  pub marked : IsMarked marks place

marked_later : (x u : Word) (X : List Word) (mark : Bool) (marks : List Bool) → IsMarkedWord X marks u → IsMarkedWord (x ∷ X) (mark ∷ marks) u
marked_later x u X mark marks h = record { place = suc h.place; here = h.here; marked = h.marked }

-- what is under a list is under it behind other words
pub under_later : (A B : List Word) (u : Word) → IsUnderSome u B → IsUnderSome u (A ++ B)
under_later A B u s = some_at (A ++ B) s.above u (Contains-append_right A B s.above s.listed) s.under

-- what is under X and is no marked word is under the words after the change
pub under_expanded : (shape : Shape) (X : List Word) (marks : List Bool) (u : Word) → IsWordOf shape u → IsUnderSome u X → ¬ IsMarkedWord X marks u → IsUnderSome u (expanded_at shape X marks)
under_expanded shape [] marks u h s none = absurd (Contains-nil s.above s.listed)
under_expanded shape (x ∷ X) [] u h s none = s
under_expanded shape (x ∷ X) (false ∷ marks) u h s none = elim (Contains-cons_cases x X s.above s.listed) [
  | inl e ↦ some_at (x ∷ expanded_at shape X marks) x u (Contains-here x (expanded_at shape X marks)) (subst (λ t. IsUnder u t) (sym e) s.under)
  | inr c ↦ under_later (x ∷ []) (expanded_at shape X marks) u (under_expanded shape X marks u h (some_at X s.above u c s.under) (λ m. none (marked_later x u X false marks m)))
]
under_expanded shape (x ∷ X) (true ∷ marks) u h s none = elim (Contains-cons_cases x X s.above s.listed) [
  | inl e ↦ (
      let under : IsUnder u x = subst (λ t. IsUnder u t) (sym e) s.under in
      elim (cases_lt (length x.letters) (length u.letters)) [
        | inl l ↦ (let t = child_above shape x u h under l in some_at (children shape x ++ expanded_at shape X marks) t.above u (Contains-append_left (children shape x) (expanded_at shape X marks) t.above t.listed) t.under)
        | inr l ↦ absurd (none (let same : u ≡ x = under_same under l in record { place = 0; here = subst (λ t. Some x ≡ Some t) (sym same) refl; marked = refl }))
      ])
  | inr c ↦ under_later (children shape x) (expanded_at shape X marks) u (under_expanded shape X marks u h (some_at X s.above u c s.under) (λ m. none (marked_later x u X true marks m)))
]

abbrev pub count_set : List Bool → ℕ
count_set marks = count_by (λ mark. mark) marks

count-cons : (mark : Bool) (marks : List Bool) → count_set (mark ∷ marks) ≡ cond mark 1 0 + count_set marks
count-cons mark marks = sum_by-cons (λ (mark : Bool). cond mark 1 0) mark marks

kept_length : (old new count all each : ℕ) → new ≡ old + count * each → all ≡ count → suc new ≡ suc old + all * each
kept_length old new count all each e f = omega (arith, ap (λ k. k * each) f)

more_length : (n old new count all each : ℕ) → new ≡ old + count * each → all ≡ 1 + count → n ≡ suc each → n + new ≡ suc old + all * each
more_length n old new count all each e f g = omega (arith, ap (λ k. k * each) f)

-- each expansion adds n - 1 words
pub length-expanded : (shape : Shape) (X : List Word) (marks : List Bool) → length marks ≡ length X → length (expanded_at shape X marks) ≡ length X + count_set marks * (shape.n - 1)
length-expanded shape [] [] e = omega arith
length-expanded shape [] (mark ∷ marks) e = absurd (omega arith)
length-expanded shape (x ∷ X) [] e = absurd (omega arith)
length-expanded shape (x ∷ X) (false ∷ marks) e =
    kept_length (length X) (length (expanded_at shape X marks)) (count_set marks) (count_set (false ∷ marks)) (shape.n - 1) (length-expanded shape X marks (omega arith)) (omega (arith, count-cons false marks))
length-expanded shape (x ∷ X) (true ∷ marks) e =
    length-append (children shape x) (expanded_at shape X marks)
    ∙ ap (λ k. k + length (expanded_at shape X marks)) (length-each (child x) shape.n)
    ∙ more_length shape.n (length X) (length (expanded_at shape X marks)) (count_set marks) (count_set (true ∷ marks)) (shape.n - 1) (length-expanded shape X marks (omega arith)) (count-cons true marks) (omega (arith, shape.letters_low))

-- where no mark is set there is none
pub none_set : (marks : List Bool) → count_set marks ≡ 0 → (place : ℕ) → ¬ IsMarked marks place
none_set [] e place h = cc
none_set (true ∷ marks) e place h = absurd (omega (arith, count-cons true marks))
none_set (false ∷ marks) e zero h = cc
none_set (false ∷ marks) e (suc place) h = none_set marks (omega (arith, count-cons false marks)) place h
