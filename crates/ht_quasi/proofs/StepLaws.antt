-- What a canonical pair does with the words of a basis, told from its rows.
use Rattle.std.proofs.Common.{◌≡◌, ℕ, zero, suc, ◌⊎◌, inl, inr, List, [], ◌∷◌, ◌++◌, length, Some, slice_get, refl, sym, ap, ◌∙◌, subst, arith, Contains, pos}
use Rattle.std.proofs.lemmas.Option.{slice_get_within, slice_get-get_or, get_or_from_slice_get}
use Rattle.ht_word.specs.Words.{IsWordOf, ◌·◌, IsUnderSome}
use Rattle.ht_word.specs.declared.shape.Shape.{Shape}
use Rattle.ht_word.specs.declared.word.Word.{Word}
use Rattle.ht_word.proofs.WordLaws.{length-after, under_same}
use Rattle.ht_pair.specs.Actions.{Moves, IsCanonical}
use Rattle.ht_pair.specs.BadChains.{Splits}
use Rattle.ht_pair.specs.HeldBases.{IsPlaceAbove}
use Rattle.ht_pair.specs.Steps.{Carries}
use Rattle.ht_pair.specs.declared.row.Row.{Row}
use Rattle.ht_pair.proofs.CanonicalLaws.{Everywhere, reduced_pair}
use Rattle.ht_pair.proofs.CarriesLaws.{carries_single, carries_from_steps}
use Rattle.ht_pair.proofs.ReducedLaws.{reduced_moves}
use Rattle.ht_quasi.specs.Rounds.{GoesTo, GoesBelow}

-- a canonical pair carries by one step what it moves
pub moved_carries : (shape : Shape) (p : List Row) → IsCanonical shape p → (u v : Word) → IsWordOf shape u → Moves p u v → Carries shape p (pos 1) u v
moved_carries shape p canonical u v h m = carries_from_steps shape p canonical.pair (pos 1) u v h (u, refl, m)

-- and nothing else
pub carried_moves : (shape : Shape) (p : List Row) → IsCanonical shape p → (u v : Word) → Carries shape p (pos 1) u v → Moves p u v
carried_moves shape p canonical u v c =
    reduced_moves shape Everywhere p (reduced_pair shape p canonical.pair canonical.reduced) u v c.word tt (record { at = λ z w hz m. c.carried z w hz (u · z, refl, m) })

-- a word that no row moves splits
pub splits_unmoved : (shape : Shape) (p : List Row) → IsCanonical shape p → (X : List Word) (u : Word) → ((v : Word) → ¬ Moves p u v) → Splits shape p X u
unfolding Splits
splits_unmoved shape p canonical X u none = λ c. none c.to (carried_moves shape p canonical u c.to c.carries)

-- so does one that is moved to a word under none of X
pub splits_outside : (shape : Shape) (p : List Row) → IsCanonical shape p → (X : List Word) (u v : Word) → IsWordOf shape u → Moves p u v → ¬ IsUnderSome v X → Splits shape p X u
unfolding Splits
splits_outside shape p canonical X u v h m none = λ c.
    none (subst (λ t. IsUnderSome t X) (carries_single shape p canonical.pair (pos 1) u c.to v c.carries (moved_carries shape p canonical u v h m)) c.under)

-- the word at a place is in the list
pub listed_at : (X : List Word) (place : ℕ) (x : Word) → slice_get X place ≡ Some x → Contains X x
listed_at X place x e = (place, slice_get_within X place x e, get_or_from_slice_get X place x x e)

-- what is listed stands at its place
pub at_place : {A : Type 0} (X : List A) (x : A) → (c : Contains X x) → slice_get X c.0 ≡ Some x
at_place X x c = slice_get-get_or X c.0 x c.1 ∙ ap (λ y. Some y) c.2

-- what stands at one place is one
pub same_at : {T : Type 0} (xs ys : List T) (place : ℕ) (x y : T) → xs ≡ ys → slice_get xs place ≡ Some x → slice_get ys place ≡ Some y → x ≡ y
same_at xs ys place x y e h g = let k : Some x ≡ Some y = sym h ∙ ap (λ t. slice_get t place) e ∙ g in cc

-- a word that is moved to a word no longer than the one above it goes to that one
pub goes_to : (shape : Shape) (p : List Row) → IsCanonical shape p → (X W : List Word) (u v y : Word) (place : ℕ) → IsWordOf shape u → Moves p u v → IsPlaceAbove X v place → W ≡ X → slice_get W place ≡ Some y
    → length y.letters ≡ length v.letters → GoesTo shape p X u place
goes_to shape p canonical X W u v y place h m above are here same =
    let is : y ≡ above.word = same_at W X place y above.word are here above.here in
    let to_is : v ≡ above.word = under_same above.above (omega (arith, ap (λ (w : Word). length w.letters) is)) in
    record { to = above.word; here = above.here; carries = subst (Carries shape p (pos 1) u) to_is (moved_carries shape p canonical u v h m) }

-- and one that is moved to a longer word goes below it
pub goes_below : (shape : Shape) (p : List Row) → IsCanonical shape p → (X W : List Word) (u v y : Word) (place : ℕ) → IsWordOf shape u → Moves p u v → IsPlaceAbove X v place → W ≡ X → slice_get W place ≡ Some y
    → ¬ (length y.letters ≡ length v.letters) → GoesBelow shape p X u place
goes_below shape p canonical X W u v y place h m above are here other =
    let is : y ≡ above.word = same_at W X place y above.word are here above.here in
    record {
      above = above.word;
      rest = above.above.rest;
      here = above.here;
      longer = λ e. other (omega (arith, ap (λ (w : Word). length w.letters) is, ap (λ (w : Word). length w.letters) above.above.is, length-after above.word above.above.rest, ap (λ (z : List ℕ). length z) e));
      carries = subst (Carries shape p (pos 1) u) above.above.is (moved_carries shape p canonical u v h m);
    }

-- what stands in a list with one more entry
pub at_push : {T : Type 0} (xs : List T) (x y : T) (place : ℕ) → slice_get (xs ++ x ∷ []) place ≡ Some y → (slice_get xs place ≡ Some y) ⊎ ((place ≡ length xs) × (x ≡ y))
at_push [] x y zero e = inr (refl, cc)
at_push [] x y (suc place) e = absurd cc
at_push (z ∷ xs) x y zero e = inl e
at_push (z ∷ xs) x y (suc place) e = elim (at_push xs x y place e) [ inl h ↦ inl h | inr h ↦ inr (ap suc h.0, h.1) ]
