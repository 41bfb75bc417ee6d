-- Bases in ascending order, and expansions of their words.
use Rattle.std.proofs.Common.{◌≡◌, ℕ, zero, suc, ◌+◌, ◌<◌, inl, inr, Bool, true, false, List, [], ◌∷◌, ◌++◌, length, take, drop, Some, slice_get, Result, Ok, Err, OnOk, OnErr, sym, ap, ◌∙◌, subst, arith, AllPairs, append_assoc, take-append-drop, drop-cons, add-one}
use Rattle.std.proofs.lemmas.Result.{on_ok_weaker}
use Rattle.std.proofs.lemmas.Option.{slice_get_within, get_or_from_slice_get}
use Rattle.std.proofs.lemmas.List.Elements.{All-nil, All-contains, Contains-append_cases}
use Rattle.std.proofs.lemmas.List.{map-id}
use Rattle.std.proofs.lemmas.Iterator.{items_from_drains}
use Rattle.std.proofs.lemmas.Iterator.Adapters.{YieldsList-from_vec}
use Rattle.std.specs.Iterator.{Drains}
use Rattle.std.specs.List.{splice}
use Rattle.std.specs.Vec.Iter.{into_iter_items, into_iter_len, into_iter_steps}
use Rattle.std.specs.declared.vec.IntoIter.{IntoIter}
use Rattle.ht_word.specs.declared.word.Word.{Word}
use Rattle.ht_word.specs.declared.shape.Shape.{Shape}
use Rattle.ht_word.specs.Words.{◌·◌, child, IsUnder}
use Rattle.ht_word.proofs.WordLaws.{under_refl}
use Rattle.ht_word.proofs.ListLaws.{Contains-nil, Contains-here, Contains-there, Contains-cons_cases, AllPairs-nil, AllPairs-cons, AllPairs-head, AllPairs-tail, AllPairs-append, AllPairs-left, AllPairs-right, AllPairs-across}
use Rattle.ht_pair.specs.Bases.{roots}
use Rattle.ht_pair.specs.HeldBases.{BasisValue, IsHeldBasis, children, expanded_at, IsExpandedAt}
use Rattle.ht_pair.proofs.BasisLaws.{roots_basis, basis_expanded, children_to, child_of, child_under}
use Rattle.ht_pair.proofs.ConeOrder.{IsBefore, before_extended, child_before, all_before, before_ascending}
use Rattle.ht_pair.proofs.IdentityLaws.{roots_ascending}

-- what is under words whose cones are in order has its cones in this order
pub before_below : (u v s t : Word) → IsBefore u v → IsUnder s u → IsUnder t v → IsBefore s t
before_below u v s t before h g = subst (λ w. IsBefore w t) (sym h.is) (subst (IsBefore (u · h.rest)) (sym g.is) (before_extended u v h.rest g.rest before))

-- the cones of the children are in order
children_order : (x : Word) (k : ℕ) → AllPairs IsBefore (children_to x k)
children_order x zero = AllPairs-nil IsBefore
children_order x (suc k) = AllPairs-append IsBefore (children_to x k) (child x (suc k) ∷ []) (children_order x k) (AllPairs-cons IsBefore (child x (suc k)) [] (All-nil (IsBefore (child x (suc k)))) (AllPairs-nil IsBefore))
    (λ u v c e. elim (Contains-cons_cases (child x (suc k)) [] v e) [
      | inl s ↦ (let g = child_of x k u c in subst (IsBefore u) s (subst (λ t. IsBefore t (child x (suc k))) (sym g.is) (child_before x g.letter (suc k) (omega (arith, g.high)))))
      | inr n ↦ absurd (Contains-nil v n)
    ])

-- so are those of a list one word of which gives way to its children
order_expanded : (A B : List Word) (x : Word) (k : ℕ) → AllPairs IsBefore (A ++ x ∷ B) → AllPairs IsBefore (A ++ children_to x k ++ B)
order_expanded A B x k order =
    let behind = AllPairs-right IsBefore A (x ∷ B) order in
    AllPairs-append IsBefore (A ++ children_to x k) B
    (AllPairs-append IsBefore A (children_to x k) (AllPairs-left IsBefore A (x ∷ B) order) (children_order x k)
    (λ u v c e. before_below u x u v (AllPairs-across IsBefore A (x ∷ B) order u x c (Contains-here x B)) (under_refl u) (child_under x k v e)))
    (AllPairs-tail IsBefore x B behind)
    (λ u v c e. elim (Contains-append_cases A (children_to x k) u c) [
      | inl h ↦ AllPairs-across IsBefore A (x ∷ B) order u v h (Contains-there x B v e)
      | inr h ↦ before_below x v u v (All-contains (IsBefore x) B v (AllPairs-head IsBefore x B behind) e) (child_under x k u h) (under_refl v)
    ])

-- the roots are a basis in ascending order
pub roots_held : (shape : Shape) → IsHeldBasis shape (roots shape)
roots_held shape = record { basis = roots_basis shape; ascending = roots_ascending shape.r }

-- so is such a basis one of whose words gives way to its children
held_expanded : (shape : Shape) (A B : List Word) (x : Word) → IsHeldBasis shape (A ++ x ∷ B) → IsHeldBasis shape (A ++ children shape x ++ B)
held_expanded shape A B x h = record {
  basis = basis_expanded shape A B x h.basis;
  ascending = before_ascending (A ++ children shape x ++ B) (order_expanded A B x shape.n (all_before (A ++ x ∷ B) h.basis.prefix_free h.ascending));
}

-- and one some of whose words do, behind a front that stays
held_behind : (shape : Shape) (A X : List Word) (marks : List Bool) → IsHeldBasis shape (A ++ X) → IsHeldBasis shape (A ++ expanded_at shape X marks)
held_behind shape A [] marks h = h
held_behind shape A (x ∷ X) [] h = h
held_behind shape A (x ∷ X) (true ∷ marks) h =
    subst (IsHeldBasis shape) (append_assoc A (children shape x) (expanded_at shape X marks)) (held_behind shape (A ++ children shape x) X marks (held_expanded shape A X x h))
held_behind shape A (x ∷ X) (false ∷ marks) h =
    subst (IsHeldBasis shape) (append_assoc A (x ∷ []) (expanded_at shape X marks)) (held_behind shape (A ++ x ∷ []) X marks (subst (IsHeldBasis shape) (sym (append_assoc A (x ∷ []) X)) h))

-- a basis in ascending order whose marked words give way to their children
pub held_expanded_at : (shape : Shape) (X : List Word) (marks : List Bool) → IsHeldBasis shape X → IsHeldBasis shape (expanded_at shape X marks)
held_expanded_at shape X marks h = held_behind shape [] X marks h

-- a list is what is before a place, the word there and what is behind
pub parts_at : (X : List Word) (place : ℕ) (x : Word) → slice_get X place ≡ Some x → X ≡ take place X ++ x ∷ drop (place + 1) X
parts_at X place x e =
    let within : place < length X = slice_get_within X place x e in
    sym (take-append-drop place X) ∙ ap (λ t. take place X ++ t) (drop-cons X place x within ∙ ap (λ t. t ∷ drop (suc place) X) (get_or_from_slice_get X place x x e) ∙ ap (λ k. x ∷ drop k X) (sym (add-one place)))

-- a basis in ascending order where the word at a place gives way to its children
pub held_expanded_here : (shape : Shape) (X new : List Word) (place : ℕ) (x : Word) → slice_get X place ≡ Some x → new ≡ take place X ++ children shape x ++ drop (place + 1) X → IsHeldBasis shape X → IsHeldBasis shape new
held_expanded_here shape X new place x here is h =
    subst (IsHeldBasis shape) (sym is) (held_expanded shape (take place X) (drop (place + 1) X) x (subst (IsHeldBasis shape) (parts_at X place x here) h))

-- so is what a change leaves that was refused or put the children there
pub held_after : {T E : Type 0} (r : Result T E) (shape : Shape) (X others new : List Word) (place : ℕ) (x : Word) → slice_get X place ≡ Some x → others ≡ children shape x
    → OnOk r (new ≡ take place X ++ others ++ drop (place + 1) X) → OnErr r (new ≡ X) → IsHeldBasis shape X → IsHeldBasis shape new
held_after (Ok done) shape X others new place x here are ok err h = held_expanded_here shape X new place x here (ok ∙ ap (λ (t : List Word). take place X ++ t ++ drop (place + 1) X) are) h
held_after (Err fault) shape X others new place x here are ok err h = subst (IsHeldBasis shape) (sym err) h

-- and what a change made that put the children there
pub expanded_after : {T E : Type 0} (r : Result T E) (old new : BasisValue) (others : List Word) (place : ℕ) (x : Word) → slice_get old.words place ≡ Some x → others ≡ children old.shape x → new.shape ≡ old.shape
    → OnOk r (new.words ≡ take place old.words ++ others ++ drop (place + 1) old.words) → OnOk r (IsExpandedAt place old new)
expanded_after r old new others place x here are shapes ok =
    on_ok_weaker r (λ e. record { word = x; here = here; words = e ∙ ap (λ (t : List Word). take place old.words ++ t ++ drop (place + 1) old.words) are; shape = shapes }) ok

-- what the iterator of a vector gave was spliced in
pub spliced : {Z : Type 0} (it : IntoIter Word Z) (old all given new : List Word) (i : ℕ) → into_iter_items it ≡ all → into_iter_len it ≡ length all → Drains into_iter_steps it given
    → new ≡ splice old i (i + 1) given → new ≡ take i old ++ all ++ drop (i + 1) old
spliced it old all given new i items len h is =
    let whole : given ≡ all = sym (map-id given) ∙ items_from_drains given (h.1.0, h.1.1, λ _. (h.0, h.1.2)) (YieldsList-from_vec all items len) in
    is ∙ ap (λ (t : List Word). take i old ++ (t ++ drop (i + 1) old)) whole ∙ sym (append_assoc (take i old) all (drop (i + 1) old))
