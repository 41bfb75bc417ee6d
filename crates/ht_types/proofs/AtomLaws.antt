-- Atoms are the least pieces of the infinite part that are kept; two with a common place are one.
use Rattle.std.proofs.Common.{◌≡◌, ℕ, zero, suc, ◌<◌, ◌⊎◌, inl, inr, List, refl, sym, ◌∙◌, subst, arith, pos, ◌↔◌, Contains, ◌+◌, subst₂, Some, slice_get}
use Rattle.std.proofs.lemmas.Option.{same_Some, slice_get_within, get_or_from_slice_get}
use Rattle.ht_word.specs.Words.{IsUnder}
use Rattle.ht_word.specs.declared.shape.Shape.{Shape}
use Rattle.ht_word.specs.declared.word.Word.{Word}
use Rattle.ht_word.proofs.ListLaws.{ascending_same}
use Rattle.ht_word.proofs.WordLaws.{under_refl}
use Rattle.ht_pair.specs.Atoms.{IsInfiniteWord, AreJoined, AreLinked, IsAtom}
use Rattle.ht_pair.specs.Bases.{IsBasis}
use Rattle.ht_pair.specs.Kinds.{IsCycleWord}
use Rattle.ht_pair.specs.Steps.{Carries}
use Rattle.ht_pair.specs.declared.row.Row.{Row}
use Rattle.ht_pair.proofs.BasisLaws.{prefix_free_place}
use Rattle.ht_quasi.proofs.StepLaws.{listed_at, at_place}

-- a link more in front of a chain
pub linked_front : (shape : Shape) (p : List Row) (X : List Word) (k : ℕ) (x y w : Word) → IsInfiniteWord shape p X y → (AreJoined shape p x y ⊎ AreJoined shape p y x) → AreLinked shape p X k y w → AreLinked shape p X (suc k) x w
linked_front shape p X zero x y w infinite link chain = (x, refl, subst (IsInfiniteWord shape p X) chain infinite, subst (λ t. AreJoined shape p x t ⊎ AreJoined shape p t x) chain link)
linked_front shape p X (suc k) x y w infinite link chain = (chain.0, linked_front shape p X k x y chain.0 infinite link chain.1, chain.2, chain.3)

-- a chain from a word of the infinite part ends with one
pub last_infinite : (shape : Shape) (p : List Row) (X : List Word) (k : ℕ) (x y : Word) → IsInfiniteWord shape p X x → AreLinked shape p X k x y → IsInfiniteWord shape p X y
last_infinite shape p X zero x y infinite chain = subst (IsInfiniteWord shape p X) chain infinite
last_infinite shape p X (suc k) x y infinite chain = chain.2

-- a chain taken backwards
pub linked_back : (shape : Shape) (p : List Row) (X : List Word) (k : ℕ) (x y : Word) → IsInfiniteWord shape p X x → AreLinked shape p X k x y → AreLinked shape p X k y x
linked_back shape p X zero x y infinite chain = sym chain
linked_back shape p X (suc k) x y infinite chain = linked_front shape p X k y chain.0 x (last_infinite shape p X k x chain.0 infinite chain.1) (turn chain.3) (linked_back shape p X k x chain.0 infinite chain.1)
  where
    turn : {A B : Type 0} → A ⊎ B → B ⊎ A
    turn s = elim s [ inl a ↦ inr a | inr b ↦ inl b ]

-- a chain behind a chain
pub linked_then : (shape : Shape) (p : List Row) (X : List Word) (j k : ℕ) (x y w : Word) → AreLinked shape p X j x y → AreLinked shape p X k y w → AreLinked shape p X (j + k) x w
linked_then shape p X j zero x y w first second = subst₂ (λ i t. AreLinked shape p X i x t) (plain j) second first
  where
    plain : (j : ℕ) → j ≡ j + 0
    plain j = omega arith
linked_then shape p X j (suc k) x y w first second = subst (λ i. AreLinked shape p X i x w) (more j k) (second.0, linked_then shape p X j k x y second.0 first second.1, second.2, second.3)
  where
    more : (j k : ℕ) → suc (j + k) ≡ j + suc k
    more j k = omega arith

-- what an atom reaches from its start, another one reaches that has a place with it
same_places : (shape : Shape) (p : List Row) (X : List Word) (A B : List ℕ) (k : ℕ) → (a : IsAtom shape p X A) → (b : IsAtom shape p X B) → Contains A k → Contains B k → (i : ℕ) → Contains A i → Contains B i
same_places shape p X A B k a b ca cb i c =
    let from_a = (a.same k).0 ca in
    let from_b = (b.same k).0 cb in
    let there = (a.same i).0 c in
    let one : from_a.0 ≡ from_b.0 = same_Some _ _ (sym from_a.1 ∙ from_b.1) in
    let back = linked_back shape p X from_a.2 a.start from_a.0 a.infinite from_a.3 in
    let to_start = linked_then shape p X from_b.2 from_a.2 b.start from_b.0 a.start from_b.3 (subst (λ t. AreLinked shape p X from_a.2 t a.start) one back) in
    (b.same i).1 (there.0, there.1, from_b.2 + from_a.2 + there.2, linked_then shape p X (from_b.2 + from_a.2) there.2 b.start a.start there.0 to_start there.3)

-- two atoms with a common place are one
pub atoms_apart : (shape : Shape) (p : List Row) (X : List Word) (A B : List ℕ) (k : ℕ) → IsAtom shape p X A → IsAtom shape p X B → Contains A k → Contains B k → A ≡ B
atoms_apart shape p X A B k a b ca cb = ascending_same (λ (i : ℕ) (j : ℕ). i < j) (λ i j l m. omega (arith, l, m)) A B a.ascending b.ascending (same_places shape p X A B k a b ca cb) (same_places shape p X B A k b a cb ca)

-- at the places of an atom stand words of the infinite part
pub atom_infinite : (shape : Shape) (p : List Row) (X : List Word) (places : List ℕ) (i : ℕ) → IsAtom shape p X places → Contains places i → (x : Word) × (slice_get X i ≡ Some x) × IsInfiniteWord shape p X x
atom_infinite shape p X places i a c = let g = (a.same i).0 c in (g.0, g.1, last_infinite shape p X g.2 a.start g.0 a.infinite g.3)

-- a chain leads from each word of an atom to each
pub atom_linked : (shape : Shape) (p : List Row) (X : List Word) (places : List ℕ) (i j : ℕ) (x y : Word) → IsAtom shape p X places → Contains places i → Contains places j → slice_get X i ≡ Some x → slice_get X j ≡ Some y → (k : ℕ) × AreLinked shape p X k x y
atom_linked shape p X places i j x y a c d x_is y_is =
    let g = (a.same i).0 c in
    let h = (a.same j).0 d in
    let to_x : AreLinked shape p X g.2 a.start x = subst (λ t. AreLinked shape p X g.2 a.start t) (same_Some _ _ (sym g.1 ∙ x_is)) g.3 in
    let to_y : AreLinked shape p X h.2 a.start y = subst (λ t. AreLinked shape p X h.2 a.start t) (same_Some _ _ (sym h.1 ∙ y_is)) h.3 in
    (g.2 + h.2, linked_then shape p X g.2 h.2 x a.start y (linked_back shape p X g.2 a.start x a.infinite to_x) to_y)

-- the words of an atom that a further link leads to are in it
one_link : (shape : Shape) (p : List Row) (X : List Word) (places : List ℕ) (i j : ℕ) (x y : Word) → IsAtom shape p X places → slice_get X i ≡ Some x → slice_get X j ≡ Some y → ¬ IsCycleWord shape p y → (AreJoined shape p x y ⊎ AreJoined shape p y x) → Contains places i → Contains places j
one_link shape p X places i j x y a x_is y_is infinite link c =
    let g = (a.same i).0 c in
    let to_x : AreLinked shape p X g.2 a.start x = subst (λ t. AreLinked shape p X g.2 a.start t) (same_Some _ _ (sym g.1 ∙ x_is)) g.3 in
    (a.same j).1 (y, y_is, suc g.2, (x, to_x, (listed_at X j y y_is, infinite), link))

-- of two infinite words, one carried to the other, an atom has both or neither
pub atom_kept : (shape : Shape) (p : List Row) (X : List Word) (places : List ℕ) (i j : ℕ) (x y u v : Word) → IsAtom shape p X places → slice_get X i ≡ Some x → slice_get X j ≡ Some y → ¬ IsCycleWord shape p x → ¬ IsCycleWord shape p y → IsUnder u x → Carries shape p (pos 1) u v → IsUnder v y → Contains places i ↔ Contains places j
atom_kept shape p X places i j x y u v a x_is y_is other_x other_y under_x carries under_y =
    let joined : AreJoined shape p x y = record { from = u; to = v; under_first = under_x; carries = carries; under_second = under_y } in
    (one_link shape p X places i j x y a x_is y_is other_y (inl joined), one_link shape p X places j i y x a y_is x_is other_x (inr joined))

-- a list of places that has both or neither of such two words
pub AreKept : Shape → List Row → List Word → List ℕ → Type 0
AreKept shape p X places = (i j : ℕ) (x y u v : Word) → slice_get X i ≡ Some x → slice_get X j ≡ Some y → ¬ IsCycleWord shape p x → ¬ IsCycleWord shape p y → IsUnder u x → Carries shape p (pos 1) u v → IsUnder v y → Contains places i ↔ Contains places j

-- has all that chains lead to from one of its words
kept_along : (shape : Shape) (p : List Row) (X : List Word) (others : List ℕ) → IsBasis shape X → AreKept shape p X others → (k i j : ℕ) (x y : Word) → IsInfiniteWord shape p X x → slice_get X i ≡ Some x → slice_get X j ≡ Some y → AreLinked shape p X k x y → Contains others i → Contains others j
unfolding AreKept
kept_along shape p X others basis kept zero i j x y infinite x_is y_is chain c =
    let at : (k : ℕ) (t : Word) → slice_get X k ≡ Some t → Contains X t = λ k t is. (k, slice_get_within X k t is, get_or_from_slice_get X k t t is) in
    subst (Contains others) (prefix_free_place X basis.prefix_free x y (at i x x_is) (at j y y_is) (subst (λ t. IsUnder x t) chain (under_refl x))) c
kept_along shape p X others basis kept (suc k) i j x y infinite x_is y_is (t, before, last, link) c =
    let middle = last_infinite shape p X k x t infinite before in
    let at = middle.0.0 in
    let t_is = at_place X t middle.0 in
    let there = kept_along shape p X others basis kept k i at x t infinite x_is t_is before c in
    elim link [
      | inl h ↦ (kept at j t y h.from h.to t_is y_is middle.1 last.1 h.under_first h.carries h.under_second).0 there
      | inr h ↦ (kept j at y t h.from h.to y_is t_is last.1 middle.1 h.under_first h.carries h.under_second).1 there
    ]

-- a list of places that has one place of an atom, and both or neither of such two words, has the atom
pub atom_least : (shape : Shape) (p : List Row) (X : List Word) (places others : List ℕ) → IsBasis shape X → IsAtom shape p X places
    → ((i j : ℕ) (x y u v : Word) → slice_get X i ≡ Some x → slice_get X j ≡ Some y → ¬ IsCycleWord shape p x → ¬ IsCycleWord shape p y → IsUnder u x → Carries shape p (pos 1) u v → IsUnder v y → Contains others i ↔ Contains others j)
    → (i : ℕ) → Contains places i → Contains others i → (j : ℕ) → Contains places j → Contains others j
unfolding AreKept
atom_least shape p X places others basis a kept i c e j d =
    let x = atom_infinite shape p X places i a c in
    let y = atom_infinite shape p X places j a d in
    let chain = atom_linked shape p X places i j x.0 y.0 a c d x.1 y.1 in
    kept_along shape p X others basis kept chain.0 i j x.0 y.0 x.2 x.1 y.1 chain.1 e
