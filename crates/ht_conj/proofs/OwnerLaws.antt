-- Owners of places: the index of the atom that a place is in.
use Rattle.std.proofs.Common.{◌≡◌, ℕ, ◌+◌, ◌<◌, ◌≤◌, ◌⊎◌, inl, inr, List, length, get_or, set, Some, slice_get, sym, ap, ◌∙◌, refl, subst, arith, All, Contains}
use Rattle.std.proofs.lemmas.Bool.{cases_eq}
use Rattle.std.proofs.lemmas.List.{get_or-set_other, get_or-set_same, get_or_default}
use Rattle.std.proofs.lemmas.List.Elements.{All-contains, Contains-get_or}
use Rattle.std.proofs.lemmas.Option.{get_or_from_slice_get, same_Some, slice_get_within}
use Rattle.ht_word.proofs.WordLaws.{All-from_contains}
use Rattle.ht_pair.specs.Atoms.{IsAtom}
use Rattle.ht_types.specs.TypedElements.{TypedValue}
use Rattle.ht_types.proofs.AtomLaws.{atom_infinite}
use Rattle.ht_conj.specs.LinkedAtoms.{AreOwners, IsOwned}
use Rattle.ht_quasi.proofs.StepLaws.{at_place}

-- at the first n of the places the new owner is the index, and elsewhere no other owner is new
pub record IsOwning (places : List ℕ) (index : ℕ) (old : List ℕ) (n : ℕ) (new : List ℕ) : Type 0 where
  pub own : (k d : ℕ) → k < n → k < length places → get_or new (get_or places k d) 0 ≡ index
  pub other : (place : ℕ) → (get_or new place 0 ≡ get_or old place 0) ⊎ (Contains places place × (get_or new place 0 ≡ index))

-- a written place is the index, and each other as it was
written : (owners : List ℕ) (place index : ℕ) → place < length owners → (i : ℕ)
    → (get_or (set owners place index) i 0 ≡ get_or owners i 0) ⊎ ((i ≡ place) × (get_or (set owners place index) i 0 ≡ index))
written owners place index l i = elim (cases_eq i place) [
  | inl e ↦ inr (e, ap (λ k. get_or (set owners place index) k 0) e ∙ get_or-set_same owners place index 0 l)
  | inr n ↦ inl (get_or-set_other owners place i index 0 n)
]

pub owning_none : (places : List ℕ) (index : ℕ) (owners : List ℕ) → IsOwning places index owners 0 owners
owning_none places index owners = record { own = λ k d l m. absurd (omega arith); other = λ place. inl refl }

pub owning_more : {places : List ℕ} {index : ℕ} {old : List ℕ} {n : ℕ} {new : List ℕ} → n < length places → get_or places n 0 < length new
    → IsOwning places index old n new
    → IsOwning places index old (n + 1) (set new (get_or places n 0) index)
owning_more {places} {index} {old} {n} {new} l inside o =
    let p = get_or places n 0 in
    record {
      own = λ k d m e. elim (written new p index inside (get_or places k d)) [
        | inl same ↦ elim (cases_eq k n) [
          | inl here ↦ ap (λ i. get_or (set new p index) i 0) (ap (λ j. get_or places j d) here ∙ get_or_default places n d 0 l) ∙ get_or-set_same new p index 0 inside
          | inr there ↦ same ∙ o.own k d (omega arith) e
        ]
        | inr h ↦ h.1
      ];
      other = λ place. elim (written new p index inside place) [
        | inl same ↦ elim (o.other place) [ inl e ↦ inl (same ∙ e) | inr h ↦ inr (h.0, same ∙ h.1) ]
        | inr h ↦ inr (subst (Contains places) (sym h.0) (Contains-get_or places n 0 l), h.1)
      ];
    }

-- ---- the owners of all atoms

-- the places of the first n atoms are owned
abbrev pub AreOwnersBelow : List (List ℕ) → ℕ → List ℕ → Type 0
AreOwnersBelow atoms n owners = (places : List ℕ) (i place : ℕ) → i < n → slice_get atoms i ≡ Some places → Contains places place → IsOwned atoms owners place

pub owners_more : (atoms : List (List ℕ)) (n : ℕ) (old new here : List ℕ) → slice_get atoms n ≡ Some here → length new ≡ length old
    → All (λ place. place < length old) here → All (λ place. get_or new place 0 ≡ n) here
    → ((place : ℕ) → (get_or new place 0 ≡ get_or old place 0) ⊎ (Contains here place × (get_or new place 0 ≡ n))) → AreOwnersBelow atoms n old → AreOwnersBelow atoms (n + 1) new
owners_more atoms n old new here at many within own other before places i place l is c = elim (cases_eq i n) [
  | inl last ↦
      let mine = subst (λ t. Contains t place) (same_Some _ _ (sym is ∙ ap (slice_get atoms) last ∙ at)) c in
      let inside = All-contains (λ place. place < length old) here place within mine in
      record { within = omega (arith, many, inside); places = here; here = ap (slice_get atoms) (All-contains (λ place. get_or new place 0 ≡ n) here place own mine) ∙ at; listed = mine }
  | inr earlier ↦
      let o = before places i place (omega arith) is c in
      let inside = o.within in
      elim (other place) [
        | inl same ↦ record { within = omega (arith, many, inside); places = o.places; here = ap (slice_get atoms) same ∙ o.here; listed = o.listed }
        | inr h ↦ record { within = omega (arith, many, inside); places = here; here = ap (slice_get atoms) h.1 ∙ at; listed = h.0 }
      ]
]

pub owners_all : (atoms : List (List ℕ)) (n : ℕ) (owners : List ℕ) → length atoms ≤ n → AreOwnersBelow atoms n owners → AreOwners atoms owners
owners_all atoms n owners l below places place c d = let inside = c.1 in below places c.0 place (omega (arith, inside)) (at_place atoms places c) d

-- the places of an atom are places of the basis
pub places_within : (t : TypedValue) (atoms : List (List ℕ)) (n : ℕ) (here : List ℕ) → All (IsAtom t.element.shape t.element.rows t.quasi.basis.words) atoms
    → slice_get atoms n ≡ Some here
    → (count : ℕ) → count ≡ length t.quasi.basis.words → All (λ place. place < count) here
places_within t atoms n here are at count many = All-from_contains (λ place. place < count) here (λ place c.
    let atom = All-contains (IsAtom t.element.shape t.element.rows t.quasi.basis.words) atoms here are (n, slice_get_within atoms n here at, get_or_from_slice_get atoms n here here at) in
    let x = atom_infinite t.element.shape t.element.rows t.quasi.basis.words here place atom c in
    let l = slice_get_within t.quasi.basis.words place x.0 x.1 in
    omega (arith, l, many))
