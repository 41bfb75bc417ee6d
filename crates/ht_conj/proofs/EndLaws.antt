-- The ends of atoms: as they are read, place by place, and as conjugate atoms have them in common.
use Rattle.std.proofs.Common.{◌≡◌, ℕ, Bool, ◌+◌, ◌<◌, List, [], ◌∷◌, ◌++◌, length, get_or, take, true, Some, slice_get, sym, ap, ◌∙◌, subst}
use Rattle.std.specs.Cmp.{IsEquivalence}
use Rattle.std.specs.Cmp.Lexicographic.{pointwise}
use Rattle.std.proofs.lemmas.Cmp.{lists_equiv}
use Rattle.std.proofs.lemmas.Grind.{flat_map-append}
use Rattle.std.proofs.lemmas.List.{append-nil, take_more}
use Rattle.std.proofs.lemmas.List.Elements.{Contains-get_or}
use Rattle.std.proofs.lemmas.Option.{slice_get_within}
use Rattle.ht_pair.specs.Atoms.{IsAtom}
use Rattle.ht_types.specs.TypedElements.{TypedValue}
use Rattle.ht_types.specs.declared.kind.Kind.{Kind}
use Rattle.ht_types.proofs.AtomLaws.{atom_infinite}
use Rattle.ht_counterparts.specs.Ends.{end_in, end_of, ends_at}
use Rattle.ht_counterparts.proofs.EndCounterparts.{conjugate_ends}
use Rattle.ht_counterparts.proofs.SortedEnds.{same_sorted_ends}
use Rattle.ht_conj.specs.Classes.{AreConjugateAtoms}
use Rattle.ht_conj.specs.LinkedAtoms.{IsLinkedAtom}
use Rattle.ht_conj.specs.declared.linked.LinkedAtom.{LinkedAtom}
use Rattle.ht_conj.proofs.OneShape.{AreOfOneShape}

-- a test that goes by an equality answers yes at equal lists
pub equal_tested : {A : Type 0} {E : A → A → Bool} → IsEquivalence E → (xs ys : List A) (r : Bool) → r ≡ pointwise E xs ys → xs ≡ ys → r ≡ true
equal_tested {E = E} laws xs ys r tested same = tested ∙ subst (λ l. pointwise E xs l ≡ true) same ((lists_equiv laws).refl xs)

-- a place of an atom is that of a word
pub place_within : (t : TypedValue) (places : List ℕ) (i : ℕ) → IsAtom t.element.shape t.element.rows t.quasi.basis.words places → i < length places
    → get_or places i 0 < length t.quasi.basis.words
place_within t places i atom l =
    let X = t.quasi.basis.words in
    let x = atom_infinite t.element.shape t.element.rows X places (get_or places i 0) atom (Contains-get_or places i 0 l) in
    slice_get_within X (get_or places i 0) x.0 x.1

-- the ends at one place more
pub ends_more : (kinds : List Kind) (places : List ℕ) (i : ℕ) (kind : Kind) → i < length places → slice_get kinds (get_or places i 0) ≡ Some kind
    → ends_at kinds (take i places) ++ end_of kind ≡ ends_at kinds (take (i + 1) places)
ends_more kinds places i kind l here =
    let p = get_or places i 0 in
    let one : end_of kind ≡ ends_at kinds (p ∷ []) = ap end_in (sym here) ∙ sym (append-nil (end_in (slice_get kinds p))) in
    ap (λ e. ends_at kinds (take i places) ++ e) one ∙ sym (flat_map-append (λ place. end_in (slice_get kinds place)) (take i places) (p ∷ []))
    ∙ ap (ends_at kinds) (sym (take_more places i 0 l))

-- conjugate atoms have equal ends, in order
pub conjugate_atoms_ends : {f g : TypedValue} {k l : LinkedAtom} → AreOfOneShape f g → IsLinkedAtom f k → IsLinkedAtom g l → AreConjugateAtoms f k g l
    → k.ends ≡ l.ends
conjugate_atoms_ends {f} {g} {k} {l} both first second c =
    let equal = conjugate_ends f g both.first both.second both.same k.places l.places first.is_atom second.is_atom c.0 c.1 in
    same_sorted_ends (ends_at f.kinds k.places) (ends_at g.kinds l.places) k.ends l.ends equal first.ends.all second.ends.all first.ends.sorted second.ends.sorted
