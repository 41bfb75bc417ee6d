-- Links dealt out to the atoms that their cones are under: there they connect the ends as all links do.
use Rattle.std.proofs.Common.{◌≡◌, ◌≢◌, ℕ, zero, suc, ◌<◌, ◌⊎◌, inl, inr, List, [], ◌∷◌, ◌++◌, length, map, get_or, set, Option, Some, None, slice_get, refl, sym, ap, ◌∙◌, subst, arith, All, Contains, option_map}
use Rattle.std.proofs.lemmas.Bool.{cases_eq}
use Rattle.std.proofs.lemmas.List.{get_or-set_other, get_or-set_same, length-set, map-append}
use Rattle.std.proofs.Math.Seq.{map-set_same}
use Rattle.std.proofs.lemmas.List.Elements.{All-append, All-contains, All-cons, All-nil, All-set, Contains-append_left, Contains-append_right}
use Rattle.std.proofs.lemmas.Option.{get_or_from_slice_get, same_Some, slice_get-map, slice_get_within}
use Rattle.ht_word.specs.Words.{IsUnderSome}
use Rattle.ht_word.proofs.ListLaws.{Contains-here, Contains-map, same_by_map}
use Rattle.ht_word.proofs.WordLaws.{All-from_contains}
use Rattle.ht_pair.specs.Atoms.{IsAtom, words_at}
use Rattle.ht_pair.specs.HeldBases.{IsPlaceAbove}
use Rattle.ht_pair.proofs.BasisLaws.{basis_single, some_at}
use Rattle.ht_quasi.proofs.StepLaws.{listed_at}
use Rattle.ht_types.specs.Links.{IsLink, AreConnected, ConnectEnds}
use Rattle.ht_types.specs.TypedElements.{TypedValue, IsTyped}
use Rattle.ht_types.specs.declared.link.Link.{Link}
use Rattle.ht_types.proofs.CourseLaws.{same_place}
use Rattle.ht_types.proofs.PlacedWords.{at_places, placed_word}
use Rattle.ht_types.proofs.TurnLaws.{HasSemiNormal}
use Rattle.ht_pieces.proofs.KeptAtoms.{atom_words}
use Rattle.ht_counterparts.proofs.AtomCounterparts.{atom_at}
use Rattle.ht_atoms.specs.AtomLists.{AreAtoms}
use Rattle.ht_conj.specs.LinkedAtoms.{AreDealt, AreLinkedAtoms, AreOwners, ArePrepared, HaveOwners, IsLinkAdded, IsLinkedAtom, IsLinkOf, IsOwned, IsPreparedAtom, places_of}
use Rattle.ht_conj.specs.OrderedEnds.{AreEndsAt}
use Rattle.ht_conj.specs.declared.linked.LinkedAtom.{LinkedAtom}
use Rattle.ht_conj.proofs.PartsDone.{atoms_common, atoms_different}

-- a typed element has a semi-normal basis
pub typed_basis : (t : TypedValue) → IsTyped t.element t.quasi t.kinds → HasSemiNormal t.element.shape t.element.rows t.quasi.basis.words
typed_basis t typed = record { pair = typed.canonical.canonical.pair; semi = typed.quasinormal.least.semi_normal }

-- what stands in a list that f makes, f makes of something there
made_at : {X Y : Type 0} (f : X → Y) (xs : List X) (i : ℕ) (y : Y) → slice_get (map f xs) i ≡ Some y → (x : X) × (slice_get xs i ≡ Some x) × (f x ≡ y)
made_at {X} {Y} f xs i y is = of (slice_get xs i) refl (sym (slice_get-map f xs i) ∙ is)
  where
    of : (o : Option X) → slice_get xs i ≡ o → option_map f o ≡ Some y → (x : X) × (slice_get xs i ≡ Some x) × (f x ≡ y)
    of None here e = absurd (let h : None ≡ Some y = e in cc)
    of (Some x) here e = (x, here, same_Some (f x) y e)

-- ---- the owner of a link

-- where the atom stands that the link's cone is under
pub record HasOwner (t : TypedValue) (link : Link) (atoms : List LinkedAtom) (owners : List ℕ) (place : ℕ) : Type 0 where
  pub within : place < length owners
  pub inside : get_or owners place 0 < length atoms
  pub atom : LinkedAtom
  pub here : slice_get atoms (get_or owners place 0) ≡ Some atom
  pub under : IsUnderSome link.cone (words_at t.quasi.basis.words atom.places)

-- a link's cone is under a word of the basis
pub cone_under : (t : TypedValue) (link : Link) → IsLink t link → IsUnderSome link.cone t.quasi.basis.words
cone_under t link is = some_at t.quasi.basis.words is.infinite.above link.cone is.infinite.infinite.0 is.infinite.under

pub owner_of : (t : TypedValue) (link : Link) (atoms : List LinkedAtom) (owners : List ℕ) (place : ℕ) → IsTyped t.element t.quasi t.kinds → IsLink t link
    → HaveOwners t (map places_of atoms) owners
    → IsPlaceAbove t.quasi.basis.words link.cone place → HasOwner t link atoms owners place
owner_of t link atoms owners place typed is have above =
    let shape = t.element.shape in
    let p = t.element.rows in
    let X = t.quasi.basis.words in
    let x = is.infinite.above in
    let one : x ≡ above.word = basis_single shape X typed.quasinormal.least.semi_normal.basis link.cone x above.word is.infinite.infinite.0 (listed_at X place above.word above.here) is.infinite.under above.above in
    let here : slice_get X place ≡ Some x = above.here ∙ ap (λ w. Some w) (sym one) in
    let o = have place x here is.infinite.infinite in
    let a = made_at places_of atoms (get_or owners place 0) o.places o.here in
    record {
      within = o.within;
      inside = slice_get_within atoms (get_or owners place 0) a.0 a.1;
      atom = a.0;
      here = a.1;
      under = some_at (words_at X a.0.places) x link.cone (at_places X a.0.places place x (subst (λ l. Contains l place) (sym a.2) o.listed) here) is.infinite.under;
    }

-- the link is added there
pub link_added : (t : TypedValue) (link : Link) (atoms : List LinkedAtom) (owners : List ℕ) (place : ℕ) (given : LinkedAtom) (links : List Link)
    → HasOwner t link atoms owners place
    → links ≡ (get_or atoms (get_or owners place 0) given).links ++ link ∷ [] → IsLinkAdded t link atoms (set atoms (get_or owners place 0) (record (get_or atoms (get_or owners place 0) given) { links = links }))
link_added t link atoms owners place given links o more =
    let i = get_or owners place 0 in
    let same : get_or atoms i given ≡ o.atom = get_or_from_slice_get atoms i o.atom given o.here in
    record {
      index = i;
      atom = o.atom;
      here = o.here;
      under = o.under;
      added = ap (λ (a : LinkedAtom). set atoms i (record a { links = links })) same
          ∙ ap (λ (l : List Link). set atoms i (record o.atom { links = l })) (more ∙ ap (λ (a : LinkedAtom). a.links ++ link ∷ []) same);
    }

-- ---- atoms without links

pub prepared_none : (t : TypedValue) → ArePrepared t [] []
prepared_none t = record { same = refl; each = All-nil (IsPreparedAtom t) }

pub prepared_more : {t : TypedValue} {places : List (List ℕ)} {atoms : List LinkedAtom} (atom : LinkedAtom) → AreEndsAt t atom.places atom.ends → atom.links ≡ []
    → ArePrepared t places atoms → ArePrepared t (places ++ atom.places ∷ []) (atoms ++ atom ∷ [])
prepared_more {t} {places} {atoms} atom ends none a = record {
  same = map-append places_of atoms (atom ∷ []) ∙ ap (λ l. l ++ atom.places ∷ []) a.same;
  each = All-append (IsPreparedAtom t) atoms (atom ∷ []) a.each
      (All-cons (IsPreparedAtom t) atom [] (record { ends = ends; links = subst (All (IsLink t)) (sym none) (All-nil (IsLink t)) }) (All-nil (IsPreparedAtom t)));
}

-- ---- dealing out

pub dealt_none : (t : TypedValue) (atoms : List LinkedAtom) → All (IsPreparedAtom t) atoms → AreDealt t [] atoms atoms
dealt_none t atoms each = record { same = refl; each = each; all = All-nil (λ link. (atom : LinkedAtom) × Contains atoms atom × IsLinkOf t atom link) }

-- what is listed stays so, or stood at the written place
written_kept : {X : Type 0} (xs : List X) (i : ℕ) (x y : X) → slice_get xs i ≡ Some x → (z : X) → Contains xs z → (z ≡ x) ⊎ Contains (set xs i y) z
written_kept xs i x y here z c = elim (cases_eq c.0 i) [
  | inl e ↦ inl (sym c.2 ∙ ap (λ k. get_or xs k z) e ∙ get_or_from_slice_get xs i x z here)
  | inr n ↦ inr (c.0, (let l = c.1 in omega (arith, length-set xs i y)), get_or-set_other xs i c.0 y z n ∙ c.2)
]

-- the atom with one link more
abbrev with_link : LinkedAtom → Link → LinkedAtom
with_link atom link = record atom { links = atom.links ++ link ∷ [] }

-- some atom has the link, and the cone is under it
abbrev IsDealt : TypedValue → List LinkedAtom → Link → Type 0
IsDealt t atoms link = (atom : LinkedAtom) × Contains atoms atom × IsLinkOf t atom link

more_listed : (before : List LinkedAtom) (i : ℕ) (atom : LinkedAtom) (link : Link) → slice_get before i ≡ Some atom
    → Contains (set before i (with_link atom link)) (with_link atom link)
more_listed before i atom link here = let l = slice_get_within before i atom here in (i, omega (arith, length-set before i (with_link atom link), l), get_or-set_same before i (with_link atom link) (with_link atom link) l)

-- a link that some atom has some atom has when one link more is added
dealt_stays : (t : TypedValue) (before : List LinkedAtom) (i : ℕ) (atom : LinkedAtom) (link : Link) → slice_get before i ≡ Some atom → (l : Link)
    → IsDealt t before l → IsDealt t (set before i (with_link atom link)) l
dealt_stays t before i atom link here l h = elim (written_kept before i atom (with_link atom link) here h.0 h.1) [
  | inl e ↦ (let o : IsLinkOf t atom l = subst (λ k. IsLinkOf t k l) e h.2 in (with_link atom link, more_listed before i atom link here, record { listed = Contains-append_left atom.links (link ∷ []) l o.listed; under = o.under }))
  | inr c ↦ (h.0, c, h.2)
]

pub dealt_more : {t : TypedValue} {link : Link} {links : List Link} {old before new : List LinkedAtom} → IsLink t link → AreDealt t links old before
    → IsLinkAdded t link before new → AreDealt t (links ++ link ∷ []) old new
dealt_more {t} {link} {links} {old} {before} {new} is d a =
    let more = with_link a.atom link in
    let after = set before a.index more in
    let at : Contains before a.atom = (a.index, slice_get_within before a.index a.atom a.here, get_or_from_slice_get before a.index a.atom a.atom a.here) in
    let prepared = All-contains (IsPreparedAtom t) before a.atom d.each at in
    subst (AreDealt t (links ++ link ∷ []) old) (sym a.added) (record {
      same = map-set_same places_of before a.index more a.atom (ap places_of (sym (get_or_from_slice_get before a.index a.atom a.atom a.here))) ∙ d.same;
      each = All-set (IsPreparedAtom t) before a.index more
          (record { ends = prepared.ends; links = All-append (IsLink t) a.atom.links (link ∷ []) prepared.links (All-cons (IsLink t) link [] is (All-nil (IsLink t))) }) d.each;
      all = All-append (IsDealt t after) links (link ∷ []) (All-from_contains (IsDealt t after) links (λ l c. dealt_stays t before a.index a.atom link a.here l (All-contains (IsDealt t before) links l d.all c)))
          (All-cons (IsDealt t after) link [] (more, more_listed before a.index a.atom link a.here, record { listed = Contains-append_right a.atom.links (link ∷ []) link (Contains-here link []); under = a.under }) (All-nil (IsDealt t after)));
    })

-- ---- connections

-- chains of links whose cones are under the places are chains of those among others
connected_among : (t : TypedValue) (places : List ℕ) (links others : List Link)
    → ((link : Link) → Contains links link → IsUnderSome link.cone (words_at t.quasi.basis.words places) → Contains others link)
    → (k i j : ℕ) → AreConnected t places links k i j → AreConnected t places others k i j
connected_among t places links others among zero i j c = c
connected_among t places links others among (suc k) i j c = (c.0, connected_among t places links others among k i c.0 c.1, record { link = c.2.link; listed = among c.2.link c.2.listed c.2.under; under = c.2.under; ends = c.2.ends })

module _ (t : TypedValue) (typed : IsTyped t.element t.quasi t.kinds) (links : List Link) (atoms : List LinkedAtom) (are : AreAtoms t.element.shape t.element.rows t.quasi.basis.words (map places_of atoms)) where
  -- an atom has the links whose cones are under it
  own_link : All (IsDealt t atoms) links → (atom : LinkedAtom) → Contains atoms atom → (link : Link) → Contains links link
      → IsUnderSome link.cone (words_at t.quasi.basis.words atom.places) → Contains atom.links link
  own_link all atom c link e under =
      let shape = t.element.shape in
      let p = t.element.rows in
      let X = t.quasi.basis.words in
      let h = typed_basis t typed in
      let d = All-contains (IsDealt t atoms) links link all e in
      let first = All-contains (IsAtom shape p X) (map places_of atoms) atom.places are.each (Contains-map places_of atoms atom c) in
      let other = All-contains (IsAtom shape p X) (map places_of atoms) d.0.places are.each (Contains-map places_of atoms d.0 d.1) in
      let s = d.2.under in
      let one = basis_single shape X h.semi.basis link.cone s.above under.above (atom_words other s.above s.listed).0 (atom_words first under.above under.listed).0 s.under under.under in
      let same = atoms_common h d.0.places atom.places under.above other first (subst (Contains (words_at X d.0.places)) one s.listed) under.listed in
      let mine : d.0 ≡ atom = same_by_map places_of (λ k l. k ≢ l) atoms (atoms_different are) d.0 atom d.1 c (λ n. n same) (λ n. n (sym same)) in
      subst (λ (k : LinkedAtom). Contains k.links link) mine d.2.listed

  -- so the links connect its ends
  all_linked : ((places : List ℕ) → IsAtom t.element.shape t.element.rows t.quasi.basis.words places → ConnectEnds t places links)
      → All (IsPreparedAtom t) atoms → All (IsDealt t atoms) links → AreLinkedAtoms t atoms
  all_linked connected each all = record {
    atoms_are = are;
    each = All-from_contains (IsLinkedAtom t) atoms (λ atom c.
        let is = All-contains (IsAtom t.element.shape t.element.rows t.quasi.basis.words) (map places_of atoms) atom.places are.each (Contains-map places_of atoms atom c) in
        record {
          is_atom = is;
          prepared = All-contains (IsPreparedAtom t) atoms atom each c;
          connected = λ i j first second. let chain = connected atom.places is i j first second in (chain.0, connected_among t atom.places links atom.links (own_link all atom c) chain.0 i j chain.1);
        });
  }

-- the atoms, when all links are dealt out
pub linked_are : (t : TypedValue) (links : List Link) (old new : List LinkedAtom) → IsTyped t.element t.quasi t.kinds
    → AreAtoms t.element.shape t.element.rows t.quasi.basis.words (map places_of old)
    → ((places : List ℕ) → IsAtom t.element.shape t.element.rows t.quasi.basis.words places → ConnectEnds t places links) → AreDealt t links old new → AreLinkedAtoms t new
linked_are t links old new typed are connected d = all_linked t typed links new (subst (AreAtoms t.element.shape t.element.rows t.quasi.basis.words) (sym d.same) are) connected d.each d.all

-- ---- owners

-- the places of all infinite words are owned where those of all atoms are
pub owners_have : (t : TypedValue) (atoms : List (List ℕ)) (owners : List ℕ) → IsTyped t.element t.quasi t.kinds
    → AreAtoms t.element.shape t.element.rows t.quasi.basis.words atoms → AreOwners atoms owners → HaveOwners t atoms owners
owners_have t atoms owners typed are have place x here infinite =
    let a = atom_at (typed_basis t typed) x infinite in
    let i = placed_word t.quasi.basis.words a.0 x a.2 in
    subst (IsOwned atoms owners) (same_place t.quasi.basis.words typed.quasinormal.least.semi_normal.basis.prefix_free i.0 place x x i.2 here refl) (have a.0 i.0 (are.all a.0 a.1) i.1)
