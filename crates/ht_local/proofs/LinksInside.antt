-- Links inside an atom: t is an element with its quasinormal basis, k are the places of an atom of it.
use Rattle.std.proofs.Common.{◌≡◌, ℕ, ◌+◌, ◌≤◌, ◌<◌, ◌↔◌, inl, inr, List, [], ◌∷◌, ◌++◌, length, Option, None, Some, slice_get, MatchOption, IsTrue, refl, sym, ap, ◌∙◌, subst, arith, All, Contains}
use Rattle.std.specs.Option.{is_some}
use Rattle.std.proofs.lemmas.Bool.{false≢true}
use Rattle.std.proofs.lemmas.List.Elements.{All-nil, All-push, Contains-append_left, Contains-append_right}
use Rattle.std.proofs.lemmas.Option.{same_Some, slice_get_within}
use Rattle.ht_word.specs.Words.{IsUnderSome}
use Rattle.ht_word.specs.declared.word.Word.{Word}
use Rattle.ht_word.proofs.ListLaws.{Contains-here}
use Rattle.ht_word.proofs.WordLaws.{under_after}
use Rattle.ht_pair.specs.Atoms.{IsAtom, words_at}
use Rattle.ht_pair.specs.HeldBases.{IsPlaceAbove}
use Rattle.ht_pair.proofs.BasisLaws.{basis_single, some_at}
use Rattle.ht_quasi.proofs.StepLaws.{listed_at}
use Rattle.ht_types.specs.Flows.{power_in}
use Rattle.ht_types.specs.Links.{IsLink, reach_in}
use Rattle.ht_types.specs.TypedElements.{TypedValue, IsTyped}
use Rattle.ht_types.specs.declared.direction.Direction.{Direction}
use Rattle.ht_types.specs.declared.link.Link.{Link}
use Rattle.ht_types.proofs.CourseLaws.{same_place}
use Rattle.ht_types.proofs.PlacedWords.{at_places, placed_word}
use Rattle.ht_pieces.proofs.InsideLaws.{inside_from_under}
use Rattle.ht_pieces.proofs.KeptAtoms.{carried_into_atom}
use Rattle.ht_local.specs.Propagations.{AreCrossings, IsCrossing}
use Rattle.ht_local.specs.declared.crossing.Crossing.{Crossing}
use Rattle.ht_local.proofs.AcrossLaws.{reach_of}
use Rattle.ht_local.proofs.CandidateLaws.{before_or}
use Rattle.ht_local.proofs.PlaceLaws.{entry_listed}
use Rattle.ht_types.proofs.TypedLaws.{typed_base}

-- ---- words under those of an atom

-- what is under no word of the basis is under none of them
pub under_none : (X : List Word) (k : List ℕ) (u : Word) → ¬ IsUnderSome u X → ¬ IsUnderSome u (words_at X k)
under_none X k u none s = let g = placed_word X k s.above s.listed in none (some_at X s.above u (listed_at X g.0 s.above g.2) s.under)

abbrev IsUnderAtom : TypedValue → List ℕ → Word → Type 0
IsUnderAtom t k u = IsUnderSome u (words_at t.quasi.basis.words k)

module _ {t : TypedValue} (typed : IsTyped t.element t.quasi t.kinds) (k : List ℕ) where
  -- a word is under one of them exactly where the place of the word above it is one of theirs
  place_inside : (u : Word) (place : ℕ) → IsPlaceAbove t.quasi.basis.words u place → Contains k place ↔ IsUnderAtom t k u
  place_inside u place p = (
    (λ c. some_at (words_at t.quasi.basis.words k) p.word u (at_places t.quasi.basis.words k place p.word c p.here) p.above),
    (λ s.
        let X = t.quasi.basis.words in
        let basis = (typed_base t typed).semi.basis in
        let g = placed_word X k s.above s.listed in
        let one = basis_single t.element.shape X basis u s.above p.word (listed_at X g.0 s.above g.2) (listed_at X place p.word p.here) s.under p.above in
        subst (Contains k) (same_place X basis.prefix_free g.0 place s.above p.word g.2 p.here one) g.1),
  )

  -- so it is told by a search for that place
  pub inside_told : (u : Word) (place : ℕ) → IsPlaceAbove t.quasi.basis.words u place → (found : Option ℕ)
      → MatchOption found (¬ Contains k place) (λ i. slice_get k i ≡ Some place) → IsTrue (is_some found) ↔ IsUnderAtom t k u
  inside_told u place p None none = ((λ e. absurd (false≢true e)), (λ s. absurd (none ((place_inside u place p).1 s))))
  inside_told u place p (Some i) here = ((λ e. (place_inside u place p).0 (entry_listed k i place here)), (λ s. refl))

  -- the ends of a link inside an atom are in the atom
  pub end_inside : IsAtom t.element.shape t.element.rows t.quasi.basis.words k → (direction : Direction) (link : Link) → IsLink t link → IsUnderAtom t k link.cone
      → Contains k (reach_in direction link).to
  end_inside atom direction link l under =
      let X = t.quasi.basis.words in
      let base = typed_base t typed in
      let reach = reach_in direction link in
      let r = reach_of t link direction l in
      let inside = inside_from_under t.element.shape (words_at X k) link.cone l.word under in
      let c = carried_into_atom base atom (power_in direction reach.steps) link.cone _ r.above inside r.carries (listed_at X reach.to r.above r.here) (under_after r.above reach.rest) in
      let g = placed_word X k r.above c in
      subst (Contains k) (same_place X base.semi.basis.prefix_free g.0 reach.to r.above r.above g.2 r.here refl) g.1

-- ---- crossings, one link after another

-- such crossings, one for each of the first so many links that is inside the atom
pub record AreCrossingsTo (t : TypedValue) (k : List ℕ) (links : List Link) (count : ℕ) (crossings : List Crossing) : Type 0 where
  pub each : All (IsCrossing t k links) crossings
  pub all : (place : ℕ) (link : Link) → place < count → slice_get links place ≡ Some link → IsUnderAtom t k link.cone
      → (crossing : Crossing) × Contains crossings crossing × (crossing.link ≡ place)

module _ {t : TypedValue} {k : List ℕ} {links : List Link} where
  pub no_crossings : AreCrossingsTo t k links 0 []
  no_crossings = record { each = All-nil (IsCrossing t k links); all = λ place link before here under. absurd (omega arith) }

  -- a link that isn't inside the atom
  pub no_crossing : {count : ℕ} {crossings : List Crossing} → AreCrossingsTo t k links count crossings → (link : Link) → slice_get links count ≡ Some link
      → ¬ IsUnderAtom t k link.cone → AreCrossingsTo t k links (count + 1) crossings
  no_crossing {count} {crossings} h link at outside = record {
    each = h.each;
    all = λ place other before here under. elim (before_or place count before) [
      | inl early ↦ h.all place other early here under
      | inr e ↦ absurd (outside (subst (λ (l : Link). IsUnderAtom t k l.cone) (same_Some other link (sym here ∙ ap (slice_get links) e ∙ at)) under))
    ];
  }

  -- the crossing of the next link
  pub one_crossing : {count : ℕ} {crossings : List Crossing} → AreCrossingsTo t k links count crossings → (crossing : Crossing) → crossing.link ≡ count → IsCrossing t k links crossing
      → AreCrossingsTo t k links (count + 1) (crossings ++ crossing ∷ [])
  one_crossing {count} {crossings} h crossing is c = record {
    each = All-push (IsCrossing t k links) crossings crossing h.each c;
    all = λ place link before here under. elim (before_or place count before) [
      | inl early ↦ (let f = h.all place link early here under in (f.0, Contains-append_left crossings (crossing ∷ []) f.0 f.1, f.2))
      | inr e ↦ (crossing, Contains-append_right crossings (crossing ∷ []) crossing (Contains-here crossing []), is ∙ sym e)
    ];
  }

  pub all_crossings : {count : ℕ} {crossings : List Crossing} → AreCrossingsTo t k links count crossings → length links ≤ count → AreCrossings t k links crossings
  all_crossings {count} {crossings} h past = record {
    each = h.each;
    all = λ place link here under. h.all place link (let within = slice_get_within links place link here in omega arith) here under;
  }
