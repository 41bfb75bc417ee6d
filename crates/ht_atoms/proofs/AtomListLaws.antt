-- The pieces that the joins tie are the atoms.
use Rattle.std.proofs.Common.{◌≡◌, ℕ, zero, suc, ◌+◌, ◌<◌, inl, inr, Bool, List, length, get_or, false, refl, sym, ap, ◌∙◌, subst, arith, All, Contains, ◌↔◌, Some, slice_get, true≢false}
use Rattle.std.proofs.lemmas.Bool.{cases_lt}
use Rattle.std.proofs.lemmas.List.{get_or_past}
use Rattle.std.proofs.lemmas.List.Elements.{All-contains}
use Rattle.std.proofs.lemmas.Option.{same_Some, slice_get_within, slice_get-get_or, get_or_from_slice_get}
use Rattle.ht_word.specs.Words.{IsUnder}
use Rattle.ht_word.specs.declared.shape.Shape.{Shape}
use Rattle.ht_word.specs.declared.word.Word.{Word}
use Rattle.ht_word.proofs.WordLaws.{under_refl, All-from_contains}
use Rattle.ht_pair.specs.Atoms.{IsInfiniteWord, AreJoined, AreLinked, IsAtom}
use Rattle.ht_pair.specs.Bases.{IsPrefixFree}
use Rattle.ht_pair.specs.Kinds.{IsCycleWord}
use Rattle.ht_pair.specs.declared.row.Row.{Row}
use Rattle.ht_pair.proofs.BasisLaws.{prefix_free_place}
use Rattle.ht_quasi.specs.Rounds.{IsMarked}
use Rattle.ht_quasi.proofs.RoundLaws.{something_at}
use Rattle.ht_quasi.proofs.StepLaws.{listed_at}
use Rattle.ht_types.proofs.AtomLaws.{last_infinite, linked_back, linked_then, atoms_apart}
use Rattle.ht_atoms.specs.declared.join.Join.{Join}
use Rattle.ht_atoms.specs.AtomLists.{AreAtoms}
use Rattle.ht_atoms.specs.Joins.{IsMarkedInfinite, AreJoins}
use Rattle.ht_atoms.specs.Pieces.{IsPiece, ArePieces, HaveFirsts}
use Rattle.ht_atoms.specs.Trees.{AreTied, itself, joined, back, on, AreLabels}
use Rattle.ht_atoms.proofs.PieceLaws.{first_root}

-- at the place stands a word of the infinite part
IsInfinitePlace : Shape → List Row → List Word → ℕ → Type 0
IsInfinitePlace shape p X i = (x : Word) × (slice_get X i ≡ Some x) × ¬ IsCycleWord shape p x

-- ---- tied places

module _ (shape : Shape) (p : List Row) (X : List Word) (joins : List Join) (are : AreJoins shape p X joins) where
  -- of tied places both are of the infinite part, or neither is
  both_infinite : {i j : ℕ} → AreTied joins i j → IsInfinitePlace shape p X i ↔ IsInfinitePlace shape p X j
  unfolding IsInfinitePlace
  both_infinite itself = (λ h. h, λ h. h)
  both_infinite (joined join c) = let j = (are join).0 c in (λ h. (j.other, j.there, j.infinite.1), λ h. (j.one, j.here, j.infinite.0))
  both_infinite (back t) = let h = both_infinite t in (h.1, h.0)
  both_infinite (on s t) = let h = both_infinite s in let g = both_infinite t in (λ k. g.0 (h.0 k), λ k. h.1 (g.1 k))

  -- chains link tied words
  tied_linked : {i j : ℕ} → AreTied joins i j → (x y : Word) → slice_get X i ≡ Some x → slice_get X j ≡ Some y → ¬ IsCycleWord shape p x → (k : ℕ) × AreLinked shape p X k x y
  unfolding IsInfinitePlace
  tied_linked itself x y x_is y_is infinite = (0, same_Some _ _ (sym x_is ∙ y_is))
  tied_linked (joined join c) x y x_is y_is infinite =
      let j = (are join).0 c in
      let one : j.one ≡ x = same_Some _ _ (sym j.here ∙ x_is) in
      let other : j.other ≡ y = same_Some _ _ (sym j.there ∙ y_is) in
      (1, (x, refl, (listed_at X join.second y y_is, subst (λ t. ¬ IsCycleWord shape p t) other j.infinite.1), inl (subst (λ t. AreJoined shape p x t) other (subst (λ t. AreJoined shape p t j.other) one j.joined))))
  tied_linked {i} {j} (back t) x y x_is y_is infinite =
      let h = (both_infinite t).1 (x, x_is, infinite) in
      let other : ¬ IsCycleWord shape p y = subst (λ t. ¬ IsCycleWord shape p t) (same_Some _ _ (sym h.1 ∙ y_is)) h.2 in
      let k = tied_linked t y x y_is x_is other in
      (k.0, linked_back shape p X k.0 y x (listed_at X j y y_is, other) k.1)
  tied_linked (on s t) x y x_is y_is infinite =
      let h = (both_infinite s).0 (x, x_is, infinite) in
      let a = tied_linked s x h.0 x_is h.1 infinite in
      let b = tied_linked t h.0 y h.1 y_is h.2 in
      (a.0 + b.0, linked_then shape p X a.0 b.0 x h.0 y a.1 b.1)

-- ---- labels of linked words

module _ (shape : Shape) (p : List Row) (X : List Word) (free : IsPrefixFree X) (joins : List Join) (are : AreJoins shape p X joins) (labels : List ℕ) (same : All (λ (join : Join). get_or labels join.first 0 ≡ get_or labels join.second 0) joins) where
  -- the words at the places of a join have one label
  join_label : (i j : ℕ) (x y : Word) → slice_get X i ≡ Some x → slice_get X j ≡ Some y → ¬ IsCycleWord shape p x → ¬ IsCycleWord shape p y → AreJoined shape p x y → get_or labels i 0 ≡ get_or labels j 0
  join_label i j x y x_is y_is one other link =
      All-contains (λ (join : Join). get_or labels join.first 0 ≡ get_or labels join.second 0) joins (record { first = i; second = j }) same
      ((are (record { first = i; second = j })).1 (record { one = x; other = y; here = x_is; there = y_is; infinite = (one, other); joined = link }))

  -- so have linked words
  linked_label : (k i j : ℕ) (x y : Word) → IsInfiniteWord shape p X x → slice_get X i ≡ Some x → slice_get X j ≡ Some y → AreLinked shape p X k x y → get_or labels i 0 ≡ get_or labels j 0
  linked_label zero i j x y infinite x_is y_is chain =
      let at : (k : ℕ) (t : Word) → slice_get X k ≡ Some t → Contains X t = λ k t is. (k, slice_get_within X k t is, get_or_from_slice_get X k t t is) in
      ap (λ k. get_or labels k 0) (prefix_free_place X free x y (at i x x_is) (at j y y_is) (subst (λ t. IsUnder x t) chain (under_refl x)))
  linked_label (suc k) i j x y infinite x_is y_is (t, before, last, link) =
      let middle = last_infinite shape p X k x t infinite before in
      let at = middle.0.0 in
      let t_is : slice_get X at ≡ Some t = slice_get-get_or X at t middle.0.1 ∙ ap (λ w. Some w) middle.0.2 in
      linked_label k i at x t infinite x_is t_is before ∙ elim link [
        | inl h ↦ join_label at j t y t_is y_is middle.1 last.1 h
        | inr h ↦ sym (join_label j at y t y_is t_is last.1 middle.1 h)
      ]

-- ---- the atoms

module _ (shape : Shape) (p : List Row) (X : List Word) (free : IsPrefixFree X) (marks : List Bool) (marked : IsMarkedInfinite shape p X marks) (joins : List Join) (are : AreJoins shape p X joins) (labels : List ℕ) (told : AreLabels joins (length marks) labels) where
  marked_inside : (i : ℕ) → IsMarked marks i → i < length marks
  marked_inside i m = elim (cases_lt i (length marks)) [ inl l ↦ l | inr past ↦ absurd (true≢false (sym m ∙ get_or_past marks i false past)) ]

  marked_infinite : (i : ℕ) → IsMarked marks i → IsInfinitePlace shape p X i
  unfolding IsInfinitePlace
  marked_infinite i m = let x = something_at X i (omega (arith, marked_inside i m, marked.as_many)) in (x.0, x.1, (marked.each i x.0 x.1).0 m)

  infinite_marked : (i : ℕ) → IsInfinitePlace shape p X i → IsMarked marks i
  unfolding IsInfinitePlace
  infinite_marked i h = (marked.each i h.0 h.1).1 h.2

  pub labels_first : HaveFirsts marks labels
  labels_first i m =
      let inside = marked_inside i m in
      record {
        earlier = told.earlier i;
        marked = infinite_marked (get_or labels i 0) ((both_infinite shape p X joins are (told.tied i inside)).0 (marked_infinite i m));
        settled = told.settled i inside;
      }

  -- a piece is an atom
  piece_atom : (r : ℕ) (places : List ℕ) → IsPiece marks labels (length marks) r places → IsAtom shape p X places
  unfolding IsInfinitePlace
  piece_atom r places piece =
      let root = first_root piece in
      let start = marked_infinite r root.1 in
      let infinite : IsInfiniteWord shape p X start.0 = (listed_at X r start.0 start.1, start.2) in
      record {
        start = start.0;
        infinite = infinite;
        ascending = piece.ascending;
        same = λ k. (
          (λ c.
              let m = (piece.same k).0 c in
              let here = marked_infinite k m.1 in
              let tied : AreTied joins k r = subst (AreTied joins k) m.2 (told.tied k m.0) in
              let chain = tied_linked shape p X joins are (back tied) start.0 here.0 start.1 here.1 start.2 in
              (here.0, here.1, chain.0, chain.1)),
          (λ h.
              let m = infinite_marked k (h.0, h.1, (last_infinite shape p X h.2 start.0 h.0 infinite h.3).1) in
              let label = linked_label shape p X free joins are labels told.same h.2 r k start.0 h.0 infinite start.1 h.1 h.3 in
              (piece.same k).1 (marked_inside k m, m, sym label ∙ root.2)),
        );
      }

  -- and they are all atoms
  pub atoms_are : (pieces : List (List ℕ)) → ArePieces marks labels pieces → AreAtoms shape p X pieces
  unfolding IsInfinitePlace
  atoms_are pieces h = record {
    each = All-from_contains (IsAtom shape p X) pieces (λ places c. let k = All-contains (λ (places : List ℕ). (r : ℕ) × IsPiece marks labels (length marks) r places) pieces places h.each c in piece_atom k.0 places k.1);
    all = λ places atom.
        let i = atom.infinite.0.0 in
        let here : slice_get X i ≡ Some atom.start = slice_get-get_or X i atom.start atom.infinite.0.1 ∙ ap (λ w. Some w) atom.infinite.0.2 in
        let m = infinite_marked i (atom.start, here, atom.infinite.1) in
        let first = labels_first i m in
        let k = h.all (get_or labels i 0) first.marked first.settled in
        let one : k.0 ≡ places = atoms_apart shape p X k.0 places i (piece_atom (get_or labels i 0) k.0 k.2) atom ((k.2.same i).1 (marked_inside i m, m, refl)) ((atom.same i).1 (atom.start, here, 0, refl)) in
        subst (Contains pieces) one k.1;
    ordered = h.ordered;
  }
