-- Conjugate atoms have equal ends: a conjugator matches their attractors, and their repellers, one to one, with equal periods and as many letters.
use Rattle.std.proofs.Common.{◌≡◌, ◌≢◌, ◌<◌, ◌⊎◌, ℕ, inl, inr, List, [], Some, slice_get, sym, ap, ◌∙◌, subst, arith, AllPairs, Contains, IsPermutation}
use Rattle.std.proofs.lemmas.Option.{same_Some}
use Rattle.ht_word.specs.declared.shape.Shape.{Shape}
use Rattle.ht_word.specs.declared.word.Word.{Word}
use Rattle.ht_word.proofs.ListLaws.{AllPairs-weaker}
use Rattle.ht_pair.specs.Atoms.{IsAtom, words_at}
use Rattle.ht_pair.specs.LocalConjugacy.{ConjugatesOn}
use Rattle.ht_pair.specs.Pairs.{IsPair}
use Rattle.ht_pair.specs.declared.row.Row.{Row}
use Rattle.ht_pair.proofs.PrefixMapLaws.{back}
use Rattle.ht_quasi.proofs.StepLaws.{listed_at}
use Rattle.ht_types.specs.TypedElements.{IsTyped, TypedValue}
use Rattle.ht_types.specs.WordKinds.{AreKinds}
use Rattle.ht_types.specs.declared.direction.Direction.{Direction}
use Rattle.ht_types.specs.declared.direction.Direction.TheVariants.{Ahead, Behind}
use Rattle.ht_types.specs.declared.kind.Kind.{Kind}
use Rattle.ht_types.proofs.AtomLaws.{atom_infinite}
use Rattle.ht_types.proofs.CourseLaws.{same_place}
use Rattle.ht_types.proofs.FlowLaws.{turned_base}
use Rattle.ht_types.proofs.PlacedWords.{at_places, placed_word}
use Rattle.ht_types.proofs.SeenLaws.{rows_in}
use Rattle.ht_types.proofs.TurnLaws.{HasSemiNormal}
use Rattle.ht_types.proofs.TypedLaws.{typed_base}
use Rattle.ht_pieces.specs.Pieces.{IsInside, IsKept}
use Rattle.ht_pieces.proofs.Conjugating.{IsConjugator, back_conjugate, rows_conjugate, turned_conjugate}
use Rattle.ht_pieces.proofs.KeptAtoms.{atom_inside, atom_is_kept, atom_words}
use Rattle.ht_pieces.proofs.KeptLaws.{kept_turned}
use Rattle.ht_counterparts.specs.Ends.{end_in, ends_at}
use Rattle.ht_counterparts.proofs.MatchedKeys.{matched_keys}
use Rattle.ht_counterparts.proofs.MetEnds.{MeetsEnd, comes_back, meets, same_end}
use Rattle.ht_counterparts.proofs.ToldEnds.{IsWalkEnd, end_found, end_here, kind_at, one_way}

-- ---- in a direction

base_in : {shape : Shape} {f : List Row} {X : List Word} → (way : Direction) → HasSemiNormal shape f X → HasSemiNormal shape (rows_in way f) X
base_in Ahead h = h
base_in Behind h = turned_base h

kept_in : {shape : Shape} {f : List Row} {D : Word → Type 0} → (way : Direction) → IsPair shape f → IsKept shape f D → IsKept shape (rows_in way f) D
kept_in Ahead pair kept = kept
kept_in Behind pair kept = kept_turned pair kept

conjugator_in : {shape : Shape} {f g : List Row} {V W : List Word} {F : Word → Word → Type 0} → (way : Direction) → IsConjugator shape f g V W F
    → IsConjugator shape (rows_in way f) (rows_in way g) V W F
conjugator_in Ahead c = c
conjugator_in Behind c = turned_conjugate c

-- ---- the ends at two places

-- an atom, and the kinds of the words of its basis
pub record IsKindedAtom (shape : Shape) (f : List Row) (X : List Word) (kinds : List Kind) (k : List ℕ) : Type 0 where
  pub base : HasSemiNormal shape f X
  pub are : AreKinds shape f X kinds
  pub atom : IsAtom shape f X k

-- the ends at the places i and j meet, in one direction, there and back
record AreMet (shape : Shape) (f g : List Row) (X Y : List Word) (F : Word → Word → Type 0) (i j : ℕ) : Type 0 where
  direction : Direction
  word : Word
  here : slice_get X i ≡ Some word
  other : Word
  there : slice_get Y j ≡ Some other
  ahead : MeetsEnd shape (rows_in direction f) (rows_in direction g) X Y F word other
  behind : MeetsEnd shape (rows_in direction g) (rows_in direction f) Y X (back F) other word

met_back : {shape : Shape} {f g : List Row} {X Y : List Word} {F : Word → Word → Type 0} {i j : ℕ} → AreMet shape f g X Y F i j
    → AreMet shape g f Y X (back F) j i
met_back a = record { direction = a.direction; word = a.other; here = a.there; other = a.word; there = a.here; ahead = a.behind; behind = a.ahead }

-- each place of the one atom has no end, or one that meets one of the other atom
met_from : {shape : Shape} {f g : List Row} {X Y : List Word} {kinds others : List Kind} {k l : List ℕ} {F : Word → Word → Type 0}
    → IsKindedAtom shape f X kinds k → IsKindedAtom shape g Y others l → IsConjugator shape f g (words_at X k) (words_at Y l) F
    → (i : ℕ) → Contains k i → (end_in (slice_get kinds i) ≡ []) ⊎ ((j : ℕ) × Contains l j × AreMet shape f g X Y F i j)
met_from {shape} {f} {g} {X} {Y} {k = k} {l = l} {F = F} first second c i listed =
    let x = atom_infinite shape f X k i first.atom listed in
    let kind = kind_at first.are i x.0 x.1 in
    elim (end_found shape f first.base.pair X x.0 kind.0 kind.2) [
      | inl none ↦ inl (ap end_in kind.1 ∙ none)
      | inr t ↦ inr (meeting x.0 x.1 t)
    ]
  where
    meeting : (x : Word) → slice_get X i ≡ Some x → IsWalkEnd shape f x → (j : ℕ) × Contains l j × AreMet shape f g X Y F i j
    meeting x here t =
        let way = t.direction in
        let c_in = conjugator_in way c in
        let kept = kept_in way second.base.pair (atom_is_kept second.base second.atom) in
        let from = base_in way first.base in
        let to = base_in way second.base in
        let d = atom_inside first.base first.atom x (at_places X k i x listed here) in
        let y = meets c_in from to kept (λ w n. (atom_words second.atom w n).0) x t.period t.letters
        (record { listed = listed_at X i x here; attractor = t.attractor }) d in
        let e = atom_inside second.base second.atom y.0 y.1 in
        let z = meets (back_conjugate c_in kept) to from (kept_in way first.base.pair c.kept) (λ w n. (atom_words first.atom w n).0) y.0 y.2.steps y.2.by
        y.2.to e in
        let same : z.0 ≡ x = comes_back c_in from to x y.0 z.0 y.2 z.2 in
        let j = placed_word Y l y.0 y.1 in (
          j.0,
          j.1,
          record {
            direction = way;
            word = x;
            here = here;
            other = y.0;
            there = j.2;
            ahead = y.2;
            behind = subst (MeetsEnd shape (rows_in way g) (rows_in way f) Y X (back F) y.0) {x = z.0} {y = x} same z.2;
          },
        )

-- and one alone
met_once : {shape : Shape} {f g : List Row} {X Y V W : List Word} {F : Word → Word → Type 0} → HasSemiNormal shape f X → HasSemiNormal shape g Y
    → IsConjugator shape f g V W F → IsKept shape g (IsInside shape W)
    → (i j j' : ℕ) → AreMet shape f g X Y F i j → AreMet shape f g X Y F i j' → j ≡ j'
met_once {shape} {f} {g} {X} {Y} {F = F} first second c kept i j j' a b =
    let same : b.word ≡ a.word = same_Some b.word a.word (sym b.here ∙ a.here) in
    let there = subst (λ x. MeetsEnd shape (rows_in b.direction f) (rows_in b.direction g) X Y F x b.other) same b.ahead in
    let way = one_way shape f first.pair a.word b.direction a.direction there.from.attractor a.ahead.from.attractor in
    let met = subst (λ d. MeetsEnd shape (rows_in d f) (rows_in d g) X Y F a.word b.other) way there in
    let c_back = back_conjugate (conjugator_in a.direction c) (kept_in a.direction second.pair kept) in
    let one = comes_back c_back (base_in a.direction second) (base_in a.direction first) a.other a.word b.other a.behind met in
    same_place Y second.semi.basis.prefix_free j j' a.other b.other a.there b.there (sym one)

-- ---- the ends of two atoms

distinct_places : {shape : Shape} {f : List Row} {X : List Word} {k : List ℕ} → IsAtom shape f X k → AllPairs (λ (i : ℕ) (j : ℕ). i ≢ j) k
distinct_places {k = k} atom = AllPairs-weaker (λ (i : ℕ) (j : ℕ). i < j) (λ (i : ℕ) (j : ℕ). i ≢ j) k atom.ascending (λ i j c e l. apart i j l)
  where
    apart : (i j : ℕ) → i < j → i ≢ j
    apart i j l e = omega arith

pub equal_ends : {shape : Shape} {f g : List Row} {X Y : List Word} {kinds others : List Kind} {k l : List ℕ} {F : Word → Word → Type 0}
    → IsKindedAtom shape f X kinds k → IsKindedAtom shape g Y others l → IsConjugator shape f g (words_at X k) (words_at Y l) F
    → IsPermutation (ends_at kinds k) (ends_at others l)
equal_ends {shape} {f} {g} {X} {Y} {kinds} {others} {k} {l} {F} first second c =
    let kept = atom_is_kept second.base second.atom in
    let c_back = back_conjugate c kept in
    matched_keys (λ i. end_in (slice_get kinds i)) (λ j. end_in (slice_get others j)) (AreMet shape f g X Y F) same
    (met_once first.base second.base c kept) (λ i i' j a b. met_once second.base first.base c_back c.kept j i i' (met_back a) (met_back b))
    k l (distinct_places first.atom) (distinct_places second.atom) (met_from first second c) (came c_back)
  where
    same : (i j : ℕ) → AreMet shape f g X Y F i j → end_in (slice_get kinds i) ≡ end_in (slice_get others j)
    same i j a =
        let way = a.direction in
        let e = same_end (base_in way first.base) (base_in way second.base) a.ahead a.behind in
        let there = end_here second.base.pair second.are j a.other a.there way a.ahead.steps a.ahead.by a.ahead.to.attractor in
        end_here first.base.pair first.are i a.word a.here way a.ahead.period a.ahead.letters a.ahead.from.attractor ∙ cc (e.0, e.1) ∙ sym there

    came : IsConjugator shape g f (words_at Y l) (words_at X k) (back F) → (j : ℕ) → Contains l j
        → (end_in (slice_get others j) ≡ []) ⊎ ((i : ℕ) × Contains k i × AreMet shape f g X Y F i j)
    came c_back j listed = elim (met_from second first c_back j listed) [
      | inl none ↦ inl none
      | inr m ↦ inr (m.0, m.1, met_back m.2)
    ]

-- ---- rows that conjugate

pub conjugate_ends_of : {shape : Shape} {f g : List Row} {X Y : List Word} {kinds others : List Kind} {k l : List ℕ}
    → IsKindedAtom shape f X kinds k → IsKindedAtom shape g Y others l → (h : List Row) → ConjugatesOn shape h f (words_at X k) g (words_at Y l)
    → IsPermutation (ends_at kinds k) (ends_at others l)
conjugate_ends_of first second h c = equal_ends first second (rows_conjugate first.base.pair second.base.pair (atom_is_kept first.base first.atom) c)

pub conjugate_ends : (f g : TypedValue) → IsTyped f.element f.quasi f.kinds → IsTyped g.element g.quasi g.kinds → g.element.shape ≡ f.element.shape
    → (k l : List ℕ) → IsAtom f.element.shape f.element.rows f.quasi.basis.words k → IsAtom g.element.shape g.element.rows g.quasi.basis.words l
    → (h : List Row) → ConjugatesOn f.element.shape h f.element.rows (words_at f.quasi.basis.words k) g.element.rows (words_at g.quasi.basis.words l)
    → IsPermutation (ends_at f.kinds k) (ends_at g.kinds l)
conjugate_ends f g typed_f typed_g same k l first second h c =
    let other : IsKindedAtom g.element.shape g.element.rows g.quasi.basis.words g.kinds l =
    record { base = typed_base g typed_g; are = typed_g.kinds_are; atom = second } in
    conjugate_ends_of (record { base = typed_base f typed_f; are = typed_f.kinds_are; atom = first })
    (subst (λ s. IsKindedAtom s g.element.rows g.quasi.basis.words g.kinds l) same other) h c
