-- First values: where some rows conjugate, some do that have a candidate's value at the least attractor.
use Rattle.std.proofs.Common.{◌≡◌, ◌≢◌, ℕ, ◌+◌, List, [], ◌++◌, max, sym, ap, ◌∙◌, subst, arith, Contains, Option, None, Some, slice_get, refl, IfOk, Result, Ok, Err, ℤ, pos, neg_ℤ, ◌+ℤ◌}
use Rattle.std.proofs.lemmas.Int.{ints}
use Rattle.ht_word.specs.Words.{◌·◌, IsWordOf}
use Rattle.ht_word.specs.declared.shape.Shape.{Shape}
use Rattle.ht_word.specs.declared.word.Word.{Word}
use Rattle.ht_word.proofs.WordLaws.{length-after, under_after, word_after}
use Rattle.ht_pair.specs.Actions.{Moves}
use Rattle.ht_pair.specs.Atoms.{IsAtom, words_at}
use Rattle.ht_pair.specs.Bases.{Covers, longest}
use Rattle.ht_pair.specs.Kinds.{IsAttractor}
use Rattle.ht_pair.specs.LocalConjugacy.{ConjugatesOn}
use Rattle.ht_pair.specs.Pairs.{from_words}
use Rattle.ht_pair.specs.Steps.{Carries, Steps}
use Rattle.ht_pair.specs.declared.row.Row.{Row}
use Rattle.ht_pair.proofs.CarriesLaws.{carries_back, carries_word}
use Rattle.ht_pair.proofs.PrefixMapLaws.{Then}
use Rattle.ht_types.specs.TypedElements.{TypedValue}
use Rattle.ht_types.proofs.TurnLaws.{HasSemiNormal}
use Rattle.ht_pieces.specs.Pieces.{IsInside, IsKept}
use Rattle.ht_pieces.specs.Values.{IsValue}
use Rattle.ht_pieces.proofs.Conjugating.{IsConjugator, rows_conjugate, then_conjugate}
use Rattle.ht_pieces.proofs.ConjugatingRows.{alike_conjugates}
use Rattle.ht_pieces.proofs.EndValues.{end_value}
use Rattle.ht_pieces.proofs.InsideLaws.{inside_extends, inside_listed}
use Rattle.ht_pieces.proofs.KeptAtoms.{atom_inside, atom_is_kept, atom_words}
use Rattle.ht_pieces.proofs.PartMaps.{IsPartMap, rows_total}
use Rattle.ht_pieces.proofs.PartRows.{part_rows}
use Rattle.ht_pieces.proofs.Values.{value_from, value_then}
use Rattle.ht_local.specs.declared.known.Known.{Known}
use Rattle.ht_local.specs.Candidates.{IsWordAt}
use Rattle.ht_local.specs.KnownValues.{AreRight}
use Rattle.ht_local.specs.Propagations.{AreAllRight}
use Rattle.ht_local.specs.LocalConjugators.{ConjugatesPlaces}
use Rattle.ht_local.specs.LocalTrials.{TellsWith}

-- ---- rows with a value

-- rows that send words as a relation does have its values
value_of_rows : {shape : Shape} {V W : List Word} {F : Word → Word → Type 0} {g : List Row} {u t : Word} {i : ℤ} → IsPartMap shape V W F → IsInside shape V u → IsValue shape F g u t i
    → (rows : List Row) → Covers shape (from_words rows) V → ((u v : Word) → Moves rows u v → F u v) → IsValue shape (Moves rows) g u t i
value_of_rows {shape} {V} {W} {F} {g} {u} {t} {i} m d v rows covers by = record {
  bound = v.bound + max (longest (from_words rows)) (longest V);
  at = λ z hz l.
      let y = v.at z hz (omega arith) in
      let w = rows_total shape rows V covers (u · z) (inside_extends d z hz) (omega (arith, length-after u z)) in
      let same : y.0 ≡ w.0 = m.single (u · z) y.0 w.0 (word_after shape u z d.word hz) y.1 (by (u · z) w.0 w.1) in
      (w.0, w.1, subst (Steps g i (t · z)) {x = y.0} {y = w.0} same y.2);
}

-- rows that conjugate, with a value by no steps
pub record HasRowsWith (shape : Shape) (f g : List Row) (V W : List Word) (x t : Word) : Type 0 where
  pub rows : List Row
  pub conjugates : ConjugatesOn shape rows f V g W
  pub value : IsValue shape (Moves rows) g x t (pos 0)

-- a conjugator with a value by some steps is followed by these back: so some rows have the value by none
rows_with : {shape : Shape} {f g : List Row} {V W : List Word} {F : Word → Word → Type 0} → (c : IsConjugator shape f g V W F) → IsKept shape g (IsInside shape W) → (x t : Word) (i : ℤ)
    → IsInside shape V x → IsWordOf shape t → IsValue shape F g x t i → HasRowsWith shape f g V W x t
rows_with {shape} {f} {g} {V} {W} {F} c kept x t i d ht v =
    let by = then_conjugate c kept (neg_ℤ i) in
    let none : i +ℤ neg_ℤ i ≡ pos 0 = none_left i in
    let value : IsValue shape (Then F (Steps g (neg_ℤ i))) g x t (pos 0) = subst (IsValue shape (Then F (Steps g (neg_ℤ i))) g x t) none (value_then c ht v (neg_ℤ i)) in
    let r = part_rows by.map in
    record {
      rows = r.rows;
      conjugates = alike_conjugates by r.rows r.from (record { bound = 0; alike = λ u v hu l. r.by u v });
      value = value_of_rows by.map d value r.rows r.from r.by;
    }
  where
    none_left : (i : ℤ) → i +ℤ neg_ℤ i ≡ pos 0
    none_left i = omega (arith, ints)

-- ---- rows with a value that a power reaches

-- an attractor of the other atom and a front of its letters, such that for each word to which a power carries these some rows conjugate and have
-- that word as their value
pub record MeetsFronts (shape : Shape) (f g : List Row) (V W : List Word) (x : Word) (m : ℕ) (L : List ℕ) : Type 0 where
  pub end : Word
  pub listed : Contains W end
  pub front : List ℕ
  pub back : List ℕ
  pub attractor : IsAttractor shape g end m (front ++ back)
  pub proper : back ≢ []
  pub turned : L ≡ back ++ front
  pub moved : (t : Word) (j : ℤ) → Carries shape g j (end · front) t → HasRowsWith shape f g V W x t

pub meets_fronts : (shape : Shape) (f g : List Row) (X Y : List Word) (k l : List ℕ) → HasSemiNormal shape f X → HasSemiNormal shape g Y → IsAtom shape f X k → IsAtom shape g Y l
    → (h : List Row) → ConjugatesOn shape h f (words_at X k) g (words_at Y l)
    → (x : Word) (m : ℕ) (L : List ℕ) → Contains (words_at X k) x → IsAttractor shape f x m L → MeetsFronts shape f g (words_at X k) (words_at Y l) x m L
meets_fronts shape f g X Y k l first second atom other h conjugates x m L listed attractor =
    let kept = atom_is_kept second other in
    let c = rows_conjugate first.pair second.pair (atom_is_kept first atom) conjugates in
    let d = atom_inside first atom x listed in
    let e = end_value c kept first second x m L (record { listed = (atom_words atom x listed).0; attractor = attractor }) d in
    record {
      end = e.end;
      listed = inside_listed second.semi.basis (λ t n. (atom_words other t n).0) e.inside e.end e.listed (under_after e.end e.front);
      front = e.front;
      back = e.back;
      attractor = e.ends;
      proper = e.proper;
      turned = e.turned;
      moved = λ t j carries.
          rows_with c kept x t (neg_ℤ j +ℤ e.power) d (carries_word shape g second.pair j (e.end · e.front) t carries)
          (value_from c e.value (neg_ℤ j) t (carries_back shape g second.pair j (e.end · e.front) t carries));
    }

-- ---- what a first value tells

module _ (f g : TypedValue) (k l : List ℕ) (start : ℕ) (first : Known) (atom : IsAtom f.element.shape g.element.rows g.quasi.basis.words l) (found : Option (List (Option Known)))
    (right : AreAllRight f g k start first found) where
  -- a conjugator that has it is right at all ends
  right_with : (x : Word) → IsWordAt f k start x → (h : List Row) → ConjugatesPlaces f k g l h → IsValue f.element.shape (Moves h) g.element.rows x first.word first.power
      → (known : List (Option Known)) × (found ≡ Some known) × AreRight f g h k known
  right_with x at h conjugates v = right l h at.place atom conjugates at.at (record { word = x; here = at.here; value = v })

  -- no conjugator has it where no values were found
  pub tells_none : found ≡ None → (x : Word) → IsWordAt f k start x → TellsWith f k g l x first None
  tells_none none x at h conjugates v = let r = right_with x at h conjugates v in let e : None ≡ Some r.0 = sym none ∙ r.1 in cc

  abbrev StartsAt : List (Option Known) → List Row → Type 0
  StartsAt known rows = (place : ℕ) (x word : Word) → slice_get k start ≡ Some place → slice_get f.quasi.basis.words place ≡ Some x
      → slice_get known start ≡ Some (Some (record { word = word; power = pos 0 })) → Carries f.element.shape rows (pos 1) x word

  -- what is told of rows with those that were found
  tells_rows : (known : List (Option Known)) → found ≡ Some known → slice_get known start ≡ Some (Some first) → (rows : Option (List Row)) → ((here : List Row) → rows ≡ Some here → ConjugatesPlaces f k g l here)
      → ((here : List Row) → rows ≡ Some here → StartsAt known here) → ((h : List Row) → ConjugatesPlaces f k g l h → AreRight f g h k known → rows ≢ None) → (x : Word) → IsWordAt f k start x → TellsWith f k g l x first rows
  tells_rows known is begins None conjugates starts all x at = λ h c v.
      let r = right_with x at h c v in
      let e : Some r.0 ≡ Some known = sym r.1 ∙ is in
      let one : r.0 ≡ known = cc in
      absurd (all h c (subst (AreRight f g h k) one r.2) refl)
  tells_rows known is begins (Some rows) conjugates starts all x at = (
    conjugates rows refl,
    λ none. starts rows refl at.place x first.word at.at at.here (begins ∙ ap (λ (p : ℤ). Some (Some (known_with first.word p))) none),
  )
    where
      known_with : Word → ℤ → Known
      known_with word power = record { word = word; power = power }

  pub tells_result : (known : List (Option Known)) → found ≡ Some known → slice_get known start ≡ Some (Some first) → {E : Type 0} (r : Result (Option (List Row)) E)
      → IfOk r (λ rows. (here : List Row) → rows ≡ Some here → ConjugatesPlaces f k g l here)
      → IfOk r (λ rows. (here : List Row) (place : ℕ) (x word : Word) → rows ≡ Some here → slice_get k start ≡ Some place → slice_get f.quasi.basis.words place ≡ Some x
      → slice_get known start ≡ Some (Some (record { word = word; power = pos 0 })) → Carries f.element.shape here (pos 1) x word)
      → IfOk r (λ rows. (h : List Row) → ConjugatesPlaces f k g l h → AreRight f g h k known → rows ≢ None) → IfOk r (λ rows. (x : Word) → IsWordAt f k start x → TellsWith f k g l x first rows)
  tells_result known is begins (Ok rows) conjugates starts all = tells_rows known is begins rows conjugates (λ here e place x word. starts here place x word e) all
  tells_result known is begins (Err e) conjugates starts all = tt
