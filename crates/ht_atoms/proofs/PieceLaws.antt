-- The pieces of the labels of marked places, place by place.
use Rattle.std.proofs.Common.{◌≡◌, ◌≢◌, ℕ, ◌+◌, ◌≤◌, ◌<◌, ◌⊎◌, inl, inr, Bool, false, List, [], ◌∷◌, ◌++◌, length, get_or, refl, sym, ap, ◌∙◌, subst, arith, Contains, Some, slice_get, true≢false}
use Rattle.std.proofs.Math.ListN.{set}
use Rattle.std.proofs.Math.Seq.{get_or-append_seam}
use Rattle.std.proofs.lemmas.Bool.{cases_lt}
use Rattle.std.proofs.lemmas.List.{length-append, length-set, get_or-set_same, get_or-set_other, get_or_append_left, get_or_default, get_or_past}
use Rattle.std.proofs.lemmas.List.Elements.{All-nil, Contains-append_left, Contains-append_right, Contains-get_or}
use Rattle.std.proofs.lemmas.Option.{same_Some, slice_get_within, get_or_from_slice_get}
use Rattle.ht_word.proofs.Deciding.{same_or_not}
use Rattle.ht_word.proofs.ListLaws.{Contains-here, Contains-nil, Contains-cons_cases, AllPairs-append, AllPairs-cons, AllPairs-nil, trichotomy}
use Rattle.ht_word.proofs.WordLaws.{All-from_contains}
use Rattle.ht_pair.proofs.Sequences.{in_front_or}
use Rattle.ht_quasi.specs.Rounds.{IsMarked}
use Rattle.ht_atoms.specs.Pieces.{IsPiece, ArePieces, HaveFirsts, ArePiecesBelow}

-- ---- the first place of a piece

first_listed : (places : List ℕ) (r : ℕ) → slice_get places 0 ≡ Some r → Contains places r
first_listed places r e = (0, slice_get_within places 0 r e, get_or_from_slice_get places 0 r r e)

-- it is a marked place, whose label it is
pub first_root : {marks : List Bool} {labels : List ℕ} {count r : ℕ} {places : List ℕ} → IsPiece marks labels count r places → (r < count) × IsMarked marks r × (get_or labels r 0 ≡ r)
first_root {r = r} {places = places} h = (h.same r).0 (first_listed places r h.first)

-- a piece has one first place
first_once : {marks : List Bool} {labels : List ℕ} {count q r : ℕ} {places : List ℕ} → IsPiece marks labels count q places → IsPiece marks labels count r places → q ≡ r
first_once h g = same_Some _ _ (sym h.first ∙ g.first)

-- ---- one more place

module _ (marks : List Bool) (labels : List ℕ) (count : ℕ) where
  -- places below the next number
  below_more : (i : ℕ) → i < count + 1 → (i < count) ⊎ (i ≡ count)
  below_more i l = grind arith

  -- a piece stays where the place has another label or isn't marked
  piece_stays : (r : ℕ) (places : List ℕ) → (IsMarked marks count → get_or labels count 0 ≡ r → ⊥) → IsPiece marks labels count r places → IsPiece marks labels (count + 1) r places
  piece_stays r places other h = record {
    first = h.first;
    ascending = h.ascending;
    same = λ i. (
      (λ c. let k = (h.same i).0 c in (wider i k.0, k.1, k.2)),
      (λ k. (h.same i).1 (
        elim (below_more i k.0) [
          | inl l ↦ l
          | inr e ↦ absurd (other (subst (IsMarked marks) e k.1) (ap (λ j. get_or labels j 0) (sym e) ∙ k.2))
        ],
        k.1,
        k.2,
      )),
    );
  }
    where
      wider : (i : ℕ) → i < count → i < count + 1
      wider i l = omega arith

  -- a place that is its own label begins one
  piece_begins : HaveFirsts marks labels → IsMarked marks count → get_or labels count 0 ≡ count → IsPiece marks labels (count + 1) count (count ∷ [])
  piece_begins firsts marked own = record {
    first = refl;
    ascending = AllPairs-cons (λ (i : ℕ) (j : ℕ). i < j) count [] (All-nil (λ (j : ℕ). count < j)) (AllPairs-nil (λ (i : ℕ) (j : ℕ). i < j));
    same = λ i. (
      (λ c. elim (Contains-cons_cases count [] i c) [
        | inl e ↦ (let less : i < count + 1 = omega arith in (less, subst (IsMarked marks) e marked, ap (λ j. get_or labels j 0) (sym e) ∙ own))
        | inr n ↦ absurd (Contains-nil i n)
      ]),
      (λ k. subst (Contains (count ∷ [])) (only i k.0 (firsts i k.1).earlier k.2) (Contains-here count [])),
    );
  }
    where
      only : (i : ℕ) → i < count + 1 → get_or labels i 0 ≤ i → get_or labels i 0 ≡ count → count ≡ i
      only i l up e = omega arith

  -- another marked place is behind those of its label
  piece_grows : (r : ℕ) (places : List ℕ) → IsMarked marks count → get_or labels count 0 ≡ r → IsPiece marks labels count r places → IsPiece marks labels (count + 1) r (places ++ count ∷ [])
  piece_grows r places marked label h = record {
    first = still_first places h.first;
    ascending = AllPairs-append (λ (i : ℕ) (j : ℕ). i < j) places (count ∷ []) h.ascending
        (AllPairs-cons (λ (i : ℕ) (j : ℕ). i < j) count [] (All-nil (λ (j : ℕ). count < j)) (AllPairs-nil (λ (i : ℕ) (j : ℕ). i < j)))
        (λ i j c d. elim (Contains-cons_cases count [] j d) [ inl e ↦ (let less = ((h.same i).0 c).0 in omega arith) | inr n ↦ absurd (Contains-nil j n) ]);
    same = λ i. (
      (λ c. elim (in_front_or places count i c) [
        | inl d ↦ (let k = (h.same i).0 d in let l = k.0 in let less : i < count + 1 = omega arith in (less, k.1, k.2))
        | inr e ↦ (let less : i < count + 1 = omega arith in (less, subst (IsMarked marks) e marked, ap (λ j. get_or labels j 0) (sym e) ∙ label))
      ]),
      (λ k. elim (below_more i k.0) [
        | inl l ↦ Contains-append_left places (count ∷ []) i ((h.same i).1 (l, k.1, k.2))
        | inr e ↦ subst (Contains (places ++ count ∷ [])) (sym e) (Contains-append_right places (count ∷ []) count (Contains-here count []))
      ]),
    );
  }
    where
      still_first : (A : List ℕ) → slice_get A 0 ≡ Some r → slice_get (A ++ count ∷ []) 0 ≡ Some r
      still_first [] e = absurd cc
      still_first (a ∷ A) e = e

-- ---- all pieces

pub no_pieces : (marks : List Bool) (labels slots : List ℕ) (pieces : List (List ℕ)) → length slots ≡ length marks → pieces ≡ [] → ArePiecesBelow marks labels 0 slots pieces
no_pieces marks labels slots pieces as_many none = record {
  as_many = as_many;
  each = λ s l. absurd (omega (arith, ap (λ (t : List (List ℕ)). length t) none));
  all = λ r l. absurd (omega arith);
  rising = λ q r less l. absurd (omega arith);
}

-- a place that isn't marked changes none
pub place_unmarked : (marks : List Bool) (labels : List ℕ) (count : ℕ) (slots : List ℕ) (pieces : List (List ℕ)) → get_or marks count false ≡ false → ArePiecesBelow marks labels count slots pieces → ArePiecesBelow marks labels (count + 1) slots pieces
place_unmarked marks labels count slots pieces unmarked h = record {
  as_many = h.as_many;
  each = λ s l. (let k = h.each s l in (k.0, stays k.0 (get_or pieces s []) k.1, k.2));
  all = λ r l m e. (let k = h.all r (below r l m) m e in (k.0, stays r (get_or pieces (get_or slots r 0) []) k.1));
  rising = λ q r less l m n. h.rising q r less (below r l n) m n;
}
  where
    not_both : IsMarked marks count → ⊥
    not_both marked = true≢false (sym marked ∙ unmarked)

    stays : (r : ℕ) (places : List ℕ) → IsPiece marks labels count r places → IsPiece marks labels (count + 1) r places
    stays r places piece = piece_stays marks labels count r places (λ marked e. not_both marked) piece

    below : (r : ℕ) → r < count + 1 → IsMarked marks r → r < count
    below r l m = elim (below_more marks labels count r l) [ inl less ↦ less | inr e ↦ absurd (not_both (subst (IsMarked marks) e m)) ]

-- a place that is its own label adds a piece
pub place_begins : (marks : List Bool) (labels : List ℕ) (count : ℕ) (slots new_slots : List ℕ) (pieces new : List (List ℕ)) → count < length marks → HaveFirsts marks labels → IsMarked marks count → get_or labels count 0 ≡ count
    → new_slots ≡ set slots count (length pieces) → new ≡ pieces ++ (count ∷ []) ∷ [] → ArePiecesBelow marks labels count slots pieces → ArePiecesBelow marks labels (count + 1) new_slots new
place_begins marks labels count slots new_slots pieces new inside firsts marked own slots_are are h = record {
  as_many = ap (λ (t : List ℕ). length t) slots_are ∙ length-set slots count (length pieces) ∙ h.as_many;
  each = λ s l. elim (cases_lt s (length pieces)) [
    | inl less ↦ (let k = h.each s less in let r = first_root k.1 in (k.0, old s less k.0 r.0 k.1, slot k.0 r.0 ∙ k.2))
    | inr more ↦ (let last : s ≡ length pieces = omega (arith, many) in
        (count, subst (λ j. IsPiece marks labels (count + 1) count (get_or new j [])) (sym last) begun, slot_here ∙ sym last))
  ];
  all = λ r l m e. elim (below_more marks labels count r l) [
    | inl less ↦ (let k = h.all r less m e in let at = slot r less in let within : get_or new_slots r 0 < length new = omega (arith, many, k.0, at) in
        (within, subst (λ j. IsPiece marks labels (count + 1) r (get_or new j [])) (sym at) (old (get_or slots r 0) k.0 r less k.1)))
    | inr last ↦ (let within : length pieces < length new = omega (arith, many) in
        subst (λ k. (get_or new_slots k 0 < length new) × IsPiece marks labels (count + 1) k (get_or new (get_or new_slots k 0) [])) (sym last)
        (subst (λ j. (j < length new) × IsPiece marks labels (count + 1) count (get_or new j [])) (sym slot_here) (within, begun)))
  ];
  rising = λ q r less l m n d e. elim (below_more marks labels count r l) [
    | inl low ↦ (let before = h.rising q r less low m n d e in omega (arith, slot q (omega arith), slot r low, before))
    | inr last ↦ (let low : q < count = omega arith in
        let at : get_or new_slots r 0 ≡ length pieces = ap (λ k. get_or new_slots k 0) last ∙ slot_here in
        omega (arith, slot q low, (h.all q low m d).0, at))
  ];
}
  where
    many : length new ≡ length pieces + 1
    many = ap (λ (t : List (List ℕ)). length t) are ∙ length-append pieces ((count ∷ []) ∷ []) ∙ omega arith

    slot : (r : ℕ) → r < count → get_or new_slots r 0 ≡ get_or slots r 0
    slot r l = ap (λ (t : List ℕ). get_or t r 0) slots_are ∙ get_or-set_other slots count r (length pieces) 0 (λ e. absurd (omega arith))

    slot_here : get_or new_slots count 0 ≡ length pieces
    slot_here = ap (λ (t : List ℕ). get_or t count 0) slots_are ∙ get_or-set_same slots count (length pieces) 0 (omega (arith, h.as_many))

    begun : IsPiece marks labels (count + 1) count (get_or new (length pieces) [])
    begun = subst (IsPiece marks labels (count + 1) count) (sym (ap (λ (t : List (List ℕ)). get_or t (length pieces) []) are ∙ get_or-append_seam pieces (count ∷ []) [] [])) (piece_begins marks labels count firsts marked own)

    old : (s : ℕ) → s < length pieces → (r : ℕ) → r < count → IsPiece marks labels count r (get_or pieces s []) → IsPiece marks labels (count + 1) r (get_or new s [])
    old s l r low piece =
        subst (IsPiece marks labels (count + 1) r) (sym (ap (λ (t : List (List ℕ)). get_or t s []) are ∙ get_or_append_left pieces ((count ∷ []) ∷ []) [] s l))
        (piece_stays marks labels count r (get_or pieces s []) (λ m e. absurd (let same = sym own ∙ e in omega arith)) piece)

-- the piece of the label of a place
pub label_piece : (marks : List Bool) (labels : List ℕ) (count : ℕ) (slots : List ℕ) (pieces : List (List ℕ)) → HaveFirsts marks labels → IsMarked marks count → get_or labels count 0 ≢ count → ArePiecesBelow marks labels count slots pieces
    → (get_or labels count 0 < count) × (get_or slots (get_or labels count 0) 0 < length pieces) × IsPiece marks labels count (get_or labels count 0) (get_or pieces (get_or slots (get_or labels count 0) 0) [])
label_piece marks labels count slots pieces firsts marked other h =
    let first = firsts count marked in
    let less : get_or labels count 0 < count = (let up = first.earlier in omega arith) in
    let k = h.all (get_or labels count 0) less first.marked first.settled in
    (less, k.0, k.1)

-- another marked place is added to the piece of its label
pub place_joins : (marks : List Bool) (labels : List ℕ) (count : ℕ) (slots : List ℕ) (pieces : List (List ℕ)) (read grown : List ℕ) → HaveFirsts marks labels → IsMarked marks count → get_or labels count 0 ≢ count
    → read ≡ get_or pieces (get_or slots (get_or labels count 0) 0) read → grown ≡ read ++ count ∷ [] → ArePiecesBelow marks labels count slots pieces → ArePiecesBelow marks labels (count + 1) slots (set pieces (get_or slots (get_or labels count 0) 0) grown)
place_joins marks labels count slots pieces read grown firsts marked other read_is grown_is h =
    by (set pieces (get_or slots (get_or labels count 0) 0) grown) (get_or labels count 0) refl (get_or slots (get_or labels count 0) 0) refl (label_piece marks labels count slots pieces firsts marked other h)
    (ap (λ A. set pieces (get_or slots (get_or labels count 0) 0) A) (grown_is ∙ ap (λ A. A ++ count ∷ []) (read_is ∙ get_or_default pieces (get_or slots (get_or labels count 0) 0) read [] (label_piece marks labels count slots pieces firsts marked other h).1)))
  where
    by : (new : List (List ℕ)) (label : ℕ) → get_or labels count 0 ≡ label → (at : ℕ) → get_or slots label 0 ≡ at → (label < count) × (at < length pieces) × IsPiece marks labels count label (get_or pieces at [])
        → new ≡ set pieces at (get_or pieces at [] ++ count ∷ []) → ArePiecesBelow marks labels (count + 1) slots new
    by new label label_is at at_is (low, inside, piece) are = record {
      as_many = h.as_many;
      each = λ s l. elim (same_or_not s at) [
        | inl e ↦ (label, subst (λ j. IsPiece marks labels (count + 1) label (get_or new j [])) (sym e) longer, at_is ∙ sym e)
        | inr n ↦ (let k = h.each s (omega (arith, many)) in (k.0, stays s n k.0 (λ e. n (sym k.2 ∙ ap (λ j. get_or slots j 0) (sym e) ∙ at_is)) k.1, k.2))
      ];
      all = λ r l m e. (let k = h.all r (below r l e) m e in let within : get_or slots r 0 < length new = omega (arith, many, k.0) in (
        within,
        elim (same_or_not (get_or slots r 0) at) [
          | inl d ↦ (let one : label ≡ r = first_once piece (subst (λ j. IsPiece marks labels count r (get_or pieces j [])) d k.1) in
              subst (λ j. IsPiece marks labels (count + 1) r (get_or new j [])) (sym d) (subst (λ q. IsPiece marks labels (count + 1) q (get_or new at [])) one longer))
          | inr n ↦ stays (get_or slots r 0) n r (λ e. n (ap (λ j. get_or slots j 0) (sym e) ∙ at_is)) k.1
        ],
      ));
      rising = λ q r less l m n d e. h.rising q r less (below r l e) m n d e;
    }
      where
        many : length new ≡ length pieces
        many = ap (λ (t : List (List ℕ)). length t) are ∙ length-set pieces at (get_or pieces at [] ++ count ∷ [])

        below : (r : ℕ) → r < count + 1 → get_or labels r 0 ≡ r → r < count
        below r l e = elim (below_more marks labels count r l) [ inl less ↦ less | inr last ↦ absurd (other (ap (λ k. get_or labels k 0) (sym last) ∙ e ∙ last)) ]

        longer : IsPiece marks labels (count + 1) label (get_or new at [])
        longer = subst (IsPiece marks labels (count + 1) label) (sym (ap (λ (t : List (List ℕ)). get_or t at []) are ∙ get_or-set_same pieces at (get_or pieces at [] ++ count ∷ []) [] inside))
            (piece_grows marks labels count label (get_or pieces at []) marked label_is piece)

        stays : (s : ℕ) → s ≢ at → (r : ℕ) → (label ≡ r → ⊥) → IsPiece marks labels count r (get_or pieces s []) → IsPiece marks labels (count + 1) r (get_or new s [])
        stays s n r differ old = subst (IsPiece marks labels (count + 1) r) (sym (ap (λ (t : List (List ℕ)). get_or t s []) are ∙ get_or-set_other pieces at s (get_or pieces at [] ++ count ∷ []) [] n))
            (piece_stays marks labels count r (get_or pieces s []) (λ m e. differ (sym label_is ∙ e)) old)

-- the first place of the piece at a place in the list
record StandsFirst (marks : List Bool) (labels : List ℕ) (count : ℕ) (slots : List ℕ) (r s : ℕ) : Type 0 where
  below : r < count
  marked : IsMarked marks r
  own : get_or labels r 0 ≡ r
  slot : get_or slots r 0 ≡ s

-- after the last place they are the pieces
pub pieces_are : (marks : List Bool) (labels : List ℕ) (count : ℕ) (slots : List ℕ) (pieces : List (List ℕ)) → count ≡ length marks → ArePiecesBelow marks labels count slots pieces → ArePieces marks labels pieces
pieces_are marks labels count slots pieces whole h = record {
  each = All-from_contains (λ (places : List ℕ). (r : ℕ) × IsPiece marks labels (length marks) r places) pieces (λ places c.
      let k = h.each c.0 c.1 in
      (k.0, at_end k.0 places (subst (IsPiece marks labels count k.0) (get_or_default pieces c.0 [] places c.1 ∙ c.2) k.1)));
  all = λ r m e. (let k = h.all r (inside r m) m e in (get_or pieces (get_or slots r 0) [], Contains-get_or pieces (get_or slots r 0) [] k.0, at_end r (get_or pieces (get_or slots r 0) []) k.1));
  ordered = λ s t d less l q r first second.
      let one = h.each s (omega arith) in
      let other = h.each t l in
      let q_is : one.0 ≡ q = same_Some _ _ (sym one.1.first ∙ ap (λ A. slice_get A 0) (get_or_default pieces s [] d (omega arith)) ∙ first) in
      let r_is : other.0 ≡ r = same_Some _ _ (sym other.1.first ∙ ap (λ A. slice_get A 0) (get_or_default pieces t [] d l) ∙ second) in
      in_order s t less q r (subst (λ k. StandsFirst marks labels count slots k s) q_is (root s one)) (subst (λ k. StandsFirst marks labels count slots k t) r_is (root t other));
}
  where
    at_end : (r : ℕ) (places : List ℕ) → IsPiece marks labels count r places → IsPiece marks labels (length marks) r places
    at_end r places piece = subst (λ k. IsPiece marks labels k r places) whole piece

    inside : (r : ℕ) → IsMarked marks r → r < count
    inside r m = elim (cases_lt r (length marks)) [ inl l ↦ omega arith | inr past ↦ absurd (true≢false (sym m ∙ get_or_past marks r false past)) ]

    root : (s : ℕ) → (k : (r : ℕ) × IsPiece marks labels count r (get_or pieces s []) × (get_or slots r 0 ≡ s)) → StandsFirst marks labels count slots k.0 s
    root s k = let f = first_root k.1 in record { below = f.0; marked = f.1; own = f.2; slot = k.2 }

    in_order : (s t : ℕ) → s < t → (q r : ℕ) → StandsFirst marks labels count slots q s → StandsFirst marks labels count slots r t → q < r
    in_order s t less q r f g = elim (trichotomy q r) [
      | inl either ↦ elim either [ inl l ↦ l | inr l ↦ absurd (let turned = h.rising r q l f.below g.marked f.marked g.own f.own in omega (arith, turned, f.slot, g.slot, less)) ]
      | inr e ↦ absurd (let same = sym f.slot ∙ ap (λ k. get_or slots k 0) e ∙ g.slot in omega (arith, same, less))
    ]
