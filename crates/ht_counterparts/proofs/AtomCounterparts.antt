-- Counterparts of atoms: a conjugator sends each atom to one atom, and cut to the first it conjugates from the one to the other.
use Rattle.std.proofs.Common.{◌≡◌, ℕ, ◌+◌, List, sym, subst, arith, Contains, Some, slice_get}
use Rattle.std.proofs.lemmas.Option.{get_or_from_slice_get, slice_get_within}
use Rattle.ht_word.specs.Words.{◌·◌}
use Rattle.ht_word.specs.declared.shape.Shape.{Shape}
use Rattle.ht_word.specs.declared.word.Word.{Word}
use Rattle.ht_word.proofs.WordLaws.{length-ones, ones, ones_letters, under_refl}
use Rattle.ht_pair.specs.Actions.{Moves}
use Rattle.ht_pair.specs.Atoms.{IsAtom, IsInfiniteWord, words_at}
use Rattle.ht_pair.specs.Bases.{IsBasis}
use Rattle.ht_pair.specs.Conjugacy.{Conjugates}
use Rattle.ht_pair.specs.LocalConjugacy.{ConjugatesOn}
use Rattle.ht_pair.specs.Pairs.{IsPair, turned}
use Rattle.ht_pair.specs.declared.row.Row.{Row}
use Rattle.ht_pair.proofs.BasisLaws.{basis_single, prefix_free_place, some_at}
use Rattle.ht_pair.proofs.ConjugacyLaws.{conjugates_turned}
use Rattle.ht_pair.proofs.MovesLaws.{moves_map, moves_turned, turned-turned}
use Rattle.ht_pair.proofs.PrefixMapLaws.{moved_long}
use Rattle.ht_quasi.proofs.StepLaws.{at_place}
use Rattle.ht_types.proofs.AtomExistence.{atom_exists}
use Rattle.ht_types.proofs.AtomLaws.{atoms_apart}
use Rattle.ht_types.proofs.PlacedWords.{at_places, placed_word}
use Rattle.ht_types.proofs.TurnLaws.{HasSemiNormal}
use Rattle.ht_pieces.specs.Pieces.{IsInside}
use Rattle.ht_pieces.proofs.AtomEnds.{atom_start}
use Rattle.ht_pieces.proofs.FilledAtoms.{sent_into}
use Rattle.ht_pieces.proofs.InsideLaws.{inside_extends, inside_from_under}
use Rattle.ht_pieces.proofs.KeptAtoms.{atom_inside, atom_is_kept, atom_words}
use Rattle.ht_counterparts.specs.Counterparts.{AreCounterparts}
use Rattle.ht_counterparts.proofs.PeriodicCounterparts.{infinite_sent}
use Rattle.ht_counterparts.proofs.PieceLaws.{atom_piece}
use Rattle.ht_counterparts.proofs.SentPieces.{MovesInside, cut_conjugates, cut_conjugator, image, sends_turned}

-- each infinite word stands in an atom
pub atom_at : {shape : Shape} {p : List Row} {X : List Word} → HasSemiNormal shape p X → (x : Word) → IsInfiniteWord shape p X x
    → (places : List ℕ) × IsAtom shape p X places × Contains (words_at X places) x
atom_at {shape} {p} {X} h x infinite =
    let place = infinite.0.0 in
    let here = at_place X x infinite.0 in
    let a = atom_exists shape p X place x h.pair h.semi here infinite.1 in
    (a.0, a.1, at_places X a.0 place x a.2 here)

-- two atoms with a word inside both are one
pub atoms_meet : {shape : Shape} {p : List Row} {X : List Word} {k l : List ℕ} → HasSemiNormal shape p X → IsAtom shape p X k → IsAtom shape p X l
    → (u : Word) → IsInside shape (words_at X k) u → IsInside shape (words_at X l) u → k ≡ l
atoms_meet {shape} {p} {X} {k} {l} h first second u d e =
    let size = d.letters + e.letters in
    let y = ones size in
    let s = d.under y (ones_letters shape size) (omega (arith, length-ones size)) in
    let t = e.under y (ones_letters shape size) (omega (arith, length-ones size)) in
    let here = (atom_words first s.above s.listed).0 in
    let there = (atom_words second t.above t.listed).0 in
    let one = basis_single shape X h.semi.basis (u · y) s.above t.above here there s.under t.under in
    let i = placed_word X k s.above s.listed in
    let j = placed_word X l t.above t.listed in
    let same : i.0 ≡ j.0 = same_place h.semi.basis i.0 j.0 s.above i.2 (subst (λ w. slice_get X j.0 ≡ Some w) (sym one) j.2) in
    atoms_apart shape p X k l j.0 first second (subst (Contains k) same i.1) j.1
  where
    same_place : IsBasis shape X → (i j : ℕ) (x : Word) → slice_get X i ≡ Some x → slice_get X j ≡ Some x → i ≡ j
    same_place basis i j x here there = prefix_free_place X basis.prefix_free x x (at i here) (at j there) (under_refl x)
      where
        at : (i : ℕ) → slice_get X i ≡ Some x → Contains X x
        at i is = (i, slice_get_within X i x is, get_or_from_slice_get X i x x is)

-- a conjugator that sends a word inside an atom inside an atom sends all of them inside it
atom_sent : {shape : Shape} {f g h : List Row} {X Y : List Word} {k l : List ℕ} → HasSemiNormal shape f X → HasSemiNormal shape g Y
    → Conjugates shape h f g
    → IsAtom shape f X k → IsAtom shape g Y l → (u v : Word) → IsInside shape (words_at X k) u → Moves h u v → IsInside shape (words_at Y l) v
    → (t w : Word) → IsInside shape (words_at X k) t → Moves h t w → IsInside shape (words_at Y l) w
atom_sent {shape} {h = h} {X = X} {k = k} first second c atom other u v d m e t w i n =
    let cut = cut_conjugator (atom_piece first atom) second.pair c (image c.pair (words_at X k)).sends in
    let here : MovesInside shape h (words_at X k) u v = record { moves = m; inside = λ hu. d } in
    sent_into first atom cut (atom_is_kept second other) u v d here e t w i.word (record { moves = n; inside = λ ht. i })

module _ {shape : Shape} {f g h : List Row} {X Y : List Word} (first : HasSemiNormal shape f X) (second : HasSemiNormal shape g Y) (c : Conjugates shape h f g) where
  -- atoms of which the one has a word that is sent inside the other are counterparts
  pub counterparts_met : {k l : List ℕ} → IsAtom shape f X k → IsAtom shape g Y l → (u v : Word) → IsInside shape (words_at X k) u → Moves h u v
      → IsInside shape (words_at Y l) v
      → AreCounterparts shape f X g Y h k l
  counterparts_met atom other u v d m e =
      let back = conjugates_turned shape h f g first.pair second.pair c in
      record {
        first = atom;
        second = other;
        sends = record {
          same = λ t w ht n. (
            (λ i. atom_sent first second c atom other u v d m e t w i n),
            (λ i. atom_sent second first back other atom v u e (moves_turned h u v m) d w t i (moves_turned h t w n)),
          );
        };
      }

  -- each atom has a counterpart
  pub sent_atom : {k : List ℕ} → IsAtom shape f X k → (l : List ℕ) × AreCounterparts shape f X g Y h k l
  sent_atom {k} atom =
      let x = atom.start in
      let s = infinite_sent first second c x atom.infinite in
      let i = inside_extends (atom_inside first atom x (atom_start atom)) s.letters s.of_shape in
      let l = atom_at second s.above s.infinite in
      let hv = (moves_map shape h c.pair).ahead.word (x · s.letters) s.to i.word s.moves in
      let e = inside_from_under shape (words_at Y l.0) s.to hv (some_at (words_at Y l.0) s.above s.to l.2 s.under) in
      (l.0, counterparts_met {l = l.0} atom l.1 (x · s.letters) s.to i s.moves e)

  -- and one alone
  pub counterpart_one : {k l l' : List ℕ} → AreCounterparts shape f X g Y h k l → AreCounterparts shape f X g Y h k l' → l ≡ l'
  counterpart_one a b =
      let m = (moves_map shape h c.pair).ahead in
      let d = atom_inside first a.first a.first.start (atom_start a.first) in
      let i = inside_extends d (ones m.bound) (ones_letters shape m.bound) in
      let v = moved_long shape (Moves h) m a.first.start m.bound d.word (omega arith) in
      let u = a.first.start · ones m.bound in
      atoms_meet second a.second b.second v.0 ((a.sends.same u v.0 i.word v.1).0 i) ((b.sends.same u v.0 i.word v.1).0 i)

  -- some rows conjugate between counterparts
  pub restricted : {k l : List ℕ} → AreCounterparts shape f X g Y h k l → (q : List Row) × ConjugatesOn shape q f (words_at X k) g (words_at Y l)
  restricted a = cut_conjugates (atom_piece first a.first) second.pair c a.sends

-- counterparts are counterparts for the turned rows, the other way round
pub counterparts_turned : {shape : Shape} {f g h : List Row} {X Y : List Word} {k l : List ℕ} → IsPair shape h → AreCounterparts shape f X g Y h k l
    → AreCounterparts shape g Y f X (turned h) l k
counterparts_turned pair a = record { first = a.second; second = a.first; sends = sends_turned pair a.sends }

module _ {shape : Shape} {f g h : List Row} {X Y : List Word} (first : HasSemiNormal shape f X) (second : HasSemiNormal shape g Y) (c : Conjugates shape h f g) where
  back : Conjugates shape (turned h) g f
  back = conjugates_turned shape h f g first.pair second.pair c

  -- each atom is a counterpart
  pub came_atom : {l : List ℕ} → IsAtom shape g Y l → (k : List ℕ) × AreCounterparts shape f X g Y h k l
  came_atom {l} atom =
      let k = sent_atom second first back atom in
      (k.0, subst (λ q. AreCounterparts shape f X g Y q k.0 l) (turned-turned h) (counterparts_turned back.pair k.1))

  -- of one atom alone
  pub counterpart_one_back : {k k' l : List ℕ} → AreCounterparts shape f X g Y h k l → AreCounterparts shape f X g Y h k' l → k ≡ k'
  counterpart_one_back a b = counterpart_one second first back (counterparts_turned c.pair a) (counterparts_turned c.pair b)
