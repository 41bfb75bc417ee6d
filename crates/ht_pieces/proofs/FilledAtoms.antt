-- Rows from an atom that conjugate into words that are apart fill the atom that they meet.
use Rattle.std.proofs.Common.{◌≡◌, ℕ, ◌+◌, ◌≤◌, ◌++◌, List, [], length, max, sym, subst, arith, All}
use Rattle.std.proofs.lemmas.List.Elements.{All-contains, All-nil}
use Rattle.ht_word.specs.Words.{◌·◌, IsLetter, IsLetters, IsUnderSome, IsWordOf}
use Rattle.ht_word.specs.declared.shape.Shape.{Shape}
use Rattle.ht_word.specs.declared.word.Word.{Word}
use Rattle.ht_word.proofs.ListLaws.{Contains-map, contained_in_map}
use Rattle.ht_word.proofs.WordLaws.{after-append, after-nil, length-after, length-ones, letters_append, ones, ones_letters, word_after, word_rest}
use Rattle.ht_pair.specs.Actions.{Moves}
use Rattle.ht_pair.specs.Atoms.{IsAtom, words_at}
use Rattle.ht_pair.specs.Bases.{Covers, IsPrefixFree, longest}
use Rattle.ht_pair.specs.LocalConjugacy.{ConjugatesOn}
use Rattle.ht_pair.specs.Pairs.{from_words, to_words}
use Rattle.ht_pair.specs.declared.row.Row.{Row}
use Rattle.ht_pair.proofs.CarriesLaws.{carries_extends}
use Rattle.ht_pair.proofs.MovesLaws.{moves_extends, moves_map, moves_turned}
use Rattle.ht_pair.proofs.PrefixMapLaws.{moved_long}
use Rattle.ht_types.proofs.TurnLaws.{HasSemiNormal}
use Rattle.ht_pieces.specs.Pieces.{IsInside, IsKept}
use Rattle.ht_pieces.proofs.Conjugating.{IsConjugator, conjugate_carries, rows_conjugate, sent_word, turned_conjugate}
use Rattle.ht_pieces.proofs.InsideLaws.{inside_above, inside_covers, inside_extends, inside_far}
use Rattle.ht_pieces.proofs.KeptAtoms.{atom_is_kept}
use Rattle.ht_pieces.proofs.KeptLaws.{kept_carries}
use Rattle.ht_pieces.proofs.KeptPieces.{atom_met}
use Rattle.ht_pieces.proofs.PartMaps.{length-sent, sent_long}
use Rattle.ht_pieces.proofs.Rising.{Rises, rises_in_atom}

module _ {shape : Shape} {f g : List Row} {V W : List Word} {F : Word → Word → Type 0} (c : IsConjugator shape f g V W F) where
  -- a long word is inside W if g moves a word to it that F sends a word to
  image_far : (u v w : Word) → IsWordOf shape u → F u v → Moves g v w → longest W ≤ length w.letters → IsInside shape W w
  image_far u v w hu s m l =
      let ahead = (moves_map shape f c.first).ahead in
      let x = ones ahead.bound in
      let y = ones c.map.bound in
      let hy = ones_letters shape c.map.bound in
      let u' = moved_long shape (Moves f) ahead u ahead.bound hu (omega arith) in
      let d = inside_extends (c.map.inside u v hu s).0 x (ones_letters shape ahead.bound) in
      let d' = c.kept.ahead (u · x) u'.0 d u'.1 in
      let v' = sent_long c.map u'.0 d' y hy (omega (arith, length-ones c.map.bound)) in
      let sent = c.map.extends (u · x) (v · x) y (c.map.extends u v x s) in
      let moved = moves_extends g (v · x) (w · x) y (moves_extends g v w x m) in
      let same : (w · x) · y ≡ v'.0 = c.commutes ((u · x) · y) (u'.0 · y) ((v · x) · y) v'.0 ((w · x) · y)
      (word_after shape (u · x) y d.word hy) (moves_extends f (u · x) u'.0 y u'.1) v'.1 sent moved in
      let inside = (c.map.inside (u'.0 · y) v'.0 (word_after shape u'.0 y d'.word hy) v'.1).1 in
      let far : IsInside shape W ((w · x) · y) = subst (IsInside shape W) {x = v'.0} {y = (w · x) · y} (sym same) inside in
      inside_above shape W w x (inside_above shape W (w · x) y far (omega (arith, length-after w x))) l

  -- so g moves words inside W to words inside it
  image_moved : (v w : Word) → IsInside shape W v → Moves g v w → IsInside shape W w
  image_moved v w d m =
      let word = (moves_map shape g c.second).ahead.word v w d.word m in
      inside_far shape W w word (max c.map.bound (longest W)) (λ y hy l.
      let u = c.map.onto (v · y) (inside_extends d y hy) (omega (arith, length-after v y)) in
      let hu = c.map.word_back u.0 (v · y) (word_after shape v y d.word hy) u.1 in
      image_far u.0 (v · y) (w · y) hu u.1 (moves_extends g v w y m) (omega (arith, length-after w y)))

-- and it keeps them
pub image_kept : {shape : Shape} {f g : List Row} {V W : List Word} {F : Word → Word → Type 0} → IsConjugator shape f g V W F
    → IsKept shape g (IsInside shape W)
image_kept {shape} {f} {g} {V} {W} c = record {
  word = λ v d. d.word;
  extends = λ v z d hz. inside_extends d z hz;
  ahead = image_moved c;
  behind = λ v w d hv m. image_moved (turned_conjugate c) w v d (moves_turned g v w m);
}

module _ {shape : Shape} {f g : List Row} {V W L : List Word} {F : Word → Word → Type 0} (c : IsConjugator shape f g V W F) (kept : IsKept shape g (IsInside shape L)) where
  -- a word inside V such that what F sends under it to is inside L
  record IsSentInto (u : Word) : Type 0 where
    inside : IsInside shape V u
    into : (z : List ℕ) (v : Word) → IsLetters shape z → F (u · z) v → IsInside shape L v

  -- a word that F sends to a word inside L
  sent_there : (u v : Word) → IsInside shape V u → F u v → IsInside shape L v → IsSentInto u
  sent_there u v d s e = record {
    inside = d;
    into = λ z w hz t.
        let same = c.map.single (u · z) (v · z) w (word_after shape u z d.word hz) (c.map.extends u v z s) t in
        subst (IsInside shape L) same (inside_extends e z hz);
  }

  sent_rises : Rises shape f IsSentInto
  sent_rises = record {
    word = λ u a. a.inside.word;
    extends = λ u z a hz. record {
      inside = inside_extends a.inside z hz;
      into = λ y v hy s. a.into (z ++ y) v (letters_append shape z y hz hy) (subst (λ t. F t v) (after-append u z y) s);
    };
    carried = λ i u v a carries.
        let d = kept_carries c.first c.kept i u v a.inside carries in
        record {
          inside = d;
          into = λ z t hz s. inside_far shape L t (sent_word c (v · z) t (word_after shape v z d.word hz) s) c.map.bound (λ y hy l.
              let x = sent_long c.map (u · z) (inside_extends a.inside z hz) y hy l in
              let there = carries_extends shape f i (u · z) (v · z) y hy (carries_extends shape f i u v z hz carries) in
              let into = a.into (z ++ y) x.0 (letters_append shape z y hz hy) (subst (λ e. F e x.0) (after-append u z y) x.1) in
              let on = conjugate_carries c i ((u · z) · y) ((v · z) · y) x.0 (t · y) there x.1 (c.map.extends (v · z) t y s) in
              kept_carries c.second kept i x.0 (t · y) into on);
        };
    bound = max c.map.bound (longest V) + longest L;
    above = λ u z a l.
        let d = inside_above shape V u z a.inside (omega arith) in
        let x = c.map.total u d (omega arith) in
        let sent = subst (λ e. F e (x.0 · z)) (sym (after-nil (u · z))) (c.map.extends u x.0 z x.1) in
        let far : IsInside shape L (x.0 · z) = a.into [] (x.0 · z) (All-nil (IsLetter shape)) sent in
        sent_there u x.0 d x.1 (inside_above shape L x.0 z far (length-sent c.map u x.0 (longest L) d.word x.1 l));
  }

-- a conjugator that sends one word inside an atom into a piece that g keeps sends all of them into it
pub sent_into : {shape : Shape} {f g : List Row} {X W L : List Word} {places : List ℕ} {F : Word → Word → Type 0} → HasSemiNormal shape f X
    → IsAtom shape f X places → IsConjugator shape f g (words_at X places) W F → IsKept shape g (IsInside shape L)
    → (u v : Word) → IsInside shape (words_at X places) u → F u v → IsInside shape L v → (t w : Word) → IsWordOf shape t → F t w → IsInside shape L w
sent_into {shape} {f} {g} {X} {W} {L} {places} {F} h atom c kept u v d s e t w ht r =
    let m = c.map.inside t w ht r in
    inside_far shape L w m.1.word m.0.letters (λ y hy l.
    let some = m.0.under y hy l in
    let z = some.under.rest in
    let hz = word_rest shape some.above z (subst (IsWordOf shape) some.under.is (word_after shape t y ht hy)) in
    let all = rises_in_atom h (sent_rises c kept) atom u some.above d (sent_there c kept u v d s e) some.listed in
    all.into z (w · y) hz (subst (λ a. F a (w · y)) some.under.is (c.map.extends t w y r)))

-- rows from an atom k of f to words that are apart, that conjugate f into g there, and that move a word into an atom l of g, fill l
pub conjugator_fills_atom : {shape : Shape} {f g h : List Row} {X Y : List Word} {k l : List ℕ} → HasSemiNormal shape f X → HasSemiNormal shape g Y
    → IsAtom shape f X k → IsAtom shape g Y l → Covers shape (from_words h) (words_at X k) → All (IsWordOf shape) (to_words h) → IsPrefixFree (to_words h)
    → ((u u' v v' w : Word) → IsWordOf shape u → IsUnderSome u (words_at X k) → Moves f u u' → Moves h u' v' → Moves h u v → Moves g v w → w ≡ v')
    → (u v : Word) → IsInside shape (words_at X k) u → Moves h u v → IsInside shape (words_at Y l) v → Covers shape (to_words h) (words_at Y l)
conjugator_fills_atom {shape} {f} {g} {h} {X} {Y} {k} {l} first second atom other covers words free commutes u v d m e =
    let itself : Covers shape (to_words h) (to_words h) = record { words = words; prefix_free = free; same = λ t ht n. ((λ s. s), (λ s. s)) } in
    let on : ConjugatesOn shape h f (words_at X k) g (to_words h) = record { from = covers; to = itself; commutes = commutes } in
    let c = rows_conjugate first.pair second.pair (atom_is_kept first atom) on in
    inside_covers shape (to_words h) (words_at Y l) words free
    (λ w q.
    let r = contained_in_map (λ (t : Row). t.to) h w q in
    let word = All-contains (IsWordOf shape) (from_words h) r.0.from covers.words (Contains-map (λ (t : Row). t.from) h r.0 r.1) in
    let move : Moves h r.0.from r.0.to = record { row = r.0; rest = []; listed = r.1; from = sym (after-nil r.0.from); to = sym (after-nil r.0.to) } in
    subst (IsInside shape (words_at Y l)) r.2 (sent_into first atom c (atom_is_kept second other) u v d m e r.0.from r.0.to word move))
    (λ y q. atom_met second (image_kept c) other v y e (c.map.inside u v d.word m).1 q)
