-- Conjugators on pieces, turned round and one after another.
use Rattle.std.proofs.Common.{◌≡◌, ℕ, ◌+◌, List, max, sym, subst, arith}
use Rattle.ht_word.specs.Words.{◌·◌}
use Rattle.ht_word.specs.declared.shape.Shape.{Shape}
use Rattle.ht_word.specs.declared.word.Word.{Word}
use Rattle.ht_word.proofs.WordLaws.{after_cancel_right, ones}
use Rattle.ht_pair.specs.Actions.{Moves}
use Rattle.ht_pair.specs.Atoms.{IsAtom, words_at}
use Rattle.ht_pair.specs.Bases.{Covers, longest}
use Rattle.ht_pair.specs.LocalConjugacy.{ConjugatesOn}
use Rattle.ht_pair.specs.Pairs.{turned}
use Rattle.ht_pair.specs.declared.row.Row.{Row}
use Rattle.ht_pair.proofs.MovesLaws.{from_words-turned, moves_back, moves_extends, moves_map}
use Rattle.ht_pair.proofs.PrefixMapLaws.{Then, long_word, moved_long}
use Rattle.ht_types.proofs.TurnLaws.{HasSemiNormal}
use Rattle.ht_pieces.proofs.Conjugating.{IsConjugator, back_conjugate, rows_conjugate}
use Rattle.ht_pieces.proofs.ConjugatingRows.{alike_conjugates}
use Rattle.ht_pieces.proofs.PartMaps.{IsPartMap, length-came, length-sent}
use Rattle.ht_pieces.proofs.PartRows.{part_rows}
use Rattle.ht_counterparts.proofs.PieceLaws.{IsPiece, atom_piece}

-- rows of a conjugator on pieces
pub conjugator_rows : {shape : Shape} {f g : List Row} {V W : List Word} {F : Word → Word → Type 0} → IsConjugator shape f g V W F
    → (q : List Row) × ConjugatesOn shape q f V g W
conjugator_rows c = let r = part_rows c.map in (r.rows, alike_conjugates c r.rows r.from (record { bound = 0; alike = λ u v hu l. r.by u v }))

-- the moves of rows that conjugate are a conjugator
piece_conjugator : {shape : Shape} {q f g : List Row} {V W : List Word} → IsPiece shape f V → IsPiece shape g W → ConjugatesOn shape q f V g W
    → IsConjugator shape f g V W (Moves q)
piece_conjugator first second c = rows_conjugate first.pair second.pair first.kept c

-- rows that conjugate conjugate back, turned round
pub conjugates_back : {shape : Shape} {q f g : List Row} {V W : List Word} → IsPiece shape f V → IsPiece shape g W → ConjugatesOn shape q f V g W
    → ConjugatesOn shape (turned q) g W f V
conjugates_back {shape} {q} {f} {g} {V} {W} first second c =
    alike_conjugates (back_conjugate (piece_conjugator first second c) second.kept) (turned q) (subst (λ U. Covers shape U W) (sym (from_words-turned q)) c.to)
    (record { bound = 0; alike = λ v u hv l. moves_back q u v })

-- F and then G, a relation from V by W to U
then_map : {shape : Shape} {V W U : List Word} {F G : Word → Word → Type 0} → IsPartMap shape V W F → IsPartMap shape W U G
    → IsPartMap shape V U (Then F G)
then_map {shape} {V} {W} {U} {F} {G} f g = record {
  extends = λ u w z t. record { middle = t.middle · z; first = f.extends u t.middle z t.first; second = g.extends t.middle w z t.second };
  single = λ u w w' hu t t'.
      let same : t'.middle ≡ t.middle = f.single u t'.middle t.middle hu t'.first t.first in
      g.single t.middle w w' (f.inside u t.middle hu t.first).1.word t.second (subst (λ x. G x w') same t'.second);
  single_back = λ u u' w hw t t'.
      let same : t'.middle ≡ t.middle = g.single_back t'.middle t.middle w hw t'.second t.second in
      f.single_back u u' t.middle (g.word_back t.middle w hw t.second) t.first (subst (F u') same t'.first);
  inside = λ u w hu t. let d = f.inside u t.middle hu t.first in (d.0, (g.inside t.middle w d.1.word t.second).1);
  word_back = λ u w hw t. f.word_back u t.middle (g.word_back t.middle w hw t.second) t.first;
  bound = (max f.bound (longest V) + g.bound) + (max g.bound (longest U) + f.bound);
  total = λ u d l.
      let v = f.total u d (omega arith) in
      let w = g.total v.0 (f.inside u v.0 d.word v.1).1 (length-sent f u v.0 g.bound d.word v.1 (omega arith)) in
      (w.0, record { middle = v.0; first = v.1; second = w.1 });
  onto = λ w d l.
      let v = g.onto w d (omega arith) in
      let u = f.onto v.0 (g.inside v.0 w (g.word_back v.0 w d.word v.1) v.1).0 (length-came g v.0 w f.bound d.word v.1 (omega arith)) in
      (u.0, record { middle = v.0; first = u.1; second = v.1 });
}

-- conjugators one after another are one
then_conjugator : {shape : Shape} {f g e : List Row} {V W U : List Word} {F G : Word → Word → Type 0} → IsConjugator shape f g V W F
    → IsConjugator shape g e W U G → IsConjugator shape f e V U (Then F G)
unfolding then_map
then_conjugator {shape} {f} {g} {e} {F = F} {G = G} first second = record {
  first = first.first;
  second = second.second;
  kept = first.kept;
  map = then_map first.map second.map;
  commutes = λ u u' v v' w hu s t t' r.
      -- F sends u to the middle of t' and u' to that of t
      let mg = (moves_map shape g first.second).ahead in
      let hm = (first.map.inside u t'.middle hu t'.first).1.word in
      let z = ones mg.bound in
      let x = moved_long shape (Moves g) mg t'.middle mg.bound hm (omega arith) in
      let same : x.0 ≡ t.middle · z = first.commutes (u · z) (u' · z) (t'.middle · z) (t.middle · z) x.0 (long_word shape u mg.bound hu)
      (moves_extends f u u' z s) (first.map.extends u' t.middle z t.first) (first.map.extends u t'.middle z t'.first) x.1 in
      after_cancel_right w v' z (second.commutes (t'.middle · z) (t.middle · z) (v · z) (v' · z) (w · z) (long_word shape t'.middle mg.bound hm)
      (subst (Moves g (t'.middle · z)) same x.1) (second.map.extends t.middle v' z t.second) (second.map.extends t'.middle v z t'.second) (moves_extends e v w z r));
}

-- some rows conjugate from the first piece to the third
pub conjugates_then : {shape : Shape} {q s f g e : List Row} {V W U : List Word} → IsPiece shape f V → IsPiece shape g W → IsPiece shape e U
    → ConjugatesOn shape q f V g W
    → ConjugatesOn shape s g W e U → (h : List Row) × ConjugatesOn shape h f V e U
conjugates_then first second third c d = conjugator_rows (then_conjugator (piece_conjugator first second c) (piece_conjugator second third d))

-- where k and k' have conjugators to l and k' has one to l', k has one to l'
pub conjugates_across : {shape : Shape} {f g : List Row} {X Y : List Word} {k k' l l' : List ℕ} {a b c : List Row} → HasSemiNormal shape f X
    → HasSemiNormal shape g Y
    → IsAtom shape f X k → IsAtom shape f X k' → IsAtom shape g Y l → IsAtom shape g Y l'
    → ConjugatesOn shape a f (words_at X k) g (words_at Y l) → ConjugatesOn shape b f (words_at X k') g (words_at Y l)
    → ConjugatesOn shape c f (words_at X k') g (words_at Y l')
    → (h : List Row) × ConjugatesOn shape h f (words_at X k) g (words_at Y l')
conjugates_across {shape} {f} {g} {X} {Y} {k} {k'} {l} {l'} first second at at' to to' along down on =
    let k_piece = atom_piece first at in
    let k'_piece = atom_piece first at' in
    let l_piece = atom_piece second to in
    let back = conjugates_then k_piece l_piece k'_piece along (conjugates_back k'_piece l_piece down) in
    conjugates_then k_piece k'_piece (atom_piece second to') back.1 on
