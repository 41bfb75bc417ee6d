-- Rows that send long words as a conjugator on parts does conjugate on them.
use Rattle.std.proofs.Common.{◌≡◌, List, max, subst, arith}
use Rattle.ht_word.specs.Words.{◌·◌, IsUnderSome, IsWordOf}
use Rattle.ht_word.specs.declared.shape.Shape.{Shape}
use Rattle.ht_word.specs.declared.word.Word.{Word}
use Rattle.ht_word.proofs.WordLaws.{after_cancel_right, length-after, length-ones, ones, ones_letters, word_after}
use Rattle.ht_pair.specs.Actions.{Moves}
use Rattle.ht_pair.specs.Bases.{Covers, longest}
use Rattle.ht_pair.specs.LocalConjugacy.{ConjugatesOn}
use Rattle.ht_pair.specs.Pairs.{from_words}
use Rattle.ht_pair.specs.declared.row.Row.{Row}
use Rattle.ht_pair.proofs.MovesLaws.{moves_extends, moves_map}
use Rattle.ht_pieces.proofs.AlikeRows.{SendsAlike, alike_covers}
use Rattle.ht_pieces.proofs.Conjugating.{IsConjugator}
use Rattle.ht_pieces.proofs.InsideLaws.{inside_long}
use Rattle.ht_pieces.proofs.PartMaps.{IsPartMap, rows_inside}

pub alike_conjugates : {shape : Shape} {f g : List Row} {V W : List Word} {F : Word → Word → Type 0} → IsConjugator shape f g V W F → (m : List Row)
    → Covers shape (from_words m) V → SendsAlike shape m F → ConjugatesOn shape m f V g W
alike_conjugates {shape} {f} {g} {V} {W} {F} c m covers sends = record {
  from = covers;
  to = alike_covers shape V W F c.map m covers sends;
  commutes = λ u u' v v' w hu s move n n' k.
      let hu' = (moves_map shape f c.first).ahead.word u u' hu move in
      let y = ones sends.bound in
      let hy = ones_letters shape sends.bound in
      let first = sends.alike (u · y) (v · y) (word_after shape u y hu hy) (omega (arith, length-after u y, length-ones sends.bound)) (moves_extends m u v y n') in
      let second = sends.alike (u' · y) (v' · y) (word_after shape u' y hu' hy) (omega (arith, length-after u' y, length-ones sends.bound)) (moves_extends m u' v' y n) in
      after_cancel_right w v' y (c.commutes (u · y) (u' · y) (v · y) (v' · y) (w · y) (word_after shape u y hu hy) (moves_extends f u u' y move) second first (moves_extends g v w y k));
}

-- rows whose `from` words cover V, and that move the words under V as a relation does wherever both send them, send all long words so
pub under_alike : {shape : Shape} {V W : List Word} {F : Word → Word → Type 0} → IsPartMap shape V W F → (m : List Row) → Covers shape (from_words m) V
    → ((u v v' : Word) → IsWordOf shape u → IsUnderSome u V → F u v → Moves m u v' → v ≡ v') → SendsAlike shape m F
under_alike {shape} {V} {W} {F} f m covers alike = record {
  bound = max f.bound (longest V);
  alike = λ u v hu l n.
      let d = rows_inside shape m V covers u v hu n in
      let t = f.total u d (omega arith) in
      subst (F u) {x = t.0} {y = v} (alike u t.0 v hu (inside_long d (omega arith)) t.1 n) t.1;
}
