-- The words that a pair sends a list of words to; cut to a piece, a conjugator conjugates from it to those.
use Rattle.std.proofs.Common.{◌≡◌, ◌+◌, List, max, refl, sym, ap, ◌∙◌, subst, arith}
use Rattle.ht_word.specs.Words.{◌·◌, IsUnderSome, IsWordOf}
use Rattle.ht_word.specs.declared.shape.Shape.{Shape}
use Rattle.ht_word.specs.declared.word.Word.{Word}
use Rattle.ht_word.proofs.ListLaws.{contained_in_map}
use Rattle.ht_word.proofs.WordLaws.{length-after, word_after, word_front, word_rest}
use Rattle.ht_pair.specs.Actions.{Moves}
use Rattle.ht_pair.specs.Bases.{longest}
use Rattle.ht_pair.specs.Conjugacy.{Conjugates}
use Rattle.ht_pair.specs.LocalConjugacy.{ConjugatesOn}
use Rattle.ht_pair.specs.Pairs.{IsPair, from_words, to_words, turned}
use Rattle.ht_pair.specs.declared.row.Row.{Row}
use Rattle.ht_pair.proofs.MovesLaws.{moves_back, moves_extends, moves_map}
use Rattle.ht_pair.proofs.PrefixMapLaws.{IsPrefixMap}
use Rattle.ht_pieces.specs.Pieces.{IsInside}
use Rattle.ht_pieces.proofs.AlikeRows.{moved_under}
use Rattle.ht_pieces.proofs.Conjugating.{IsConjugator}
use Rattle.ht_pieces.proofs.InsideLaws.{inside_extends, inside_far}
use Rattle.ht_pieces.proofs.PartMaps.{IsPartMap, rows_inside, rows_total}
use Rattle.ht_pieces.proofs.PartRows.{HasRows, sending_rows}
use Rattle.ht_counterparts.specs.Counterparts.{SendsInside}
use Rattle.ht_counterparts.proofs.PieceLaws.{IsPiece}
use Rattle.ht_counterparts.proofs.PieceRelations.{conjugator_rows}

-- what rows send from V to W the turned rows send back
pub sends_turned : {shape : Shape} {h : List Row} {V W : List Word} → IsPair shape h → SendsInside shape h V W → SendsInside shape (turned h) W V
sends_turned {shape} {h} pair sends = record {
  same = λ v u hv m.
      let n = moves_back h u v m in
      let s = sends.same u v ((moves_map shape h pair).behind.word v u hv n) n in
      (s.1, s.0);
}

-- a pair that sends a list to itself keeps it
pub sends_kept : {shape : Shape} {f : List Row} {V : List Word} → IsPair shape f → SendsInside shape f V V → IsPiece shape f V
sends_kept {shape} {f} {V} pair sends = record {
  pair = pair;
  kept = record {
    word = λ u d. d.word;
    extends = λ u z d. inside_extends d z;
    ahead = λ u v d m. (sends.same u v d.word m).0 d;
    behind = λ u v d hu m. (sends.same u v hu m).1 d;
  };
}

-- ---- the words that a pair sends a list to

pub record HasImage (shape : Shape) (h : List Row) (V : List Word) : Type 0 where
  pub words : List Word
  pub sends : SendsInside shape h V words

pub image : {shape : Shape} {h : List Row} → IsPair shape h → (V : List Word) → HasImage shape h V
image {shape} {h} pair V = record { words = to_words cut.rows; sends = record { same = λ u v hu m. (there u v m, here u v hu m) } }
  where
    map : IsPrefixMap shape (Moves h)
    map = moves_map shape h pair

    cut : HasRows shape V (Moves h)
    cut = sending_rows (moves_extends h) map.ahead.bound (λ u d. map.ahead.total u d.word)

    there : (u v : Word) → Moves h u v → IsInside shape V u → IsInside shape (to_words cut.rows) v
    there u v m d = record {
      word = map.ahead.word u v d.word m;
      letters = max (longest (from_words cut.rows)) (longest V);
      under = λ y hy l.
          let t = rows_total shape cut.rows V cut.from (u · y) (inside_extends d y hy) (omega (arith, length-after u y)) in
          let same : t.0 ≡ v · y = map.ahead.single (u · y) t.0 (v · y) (word_after shape u y d.word hy) (cut.by (u · y) t.0 t.1) (moves_extends h u v y m) in
          subst (λ w. IsUnderSome w (to_words cut.rows)) {x = t.0} {y = v · y} same (moved_under cut.rows (u · y) t.0 t.1);
    }

    here : (u v : Word) → IsWordOf shape u → Moves h u v → IsInside shape (to_words cut.rows) v → IsInside shape V u
    here u v hu m d = inside_far shape V u hu d.letters (λ y hy l.
        let s = d.under y hy l in
        let hv = word_after shape v y d.word hy in
        let r = contained_in_map (λ (t : Row). t.to) cut.rows s.above s.listed in
        let z = s.under.rest in
        let is : v · y ≡ r.0.to · z = s.under.is ∙ ap (λ t. t · z) (sym r.2) in
        let n : Moves cut.rows (r.0.from · z) (v · y) = record { row = r.0; rest = z; listed = r.1; from = refl; to = is } in
        let same : r.0.from · z ≡ u · y = map.behind.single (v · y) (r.0.from · z) (u · y) hv (cut.by (r.0.from · z) (v · y) n) (moves_extends h u v y m) in
        rows_inside shape cut.rows V cut.from (u · y) (v · y) (word_after shape u y hu hy) (subst (λ t. Moves cut.rows t (v · y)) same n))

-- ---- a conjugator cut to a piece

-- h moves u to v, and a word of the shape alone from inside V
pub record MovesInside (shape : Shape) (h : List Row) (V : List Word) (u v : Word) : Type 0 where
  pub moves : Moves h u v
  pub inside : IsWordOf shape u → IsInside shape V u

cut_map : {shape : Shape} {h : List Row} {V W : List Word} → IsPair shape h → SendsInside shape h V W → IsPartMap shape V W (MovesInside shape h V)
cut_map {shape} {h} pair sends =
    let m = moves_map shape h pair in
    record {
      extends = λ u v z t. record {
        moves = moves_extends h u v z t.moves;
        inside = λ huz. inside_extends (t.inside (word_front shape u z huz)) z (word_rest shape u z huz);
      };
      single = λ u v v' hu t t'. m.ahead.single u v v' hu t.moves t'.moves;
      single_back = λ u u' v hv t t'. m.behind.single v u u' hv t.moves t'.moves;
      inside = λ u v hu t. let d = t.inside hu in (d, (sends.same u v hu t.moves).0 d);
      word_back = λ u v hv t. m.behind.word v u hv t.moves;
      bound = m.ahead.bound + m.behind.bound;
      total = λ u d l. let v = m.ahead.total u d.word (omega arith) in (v.0, record { moves = v.1; inside = λ hu. d });
      onto = λ v d l. let u = m.behind.total v d.word (omega arith) in (u.0, record { moves = u.1; inside = λ hu. (sends.same u.0 v hu u.1).1 d });
    }

pub cut_conjugator : {shape : Shape} {f g h : List Row} {V W : List Word} → IsPiece shape f V → IsPair shape g → Conjugates shape h f g
    → SendsInside shape h V W
    → IsConjugator shape f g V W (MovesInside shape h V)
cut_conjugator piece pair_g c sends = record {
  first = piece.pair;
  second = pair_g;
  kept = piece.kept;
  map = cut_map c.pair sends;
  commutes = λ u u' v v' w hu s t t' r. c.commutes u u' v v' w hu s t.moves t'.moves r;
}

-- so some rows conjugate from a piece to that to which a conjugator sends it
pub cut_conjugates : {shape : Shape} {f g h : List Row} {V W : List Word} → IsPiece shape f V → IsPair shape g → Conjugates shape h f g
    → SendsInside shape h V W
    → (q : List Row) × ConjugatesOn shape q f V g W
cut_conjugates piece pair_g c sends = conjugator_rows (cut_conjugator piece pair_g c sends)
