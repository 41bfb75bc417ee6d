-- Conjugating on a part that is all is conjugating.
use Rattle.std.proofs.Common.{List, max, arith, ◌↔◌}
use Rattle.ht_word.specs.Words.{◌·◌}
use Rattle.ht_word.specs.declared.shape.Shape.{Shape}
use Rattle.ht_word.specs.declared.word.Word.{Word}
use Rattle.ht_word.proofs.WordLaws.{after_cancel_right, ones}
use Rattle.ht_pair.specs.Bases.{longest, Covers, IsBasis}
use Rattle.ht_pair.specs.Conjugacy.{Conjugates}
use Rattle.ht_pair.specs.LocalConjugacy.{ConjugatesOn}
use Rattle.ht_pair.specs.Pairs.{from_words, to_words}
use Rattle.ht_pair.specs.declared.row.Row.{Row}
use Rattle.ht_pair.proofs.BasisLaws.{covers_long, basis_holds, covers_from, basis_from}
use Rattle.ht_pair.proofs.MovesLaws.{moves_extends}
use Rattle.ht_pair.proofs.PrefixMapLaws.{long_word, length-long}

-- what covers a basis is a basis
pub covering_basis : (shape : Shape) (W X : List Word) → IsBasis shape X → Covers shape W X → IsBasis shape W
covering_basis shape W X basis covers = basis_from shape W covers.words covers.prefix_free (max (longest W) (longest X)) (λ u h l. (covers_long shape W X covers u h l).1 (basis_holds shape X basis u h (omega (arith, l))))

-- each basis covers each other
pub bases_cover : (shape : Shape) (W X : List Word) → IsBasis shape W → IsBasis shape X → Covers shape W X
bases_cover shape W X first second = covers_from shape W X first.words first.prefix_free (max (longest W) (longest X)) (λ u h l. ((λ s. basis_holds shape X second u h (omega (arith, l))), (λ s. basis_holds shape W first u h (omega (arith, l)))))

-- conjugating on bases is conjugating
pub conjugates_whole : (shape : Shape) (X W : List Word) → IsBasis shape X → IsBasis shape W → (h a b : List Row) → ConjugatesOn shape h a X b W ↔ Conjugates shape h a b
conjugates_whole shape X W first second h a b = (
  (λ c. record {
    pair = record { from = covering_basis shape (from_words h) X first c.from; to = covering_basis shape (to_words h) W second c.to };
    commutes = λ u u' v v' w word f g e k.
        let z = ones (longest X) in
        let long = long_word shape u (longest X) word in
        let here = basis_holds shape X first (u · z) long (omega (arith, length-long u (longest X))) in
        after_cancel_right w v' z (c.commutes (u · z) (u' · z) (v · z) (v' · z) (w · z) long here (moves_extends a u u' z f) (moves_extends h u' v' z g) (moves_extends h u v z e) (moves_extends b v w z k));
  }),
  (λ c. record {
    from = bases_cover shape (from_words h) X c.pair.from first;
    to = bases_cover shape (to_words h) W c.pair.to second;
    commutes = λ u u' v v' w word s. c.commutes u u' v v' w word;
  }),
)
