-- The rows between two lists of words of one length.
use Rattle.std.proofs.Common.{◌≡◌, List, [], ◌∷◌, length, refl, sym, ap, ◌∙◌, subst, arith}
use Rattle.std.proofs.lemmas.List.{length-map}
use Rattle.ht_word.specs.declared.shape.Shape.{Shape}
use Rattle.ht_word.specs.declared.word.Word.{Word}
use Rattle.ht_pair.specs.Bases.{longest, IsBasis}
use Rattle.ht_pair.specs.Pairs.{from_words, to_words}
use Rattle.ht_pair.specs.declared.row.Row.{Row}
use Rattle.ht_sample.specs.Groups.{rows_between}
use Rattle.ht_sample.specs.Samples.{IsSampleBasis, IsSmallPair}

pub between-from_words : (X Y : List Word) → length X ≡ length Y → from_words (rows_between X Y) ≡ X
between-from_words [] Y e = refl
between-from_words (x ∷ X) [] e = absurd (omega arith)
between-from_words (x ∷ X) (y ∷ Y) e = ap (λ (Z : List Word). x ∷ Z) (between-from_words X Y (omega arith))

pub between-to_words : (X Y : List Word) → length X ≡ length Y → to_words (rows_between X Y) ≡ Y
between-to_words [] [] e = refl
between-to_words [] (y ∷ Y) e = absurd (omega arith)
between-to_words (x ∷ X) [] e = absurd (omega arith)
between-to_words (x ∷ X) (y ∷ Y) e = ap (λ (Z : List Word). y ∷ Z) (between-to_words X Y (omega arith))

pub between_pair : (shape : Shape) (X Y : List Word) → IsSampleBasis shape X → IsSampleBasis shape Y → IsSmallPair shape (rows_between X Y)
between_pair shape X Y h g =
    let same : length X ≡ length Y = h.size ∙ sym g.size in
    let from = between-from_words X Y same in
    let to = between-to_words X Y same in
    record {
      pair = record { from = subst (IsBasis shape) (sym from) h.basis; to = subst (IsBasis shape) (sym to) g.basis };
      few = omega (arith, h.size, ap (λ (Z : List Word). length Z) from, length-map (rows_between X Y) (λ (row : Row). row.from));
      short = omega (arith, h.short, g.short, ap (λ (Z : List Word). longest Z) from, ap (λ (Z : List Word). longest Z) to);
    }
