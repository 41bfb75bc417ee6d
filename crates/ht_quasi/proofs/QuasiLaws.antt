-- The quasinormal basis with its rows and classes.
use Rattle.std.proofs.Common.{◌≡◌, List, sym, subst}
use Rattle.ht_word.specs.declared.word.Word.{Word}
use Rattle.ht_word.specs.declared.shape.Shape.{Shape}
use Rattle.ht_pair.specs.declared.row.Row.{Row}
use Rattle.ht_pair.specs.Pairs.{IsPair}
use Rattle.ht_pair.specs.SemiNormal.{IsQuasinormal}
use Rattle.ht_quasi.specs.declared.quasi.Class.{Class}
use Rattle.ht_quasi.specs.Quasis.{IsYOf, AreClasses, IsQuasi}
use Rattle.ht_quasi.proofs.ClassLaws.{one_sided}

-- the rows and classes of a quasinormal basis, which was made for the same shape
pub quasi_of : (shape held : Shape) (p : List Row) (X : List Word) (y given : List Row) (classes : List Class) → held ≡ shape → given ≡ y → IsPair shape p → IsQuasinormal shape p X → IsYOf held p X y
    → ((q : List Row) → IsPair held q → IsYOf held q X given → AreClasses held q X classes) → IsQuasi shape p X y classes
quasi_of shape held p X y given classes shapes same pair least rows classified = record {
  least = least;
  rows = subst (λ (s : Shape). IsYOf s p X y) shapes rows;
  classified = subst (λ (s : Shape). AreClasses s p X classes) shapes
      (classified p (subst (λ (s : Shape). IsPair s p) (sym shapes) pair) (subst (IsYOf held p X) (sym same) rows));
  one_side = one_sided shape p X least.semi_normal;
}
