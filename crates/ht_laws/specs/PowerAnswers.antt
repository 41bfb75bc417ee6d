-- What the power rule compares for an answer, and when two answers are one. This project's own.
--
--     AreCompared shape a b i j f g    f and g are the powers of a and b by i and j; or i and j are N times two numbers, f and g are
--                                      the powers of the infinite parts by these, and N is the least common multiple of the two
--                                      periodic orders
--     SameAnswer x y                   x and y are equal, or both are powers with the same exponents
use Rattle.std.specs.Prelude.{ℕ, ℤ, pos, ◌*◌, List}
use Rattle.ht_word.specs.declared.shape.Shape.{Shape}
use Rattle.ht_word.specs.declared.word.Word.{Word}
use Rattle.ht_pair.specs.declared.row.Row.{Row}
use Rattle.ht_pair.specs.PowerSizes.{Sign, signed}
use Rattle.ht_pair.specs.PowerTrials.{PowerAnswer, Powers}
use Rattle.ht_pair.specs.Products.{IsPower}
use Rattle.ht_pair.specs.SemiNormal.{IsQuasinormal}
use Rattle.ht_pair.specs.SignTrials.{BothParts, HasBothParts, IsCommonOrder}

pub data AreCompared (shape : Shape) (a b : List Row) : ℤ → ℤ → List Row → List Row → Type 0 where
  whole : {i j : ℤ} {f g : List Row} → IsPower shape a i f → IsPower shape b j g → AreCompared shape a b i j f g
  infinite : {X Y : List Word} {parts : BothParts} (sign : Sign) (k l N : ℕ) {f g : List Row} → IsQuasinormal shape a X → IsQuasinormal shape b Y → HasBothParts shape a b X Y parts → IsPower shape parts.a_infinite (pos k) f → IsPower shape parts.b_infinite (signed sign l) g → IsCommonOrder shape a b X Y N → AreCompared shape a b (pos (k * N)) (signed sign (l * N)) f g

pub data SameAnswer : PowerAnswer → PowerAnswer → Type 0 where
  equal : {x : PowerAnswer} → SameAnswer x x
  powers : {i j : ℤ} {h g : List Row} → SameAnswer (Powers i j h) (Powers i j g)
