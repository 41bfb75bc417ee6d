-- What one move keeps, all powers keep.
use Rattle.std.proofs.Common.{ℕ, zero, suc, List, subst, ℤ, pos, negsuc}
use Rattle.ht_word.specs.Words.{◌·◌}
use Rattle.ht_word.specs.declared.shape.Shape.{Shape}
use Rattle.ht_word.specs.declared.word.Word.{Word}
use Rattle.ht_pair.specs.Pairs.{IsPair, turned}
use Rattle.ht_pair.specs.Steps.{StepsAhead, Steps, Carries}
use Rattle.ht_pair.specs.declared.row.Row.{Row}
use Rattle.ht_pair.proofs.CarriesLaws.{carries_word}
use Rattle.ht_pair.proofs.MovesLaws.{moves_back, moves_map}
use Rattle.ht_pair.proofs.StepsLaws.{steps_map}
use Rattle.ht_pieces.specs.Pieces.{IsInside, IsKept}
use Rattle.ht_pieces.proofs.InsideLaws.{inside_extends, inside_far}
use Rattle.ht_pieces.proofs.LongSteps.{steps_long}

kept_ahead : {shape : Shape} {f : List Row} {D : Word → Type 0} → IsKept shape f D → (k : ℕ) (u w : Word) → D u → StepsAhead f k u w → D w
kept_ahead {D = D} kept zero u w d s = subst D s d
kept_ahead kept (suc k) u w d s = kept.ahead s.0 w (kept_ahead kept k u s.0 d s.1) s.2

-- the turned rows keep what the rows keep
pub kept_turned : {shape : Shape} {f : List Row} {D : Word → Type 0} → IsPair shape f → IsKept shape f D → IsKept shape (turned f) D
kept_turned {shape} {f} pair kept = record {
  word = kept.word;
  extends = kept.extends;
  ahead = λ u v d m. let down = moves_back f v u m in kept.behind v u d ((moves_map shape f pair).behind.word u v (kept.word u d) down) down;
  behind = λ u v d h m. kept.ahead v u d (moves_back f v u m);
}

pub kept_steps : {shape : Shape} {f : List Row} {D : Word → Type 0} → IsPair shape f → IsKept shape f D → (k : ℤ) (u w : Word) → D u → Steps f k u w → D w
kept_steps pair kept (pos k) u w d s = kept_ahead kept k u w d s
kept_steps pair kept (negsuc k) u w d s = kept_ahead (kept_turned pair kept) (suc k) u w d s

-- what a power carries stays inside
pub kept_carries : {shape : Shape} {f : List Row} {V : List Word} → IsPair shape f → IsKept shape f (IsInside shape V) → (k : ℤ) (u v : Word) → IsInside shape V u
    → Carries shape f k u v → IsInside shape V v
kept_carries {shape} {f} {V} pair kept k u v d c = inside_far shape V v (carries_word shape f pair k u v c) (steps_map shape f pair k).ahead.bound
    (λ y hy l. kept_steps pair kept k (u · y) (v · y) (inside_extends d y hy) (steps_long shape f pair k u v c y hy l))
