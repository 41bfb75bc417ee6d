-- Elements that act as powers of others on the infinite parts, and that turn a power of one element into a power of another there. This
-- project's own. X is a semi-normal basis of a, and Y one of b.
--
--     ActsAsPower shape a i X f          f acts on words under the infinite part of a as the i-th power of a does, and some power of f leads each cycle
--                                        word of X back to itself
--     OnInfinite shape h a i X b j Y     h sends long words under the infinite part of a to words under that of b, and those alone, and turns the i-th
--                                        power of a there into the j-th power of b
use Rattle.std.specs.Prelude.{ℕ, ◌≤◌, ◌*◌, ◌↔◌, pos, List, length, Contains}
use Rattle.ht_word.specs.Words.{IsWordOf}
use Rattle.ht_word.specs.declared.shape.Shape.{Shape}
use Rattle.ht_word.specs.declared.word.Word.{Word}
use Rattle.ht_pair.specs.Actions.{Moves}
use Rattle.ht_pair.specs.Kinds.{IsCycle}
use Rattle.ht_pair.specs.Pairs.{IsPair}
use Rattle.ht_pair.specs.Steps.{Carries}
use Rattle.ht_pair.specs.declared.row.Row.{Row}
use Rattle.ht_types.specs.Flows.{IsUnderInfinite}

pub record ActsAsPower (shape : Shape) (a : List Row) (i : ℕ) (X : List Word) (f : List Row) : Type 0 where
  pub pair : IsPair shape f
  pub same : (k : ℕ) (u v : Word) → IsUnderInfinite shape a X u → Carries shape f (pos k) u v ↔ Carries shape a (pos (k * i)) u v
  pub home : (x : Word) (m : ℕ) → Contains X x → IsCycle shape a x m → (k : ℕ) × (1 ≤ k) × Carries shape f (pos k) x x

pub record OnInfinite (shape : Shape) (h a : List Row) (i : ℕ) (X : List Word) (b : List Row) (j : ℕ) (Y : List Word) : Type 0 where
  pub pair : IsPair shape h
  pub bound : ℕ
  pub ahead : (u v : Word) → IsWordOf shape u → bound ≤ length u.letters → IsUnderInfinite shape a X u → Moves h u v → IsUnderInfinite shape b Y v
  pub behind : (u v : Word) → IsWordOf shape v → bound ≤ length v.letters → IsUnderInfinite shape b Y v → Moves h u v → IsUnderInfinite shape a X u
  pub commutes : (u u' v v' : Word) → IsUnderInfinite shape a X u → Carries shape a (pos i) u u' → Moves h u v → Moves h u' v' → Carries shape b (pos j) v v'
