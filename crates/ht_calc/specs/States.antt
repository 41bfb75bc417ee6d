-- What a session remembers from line to line.
--
--     State          the shape of the group, once it is set, the budget of expansions, and the names with their canonical pairs
--     start budget   no group is set, and nothing is bound
--     IsHeld shape budget names   the elements are of the shape, and the budget is from 1 to 65,536
use Rattle.std.specs.Prelude.{ℕ, ◌≤◌, List, [], Option, None}
use Rattle.ht_word.specs.declared.shape.Shape.{Shape}
use Rattle.ht_pair.specs.declared.row.Row.{Row}
use Rattle.ht_pair.specs.Elements.{ElementValue}
use Rattle.ht_calc.specs.Names.{AreOfShape}

pub record State : Type 0 where
  pub shape : Option Shape
  pub budget : ℕ
  pub names : List (List ℕ × List Row)

abbrev pub start : ℕ → State
start budget = record { shape = None; budget = budget; names = [] }

pub record IsHeld (shape : Option Shape) (budget : ℕ) (names : List (List ℕ × ElementValue)) : Type 0 where
  pub of_shape : AreOfShape shape names
  pub budget_low : 1 ≤ budget
  pub budget_high : budget ≤ 65536
