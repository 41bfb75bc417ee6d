-- What is bound to names: elements or their canonical pairs, the name that was bound first at the
-- front.
--
--     rows_by_name entries      the names of entries, each with the rows of its element
--     IsOfShape shape element   the element is of the shape, and its rows are a pair; without a shape there is none
--     AreOfShape shape entries  the elements of the entries are so
--     bound names name          what the first entry of this name has
--     bind names name what      what a name is bound to, in the place of the name where it is bound, else behind all others
--     AreBound names asked      each of the names asked for is bound
--     IsFirstUnbound names asked name   of the names asked for this is the first that isn't bound
--     IsFirstOver shape budget names asked name   of the names asked for this is the first that is bound to an element over the
--                               budget, and those before it are bound to elements that fit
--     HasRoom names name        the name is bound, or fewer than 256 names are
--     HasRoomFor names new      there is room for each of the new names, one after another
use Rattle.std.specs.Prelude.{◌≡◌, ◌≢◌, ◌⊎◌, ◌<◌, ℕ, List, [], ◌∷◌, ◌++◌, length, map, All, Option, Some, None, if◌then◌else◌, nat_eq, ⊤}
use Rattle.std.specs.Cmp.Lexicographic.{pointwise}
use Rattle.std.specs.Map.{lookup}
use Rattle.ht_word.specs.declared.shape.Shape.{Shape}
use Rattle.ht_pair.specs.declared.row.Row.{Row}
use Rattle.ht_pair.specs.Pairs.{IsPair}
use Rattle.ht_pair.specs.Elements.{ElementValue}
use Rattle.ht_pair.specs.Budgets.{FitsBudget, IsOverBudget}

abbrev pub rows_by_name : List (List ℕ × ElementValue) → List (List ℕ × List Row)
rows_by_name entries = map (λ entry. (entry.0, entry.1.rows)) entries

pub record IsOfShape (shape : Option Shape) (element : ElementValue) : Type 0 where
  pub shape_is : Some (element.shape) ≡ shape
  pub pair : IsPair element.shape element.rows

abbrev pub AreOfShape : Option Shape → List (List ℕ × ElementValue) → Type 0
AreOfShape shape entries = All (λ entry. IsOfShape shape entry.1) entries

abbrev pub bound : {T : Type 0} → List (List ℕ × T) → List ℕ → Option T
bound names name = lookup (pointwise nat_eq name) names

abbrev pub bind : {T : Type 0} → List (List ℕ × T) → List ℕ → T → List (List ℕ × T)
bind [] name what = (name, what) ∷ []
bind (entry ∷ names) name what = if pointwise nat_eq name entry.0 then (entry.0, what) ∷ names else entry ∷ bind names name what

abbrev pub AreBound : {T : Type 0} → List (List ℕ × T) → List (List ℕ) → Type 0
AreBound names asked = All (λ name. bound names name ≢ None) asked

pub record IsFirstUnbound {T : Type 0} (names : List (List ℕ × T)) (asked : List (List ℕ)) (name : List ℕ) : Type 0 where
  pub before : List (List ℕ)
  pub behind : List (List ℕ)
  pub are : asked ≡ before ++ name ∷ behind
  pub bound_before : AreBound names before
  pub unbound : bound names name ≡ None

abbrev pub IsFirstOver : Shape → ℕ → List (List ℕ × List Row) → List (List ℕ) → List ℕ → Type 0
IsFirstOver shape budget names [] name = ⊥
IsFirstOver shape budget names (first ∷ asked) name = (p : List Row) × (bound names first ≡ Some p)
    × ((IsOverBudget shape budget p × (name ≡ first)) ⊎ (FitsBudget shape budget p × IsFirstOver shape budget names asked name))

abbrev pub HasRoom : {T : Type 0} → List (List ℕ × T) → List ℕ → Type 0
HasRoom names name = (bound names name ≢ None) ⊎ (length names < 256)

abbrev pub HasRoomFor : List (List ℕ × List Row) → List (List ℕ) → Type 0
HasRoomFor names [] = ⊤
HasRoomFor names (name ∷ new) = HasRoom names name × HasRoomFor (bind names name []) new
