-- The ends of an atom in one order, so that equal ends are equal lists: t is an element with its quasinormal basis.
--
--     AreEndsAt t places ends   the ends at the places, in order
use Rattle.std.specs.Prelude.{ℕ, List, IsPermutation, IsSorted}
use Rattle.ht_types.specs.TypedElements.{TypedValue}
use Rattle.ht_counterparts.specs.Ends.{End, end_cmp, ends_at}

pub record AreEndsAt (t : TypedValue) (places : List ℕ) (ends : List End) : Type 0 where
  pub all : IsPermutation (ends_at t.kinds places) ends
  pub sorted : IsSorted end_cmp ends
