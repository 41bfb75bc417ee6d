-- The ends of walks, as conjugate elements have them in common: attractors, where walks ahead end, and repellers, where walks behind end. This
-- project's own.
--
--     End                     an end: the direction of the walks that end there, its period, and how many letters a period brings
--     end_of kind             the end that a word of the kind is, where it is one
--     ends_at kinds places    the ends at the places, in their order
--     end_cmp a b             ends ahead before ends behind, then by period, then by number of letters
use Rattle.std.specs.Prelude.{ℕ, List, [], ◌∷◌, length, Option, None, Some, flat_map, slice_get}
use Rattle.std.specs.Ordering.{nat_cmp, ordering_then}
use Rattle.std.specs.declared.cmp.Ordering.{Ordering}
use Rattle.ht_types.specs.declared.direction.Direction.{Direction}
use Rattle.ht_types.specs.declared.direction.Direction.TheVariants.{Ahead, Behind}
use Rattle.ht_types.specs.declared.kind.Kind.{Kind}
use Rattle.ht_types.specs.declared.kind.Kind.TheVariants.{Cycle, Attractor, Repeller, Passing}

pub record End : Type 0 where
  pub direction : Direction
  pub period : ℕ
  pub letters : ℕ

abbrev pub end_of : Kind → List End
end_of (Cycle m) = []
end_of (Attractor m by) = record { direction = Ahead; period = m; letters = length by } ∷ []
end_of (Repeller m by) = record { direction = Behind; period = m; letters = length by } ∷ []
end_of (Passing ahead behind) = []

-- the end of the kind, where there is one
abbrev pub end_in : Option Kind → List End
end_in None = []
end_in (Some kind) = end_of kind

abbrev pub ends_at : List Kind → List ℕ → List End
ends_at kinds places = flat_map (λ place. end_in (slice_get kinds place)) places

abbrev pub way_number : Direction → ℕ
way_number Ahead = 0
way_number Behind = 1

abbrev pub end_cmp : End → End → Ordering
end_cmp a b =
    ordering_then (nat_cmp (way_number a.direction) (way_number b.direction)) (ordering_then (nat_cmp a.period b.period) (nat_cmp a.letters b.letters))
