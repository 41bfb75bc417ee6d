use Rattle.std.proofs.Common.{◌↔◌, map, drop}
use Rattle.ht_pair.specs.Tilings.{IsTiling, TilesBehind}
use Rattle.ht_pair.proofs.tiling.is_tiling.Given as goal

-- what is left to be seen is whether the rest of the words follow this one
abbrev pub invariant-loop-item : goal.invariant-loop-item
invariant-loop-item g l = IsTiling l.shape (map (g.K.Heads.head l.by) l.items) ↔ TilesBehind l.shape l.word (map (g.K.Heads.head l.by) (drop l.item-index l.rest))
