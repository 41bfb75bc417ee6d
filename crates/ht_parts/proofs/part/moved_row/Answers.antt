use Rattle.ht_parts.proofs.part.moved_row.Goals as goal

pub unreachable-requires : goal.unreachable-requires
unreachable-requires c = let none = rw c.in_default.is at c.in_ok-to.ensures in none c.requires.0 c.requires.1
