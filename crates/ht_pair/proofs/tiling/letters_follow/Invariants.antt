use Rattle.std.proofs.Common.{◌↔◌, drop}
use Rattle.ht_pair.specs.Tilings.{NextPath}
use Rattle.ht_pair.proofs.tiling.letters_follow.Given as goal

-- up to here the letters agree, so the rests decide
abbrev pub invariant-loop-place : goal.invariant-loop-place
invariant-loop-place l = NextPath l.n l.letters l.next ↔ NextPath l.n (drop l.place l.letters) (drop l.place l.next)
