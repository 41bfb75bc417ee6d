use Rattle.ht_quasi.proofs.StepLaws.{moved_carries, carried_moves}
use Rattle.ht_cycles.proofs.representatives.carried.Goals as goal

pub unreachable-requires : goal.unreachable-requires
unreachable-requires c =
    let none = rw c.in_default.is at c.in_ok-moved.ensures in
    none c.requires.0 (carried_moves c.args.a.now.shape c.args.a.now.rows c.keeps_limits.ensures.canonical c.args.word.now c.requires.0 c.requires.1)

pub returns : goal.returns
returns c = moved_carries c.args.a.now.shape c.args.a.now.rows c.keeps_limits.ensures.canonical c.args.word.now c.in-Some.moved c.requires.1.word (rw c.in-Some.is at c.in_ok-moved.ensures)
