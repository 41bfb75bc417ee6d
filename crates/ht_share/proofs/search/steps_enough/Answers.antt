use Rattle.std.proofs.Common.{arith, ap, ◌+◌, ◌*◌, ℕ}
use Rattle.ht_share.proofs.SearchLaws.{exit_attracts, enough_given}
use Rattle.ht_share.proofs.search.steps_enough.Goals as goal

pub unreachable-requires : goal.unreachable-requires
unreachable-requires c = exit_attracts c.args.t.now c.keeps_kinds.ensures c.args.word.now c.args.exit.now c.requires c.kind.result.now c.kind.ensures.kind c.in_default.not-Attractor

pub returns : goal.returns
returns c =
    enough_given c.args.t.now c.keeps_kinds.ensures c.args.word.now c.args.exit.now c.requires (omega (arith, c.len.ensures)) c.in-Attractor.m c.in-Attractor.by (rw c.in-Attractor.is at c.kind.ensures.kind)
    (c.args.exit.now.steps + c.in-Attractor.m * c.len.result) (ap (λ (l : ℕ). c.args.exit.now.steps + c.in-Attractor.m * l) c.len.ensures)

pub overflow_add-result : goal.overflow_add-result
overflow_add-result c =
    let e = returns c in
    omega (arith, e.few)
