use Rattle.std.proofs.Common.{◌≡◌}
use Rattle.std.proofs.lemmas.Option.{slice_get_within}
use Rattle.std.proofs.lemmas.Result.{IfOk-weaker}
use Rattle.ht_pair.specs.Kinds.{IsCycleWord}
use Rattle.ht_parts.specs.PartRows.{IsOther, MovesWithin}
use Rattle.ht_parts.proofs.RowLaws.{untold, carried_row, carried_under, place_found, moved_below, kept_below}
use Rattle.ht_parts.proofs.part.infinite_row.Goals as goal

pub unreachable-requires : goal.unreachable-requires
unreachable-requires c = c.in_default.ensures (carried_under c.args.t.now.element c.quasi.result.now c.args.t.now.quasi c.args.t.now.kinds c.keeps_kinds.ensures c.quasi.ensures.quasi c.args.row.now c.requires)

pub is_cycle-requires : goal.is_cycle-requires
is_cycle-requires c =
    let above = place_found c.in-Some.above c.args.row.now.from c.quasi.result.now c.args.t.now.quasi c.in-Some.ensures c.quasi.ensures.quasi in
    slice_get_within c.args.t.now.quasi.basis.words c.in-Some.above above.word above.here

pub returns-then-is_cycle : goal.returns-then-is_cycle
returns-then-is_cycle c =
    let u = c.args.row.now.from in
    let p = c.args.t.now.element.rows in
    let X = c.args.t.now.quasi.basis.words in
    let P = IsOther c.args.t.now.element.shape p in
    let Q = IsCycleWord c.args.t.now.element.shape p in
    let above = place_found c.in-Some.above u c.quasi.result.now c.args.t.now.quasi c.in-Some.ensures c.quasi.ensures.quasi in
    IfOk-weaker c.kept_row.result (λ row. (row.from ≡ u) × (row.to ≡ u)) (λ row. (row.from ≡ u) × MovesWithin p X P Q row.from row.to)
    (λ row h. kept_below p X P Q c.in-Some.above u row above ((c.is_cycle.ensures above.word above.here).0 c.if-is_cycle.true) h) c.kept_row.ensures

pub returns-else-is_cycle : goal.returns-else-is_cycle
returns-else-is_cycle c =
    let old = c.args.row.now in
    let p = c.args.t.now.element.rows in
    let X = c.args.t.now.quasi.basis.words in
    let P = IsOther c.args.t.now.element.shape p in
    let Q = IsCycleWord c.args.t.now.element.shape p in
    let above = place_found c.in-Some.above old.from c.quasi.result.now c.args.t.now.quasi c.in-Some.ensures c.quasi.ensures.quasi in
    let other = untold c.is_cycle.result (Q above.word) c.if-is_cycle.false (c.is_cycle.ensures above.word above.here) in
    let moves = carried_row c.args.t.now.element c.args.t.now.quasi c.args.t.now.kinds c.keeps_kinds.ensures old c.requires in
    IfOk-weaker c.copy.result (λ row. row ≡ old) (λ row. (row.from ≡ old.from) × MovesWithin p X P Q row.from row.to) (λ row same. moved_below p X P Q c.in-Some.above old row above other moves same) c.copy.ensures
