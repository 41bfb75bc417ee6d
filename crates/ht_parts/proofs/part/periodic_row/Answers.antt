use Rattle.std.proofs.Common.{◌≡◌, Some, slice_get, subst}
use Rattle.std.proofs.lemmas.Result.{IfOk-weaker}
use Rattle.ht_pair.specs.Actions.{Moves}
use Rattle.ht_pair.specs.Elements.{ElementValue}
use Rattle.ht_pair.specs.Kinds.{IsCycleWord}
use Rattle.ht_parts.specs.PartRows.{IsOther, MovesWithin}
use Rattle.ht_parts.proofs.RowLaws.{untold, word_read, cycle_moves, moved_within, kept_within}
use Rattle.ht_parts.proofs.part.periodic_row.Goals as goal

pub moved_row-requires : goal.moved_row-requires
moved_row-requires c =
    let here = word_read c.args.place c.at-word.result.now c.words.result.now c.quasi.result.now c.args.t.now.quasi c.at-word.ensures c.words.ensures.words c.quasi.ensures.quasi in
    cycle_moves c.args.t.now.element c.element.result.now c.args.t.now.quasi c.args.t.now.kinds c.keeps_kinds.ensures c.element.ensures.element c.args.place c.at-word.result.now here ((c.is_cycle.ensures c.at-word.result.now here).0 c.if-is_cycle.true)

pub returns-then-is_cycle : goal.returns-then-is_cycle
returns-then-is_cycle c =
    let place = c.args.place in
    let x = c.at-word.result.now in
    let p = c.args.t.now.element.rows in
    let X = c.args.t.now.quasi.basis.words in
    let P = IsCycleWord c.args.t.now.element.shape p in
    let Q = IsOther c.args.t.now.element.shape p in
    let here = word_read place x c.words.result.now c.quasi.result.now c.args.t.now.quasi c.at-word.ensures c.words.ensures.words c.quasi.ensures.quasi in
    IfOk-weaker c.moved_row.result (λ row. (row.from ≡ x) × Moves c.element.result.now.rows x row.to) (λ row. (slice_get X place ≡ Some row.from) × MovesWithin p X P Q row.from row.to)
    (λ row h. moved_within p X P Q place x row here ((c.is_cycle.ensures x here).0 c.if-is_cycle.true) (h.0, subst (λ (e : ElementValue). Moves e.rows x row.to) c.element.ensures.element h.1)) c.moved_row.ensures

pub returns-else-is_cycle : goal.returns-else-is_cycle
returns-else-is_cycle c =
    let place = c.args.place in
    let x = c.at-word.result.now in
    let p = c.args.t.now.element.rows in
    let X = c.args.t.now.quasi.basis.words in
    let P = IsCycleWord c.args.t.now.element.shape p in
    let Q = IsOther c.args.t.now.element.shape p in
    let here = word_read place x c.words.result.now c.quasi.result.now c.args.t.now.quasi c.at-word.ensures c.words.ensures.words c.quasi.ensures.quasi in
    IfOk-weaker c.kept_row.result (λ row. (row.from ≡ x) × (row.to ≡ x)) (λ row. (slice_get X place ≡ Some row.from) × MovesWithin p X P Q row.from row.to)
    (λ row h. kept_within p X P Q place x row here (untold c.is_cycle.result (IsCycleWord c.args.t.now.element.shape p x) c.if-is_cycle.false (c.is_cycle.ensures x here)) h) c.kept_row.ensures
