use Rattle.std.proofs.Common.{◌++◌, List, sym, ap, ◌∙◌, rules}
use Rattle.std.proofs.lemmas.List.{map-id}
use Rattle.std.proofs.lemmas.Iterator.Adapters.{YieldsList-from_vec}
use Rattle.std.proofs.lemmas.Iterator.Consumers.{YieldsList-end}
use Rattle.ht_pair.specs.declared.row.Row.{Row}
use Rattle.ht_local.proofs.rows.add_rows.Goals as goal

pub returns : goal.returns
returns c =
    let end = YieldsList-end (YieldsList-from_vec c.into_vec-row-items.result.items (search rules) (search rules)) c.loop-row.yielded _ c.loop-row.yielded_by _ c.next.new.self c.in-None.is c.next.ensures.steps in
    c.loop-row.invariant ∙ ap (λ (rows : List Row). c.args.rows.now ++ rows) (sym (map-id c.loop-row.yielded) ∙ end.0 ∙ c.into_vec-row-items.ensures)
