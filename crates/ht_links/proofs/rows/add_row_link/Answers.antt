use Rattle.std.proofs.Common.{sym, ◌∙◌, true≢false}
use Rattle.std.proofs.lemmas.Result.{on_ok_weaker}
use Rattle.ht_types.proofs.JoinedLaws.{row_from_under}
use Rattle.ht_links.proofs.ListingLaws.{row_skipped, row_linked}
use Rattle.ht_links.proofs.rows.add_row_link.Goals as goal

pub is_infinite-requires : goal.is_infinite-requires
is_infinite-requires c =
    let t = c.args.t.now in
    row_from_under t.element.shape t.element.rows t.quasi.basis.words t.quasi.y c.keeps_kinds.ensures.quasinormal.rows c.args.row.now c.requires

pub returns-then-not-is_infinite : goal.returns-then-not-is_infinite
returns-then-not-is_infinite c = row_skipped c.args.t.now c.args.row.now c.args.links.now (λ infinite. true≢false (sym (c.is_infinite.ensures.1 infinite) ∙ c.if-not-is_infinite.true))

pub returns : goal.returns
returns c = on_ok_weaker c.push.result (λ is. row_linked c.args.t.now c.args.row.now c.in_ok-link_under.field-0 c.args.links.now c.push.new.self c.in_ok-link_under.ensures is) c.push.ensures.ok
