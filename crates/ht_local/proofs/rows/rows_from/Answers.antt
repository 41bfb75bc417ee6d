use Rattle.std.proofs.Common.{◌∙◌, ap, arith, length, List, Option, sym}
use Rattle.ht_word.specs.declared.word.Word.{Word}
use Rattle.ht_quasi.specs.declared.quasi.Quasi.{Quasi}
use Rattle.ht_local.specs.PlacedLists.{rows_of_list}
use Rattle.ht_local.proofs.CandidateLaws.{word_read}
use Rattle.ht_local.proofs.PlaceLaws.{place_within}
use Rattle.ht_local.proofs.RowsBuilt.{more_rows}
use Rattle.ht_local.proofs.rows.rows_from.Goals as goal

pub at-requires-in-loop-index-2 : goal.at-requires-in-loop-index-2
at-requires-in-loop-index-2 c =
    let within = place_within c.args.f.now c.args.k.now c.requires.atom c.loop-index.index c.at-in-loop-index.result.now c.at-in-loop-index.ensures in
    omega (arith, ap (λ (W : List Word). length W) c.words-words.ensures.words, ap (λ (q : Quasi). length q.basis.words) c.quasi.ensures.quasi)

pub loop-index-preserved : goal.loop-index-preserved
loop-index-preserved c =
    let f = c.args.f.now in
    let list = c.at.result.now in
    let place = c.at-in-loop-index.result.now in
    let here = word_read f place c.at-in-loop-index-2.result.now c.quasi.result.now c.words-words.result.now c.words-words.ensures.words c.quasi.ensures.quasi c.at-in-loop-index-2.ensures in
    more_rows f.quasi.basis.words c.args.k.now c.args.lists.now c.loop-index.index place list c.loop-index.rows c.add_rows.new.rows c.in_ok-more.more c.at-in-loop-index.ensures c.at.ensures c.loop-index.invariant
    (c.in_ok-more.ensures ∙ ap (λ (x : Option Word). rows_of_list x list) (sym here)) c.in_ok-add_rows.ensures
