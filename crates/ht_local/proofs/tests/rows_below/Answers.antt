use Rattle.std.proofs.Common.{◌≡◌, ◌↔◌, ◌-◌, List, length, take, drop, arith, rules, IsTrue}
use Rattle.std.proofs.lemmas.Fn.{always_returns_same}
use Rattle.std.proofs.lemmas.List.{length-drop, take_all}
use Rattle.ht_word.specs.Words.{IsUnder}
use Rattle.ht_pair.specs.declared.row.Row.{Row}
use Rattle.ht_local.proofs.BelowLaws.{below_told, is_below, parted_from, rows_from}
use Rattle.ht_local.proofs.tests.rows_below.Goals as goal

pub returns : goal.returns
returns c =
    let rows = c.args.rows.now in
    let w = c.args.word.now in
    let first = c.first_under-first.result in
    let f = c.first_under-first.ensures in
    let from : List Row = take (length rows - first) (drop first rows) in
    let is : from ≡ drop first rows = take_all (length rows - first) (drop first rows) (omega (arith, length-drop first rows)) in
    let test = always_returns_same _ _ _ (λ a r q k. let told : IsTrue r ↔ IsUnder a.0.now.from w = search rules in (below_told w a.0.now r told, search rules)) in
    let point = c.partition_point-count.ensures.partitioned (is_below w) test (parted_from rows w c.requires.free c.requires.ascending first f.bound f.point from is) in
    rows_from rows w c.requires.free c.requires.ascending first f.bound f.point from is c.partition_point-count.result c.partition_point-count.ensures.bound point
