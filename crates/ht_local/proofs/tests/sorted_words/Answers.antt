use Rattle.std.proofs.Common.{◌≡◌, ◌∙◌, IsPermutation, List, is_lt, map, rules, subst, ap}
use Rattle.std.specs.Borrow.{Bor}
use Rattle.std.proofs.lemmas.Fn.{always_returns_same}
use Rattle.std.proofs.lemmas.List.{take_all}
use Rattle.std.proofs.lemmas.List.Sorted.{IsPermutation-map, ranks_by}
use Rattle.ht_word.specs.declared.word.Word.{Word}
use Rattle.ht_word.proofs.WordLaws.{word_cmp_total}
use Rattle.ht_pair.specs.Pairs.{to_words}
use Rattle.ht_pair.specs.SortedItems.{head_cmp}
use Rattle.ht_pair.specs.declared.row.Row.{Row}
use Rattle.ht_local.proofs.tests.sorted_words.Goals as goal

pub returns-clause-permutation : goal.returns-clause-permutation
returns-clause-permutation c =
    let rows = c.args.rows.now in
    let words = c.loop-row.words.items in
    let sorted = c.sort_by.new.self.items in
    let whole : map (λ (word : Bor Word). word.now) words ≡ to_words rows = c.loop-row.invariant ∙ ap (λ (xs : List Row). to_words xs) (take_all c.loop-row.row-index rows c.loop-row-test.false) in
    subst (λ (W : List Word). IsPermutation W (map (λ (word : Bor Word). word.now) sorted)) whole (IsPermutation-map (λ (word : Bor Word). word.now) words sorted c.in_ok-sort_by.ensures.permutation)

pub returns-clause-sorted : goal.returns-clause-sorted
returns-clause-sorted c =
    c.in_ok-sort_by.ensures.sorted (λ x y. is_lt (head_cmp (λ (word : Bor Word). word.now) x y)) (ranks_by word_cmp_total (λ (word : Bor Word). word.now)) (always_returns_same _ _ _ (λ a r q k. search rules))
