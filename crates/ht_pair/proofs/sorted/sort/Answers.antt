use Rattle.std.proofs.Common.{rules, is_lt}
use Rattle.std.proofs.lemmas.Fn.{always_returns_same}
use Rattle.std.proofs.lemmas.List.MinMax.{ranks_by}
use Rattle.ht_word.proofs.WordLaws.{word_cmp_total}
use Rattle.ht_pair.specs.SortedItems.{head_cmp}
use Rattle.ht_pair.proofs.sorted.sort.Goals as goal

-- the heads are in a total order, and the closure compares by it
pub returns-clause-sorted : goal.returns-clause-sorted
returns-clause-sorted g c =
    rw c.from_vec.ensures (
    c.in_ok-sort_by.ensures.sorted (λ x y. is_lt (head_cmp (g.K.Heads.head c.args.by) x y)) (ranks_by word_cmp_total (g.K.Heads.head c.args.by)) (always_returns_same _ _ _ (λ a r q k. search rules)))
