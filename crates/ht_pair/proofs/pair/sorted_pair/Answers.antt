use Rattle.std.proofs.Common.{subst}
use Rattle.ht_pair.specs.Sides.{word_on}
use Rattle.ht_pair.specs.SortedItems.{AreSorted}
use Rattle.ht_pair.specs.declared.side.Side.TheVariants.{From, To}
use Rattle.ht_pair.proofs.Sorting.{rows_permuted, rows_words, from_fault, to_fault, both_sorted}
use Rattle.ht_pair.proofs.pair.sorted_pair.Goals as goal

pub sort_and_test-requires : goal.sort_and_test-requires
sort_and_test-requires c = rows_words c.args.shape To c.args.rows (rw c.as_slice.ensures at c.in_default.ensures)

pub sort_and_test-requires-2 : goal.sort_and_test-requires-2
sort_and_test-requires-2 c =
    rows_words c.args.shape From c.in_ok-by_to.by_to (rows_permuted c.args.shape c.args.rows c.in_ok-by_to.by_to c.in_ok-by_to.ensures.permuted (rw c.as_slice.ensures at c.in_default.ensures))

pub returns-then-not-from_is_basis : goal.returns-then-not-from_is_basis
returns-then-not-from_is_basis c =
    from_fault c.args.shape c.args.rows c.in_ok-by_to.by_to c.in_ok-by_from.by_from (rw c.as_slice.ensures at c.in_default.ensures) c.in_ok-by_to.ensures.permuted
    (subst (λ b. AreSorted c.args.shape (word_on From) c.in_ok-by_to.by_to c.in_ok-by_from.by_from b) c.if-not-from_is_basis.true c.in_ok-by_from.ensures)

pub returns-then-not-to_is_basis : goal.returns-then-not-to_is_basis
returns-then-not-to_is_basis c =
    to_fault c.args.shape c.args.rows c.in_ok-by_to.by_to c.in_ok-by_from.by_from (rw c.as_slice.ensures at c.in_default.ensures)
    (subst (λ b. AreSorted c.args.shape (word_on To) c.args.rows c.in_ok-by_to.by_to b) c.if-not-to_is_basis.true c.in_ok-by_to.ensures)
    (subst (λ b. AreSorted c.args.shape (word_on From) c.in_ok-by_to.by_to c.in_ok-by_from.by_from b) c.if-not-from_is_basis.false c.in_ok-by_from.ensures)

pub returns : goal.returns
returns c =
    both_sorted c.args.shape c.args.rows c.in_ok-by_to.by_to c.in_ok-by_from.by_from
    (subst (λ b. AreSorted c.args.shape (word_on To) c.args.rows c.in_ok-by_to.by_to b) c.if-not-to_is_basis.false c.in_ok-by_to.ensures)
    (subst (λ b. AreSorted c.args.shape (word_on From) c.in_ok-by_to.by_to c.in_ok-by_from.by_from b) c.if-not-from_is_basis.false c.in_ok-by_from.ensures)
