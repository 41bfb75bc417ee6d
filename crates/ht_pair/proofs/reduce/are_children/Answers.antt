use Rattle.std.proofs.Common.{◌≡◌, ◌≢◌, ℕ, ◌<◌, ◌+◌, List, length, get_or, true≢false, sym, ap, ◌∙◌, add-one}
use Rattle.ht_word.specs.declared.word.Word.{Word}
use Rattle.ht_word.specs.Words.{◌·◌, root_word}
use Rattle.ht_pair.specs.declared.row.Row.{Row}
use Rattle.ht_pair.specs.Actions.{child_row}
use Rattle.ht_pair.specs.Merges.{child_rows}
use Rattle.ht_pair.proofs.Sequences.{each-get}
use Rattle.ht_pair.proofs.reduce.are_children.Goals as goal

-- one other row among them, and they are not the child rows
another_row : (u v : Word) (rows : List Row) (place : ℕ) (row : Row) → place < length rows → row ≡ get_or rows place row → row ≢ child_row u v (place + 1) → rows ≢ child_rows u v (length rows)
another_row u v rows place row l is other all =
    other (is ∙ ap (λ (t : List Row). get_or t place row) all ∙ each-get (child_row u v) (length rows) place row l ∙ ap (child_row u v) (sym (add-one place)))

pub returns-then-not-is_child_row : goal.returns-then-not-is_child_row
returns-then-not-is_child_row c = (
  (λ t. absurd (true≢false (sym t))),
  λ all. absurd (another_row (root_word c.args.row.now.from.root · c.args.from.now) (root_word c.args.row.now.to.root · c.args.to.now)
      c.args.siblings.now c.loop-place.place c.index-siblings-place.result c.loop-place-test.true c.index-siblings-place.is (λ e. true≢false (sym (c.if-not-is_child_row.ensures.1 e))) all),
)
