use Rattle.std.proofs.Common.{sym, ap, subst}
use Rattle.ht_word.specs.declared.word.Word.{Word}
use Rattle.ht_pair.specs.Tables.{IsTable}
use Rattle.ht_ops.proofs.ImageSteps.{image_table}
use Rattle.ht_ops.proofs.BehindLaws.{IsImageBehind, added_behind, given_root}
use Rattle.ht_ops.specs.ImageRows.{entries_of}
use Rattle.ht_ops.proofs.image.Image.behind.Goals as goal

-- the rows of the image are a table
table : (c : goal.After-as_slice) → IsTable c.args.shape c.as_slice.result.now
table c = subst (IsTable c.args.shape) (sym c.as_slice.ensures) (image_table c.args.shape c.self.inside.rows c.args.self.now c.self.invariant c.self.view_is c.requires.image)

-- and those that are made are the image behind the letters
is_behind : (c : goal.Joined-this-4) → IsImageBehind c.args.shape c.args.letters.now c.args.self.now (entries_of c.add_block.new.rows)
is_behind c =
    added_behind c.args.shape c.self.inside.rows c.as_slice.result.now c.args.letters.now c.new-from.result c.in_ok-to.to c.new-rows.result c.add_block.new.rows c.args.self.now c.new-from.ensures c.in_ok-to.ensures c.as_slice.ensures c.new-rows.ensures c.self.invariant
    c.self.view_is c.requires.image c.requires.letters c.in_ok-add_block.ensures

pub add_block-requires-clause-prefix_free : goal.add_block-requires-clause-prefix_free
add_block-requires-clause-prefix_free c = (table c).prefix_free

pub add_block-requires-clause-ascending : goal.add_block-requires-clause-ascending
add_block-requires-clause-ascending c = (table c).ascending

pub invariant_of-result : goal.invariant_of-result
invariant_of-result c =
    given_root c.as_slice.result.now (record { from = c.new-from.result; to = c.in_ok-to.to }) c.new-rows.result c.add_block.new.rows (ap (λ (w : Word). w.root) c.new-from.ensures) c.new-rows.ensures c.in_ok-add_block.ensures

pub returns-clause-list : goal.returns-clause-list
returns-clause-list c = (is_behind c).value

pub returns-clause-sends : goal.returns-clause-sends
returns-clause-sends c = λ z v letters. (is_behind c).sends z v
