use Rattle.std.proofs.lemmas.Result.{on_err_weaker}
use Rattle.std.proofs.Common.{ℕ, List, ◌++◌, length}
use Rattle.std.specs.Prelude.{codes, decimal}
use Rattle.ht_pair.specs.declared.row.Row.{Row}
use Rattle.ht_text.proofs.Writing.{appended, adds_behind, adds_within, at_refusal}
use Rattle.ht_answer.specs.Answers.{rows_line}
use Rattle.ht_answer.proofs.text.print_not_kept.Goals as goal

-- the first number of the answer and what stands before it
abbrev head : List Row → List ℕ
head rows = codes "conjugate not kept " ++ decimal (length rows)

-- a space and the second number
abbrev middle : ℕ → List ℕ
middle letters = codes " " ++ decimal letters

pub returns-in_err-write_number-clause-err : goal.returns-in_err-write_number-clause-err
returns-in_err-write_number-clause-err c =
    at_refusal c.from_residual.result
    (adds_within c.args.out.now.items c.write_number.new.out.items (head c.args.rows.now ++ middle c.args.letters) (rows_line (codes " ") c.args.rows.now)
    (adds_within c.args.out.now.items c.write_number.new.out.items (head c.args.rows.now) (middle c.args.letters) (rw c.len.ensures at c.in_err-write_number.ensures.err)))

pub returns-in_err-write_number-2-clause-err : goal.returns-in_err-write_number-2-clause-err
returns-in_err-write_number-2-clause-err c =
    at_refusal c.from_residual-in_err-write_number-2.result
    (adds_within c.args.out.now.items c.write_number-2.new.out.items (head c.args.rows.now ++ middle c.args.letters) (rows_line (codes " ") c.args.rows.now)
    (adds_behind c.args.out.now.items c.write_number.new.out.items c.write_number-2.new.out.items (head c.args.rows.now) (middle c.args.letters) (rw c.len.ensures at c.in_ok-write_number.ensures.ok) c.in_err-write_number-2.ensures.err))

pub returns-clause-err : goal.returns-clause-err
returns-clause-err c =
    let wrote = appended c.args.out.now.items c.write_number.new.out.items c.write_number-2.new.out.items (head c.args.rows.now) (middle c.args.letters) (rw c.len.ensures at c.in_ok-write_number.ensures.ok) c.in_ok-write_number-2.ensures.ok in
    on_err_weaker c.print_rows.result
    (λ h. adds_behind c.args.out.now.items c.write_number-2.new.out.items c.print_rows.new.out.items (head c.args.rows.now ++ middle c.args.letters) (rows_line (codes " ") c.args.rows.now) wrote h)
    c.print_rows.ensures.err
