use Rattle.std.proofs.lemmas.Result.{on_err_weaker}
use Rattle.std.proofs.lemmas.Int.{to_z-of_z}
use Rattle.std.proofs.Common.{ℤ, ℕ, List, ◌++◌}
use Rattle.std.specs.Prelude.{codes}
use Rattle.std.specs.Int.{w128}
use Rattle.std.specs.Fmt.{signed_decimal}
use Rattle.ht_text.proofs.Writing.{adds_behind, adds_within, at_refusal}
use Rattle.ht_answer.specs.Answers.{rows_line}
use Rattle.ht_answer.proofs.text.print_powers.Goals as goal

-- what stands before the rows
abbrev head : ℤ → ℤ → List ℕ
head i j = codes "power " ++ signed_decimal i ++ codes " " ++ signed_decimal j

pub returns-in_err-write_exponents-clause-err : goal.returns-in_err-write_exponents-clause-err
returns-in_err-write_exponents-clause-err c =
    let front = rw (to_z-of_z w128 c.args.i c.ranges.i, to_z-of_z w128 c.args.j c.ranges.j) at c.in_err-write_exponents.ensures.err in
    at_refusal c.from_residual.result
    (adds_within c.args.out.now.items c.write_exponents.new.out.items (head c.args.i c.args.j) (rows_line (codes " ") c.args.by.now) front)

pub returns-clause-err : goal.returns-clause-err
returns-clause-err c =
    let wrote = rw (to_z-of_z w128 c.args.i c.ranges.i, to_z-of_z w128 c.args.j c.ranges.j) at c.in_ok-write_exponents.ensures.ok in
    on_err_weaker c.print_rows.result
    (λ h. adds_behind c.args.out.now.items c.write_exponents.new.out.items c.print_rows.new.out.items (head c.args.i c.args.j) (rows_line (codes " ") c.args.by.now) wrote h)
    c.print_rows.ensures.err
