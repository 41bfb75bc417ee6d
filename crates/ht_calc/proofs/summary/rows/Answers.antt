use Rattle.ht_calc.specs.Summaries.{rows_counted}
use Rattle.ht_calc.proofs.summary.rows.Goals as goal

pub returns-clause-line : goal.returns-clause-line
returns-clause-line c = λ number budget. rw (c.row_count.ensures, c.row_count-2.ensures, c.row_count-3.ensures) rows_counted
