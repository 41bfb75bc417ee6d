use Rattle.ht_calc.specs.Summaries.{sample_named}
use Rattle.ht_calc.proofs.summary.line_at.Goals as goal

pub returns-in-1-clause-line : goal.returns-in-1-clause-line
returns-in-1-clause-line c = rw c.in-1.is sample_named
