use Rattle.ht_quasi.proofs.QuasiLaws.{quasi_of}
use Rattle.ht_quasi.proofs.quasi.quasinormal.Goals as goal

pub returns-clause-quasi : goal.returns-clause-quasi
returns-clause-quasi c = (
  c.in_ok-basis.ensures.least.0,
  quasi_of c.args.a.now.shape c.in_ok-basis.basis.shape c.args.a.now.rows c.in_ok-basis.basis.words c.in_ok-y.y c.as_slice.result.now c.in_ok-class.class c.in_ok-basis.ensures.least.0 c.as_slice.ensures
      c.keeps_limits.ensures.pair c.in_ok-basis.ensures.least.1 c.in_ok-y.ensures c.in_ok-class.ensures,
)
