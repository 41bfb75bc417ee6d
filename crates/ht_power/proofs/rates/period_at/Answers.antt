use Rattle.ht_power.proofs.EndsTold.{period_told, period_untold}
use Rattle.ht_power.proofs.rates.period_at.Goals as goal

pub returns-in_default-clause-period : goal.returns-in_default-clause-period
returns-in_default-clause-period c = period_untold c.args.t.now c.keeps_kinds.ensures c.args.place c.kind.result.now c.kind.ensures.kind c.in_default.not-Attractor c.in_default.not-Repeller

pub returns-in-Attractor-clause-period : goal.returns-in-Attractor-clause-period
returns-in-Attractor-clause-period c = period_told c.args.t.now c.keeps_kinds.ensures c.args.place c.kind.result.now c.kind.ensures.kind c.in-Attractor.m c.from.result c.in-Attractor.is c.from.ensures
