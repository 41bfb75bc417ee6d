use Rattle.ht_power.proofs.EndsTold.{ahead_told, no_ahead}
use Rattle.ht_power.proofs.rates.attractor_at.Goals as goal

pub returns-in-Attractor-clause-end : goal.returns-in-Attractor-clause-end
returns-in-Attractor-clause-end c =
    ahead_told c.args.t.now c.keeps_kinds.ensures c.args.place c.kind.result.now c.kind.ensures.kind
    c.in-Attractor.m c.from.result c.len.result c.in-Attractor.by c.in-Attractor.is c.from.ensures c.len.ensures

pub returns-in_default : goal.returns-in_default
returns-in_default c = record {
  end = no_ahead c.args.t.now c.keeps_kinds.ensures c.args.place c.kind.result.now c.kind.ensures.kind c.in_default.not-Attractor;
  short = tt;
}
