use Rattle.ht_power.proofs.EndsTold.{behind_told, no_behind}
use Rattle.ht_power.proofs.rates.repeller_at.Goals as goal

pub returns-in-Repeller-clause-end : goal.returns-in-Repeller-clause-end
returns-in-Repeller-clause-end c =
    behind_told c.args.t.now c.keeps_kinds.ensures c.args.place c.kind.result.now c.kind.ensures.kind
    c.in-Repeller.m c.from.result c.len.result c.in-Repeller.by c.in-Repeller.is c.from.ensures c.len.ensures

pub returns-in_default : goal.returns-in_default
returns-in_default c = record {
  end = no_behind c.args.t.now c.keeps_kinds.ensures c.args.place c.kind.result.now c.kind.ensures.kind c.in_default.not-Repeller;
  short = tt;
}
