use Rattle.ht_types.proofs.PointLaws.{point_ahead, point_behind}
use Rattle.ht_types.proofs.laws.points.Goals as goal

pub returns-clause-ahead : goal.returns-clause-ahead
returns-clause-ahead c =
    let typed = c.keeps_kinds.ensures in
    point_ahead (record { pair = typed.canonical.pair; semi = typed.quasinormal.least.semi_normal })

pub returns-clause-behind : goal.returns-clause-behind
returns-clause-behind c =
    let typed = c.keeps_kinds.ensures in
    point_behind (record { pair = typed.canonical.pair; semi = typed.quasinormal.least.semi_normal })
