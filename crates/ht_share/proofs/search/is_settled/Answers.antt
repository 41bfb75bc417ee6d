use Rattle.std.proofs.Common.{◌↔◌, true≢false, refl, sym, ◌∙◌, subst, arith}
use Rattle.ht_share.specs.PondWalks.{IsSettled}
use Rattle.ht_share.proofs.SearchLaws.{IsAheadKind, settled_by, passing_ahead}
use Rattle.ht_share.proofs.search.is_settled.Goals as goal
use Rattle.ht_share.proofs.search.is_settled.Goals.{After-kind}

by : (c : After-kind) → IsAheadKind c.kind.result.now ↔ IsSettled c.args.t.now.element.shape c.args.t.now.element.rows c.args.t.now.quasi.basis.words c.args.count c.args.walk.now
by c = settled_by c.args.t.now c.keeps_kinds.ensures c.args.count c.args.walk.now c.kind.result.now c.requires c.kind.ensures.kind (omega (arith, c.len.ensures, c.if-len-count.false))

pub returns-then-len-count : goal.returns-then-len-count
returns-then-len-count c = ((λ no. absurd (true≢false (sym no))), (λ s. absurd (omega (arith, s.long, c.len.ensures, c.if-len-count.true))))

pub returns-in-Cycle : goal.returns-in-Cycle
returns-in-Cycle c =
    let at = (goal.at.returns-in-Cycle c).After-kind in
    ((λ yes. (by at).0 (subst IsAheadKind (sym c.in-Cycle.is) tt)), (λ s. refl))

pub returns-in-Attractor : goal.returns-in-Attractor
returns-in-Attractor c =
    let at = (goal.at.returns-in-Attractor c).After-kind in
    ((λ yes. (by at).0 (subst IsAheadKind (sym c.in-Attractor.is) tt)), (λ s. refl))

pub returns-in-Repeller : goal.returns-in-Repeller
returns-in-Repeller c =
    let at = (goal.at.returns-in-Repeller c).After-kind in
    ((λ no. absurd (true≢false (sym no))), (λ s. absurd (subst IsAheadKind c.in-Repeller.is ((by at).1 s))))

pub returns-in-Passing : goal.returns-in-Passing
returns-in-Passing c =
    let at = (goal.at.returns-in-Passing c).After-kind in
    let told = passing_ahead c.in-Passing.ahead c.in-Passing.behind in
    ((λ yes. (by at).0 (subst IsAheadKind (sym c.in-Passing.is) (told.0 (sym c.is_some.ensures ∙ yes)))), (λ s. c.is_some.ensures ∙ told.1 (subst IsAheadKind c.in-Passing.is ((by at).1 s))))
