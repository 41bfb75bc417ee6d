use Rattle.std.proofs.Common.{get_or, ap, ◌∙◌, subst, arith}
use Rattle.ht_local.proofs.BorderLaws.{ShortensTo, border_at, goes_nowhere, goes_on, shortens_first, shortens_next}
use Rattle.ht_local.proofs.borders.advanced.Goals as goal

pub shortening-init : goal.shortening-init
shortening-init c = (omega arith, λ z most l h. shortens_first c.args.by.now z c.args.letter most c.args.before h)

pub returns-then-held-eq0-clause-holds : goal.returns-then-held-eq0-clause-holds
returns-then-held-eq0-clause-holds c = λ z most l h.
    let by = c.args.by.now in
    let none = subst (ShortensTo by z c.args.letter most) c.if-held-eq0.true (c.shortening.invariant.1 z most l h) in
    goes_nowhere by z c.args.letter most l none (λ e. c.shortening-test.true (ap (λ i. get_or by i 0) c.if-held-eq0.true ∙ e))

pub shortening-preserved : goal.shortening-preserved
shortening-preserved c =
    let by = c.args.by.now in
    let table = c.args.table.now in
    let some = c.if-held-eq0.false in
    let border = border_at by table c.args.before c.shortening.held (omega arith) c.shortening.invariant.0 c.requires.table in
    (omega (arith, border.within, c.shortening.invariant.0), λ z most l h. shortens_next by z c.args.letter most c.shortening.held _ l (c.shortening.invariant.1 z most l h) c.shortening-test.true border (omega arith))

pub returns-clause-holds : goal.returns-clause-holds
returns-clause-holds c = λ z most l h. goes_on c.args.by.now z c.args.letter most c.shortening.held l (c.shortening.invariant.1 z most l h) c.shortening-test.false
