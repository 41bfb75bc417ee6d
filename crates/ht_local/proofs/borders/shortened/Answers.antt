use Rattle.std.proofs.Common.{ℕ, ◌-◌, List, length, get_or, sym, subst, arith}
use Rattle.ht_local.specs.Borders.{HoldsFront}
use Rattle.ht_local.proofs.BorderLaws.{all_shortened, border_at}
use Rattle.ht_local.proofs.borders.shortened.Goals as goal

pub returns-then-held-by-clause-holds : goal.returns-then-held-by-clause-holds
returns-then-held-by-clause-holds c =
    let by = c.args.by.now in
    let table = c.args.table.now in
    let n = length by in
    subst (λ i. (z : List ℕ) → HoldsFront by z n i → HoldsFront by z (n - 1) (get_or table (i - 1) 0)) (sym c.if-held-by.true)
    (λ z h. all_shortened by z (get_or table (n - 1) 0) c.requires.some h (border_at by table n n c.requires.some (omega arith) c.requires.table))
