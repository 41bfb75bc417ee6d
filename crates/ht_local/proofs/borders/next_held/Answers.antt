use Rattle.std.proofs.Common.{◌≡◌, ℕ, ◌+◌, ◌-◌, ◌≤◌, [], ◌∷◌, ◌++◌, length, subst, arith}
use Rattle.ht_local.specs.Borders.{HoldsFront}
use Rattle.ht_local.proofs.borders.next_held.Goals as goal

back : (k : ℕ) → 1 ≤ k → k - 1 + 1 ≡ k
back k l = omega arith

pub returns-clause-holds : goal.returns-clause-holds
returns-clause-holds c = λ z h.
    let by = c.args.by.now in
    subst (λ k. HoldsFront by (z ++ c.args.letter ∷ []) k c.advanced.result) (back (length by) c.requires.some)
    (c.advanced.ensures.holds z (length by - 1) (let some = c.requires.some in omega arith) (c.shortened.ensures.holds z h))

pub returns-clause-within : goal.returns-clause-within
returns-clause-within c = omega (arith, c.advanced.ensures.within, c.shortened.ensures.less)
