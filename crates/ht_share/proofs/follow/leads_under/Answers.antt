use Rattle.std.proofs.Common.{◌≡◌, refl, arith}
use Rattle.ht_share.proofs.FollowLaws.{comes_under}
use Rattle.ht_share.proofs.follow.leads_under.Goals as goal

pub returns : goal.returns
returns c =
    let t = c.args.t.now in
    let on = c.walking.invariant in
    let all : c.walking.walk.steps ≡ c.args.steps = omega (arith, on.0, c.walking-test.false) in
    ((λ yes. comes_under t.element.shape t.element.rows t.quasi.basis.words c.args.u.now c.args.steps c.walking.walk on.1 all), (λ carries. refl))
