use Rattle.ht_power.specs.Told.{sign_of}
use Rattle.ht_power.proofs.RatioLaws.{first_narrow, first_behind_narrow, over_narrow, over_behind_narrow, ratio_told, no_ratio_told}
use Rattle.ht_power.proofs.signs.ratio_in.Goals as goal
use Rattle.ht_power.proofs.signs.ratio_in.Goals.{else-p-other_p-via-then-p-other_p+else-q-other_q, else-p-other_p-via-else-p-other_p}

pub ratio-p-requires-clause-first : goal.ratio-p-requires-clause-first
ratio-p-requires-clause-first c = over_narrow c.requires (sign_of c.args.sign) c.over-ahead.result.0 c.over-ahead.ensures.ahead

pub ratio-p-requires-clause-second : goal.ratio-p-requires-clause-second
ratio-p-requires-clause-second c = (c.requires.ahead, first_narrow c.requires)

pub ratio-other_p-requires-clause-first : goal.ratio-other_p-requires-clause-first
ratio-other_p-requires-clause-first c = over_behind_narrow c.requires (sign_of c.args.sign) c.over-ahead.result.1 c.over-ahead.ensures.behind

pub ratio-other_p-requires-clause-second : goal.ratio-other_p-requires-clause-second
ratio-other_p-requires-clause-second c = (c.requires.behind, first_behind_narrow c.requires)

pub returns-then-q-other_q : goal.returns-then-q-other_q
returns-then-q-other_q c = ratio_told c.requires (sign_of c.args.sign) c.over-ahead.ensures.ahead c.over-ahead.ensures.behind c.ratio-p.ensures.lowest c.ratio-other_p.ensures.lowest c.if-p-other_p.true c.if-q-other_q.true

pub returns-else-p-other_p : goal.returns-else-p-other_p
returns-else-p-other_p c = no_ratio_told c.requires (sign_of c.args.sign) c.over-ahead.ensures.ahead c.over-ahead.ensures.behind c.ratio-p.ensures.lowest c.ratio-other_p.ensures.lowest (λ same. elim c.else-p-other_p.branch [
  | else-p-other_p-via-then-p-other_p+else-q-other_q w ↦ w.if-q-other_q.false same.1
  | else-p-other_p-via-else-p-other_p w ↦ w.if-p-other_p.false same.0
])
