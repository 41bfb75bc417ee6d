use Rattle.std.proofs.Common.{◌-◌, arith, true≢false, sym, ◌∙◌, subst}
use Rattle.ht_word.specs.Words.{IsUnder}
use Rattle.ht_pair.proofs.RowSearch.{none_before, none_at, place_at}
use Rattle.ht_pair.proofs.headed.place_above.Goals as goal

pub returns-then-until-eq0 : goal.returns-then-until-eq0
returns-then-until-eq0 g c = none_before (g.K.Heads.head c.args.by) c.args.items.now c.args.word.now c.count_until-until.result (omega arith) c.count_until-until.ensures.point

pub returns-then-not-is_prefix_of : goal.returns-then-not-is_prefix_of
returns-then-not-is_prefix_of g c =
    none_at (g.K.Heads.head c.args.by) c.args.items.now c.args.word.now c.count_until-until.result c.index-items-until.result c.requires.prefix_free c.requires.ascending (omega arith) c.count_until-until.ensures.bound
    c.count_until-until.ensures.point c.index-items-until.is
    (λ under. true≢false (sym (c.is_prefix_of.ensures.1 (subst (IsUnder c.args.word.now) (sym c.head.ensures) under)) ∙ c.if-not-is_prefix_of.true))

pub returns : goal.returns
returns g c =
    place_at (g.K.Heads.head c.args.by) c.args.items.now c.args.word.now (c.count_until-until.result - 1) c.index-items-until.result (omega (arith, c.count_until-until.ensures.bound)) c.index-items-until.is
    (subst (IsUnder c.args.word.now) c.head.ensures (c.is_prefix_of.ensures.0 c.if-not-is_prefix_of.false))
