use Rattle.std.proofs.Common.{sym, subst, arith}
use Rattle.std.proofs.lemmas.Option.{slice_get_within}
use Rattle.std.proofs.lemmas.Result.{IfOk-weaker}
use Rattle.ht_flow.specs.Flowing.{IsFlowed}
use Rattle.ht_types.specs.declared.direction.Direction.TheVariants.{Ahead}
use Rattle.ht_types.proofs.SeenLaws.{open_kind}
use Rattle.ht_types.proofs.TypedLaws.{typed_base}
use Rattle.ht_flow.proofs.AddressMade.{no_end}
use Rattle.ht_flow.proofs.FlowingLaws.{walk_few, walk_stuck}
use Rattle.ht_flow.proofs.address.flow.Goals as goal

pub address_of-requires-clause-attractor : goal.address_of-requires-clause-attractor
address_of-requires-clause-attractor c =
    let whole = c.in_ok-way.ensures in
    record { above = whole.above; here = whole.walked.here; attractor = rw c.in-Attractor.is at (c.keeps_kinds.ensures.kinds_are.each c.in_ok-way.way.to whole.above c.kind.result.now whole.walked.here c.kind.ensures.kind) }

pub address_of-requires-clause-few : goal.address_of-requires-clause-few
address_of-requires-clause-few c =
    let whole = c.in_ok-way.ensures in
    walk_few c.args.t.now c.keeps_kinds.ensures c.args.word.now whole.above c.in_ok-way.way (let few = c.len.type_inv in let is = c.len.ensures in omega arith) c.requires.infinite whole.walked

pub returns-in-Attractor : goal.returns-in-Attractor
returns-in-Attractor c =
    let whole = c.in_ok-way.ensures in
    IfOk-weaker c.address_of.result _ _ (λ flowed h. h c.args.word.now whole.above whole.walked) c.address_of.ensures

pub stuck_at-requires : goal.stuck_at-requires
stuck_at-requires c =
    let whole = c.in_ok-way.ensures in
    record {
      place = slice_get_within c.args.t.now.quasi.basis.words c.in_ok-way.way.to whole.above whole.walked.here;
      few = walk_few c.args.t.now c.keeps_kinds.ensures c.args.word.now whole.above c.in_ok-way.way (let few = c.len.type_inv in let is = c.len.ensures in omega arith) c.requires.infinite whole.walked;
    }

pub returns : goal.returns
returns c =
    let t = c.args.t.now in
    let X = t.quasi.basis.words in
    let whole = c.in_ok-way.ensures in
    let way = c.in_ok-way.way in
    let base = typed_base t c.keeps_kinds.ensures in
    let open_end = open_kind Ahead t.element.shape t.element.rows base.pair X whole.above c.kind.result.now (c.keeps_kinds.ensures.kinds_are.each way.to whole.above c.kind.result.now whole.walked.here c.kind.ensures.kind) (no_end c.kind.result.now c.in_default.not-Attractor) in
    IfOk-weaker c.stuck_at.result _ _ (λ flowed h. subst (IsFlowed t.element.shape t.element.rows X c.args.word.now) (sym (h whole.above whole.walked.here)) (walk_stuck base c.args.word.now way whole open_end)) c.stuck_at.ensures
