use Rattle.std.proofs.Common.{length, sym, ◌∙◌, rules}
use Rattle.std.proofs.lemmas.List.{map-id}
use Rattle.std.proofs.lemmas.Iterator.Adapters.{YieldsList-from_vec}
use Rattle.std.proofs.lemmas.Iterator.Consumers.{YieldsList-turn, YieldsList-end}
use Rattle.ht_types.specs.declared.course.State.TheVariants.{Known}
use Rattle.ht_types.proofs.EntryLaws.{read_is}
use Rattle.ht_types.proofs.course.known_courses.Goals as goal

pub unreachable-requires : goal.unreachable-requires
unreachable-requires c =
    let turn = YieldsList-turn (YieldsList-from_vec c.args.states.items (search rules) (search rules)) c.loop-state.yielded _ c.loop-state.yielded_by _ c.next.new.self c.in-Some.state c.in-Some.is c.next.ensures.steps in
    let known = c.requires (length c.loop-state.yielded) turn.0 in
    c.in_default.not-Known known.0 (read_is c.args.states.items (length c.loop-state.yielded) c.in-Some.state (Known known.0) turn.1 known.1)

pub returns : goal.returns
returns c =
    let end = YieldsList-end (YieldsList-from_vec c.args.states.items (search rules) (search rules)) c.loop-state.yielded _ c.loop-state.yielded_by _ c.next.new.self c.in-None.is c.next.ensures.steps in
    sym end.0 ∙ map-id c.loop-state.yielded ∙ c.loop-state.invariant
