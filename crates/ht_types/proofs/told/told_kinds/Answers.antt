use Rattle.std.proofs.Common.{List, length, map, sym, ap, ◌∙◌, rules}
use Rattle.std.specs.Prelude.{zip}
use Rattle.std.proofs.lemmas.List.{map-id}
use Rattle.std.proofs.lemmas.List.Elements.{All-contains}
use Rattle.std.proofs.lemmas.Iterator.{YieldsList-from_zip}
use Rattle.std.proofs.lemmas.Iterator.Adapters.{YieldsList-from_vec}
use Rattle.std.proofs.lemmas.Iterator.Consumers.{YieldsList-turn, YieldsList-end}
use Rattle.ht_types.specs.declared.course.Course.{Course}
use Rattle.ht_types.specs.WordSteps.{ReturnsToo, told_kind}
use Rattle.ht_types.proofs.told.told_kinds.Goals as goal

pub kind_of-requires : goal.kind_of-requires
kind_of-requires c =
    let both : Course × Course = (c.in-Some.ahead, c.in-Some.behind) in
    let turn = YieldsList-turn (YieldsList-from_zip (YieldsList-from_vec c.args.ahead (search rules) (search rules)) (YieldsList-from_vec c.args.behind (search rules) (search rules))) c.loop-ahead.yielded _ c.loop-ahead.yielded_by _ c.next.new.self both c.in-Some.is c.next.ensures.steps in
    All-contains (λ (p : Course × Course). ReturnsToo p.0 p.1) (zip c.args.ahead c.args.behind) both c.requires (length c.loop-ahead.yielded, turn.0, sym turn.1)

pub returns : goal.returns
returns c =
    let end = YieldsList-end (YieldsList-from_zip (YieldsList-from_vec c.args.ahead (search rules) (search rules)) (YieldsList-from_vec c.args.behind (search rules) (search rules))) c.loop-ahead.yielded _ c.loop-ahead.yielded_by _ c.next.new.self c.in-None.is c.next.ensures.steps in
    c.loop-ahead.invariant ∙ ap (λ (ps : List (Course × Course)). map (λ p. told_kind p.0 p.1) ps) (sym (map-id c.loop-ahead.yielded) ∙ end.0)
