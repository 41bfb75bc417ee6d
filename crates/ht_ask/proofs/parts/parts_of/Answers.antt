use Rattle.ht_ask.proofs.TypedLaws.{told_as_parts}
use Rattle.ht_ask.proofs.parts.parts_of.Goals as goal

pub returns-in-Ok-parts-clause-parts : goal.returns-in-Ok-parts-clause-parts
returns-in-Ok-parts-clause-parts c =
    let typed = c.in-Ok.typed in
    let made = c.in-Ok-parts.ensures in
    told_as_parts typed.element c.args.element.now typed.quasi typed.kinds c.args.budget c.in-Ok-parts.first c.in-Ok-parts.second c.in-Ok.ensures.typed.0 c.in-Ok.ensures.typed.1 c.in-Ok.ensures.within made.shapes.0 made.shapes.1 made.parts
    c.keeps_limits.ensures c.keeps_limits-in-Ok-parts.ensures made.kept
