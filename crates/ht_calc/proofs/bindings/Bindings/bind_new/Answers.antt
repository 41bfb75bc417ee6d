use Rattle.std.proofs.Common.{◌∙◌}
use Rattle.ht_calc.proofs.NameLaws.{taken_off}
use Rattle.ht_calc.proofs.bindings.Bindings.bind_new.Goals as goal

pub returns-in_default-clause-err : goal.returns-in_default-clause-err
returns-in_default-clause-err c =
    c.truncate.ensures.entries ∙ taken_off c.args.self.now c.self.inside.elements.entries c.args.first c.args.one c.len-count.result c.requires c.len-count.ensures (c.self.view_is ∙ (c.in_default.ensures.err ∙ c.in_ok-bind.ensures.ok))
