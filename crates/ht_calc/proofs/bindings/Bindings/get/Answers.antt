use Rattle.std.proofs.Common.{◌∙◌, ap}
use Rattle.ht_calc.specs.Names.{bound}
use Rattle.ht_calc.proofs.NameLaws.{bound_found}
use Rattle.ht_calc.proofs.bindings.Bindings.get.Goals as goal

pub returns : goal.returns
returns c = bound_found (bound c.args.self.now c.args.name.now) c.get.result (c.get.ensures.value ∙ ap (λ names. bound names c.args.name.now) c.self.view_is)
