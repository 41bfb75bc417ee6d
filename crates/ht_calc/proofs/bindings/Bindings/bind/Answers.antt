use Rattle.std.proofs.Common.{◌≡◌, ◌∙◌, sym, ap}
use Rattle.std.specs.Prelude.{nat_eq}
use Rattle.std.specs.Cmp.Lexicographic.{pointwise}
use Rattle.std.specs.Map.{set_value}
use Rattle.ht_calc.specs.Names.{bind, bound}
use Rattle.ht_calc.proofs.NameLaws.{inserted, written}
use Rattle.ht_calc.proofs.bindings.Bindings.bind.Goals as goal

pub returns-in-Some-clause-ok : goal.returns-in-Some-clause-ok
returns-in-Some-clause-ok c =
    let put : (c.get_mut.follows.lender c.args.element).entries ≡ set_value (pointwise nat_eq c.args.name) c.self.inside.elements.entries c.args.element =
    (c.get_mut.follows.holds c.args.element).0 in
    put ∙ (written c.self.inside.elements.entries c.args.name c.args.element c.in-Some.old.now (sym c.in-Some.ensures.value) ∙ ap (λ es. bind es c.args.name c.args.element) c.self.view_is)

pub returns-in_err-insert-clause-there : goal.returns-in_err-insert-clause-there
returns-in_err-insert-clause-there c = λ some. absurd (some (ap (λ names. bound names c.args.name) (sym c.self.view_is) ∙ sym c.in_default.ensures.value))

pub returns-clause-ok : goal.returns-clause-ok
returns-clause-ok c =
    c.in_ok-insert.ensures.entries
    ∙ (inserted c.get_mut.follows.lender-at-none.entries c.args.name c.args.element ∙ ap (λ es. bind es c.args.name c.args.element) (ap (λ m. m.entries) c.get_mut.follows.holds-at-none ∙ c.self.view_is))
