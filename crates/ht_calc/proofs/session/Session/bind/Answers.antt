use Rattle.std.proofs.Common.{◌≡◌, Some, List, ℕ, ap, ◌∙◌, subst, rules}
use Rattle.ht_pair.specs.declared.row.Row.{Row}
use Rattle.ht_calc.specs.Names.{rows_by_name, bind}
use Rattle.ht_calc.specs.States.{State}
use Rattle.ht_calc.proofs.NameLaws.{bind_rows, still_of_shape}
use Rattle.ht_calc.proofs.session.Session.bind.Goals as goal

pub invariant_of-self-2 : goal.invariant_of-self-2
invariant_of-self-2 c =
    let shape_is : Some (c.args.element.shape) ≡ c.self.inside.shape = search rules in
    record {
      of_shape = still_of_shape c.self.inside.shape c.self.inside.names c.bind.new.self c.args.name c.args.element c.bind.result c.self.invariant.of_shape
          (record { shape_is = shape_is; pair = search rules }) c.bind.ensures.ok c.bind.ensures.err;
      budget_low = c.self.invariant.budget_low;
      budget_high = c.self.invariant.budget_high;
    }

pub returns-clause-bound : goal.returns-clause-bound
returns-clause-bound c =
    let old : State = record { shape = c.self.inside.shape; budget = c.self.inside.budget; names = rows_by_name c.self.inside.names } in
    let new : State = record old { names = rows_by_name c.bind.new.self } in
    subst (λ (s : State). new ≡ record s { names = bind s.names c.args.name c.args.element.rows }) c.self.view_is
    (ap (λ (names : List (List ℕ × List Row)). record old { names = names }) (ap rows_by_name c.in_ok-bind.ensures.ok ∙ bind_rows c.self.inside.names c.args.name c.args.element))
