use Rattle.std.proofs.Common.{◌≡◌, Some, List, ℕ, ap, ◌∙◌, subst, rules}
use Rattle.ht_pair.specs.declared.row.Row.{Row}
use Rattle.ht_pair.specs.Elements.{ElementValue}
use Rattle.ht_calc.specs.Names.{rows_by_name, bind}
use Rattle.ht_calc.specs.States.{State}
use Rattle.ht_calc.proofs.NameLaws.{bind_rows, both_of_shape}
use Rattle.ht_calc.proofs.session.Session.bind_parts.Goals as goal

-- the rows that two names are bound to
both_rows : (names new : List (List ℕ × ElementValue)) (first second : List ℕ) (one other : ElementValue) → new ≡ bind (bind names first one) second other → rows_by_name new ≡ bind (bind (rows_by_name names) first one.rows) second other.rows
both_rows names new first second one other is =
    ap rows_by_name is ∙ bind_rows (bind names first one) second other ∙ ap (λ (rows : List (List ℕ × List Row)). bind rows second other.rows) (bind_rows names first one)

pub invariant_of-self-2 : goal.invariant_of-self-2
invariant_of-self-2 c =
    let first : Some (c.args.first.shape) ≡ c.self.inside.shape = search rules in
    let second : Some (c.args.second.shape) ≡ c.self.inside.shape = search rules in
    record {
      of_shape = both_of_shape c.self.inside.shape c.self.inside.names c.bind_both.new.self c.args.periodic c.args.infinite c.args.first c.args.second c.self.invariant.of_shape
          (record { shape_is = first; pair = search rules }) (record { shape_is = second; pair = search rules }) c.in_ok-bind_both.ensures.ok;
      budget_low = c.self.invariant.budget_low;
      budget_high = c.self.invariant.budget_high;
    }

pub returns-clause-bound : goal.returns-clause-bound
returns-clause-bound c =
    let old : State = record { shape = c.self.inside.shape; budget = c.self.inside.budget; names = rows_by_name c.self.inside.names } in
    let new : State = record old { names = rows_by_name c.bind_both.new.self } in
    subst (λ (s : State). new ≡ record s { names = bind (bind s.names c.args.periodic c.args.first.rows) c.args.infinite c.args.second.rows }) c.self.view_is
    (ap (λ (names : List (List ℕ × List Row)). record old { names = names }) (both_rows c.self.inside.names c.bind_both.new.self c.args.periodic c.args.infinite c.args.first c.args.second c.in_ok-bind_both.ensures.ok))
