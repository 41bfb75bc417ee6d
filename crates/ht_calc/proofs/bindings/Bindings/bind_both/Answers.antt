use Rattle.std.proofs.Common.{◌≡◌, ◌≢◌, List, ℕ, None, sym, ap, ◌∙◌, subst, true≢false}
use Rattle.std.specs.Cmp.Lexicographic.{bytes_decides}
use Rattle.ht_pair.specs.Elements.{ElementValue}
use Rattle.ht_calc.specs.Names.{bound, bind}
use Rattle.ht_calc.proofs.NameLaws.{on_ok, never_err, was_found, bound_twice, bound_apart, still_bound}
use Rattle.ht_calc.proofs.bindings.Bindings.bind_both.Goals as goal

-- one name: the second element stands
second_stands : (old new : List (List ℕ × ElementValue)) (first second : List ℕ) (one other : ElementValue) → first ≡ second → new ≡ bind old second other → new ≡ bind (bind old first one) second other
second_stands old new first second one other same is =
    is ∙ sym (ap (λ name. bind (bind old name one) second other) same ∙ bound_twice old second one other)

-- two names, of which the first is bound
first_last : (old next new : List (List ℕ × ElementValue)) (first second : List ℕ) (one other : ElementValue) → first ≢ second → bound old first ≢ None → next ≡ bind old second other → new ≡ bind next first one → new ≡ bind (bind old first one) second other
first_last old next new first second one other apart some is last = last ∙ ap (λ names. bind names first one) is ∙ bound_apart old first second one other apart some

pub returns-then-eq-clause-ok : goal.returns-then-eq-clause-ok
returns-then-eq-clause-ok c =
    on_ok c.bind.result (second_stands c.args.self.now c.bind.new.self c.args.first c.args.second c.args.one c.args.other ((bytes_decides c.args.first c.args.second).0 (sym c.if-eq.ensures))) c.bind.ensures.ok

pub returns-then-is_some-clause-ok : goal.returns-then-is_some-clause-ok
returns-then-is_some-clause-ok c =
    on_ok c.bind-then-is_some-2.result
    (first_last c.args.self.now c.bind-then-is_some.new.self c.bind-then-is_some-2.new.self c.args.first c.args.second c.args.one c.args.other
    (λ same. true≢false (sym ((bytes_decides c.args.first c.args.second).1 same) ∙ sym c.if-eq.ensures)) (was_found (bound c.args.self.now c.args.first) c.get.result c.get.ensures c.if-is_some.ensures) c.in_ok-bind.ensures.ok)
    c.bind-then-is_some-2.ensures.ok

pub returns-then-is_some-clause-err : goal.returns-then-is_some-clause-err
returns-then-is_some-clause-err c =
    never_err (c.bind-then-is_some-2.new.self ≡ c.args.self.now) c.bind-then-is_some-2.result (c.bind-then-is_some-2.ensures.there
    (subst (λ (names : List (List ℕ × ElementValue)). bound names c.args.first ≢ None) (sym c.in_ok-bind.ensures.ok)
    (still_bound c.args.self.now c.args.first c.args.second c.args.other (was_found (bound c.args.self.now c.args.first) c.get.result c.get.ensures c.if-is_some.ensures))))
