use Rattle.std.proofs.Common.{[], inl, inr, sym, ◌∙◌, true≢false}
use Rattle.std.specs.Cmp.Lexicographic.{bytes_decides}
use Rattle.ht_calc.specs.Names.{rows_by_name}
use Rattle.ht_calc.proofs.NameLaws.{bound_behind, found_rows}
use Rattle.ht_calc.proofs.bindings.Bindings.is_bound_behind.Goals as goal

pub returns-then-eq : goal.returns-then-eq
returns-then-eq c =
    let same = (bytes_decides c.args.first.now c.args.second.now).0 (sym c.if-eq.ensures) in
    ((λ yes. (bound_behind (rows_by_name c.args.self.now) c.args.first.now c.args.second.now []).1 (inl same)), (λ some. c.eq.ensures ∙ sym c.if-eq.ensures))

pub returns-else-eq : goal.returns-else-eq
returns-else-eq c =
    let behind = bound_behind (rows_by_name c.args.self.now) c.args.first.now c.args.second.now [] in
    let found = found_rows c.args.self.now c.args.second.now c.get.result c.get.ensures in (
      (λ yes. behind.1 (inr (found.0 (sym c.is_some.ensures ∙ yes)))),
      (λ some. elim (behind.0 some) [
        | inl same ↦ absurd (true≢false (sym ((bytes_decides c.args.first.now c.args.second.now).1 same) ∙ sym c.if-eq.ensures))
        | inr there ↦ c.is_some.ensures ∙ found.1 there
      ]),
    )
