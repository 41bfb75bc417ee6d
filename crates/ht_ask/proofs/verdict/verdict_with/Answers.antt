use Rattle.std.proofs.Common.{refl, subst}
use Rattle.ht_pair.specs.Elements.{ElementValue}
use Rattle.ht_pair.specs.Verdicts.{IsVerdict}
use Rattle.ht_ask.proofs.VerdictLaws.{fits}
use Rattle.ht_ask.proofs.verdict.verdict_with.Goals as goal

pub returns-clause-decided : goal.returns-clause-decided
returns-clause-decided c =
    let f = c.args.f.now in
    let g = c.in_ok-g.g in
    let of = c.in_ok-g.ensures in
    record {
      first = fits f.element f.quasi f.kinds c.args.budget f.element.shape refl c.keeps_kinds.ensures c.requires.within;
      second = fits c.args.b.now g.quasi g.kinds c.args.budget f.element.shape c.requires.shape of.typed.1 of.within;
      is_verdict = subst (λ (e : ElementValue). IsVerdict f.element.shape f.element.rows e.rows c.in_ok-verdict.verdict) of.typed.0 c.in_ok-verdict.ensures;
    }
