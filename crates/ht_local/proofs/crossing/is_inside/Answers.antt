use Rattle.std.proofs.Common.{subst}
use Rattle.std.proofs.lemmas.Bool.{false≢true}
use Rattle.ht_word.specs.Words.{IsUnderSome}
use Rattle.ht_pair.specs.HeldBases.{IsPlaceAbove}
use Rattle.ht_quasi.specs.declared.quasi.Quasi.{Quasi}
use Rattle.ht_local.proofs.LinksInside.{inside_told, under_none}
use Rattle.ht_local.proofs.crossing.is_inside.Goals as goal

pub returns-in_default : goal.returns-in_default
returns-in_default c = (
  (λ e. absurd (false≢true e)),
  (λ s. absurd (under_none c.args.f.now.quasi.basis.words c.args.k.now c.args.link.now.cone
      (subst (λ (q : Quasi). ¬ IsUnderSome c.args.link.now.cone q.basis.words) c.quasi.ensures.quasi c.in_default.ensures) s)),
)

pub returns : goal.returns
returns c =
    let f = c.args.f.now in
    let cone = c.args.link.now.cone in
    let place = c.in-Some.place in
    let above = subst (λ (q : Quasi). IsPlaceAbove q.basis.words cone place) c.quasi.ensures.quasi c.in-Some.ensures in
    rw c.is_some.ensures (inside_told c.quasi.ensures.typed c.args.k.now cone place above c.index_of.result c.index_of.ensures)
