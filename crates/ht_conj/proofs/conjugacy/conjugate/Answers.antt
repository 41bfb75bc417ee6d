use Rattle.std.proofs.Common.{◌≡◌, ◌∙◌, Some, sym, ap, subst}
use Rattle.ht_word.specs.declared.shape.Shape.{Shape}
use Rattle.ht_pair.specs.Actions.{IsCanonicalFor}
use Rattle.ht_pair.specs.Elements.{ElementValue}
use Rattle.ht_pair.specs.Pairs.{IsPair}
use Rattle.ht_conj.specs.Stages.{TellsWhole}
use Rattle.ht_conj.proofs.OneShape.{AreOfOneShape, TellsCycles}
use Rattle.ht_conj.proofs.StageEnds.{no_cycles, whole_pair, whole_verdict}
use Rattle.ht_conj.proofs.conjugacy.conjugate.Given.{Over}
use Rattle.ht_conj.proofs.conjugacy.conjugate.Goals as goal
use Rattle.ht_conj.proofs.conjugacy.conjugate.Goals.{After-keeps_kinds-2, After-shape}

both : (g : Over) (c : After-keeps_kinds-2 g) → AreOfOneShape c.args.f.now c.args.g.now
both g c = record { first = c.keeps_kinds.ensures; second = c.keeps_kinds-2.ensures; same = c.requires.shape }

-- the shape of f
shape_is : (g : Over) (c : After-shape g) → c.shape.result ≡ c.args.f.now.element.shape
shape_is g c = c.shape.ensures ∙ ap (λ (e : ElementValue). e.shape) c.element.ensures.element

-- the rows for all atoms
stage : (g : Over) (c : After-shape g) → TellsWhole c.args.f.now c.args.g.now c.in-Some.cycles (Some c.in-Some-2.rows)
stage g c = subst (TellsWhole c.args.f.now c.args.g.now c.in-Some.cycles) c.in-Some-2.is c.in_ok-rows.ensures

pub returns-in_default : goal.returns-in_default
returns-in_default g c =
    no_cycles (both g (goal.at.returns-in_default g c).After-keeps_kinds-2) (subst (TellsCycles c.args.f.now c.args.g.now) c.in_default.is c.in_ok-cycles.ensures)

pub reduce_rows-requires : goal.reduce_rows-requires
reduce_rows-requires g c =
    subst (λ (s : Shape). IsPair s c.in-Some-2.rows) (sym (shape_is g c)) (whole_pair (both g (goal.at.reduce_rows-requires g c).After-keeps_kinds-2) c.in-Some.cycles c.in-Some-2.rows (stage g c))

pub returns : goal.returns
returns g c =
    let at = (goal.at.returns g c).After-shape in
    let match = subst (TellsCycles c.args.f.now c.args.g.now) c.in-Some.is c.in_ok-cycles.ensures in
    let canonical = subst (λ (s : Shape). IsCanonicalFor s c.in_ok-reduced.reduced c.in-Some-2.rows) (shape_is g at) c.in_ok-reduced.ensures.canonical in
    whole_verdict (both g (goal.at.returns g c).After-keeps_kinds-2) c.in-Some.cycles c.in-Some-2.rows c.in_ok-reduced.reduced match.1 (stage g at) canonical
