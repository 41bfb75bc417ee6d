use Rattle.std.proofs.Common.{◌∙◌, Some, sym, ap, subst}
use Rattle.std.proofs.lemmas.Option.{slice_get-get_or}
use Rattle.ht_conj.specs.Classes.{IsClass}
use Rattle.ht_conj.proofs.classes.class_of.Goals as goal

pub is_in_class-requires-clause-class : goal.is_in_class-requires-clause-class
is_in_class-requires-clause-class g c = subst (IsClass c.args.t.now) (sym c.index-classes-index.is) (c.requires.classes c.loop-index.index c.index-classes-index.result c.loop-index-test.true)

pub returns-then-branch : goal.returns-then-branch
returns-then-branch g c = (
  c.index-classes-index.result,
  slice_get-get_or c.args.classes.now c.loop-index.index c.index-classes-index.result c.loop-index-test.true ∙ ap (λ class. Some class) (sym c.index-classes-index.is),
  c.in_ok-is_in_class.ensures c.if-branch.true,
)
