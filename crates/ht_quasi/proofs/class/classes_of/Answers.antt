use Rattle.std.proofs.Common.{◌≡◌, ◌∙◌, List, Bool, length, ap, subst₂}
use Rattle.std.proofs.lemmas.Result.{IfOk-weaker}
use Rattle.ht_pair.specs.declared.row.Row.{Row}
use Rattle.ht_pair.specs.Pairs.{IsPair}
use Rattle.ht_quasi.specs.declared.quasi.Class.{Class}
use Rattle.ht_quasi.specs.Quasis.{IsYOf, AreClasses}
use Rattle.ht_quasi.specs.Marks.{AreClassesBy}
use Rattle.ht_quasi.proofs.ClassLaws.{classes_are}
use Rattle.ht_quasi.proofs.class.classes_of.Goals as goal

pub returns : goal.returns
returns c =
    IfOk-weaker c.told_classes.result (λ (classes : List Class). (length classes ≡ length c.deref.result.now) × AreClassesBy c.deref.result.now c.deref-2.result.now classes)
    (λ (classes : List Class). (p : List Row) → IsPair c.args.basis.now.shape p → IsYOf c.args.basis.now.shape p c.args.basis.now.words c.args.rows.now → AreClasses c.args.basis.now.shape p c.args.basis.now.words classes)
    (λ classes t.
    classes_are c.args.basis.now.shape c.args.basis.now.words c.args.rows.now c.in_ok-stays.stays.items c.in_ok-comes.comes.items classes c.marks_of.ensures.held.basis c.in_ok-stays.ensures.marks c.in_ok-comes.ensures.marks
    (t.0 ∙ ap (λ (m : List Bool). length m) c.deref.ensures.value) (subst₂ (λ (s m : List Bool). AreClassesBy s m classes) c.deref.ensures.value c.deref-2.ensures.value t.1))
    c.told_classes.ensures
