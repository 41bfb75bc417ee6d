use Rattle.std.proofs.Common.{sym, ap, subst, Err}
use Rattle.std.proofs.lemmas.Result.{err_from_is_err_and}
use Rattle.ht_word.specs.declared.shape.Shape.{Shape}
use Rattle.ht_pair.specs.declared.fault.OpFault.{OpFault}
use Rattle.ht_pair.specs.declared.fault.OpFault.TheVariants.{Large}
use Rattle.ht_pair.specs.Kinds.{IsCycleWord}
use Rattle.ht_pair.specs.Pairs.{IsPair}
use Rattle.ht_pair.specs.Sizes.{IsLarge}
use Rattle.ht_parts.specs.PartRows.{IsOther}
use Rattle.ht_parts.proofs.PartLaws.{typed_parts, shape_read, part_order, element_made, fault_passed, parts_alike, no_large_part, first_large, second_large}
use Rattle.ht_parts.proofs.part.parts.Goals as goal

pub of_pair-requires-clause-pair : goal.of_pair-requires-clause-pair
of_pair-requires-clause-pair c =
    let made = typed_parts c.args.t.now.element c.args.t.now.quasi c.args.t.now.kinds c.in_ok-periodic.periodic c.in_ok-infinite.infinite c.keeps_kinds.ensures c.in_ok-periodic.ensures c.in_ok-infinite.ensures in
    let first = shape_read c.shape.result c.element.result.now c.args.t.now.element c.shape.ensures c.element.ensures.element in
    subst (λ (s : Shape). IsPair s c.in_ok-periodic.periodic) (sym first) made.on_periodic.pair

pub of_pair-requires-clause-order : goal.of_pair-requires-clause-order
of_pair-requires-clause-order c =
    let p = c.args.t.now.element.rows in
    let cycle = IsCycleWord c.args.t.now.element.shape p in
    part_order p c.args.t.now.quasi.basis.words cycle (IsOther c.args.t.now.element.shape p) c.args.t.now.quasi.basis.words c.in_ok-periodic.periodic c.in_ok-periodic.ensures c.keeps_kinds.ensures.quasinormal.least.ascending

pub returns-in_err-first-clause-large : goal.returns-in_err-first-clause-large
returns-in_err-first-clause-large c rows letters e =
    let made = typed_parts c.args.t.now.element c.args.t.now.quasi c.args.t.now.kinds c.in_ok-periodic.periodic c.in_ok-infinite.infinite c.keeps_kinds.ensures c.in_ok-periodic.ensures c.in_ok-infinite.ensures in
    let first = shape_read c.shape.result c.element.result.now c.args.t.now.element c.shape.ensures c.element.ensures.element in
    let p = err_from_is_err_and c.from_residual-in_err-first.result c.from_residual-in_err-first.ensures.1 in
    let fault = fault_passed c.from_residual-in_err-first.result p.0 c.in_err-first.field-0.0 (Large rows letters) p.1 p.2 e in
    let large = c.in_err-first.ensures.large rows letters (ap (λ (f : OpFault). Err f) fault) in
    first_large c.args.t.now.element.shape c.args.t.now.element.rows c.args.t.now.quasi.basis.words c.in_ok-periodic.periodic c.in_ok-infinite.infinite rows letters made (subst (λ (s : Shape). IsLarge s c.in_ok-periodic.periodic rows letters) first large)

pub of_pair-requires-2-clause-pair : goal.of_pair-requires-2-clause-pair
of_pair-requires-2-clause-pair c =
    let made = typed_parts c.args.t.now.element c.args.t.now.quasi c.args.t.now.kinds c.in_ok-periodic.periodic c.in_ok-infinite.infinite c.keeps_kinds.ensures c.in_ok-periodic.ensures c.in_ok-infinite.ensures in
    let second = shape_read c.shape-2.result c.element-2.result.now c.args.t.now.element c.shape-2.ensures c.element-2.ensures.element in
    subst (λ (s : Shape). IsPair s c.in_ok-infinite.infinite) (sym second) made.on_infinite.pair

pub returns-in_err-second-clause-large : goal.returns-in_err-second-clause-large
returns-in_err-second-clause-large c rows letters e =
    let made = typed_parts c.args.t.now.element c.args.t.now.quasi c.args.t.now.kinds c.in_ok-periodic.periodic c.in_ok-infinite.infinite c.keeps_kinds.ensures c.in_ok-periodic.ensures c.in_ok-infinite.ensures in
    let first = shape_read c.shape.result c.element.result.now c.args.t.now.element c.shape.ensures c.element.ensures.element in
    let second = shape_read c.shape-2.result c.element-2.result.now c.args.t.now.element c.shape-2.ensures c.element-2.ensures.element in
    let p = err_from_is_err_and c.from_residual-in_err-second.result c.from_residual-in_err-second.ensures.1 in
    let fault = fault_passed c.from_residual-in_err-second.result p.0 c.in_err-second.field-0.0 (Large rows letters) p.1 p.2 e in
    let large = c.in_err-second.ensures.large rows letters (ap (λ (f : OpFault). Err f) fault) in
    let own = element_made c.args.t.now.element.shape c.shape.result c.in_ok-periodic.periodic c.in_ok-first.first first c.in_ok-first.ensures.canonical c.in_ok-first.ensures.small in
    second_large c.args.t.now.element.shape c.args.t.now.element.rows c.args.t.now.quasi.basis.words c.in_ok-periodic.periodic c.in_ok-infinite.infinite c.in_ok-first.first.rows rows letters made own (subst (λ (s : Shape). IsLarge s c.in_ok-infinite.infinite rows letters) second large)

pub returns-clause-parts : goal.returns-clause-parts
returns-clause-parts c =
    let made = typed_parts c.args.t.now.element c.args.t.now.quasi c.args.t.now.kinds c.in_ok-periodic.periodic c.in_ok-infinite.infinite c.keeps_kinds.ensures c.in_ok-periodic.ensures c.in_ok-infinite.ensures in
    let first = shape_read c.shape.result c.element.result.now c.args.t.now.element c.shape.ensures c.element.ensures.element in
    let second = shape_read c.shape-2.result c.element-2.result.now c.args.t.now.element c.shape-2.ensures c.element-2.ensures.element in
    let one = element_made c.args.t.now.element.shape c.shape.result c.in_ok-periodic.periodic c.in_ok-first.first first c.in_ok-first.ensures.canonical c.in_ok-first.ensures.small in
    let other = element_made c.args.t.now.element.shape c.shape-2.result c.in_ok-infinite.infinite c.in_ok-second.second second c.in_ok-second.ensures.canonical c.in_ok-second.ensures.small in
    parts_alike c.args.t.now.element.shape c.args.t.now.element.rows c.args.t.now.quasi.basis.words c.in_ok-periodic.periodic c.in_ok-infinite.infinite c.in_ok-first.first.rows c.in_ok-second.second.rows c.keeps_kinds.ensures.canonical.pair made one other

pub returns-clause-kept : goal.returns-clause-kept
returns-clause-kept c =
    let made = typed_parts c.args.t.now.element c.args.t.now.quasi c.args.t.now.kinds c.in_ok-periodic.periodic c.in_ok-infinite.infinite c.keeps_kinds.ensures c.in_ok-periodic.ensures c.in_ok-infinite.ensures in
    let first = shape_read c.shape.result c.element.result.now c.args.t.now.element c.shape.ensures c.element.ensures.element in
    let second = shape_read c.shape-2.result c.element-2.result.now c.args.t.now.element c.shape-2.ensures c.element-2.ensures.element in
    let one = element_made c.args.t.now.element.shape c.shape.result c.in_ok-periodic.periodic c.in_ok-first.first first c.in_ok-first.ensures.canonical c.in_ok-first.ensures.small in
    let other = element_made c.args.t.now.element.shape c.shape-2.result c.in_ok-infinite.infinite c.in_ok-second.second second c.in_ok-second.ensures.canonical c.in_ok-second.ensures.small in
    no_large_part c.args.t.now.element.shape c.args.t.now.element.rows c.args.t.now.quasi.basis.words c.in_ok-periodic.periodic c.in_ok-infinite.infinite c.in_ok-first.first.rows c.in_ok-second.second.rows
    c.keeps_kinds.ensures.canonical.pair c.keeps_kinds.ensures.quasinormal.least.semi_normal.basis made one other
