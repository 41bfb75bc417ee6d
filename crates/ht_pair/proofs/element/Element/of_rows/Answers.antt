use Rattle.std.proofs.Common.{Err, ap}
use Rattle.std.proofs.lemmas.List.Sorted.{IsPermutation-sym}
use Rattle.ht_pair.specs.declared.fault.OpFault.{OpFault}
use Rattle.ht_pair.specs.Merges.{IsReducedOf}
use Rattle.ht_pair.proofs.Sorting.{pair_permuted}
use Rattle.ht_pair.proofs.Canonical.{canonical_permuted, reduced_permuted, large_permuted}
use Rattle.ht_pair.proofs.element.Element.of_rows.Goals as goal

pub returns-in-Ok-clause-pair : goal.returns-in-Ok-clause-pair
returns-in-Ok-clause-pair c = pair_permuted c.args.shape c.in_ok-sorted.sorted c.args.rows (IsPermutation-sym c.args.rows c.in_ok-sorted.sorted c.in_ok-sorted.ensures.permuted) c.in_ok-sorted.ensures.pair

pub returns-in-Ok-clause-canonical : goal.returns-in-Ok-clause-canonical
returns-in-Ok-clause-canonical c =
    (c.in-Ok.ensures.canonical.0, canonical_permuted c.args.shape c.args.rows c.in_ok-sorted.sorted c.in-Ok.element.rows c.in_ok-sorted.ensures.permuted c.in-Ok.ensures.canonical.1)

pub returns-in-Ok-clause-fewer : goal.returns-in-Ok-clause-fewer
returns-in-Ok-clause-fewer c =
    let made : IsReducedOf c.args.shape c.in_ok-sorted.sorted c.in-Ok.element.rows = record { canonical = c.in-Ok.ensures.canonical.1; fewer = c.in-Ok.ensures.fewer; shorter = c.in-Ok.ensures.shorter } in
    (reduced_permuted c.args.shape c.args.rows c.in_ok-sorted.sorted c.in-Ok.element.rows c.in_ok-sorted.ensures.permuted made).fewer

pub returns-in-Ok-clause-shorter : goal.returns-in-Ok-clause-shorter
returns-in-Ok-clause-shorter c =
    let made : IsReducedOf c.args.shape c.in_ok-sorted.sorted c.in-Ok.element.rows = record { canonical = c.in-Ok.ensures.canonical.1; fewer = c.in-Ok.ensures.fewer; shorter = c.in-Ok.ensures.shorter } in
    (reduced_permuted c.args.shape c.args.rows c.in_ok-sorted.sorted c.in-Ok.element.rows c.in_ok-sorted.ensures.permuted made).shorter

pub returns-in-Err-Large-clause-fault : goal.returns-in-Err-Large-clause-fault
returns-in-Err-Large-clause-fault c = (
  pair_permuted c.args.shape c.in_ok-sorted.sorted c.args.rows (IsPermutation-sym c.args.rows c.in_ok-sorted.sorted c.in_ok-sorted.ensures.permuted) c.in_ok-sorted.ensures.pair,
  large_permuted c.args.shape c.args.rows c.in_ok-sorted.sorted c.in-Err-Large.rows c.in-Err-Large.letters c.in_ok-sorted.ensures.permuted
      (c.in-Err-Large.ensures.large c.in-Err-Large.rows c.in-Err-Large.letters (ap (λ (f : OpFault). Err f) c.in-Err-Large.field-0-is)),
)
