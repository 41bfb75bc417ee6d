use Rattle.std.proofs.Common.{◌≤◌, List, length}
use Rattle.std.proofs.lemmas.Result.{IfOk-weaker}
use Rattle.ht_pair.specs.declared.row.Row.{Row}
use Rattle.ht_pair.specs.Pairs.{longest_of}
use Rattle.ht_pair.specs.Actions.{IsCanonicalFor}
use Rattle.ht_pair.specs.Merges.{IsReducedOf}
use Rattle.ht_pair.proofs.Canonical.{reduced_permuted}
use Rattle.ht_pair.proofs.reduce.reduce_rows.Goals as goal

pub returns : goal.returns
returns c =
    let r = c.merge_rows.result in
    let merged = IsReducedOf c.args.shape c.in_ok-sorted.sorted in
    let here : (q : List Row) → merged q → IsReducedOf c.args.shape c.args.rows q = λ q h. reduced_permuted c.args.shape c.args.rows c.in_ok-sorted.sorted q c.in_ok-sorted.ensures.permuted h in
    record {
      canonical = IfOk-weaker r merged (λ q. IsCanonicalFor c.args.shape q c.args.rows) (λ q h. (here q h).canonical) c.merge_rows.ensures;
      fewer = IfOk-weaker r merged (λ q. length q ≤ length c.args.rows) (λ q h. (here q h).fewer) c.merge_rows.ensures;
      shorter = IfOk-weaker r merged (λ q. longest_of q ≤ longest_of c.args.rows) (λ q h. (here q h).shorter) c.merge_rows.ensures;
    }
