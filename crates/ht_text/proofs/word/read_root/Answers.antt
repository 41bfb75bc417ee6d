use Rattle.std.proofs.Common.{◌≡◌, ◌≤◌, arith}
use Rattle.ht_text.proofs.Numbers.{same_num}
use Rattle.ht_text.proofs.word.read_root.Goals as goal

pub returns-then-root-eq0 : goal.returns-then-root-eq0
returns-then-root-eq0 c = λ n h.
    let same : c.in-Some.root ≡ n = same_num c.args.bytes.now c.in-Some.root n c.in-Some.ensures h.is_num in
    let low : 1 ≤ n = h.low in
    omega arith
