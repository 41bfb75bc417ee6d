use Rattle.std.proofs.Common.{◌≡◌, ◌+◌, ℕ, length}
use Rattle.ht_text.specs.Fronts.{IsLongestFront}
use Rattle.ht_script.specs.Factors.{AreFactorsText}
use Rattle.ht_script.proofs.factor.factors_front.Given as goal

abbrev pub invariant-loop-at : goal.invariant-loop-at
invariant-loop-at l = record {
  whole : l.done + length l.left ≡ length l.bytes;
  longest : (k : ℕ) → IsLongestFront AreFactorsText l.left k → IsLongestFront AreFactorsText l.bytes (l.done + k);
}

abbrev pub decreases-loop-at : goal.decreases-loop-at
decreases-loop-at l = length l.left
