use Rattle.std.proofs.Common.{◌≡◌, ◌⊎◌, inl, inr, ◌+◌, [], length, subst, arith}
use Rattle.std.proofs.lemmas.Bool.Decides.{nat_tests}
use Rattle.std.proofs.lemmas.List.{nil_from_length}
use Rattle.ht_text.specs.Fronts.{IsLongestFront}
use Rattle.ht_script.specs.Factors.{IsFactorText, AreFactorsText}
use Rattle.ht_script.proofs.FactorFronts.{longest_no_factor, longest_in_factor, longest_past_factor, first_lengths}
use Rattle.ht_script.proofs.factor.factors_front.Goals as goal
use Rattle.ht_script.proofs.factor.factors_front.Goals.{then-is_empty-via-then-is_empty, then-is_empty-via-else-is_empty+then-not-is_factor}

pub returns-then-is_empty : goal.returns-then-is_empty
returns-then-is_empty c =
    let found = c.in-Some in
    let last : (found.rest.now ≡ []) ⊎ ¬ IsFactorText found.token.now = elim c.then-is_empty.branch [
      | then-is_empty-via-then-is_empty w ↦ (let none : length found.rest.now ≡ 0 = grind (arith, nat_tests) in inl (nil_from_length found.rest.now none))
      | then-is_empty-via-else-is_empty+then-not-is_factor w ↦ inr (λ h. let yes = w.is_factor.ensures.1 h in cc)
    ] in
    let e : c.loop-at.done + (found.at + c.factor_front.result) ≡ c.loop-at.done + found.at + c.factor_front.result = omega arith in
    subst (λ n. IsLongestFront AreFactorsText c.args.bytes.now n) e
    (c.loop-at.invariant.longest (found.at + c.factor_front.result) (longest_in_factor c.loop-at.left.now found.at found.token.now found.rest.now c.factor_front.result found.ensures last c.factor_front.ensures))

pub loop-at-preserved : goal.loop-at-preserved
loop-at-preserved c =
    let found = c.in-Some in
    let lengths = first_lengths c.loop-at.left.now found.at found.token.now found.rest.now found.ensures in
    record {
      whole = omega (arith, c.loop-at.invariant.whole);
      longest = λ k f.
          let e : c.loop-at.done + (found.at + length found.token.now + k) ≡ c.loop-at.done + (found.at + length found.token.now) + k = omega arith in
          subst (λ n. IsLongestFront AreFactorsText c.args.bytes.now n) e
          (c.loop-at.invariant.longest (found.at + length found.token.now + k) (longest_past_factor c.loop-at.left.now found.at found.token.now found.rest.now k found.ensures (c.is_factor.ensures.0 c.if-not-is_factor.false) f));
    }

pub returns : goal.returns
returns c =
    subst (λ n. IsLongestFront AreFactorsText c.args.bytes.now n) c.loop-at.invariant.whole (c.loop-at.invariant.longest (length c.loop-at.left.now) (longest_no_factor c.loop-at.left.now c.in_default.ensures))
