-- Words under the infinite part share orbits by one power. X is a semi-normal basis of p.
use Rattle.std.proofs.Common.{◌≡◌, ◌≢◌, zero, suc, List, refl, arith, ℤ, pos, negsuc, neg_ℤ, ◌+ℤ◌}
use Rattle.std.proofs.lemmas.Int.{ints}
use Rattle.ht_word.specs.declared.shape.Shape.{Shape}
use Rattle.ht_word.specs.declared.word.Word.{Word}
use Rattle.ht_pair.specs.Pairs.{IsPair}
use Rattle.ht_pair.specs.SemiNormal.{IsSemiNormal}
use Rattle.ht_pair.specs.Steps.{Carries}
use Rattle.ht_pair.specs.declared.row.Row.{Row}
use Rattle.ht_pair.proofs.CarriesLaws.{carries_add, carries_back}
use Rattle.ht_types.specs.Flows.{IsUnderInfinite}
use Rattle.ht_types.proofs.PeriodicLaws.{periodic_word_either}

-- one power at most carries a word under the infinite part to a word
pub share_once : (shape : Shape) (p : List Row) (X : List Word) → IsPair shape p → IsSemiNormal shape p X → (u v : Word) (j k : ℤ) → IsUnderInfinite shape p X u → Carries shape p j u v → Carries shape p k u v → j ≡ k
share_once shape p X pair semi u v j k under c d = by (j +ℤ neg_ℤ k) refl (carries_add shape p pair j (neg_ℤ k) u v u c (carries_back shape p pair k u v d))
  where
    back : (i : ℤ) → i ≢ pos 0 → Carries shape p i u u → ⊥
    back i other round = under.infinite.1 (periodic_word_either shape p pair X semi i u under.above other under.infinite.0 under.under round)

    by : (i : ℤ) → j +ℤ neg_ℤ k ≡ i → Carries shape p i u u → j ≡ k
    by (pos zero) e round = omega (arith, ints)
    by (pos (suc n)) e round = absurd (back (pos (suc n)) (λ h. cc) round)
    by (negsuc n) e round = absurd (back (negsuc n) (λ h. cc) round)
