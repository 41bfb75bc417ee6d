-- What a power of a power carries.
use Rattle.std.proofs.Common.{List, ◌↔◌, ℤ, ◌*ℤ◌}
use Rattle.ht_word.specs.declared.shape.Shape.{Shape}
use Rattle.ht_word.specs.declared.word.Word.{Word}
use Rattle.ht_pair.specs.Pairs.{IsPair}
use Rattle.ht_pair.specs.Products.{IsPower}
use Rattle.ht_pair.specs.Steps.{Carries}
use Rattle.ht_pair.specs.declared.row.Row.{Row}
use Rattle.ht_pair.proofs.PowerLaws.{power_exists}
use Rattle.ht_pair.proofs.PowerProducts.{power_mul}
use Rattle.ht_laws.proofs.GroupLaws.{carries_by_power}

-- the power j of the power k carries as the power j k does
pub power_carries : {shape : Shape} {p s : List Row} {k : ℤ} → IsPair shape p → IsPower shape p k s → (j : ℤ) (u v : Word) → Carries shape s j u v ↔ Carries shape p (j *ℤ k) u v
power_carries {shape} {p} {s} {k} pair power j u v =
    let t = power_exists shape s j power.pair in
    let own = carries_by_power shape s t.0 j u v power.pair t.1 in
    let whole = carries_by_power shape p t.0 (j *ℤ k) u v pair (power_mul shape p s t.0 k j pair power t.1) in
    ((λ c. whole.1 (own.0 c)), (λ c. own.1 (whole.0 c)))
