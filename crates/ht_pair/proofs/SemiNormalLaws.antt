-- Two semi-normal bases are both under one.
use Rattle.std.proofs.Common.{◌⊎◌, inl, inr, List, ℤ, pos, neg_ℤ}
use Rattle.std.proofs.lemmas.List.Elements.{All-contains}
use Rattle.ht_word.specs.Words.{IsUnderSome}
use Rattle.ht_word.specs.declared.shape.Shape.{Shape}
use Rattle.ht_word.specs.declared.word.Word.{Word}
use Rattle.ht_word.proofs.WordLaws.{under_refl, All-from_contains}
use Rattle.ht_pair.specs.Bases.{IsAllUnder}
use Rattle.ht_pair.specs.SemiNormal.{CarriesUnder, StaysAhead, StaysBehind, IsSemiNormal}
use Rattle.ht_pair.specs.declared.row.Row.{Row}
use Rattle.ht_pair.proofs.BasisLaws.{some_at}
use Rattle.ht_pair.proofs.MeetLaws.{meet}

-- what is carried under X is carried under each list that X is under
carries_under_wider : (shape : Shape) (p : List Row) (k : ℤ) (u : Word) (X V : List Word) → ((w : Word) → IsUnderSome w X → IsUnderSome w V) → CarriesUnder shape p k u X → CarriesUnder shape p k u V
carries_under_wider shape p k u X V wider c = record { to = c.to; carries = c.carries; under = wider c.to c.under }

-- so it is with staying ahead or behind
pub stays_wider : (shape : Shape) (p : List Row) (u : Word) (X V : List Word) → ((w : Word) → IsUnderSome w X → IsUnderSome w V) → StaysAhead shape p X u ⊎ StaysBehind shape p X u → StaysAhead shape p V u ⊎ StaysBehind shape p V u
stays_wider shape p u X V wider s = elim s [
  | inl h ↦ inl (λ k. carries_under_wider shape p (pos k) u X V wider (h k))
  | inr h ↦ inr (λ k. carries_under_wider shape p (neg_ℤ (pos k)) u X V wider (h k))
]

-- two semi-normal bases are both under one
pub semi_normal_meet : (shape : Shape) (p : List Row) (X W : List Word) → IsSemiNormal shape p X → IsSemiNormal shape p W → (V : List Word) × IsSemiNormal shape p V × IsAllUnder X V × IsAllUnder W V
semi_normal_meet shape p X W sx sw =
    let m = meet shape X W sx.basis sw.basis in
    let V = m.0 in (
      V,
      record {
        basis = m.1.basis;
        stays = All-from_contains (λ x. StaysAhead shape p V x ⊎ StaysBehind shape p V x) V (λ v c. elim (m.1.from v c) [
          | inl h ↦ stays_wider shape p v X V m.1.first (All-contains (λ x. StaysAhead shape p X x ⊎ StaysBehind shape p X x) X v sx.stays h)
          | inr h ↦ stays_wider shape p v W V m.1.second (All-contains (λ x. StaysAhead shape p W x ⊎ StaysBehind shape p W x) W v sw.stays h)
        ]);
      },
      All-from_contains (λ x. IsUnderSome x V) X (λ x c. m.1.first x (some_at X x x c (under_refl x))),
      All-from_contains (λ x. IsUnderSome x V) W (λ w c. m.1.second w (some_at W w w c (under_refl w))),
    )
