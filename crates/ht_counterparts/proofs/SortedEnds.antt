-- Ends in order: those of conjugate atoms, sorted, are one list.
use Rattle.std.proofs.Common.{◌≡◌, ℕ, List, Ordering, refl, sym, IsPermutation}
use Rattle.std.specs.Cmp.{IsTotalOrder}
use Rattle.std.specs.List.Sorted.{IsSorted}
use Rattle.std.specs.Ordering.{nat_cmp, ordering_then}
use Rattle.std.specs.declared.cmp.Ordering.TheVariants.{Less, Equal, Greater}
use Rattle.std.proofs.lemmas.Cmp.{nat_cmp_total, on_total, ranked, then_total}
use Rattle.std.proofs.lemmas.List.Sorted.{IsPermutation-sym, IsPermutation-trans}
use Rattle.ht_types.specs.declared.direction.Direction.{Direction}
use Rattle.ht_types.specs.declared.direction.Direction.TheVariants.{Ahead, Behind}
use Rattle.ht_counterparts.specs.Ends.{End, end_cmp, way_number}
use Rattle.ht_counterparts.proofs.SortedLists.{same_sorted}

pub end_cmp_total : IsTotalOrder end_cmp
end_cmp_total = then_total (on_total (λ (e : End). way_number e.direction) nat_cmp_total)
    (then_total (on_total (λ (e : End). e.period) nat_cmp_total) (on_total (λ (e : End). e.letters) nat_cmp_total))

-- ends of which neither is before the other are one
end_cmp_once : (a b : End) → end_cmp a b ≡ Equal → a ≡ b
end_cmp_once a b e =
    let outer =
    both (nat_cmp (way_number a.direction) (way_number b.direction)) (ordering_then (nat_cmp a.period b.period) (nat_cmp a.letters b.letters)) e in
    let inner = both (nat_cmp a.period b.period) (nat_cmp a.letters b.letters) outer.1 in
    let way = one_way a.direction b.direction (same (way_number a.direction) (way_number b.direction) outer.0) in
    whole a.direction b.direction a.period b.period a.letters b.letters way (same a.period b.period inner.0) (same a.letters b.letters inner.1)
  where
    whole : (way other : Direction) (m n i j : ℕ) → way ≡ other → m ≡ n → i ≡ j
        → ◌≡◌ {A = End} (record { direction = way; period = m; letters = i }) (record { direction = other; period = n; letters = j })
    whole way other m n i j d e h = cc

    both : (o q : Ordering) → ordering_then o q ≡ Equal → (o ≡ Equal) × (q ≡ Equal)
    both Less q e = absurd cc
    both Equal q e = (refl, e)
    both Greater q e = absurd cc

    same : (m n : ℕ) → nat_cmp m n ≡ Equal → m ≡ n
    same m n e = ranked m n Equal (sym e)

    one_way : (way other : Direction) → way_number way ≡ way_number other → way ≡ other
    one_way Ahead Ahead e = refl
    one_way Ahead Behind e = absurd cc
    one_way Behind Ahead e = absurd cc
    one_way Behind Behind e = refl

-- what two lists of the same ends are, sorted
pub same_sorted_ends : (a b s t : List End) → IsPermutation a b → IsPermutation a s → IsPermutation b t → IsSorted end_cmp s → IsSorted end_cmp t
    → s ≡ t
same_sorted_ends a b s t equal first second up to =
    let moved = IsPermutation-trans s b t (IsPermutation-trans s a b (IsPermutation-sym a s first) equal) second in
    same_sorted end_cmp end_cmp_total end_cmp_once s t moved up to
