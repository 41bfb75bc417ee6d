-- An element keeps its periodic and its infinite part, and is their product.
use Rattle.std.proofs.Common.{◌≡◌, ◌≤◌, ◌⊎◌, inl, inr, List, length, sym, ◌∙◌, subst, subst₂, arith, ℤ, pos}
use Rattle.ht_word.specs.Words.{◌·◌, IsWordOf, IsUnderSome}
use Rattle.ht_word.specs.declared.shape.Shape.{Shape}
use Rattle.ht_word.specs.declared.word.Word.{Word}
use Rattle.ht_word.proofs.Deciding.{contains_or_not}
use Rattle.ht_word.proofs.WordLaws.{after_cancel_right, word_rest, ones}
use Rattle.ht_pair.specs.Actions.{Moves}
use Rattle.ht_pair.specs.Bases.{IsBasis, longest}
use Rattle.ht_pair.specs.Pairs.{IsPair}
use Rattle.ht_pair.specs.Parts.{IsPeriodicPart, IsInfinitePart, HasParts}
use Rattle.ht_pair.specs.Products.{IsProduct}
use Rattle.ht_pair.specs.SemiNormal.{IsSemiNormal}
use Rattle.ht_pair.specs.Steps.{Carries}
use Rattle.ht_pair.specs.declared.row.Row.{Row}
use Rattle.ht_pair.proofs.BasisLaws.{some_at, basis_holds}
use Rattle.ht_pair.proofs.CarriesLaws.{carries_single, carries_word, carries_extends}
use Rattle.ht_pair.proofs.MovesLaws.{moves_map, moves_extends}
use Rattle.ht_pair.proofs.PrefixMapLaws.{long_word, length-long}
use Rattle.ht_types.proofs.PeriodicLaws.{cycle_around}
use Rattle.ht_types.proofs.TurnLaws.{infinite_kept}
use Rattle.ht_laws.proofs.PrefixLaws.{moves_carries}

-- what is carried from under the periodic part is under it
pub periodic_part_kept : (shape : Shape) (p : List Row) (X periodic : List Word) (k : ℤ) (u v : Word) → IsPair shape p → IsSemiNormal shape p X → IsPeriodicPart shape p X periodic → IsUnderSome u periodic → Carries shape p k u v → IsUnderSome v periodic
periodic_part_kept shape p X periodic k u v pair semi part s c =
    let x = (part.same s.above).0 s.listed in
    let z = s.under.rest in
    let hz = word_rest shape s.above z (subst (IsWordOf shape) s.under.is c.word) in
    let on = cycle_around shape p pair X semi k s.above x.1.0 x.0 x.1.1 in
    let same : v ≡ on.word · z = carries_single shape p pair k (s.above · z) v (on.word · z) (subst (λ t. Carries shape p k t v) s.under.is c) (carries_extends shape p k s.above on.word z hz on.carries) in
    some_at periodic on.word v ((part.same on.word).1 (on.listed, (x.1.0, on.cycle))) (record { rest = z; is = same })

-- what is carried from under the infinite part and is under the basis is under the infinite part
pub infinite_part_kept : (shape : Shape) (p : List Row) (X infinite : List Word) (k : ℤ) (u v : Word) → IsPair shape p → IsSemiNormal shape p X → IsInfinitePart shape p X infinite → IsUnderSome u infinite → Carries shape p k u v → IsUnderSome v X → IsUnderSome v infinite
infinite_part_kept shape p X infinite k u v pair semi part s c t =
    let there = infinite_kept (record { pair = pair; semi = semi }) k s.above t.above s.under.rest t.under.rest ((part.same s.above).0 s.listed) t.listed (subst₂ (Carries shape p k) s.under.is t.under.is c) in
    some_at infinite t.above v ((part.same t.above).1 there) t.under

-- so are long words that it is carried to
pub long_infinite_part_kept : (shape : Shape) (p : List Row) (X infinite : List Word) (k : ℤ) (u v : Word) → IsPair shape p → IsSemiNormal shape p X → IsInfinitePart shape p X infinite → IsUnderSome u infinite → Carries shape p k u v → longest X ≤ length v.letters → IsUnderSome v infinite
long_infinite_part_kept shape p X infinite k u v pair semi part s c long = infinite_part_kept shape p X infinite k u v pair semi part s c (basis_holds shape X semi.basis v (carries_word shape p pair k u v c) long)

-- a long word is under one part or the other
pub under_a_part : (shape : Shape) (p : List Row) (X : List Word) (s t : List Row) → IsBasis shape X → (h : HasParts shape p X s t) → (u : Word) → IsWordOf shape u → longest X ≤ length u.letters → IsUnderSome u h.periodic ⊎ IsUnderSome u h.infinite
under_a_part shape p X s t basis h u word long =
    let some = basis_holds shape X basis u word long in
    elim (contains_or_not h.periodic some.above) [
      | inl c ↦ inl (some_at h.periodic some.above u c some.under)
      | inr n ↦ inr (some_at h.infinite some.above u ((h.is_infinite.same some.above).1 (some.listed, (λ cycle. n ((h.is_periodic.same some.above).1 (some.listed, cycle))))) some.under)
    ]

-- the periodic part and then the infinite part are the element
pub periodic_then_infinite : (shape : Shape) (p : List Row) (X : List Word) (s t : List Row) → IsPair shape p → IsSemiNormal shape p X → HasParts shape p X s t → IsProduct shape s t p
periodic_then_infinite shape p X s t pair semi h = record {
  pair = pair;
  composed = λ u v w w' word f g e.
      let z = ones (longest X) in
      let long = long_word shape u (longest X) word in
      let f' = moves_extends s u v z f in
      let g' = moves_extends t v w z g in
      let e' = moves_extends p u w' z e in
      let word_v = (moves_map shape s h.on_periodic.pair).ahead.word (u · z) (v · z) long f' in
      after_cancel_right w w' z (elim (under_a_part shape p X s t semi.basis h (u · z) long (omega (arith, length-long u (longest X)))) [
        | inl under ↦ (
            let moved : w' · z ≡ v · z = h.on_periodic.on (u · z) (w' · z) (v · z) long under e' f' in
            let there : IsUnderSome (v · z) h.periodic = subst (λ a. IsUnderSome a h.periodic) moved (periodic_part_kept shape p X h.periodic (pos 1) (u · z) (w' · z) pair semi h.is_periodic under (moves_carries shape p (u · z) (w' · z) pair long e')) in
            let stays : v · z ≡ w · z = h.on_infinite.off (v · z) (w · z) word_v there g' in
            sym stays ∙ sym moved)
        | inr under ↦ (
            let stays : u · z ≡ v · z = h.on_periodic.off (u · z) (v · z) long under f' in
            sym (h.on_infinite.on (u · z) (w' · z) (w · z) long under e' (subst (λ a. Moves t a (w · z)) (sym stays) g')))
      ]);
}

-- and the infinite part and then the periodic part
pub infinite_then_periodic : (shape : Shape) (p : List Row) (X : List Word) (s t : List Row) → IsPair shape p → IsSemiNormal shape p X → HasParts shape p X s t → IsProduct shape t s p
infinite_then_periodic shape p X s t pair semi h = record {
  pair = pair;
  composed = λ u v w w' word f g e.
      let z = ones (longest X) in
      let long = long_word shape u (longest X) word in
      let f' = moves_extends t u v z f in
      let g' = moves_extends s v w z g in
      let e' = moves_extends p u w' z e in
      let word_v = (moves_map shape t h.on_infinite.pair).ahead.word (u · z) (v · z) long f' in
      after_cancel_right w w' z (elim (under_a_part shape p X s t semi.basis h (u · z) long (omega (arith, length-long u (longest X)))) [
        | inl under ↦ (
            let stays : u · z ≡ v · z = h.on_infinite.off (u · z) (v · z) long under f' in
            sym (h.on_periodic.on (u · z) (w' · z) (w · z) long under e' (subst (λ a. Moves s a (w · z)) (sym stays) g')))
        | inr under ↦ (
            let moved : w' · z ≡ v · z = h.on_infinite.on (u · z) (w' · z) (v · z) long under e' f' in
            let there : IsUnderSome (w' · z) h.infinite = long_infinite_part_kept shape p X h.infinite (pos 1) (u · z) (w' · z) pair semi h.is_infinite under (moves_carries shape p (u · z) (w' · z) pair long e') (omega (arith, length-long w' (longest X))) in
            let stays : v · z ≡ w · z = h.on_periodic.off (v · z) (w · z) word_v (subst (λ a. IsUnderSome a h.infinite) moved there) g' in
            sym stays ∙ sym moved)
      ]);
}
