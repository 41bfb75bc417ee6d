-- What the ponds that are known of some words tell of where steps carry them.
use Rattle.std.proofs.Common.{◌≡◌, ℕ, zero, suc, ◌+◌, ◌-◌, ◌≤◌, ◌<◌, ◌↔◌, inl, inr, List, [], ◌∷◌, ◌++◌, length, get_or, Option, None, Some, slice_get, refl, sym, ap, subst, subst₂, arith, pos}
use Rattle.std.specs.List.{HoldsAt}
use Rattle.std.specs.Cmp.Lexicographic.{slice_cmp}
use Rattle.std.specs.Ordering.{nat_cmp}
use Rattle.std.specs.declared.cmp.Ordering.TheVariants.{Equal}
use Rattle.std.proofs.lemmas.Map.Lookups.{exact_unsigned, exact_bytes, exact_pairs}
use Rattle.std.proofs.lemmas.List.{length-append}
use Rattle.std.proofs.lemmas.Option.{slice_get_read, slice_get_within, get_or_from_slice_get}
use Rattle.ht_word.specs.Words.{word_cmp, IsUnderSome}
use Rattle.ht_word.specs.declared.shape.Shape.{Shape}
use Rattle.ht_word.specs.declared.word.Word.{Word}
use Rattle.ht_word.proofs.WordLaws.{word_eq}
use Rattle.ht_pair.specs.Pairs.{IsPair}
use Rattle.ht_pair.specs.Steps.{Carries}
use Rattle.ht_pair.specs.declared.row.Row.{Row}
use Rattle.ht_types.specs.declared.sharing.Pond.{Pond}
use Rattle.ht_quasi.proofs.StepLaws.{at_push}
use Rattle.ht_quasi.proofs.RoundLaws.{something_at as word_at}
use Rattle.ht_types.proofs.EntryLaws.{entry_front, entry_push}
use Rattle.ht_share.specs.InnerWords.{IsInner}
use Rattle.ht_share.specs.PondLists.{HasPond, AreFound}
use Rattle.ht_share.proofs.ReturnLaws.{none_ever, not_before, from_end}

-- words that neither comes before the other are equal
same_word : (u v : Word) → word_cmp u v ≡ Equal → u ≡ v
same_word u v e = let same = exact_pairs nat_cmp (slice_cmp nat_cmp) exact_unsigned exact_bytes (u.root, u.letters) (v.root, v.letters) e in word_eq (ap (λ t. t.0) same) (ap (λ t. t.1) same)

-- what a search finds is known
pub known : (shape : Shape) (p : List Row) (X words : List Word) (found : List (Option Pond)) → AreFound shape p X words found → (u : Word) (place : ℕ) (pond : Option Pond) → place < length words → HoldsAt (λ w. word_cmp w u ≡ Equal) words place
    → pond ≡ get_or found (length words - 1 - place) pond → IsInner shape p X u × HasPond shape p X u pond
known shape p X words found are u place pond less equal read =
    let w = word_at words place less in
    let same : w.0 ≡ u = same_word w.0 u (subst (λ t. word_cmp t u ≡ Equal) (get_or_from_slice_get words place w.0 u w.1) (equal u)) in
    let j = length words - 1 - place in
    subst (λ t. IsInner shape p X t × HasPond shape p X t pond) same (are.each place j w.0 pond (omega (arith, less)) w.1 (slice_get_read found (length words) j pond (sym are.many) (omega (arith, less)) read))

-- a word that leaves X and has no pond is carried to no word under X
pub not_known : (shape : Shape) (p : List Row) (X : List Word) (u v : Word) (k : ℕ) → IsInner shape p X u → HasPond shape p X u None → 1 ≤ k → IsUnderSome v X → ¬ Carries shape p (pos k) u v
not_known shape p X u v k inner none positive under carries = none_ever shape p X u inner none k k positive (omega arith) (record { to = v; carries = carries; under = under })

-- nor is one whose pond ends later
pub not_yet : (shape : Shape) (p : List Row) (X : List Word) (u v : Word) (k : ℕ) (pond : Pond) → HasPond shape p X u (Some pond) → 1 ≤ k → k < pond.steps → IsUnderSome v X → ¬ Carries shape p (pos k) u v
not_yet shape p X u v k pond has positive less under carries = not_before shape p X u pond.to pond.steps k has.1 positive less (record { to = v; carries = carries; under = under })

-- one whose pond has ended is carried on from its end
pub on_from_end : (shape : Shape) (p : List Row) → IsPair shape p → (X : List Word) (u v : Word) (k : ℕ) (pond : Pond) → HasPond shape p X u (Some pond) → pond.steps ≤ k → Carries shape p (pos k) u v ↔ Carries shape p (pos (k - pond.steps)) pond.to v
on_from_end shape p pair X u v k pond has less = from_end shape p pair X u v pond.to pond.steps k has.1 less

-- ---- the ponds of words, from the last one to the first

pub found_none : (shape : Shape) (p : List Row) (X : List Word) → AreFound shape p X [] []
found_none shape p X = record { many = refl; each = λ i j u pond whole here there. absurd (omega (arith, whole)) }

-- one more word in front
pub found_more : (shape : Shape) (p : List Row) (X words : List Word) (found : List (Option Pond)) (u : Word) (pond : Option Pond) → IsInner shape p X u → HasPond shape p X u pond → AreFound shape p X words found → AreFound shape p X (u ∷ words) (found ++ pond ∷ [])
found_more shape p X words found u pond inner has are = record {
  many = omega (arith, are.many, length-append found (pond ∷ []));
  each = each;
}
  where
    each : (i j : ℕ) (w : Word) (other : Option Pond) → suc (i + j) ≡ length (u ∷ words) → slice_get (u ∷ words) i ≡ Some w → slice_get (found ++ pond ∷ []) j ≡ Some other → IsInner shape p X w × HasPond shape p X w other
    each zero j w other whole here there = elim (at_push found pond other j there) [
      | inl inside ↦ absurd (omega (arith, whole, are.many, slice_get_within found j other inside))
      | inr last ↦ let k : Some u ≡ Some w = here in let same : u ≡ w = cc in (subst (IsInner shape p X) same inner, subst₂ (HasPond shape p X) same last.1 has)
    ]
    each (suc i) j w other whole here there = elim (at_push found pond other j there) [
      | inl inside ↦ are.each i j w other (omega (arith, whole)) here inside
      | inr last ↦ absurd (omega (arith, whole, are.many, last.0))
    ]

-- the first word without its pond, which is the last one
pub found_last : (shape : Shape) (p : List Row) (X words : List Word) (found : List (Option Pond)) (u : Word) (pond : Option Pond) → AreFound shape p X (u ∷ words) (found ++ pond ∷ []) → HasPond shape p X u pond × AreFound shape p X words found
found_last shape p X words found u pond are =
    let many : length found ≡ length words = omega (arith, are.many, length-append found (pond ∷ [])) in (
      (are.each 0 (length found) u pond (omega (arith, many)) refl (entry_push found pond)).1,
      record { many = many; each = λ i j w other whole here there. are.each (suc i) j w other (omega (arith, whole)) here (entry_front found (pond ∷ []) j other there) },
    )
