-- The two parts of an element: their words are listed, they are told by alike pairs, and the first large one is that of the two that are made.
use Rattle.std.proofs.Common.{◌≡◌, ℕ, ◌≤◌, ◌⊎◌, inl, inr, List, length, Result, Err, sym, ap, ◌∙◌, subst, arith, Contains}
use Rattle.std.specs.Result.{IsErrOf}
use Rattle.ht_word.specs.Words.{◌·◌, IsAscending}
use Rattle.ht_word.specs.declared.shape.Shape.{Shape}
use Rattle.ht_word.specs.declared.word.Word.{Word}
use Rattle.ht_word.proofs.WordLaws.{after_cancel_right, ones, under_after}
use Rattle.ht_pair.specs.Actions.{Moves, Alike, IsCanonicalFor}
use Rattle.ht_pair.specs.Bases.{IsBasis}
use Rattle.ht_pair.specs.Elements.{ElementValue, IsElement}
use Rattle.ht_pair.specs.Kinds.{IsCycleWord}
use Rattle.ht_pair.specs.Pairs.{IsPair, from_words, longest_of}
use Rattle.ht_pair.specs.Parts.{MovesOnly, HasParts}
use Rattle.ht_pair.specs.SemiNormal.{IsSemiNormal}
use Rattle.ht_pair.specs.Sizes.{IsLarge}
use Rattle.ht_pair.specs.declared.fault.OpFault.{OpFault}
use Rattle.ht_pair.specs.declared.row.Row.{Row}
use Rattle.ht_pair.proofs.AlikeLaws.{alike_sym}
use Rattle.ht_pair.proofs.BasisLaws.{some_trans}
use Rattle.ht_pair.proofs.MovesLaws.{moves_map}
use Rattle.ht_pair.proofs.PartLaws.{parts_once, select}
use Rattle.ht_pair.proofs.PrefixMapLaws.{long_word, moved_long}
use Rattle.ht_pair.proofs.SizeLaws.{alike_not_large}
use Rattle.ht_quasi.specs.declared.quasi.Quasi.{Quasi}
use Rattle.ht_types.specs.declared.kind.Kind.{Kind}
use Rattle.ht_types.specs.TypedElements.{IsTyped}
use Rattle.ht_types.proofs.CycleKindLaws.{cycle_or_not}
use Rattle.ht_parts.specs.LargeParts.{IsLargePart}
use Rattle.ht_parts.specs.PartRows.{IsOther, ArePartRows}
use Rattle.ht_parts.proofs.WithinLaws.{cycle_split, split_turned, part_moves}

-- ---- the parts

-- rows of both parts
pub rows_are_parts : (shape : Shape) (p : List Row) → IsPair shape p → (X : List Word) → IsSemiNormal shape p X → IsAscending X → ((x : Word) → Contains X x → IsCycleWord shape p x ⊎ ¬ IsCycleWord shape p x) → (U : List Word) (first second : List Row) → IsBasis shape U
    → ArePartRows p X (IsCycleWord shape p) (IsOther shape p) X first → ArePartRows p X (IsOther shape p) (IsCycleWord shape p) U second → HasParts shape p X first second
rows_are_parts shape p pair X semi ascending told U first second basis periodic infinite =
    let split = cycle_split shape p pair X semi told in
    let V = select (IsCycleWord shape p) X told ascending in
    let W = select (IsOther shape p) X (λ x c. other x (told x c)) ascending in
    record {
      periodic = V.0;
      infinite = W.0;
      is_periodic = V.1;
      is_infinite = W.1;
      on_periodic = part_moves shape p pair X (IsCycleWord shape p) (IsOther shape p) split X first semi.basis periodic V.0 W.0 V.1 W.1;
      on_infinite = part_moves shape p pair X (IsOther shape p) (IsCycleWord shape p) (split_turned shape p X (IsCycleWord shape p) (IsOther shape p) split) U second basis infinite W.0 V.0 W.1 V.1;
    }
  where
    other : (x : Word) → IsCycleWord shape p x ⊎ ¬ IsCycleWord shape p x → IsOther shape p x ⊎ ¬ IsOther shape p x
    other x t = elim t [ inl h ↦ inr (λ n. n h) | inr n ↦ inl n ]

-- a pair that is alike moves the same words so
moves_only_alike : (shape : Shape) (p s t : List Row) (V W : List Word) → MovesOnly shape p V W s → IsPair shape p → IsPair shape t → Alike shape t s → MovesOnly shape p V W t
moves_only_alike shape p s t V W only pair_p pair alike = record {
  pair = pair;
  on = λ u v v' h some m n.
      let ms = (moves_map shape s only.pair).ahead in
      let z = ones ms.bound in
      let hz = long_word shape u ms.bound h in
      let y = moved_long shape (Moves s) ms u ms.bound h (omega arith) in
      let first : v · z ≡ y.0 = only.on (u · z) (v · z) y.0 hz (some_trans (under_after u z) some) ((moves_map shape p pair_p).ahead.extends u v z m) y.1 in
      let second : v' · z ≡ y.0 = alike (u · z) (v' · z) y.0 hz ((moves_map shape t pair).ahead.extends u v' z n) y.1 in
      after_cancel_right v v' z (first ∙ sym second);
  off = λ u v h some n.
      let ms = (moves_map shape s only.pair).ahead in
      let z = ones ms.bound in
      let hz = long_word shape u ms.bound h in
      let y = moved_long shape (Moves s) ms u ms.bound h (omega arith) in
      let first : u · z ≡ y.0 = only.off (u · z) y.0 hz (some_trans (under_after u z) some) y.1 in
      let second : v · z ≡ y.0 = alike (u · z) (v · z) y.0 hz ((moves_map shape t pair).ahead.extends u v z n) y.1 in
      after_cancel_right u v z (first ∙ sym second);
}

-- an element that moves words as rows do
pub record IsElementOf (shape : Shape) (rows : List Row) (made : List Row) : Type 0 where
  pub element : IsElement shape made
  pub alike : Alike shape made rows

-- elements of the rows of the parts are the parts
pub parts_alike : (shape : Shape) (p : List Row) (X : List Word) (s t s' t' : List Row) → IsPair shape p → HasParts shape p X s t → IsElementOf shape s s' → IsElementOf shape t t' → HasParts shape p X s' t'
parts_alike shape p X s t s' t' pair parts first second = record {
  periodic = parts.periodic;
  infinite = parts.infinite;
  is_periodic = parts.is_periodic;
  is_infinite = parts.is_infinite;
  on_periodic = moves_only_alike shape p s s' parts.periodic parts.infinite parts.on_periodic pair first.element.canonical.pair first.alike;
  on_infinite = moves_only_alike shape p t t' parts.infinite parts.periodic parts.on_infinite pair second.element.canonical.pair second.alike;
}

-- ---- large parts

-- where both parts have elements none is large
pub no_large_part : (shape : Shape) (p : List Row) (X : List Word) (s t s' t' : List Row) → IsPair shape p → IsBasis shape X → HasParts shape p X s t → IsElementOf shape s s' → IsElementOf shape t t' → (rows letters : ℕ) → ¬ IsLargePart shape p X rows letters
no_large_part shape p X s t s' t' pair basis parts first second rows letters large =
    let same = parts_once shape p X pair basis large.first large.second s' t' large.parts (parts_alike shape p X s t s' t' pair parts first second) in
    elim large.large [
      | inl h ↦ alike_not_large shape s' large.first rows letters first.element large.parts.on_periodic.pair same.0 h
      | inr later ↦ elim later.1 [
        | inl h ↦ alike_not_large shape t' large.second rows letters second.element large.parts.on_infinite.pair same.1 h
        | inr none ↦ none.1
      ]
    ]

-- the first part is large
pub first_large : (shape : Shape) (p : List Row) (X : List Word) (s t : List Row) (rows letters : ℕ) → HasParts shape p X s t → IsLarge shape s rows letters → IsLargePart shape p X rows letters
first_large shape p X s t rows letters parts large = record { first = s; second = t; parts = parts; large = inl large }

-- the second is, where the first has an element
pub second_large : (shape : Shape) (p : List Row) (X : List Word) (s t s' : List Row) (rows letters : ℕ) → HasParts shape p X s t → IsElementOf shape s s' → IsLarge shape t rows letters → IsLargePart shape p X rows letters
second_large shape p X s t s' rows letters parts first large = record {
  first = s;
  second = t;
  parts = parts;
  large = inr ((λ i j. alike_not_large shape s' s i j first.element parts.on_periodic.pair (alike_sym shape s' s first.alike)), inl large);
}

-- ---- of a typed element

-- the rows that are made
pub typed_parts : (element : ElementValue) (quasi : Quasi) (kinds : List Kind) (first second : List Row) → IsTyped element quasi kinds → ArePartRows element.rows quasi.basis.words (IsCycleWord element.shape element.rows) (IsOther element.shape element.rows) quasi.basis.words first
    → ArePartRows element.rows quasi.basis.words (IsOther element.shape element.rows) (IsCycleWord element.shape element.rows) (from_words quasi.y) second → HasParts element.shape element.rows quasi.basis.words first second
typed_parts element quasi kinds first second typed periodic infinite =
    let quasinormal = typed.quasinormal.least in
    rows_are_parts element.shape element.rows typed.canonical.pair quasi.basis.words quasinormal.semi_normal quasinormal.ascending (cycle_or_not element.shape element.rows quasi.basis.words kinds typed.canonical.pair typed.kinds_are) (from_words quasi.y) first second
    typed.quasinormal.rows.basis periodic infinite

-- the shape, as it is read
pub shape_read : (shape : Shape) (given element : ElementValue) → shape ≡ given.shape → given ≡ element → shape ≡ element.shape
shape_read shape given element e same = e ∙ ap (λ (t : ElementValue). t.shape) same

-- a fault that is passed on
pub fault_passed : {A : Type 0} (result : Result A OpFault) (passed came fault : OpFault) → result ≡ Err passed → passed ≡ came → IsErrOf result fault → came ≡ fault
fault_passed {A} result passed came fault is same h = let e : ◌≡◌ {A = Result A OpFault} (Err passed) (Err fault) = sym is ∙ h in cc

-- the rows of a part are in the order of the words that they are made from
pub part_order : (p : List Row) (X : List Word) (P Q : Word → Type 0) (U : List Word) (rows : List Row) → ArePartRows p X P Q U rows → IsAscending U → IsAscending (from_words rows)
part_order p X P Q U rows h ascending = subst IsAscending (sym h.from) ascending

-- the element that is made
pub element_made : (shape given : Shape) (rows : List Row) (element : ElementValue) → given ≡ shape → (element.shape ≡ given) × IsCanonicalFor given element.rows rows → (length element.rows ≤ 8192) × (longest_of element.rows ≤ 1024)
    → IsElementOf shape rows element.rows
element_made shape given rows element same made small =
    subst (λ (s : Shape). IsElementOf s rows element.rows) same (record { element = record { canonical = made.1.form; few_rows = small.0; short_words = small.1 }; alike = made.1.alike })
