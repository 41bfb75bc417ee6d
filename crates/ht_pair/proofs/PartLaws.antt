-- The words of a list with a property; and that the parts of an element and its profile are determined.
use Rattle.std.proofs.Common.{◌≡◌, ℕ, ◌<◌, ◌⊎◌, inl, inr, List, [], ◌∷◌, sym, ◌∙◌, subst, arith, Contains, ◌+◌}
use Rattle.std.proofs.lemmas.List.Elements.{All-contains}
use Rattle.std.specs.declared.cmp.Ordering.TheVariants.{Less}
use Rattle.ht_word.specs.Words.{◌·◌, IsUnderSome, IsAscending, word_cmp}
use Rattle.ht_word.specs.declared.shape.Shape.{Shape}
use Rattle.ht_word.specs.declared.word.Word.{Word}
use Rattle.ht_word.proofs.Deciding.{same_word_or_not}
use Rattle.ht_word.proofs.ListLaws.{Contains-nil, Contains-here, Contains-there, Contains-cons_cases, AllPairs-nil, AllPairs-cons, AllPairs-head, AllPairs-tail, ascending_same}
use Rattle.ht_word.proofs.WordLaws.{All-from_contains, after_cancel_right, ones, word_cmp_once}
use Rattle.ht_pair.specs.Actions.{Moves, Alike}
use Rattle.ht_pair.specs.Bases.{longest, IsBasis}
use Rattle.ht_pair.specs.Kinds.{IsCycleWord}
use Rattle.ht_pair.specs.Pairs.{IsPair}
use Rattle.ht_pair.specs.Parts.{IsSelected, MovesOnly, HasParts}
use Rattle.ht_pair.specs.Profiles.{IsProfile}
use Rattle.ht_pair.specs.declared.row.Row.{Row}
use Rattle.ht_pair.proofs.BasisLaws.{basis_holds}
use Rattle.ht_pair.proofs.MovesLaws.{moves_map}
use Rattle.ht_pair.proofs.PrefixMapLaws.{long_word, length-long, moved_long}

-- the words of an ascending list with a property, in order
pub select : (P : Word → Type 0) (X : List Word) → ((x : Word) → Contains X x → P x ⊎ ¬ P x) → IsAscending X → (W : List Word) × IsSelected P X W
select P [] told ascending = ([], record { ascending = AllPairs-nil (λ u v. word_cmp u v ≡ Less); same = λ x. ((λ c. absurd (Contains-nil x c)), (λ h. absurd (Contains-nil x h.0))) })
select P (y ∷ X) told ascending =
    let R : Word → Word → Type 0 = λ u v. word_cmp u v ≡ Less in
    let rest = select P X (λ x c. told x (Contains-there y X x c)) (AllPairs-tail R y X ascending) in
    let W = rest.0 in
    elim (told y (Contains-here y X)) [
      | inl h ↦ (
        y ∷ W,
        record {
          ascending = AllPairs-cons R y W (All-from_contains (R y) W (λ x c. All-contains (R y) X x (AllPairs-head R y X ascending) ((rest.1.same x).0 c).0)) rest.1.ascending;
          same = λ x. (
            (λ c. elim (Contains-cons_cases y W x c) [
              | inl e ↦ (subst (Contains (y ∷ X)) e (Contains-here y X), subst P e h)
              | inr d ↦ (let g = (rest.1.same x).0 d in (Contains-there y X x g.0, g.1))
            ]),
            (λ g. elim (Contains-cons_cases y X x g.0) [
              | inl e ↦ subst (Contains (y ∷ W)) e (Contains-here y W)
              | inr d ↦ Contains-there y W x ((rest.1.same x).1 (d, g.1))
            ]),
          );
        },
      )
      | inr n ↦ (
        W,
        record {
          ascending = rest.1.ascending;
          same = λ x. (
            (λ c. let g = (rest.1.same x).0 c in (Contains-there y X x g.0, g.1)),
            (λ g. elim (Contains-cons_cases y X x g.0) [
              | inl e ↦ absurd (n (subst P (sym e) g.1))
              | inr d ↦ (rest.1.same x).1 (d, g.1)
            ]),
          );
        },
      )
    ]

-- two ascending lists of the words of X with a property are one
pub selected_once : (P : Word → Type 0) (X W V : List Word) → IsSelected P X W → IsSelected P X V → W ≡ V
selected_once P X W V h g = ascending_same (λ u v. word_cmp u v ≡ Less) word_cmp_once W V h.ascending g.ascending (λ x c. (g.same x).1 ((h.same x).0 c)) (λ x c. (h.same x).1 ((g.same x).0 c))

-- two pairs that move words as p under V and fix those under W are alike, where no word of X is outside V and W
moves_only_once : (shape : Shape) (p : List Row) (X V W : List Word) → IsPair shape p → IsBasis shape X → ((x : Word) → Contains X x → ¬ Contains V x → ¬ Contains W x → ⊥) → (s t : List Row) → MovesOnly shape p V W s → MovesOnly shape p V W t → Alike shape s t
moves_only_once shape p X V W pair basis whole s t hs ht = λ u v v' h f g. elim (same_word_or_not v v') [
  | inl e ↦ e
  | inr n ↦ absurd (
      let mp = (moves_map shape p pair).ahead in
      let ms = (moves_map shape s hs.pair).ahead in
      let mt = (moves_map shape t ht.pair).ahead in
      let z = ones (mp.bound + longest X) in
      let hz = long_word shape u (mp.bound + longest X) h in
      let y = moved_long shape (Moves p) mp u (mp.bound + longest X) h (omega arith) in
      let some = basis_holds shape X basis (u · z) hz (omega (arith, length-long u (mp.bound + longest X))) in
      let f' = ms.extends u v z f in
      let g' = mt.extends u v' z g in
      whole some.above some.listed
      (λ c. let at : IsUnderSome (u · z) V = record { above = some.above; listed = c; under = some.under } in
      n (after_cancel_right v v' z (sym (hs.on (u · z) y.0 (v · z) hz at y.1 f') ∙ ht.on (u · z) y.0 (v' · z) hz at y.1 g')))
      (λ c. let at : IsUnderSome (u · z) W = record { above = some.above; listed = c; under = some.under } in
      n (after_cancel_right v v' z (sym (hs.off (u · z) (v · z) hz at f') ∙ ht.off (u · z) (v' · z) hz at g'))))
]

-- two cuts of one pair are alike, part by part
pub parts_once : (shape : Shape) (p : List Row) (X : List Word) → IsPair shape p → IsBasis shape X → (s t s' t' : List Row) → HasParts shape p X s t → HasParts shape p X s' t' → Alike shape s s' × Alike shape t t'
parts_once shape p X pair basis s t s' t' h g =
    let same_p : g.periodic ≡ h.periodic = selected_once (IsCycleWord shape p) X g.periodic h.periodic g.is_periodic h.is_periodic in
    let same_i : g.infinite ≡ h.infinite = selected_once (λ x. ¬ IsCycleWord shape p x) X g.infinite h.infinite g.is_infinite h.is_infinite in
    let on : MovesOnly shape p h.periodic h.infinite s' = subst (λ W. MovesOnly shape p h.periodic W s') same_i (subst (λ V. MovesOnly shape p V g.infinite s') same_p g.on_periodic) in
    let off : MovesOnly shape p h.infinite h.periodic t' = subst (λ W. MovesOnly shape p h.infinite W t') same_p (subst (λ V. MovesOnly shape p V g.periodic t') same_i g.on_infinite) in (
      moves_only_once shape p X h.periodic h.infinite pair basis (λ x c n m. m ((h.is_infinite.same x).1 (c, (λ k. n ((h.is_periodic.same x).1 (c, k)))))) s s' h.on_periodic on,
      moves_only_once shape p X h.infinite h.periodic pair basis (λ x c n m. n ((h.is_infinite.same x).1 (c, (λ k. m ((h.is_periodic.same x).1 (c, k)))))) t t' h.on_infinite off,
    )

-- an element has one profile
pub profile_once : (shape : Shape) (p : List Row) (X : List Word) (xs ys : List (ℕ × ℕ)) → IsProfile shape p X xs → IsProfile shape p X ys → xs ≡ ys
profile_once shape p X xs ys h g = ascending_same (λ (d : ℕ × ℕ) (e : ℕ × ℕ). d.0 < e.0) (λ d e l k. omega (arith, l, k)) xs ys h.ascending g.ascending (λ d c. (g.same d.0 d.1).1 ((h.same d.0 d.1).0 c)) (λ d c. (h.same d.0 d.1).1 ((g.same d.0 d.1).0 c))
