-- The ponds of some words, one word after another.
use Rattle.std.proofs.Common.{◌≡◌, ℕ, ◌+◌, ◌<◌, inl, inr, List, [], ◌∷◌, ◌++◌, length, take, drop, get_or, Option, None, Some, option_to_list, sym, ap, ◌∙◌, subst, arith, AllPairs, Contains, pos}
use Rattle.std.proofs.lemmas.List.{append-nil, map-append, take_more, drop_more, take-append-drop}
use Rattle.std.proofs.lemmas.List.Elements.{Contains-append_cases, Contains-append_left, Contains-append_right}
use Rattle.std.specs.declared.cmp.Ordering.TheVariants.{Less}
use Rattle.ht_word.specs.Words.{word_cmp, IsAscending}
use Rattle.ht_word.specs.declared.shape.Shape.{Shape}
use Rattle.ht_word.specs.declared.word.Word.{Word}
use Rattle.ht_word.proofs.ListLaws.{Contains-nil, Contains-here, Contains-cons_cases, contained_in_map, AllPairs-nil, AllPairs-cons, AllPairs-append, AllPairs-across}
use Rattle.ht_num.proofs.NumberLaws.{once_least}
use Rattle.ht_pair.specs.Orbits.{IsPond}
use Rattle.ht_pair.specs.Pairs.{IsPair}
use Rattle.ht_pair.specs.Steps.{Carries}
use Rattle.ht_pair.specs.declared.row.Row.{Row}
use Rattle.ht_pair.proofs.CarriesLaws.{carries_single}
use Rattle.ht_types.specs.declared.sharing.Pond.{Pond}
use Rattle.ht_share.specs.InnerWords.{AreInner}
use Rattle.ht_share.specs.PondLists.{first_words, ArePonds, HasPond}

-- a word begins one pond at most
pond_once : (shape : Shape) (p : List Row) → IsPair shape p → (X : List Word) (u v w : Word) (j k : ℕ) → IsPond shape p X u j v → IsPond shape p X u k w → (j ≡ k) × (v ≡ w)
pond_once shape p pair X u v w j k a b =
    let same : j ≡ k = once_least j k a.first b.first in
    (same, carries_single shape p pair (pos k) u v w (subst (λ i. Carries shape p (pos i) u v) same a.carries) b.carries)

-- the ponds of the words
pub record ArePondsOf (shape : Shape) (p : List Row) (X words : List Word) (ponds : List Pond) : Type 0 where
  pub ascending : IsAscending (first_words ponds)
  pub each : (pond : Pond) → Contains ponds pond → Contains words pond.from × IsPond shape p X pond.from pond.steps pond.to
  pub all : (u : Word) (k : ℕ) (v : Word) → Contains words u → IsPond shape p X u k v → Contains ponds (record { from = u; steps = k; to = v })

pub listed_none : (shape : Shape) (p : List Row) (X : List Word) → ArePondsOf shape p X [] []
listed_none shape p X = record {
  ascending = AllPairs-nil (λ s t. word_cmp s t ≡ Less);
  each = λ pond c. absurd (Contains-nil pond c);
  all = λ u k v c pond. absurd (Contains-nil u c);
}

listed_more : (shape : Shape) (p : List Row) → IsPair shape p → (X words : List Word) (u : Word) (ponds : List Pond) (found : Option Pond) → ((w : Word) → Contains words w → word_cmp w u ≡ Less) → HasPond shape p X u found → ArePondsOf shape p X words ponds → ArePondsOf shape p X (words ++ u ∷ []) (ponds ++ option_to_list found)
listed_more shape p pair X words u ponds None before none l = record {
  ascending = subst (λ t. IsAscending (first_words t)) (sym (append-nil ponds)) l.ascending;
  each = λ pond c. let g = l.each pond (subst (λ t. Contains t pond) (append-nil ponds) c) in (Contains-append_left words (u ∷ []) pond.from g.0, g.1);
  all = λ w k v c pond. subst (λ t. Contains t (record { from = w; steps = k; to = v })) (sym (append-nil ponds)) (elim (Contains-append_cases words (u ∷ []) w c) [
    | inl e ↦ l.all w k v e pond
    | inr e ↦ elim (Contains-cons_cases u [] w e) [ inl same ↦ absurd (none k v (subst (λ t. IsPond shape p X t k v) (sym same) pond)) | inr n ↦ absurd (Contains-nil w n) ]
  ]);
}
listed_more shape p pair X words u ponds (Some new) before has l = record {
  ascending = subst IsAscending (sym (map-append (λ (t : Pond). t.from) ponds (new ∷ []))) (AllPairs-append (λ s t. word_cmp s t ≡ Less) (first_words ponds) (new.from ∷ []) l.ascending one (λ s t c e.
      let g = contained_in_map (λ (t : Pond). t.from) ponds s c in
      elim (Contains-cons_cases new.from [] t e) [
        | inr n ↦ absurd (Contains-nil t n)
        | inl same ↦ subst (λ y. word_cmp s y ≡ Less) (sym has.0 ∙ same) (subst (λ y. word_cmp y u ≡ Less) g.2 (before g.0.from (l.each g.0 g.1).0))
      ]));
  each = λ pond c. elim (Contains-append_cases ponds (new ∷ []) pond c) [
    | inl e ↦ (let g = l.each pond e in (Contains-append_left words (u ∷ []) pond.from g.0, g.1))
    | inr e ↦ elim (Contains-cons_cases new [] pond e) [
      | inr n ↦ absurd (Contains-nil pond n)
      | inl same ↦ subst (λ (t : Pond). Contains (words ++ u ∷ []) t.from × IsPond shape p X t.from t.steps t.to) same (Contains-append_right words (u ∷ []) new.from (subst (Contains (u ∷ [])) (sym has.0) (Contains-here u [])), its_own)
    ]
  ];
  all = λ w k v c pond. elim (Contains-append_cases words (u ∷ []) w c) [
    | inl e ↦ Contains-append_left ponds (new ∷ []) (record { from = w; steps = k; to = v }) (l.all w k v e pond)
    | inr e ↦ elim (Contains-cons_cases u [] w e) [
      | inr n ↦ absurd (Contains-nil w n)
      | inl same ↦ Contains-append_right ponds (new ∷ []) (record { from = w; steps = k; to = v }) (by w k v same pond)
    ]
  ];
}
  where
    one : IsAscending (new.from ∷ [])
    one = AllPairs-cons (λ s t. word_cmp s t ≡ Less) new.from [] (λ i d less. absurd (omega arith)) (AllPairs-nil (λ s t. word_cmp s t ≡ Less))

    its_own : IsPond shape p X new.from new.steps new.to
    its_own = subst (λ t. IsPond shape p X t new.steps new.to) (sym has.0) has.1

    by : (w : Word) (k : ℕ) (v : Word) → u ≡ w → IsPond shape p X w k v → Contains (new ∷ []) (record { from = w; steps = k; to = v })
    by w k v same pond =
        let o = pond_once shape p pair X u new.to v new.steps k has.1 (subst (λ t. IsPond shape p X t k v) (sym same) pond) in
        let first : new.from ≡ w = has.0 ∙ same in
        let is : new ≡ record { from = w; steps = k; to = v } = λ i. record { from = first i; steps = o.0 i; to = o.1 i } in
        subst (Contains (new ∷ [])) is (Contains-here new [])

-- as the code reads the words
pub listed_next : (shape : Shape) (p : List Row) → IsPair shape p → (X words : List Word) → IsAscending words → (i : ℕ) (u : Word) → i < length words → u ≡ get_or words i u → (ponds new : List Pond) (found : Option Pond) → HasPond shape p X u found → new ≡ ponds ++ option_to_list found
    → ArePondsOf shape p X (take i words) ponds → ArePondsOf shape p X (take (i + 1) words) new
listed_next shape p pair X words ascending i u within is ponds new found has added l =
    let back = drop i words in
    let split : take i words ++ back ≡ words = take-append-drop i words in
    let here : back ≡ u ∷ drop (i + 1) words = drop_more words i u within ∙ ap (λ w. w ∷ drop (i + 1) words) (sym is) in
    let next : take (i + 1) words ≡ take i words ++ u ∷ [] = take_more words i u within ∙ ap (λ w. take i words ++ w ∷ []) (sym is) in
    subst (λ W. ArePondsOf shape p X W new) (sym next) (subst (ArePondsOf shape p X (take i words ++ u ∷ [])) (sym added)
    (listed_more shape p pair X (take i words) u ponds found (λ w c. AllPairs-across (λ s t. word_cmp s t ≡ Less) (take i words) back (subst (AllPairs (λ s t. word_cmp s t ≡ Less)) (sym split) ascending) w u c (subst (λ W. Contains W u) (sym here) (Contains-here u (drop (i + 1) words)))) has l))

-- the ponds of the inner words are all ponds
pub listed_all : (shape : Shape) (p : List Row) (X words : List Word) (ponds : List Pond) → AreInner shape p X words → ArePondsOf shape p X words ponds → ArePonds shape p X ponds
listed_all shape p X words ponds inner l = record {
  ascending = l.ascending;
  same = λ u k v. (
    (λ c. (l.each (record { from = u; steps = k; to = v }) c).1),
    (λ pond. l.all u k v ((inner.same u).1 (record { word = pond.carries.word; under = pond.under; leaves = pond.leaves })) pond),
  );
}
