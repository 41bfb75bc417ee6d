-- The joins of the words of a quasinormal basis are told by the rows of what one step carries under it.
use Rattle.std.proofs.Common.{◌≡◌, ℕ, ◌+◌, ◌≤◌, ◌<◌, ◌⊎◌, inl, inr, Bool, true, false, IsTrue, List, [], ◌∷◌, ◌++◌, length, get_or, take, refl, sym, ap, ◌∙◌, subst, arith, All, Contains, ◌↔◌, Some, slice_get}
use Rattle.std.proofs.lemmas.Bool.{cases_lt}
use Rattle.std.proofs.lemmas.List.{length-append, get_or_append_left, take_all, take_more}
use Rattle.std.proofs.lemmas.List.Elements.{Contains-append_left, Contains-append_right}
use Rattle.std.proofs.lemmas.Option.{slice_get_within, get_or_from_slice_get}
use Rattle.std.proofs.Math.Seq.{get_or-append_seam}
use Rattle.ht_word.specs.Words.{IsUnderSome}
use Rattle.ht_word.specs.declared.shape.Shape.{Shape}
use Rattle.ht_word.specs.declared.word.Word.{Word}
use Rattle.ht_word.proofs.ListLaws.{Contains-here, Contains-nil}
use Rattle.ht_word.proofs.WordLaws.{under_both, All-from_contains}
use Rattle.ht_pair.specs.Bases.{IsBasis, IsPrefixFree}
use Rattle.ht_pair.specs.Elements.{ElementValue}
use Rattle.ht_pair.specs.HeldBases.{IsPlaceAbove}
use Rattle.ht_pair.specs.Kinds.{IsCycleWord}
use Rattle.ht_pair.specs.Pairs.{IsPair}
use Rattle.ht_pair.specs.declared.row.Row.{Row}
use Rattle.ht_pair.proofs.BasisLaws.{prefix_free_place, prefix_free_same, some_at}
use Rattle.ht_pair.proofs.Sequences.{in_front_or}
use Rattle.ht_quasi.specs.Quasis.{IsYOf}
use Rattle.ht_quasi.specs.Rounds.{IsMarked}
use Rattle.ht_quasi.specs.declared.quasi.Quasi.{Quasi}
use Rattle.ht_quasi.proofs.StepLaws.{listed_at}
use Rattle.ht_types.specs.TypedElements.{IsTyped}
use Rattle.ht_types.specs.WordKinds.{HasKind}
use Rattle.ht_types.specs.declared.kind.Kind.{Kind}
use Rattle.ht_types.specs.declared.kind.Kind.TheVariants.{Cycle}
use Rattle.ht_types.proofs.CycleKindLaws.{other_kind}
use Rattle.ht_types.proofs.JoinedLaws.{joined_by_row}
use Rattle.ht_atoms.specs.declared.join.Join.{Join}
use Rattle.ht_atoms.specs.Joins.{IsMarkedInfinite, AreJoins, IsRowJoin, AreRowJoins}

-- ---- joins and rows

-- the joins of the rows of what one step carries under X are all joins
joins_of_rows : (shape : Shape) (p : List Row) (X : List Word) (y : List Row) → IsPair shape p → IsBasis shape X → IsYOf shape p X y → (joins : List Join) → AreRowJoins shape p X y joins → AreJoins shape p X joins
joins_of_rows shape p X y pair basis of joins are join = (
  λ c.
      let r = (are join).0 c in
      let from = r.2.from.found in
      let to = r.2.to.found in
      record {
        one = from.word;
        other = to.word;
        here = from.here;
        there = to.here;
        infinite = (r.2.from.infinite, r.2.to.infinite);
        joined = (joined_by_row shape p pair X basis y of from.word to.word (listed_at X join.first from.word from.here) (listed_at X join.second to.word to.here)).1 (record { row = r.0; listed = r.1; from = from.above; to = to.above });
      },
  λ j.
      let r = (joined_by_row shape p pair X basis y of j.one j.other (listed_at X join.first j.one j.here) (listed_at X join.second j.other j.there)).0 j.joined in
      (are join).1 (
        r.row,
        r.listed,
        record {
          from = record { found = record { word = j.one; here = j.here; above = r.from }; infinite = j.infinite.0 };
          to = record { found = record { word = j.other; here = j.there; above = r.to }; infinite = j.infinite.1 };
        },
      ),
)

-- the places of joins are places of X
pub joins_inside : (shape : Shape) (p : List Row) (X : List Word) (joins : List Join) → AreJoins shape p X joins → All (λ (join : Join). (join.first < length X) × (join.second < length X)) joins
joins_inside shape p X joins are = All-from_contains (λ (join : Join). (join.first < length X) × (join.second < length X)) joins
    (λ join c. let j = (are join).0 c in (slice_get_within X join.first j.one j.here, slice_get_within X join.second j.other j.there))

-- ---- the joins of one row

join_eq : {a b : Join} → a.first ≡ b.first → a.second ≡ b.second → a ≡ b
join_eq e g = λ i. record { first = e i; second = g i }

-- a prefix-free list has one word above a word, at one place
above_once : (X : List Word) → IsPrefixFree X → (u : Word) (i k : ℕ) → (h : IsPlaceAbove X u i) → (g : IsPlaceAbove X u k) → (i ≡ k) × (h.word ≡ g.word)
above_once X free u i k h g =
    let at : (k : ℕ) (t : Word) → slice_get X k ≡ Some t → Contains X t = λ k t is. (k, slice_get_within X k t is, get_or_from_slice_get X k t t is) in
    elim (under_both h.above g.above) [
      | inl s ↦ (prefix_free_place X free h.word g.word (at i h.word h.here) (at k g.word g.here) s, prefix_free_same X free h.word g.word (at i h.word h.here) (at k g.word g.here) s)
      | inr s ↦ (sym (prefix_free_place X free g.word h.word (at k g.word g.here) (at i h.word h.here) s), sym (prefix_free_same X free g.word h.word (at k g.word g.here) (at i h.word h.here) s))
    ]

module _ (shape : Shape) (p : List Row) (X : List Word) (row : Row) (old new : List Join) where
  -- a row without one adds none
  pub none_added : new ≡ old → ((join : Join) → ¬ IsRowJoin shape p X row join) → (join : Join) → Contains new join ↔ (Contains old join ⊎ IsRowJoin shape p X row join)
  none_added same none join = (
    λ c. inl (subst (λ (t : List Join). Contains t join) same c),
    λ s. elim s [ inl c ↦ subst (λ (t : List Join). Contains t join) (sym same) c | inr h ↦ absurd (none join h) ],
  )

  pub no_word_above : ¬ IsUnderSome row.from X ⊎ ¬ IsUnderSome row.to X → (join : Join) → ¬ IsRowJoin shape p X row join
  no_word_above none join h = elim none [
    | inl n ↦ n (some_at X h.from.found.word row.from (listed_at X join.first h.from.found.word h.from.found.here) h.from.found.above)
    | inr n ↦ n (some_at X h.to.found.word row.to (listed_at X join.second h.to.found.word h.to.found.here) h.to.found.above)
  ]

  -- the words above those of the row are at two places alone
  pub other_cycle : IsPrefixFree X → (first second : ℕ) → (from : IsPlaceAbove X row.from first) → (to : IsPlaceAbove X row.to second) → (¬ IsCycleWord shape p from.word → ¬ IsCycleWord shape p to.word → ⊥) → (join : Join) → ¬ IsRowJoin shape p X row join
  other_cycle free first second from to either join h =
      let one = (above_once X free row.from first join.first from h.from.found).1 in
      let other = (above_once X free row.to second join.second to h.to.found).1 in
      either (subst (λ t. ¬ IsCycleWord shape p t) (sym one) h.from.infinite) (subst (λ t. ¬ IsCycleWord shape p t) (sym other) h.to.infinite)

  -- so it has one join at most
  pub one_added : IsPrefixFree X → (first second : ℕ) → (from : IsPlaceAbove X row.from first) → (to : IsPlaceAbove X row.to second) → ¬ IsCycleWord shape p from.word → ¬ IsCycleWord shape p to.word
      → new ≡ old ++ record { first = first; second = second } ∷ [] → (join : Join) → Contains new join ↔ (Contains old join ⊎ IsRowJoin shape p X row join)
  one_added free first second from to one other same join = (
    λ c. elim (in_front_or old added join (subst (λ (t : List Join). Contains t join) same c)) [
      | inl k ↦ inl k
      | inr e ↦ inr (subst (IsRowJoin shape p X row) e (record { from = record { found = from; infinite = one }; to = record { found = to; infinite = other } }))
    ],
    λ s. subst (λ (t : List Join). Contains t join) (sym same) (elim s [
      | inl k ↦ Contains-append_left old (added ∷ []) join k
      | inr h ↦ (
          let here : added ≡ join = join_eq (above_once X free row.from first join.first from h.from.found).0 (above_once X free row.to second join.second to h.to.found).0 in
          subst (Contains (old ++ added ∷ [])) here (Contains-append_right old (added ∷ []) added (Contains-here added [])))
    ]),
  )
    where
      added : Join
      added = record { first = first; second = second }

-- ---- the joins of the first rows

pub no_rows : (shape : Shape) (p : List Row) (X : List Word) (rows : List Row) (joins : List Join) → joins ≡ [] → AreRowJoins shape p X (take 0 rows) joins
no_rows shape p X rows joins none join = (
  λ c. absurd (Contains-nil join (subst (λ (t : List Join). Contains t join) none c)),
  λ h. absurd (Contains-nil h.0 h.1),
)

pub one_more_row : (shape : Shape) (p : List Row) (X : List Word) (rows given : List Row) (count : ℕ) (row : Row) (old new : List Join) → given ≡ rows → count < length given → row ≡ get_or given count row → AreRowJoins shape p X (take count rows) old
    → ((join : Join) → Contains new join ↔ (Contains old join ⊎ IsRowJoin shape p X row join)) → AreRowJoins shape p X (take (count + 1) rows) new
one_more_row shape p X rows given count row old new same inside is are added join = (
  λ c. elim ((added join).0 c) [
    | inl k ↦ (let r = (are join).0 k in (r.0, in_more r.0 (Contains-append_left (take count rows) (row ∷ []) r.0 r.1), r.2))
    | inr h ↦ (row, in_more row (Contains-append_right (take count rows) (row ∷ []) row (Contains-here row [])), h)
  ],
  λ h. (added join).1 (elim (in_front_or (take count rows) row h.0 (subst (λ (t : List Row). Contains t h.0) more h.1)) [
    | inl k ↦ inl ((are join).1 (h.0, k, h.2))
    | inr e ↦ inr (subst (λ (r : Row). IsRowJoin shape p X r join) (sym e) h.2)
  ]),
)
  where
    more : take (count + 1) rows ≡ take count rows ++ row ∷ []
    more = take_more rows count row (subst (λ (t : List Row). count < length t) same inside) ∙ ap (λ (r : Row). take count rows ++ r ∷ []) (sym (is ∙ ap (λ (t : List Row). get_or t count row) same))

    in_more : (r : Row) → Contains (take count rows ++ row ∷ []) r → Contains (take (count + 1) rows) r
    in_more r c = subst (λ (t : List Row). Contains t r) (sym more) c

-- those of all rows are all joins
pub all_joined : (element : ElementValue) (quasi : Quasi) (kinds : List Kind) → IsTyped element quasi kinds → (given : List Row) (count : ℕ) (joins : List Join) → given ≡ quasi.y → length given ≤ count
    → AreRowJoins element.shape element.rows quasi.basis.words (take count quasi.y) joins → AreJoins element.shape element.rows quasi.basis.words joins
all_joined element quasi kinds typed given count joins same l are =
    joins_of_rows element.shape element.rows quasi.basis.words quasi.y typed.canonical.pair typed.quasinormal.least.semi_normal.basis typed.quasinormal.rows joins
    (subst (λ (t : List Row). AreRowJoins element.shape element.rows quasi.basis.words t joins) (take_all count quasi.y (subst (λ (t : List Row). length t ≤ count) same l)) are)

-- ---- marks

-- the first words of X that are no cycle words are marked
pub record IsMarkedBelow (shape : Shape) (p : List Row) (X : List Word) (count : ℕ) (marks : List Bool) : Type 0 where
  pub as_many : length marks ≡ count
  pub each : (place : ℕ) (x : Word) → place < count → slice_get X place ≡ Some x → IsMarked marks place ↔ ¬ IsCycleWord shape p x

pub none_marked : (shape : Shape) (p : List Row) (X : List Word) (marks : List Bool) → marks ≡ [] → IsMarkedBelow shape p X 0 marks
none_marked shape p X marks e = record { as_many = ap (λ (t : List Bool). length t) e; each = λ place x l. absurd (omega arith) }

pub one_more_mark : (shape : Shape) (p : List Row) (X : List Word) (count : ℕ) (old new : List Bool) (mark : Bool) → IsMarkedBelow shape p X count old → ((x : Word) → slice_get X count ≡ Some x → IsTrue mark ↔ ¬ IsCycleWord shape p x) → new ≡ old ++ mark ∷ []
    → IsMarkedBelow shape p X (count + 1) new
one_more_mark shape p X count old new mark h told is = record {
  as_many = omega (arith, h.as_many, length-append old (mark ∷ []), ap (λ (t : List Bool). length t) is);
  each = λ place x l here. elim (cases_lt place count) [
    | inl less ↦ as_told place x (get_or old place false) (ap (λ (t : List Bool). get_or t place false) is ∙ get_or_append_left old (mark ∷ []) false place (omega (arith, h.as_many))) (h.each place x less here)
    | inr more ↦ (let same : place ≡ count = omega arith in as_told place x mark (last place same) (told x (subst (λ k. slice_get X k ≡ Some x) same here)))
  ];
}
  where
    as_told : (place : ℕ) (x : Word) (b : Bool) → get_or new place false ≡ b → (b ≡ true) ↔ ¬ IsCycleWord shape p x → IsMarked new place ↔ ¬ IsCycleWord shape p x
    as_told place x b e t = (λ m. t.0 (sym e ∙ m), λ other. e ∙ t.1 other)

    last : (place : ℕ) → place ≡ count → get_or new place false ≡ mark
    last place same = ap (λ (t : List Bool). get_or t place false) is ∙ ap (λ k. get_or (old ++ mark ∷ []) k false) (same ∙ sym h.as_many) ∙ get_or-append_seam old mark [] false

pub all_marked : (shape : Shape) (p : List Row) (X : List Word) (count : ℕ) (marks : List Bool) → count ≡ length X → IsMarkedBelow shape p X count marks → IsMarkedInfinite shape p X marks
all_marked shape p X count marks all h = record { as_many = h.as_many ∙ all; each = λ place x here. h.each place x (omega (arith, slice_get_within X place x here)) here }

-- ---- the test of a kind

-- it is right where the kind is that of a cycle
pub cycle_tested : (element : ElementValue) (quasi : Quasi) (kinds : List Kind) (place : ℕ) (kind : Kind) (m : ℕ) → IsTyped element quasi kinds → slice_get kinds place ≡ Some kind → kind ≡ Cycle m
    → (x : Word) → slice_get quasi.basis.words place ≡ Some x → IsTrue false ↔ ¬ IsCycleWord element.shape element.rows x
cycle_tested element quasi kinds place kind m typed there e x here = ((λ t. absurd cc), (λ other. absurd (other (m, subst (HasKind element.shape element.rows quasi.basis.words x) e (typed.kinds_are.each place x kind here there)))))

-- and where it isn't
pub other_tested : (element : ElementValue) (quasi : Quasi) (kinds : List Kind) (place : ℕ) (kind : Kind) → IsTyped element quasi kinds → slice_get kinds place ≡ Some kind → ((m : ℕ) → kind ≡ Cycle m → ⊥)
    → (x : Word) → slice_get quasi.basis.words place ≡ Some x → IsTrue true ↔ ¬ IsCycleWord element.shape element.rows x
other_tested element quasi kinds place kind typed there other x here = ((λ t. other_kind element.shape element.rows quasi.basis.words x kind typed.canonical.pair (typed.kinds_are.each place x kind here there) other), (λ n. refl))
