-- Walking the cycles of cycle words, and picking one word of each.
use Rattle.std.proofs.Common.{◌≡◌, ℕ, ◌+◌, ◌*◌, ◌/◌, ◌%◌, ◌<◌, ◌≤◌, ◌⊎◌, inl, inr, Bool, true, List, [], ◌∷◌, length, set, refl, sym, ap, ◌∙◌, subst, arith, Contains, Some, slice_get, pos, ◌+ℤ◌}
use Rattle.std.specs.Prelude.{AllPairs}
use Rattle.std.proofs.Math.Nat.{mod-lt, div-add-mod}
use Rattle.std.proofs.lemmas.Bool.Decides.{eqb_tells}
use Rattle.std.proofs.lemmas.Int.{ints}
use Rattle.std.proofs.lemmas.List.{length-set}
use Rattle.std.proofs.lemmas.List.Elements.{Contains-append_left, Contains-append_right}
use Rattle.std.proofs.lemmas.Option.{slice_get_within, get_or_from_slice_get}
use Rattle.ht_word.specs.Words.{IsUnder}
use Rattle.ht_word.specs.declared.shape.Shape.{Shape}
use Rattle.ht_word.specs.declared.word.Word.{Word}
use Rattle.ht_word.proofs.ListLaws.{Contains-nil, Contains-here, AllPairs-nil, AllPairs-cons, AllPairs-append}
use Rattle.ht_word.proofs.WordLaws.{All-from_contains, under_refl}
use Rattle.ht_num.proofs.NumberLaws.{once_least}
use Rattle.ht_pair.specs.Bases.{IsPrefixFree, IsBasis}
use Rattle.ht_pair.specs.Elements.{ElementValue}
use Rattle.ht_pair.specs.HeldBases.{IsPlaceAbove}
use Rattle.ht_pair.specs.Kinds.{IsCycle}
use Rattle.ht_pair.specs.Pairs.{IsPair}
use Rattle.ht_pair.specs.Steps.{Carries}
use Rattle.ht_pair.specs.declared.row.Row.{Row}
use Rattle.ht_pair.proofs.BasisLaws.{basis_word, prefix_free_place, prefix_free_same}
use Rattle.ht_pair.proofs.CarriesLaws.{carries_single, carries_rest, carries_sum, carries_itself}
use Rattle.ht_pair.proofs.Sequences.{in_front_or}
use Rattle.ht_quasi.specs.Rounds.{IsMarked}
use Rattle.ht_quasi.specs.declared.quasi.Quasi.{Quasi}
use Rattle.ht_quasi.proofs.StepLaws.{listed_at, same_at}
use Rattle.ht_quasi.proofs.KeptLaws.{entry_at}
use Rattle.ht_quasi.proofs.WalkLaws.{mark_here, mark_kept, mark_only}
use Rattle.ht_types.specs.TypedElements.{IsTyped}
use Rattle.ht_types.specs.declared.kind.Kind.{Kind}
use Rattle.ht_types.proofs.PeriodicLaws.{carries_round, cycle_moved, cycle_next}
use Rattle.ht_cycles.specs.Cycles.{Reaches, IsCyclePlace, LeadsToPlace, AreCycleMarks, group, IsGrouped, ArePicked, ArePickedBefore}
use Rattle.ht_cycles.proofs.RepresentativeLaws.{reaches_itself}

-- k steps ahead lead where k modulo m do, if m steps lead back
pub returns_within : (shape : Shape) (f : List Row) → IsPair shape f → (x y : Word) (m k : ℕ) → Carries shape f (pos m) x x → Carries shape f (pos k) x y → Carries shape f (pos (k % m)) x y
returns_within shape f pair x y m k round carries =
    let sum : pos (k / m * m) +ℤ pos (k % m) ≡ pos k = omega (arith, ints, div-add-mod k m) in
    carries_rest shape f pair (pos (k / m * m)) (pos (k % m)) (pos k) sum x x y (carries_round shape f pair m x round (k / m)) carries

-- ---- one step

-- one step leads from the word of X at the place to a word of X
pub record HasNext (shape : Shape) (f : List Row) (X : List Word) (place : ℕ) (x : Word) : Type 0 where
  pub here : slice_get X place ≡ Some x
  pub to : Word
  pub listed : Contains X to
  pub carries : Carries shape f (pos 1) x to

pub has_next_word : (element : ElementValue) (held quasi : Quasi) (kinds : List Kind) (words : List Word) (place m : ℕ) (x : Word) → IsTyped element quasi kinds → held ≡ quasi → words ≡ held.basis.words → IsCyclePlace element.shape element.rows quasi.basis.words m place → slice_get words place ≡ Some x
    → HasNext element.shape element.rows quasi.basis.words place x
has_next_word element held quasi kinds words place m x typed same are cycle at =
    let here : slice_get quasi.basis.words place ≡ Some x = subst (λ (W : List Word). slice_get W place ≡ Some x) (are ∙ ap (λ (q : Quasi). q.basis.words) same) at in
    let one : cycle.word ≡ x = same_at quasi.basis.words quasi.basis.words place cycle.word x refl cycle.here here in
    let next = cycle_next element.shape element.rows typed.canonical.canonical.pair quasi.basis.words typed.quasinormal.least.semi_normal x m (listed_at quasi.basis.words place x here) (subst (λ t. IsCycle element.shape element.rows t m) one cycle.cycle) in
    record { here = here; to = next.word; listed = next.listed; carries = next.carries }

-- the word that it is carried to is the next
pub next_is : (shape : Shape) (f : List Row) → IsPair shape f → (X : List Word) (place : ℕ) (x moved : Word) → (next : HasNext shape f X place x) → Carries shape f (pos 1) x moved → Contains X moved
next_is shape f pair X place x moved next carries = subst (Contains X) (carries_single shape f pair (pos 1) x next.to moved next.carries carries) next.listed

-- so it is found
pub next_found : (shape : Shape) (f : List Row) → IsPair shape f → (X W : List Word) → IsPrefixFree X → W ≡ X → (place to : ℕ) (x moved : Word) → (next : HasNext shape f X place x) → Carries shape f (pos 1) x moved → IsPlaceAbove W moved to → LeadsToPlace shape f X place to
next_found shape f pair X W free are place to x moved next carries found =
    let above : IsPlaceAbove X moved to = subst (λ V. IsPlaceAbove V moved to) are found in
    record {
      from = x;
      to = above.word;
      here = next.here;
      there = above.here;
      carries = subst (Carries shape f (pos 1) x) (prefix_free_same X free moved above.word (next_is shape f pair X place x moved next carries) (listed_at X to above.word above.here) above.above) carries;
    }

-- ---- marks

-- the words of fewer than i steps are marked, and the place is where i steps lead
pub record AreMarkedSteps (shape : Shape) (f : List Row) (X : List Word) (start : ℕ) (old : List Bool) (i place : ℕ) (marks : List Bool) : Type 0 where
  pub many : length marks ≡ length X
  pub from : Word
  pub here : slice_get X start ≡ Some from
  pub at : Word
  pub there : slice_get X place ≡ Some at
  pub carries : Carries shape f (pos i) from at
  pub kept : (p : ℕ) → IsMarked old p → IsMarked marks p
  pub added : (p j : ℕ) (y : Word) → slice_get X p ≡ Some y → j < i → Carries shape f (pos j) from y → IsMarked marks p
  pub only : (p : ℕ) (y : Word) → slice_get X p ≡ Some y → IsMarked marks p → IsMarked old p ⊎ Reaches shape f from y

pub none_marked : (shape : Shape) (f : List Row) (X : List Word) → IsBasis shape X → (m start : ℕ) (old : List Bool) → length old ≡ length X → IsCyclePlace shape f X m start → AreMarkedSteps shape f X start old 0 start old
none_marked shape f X basis m start old many cycle = record {
  many = many;
  from = cycle.word;
  here = cycle.here;
  at = cycle.word;
  there = cycle.here;
  carries = carries_itself shape f cycle.word (basis_word shape X basis cycle.word (listed_at X start cycle.word cycle.here));
  kept = λ p k. k;
  added = λ p j y e l. absurd (omega arith);
  only = λ p y e k. inl k;
}

-- the place is that of a cycle word
pub marked_place : (shape : Shape) (f : List Row) → IsPair shape f → (X : List Word) (m start : ℕ) (old : List Bool) (i place : ℕ) (marks : List Bool) → IsCyclePlace shape f X m start → AreMarkedSteps shape f X start old i place marks → IsCyclePlace shape f X m place
marked_place shape f pair X m start old i place marks cycle so_far =
    let one : cycle.word ≡ so_far.from = same_at X X start cycle.word so_far.from refl cycle.here so_far.here in
    record { word = so_far.at; here = so_far.there; cycle = cycle_moved shape f pair (pos i) so_far.from so_far.at m so_far.carries (subst (λ t. IsCycle shape f t m) one cycle.cycle) }

pub one_more_mark : (shape : Shape) (f : List Row) → IsPair shape f → (X : List Word) → IsPrefixFree X → (start : ℕ) (old : List Bool) (i place next : ℕ) (marks : List Bool) → AreMarkedSteps shape f X start old i place marks → LeadsToPlace shape f X place next
    → AreMarkedSteps shape f X start old (i + 1) next (set marks place true)
one_more_mark shape f pair X free start old i place next marks so_far leads =
    let inside : place < length marks = omega (arith, so_far.many, slice_get_within X place so_far.at so_far.there) in
    let one : leads.from ≡ so_far.at = same_at X X place leads.from so_far.at refl leads.here so_far.there in
    record {
      many = length-set marks place true ∙ so_far.many;
      from = so_far.from;
      here = so_far.here;
      at = leads.to;
      there = leads.there;
      carries = carries_sum shape f pair (pos i) (pos 1) (pos (i + 1)) (omega (arith, ints)) so_far.from so_far.at leads.to so_far.carries (subst (λ t. Carries shape f (pos 1) t leads.to) one leads.carries);
      kept = λ p k. mark_kept marks place p inside (so_far.kept p k);
      added = λ p j y e l carries. elim (last_or j i l) [
        | inl less ↦ mark_kept marks place p inside (so_far.added p j y e less carries)
        | inr same ↦
            let is : so_far.at ≡ y = carries_single shape f pair (pos i) so_far.from so_far.at y so_far.carries (subst (λ t. Carries shape f (pos t) so_far.from y) same carries) in
            let places : place ≡ p = prefix_free_place X free so_far.at y (at_place place so_far.at so_far.there) (at_place p y e) (subst (λ t. IsUnder so_far.at t) is (under_refl so_far.at)) in
            subst (IsMarked (set marks place true)) places (mark_here marks place inside)
      ];
      only = λ p y e k. elim (mark_only marks place p k) [
        | inl before ↦ so_far.only p y e before
        | inr same ↦
            let is : so_far.at ≡ y = same_at X X place so_far.at y refl so_far.there (subst (λ t. slice_get X t ≡ Some y) same e) in
            inr (record { steps = i; carries = subst (Carries shape f (pos i) so_far.from) is so_far.carries })
      ];
    }
  where
    at_place : (p : ℕ) (y : Word) → slice_get X p ≡ Some y → Contains X y
    at_place p y e = (p, slice_get_within X p y e, get_or_from_slice_get X p y y e)

    last_or : (j i : ℕ) → j < i + 1 → (j < i) ⊎ (j ≡ i)
    last_or j i l = grind arith

-- after a whole round
pub round_marked : (shape : Shape) (f : List Row) → IsPair shape f → (X : List Word) (m start : ℕ) (old : List Bool) (i place : ℕ) (marks : List Bool) → IsCyclePlace shape f X m start → m ≤ i → length old ≡ length X → AreMarkedSteps shape f X start old i place marks → AreCycleMarks shape f X start old marks
round_marked shape f pair X m start old i place marks cycle far many so_far = record {
  many = so_far.many ∙ sym many;
  marked = λ p x y at e.
      let one : so_far.from ≡ x = same_at X X start so_far.from x refl so_far.here at in
      let turn : IsCycle shape f so_far.from m = subst (λ t. IsCycle shape f t m) (same_at X X start cycle.word so_far.from refl cycle.here so_far.here) cycle.cycle in (
        λ k. elim (so_far.only p y e k) [ inl before ↦ inl before | inr h ↦ inr (subst (λ t. Reaches shape f t y) one h) ],
        λ h. elim h [
          | inl before ↦ so_far.kept p before
          | inr reaches ↦
              let r = subst (λ t. Reaches shape f t y) (sym one) reaches in
              so_far.added p (r.steps % m) y e (omega (arith, mod-lt r.steps turn.positive)) (returns_within shape f pair so_far.from y m r.steps turn.holds r.carries)
        ],
      );
}

-- ---- groups

-- a word of a group was in it, or is the new one
in_group : (groups more : List (List Word)) (m k : ℕ) (word r : Word) → IsGrouped groups m word more → Contains (group more k) r → Contains (group groups k) r ⊎ ((k ≡ m) × (word ≡ r))
in_group groups more m k word r new c = elim (eqb_tells k m) [
  | inl (is, e) ↦ elim (in_front_or (group groups m) word r (subst (λ W. Contains W r) new.here (subst (λ t. Contains (group more t) r) e c))) [
    | inl d ↦ inl (subst (λ t. Contains (group groups t) r) (sym e) d)
    | inr same ↦ inr (e, same)
  ]
  | inr (isnt, n) ↦ inl (subst (λ W. Contains W r) (new.other k n) c)
]

-- a word stays in its group
still_in_group : (groups more : List (List Word)) (m k : ℕ) (word r : Word) → IsGrouped groups m word more → Contains (group groups k) r → Contains (group more k) r
still_in_group groups more m k word r new c = elim (eqb_tells k m) [
  | inl (is, e) ↦ subst (λ t. Contains (group more t) r) (sym e) (subst (λ W. Contains W r) (sym new.here) (Contains-append_left (group groups m) (word ∷ []) r (subst (λ t. Contains (group groups t) r) e c)))
  | inr (isnt, n) ↦ subst (λ W. Contains W r) (sym (new.other k n)) c
]

-- ---- picking

-- nothing is picked at first
pub none_picked : (shape : Shape) (f : List Row) (X : List Word) (marks : List Bool) (groups : List (List Word)) → length marks ≡ length X → ((place : ℕ) → ¬ IsMarked marks place) → ((m : ℕ) → group groups m ≡ []) → ArePickedBefore shape f X 0 marks groups
none_picked shape f X marks groups many unmarked empty = record {
  many = many;
  listed = λ m r c. absurd (none m r c);
  apart = λ m. subst (AllPairs (λ r s. ¬ Reaches shape f r s)) (sym (empty m)) (AllPairs-nil (λ r s. ¬ Reaches shape f r s));
  done = λ place m x l. absurd (omega arith);
  marked = λ place x e k. absurd (unmarked place k);
  reached = λ place m r x e c. absurd (none m r c);
}
  where
    none : (m : ℕ) (r : Word) → ¬ Contains (group groups m) r
    none m r c = Contains-nil r (subst (λ W. Contains W r) (empty m) c)

before_or : (place k : ℕ) → place < k + 1 → (place < k) ⊎ (place ≡ k)
before_or place k l = grind arith

-- one more word, of no cycle or of one that is marked
pub picked_past : (shape : Shape) (f : List Row) (X : List Word) (k : ℕ) (marks : List Bool) (groups : List (List Word)) → ArePickedBefore shape f X k marks groups → ((m : ℕ) (x : Word) → slice_get X k ≡ Some x → IsCycle shape f x m → IsMarked marks k) → ArePickedBefore shape f X (k + 1) marks groups
picked_past shape f X k marks groups old here = record {
  many = old.many;
  listed = old.listed;
  apart = old.apart;
  done = λ place m x l e cycle. elim (before_or place k l) [
    | inl less ↦ old.done place m x less e cycle
    | inr same ↦ subst (IsMarked marks) (sym same) (here m x (subst (λ t. slice_get X t ≡ Some x) same e) cycle)
  ];
  marked = old.marked;
  reached = old.reached;
}

-- one more word of a cycle that isn't
pub picked_more : (shape : Shape) (f : List Row) (X : List Word) → IsBasis shape X → (k m : ℕ) (x : Word) (old new : List Bool) (groups more : List (List Word)) → ArePickedBefore shape f X k old groups → slice_get X k ≡ Some x → IsCycle shape f x m → ¬ IsMarked old k → AreCycleMarks shape f X k old new → IsGrouped groups m x more
    → ArePickedBefore shape f X (k + 1) new more
picked_more shape f X basis k m x old new groups more before here cycle unmarked marks new_group =
    let in_list = listed_at X k x here in
    let itself = reaches_itself shape f x (basis_word shape X basis x in_list) in
    let stay : (place : ℕ) (y : Word) → slice_get X place ≡ Some y → IsMarked old place → IsMarked new place = λ place y e h. (marks.marked place x y here e).1 (inl h) in
    record {
      many = marks.many ∙ before.many;
      listed = λ j r c. elim (in_group groups more m j x r new_group c) [
        | inl d ↦ before.listed j r d
        | inr (e, same) ↦ subst (λ t. Contains X t × IsCycle shape f t j) same (in_list, subst (IsCycle shape f x) (sym e) cycle)
      ];
      apart = λ j. elim (eqb_tells j m) [
        | inl (is, e) ↦ subst (λ t. AllPairs (λ r s. ¬ Reaches shape f r s) (group more t)) (sym e) (subst (AllPairs (λ r s. ¬ Reaches shape f r s)) (sym new_group.here) (
            AllPairs-append (λ r s. ¬ Reaches shape f r s) (group groups m) (x ∷ []) (before.apart m)
            (AllPairs-cons (λ r s. ¬ Reaches shape f r s) x [] (All-from_contains (λ s. ¬ Reaches shape f x s) [] (λ s c. absurd (Contains-nil s c))) (AllPairs-nil (λ r s. ¬ Reaches shape f r s)))
            (λ r s c d reaches. unmarked (before.reached k m r x here c (subst (Reaches shape f r) (only_one x s d) reaches)))))
        | inr (isnt, n) ↦ subst (AllPairs (λ r s. ¬ Reaches shape f r s)) (sym (new_group.other j n)) (before.apart j)
      ];
      done = λ place j y l e turn. elim (before_or place k l) [
        | inl less ↦ stay place y e (before.done place j y less e turn)
        | inr same ↦ subst (IsMarked new) (sym same) ((marks.marked k x x here here).1 (inr itself))
      ];
      marked = λ place y e h. elim ((marks.marked place x y here e).0 h) [
        | inl was ↦ let r = before.marked place y e was in (r.0, r.1, still_in_group groups more m r.0 x r.1 new_group r.2, r.3)
        | inr reaches ↦ (m, x, subst (λ W. Contains W x) (sym new_group.here) (Contains-append_right (group groups m) (x ∷ []) x (Contains-here x [])), reaches)
      ];
      reached = λ place j r y e c reaches. elim (in_group groups more m j x r new_group c) [
        | inl d ↦ stay place y e (before.reached place j r y e d reaches)
        | inr (same_length, same) ↦ (marks.marked place x y here e).1 (inr (subst (λ t. Reaches shape f t y) (sym same) reaches))
      ];
    }
  where
    only_one : (x s : Word) → Contains (x ∷ []) s → s ≡ x
    only_one x s c = elim (in_front_or [] x s c) [ inl d ↦ absurd (Contains-nil s d) | inr e ↦ sym e ]

-- all words are gone over
pub all_picked : (shape : Shape) (f : List Row) → IsPair shape f → (X : List Word) (k : ℕ) (marks : List Bool) (groups : List (List Word)) → length X ≤ k → ArePickedBefore shape f X k marks groups → (m : ℕ) → ArePicked shape f X m (group groups m)
all_picked shape f pair X k marks groups far picked m = record {
  listed = picked.listed m;
  apart = picked.apart m;
  all = λ x c cycle.
      let here : slice_get X c.0 ≡ Some x = entry_at X c.0 x x c.1 c.2 in
      let r = picked.marked c.0 x here (picked.done c.0 m x (let l = c.1 in omega arith) here cycle) in
      let lengths : r.0 ≡ m = once_least r.0 m (cycle_moved shape f pair (pos r.3.steps) r.1 x r.0 r.3.carries (picked.listed r.0 r.1 r.2).1) cycle in
      (r.1, subst (λ t. Contains (group groups t) r.1) lengths r.2, r.3);
}
