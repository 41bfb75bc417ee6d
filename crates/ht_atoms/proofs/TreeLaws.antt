-- Trees of places whose parents are shortened, and trees that are put together, are still those of the joins.
use Rattle.std.proofs.Common.{◌≡◌, ◌≢◌, ℕ, ◌+◌, ◌≤◌, ◌<◌, ◌⊎◌, inl, inr, List, [], ◌∷◌, ◌++◌, length, get_or, take, refl, sym, ap, ◌∙◌, subst, subst₂, arith, All}
use Rattle.std.proofs.Math.ListN.{set}
use Rattle.std.proofs.lemmas.Bool.{cases_lt}
use Rattle.std.proofs.lemmas.List.{length-set, get_or-set_same, get_or-set_other, get_or_past, take_all, take_more}
use Rattle.std.proofs.lemmas.List.Elements.{All-append, All-cons, All-contains, All-nil, Contains-append_left, Contains-append_right}
use Rattle.ht_word.proofs.Deciding.{same_or_not}
use Rattle.ht_word.proofs.ListLaws.{Contains-here}
use Rattle.ht_atoms.specs.declared.join.Join.{Join}
use Rattle.ht_atoms.specs.Trees.{AreTied, itself, joined, back, on, IsForest, AreTiedUp, IsSameUp, IsForestOf, IsShortened, IsRootOf, AreLabels}

-- ---- ties

-- with one join more
tied_more : (joins : List Join) (join : Join) {i j : ℕ} → AreTied joins i j → AreTied (joins ++ join ∷ []) i j
tied_more joins join itself = itself
tied_more joins join (joined other c) = joined other (Contains-append_left joins (join ∷ []) other c)
tied_more joins join (back t) = back (tied_more joins join t)
tied_more joins join (on s t) = on (tied_more joins join s) (tied_more joins join t)

last_tied : (joins : List Join) (join : Join) → AreTied (joins ++ join ∷ []) join.first join.second
last_tied joins join = joined join (Contains-append_right joins (join ∷ []) join (Contains-here join []))

-- what is the same at the places of each join is so at all places that joins tie
pub same_tied : (joins : List Join) (f : ℕ → ℕ) → All (λ join. f join.first ≡ f join.second) joins → {i j : ℕ} → AreTied joins i j → f i ≡ f j
same_tied joins f h itself = refl
same_tied joins f h (joined join c) = All-contains (λ join. f join.first ≡ f join.second) joins join h c
same_tied joins f h (back t) = sym (same_tied joins f h t)
same_tied joins f h (on s t) = same_tied joins f h s ∙ same_tied joins f h t

-- ---- one parent changed

-- the parent of a place, after that of one place changed
parent_cases : (parents : List ℕ) (place value i : ℕ) → place < length parents → ((i ≡ place) × (get_or (set parents place value) i 0 ≡ value)) ⊎ ((i ≢ place) × (get_or (set parents place value) i 0 ≡ get_or parents i 0))
parent_cases parents place value i inside = elim (same_or_not i place) [
  | inl e ↦ inl (e, ap (λ k. get_or (set parents place value) k 0) e ∙ get_or-set_same parents place value 0 inside)
  | inr n ↦ inr (n, get_or-set_other parents place i value 0 n)
]

-- ---- a parent gives way to its own parent

module _ (parents new : List ℕ) (place : ℕ) (forest : IsForest parents) (inside : place < length parents) (is : new ≡ set parents place (get_or parents (get_or parents place 0) 0)) where
  new_cases : (i : ℕ) → ((i ≡ place) × (get_or new i 0 ≡ get_or parents (get_or parents i 0) 0)) ⊎ ((i ≢ place) × (get_or new i 0 ≡ get_or parents i 0))
  new_cases i = elim (parent_cases parents place (get_or parents (get_or parents place 0) 0) i inside) [
    | inl h ↦ inl (h.0, ap (λ t. get_or t i 0) is ∙ h.1 ∙ ap (λ k. get_or parents (get_or parents k 0) 0) (sym h.0))
    | inr h ↦ inr (h.0, ap (λ t. get_or t i 0) is ∙ h.1)
  ]

  as_many : length new ≡ length parents
  as_many = ap (λ (t : List ℕ). length t) is ∙ length-set parents place (get_or parents (get_or parents place 0) 0)

  up_inside : (i : ℕ) → i < length parents → get_or parents i 0 < length parents
  up_inside i l = let up = forest i in omega arith

  forest_after : IsForest new
  forest_after i = elim (new_cases i) [
    | inl h ↦ (let up = forest i in let more = forest (get_or parents i 0) in let here = h.1 in omega arith)
    | inr h ↦ (let up = forest i in let here = h.1 in omega arith)
  ]

  tied_after : (joins : List Join) → AreTiedUp joins parents → AreTiedUp joins new
  tied_after joins up i l =
      let within : i < length parents = omega (arith, as_many) in
      elim (new_cases i) [
        | inl h ↦ subst (AreTied joins i) (sym h.1) (on (up i within) (up (get_or parents i 0) (up_inside i within)))
        | inr h ↦ subst (AreTied joins i) (sym h.1) (up i within)
      ]

  same_after : (f : ℕ → ℕ) → IsSameUp new f → IsSameUp parents f
  same_after f same i l = elim (new_cases i) [
    | inr h ↦ same i (omega (arith, as_many)) ∙ ap f h.1
    | inl h ↦ elim (same_or_not (get_or parents i 0) i) [
      | inl own ↦ ap f (sym own)
      | inr other ↦ elim (new_cases (get_or parents i 0)) [
        | inl g ↦ absurd (other (g.0 ∙ sym h.0))
        | inr g ↦ same i (omega (arith, as_many)) ∙ ap f h.1 ∙ sym (ap f g.1) ∙ sym (same (get_or parents i 0) (let up = up_inside i l in omega (arith, as_many)))
      ]
    ]
  ]

  roots_after : (i : ℕ) → get_or parents i 0 ≡ i → get_or new i 0 ≡ i
  roots_after i top = elim (new_cases i) [
    | inl h ↦ h.1 ∙ ap (λ k. get_or parents k 0) top ∙ top
    | inr h ↦ h.1 ∙ top
  ]

  halved : IsShortened parents new
  halved = record { forest = forest_after; as_many = as_many; roots = roots_after; tied = tied_after; same = same_after }

-- ---- shortened again and again

shortened_itself : (parents : List ℕ) → IsForest parents → IsShortened parents parents
shortened_itself parents forest = record { forest = forest; as_many = refl; roots = λ i top. top; tied = λ joins up. up; same = λ f same. same }

shortened_on : (old between new : List ℕ) → IsShortened old between → IsShortened between new → IsShortened old new
shortened_on old between new h g = record {
  forest = g.forest;
  as_many = g.as_many ∙ h.as_many;
  roots = λ i top. g.roots i (h.roots i top);
  tied = λ joins up. g.tied joins (h.tied joins up);
  same = λ f same. h.same f (g.same f same);
}

-- on the way from a place up to its root
pub record IsOnWayUp (old now : List ℕ) (start place : ℕ) : Type 0 where
  pub short : IsShortened old now
  pub inside : place < length now
  pub tied : (joins : List Join) → AreTiedUp joins old → AreTied joins start place
  pub same : (f : ℕ → ℕ) → IsSameUp now f → f start ≡ f place

pub way_begins : (parents : List ℕ) (start : ℕ) → IsForest parents → start < length parents → IsOnWayUp parents parents start start
way_begins parents start forest inside = record { short = shortened_itself parents forest; inside = inside; tied = λ joins up. itself; same = λ f same. refl }

pub way_goes_on : (old now new : List ℕ) (start place : ℕ) → IsOnWayUp old now start place → new ≡ set now place (get_or now (get_or now place 0) 0) → IsOnWayUp old new start (get_or now (get_or now place 0) 0)
way_goes_on old now new start place way is =
    let forest = way.short.forest in
    let step = halved now new place forest way.inside is in
    let up : get_or now place 0 < length now = (let less = forest place in let within = way.inside in omega arith) in
    let more : get_or now (get_or now place 0) 0 < length now = (let less = forest (get_or now place 0) in omega arith) in
    record {
      short = shortened_on old now new way.short step;
      inside = (let as_many = step.as_many in omega arith);
      tied = λ joins h. on (way.tied joins h) (on (way.short.tied joins h place way.inside) (way.short.tied joins h (get_or now place 0) up));
      same = λ f h. (let before = step.same f h in way.same f before ∙ before place way.inside ∙ before (get_or now place 0) up);
    }

pub way_shorter : (old now : List ℕ) (start place : ℕ) → IsOnWayUp old now start place → (get_or now place 0 ≡ place → ⊥) → get_or now (get_or now place 0) 0 < place
way_shorter old now start place way other =
    let forest = way.short.forest in
    let up = forest place in
    let more = forest (get_or now place 0) in
    omega arith

pub way_ends : (old now : List ℕ) (start place : ℕ) → IsOnWayUp old now start place → get_or now place 0 ≡ place → IsRootOf old now start place
way_ends old now start place way top = record { inside = way.inside; top = top; tied = way.tied; same = way.same }

-- ---- all parents are roots

-- the parents of the places below count are roots
pub record AreSettledBelow (old now : List ℕ) (count : ℕ) : Type 0 where
  pub short : IsShortened old now
  pub settled : (i : ℕ) → i < count → get_or now (get_or now i 0) 0 ≡ get_or now i 0

pub none_settled : (parents : List ℕ) → IsForest parents → AreSettledBelow parents parents 0
none_settled parents forest = record { short = shortened_itself parents forest; settled = λ i l. absurd (omega arith) }

pub one_more_settled : (old now new : List ℕ) (place : ℕ) → AreSettledBelow old now place → place < length now → new ≡ set now place (get_or now (get_or now place 0) 0) → AreSettledBelow old new (place + 1)
one_more_settled old now new place h inside is = record {
  short = shortened_on old now new h.short (halved now new place forest inside is);
  settled = λ i l. elim (cases_lt i place) [
    | inl less ↦ before i less
    | inr more ↦ (let same : i ≡ place = omega arith in subst (λ k. get_or new (get_or new k 0) 0 ≡ get_or new k 0) (sym same) here)
  ];
}
  where
    forest : IsForest now
    forest = h.short.forest

    other : (i : ℕ) → i < place → get_or new i 0 ≡ get_or now i 0
    other i less = ap (λ t. get_or t i 0) is ∙ get_or-set_other now place i (get_or now (get_or now place 0) 0) 0 (λ e. absurd (omega arith))

    before : (i : ℕ) → i < place → get_or new (get_or new i 0) 0 ≡ get_or new i 0
    before i less = ap (λ k. get_or new k 0) (other i less) ∙ other (get_or now i 0) (let up = forest i in omega arith) ∙ h.settled i less ∙ sym (other i less)

    at_place : get_or new place 0 ≡ get_or now (get_or now place 0) 0
    at_place = ap (λ t. get_or t place 0) is ∙ get_or-set_same now place (get_or now (get_or now place 0) 0) 0 inside

    -- the parent is the place itself, or an earlier one with a root for a parent
    by : (up : ℕ) → get_or now place 0 ≡ up → (up ≡ place) ⊎ (up < place) → get_or new (get_or now up 0) 0 ≡ get_or now up 0
    by up e (inl same) =
        let top : get_or now up 0 ≡ place = ap (λ k. get_or now k 0) same ∙ e ∙ same in
        ap (λ k. get_or new k 0) top ∙ at_place ∙ ap (λ k. get_or now k 0) e
    by up e (inr less) = other (get_or now up 0) (let more = forest up in omega arith) ∙ h.settled up less

    here : get_or new (get_or new place 0) 0 ≡ get_or new place 0
    here = ap (λ k. get_or new k 0) at_place ∙ by (get_or now place 0) refl (either (get_or now place 0) (forest place)) ∙ sym at_place
      where
        either : (up : ℕ) → up ≤ place → (up ≡ place) ⊎ (up < place)
        either up l = grind arith

-- ---- two trees put together

-- a root that is put under one that is no later place
module _ (parents new : List ℕ) (low high : ℕ) (inside : high < length parents) (root : get_or parents high 0 ≡ high) (is : new ≡ set parents high low) where
  put_cases : (i : ℕ) → ((i ≡ high) × (get_or new i 0 ≡ low)) ⊎ ((i ≢ high) × (get_or new i 0 ≡ get_or parents i 0))
  put_cases i = elim (parent_cases parents high low i inside) [
    | inl h ↦ inl (h.0, ap (λ t. get_or t i 0) is ∙ h.1)
    | inr h ↦ inr (h.0, ap (λ t. get_or t i 0) is ∙ h.1)
  ]

  put_as_many : length new ≡ length parents
  put_as_many = ap (λ (t : List ℕ). length t) is ∙ length-set parents high low

  put_forest : IsForest parents → low ≤ high → IsForest new
  put_forest forest l i = elim (put_cases i) [
    | inl h ↦ (let same = h.0 in let here = h.1 in omega arith)
    | inr h ↦ (let up = forest i in let here = h.1 in omega arith)
  ]

  put_tied : (joins : List Join) → AreTiedUp joins parents → AreTied joins high low → AreTiedUp joins new
  put_tied joins up tied i l = elim (put_cases i) [
    | inl h ↦ subst₂ (AreTied joins) (sym h.0) (sym h.1) tied
    | inr h ↦ subst (AreTied joins i) (sym h.1) (up i (omega (arith, put_as_many)))
  ]

  put_same : (f : ℕ → ℕ) → IsSameUp new f → IsSameUp parents f
  put_same f same i l = elim (put_cases i) [
    | inl h ↦ ap f (h.0 ∙ sym root ∙ ap (λ k. get_or parents k 0) (sym h.0))
    | inr h ↦ same i (omega (arith, put_as_many)) ∙ ap f h.1
  ]

  put_one : (f : ℕ → ℕ) → IsSameUp new f → f high ≡ f low
  put_one f same = same high (omega (arith, put_as_many)) ∙ ap f (ap (λ t. get_or t high 0) is ∙ get_or-set_same parents high low 0 inside)

-- the roots of the two places of a join, and the parents that are shortened on the way to the one and then to the other
pub record AreRootsOf (join : Join) (old between new : List ℕ) (one other : ℕ) : Type 0 where
  pub to_one : IsShortened old between
  pub one_root : IsRootOf old between join.first one
  pub to_other : IsShortened between new
  pub other_root : IsRootOf between new join.second other

-- the joins tie the roots
roots_tied : (joins : List Join) (join : Join) (old between new : List ℕ) (one other : ℕ) → AreTiedUp joins old → AreRootsOf join old between new one other → AreTied joins join.first join.second → AreTied joins one other
roots_tied joins join old between new one other up h tied = on (back (h.one_root.tied joins up)) (on tied (h.other_root.tied joins (h.to_one.tied joins up)))

-- the one root under the other: the places of the join are in one tree
tie_under : (joins : List Join) (join : Join) (old between new after : List ℕ) (one other low high : ℕ) → IsForestOf joins old → AreRootsOf join old between new one other → ((one ≡ low) × (other ≡ high)) ⊎ ((one ≡ high) × (other ≡ low))
    → low ≤ high → high < length new → get_or new high 0 ≡ high → after ≡ set new high low → IsForestOf (joins ++ join ∷ []) after
tie_under joins join old between new after one other low high h roots are l inside top is = record {
  forest = put_forest new after low high inside top is roots.to_other.forest l;
  tied = put_tied new after low high inside top is more (roots.to_other.tied more (roots.to_one.tied more up)) (turned are);
  whole = λ f same.
      let before = put_same new after low high inside top is f same in
      let first = roots.to_other.same f before in
      All-append (λ join. f join.first ≡ f join.second) joins (join ∷ []) (h.whole f (roots.to_one.same f first))
      (All-cons (λ join. f join.first ≡ f join.second) join []
      (roots.one_root.same f first ∙ one_of are f (put_one new after low high inside top is f same) ∙ sym (roots.other_root.same f before))
      (All-nil (λ join. f join.first ≡ f join.second)));
}
  where
    more : List Join
    more = joins ++ join ∷ []

    up : AreTiedUp (joins ++ join ∷ []) old
    up i l = tied_more joins join (h.tied i l)

    tied : AreTied (joins ++ join ∷ []) one other
    tied = roots_tied (joins ++ join ∷ []) join old between new one other up roots (last_tied joins join)

    turned : ((one ≡ low) × (other ≡ high)) ⊎ ((one ≡ high) × (other ≡ low)) → AreTied (joins ++ join ∷ []) high low
    turned (inl e) = subst₂ (AreTied (joins ++ join ∷ [])) e.1 e.0 (back tied)
    turned (inr e) = subst₂ (AreTied (joins ++ join ∷ [])) e.0 e.1 tied

    one_of : ((one ≡ low) × (other ≡ high)) ⊎ ((one ≡ high) × (other ≡ low)) → (f : ℕ → ℕ) → f high ≡ f low → f one ≡ f other
    one_of (inl e) f same = ap f e.0 ∙ sym same ∙ ap f (sym e.1)
    one_of (inr e) f same = ap f e.0 ∙ same ∙ ap f (sym e.1)

pub tied_first : (joins : List Join) (join : Join) (old between new after : List ℕ) (one other : ℕ) → IsForestOf joins old → AreRootsOf join old between new one other → one < other → after ≡ set new other one → IsForestOf (joins ++ join ∷ []) after
tied_first joins join old between new after one other h roots l is =
    tie_under joins join old between new after one other one other h roots (inl (refl, refl)) (omega arith) roots.other_root.inside roots.other_root.top is

pub tied_second : (joins : List Join) (join : Join) (old between new after : List ℕ) (one other : ℕ) → IsForestOf joins old → AreRootsOf join old between new one other → other ≤ one → after ≡ set new one other → IsForestOf (joins ++ join ∷ []) after
tied_second joins join old between new after one other h roots l is =
    tie_under joins join old between new after one other other one h roots (inr (refl, refl)) l (let within = roots.one_root.inside in let as_many = roots.to_other.as_many in omega arith) (roots.to_other.roots one roots.one_root.top) is

-- ---- labels

-- each place is its own tree
pub own_trees : (parents : List ℕ) → ((i : ℕ) → i < length parents → get_or parents i 0 ≡ i) → IsForestOf [] parents
own_trees parents own = record {
  forest = λ i. elim (cases_lt i (length parents)) [
    | inl less ↦ (let e = own i less in omega arith)
    | inr more ↦ (let e = get_or_past parents i 0 more in omega arith)
  ];
  tied = λ i l. subst (AreTied [] i) (sym (own i l)) itself;
  whole = λ f same. All-nil (λ join. f join.first ≡ f join.second);
}

-- one more join
pub one_more_join : (joins : List Join) (count : ℕ) (d : Join) (parents : List ℕ) → count < length joins → IsForestOf (take count joins ++ get_or joins count d ∷ []) parents → IsForestOf (take (count + 1) joins) parents
one_more_join joins count d parents inside h = subst (λ (t : List Join). IsForestOf t parents) (sym (take_more joins count d inside)) h

-- all joins
pub all_joins : (joins : List Join) (count : ℕ) (parents : List ℕ) → length joins ≤ count → IsForestOf (take count joins) parents → IsForestOf joins parents
all_joins joins count parents l h = subst (λ (t : List Join). IsForestOf t parents) (take_all count joins l) h

-- parents that are roots are labels
pub labels_are : (joins : List Join) (count : ℕ) (parents labels : List ℕ) → length parents ≡ count → IsForestOf joins parents → IsShortened parents labels → ((i : ℕ) → i < length labels → get_or labels (get_or labels i 0) 0 ≡ get_or labels i 0) → AreLabels joins count labels
labels_are joins count parents labels many h short settled = record {
  as_many = short.as_many ∙ many;
  earlier = short.forest;
  settled = λ i l. settled i (let e = short.as_many in omega arith);
  tied = λ i l. short.tied joins h.tied i (let e = short.as_many in omega arith);
  same = h.whole (λ i. get_or labels i 0) (short.same (λ i. get_or labels i 0) (λ i l. sym (settled i l)));
}
