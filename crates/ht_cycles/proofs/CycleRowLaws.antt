-- The rows that send cycles to cycles.
use Rattle.std.proofs.Common.{◌≡◌, ℕ, zero, suc, ◌+◌, ◌*◌, ◌%◌, ◌<◌, ◌≤◌, ◌⊎◌, inl, inr, List, [], ◌∷◌, ◌++◌, length, drop, Some, slice_get, add-one, refl, sym, ap, ◌∙◌, subst, subst₂, arith, Contains, pos, mul-le-mul_left}
use Rattle.std.specs.Prelude.{AllPairs}
use Rattle.std.proofs.Math.Nat.{mod-lt}
use Rattle.std.proofs.lemmas.Int.{ints}
use Rattle.std.proofs.lemmas.List.{length-append, length-map, map-append, drop_all}
use Rattle.std.proofs.lemmas.Option.{slice_get_within, get_or_from_slice_get}
use Rattle.std.proofs.lemmas.List.Elements.{All-contains, Contains-append_left, Contains-append_right, Contains-append_cases}
use Rattle.ht_word.specs.Words.{◌·◌, IsWordOf, IsUnder, IsUnderSome}
use Rattle.ht_word.specs.declared.shape.Shape.{Shape}
use Rattle.ht_word.specs.declared.word.Word.{Word}
use Rattle.ht_word.proofs.ListLaws.{Contains-nil, Contains-here, Contains-there, Contains-cons_cases, Contains-map, contained_in_map, AllPairs-nil, AllPairs-cons, AllPairs-head, AllPairs-tail, AllPairs-append}
use Rattle.ht_word.proofs.WordLaws.{All-from_contains, under_refl, under_after, under_trans, word_rest}
use Rattle.ht_pair.specs.Bases.{AreApart, IsPrefixFree, Covers}
use Rattle.ht_pair.specs.Kinds.{IsCycle}
use Rattle.ht_pair.specs.Pairs.{IsPair, from_words, turned}
use Rattle.ht_pair.specs.SemiNormal.{IsSemiNormal}
use Rattle.ht_pair.specs.Steps.{Carries}
use Rattle.ht_pair.specs.declared.row.Row.{Row}
use Rattle.ht_pair.proofs.BasisLaws.{basis_single, covers_from, some_at, some_trans}
use Rattle.ht_pair.proofs.CarriesLaws.{carries_single, carries_word, carries_extends, carries_rest, carries_itself}
use Rattle.ht_pair.proofs.MovesLaws.{from_words-turned}
use Rattle.ht_pair.proofs.Sequences.{in_front_or}
use Rattle.ht_types.proofs.PeriodicLaws.{cycle_around, under_cycle_home}
use Rattle.ht_cycles.specs.Cycles.{Reaches, Meets, ArePicked, IsWordUnderCycle, AreSeeds, GoesOn, IsOnMatchedRound, IsMatchedRound, AreRounds}
use Rattle.ht_cycles.specs.MatchedLengths.{AreOfLengths, IsFollowedByRow, MatchLengths}
use Rattle.ht_cycles.proofs.PickedLaws.{returns_within}
use Rattle.ht_cycles.proofs.RepresentativeLaws.{not_twice, reaches_then}
use Rattle.ht_cycles.proofs.RunLaws.{left_at}
use Rattle.ht_cycles.proofs.SeedLaws.{carried_on, under_carried, goes_on, under_cycle_below, reached_back, picked_seeds}

-- ---- one round

round_length : (shape : Shape) (f g : List Row) (m : ℕ) (u v : Word) (rows : List Row) → IsMatchedRound shape f g m u v rows → length rows ≡ m
round_length shape f g zero u v rows h = ap (λ (t : List Row). length t) h
round_length shape f g (suc m) u v rows h = omega (arith, ap (λ (t : List Row). length t) h.2, length-append h.0 (h.1 ∷ []), round_length shape f g m u v h.0 h.3)

-- it has a row for each number of steps below m
round_at : (shape : Shape) (f g : List Row) (m : ℕ) (u v : Word) (rows : List Row) → IsMatchedRound shape f g m u v rows → (j : ℕ) → j < m → (row : Row) × Contains rows row × IsOnMatchedRound shape f g u v j row
round_at shape f g zero u v rows h j l = absurd (omega arith)
round_at shape f g (suc m) u v rows h j l = elim (last_or j m l) [
  | inl less ↦ let r = round_at shape f g m u v h.0 h.3 j less in (r.0, subst (λ t. Contains t r.0) (sym h.2) (Contains-append_left h.0 (h.1 ∷ []) r.0 r.1), r.2)
  | inr same ↦ (h.1, subst (λ t. Contains t h.1) (sym h.2) (Contains-append_right h.0 (h.1 ∷ []) h.1 (Contains-here h.1 [])), subst (λ t. IsOnMatchedRound shape f g u v t h.1) (sym same) h.4)
]
  where
    last_or : (j m : ℕ) → j < suc m → (j < m) ⊎ (j ≡ m)
    last_or j m l = grind arith

-- and no other
round_of : (shape : Shape) (f g : List Row) (m : ℕ) (u v : Word) (rows : List Row) → IsMatchedRound shape f g m u v rows → (row : Row) → Contains rows row → (j : ℕ) × (j < m) × IsOnMatchedRound shape f g u v j row
round_of shape f g zero u v rows h row c = absurd (Contains-nil row (subst (λ t. Contains t row) h c))
round_of shape f g (suc m) u v rows h row c = elim (in_front_or h.0 h.1 row (subst (λ t. Contains t row) h.2 c)) [
  | inl d ↦ let r = round_of shape f g m u v h.0 h.3 row d in (r.0, less r.0 m r.1, r.2)
  | inr e ↦ (m, less_next m, subst (IsOnMatchedRound shape f g u v m) e h.4)
]
  where
    less : (j m : ℕ) → j < m → j < suc m
    less j m l = omega arith

    less_next : (m : ℕ) → m < suc m
    less_next m = omega arith

turned-append : (p q : List Row) → turned (p ++ q) ≡ turned p ++ turned q
turned-append p q = map-append (λ (row : Row). record { from = row.to; to = row.from }) p q

-- turned round it is the round the other way
round_turned : (shape : Shape) (f g : List Row) (m : ℕ) (u v : Word) (rows : List Row) → IsMatchedRound shape f g m u v rows → IsMatchedRound shape g f m v u (turned rows)
round_turned shape f g zero u v rows h = ap turned h
round_turned shape f g (suc m) u v rows h = (
  turned h.0,
  record { from = h.1.to; to = h.1.from },
  ap turned h.2 ∙ turned-append h.0 (h.1 ∷ []),
  round_turned shape f g m u v h.0 h.3,
  record { from = h.4.to; to = h.4.from },
)

-- there is one
some_round : (shape : Shape) (f g : List Row) (m : ℕ) (u v : Word) → GoesOn shape f u → GoesOn shape g v → (rows : List Row) × IsMatchedRound shape f g m u v rows
some_round shape f g zero u v go_u go_v = ([], refl)
some_round shape f g (suc m) u v go_u go_v =
    let rest = some_round shape f g m u v go_u go_v in
    let row : Row = record { from = (go_u m).0; to = (go_v m).0 } in
    (rest.0 ++ row ∷ [], (rest.0, row, refl, rest.1, record { from = (go_u m).1; to = (go_v m).1 }))

-- its `from` words are apart
round_free : (shape : Shape) (f g : List Row) → IsPair shape f → (X : List Word) → IsSemiNormal shape f X → (m : ℕ) (u v : Word) → IsWordUnderCycle shape f X u m → (j : ℕ) (rows : List Row) → j ≤ m → IsMatchedRound shape f g j u v rows → IsPrefixFree (from_words rows)
round_free shape f g pair X semi m u v under zero rows l h = subst (λ (t : List Row). IsPrefixFree (from_words t)) (sym h) (AllPairs-nil AreApart)
round_free shape f g pair X semi m u v under (suc j) rows l h =
    subst IsPrefixFree (sym (ap from_words h.2 ∙ map-append (λ (row : Row). row.from) h.0 (h.1 ∷ [])))
    (AllPairs-append AreApart (from_words h.0) (h.1.from ∷ []) (round_free shape f g pair X semi m u v under j h.0 (omega arith) h.3)
    (AllPairs-cons AreApart h.1.from [] (All-from_contains (AreApart h.1.from) [] (λ w c. absurd (Contains-nil w c))) (AllPairs-nil AreApart))
    (λ w y c d.
    let row = contained_in_map (λ (row : Row). row.from) h.0 w c in
    let on = round_of shape f g j u v h.0 h.3 row.0 row.1 in
    let is : h.1.from ≡ y = elim (Contains-cons_cases h.1.from [] y d) [ inl e ↦ e | inr k ↦ absurd (Contains-nil y k) ] in
    let first = subst (Carries shape f (pos on.0) u) row.2 on.2.from in
    let second = subst (Carries shape f (pos j) u) is h.4.from in (
      λ below. apart_steps on.0 j w y on.1 l first second w below (under_refl w),
      λ below. apart_steps on.0 j w y on.1 l first second y (under_refl y) below,
    )))
  where
    apart_steps : (i j : ℕ) (w y : Word) → i < j → j < m → Carries shape f (pos i) u w → Carries shape f (pos j) u y → (t : Word) → IsUnder t y → IsUnder t w → ⊥
    apart_steps i j w y less high a b t at_y at_w =
        let on_w = carried_on shape f pair X semi m i u w under a in
        let on_y = carried_on shape f pair X semi m j u y under b in
        let z = under.under.rest in
        let one : on_w.next ≡ on_y.next = basis_single shape X semi.basis t on_w.next on_y.next on_w.listed on_y.listed (under_trans at_w (record { rest = z; is = on_w.is })) (under_trans at_y (record { rest = z; is = on_y.is })) in
        not_twice shape f pair m i j under.above on_y.next under.cycle less high (subst (Carries shape f (pos i) under.above) one on_w.carries) on_y.carries

-- one more step of a round
pub next_of_round : (shape : Shape) (f : List Row) → IsPair shape f → (k : ℕ) (from u : Word) → GoesOn shape f from → Carries shape f (pos k) from u → (v : Word) × Carries shape f (pos 1) u v
next_of_round shape f pair k from u go carries = let next = go (k + 1) in (next.0, carries_rest shape f pair (pos k) (pos 1) (pos (k + 1)) (omega (arith, ints)) from u next.0 carries next.1)

pub round_more : (shape : Shape) (f g : List Row) (k : ℕ) (u v : Word) (before : List Row) (row : Row) → IsMatchedRound shape f g k u v before → IsOnMatchedRound shape f g u v k row → IsMatchedRound shape f g (k + 1) u v (before ++ row ∷ [])
round_more shape f g k u v before row h on = rw add-one (before, row, refl, h, on)

-- ---- all rounds

rounds_length : (shape : Shape) (f g : List Row) (m : ℕ) (us vs : List Word) (rows : List Row) → length us ≡ length vs → AreRounds shape f g m us vs rows → length rows ≡ m * length us
rounds_length shape f g m [] vs rows same h = omega (arith, ap (λ (t : List Row). length t) h)
rounds_length shape f g m (u ∷ us) [] rows same h = absurd (omega arith)
rounds_length shape f g m (u ∷ us) (v ∷ vs) rows same h = omega (arith, ap (λ (t : List Row). length t) h.2, length-append h.0 h.1, round_length shape f g m u v h.0 h.3, rounds_length shape f g m us vs h.1 (omega arith) h.4)

-- a row is on the round of some u and v, and the rows have the whole round
record IsOfRound (shape : Shape) (f g : List Row) (m : ℕ) (us vs : List Word) (rows : List Row) (row : Row) : Type 0 where
  first : Word
  second : Word
  first_listed : Contains us first
  second_listed : Contains vs second
  steps : ℕ
  low : steps < m
  on : IsOnMatchedRound shape f g first second steps row
  round : (j : ℕ) → j < m → (next : Row) × Contains rows next × IsOnMatchedRound shape f g first second j next

rounds_of : (shape : Shape) (f g : List Row) (m : ℕ) (us vs : List Word) (rows : List Row) → AreRounds shape f g m us vs rows → (row : Row) → Contains rows row → IsOfRound shape f g m us vs rows row
rounds_of shape f g m [] vs rows h row c = absurd (Contains-nil row (subst (λ t. Contains t row) h c))
rounds_of shape f g m (u ∷ us) [] rows h row c = absurd (Contains-nil row (subst (λ t. Contains t row) h c))
rounds_of shape f g m (u ∷ us) (v ∷ vs) rows h row c = elim (Contains-append_cases h.0 h.1 row (subst (λ t. Contains t row) h.2 c)) [
  | inl d ↦
      let on = round_of shape f g m u v h.0 h.3 row d in
      record {
        first = u;
        second = v;
        first_listed = Contains-here u us;
        second_listed = Contains-here v vs;
        steps = on.0;
        low = on.1;
        on = on.2;
        round = λ j l. let r = round_at shape f g m u v h.0 h.3 j l in (r.0, subst (λ t. Contains t r.0) (sym h.2) (Contains-append_left h.0 h.1 r.0 r.1), r.2);
      }
  | inr d ↦
      let rest = rounds_of shape f g m us vs h.1 h.4 row d in
      record {
        first = rest.first;
        second = rest.second;
        first_listed = Contains-there u us rest.first rest.first_listed;
        second_listed = Contains-there v vs rest.second rest.second_listed;
        steps = rest.steps;
        low = rest.low;
        on = rest.on;
        round = λ j l. let r = rest.round j l in (r.0, subst (λ t. Contains t r.0) (sym h.2) (Contains-append_right h.0 h.1 r.0 r.1), r.2);
      }
]

-- each word of us has its round
rounds_at : (shape : Shape) (f g : List Row) (m : ℕ) (us vs : List Word) (rows : List Row) → length us ≡ length vs → AreRounds shape f g m us vs rows → (u : Word) → Contains us u → (j : ℕ) → j < m → (row : Row) × Contains rows row × Carries shape f (pos j) u row.from
rounds_at shape f g m [] vs rows same h u c j l = absurd (Contains-nil u c)
rounds_at shape f g m (u ∷ us) [] rows same h w c j l = absurd (omega arith)
rounds_at shape f g m (u ∷ us) (v ∷ vs) rows same h w c j l = elim (Contains-cons_cases u us w c) [
  | inl e ↦ let r = round_at shape f g m u v h.0 h.3 j l in (r.0, subst (λ t. Contains t r.0) (sym h.2) (Contains-append_left h.0 h.1 r.0 r.1), subst (λ t. Carries shape f (pos j) t r.0.from) e r.2.from)
  | inr d ↦ let r = rounds_at shape f g m us vs h.1 (less (length us) (length vs) same) h.4 w d j l in (r.0, subst (λ t. Contains t r.0) (sym h.2) (Contains-append_right h.0 h.1 r.0 r.1), r.2)
]
  where
    less : (j k : ℕ) → suc j ≡ suc k → j ≡ k
    less j k e = omega arith

rounds_turned : (shape : Shape) (f g : List Row) (m : ℕ) (us vs : List Word) (rows : List Row) → AreRounds shape f g m us vs rows → AreRounds shape g f m vs us (turned rows)
rounds_turned shape f g m [] [] rows h = ap turned h
rounds_turned shape f g m [] (v ∷ vs) rows h = ap turned h
rounds_turned shape f g m (u ∷ us) [] rows h = ap turned h
rounds_turned shape f g m (u ∷ us) (v ∷ vs) rows h = (turned h.0, turned h.1, ap turned h.2 ∙ turned-append h.0 h.1, round_turned shape f g m u v h.0 h.3, rounds_turned shape f g m us vs h.1 h.4)

some_rounds : (shape : Shape) (f g : List Row) (m : ℕ) (us : List Word) → ((u : Word) → Contains us u → GoesOn shape f u × GoesOn shape g u) → (rows : List Row) × AreRounds shape f g m us us rows
some_rounds shape f g m [] go = ([], refl)
some_rounds shape f g m (u ∷ us) go =
    let here = go u (Contains-here u us) in
    let first = some_round shape f g m u u here.0 here.1 in
    let others = some_rounds shape f g m us (λ w c. go w (Contains-there u us w c)) in
    (first.0 ++ others.0, (first.0, others.0, refl, first.1, others.1))

-- the words at one more place
pub rounds_more : (shape : Shape) (f g : List Row) (m : ℕ) (us vs : List Word) (place : ℕ) (u v : Word) (first others : List Row) → slice_get us place ≡ Some u → slice_get vs place ≡ Some v → IsMatchedRound shape f g m u v first → AreRounds shape f g m (drop (place + 1) us) (drop (place + 1) vs) others
    → AreRounds shape f g m (drop place us) (drop place vs) (first ++ others)
rounds_more shape f g m us vs place u v first others here there round rest =
    subst₂ (λ A B. AreRounds shape f g m A B (first ++ others)) (sym (left us u here)) (sym (left vs v there)) (first, others, refl, round, rest)
  where
    left : (xs : List Word) (x : Word) → slice_get xs place ≡ Some x → drop place xs ≡ x ∷ drop (place + 1) xs
    left xs x e = left_at xs place x (slice_get_within xs place x e) (get_or_from_slice_get xs place x x e)

pub rounds_done : (shape : Shape) (f g : List Row) (m : ℕ) (us vs : List Word) (place : ℕ) → length us ≤ place → AreRounds shape f g m (drop place us) (drop place vs) []
rounds_done shape f g m us vs place far = subst (λ A. AreRounds shape f g m A (drop place vs) []) (sym (drop_all place us far)) refl

-- where steps from u lead to a word to which steps lead from a word under r, they lead from u to that word
joined : (shape : Shape) (f : List Row) → IsPair shape f → (X : List Word) (m i j : ℕ) (u w r : Word) → IsWordUnderCycle shape f X r m → Carries shape f (pos i) u w → Carries shape f (pos j) r w → Reaches shape f u r
joined shape f pair X m i j u w r under a b = reaches_then shape f pair u w r (record { steps = i; carries = a }) (reached_back shape f pair X m r w under (record { steps = j; carries = b }))

-- the rounds of words that never meet are apart
rounds_apart : (shape : Shape) (f : List Row) → IsPair shape f → (X : List Word) (m i j : ℕ) (u r w y : Word) → IsWordUnderCycle shape f X u m → IsWordUnderCycle shape f X r m → ¬ Meets shape f u r → Carries shape f (pos i) u w → Carries shape f (pos j) r y → AreApart w y
rounds_apart shape f pair X m i j u r w y under_u under_r apart a b = (
  λ below.
      let z = below.rest in
      let word_w = carries_word shape f pair (pos i) u w a in
      let hz = word_rest shape y z (subst (IsWordOf shape) below.is word_w) in
      let b' : Carries shape f (pos j) (r · z) w = subst (Carries shape f (pos j) (r · z)) (sym below.is) (carries_extends shape f (pos j) r y z hz b) in
      apart (record { from = u; to = r · z; from_under = under_refl u; to_under = under_after r z; reaches = joined shape f pair X m i j u w (r · z) (under_cycle_below shape f X m r (r · z) b'.word (under_after r z) under_r) a b' }),
  λ below.
      let z = below.rest in
      let word_y = carries_word shape f pair (pos j) r y b in
      let hz = word_rest shape w z (subst (IsWordOf shape) below.is word_y) in
      let a' : Carries shape f (pos i) (u · z) y = subst (Carries shape f (pos i) (u · z)) (sym below.is) (carries_extends shape f (pos i) u w z hz a) in
      apart (record { from = u · z; to = r; from_under = under_after u z; to_under = under_refl r; reaches = joined shape f pair X m i j (u · z) y r under_r a' b }),
)

-- so the `from` words are
rounds_free : (shape : Shape) (f g : List Row) → IsPair shape f → (X : List Word) → IsSemiNormal shape f X → (m : ℕ) (us vs : List Word) (rows : List Row) → ((u : Word) → Contains us u → IsWordUnderCycle shape f X u m) → AllPairs (λ r s. ¬ Meets shape f r s) us → AreRounds shape f g m us vs rows → IsPrefixFree (from_words rows)
rounds_free shape f g pair X semi m [] vs rows under apart h = subst (λ (t : List Row). IsPrefixFree (from_words t)) (sym h) (AllPairs-nil AreApart)
rounds_free shape f g pair X semi m (u ∷ us) [] rows under apart h = subst (λ (t : List Row). IsPrefixFree (from_words t)) (sym h) (AllPairs-nil AreApart)
rounds_free shape f g pair X semi m (u ∷ us) (v ∷ vs) rows under apart h =
    let at = under u (Contains-here u us) in
    subst IsPrefixFree (sym (ap from_words h.2 ∙ map-append (λ (row : Row). row.from) h.0 h.1))
    (AllPairs-append AreApart (from_words h.0) (from_words h.1) (round_free shape f g pair X semi m u v at m h.0 (omega arith) h.3)
    (rounds_free shape f g pair X semi m us vs h.1 (λ w c. under w (Contains-there u us w c)) (AllPairs-tail (λ r s. ¬ Meets shape f r s) u us apart) h.4)
    (λ w y c d.
    let one = contained_in_map (λ (row : Row). row.from) h.0 w c in
    let other = contained_in_map (λ (row : Row). row.from) h.1 y d in
    let on = round_of shape f g m u v h.0 h.3 one.0 one.1 in
    let of = rounds_of shape f g m us vs h.1 h.4 other.0 other.1 in
    rounds_apart shape f pair X m on.0 of.steps u of.first w y at (under of.first (Contains-there u us of.first of.first_listed)) (All-contains (λ s. ¬ Meets shape f u s) us of.first (AllPairs-head (λ r s. ¬ Meets shape f r s) u us apart) of.first_listed)
    (subst (Carries shape f (pos on.0) u) one.2 on.2.from) (subst (Carries shape f (pos of.steps) of.first) other.2 of.on.from)))

-- ---- the words of cycles of one length

-- where steps lead from a word of X of a cycle of length m is another
moved_along : (shape : Shape) (f : List Row) → IsPair shape f → (X : List Word) → IsSemiNormal shape f X → (m k : ℕ) (r x : Word) → Contains X r → IsCycle shape f r m → Carries shape f (pos k) r x → Contains X x × IsCycle shape f x m
moved_along shape f pair X semi m k r x c cycle carries =
    let on = cycle_around shape f pair X semi (pos k) r m c cycle in
    subst (λ t. Contains X t × IsCycle shape f t m) (carries_single shape f pair (pos k) r on.word x on.carries carries) (on.listed, on.cycle)

-- the words of X of cycles of length m, where one of each cycle is picked
pub record HasCycleWords (shape : Shape) (f : List Row) (X : List Word) (m : ℕ) (R : List Word) : Type 0 where
  pub words : List Word
  pub are : AreOfLengths shape f X (λ k. k ≡ m) words
  pub size : length words ≡ m * length R

pub has_cycle_words : (shape : Shape) (f : List Row) → IsPair shape f → (X : List Word) → IsSemiNormal shape f X → (m : ℕ) (R : List Word) → ArePicked shape f X m R → HasCycleWords shape f X m R
has_cycle_words shape f pair X semi m R picked =
    let seeds = picked_seeds shape f pair X semi m R picked in
    let go = λ (u : Word) (c : Contains R u). goes_on shape f pair X semi m u (seeds.under u c) in
    let rows = some_rounds shape f f m R (λ u c. (go u c, go u c)) in
    record {
      words = from_words rows.0;
      are = record {
        free = rounds_free shape f f pair X semi m R R rows.0 seeds.under seeds.apart rows.1;
        listed = λ x c.
            let row = contained_in_map (λ (row : Row). row.from) rows.0 x c in
            let of = rounds_of shape f f m R R rows.0 rows.1 row.0 row.1 in
            let h = picked.listed of.first of.first_listed in
            let there = moved_along shape f pair X semi m of.steps of.first x h.0 h.1 (subst (Carries shape f (pos of.steps) of.first) row.2 of.on.from) in
            (there.0, m, refl, there.1);
        all = λ x k c same cycle.
            let r = picked.all x c (subst (IsCycle shape f x) same cycle) in
            let turn = (picked.listed r.0 r.1).1 in
            let row = rounds_at shape f f m R R rows.0 refl rows.1 r.0 r.1 (r.2.steps % m) (omega (arith, mod-lt r.2.steps turn.positive)) in
            let is : row.0.from ≡ x = carries_single shape f pair (pos (r.2.steps % m)) r.0 row.0.from x row.2 (returns_within shape f pair r.0 x m r.2.steps turn.holds r.2.carries) in
            subst (Contains (from_words rows.0)) is (Contains-map (λ (row : Row). row.from) rows.0 row.0 row.1);
      };
      size = length-map rows.0 (λ (row : Row). row.from) ∙ rounds_length shape f f m R R rows.0 refl rows.1;
    }

-- a `from` word is under a word of a cycle of length m
rounds_under : (shape : Shape) (f g : List Row) → IsPair shape f → (X : List Word) → IsSemiNormal shape f X → (m : ℕ) (us vs : List Word) (rows : List Row) → AreSeeds shape f X m us → AreRounds shape f g m us vs rows → (w : Word) → Contains (from_words rows) w → IsWordUnderCycle shape f X w m
rounds_under shape f g pair X semi m us vs rows seeds h w c =
    let row = contained_in_map (λ (row : Row). row.from) rows w c in
    let of = rounds_of shape f g m us vs rows h row.0 row.1 in
    under_carried shape f pair X semi m of.steps of.first w (seeds.under of.first of.first_listed) (subst (Carries shape f (pos of.steps) of.first) row.2 of.on.from)

-- one side of the rows
record IsSide (shape : Shape) (f : List Row) (X P W : List Word) : Type 0 where
  covers : Covers shape W P
  under : (w : Word) → Contains W w → IsUnderSome w P

rounds_side : (shape : Shape) (f g : List Row) → IsPair shape f → (X : List Word) → IsSemiNormal shape f X → (m : ℕ) (us vs : List Word) (rows : List Row) → length us ≡ length vs → AreSeeds shape f X m us → AreRounds shape f g m us vs rows → (P : List Word) → AreOfLengths shape f X (λ k. k ≡ m) P → IsSide shape f X P (from_words rows)
rounds_side shape f g pair X semi m us vs rows same seeds h P are =
    let W = from_words rows in
    record {
      covers = covers_from shape W P
          (All-from_contains (IsWordOf shape) W (λ w c. (at w c).word))
          (rounds_free shape f g pair X semi m us vs rows seeds.under seeds.apart h)
          seeds.bound
          (λ u word l. (
            λ s. some_trans s.under (under s.above s.listed),
            λ s.
                let of = are.listed s.above s.listed in
                let cycle = subst (IsCycle shape f s.above) of.2 of.3 in
                let below : IsWordUnderCycle shape f X u m = record { word = word; under_cycle = record { above = s.above; listed = of.0; cycle = cycle; under = s.under } } in
                let r = seeds.all u below l in
                let z = r.under.rest in
                let here = seeds.under r.above r.listed in
                let hz = word_rest shape r.above z (subst (IsWordOf shape) r.under.is r.reaches.carries.word) in
                let k = r.reaches.steps % m in
                let on = goes_on shape f pair X semi m r.above here r.reaches.steps in
                let row = rounds_at shape f g m us vs rows same h r.above r.listed k (omega (arith, mod-lt r.reaches.steps cycle.positive)) in
                let there : u ≡ on.0 · z = carries_single shape f pair (pos r.reaches.steps) r.from u (on.0 · z) r.reaches.carries (subst (λ t. Carries shape f (pos r.reaches.steps) t (on.0 · z)) (sym r.under.is) (carries_extends shape f (pos r.reaches.steps) r.above on.0 z hz on.1)) in
                let is : row.0.from ≡ on.0 = carries_single shape f pair (pos k) r.above row.0.from on.0 row.2 (returns_within shape f pair r.above on.0 m r.reaches.steps (under_cycle_home shape f X r.above m here.word here.under_cycle) on.1) in
                some_at W row.0.from u (Contains-map (λ (row : Row). row.from) rows row.0 row.1) (record { rest = z; is = there ∙ ap (λ t. t · z) (sym is) }),
          ));
      under = under;
    }
  where
    at : (w : Word) → Contains (from_words rows) w → IsWordUnderCycle shape f X w m
    at w c = rounds_under shape f g pair X semi m us vs rows seeds h w c

    under : (w : Word) → Contains (from_words rows) w → IsUnderSome w P
    under w c = let b = at w c in some_at P b.above w (are.all b.above m b.listed refl b.cycle) b.under

-- one step leads from a row to a row
rounds_follow : (shape : Shape) (f g : List Row) → IsPair shape f → IsPair shape g → (X Y : List Word) (m : ℕ) (us vs : List Word) (rows : List Row) → AreSeeds shape f X m us → AreSeeds shape g Y m vs → AreRounds shape f g m us vs rows → (row : Row) → Contains rows row → IsFollowedByRow shape f g rows row
rounds_follow shape f g pair_f pair_g X Y m us vs rows seeds_f seeds_g h row c =
    let of = rounds_of shape f g m us vs rows h row c in
    let step : (p : List Row) → IsPair shape p → (u w y : Word) → Carries shape p (pos of.steps) u w → Carries shape p (pos (suc of.steps)) u y → Carries shape p (pos 1) w y
    = λ p pair u w y a b. carries_rest shape p pair (pos of.steps) (pos 1) (pos (suc of.steps)) (omega (arith, ints)) u w y a b in
    elim (end_or of.steps m of.low) [
      | inl l ↦
          let next = of.round (suc of.steps) l in
          record { next = next.0; listed = next.1; from = step f pair_f of.first row.from next.0.from of.on.from next.2.from; to = step g pair_g of.second row.to next.0.to of.on.to next.2.to }
      | inr e ↦
          let next = of.round 0 (omega (arith, of.low)) in
          let under_f = seeds_f.under of.first of.first_listed in
          let under_g = seeds_g.under of.second of.second_listed in
          let home_f = under_cycle_home shape f X of.first m under_f.word under_f.under_cycle in
          let home_g = under_cycle_home shape g Y of.second m under_g.word under_g.under_cycle in
          let is_f : of.first ≡ next.0.from = carries_single shape f pair_f (pos 0) of.first of.first next.0.from (carries_itself shape f of.first home_f.word) next.2.from in
          let is_g : of.second ≡ next.0.to = carries_single shape g pair_g (pos 0) of.second of.second next.0.to (carries_itself shape g of.second home_g.word) next.2.to in
          record {
            next = next.0;
            listed = next.1;
            from = step f pair_f of.first row.from next.0.from of.on.from (subst (λ t. Carries shape f (pos t) of.first next.0.from) (sym e) (subst (Carries shape f (pos m) of.first) is_f home_f));
            to = step g pair_g of.second row.to next.0.to of.on.to (subst (λ t. Carries shape g (pos t) of.second next.0.to) (sym e) (subst (Carries shape g (pos m) of.second) is_g home_g));
          }
    ]
  where
    end_or : (i m : ℕ) → i < m → (suc i < m) ⊎ (suc i ≡ m)
    end_or i m l = grind arith

-- so they match the cycles of the length
pub match_rounds : (shape : Shape) (f g : List Row) → IsPair shape f → IsPair shape g → (X Y : List Word) → IsSemiNormal shape f X → IsSemiNormal shape g Y → (m : ℕ) (R S us vs : List Word) (rows : List Row) → ArePicked shape f X m R → ArePicked shape g Y m S
    → AreSeeds shape f X m us → AreSeeds shape g Y m vs → length us ≡ length vs → length us ≤ length R + length S → AreRounds shape f g m us vs rows → MatchLengths shape f X g Y (λ k. k ≡ m) rows
match_rounds shape f g pair_f pair_g X Y semi_f semi_g m R S us vs rows picked_f picked_g seeds_f seeds_g same few h =
    let P = has_cycle_words shape f pair_f X semi_f m R picked_f in
    let Q = has_cycle_words shape g pair_g Y semi_g m S picked_g in
    let first = rounds_side shape f g pair_f X semi_f m us vs rows same seeds_f h P.words P.are in
    let second = rounds_side shape g f pair_g Y semi_g m vs us (turned rows) (sym same) seeds_g (rounds_turned shape f g m us vs rows h) Q.words Q.are in
    record {
      first = P.words;
      second = Q.words;
      first_are = P.are;
      second_are = Q.are;
      few = omega (arith, P.size, Q.size, rounds_length shape f g m us vs rows same h, mul-le-mul_left m few);
      from = first.covers;
      to = subst (λ W. Covers shape W Q.words) (from_words-turned rows) second.covers;
      from_under = first.under;
      to_under = λ v c. second.under v (subst (λ W. Contains W v) (sym (from_words-turned rows)) c);
      follows = rounds_follow shape f g pair_f pair_g X Y m us vs rows seeds_f seeds_g h;
    }
