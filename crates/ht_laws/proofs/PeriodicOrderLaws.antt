-- The order of the periodic part of an element is its periodic order; and there is one.
use Rattle.std.proofs.Common.{◌≡◌, ℕ, zero, suc, ◌*◌, ◌++◌, inl, inr, List, [], ◌∷◌, sym, ◌∙◌, subst, arith, ◌↔◌, Contains, pos}
use Rattle.std.specs.Int.{◌∣◌}
use Rattle.std.proofs.lemmas.Int.{ints}
use Rattle.ht_word.specs.Words.{◌·◌, IsUnder}
use Rattle.ht_word.specs.declared.shape.Shape.{Shape}
use Rattle.ht_word.specs.declared.word.Word.{Word}
use Rattle.ht_word.proofs.Deciding.{contains_or_not}
use Rattle.ht_word.proofs.ListLaws.{Contains-nil, Contains-here, Contains-there, Contains-cons_cases}
use Rattle.ht_word.proofs.WordLaws.{after-append, after_cancel_right, under_after, word_after, ones, ones_letters}
use Rattle.ht_num.proofs.NumberLaws.{once_least, least_multiple_none, least_multiple_same, lcm_joins, lcm_exists, least_same}
use Rattle.ht_pair.specs.Actions.{Moves}
use Rattle.ht_pair.specs.Kinds.{IsCycle, IsCycleWord}
use Rattle.ht_pair.specs.Orders.{FixesRoots, IsOrder, IsPeriodicOrder}
use Rattle.ht_pair.specs.Pairs.{IsPair}
use Rattle.ht_pair.specs.Parts.{HasParts}
use Rattle.ht_pair.specs.SemiNormal.{IsSemiNormal}
use Rattle.ht_pair.specs.Steps.{Carries}
use Rattle.ht_pair.specs.declared.row.Row.{Row}
use Rattle.ht_pair.proofs.BasisLaws.{some_at, basis_word}
use Rattle.ht_pair.proofs.CarriesLaws.{carries_single, carries_extends, carries_sum, carries_rest, carries_none}
use Rattle.ht_pair.proofs.MovesLaws.{moves_map, moves_extends}
use Rattle.ht_pair.proofs.PrefixMapLaws.{long_word, moved_long}
use Rattle.ht_pair.proofs.IdentityLaws.{fixed_word}
use Rattle.ht_types.proofs.PeriodicLaws.{carries_round, cycle_around, length_divides, multiple_carries}
use Rattle.ht_laws.proofs.FiniteOrderLaws.{fixes_over}
use Rattle.ht_laws.proofs.PrefixLaws.{moves_carries}

-- one step of the periodic part leads from a cycle word where the element leads
part_step : (shape : Shape) (p : List Row) (X : List Word) (s t : List Row) → IsPair shape p → (h : HasParts shape p X s t) → (x y : Word) → Contains h.periodic x → Carries shape p (pos 1) x y → Carries shape s (pos 1) x y
part_step shape p X s t pair h x y c carries = record {
  word = carries.word;
  carried = λ z w hz (start, is, moved).
      let m = (moves_map shape p pair).ahead in
      let o = ones m.bound in
      let u = x · z in
      let word = word_after shape x z carries.word hz in
      let v = moved_long shape (Moves p) m u m.bound word (omega arith) in
      let long = long_word shape u m.bound word in
      let by_part : v.0 ≡ w · o = h.on_periodic.on (u · o) v.0 (w · o) long (some_at h.periodic x (u · o) c (below x z o)) v.1 (moves_extends s u w o (subst (λ a. Moves s a w) (sym is) moved)) in
      let there : Carries shape p (pos 1) (u · o) ((y · z) · o) = carries_extends shape p (pos 1) u (y · z) o (ones_letters shape m.bound) (carries_extends shape p (pos 1) x y z hz carries) in
      let by_element : v.0 ≡ (y · z) · o = carries_single shape p pair (pos 1) (u · o) v.0 ((y · z) · o) (moves_carries shape p (u · o) v.0 pair long v.1) there in
      after_cancel_right w (y · z) o (sym by_part ∙ by_element);
}
  where
    below : (x : Word) (z o : List ℕ) → IsUnder ((x · z) · o) x
    below x z o = record { rest = z ++ o; is = after-append x z o }

-- and so do k steps
part_steps : (shape : Shape) (p : List Row) (X : List Word) (s t : List Row) → IsPair shape p → IsSemiNormal shape p X → (h : HasParts shape p X s t) → (x : Word) (m : ℕ) → Contains X x → IsCycle shape p x m → (k : ℕ) (y : Word) → Carries shape p (pos k) x y → Carries shape s (pos k) x y
part_steps shape p X s t pair semi h x m c cycle zero y carries =
    let same : x ≡ y = (carries_none shape p x y carries.word).0 carries in
    (carries_none shape s x y carries.word).1 same
part_steps shape p X s t pair semi h x m c cycle (suc k) y carries =
    let on = cycle_around shape p pair X semi (pos k) x m c cycle in
    let before = part_steps shape p X s t pair semi h x m c cycle k on.word on.carries in
    let last : Carries shape p (pos 1) on.word y = carries_rest shape p pair (pos k) (pos 1) (pos (suc k)) (omega (arith, ints)) x on.word y on.carries carries in
    carries_sum shape s h.on_periodic.pair (pos k) (pos 1) (pos (suc k)) (omega (arith, ints)) x on.word y before (part_step shape p X s t pair h on.word y ((h.is_periodic.same on.word).1 (on.listed, (m, on.cycle))) last)

-- it leads from the words of the infinite part back to them
part_fixes : (shape : Shape) (p : List Row) (X : List Word) (s t : List Row) → IsSemiNormal shape p X → (h : HasParts shape p X s t) → (x : Word) → Contains X x → Contains h.infinite x → Carries shape s (pos 1) x x
part_fixes shape p X s t semi h x c infinite =
    let word = basis_word shape X semi.basis x c in
    record {
      word = word;
      carried = λ z w hz (start, is, moved). sym (h.on_periodic.off (x · z) w (word_after shape x z word hz) (some_at h.infinite x (x · z) infinite (under_after x z)) (subst (λ a. Moves s a w) (sym is) moved));
    }

-- the order of the periodic part is the periodic order of the element
pub periodic_part_order : (shape : Shape) (p : List Row) (X : List Word) (s t : List Row) (k : ℕ) → IsPair shape p → IsSemiNormal shape p X → HasParts shape p X s t → IsPeriodicOrder shape p X k ↔ IsOrder shape s k
periodic_part_order shape p X s t k pair semi h = (
  (λ order. least_same IsMultiple (FixesRoots shape s) to from k order),
  (λ order. least_same (FixesRoots shape s) IsMultiple from to k order),
)
  where
    IsMultiple : ℕ → Type 0
    IsMultiple j = (m : ℕ) → (x : Word) × Contains X x × IsCycle shape p x m → m ∣ j

    to : (j : ℕ) → IsMultiple j → FixesRoots shape s j
    to j multiple = fixes_over shape s h.on_periodic.pair X semi.basis j (λ x c n. n (elim (contains_or_not h.periodic x) [
      | inl periodic ↦ (
          let cycle = ((h.is_periodic.same x).0 periodic).1 in
          part_steps shape p X s t pair semi h x cycle.0 c cycle.1 j x (multiple_carries shape p pair x cycle.0 j cycle.1 (multiple cycle.0 (x, c, cycle.1))))
      | inr other ↦ (
          let infinite = (h.is_infinite.same x).1 (c, (λ cycle. other ((h.is_periodic.same x).1 (c, cycle)))) in
          subst (λ i. Carries shape s (pos i) x x) (times_one j) (carries_round shape s h.on_periodic.pair 1 x (part_fixes shape p X s t semi h x c infinite) j))
    ]))
      where
        times_one : (j : ℕ) → j * 1 ≡ j
        times_one j = omega arith

    from : (j : ℕ) → FixesRoots shape s j → IsMultiple j
    from j fixes m (x, c, cycle) =
        let on = cycle_around shape p pair X semi (pos j) x m c cycle in
        let by_part = part_steps shape p X s t pair semi h x m c cycle j on.word on.carries in
        let same : on.word ≡ x = carries_single shape s h.on_periodic.pair (pos j) x on.word x by_part (fixed_word shape s j fixes x (basis_word shape X semi.basis x c)) in
        length_divides shape p pair x m j cycle (subst (Carries shape p (pos j) x) same on.carries)

-- ---- there is a periodic order

-- cycle words have a least common multiple of their lengths
lengths_multiple : (shape : Shape) (p : List Row) (W : List Word) → ((x : Word) → Contains W x → IsCycleWord shape p x) → (k : ℕ) × IsPeriodicOrder shape p W k
lengths_multiple shape p [] cycles = (1, least_multiple_none {P = λ m. (x : Word) × Contains [] x × IsCycle shape p x m} (λ m (x, c, cycle). Contains-nil x c))
lengths_multiple shape p (w ∷ W) cycles =
    let rest = lengths_multiple shape p W (λ x c. cycles x (Contains-there w W x c)) in
    let here = cycles w (Contains-here w W) in
    let joined = lcm_exists rest.0 here.0 rest.1.positive here.1.positive in (
      joined.0,
      least_multiple_same (λ i. (
        (λ either. elim either [ inl l ↦ (l.0, Contains-there w W l.0 l.1, l.2) | inr e ↦ (w, Contains-here w W, subst (IsCycle shape p w) (sym e) here.1) ]),
        (λ (x, c, cycle). elim (Contains-cons_cases w W x c) [ inl e ↦ inr (once_least i here.0 (subst (λ t. IsCycle shape p t i) (sym e) cycle) here.1) | inr d ↦ inl (x, d, cycle) ]),
      )) (lcm_joins rest.1 joined.1),
    )

-- so an element with parts has a periodic order
pub periodic_order_exists : (shape : Shape) (p : List Row) (X : List Word) (s t : List Row) → HasParts shape p X s t → (k : ℕ) × IsPeriodicOrder shape p X k
periodic_order_exists shape p X s t parts =
    let k = lengths_multiple shape p parts.periodic (λ x c. ((parts.is_periodic.same x).0 c).1) in (
      k.0,
      least_multiple_same (λ m. (
        (λ (x, c, cycle). (x, ((parts.is_periodic.same x).0 c).0, cycle)),
        (λ (x, c, cycle). (x, (parts.is_periodic.same x).1 (c, (m, cycle)), cycle)),
      )) k.1,
    )
