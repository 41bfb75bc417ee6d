-- Values carried over the links of an atom: one more is known, and all of them once each link is level.
use Rattle.std.proofs.Common.{◌≡◌, ℕ, zero, suc, ◌+◌, ◌<◌, inl, inr, Bool, true, false, true≢false, cond, List, [], ◌∷◌, length, get_or, set, take, replicate, ◌||◌, Option, None, Some, slice_get, refl, sym, ap, ◌∙◌, subst, arith, length-set, All, AllPairs}
use mathlib.Core.Bool.{beq}
use Rattle.std.specs.Option.{is_some}
use Rattle.std.proofs.lemmas.List.{length-replicate, take_more}
use Rattle.std.proofs.lemmas.List.Elements.{All-contains, All-push}
use Rattle.std.proofs.lemmas.Option.{same_Some, slice_get_within}
use Rattle.ht_pair.specs.Atoms.{IsAtom}
use Rattle.ht_pair.specs.declared.row.Row.{Row}
use Rattle.ht_quasi.proofs.StepLaws.{at_place}
use Rattle.ht_types.proofs.EntryLaws.{entry_cases, entry_kept, entry_set}
use Rattle.ht_types.specs.Flows.{opposite}
use Rattle.ht_types.specs.Links.{IsEndAt, IsLink, IsLinked, AreConnected, ConnectEnds, reach_in}
use Rattle.ht_types.specs.TypedElements.{TypedValue}
use Rattle.ht_types.specs.declared.direction.Direction.{Direction}
use Rattle.ht_types.specs.declared.direction.Direction.TheVariants.{Ahead, Behind}
use Rattle.ht_types.specs.declared.link.Link.{Link}
use Rattle.ht_local.specs.Crossings.{IsRightAcross}
use Rattle.ht_local.specs.KnownValues.{IsHeld, IsKnownAt, AreKnown, AreRight, IsRight}
use Rattle.ht_local.specs.LocalConjugators.{ConjugatesPlaces}
use Rattle.ht_local.specs.Propagations.{AreAllKnown, AreAllRight, AreCrossings, AreHeldAt, IsCrossing, IsLevel, StayKnown, StayRight, TellsPass, TellsStep, end_of, unknown}
use Rattle.ht_local.specs.declared.crossing.Crossing.{Crossing}
use Rattle.ht_local.specs.declared.known.Known.{Known}
use Rattle.ht_local.proofs.PlaceLaws.{entry_listed}
use Rattle.ht_local.proofs.TableLaws.{place_once}

abbrev Values : Type 0
Values = List (Option Known)

-- ---- one value more

no_value : (value : Known) → Some None ≡ Some (Some value) → ⊥
no_value value e = let inner = same_Some None (Some value) e in cc

-- fewer places are without a value
pub fewer_unknown : (known : Values) (i : ℕ) (value : Known) → slice_get known i ≡ Some None → unknown (set known i (Some value)) < unknown known
fewer_unknown [] i value h = absurd (let l = slice_get_within [] i None h in omega arith)
fewer_unknown (None ∷ known) zero value h = omega arith
fewer_unknown (Some other ∷ known) zero value h = absurd (no_value other (sym h))
fewer_unknown (None ∷ known) (suc i) value h = let l = fewer_unknown known i value h in omega arith
fewer_unknown (Some other ∷ known) (suc i) value h = fewer_unknown known i value h

-- the others stay
stay_set : (known : Values) (i : ℕ) (value : Known) → slice_get known i ≡ Some None → StayKnown known (set known i (Some value))
stay_set known i value none = λ j other h. entry_kept known i j (Some value) (λ e. no_value other (sym none ∙ ap (slice_get known) (sym e) ∙ h)) ∙ h

-- what is held stays so, what is known stays, and it stays right
pub record AreCarried (f g : TypedValue) (k : List ℕ) (old new : Values) (told : Option Bool) : Type 0 where
  pub held : AreHeldAt f g k new
  pub stay : StayKnown old new
  pub right : StayRight f g k old new told

module _ {f g : TypedValue} {k : List ℕ} {first second : Values} {told : Bool} (a : AreCarried f g k first second (Some told)) where
  -- nothing more is told only where there is no more
  pub carried_to_none : (third : Values) → StayRight f g k second third None → StayRight f g k first third None
  carried_to_none third right = λ l h atom other conjugates right_first. right l h atom other conjugates (a.right l h atom other conjugates right_first).2

  pub carried_on : {third : Values} {more : Bool} → AreCarried f g k second third (Some more) → (all : Bool) → AreCarried f g k first third (Some all)
  carried_on b all = record {
    held = b.held;
    stay = λ i value at. b.stay i value (a.stay i value at);
    right = λ l h atom other conjugates right. (all, refl, (b.right l h atom other conjugates (a.right l h atom other conjugates right).2).2);
  }

module _ {f : TypedValue} {k : List ℕ} {links : List Link} (links_are : All (IsLink f) links) {crossing : Crossing} (c : IsCrossing f k links crossing) where
  link : IsLink f c.link
  link = All-contains (IsLink f) links c.link links_are (entry_listed links crossing.link c.link c.here)

  -- the end of a link in the direction
  end_at : (direction : Direction) → slice_get k (end_of direction crossing) ≡ Some (reach_in direction c.link).to
  end_at Ahead = c.ahead
  end_at Behind = c.behind

  is_end : (direction : Direction) → IsEndAt f k (reach_in direction c.link).to
  is_end Ahead = record { listed = entry_listed k crossing.ahead c.link.ahead.to c.ahead; word = link.ahead.above; here = link.ahead.here; ends = inl link.ahead.ends }
  is_end Behind = record { listed = entry_listed k crossing.behind c.link.behind.to c.behind; word = link.behind.above; here = link.behind.here; ends = inr link.behind.ends }

  module _ {g : TypedValue} {known : Values} (held : AreHeldAt f g k known) (direction : Direction) (near : Known) (at : slice_get known (end_of direction crossing) ≡ Some (Some near)) where
    pub near_held : IsHeld g near
    near_held = (held.each (end_of direction crossing) (reach_in direction c.link).to near (end_at direction) at).1

    abbrev to : ℕ
    to = end_of (opposite direction) crossing

    abbrev far_end : ℕ
    far_end = (reach_in (opposite direction) c.link).to

    far_right : {found : Option Known} → IsRightAcross f g c.link direction near found → (l : List ℕ) (h : List Row) → IsAtom f.element.shape f.element.rows f.quasi.basis.words k
        → IsAtom f.element.shape g.element.rows g.quasi.basis.words l → ConjugatesPlaces f k g l h → AreRight f g h k known → (far : Known) × (found ≡ Some far) × IsRight f g h far_end far
    far_right across l h atom other conjugates right =
        across k l h atom other c.under conjugates (right (end_of direction crossing) (reach_in direction c.link).to near (end_at direction) at)

    -- none is found only where no conjugator has the near one
    pub carried_none : IsRightAcross f g c.link direction near None → (new : Values) → StayRight f g k known new None
    carried_none across new = λ l h atom other conjugates right.
        let far = far_right across l h atom other conjugates right in
        let both : None ≡ Some far.0 = far.1 in
        cc

    -- the far one is one more
    pub carried_set : slice_get known to ≡ Some None → (value : Known) → IsHeld g value → IsRightAcross f g c.link direction near (Some value)
        → AreCarried f g k known (set known to (Some value)) (Some true)
    carried_set none value far_held across =
        let within = slice_get_within known to None none in
        let far_place : (i place : ℕ) → slice_get k i ≡ Some place → i ≡ to → place ≡ far_end =
        λ i place here e. same_Some place far_end (sym here ∙ ap (slice_get k) e ∙ end_at (opposite direction)) in
        record {
          held = record {
            as_many = length-set known to (Some value) ∙ held.as_many;
            each = λ i place found here there. elim (entry_cases known to i (Some value) (Some found) within there) [
              | inl one ↦ (
                subst (IsEndAt f k) (sym (far_place i place here one.0)) (is_end (opposite direction)),
                subst (IsHeld g) (same_Some value found one.1) far_held,
              )
              | inr other ↦ held.each i place found here other.1
            ];
          };
          stay = stay_set known to value none;
          right = λ l h atom other conjugates right.
              let far = far_right across l h atom other conjugates right in
              let same : value ≡ far.0 = same_Some value far.0 far.1 in (
                true,
                refl,
                λ i place found here there. elim (entry_cases known to i (Some value) (Some found) within there) [
                  | inl one ↦ subst (λ j. IsRight f g h j found) (sym (far_place i place here one.0))
                      (subst (IsRight f g h far_end) (sym same ∙ same_Some value found one.1) far.2)
                  | inr old ↦ right i place found here old.1
                ],
              );
        }

-- ---- one crossing

-- the end of the crossing in the direction is known, the other one isn't
pub record IsOneKnown (known : Values) (crossing : Crossing) (direction : Direction) : Type 0 where
  pub near : (value : Known) × (slice_get known (end_of direction crossing) ≡ Some (Some value))
  pub far : slice_get known (end_of (opposite direction) crossing) ≡ Some None

pub one_known : (known : Values) (crossing : Crossing) (ahead behind : Option Known) → slice_get known crossing.ahead ≡ Some ahead
    → slice_get known crossing.behind ≡ Some behind → beq (is_some ahead) (is_some behind) ≡ false → (direction : Direction) → direction ≡ cond (is_some ahead) Ahead Behind → IsOneKnown known crossing direction
one_known known crossing None None at bt differ direction is = absurd (true≢false differ)
one_known known crossing None (Some value) at bt differ direction is = subst (IsOneKnown known crossing) (sym is) (record { near = (value, bt); far = at })
one_known known crossing (Some value) None at bt differ direction is = subst (IsOneKnown known crossing) (sym is) (record { near = (value, at); far = bt })
one_known known crossing (Some value) (Some other) at bt differ direction is = absurd (true≢false differ)

-- ---- one crossing after another

-- what is told of some crossings and of the next one
pub told_more : (crossings : List Crossing) (i : ℕ) (d : Crossing) (first second third : Values) (told more : Bool) → i < length crossings
    → TellsPass (take i crossings) first second (Some told) → TellsStep (get_or crossings i d) second third (Some more)
    → TellsPass (take (i + 1) crossings) first third (Some (told || more))
told_more crossings i d first second third true true l fewer step = omega arith
told_more crossings i d first second third true false l fewer step = subst (λ s. unknown s < unknown first) (sym step.0) fewer
told_more crossings i d first second third false true l same step = subst (λ s. unknown third < unknown s) same.0 step
told_more crossings i d first second third false false l same step = (
  step.0 ∙ same.0,
  subst (All (IsLevel third)) (sym (take_more crossings i d l))
      (All-push (IsLevel third) (take i crossings) (get_or crossings i d) (subst (λ s. All (IsLevel s) (take i crossings)) (sym step.0) same.1) step.1),
)

-- ---- all of them

-- a value is known at the place
record IsKnownEnd (k : List ℕ) (known : Values) (place : ℕ) : Type 0 where
  pub index : ℕ
  pub here : slice_get k index ≡ Some place
  pub value : Known
  pub at : slice_get known index ≡ Some (Some value)

module _ {f : TypedValue} {k : List ℕ} {links : List Link} {crossings : List Crossing} {known : Values} (ascending : AllPairs (λ (i : ℕ) (j : ℕ). i < j) k) (are : AreCrossings f k links crossings) (level : All (IsLevel known) crossings) where
  -- what is known at one end of a link is known at the other
  known_over : (i j : ℕ) → IsLinked f k links i j → IsKnownEnd k known i → IsKnownEnd k known j
  known_over i j linked e =
      let there = at_place links linked.link linked.listed in
      let found = are.all linked.listed.0 linked.link there linked.under in
      let c = All-contains (IsCrossing f k links) crossings found.0 are.each found.1 in
      let l = All-contains (IsLevel known) crossings found.0 level found.1 in
      let same : c.link ≡ linked.link = same_Some c.link linked.link (sym c.here ∙ ap (slice_get links) found.2 ∙ there) in
      elim linked.ends [
        | inl ends ↦
            let one = place_once k ascending e.index found.0.ahead i e.here (c.ahead ∙ ap (λ (t : Link). Some t.ahead.to) same ∙ ap (λ n. Some n) ends.0) in
            let other = (l e.value).0 (ap (slice_get known) (sym one) ∙ e.at) in
            record { index = found.0.behind; here = c.behind ∙ ap (λ (t : Link). Some t.behind.to) same ∙ ap (λ n. Some n) ends.1; value = other.0; at = other.1 }
        | inr ends ↦
            let one = place_once k ascending e.index found.0.behind i e.here (c.behind ∙ ap (λ (t : Link). Some t.behind.to) same ∙ ap (λ n. Some n) ends.1) in
            let other = (l e.value).1 (ap (slice_get known) (sym one) ∙ e.at) in
            record { index = found.0.ahead; here = c.ahead ∙ ap (λ (t : Link). Some t.ahead.to) same ∙ ap (λ n. Some n) ends.0; value = other.0; at = other.1 }
      ]

  -- so it is along a chain
  known_along : (n i j : ℕ) → AreConnected f k links n i j → IsKnownEnd k known i → IsKnownEnd k known j
  known_along zero i j chain e = subst (IsKnownEnd k known) chain e
  known_along (suc n) i j chain e = known_over chain.0 j chain.2 (known_along n i chain.0 chain.1 e)

  -- and at all ends, where it is at one
  known_everywhere : {g : TypedValue} → ConnectEnds f k links → (start place : ℕ) (first : Known) → slice_get k start ≡ Some place → IsEndAt f k place → slice_get known start ≡ Some (Some first)
      → AreHeldAt f g k known → AreKnown f g k known
  known_everywhere {g} connected start place first here end at held = record {
    as_many = held.as_many;
    each = λ i other found there value. by i other found there value;
  }
    where
      by : (i other : ℕ) (found : Option Known) → slice_get k i ≡ Some other → slice_get known i ≡ Some found → IsKnownAt f g k other found
      by i other None there value = λ e.
          let chain = connected place other end e in
          let reached = known_along chain.0 place other chain.1 (record { index = start; here = here; value = first; at = at }) in
          let one = place_once k ascending i reached.index other there reached.here in
          no_value reached.value (sym value ∙ ap (slice_get known) one ∙ reached.at)
      by i other (Some value) there at = held.each i other value there at

-- ---- from the first one

-- values that are held, among them the first one, and right for all h for which this is
pub record AreFoundFrom (f g : TypedValue) (k : List ℕ) (start : ℕ) (first : Known) (known : Values) : Type 0 where
  pub held : AreHeldAt f g k known
  pub first_is : slice_get known start ≡ Some (Some first)
  pub right : (l : List ℕ) (h : List Row) (place : ℕ) → IsAtom f.element.shape g.element.rows g.quasi.basis.words l → ConjugatesPlaces f k g l h
      → slice_get k start ≡ Some place → IsRight f g h place first → AreRight f g h k known

none_at : (n i : ℕ) (value : Known) → slice_get (replicate n None) i ≡ Some (Some value) → ⊥
none_at zero i value h = absurd (let l = slice_get_within [] i (Some value) h in omega arith)
none_at (suc n) zero value h = no_value value h
none_at (suc n) (suc i) value h = none_at n i value h

module _ {f g : TypedValue} {k : List ℕ} {start : ℕ} {first : Known} where
  -- the first one alone
  pub found_first : (place : ℕ) → slice_get k start ≡ Some place → IsEndAt f k place → IsHeld g first
      → AreFoundFrom f g k start first (set (replicate (length k) None) start (Some first))
  found_first place here end held =
      let none : Values = replicate (length k) None in
      let within : start < length none = rw (length-replicate {A = Option Known} (length k) None) (slice_get_within k start place here) in
      let only : (i other : ℕ) (value : Known) → slice_get k i ≡ Some other → slice_get (set none start (Some first)) i ≡ Some (Some value)
      → (other ≡ place) × (first ≡ value) = λ i other value there at. elim (entry_cases none start i (Some first) (Some value) within at) [
        | inl one ↦ (same_Some other place (sym there ∙ ap (slice_get k) one.0 ∙ here), same_Some first value one.1)
        | inr old ↦ absurd (none_at (length k) i value old.1)
      ] in
      record {
        held = record {
          as_many = length-set none start (Some first) ∙ length-replicate (length k) None;
          each = λ i other value there at. let o = only i other value there at in (subst (IsEndAt f k) (sym o.0) end, subst (IsHeld g) o.1 held);
        };
        first_is = entry_set none start (Some first) within;
        right = λ l h other atom conjugates at right i place' value there is.
            let o = only i place' value there is in
            let same : other ≡ place' = same_Some other place (sym at ∙ here) ∙ sym o.0 in
            subst (λ j. IsRight f g h j value) same (subst (IsRight f g h other) o.1 right);
      }

  module _ (atom : IsAtom f.element.shape f.element.rows f.quasi.basis.words k) {known : Values} (found : AreFoundFrom f g k start first known) where
    -- carried on
    pub found_more : (new : Values) (told : Option Bool) → AreHeldAt f g k new → StayKnown known new → StayRight f g k known new told → AreFoundFrom f g k start first new
    found_more new told held stay right = record {
      held = held;
      first_is = stay start first found.first_is;
      right = λ l h place other conjugates here right_first. (right l h atom other conjugates (found.right l h place other conjugates here right_first)).2;
    }

    -- no values, where some of them belong to no conjugator
    pub found_none : (new : Values) → StayRight f g k known new None → AreAllRight f g k start first None
    found_none new right = λ l h place other conjugates here right_first.
        let r = right l h atom other conjugates (found.right l h place other conjugates here right_first) in
        let both : None ≡ Some r.0 = r.1 in
        cc

    pub found_right : AreAllRight f g k start first (Some known)
    found_right = λ l h place other conjugates here right_first. (known, refl, found.right l h place other conjugates here right_first)

    -- all values, once each link inside the atom is level
    pub found_all : {links : List Link} {crossings : List Crossing} → AreCrossings f k links crossings → All (IsLevel known) crossings → ConnectEnds f k links
        → (place : ℕ) → slice_get k start ≡ Some place → IsEndAt f k place → AreAllKnown f g k start first known
    found_all are level connected place here end = record {
      known_are = known_everywhere atom.ascending are level connected start place first here end found.first_is found.held;
      first_is = found.first_is;
    }
