-- Anchors of the words of an atom, and where single steps lead from these.
use Rattle.std.proofs.Common.{◌≡◌, ℕ, ◌<◌, ◌^◌, ◌⊎◌, inl, inr, true, false, true≢false, List, [], length, Option, None, Some, slice_get, refl, sym, ap, ◌∙◌, subst, arith, Contains, ℤ, pos, neg_ℤ, ◌-ℤ◌, FitsSigned, to_z, of_z}
use Rattle.std.specs.Prelude.{nat_abs}
use Rattle.std.specs.Int.{w128}
use Rattle.std.proofs.lemmas.Int.{ints, fits_signed_from_abs, to_z_pos, to_z-of_z}
use Rattle.std.proofs.lemmas.List.Elements.{All-contains}
use Rattle.std.proofs.lemmas.Option.{slice_get_within, same_Some}
use Rattle.ht_word.specs.Words.{◌·◌}
use Rattle.ht_word.specs.declared.word.Word.{Word}
use Rattle.ht_word.proofs.WordLaws.{after-nil, under_after, under_refl}
use Rattle.ht_pair.specs.Atoms.{IsAtom, IsInfiniteWord}
use Rattle.ht_pair.specs.Kinds.{IsAttractorWord, IsRepellerWord}
use Rattle.ht_pair.specs.Reaches.{CarriesUnderSuch}
use Rattle.ht_pair.specs.SemiNormal.{StaysAhead, StaysBehind}
use Rattle.ht_pair.specs.Steps.{Carries}
use Rattle.ht_pair.proofs.BasisLaws.{basis_single, basis_word, prefix_free_place}
use Rattle.ht_pair.proofs.CarriesLaws.{carries_itself}
use Rattle.ht_types.specs.Flows.{power_in}
use Rattle.ht_types.specs.Links.{IsEndAt}
use Rattle.ht_types.specs.TypedElements.{TypedValue, IsTyped, HasShortReaches}
use Rattle.ht_types.specs.WordKinds.{HasKind, IsAhead, IsBehind}
use Rattle.ht_types.specs.WordSteps.{LeadsTo}
use Rattle.ht_types.specs.declared.direction.Direction.{Direction}
use Rattle.ht_types.specs.declared.kind.Kind.{Kind}
use Rattle.ht_types.specs.declared.kind.Kind.TheVariants.{Cycle, Attractor, Repeller, Passing}
use Rattle.ht_types.specs.declared.kind.Reach.{Reach}
use Rattle.ht_types.proofs.AtomLaws.{atom_infinite}
use Rattle.ht_types.proofs.TurnLaws.{HasSemiNormal}
use Rattle.ht_pieces.proofs.KeptAtoms.{atom_inside, carried_into_atom}
use Rattle.ht_types.proofs.PlacedWords.{at_places, placed_word}
use Rattle.ht_local.specs.Ways.{IsAnchor, IsNext, ahead_of, behind_of, is_end}
use Rattle.ht_types.proofs.TypedLaws.{typed_base}
use Rattle.ht_local.proofs.PlaceLaws.{entry_listed}

-- steps that fit are told as they are
pub steps_ahead : (n : ℕ) → n < 2 ^ 121 → to_z w128 n ≡ pos n
steps_ahead n l = to_z_pos w128 n (omega arith)

-- and back
pub back_fits : (n : ℕ) → n < 2 ^ 121 → FitsSigned w128 (neg_ℤ (pos n))
back_fits n l = fits_signed_from_abs w128 (neg_ℤ (pos n)) (omega (arith, ints))

steps_less : (n : ℕ) → n < 2 ^ 121 → pos 0 -ℤ to_z w128 n ≡ neg_ℤ (pos n)
steps_less n l = ap (λ (z : ℤ). pos 0 -ℤ z) (steps_ahead n l) ∙ less n
  where
    less : (n : ℕ) → pos 0 -ℤ pos n ≡ neg_ℤ (pos n)
    less n = omega (arith, ints)

pub less_fits : (n : ℕ) → n < 2 ^ 121 → FitsSigned w128 (pos 0 -ℤ to_z w128 n)
less_fits n l = subst (FitsSigned w128) (sym (steps_less n l)) (back_fits n l)

pub steps_back : (n : ℕ) → n < 2 ^ 121 → to_z w128 (of_z w128 (pos 0 -ℤ to_z w128 n)) ≡ neg_ℤ (pos n)
steps_back n l = ap (λ (z : ℤ). to_z w128 (of_z w128 z)) (steps_less n l) ∙ to_z-of_z w128 (neg_ℤ (pos n)) (back_fits n l)

-- what is known less the steps of an anchor is told as it is, and fits
pub told_less : (i j : ℤ) → nat_abs i < 2 ^ 122 → nat_abs j < 2 ^ 121 → to_z w128 (of_z w128 i) -ℤ to_z w128 (of_z w128 j) ≡ i -ℤ j
told_less i j l m = ap (λ (z : ℤ). z -ℤ to_z w128 (of_z w128 j)) (to_z-of_z w128 i (fits_signed_from_abs w128 i (omega arith))) ∙ ap (λ (z : ℤ). i -ℤ z) (to_z-of_z w128 j (fits_signed_from_abs w128 j (omega arith)))

pub known_fits : (i j : ℤ) → nat_abs i < 2 ^ 122 → nat_abs j < 2 ^ 121 → FitsSigned w128 (to_z w128 (of_z w128 i) -ℤ to_z w128 (of_z w128 j))
known_fits i j l m = subst (FitsSigned w128) (sym (told_less i j l m)) (fits_signed_from_abs w128 (i -ℤ j) (omega (arith, ints)))

pub told_once : (i j : ℤ) → nat_abs i < 2 ^ 122 → nat_abs j < 2 ^ 121 → to_z w128 (of_z w128 (to_z w128 (of_z w128 i) -ℤ to_z w128 (of_z w128 j))) ≡ i -ℤ j
told_once i j l m = to_z-of_z w128 _ (known_fits i j l m) ∙ told_less i j l m

-- a kind with a reach is that of a passing word
passing_ahead : (kind : Kind) (reach : Reach) → ahead_of kind ≡ Some reach → (behind : Option Reach) × (kind ≡ Passing (Some reach) behind)
passing_ahead (Cycle m) reach e = absurd cc
passing_ahead (Attractor m by) reach e = absurd cc
passing_ahead (Repeller m by) reach e = absurd cc
passing_ahead (Passing ahead behind) reach e = (behind, ap (λ (o : Option Reach). Passing o behind) e)

passing_behind : (kind : Kind) (reach : Reach) → behind_of kind ≡ Some reach → (ahead : Option Reach) × (kind ≡ Passing ahead (Some reach))
passing_behind (Cycle m) reach e = absurd cc
passing_behind (Attractor m by) reach e = absurd cc
passing_behind (Repeller m by) reach e = absurd cc
passing_behind (Passing ahead behind) reach e = (ahead, ap (λ (o : Option Reach). Passing ahead o) e)

-- a word of an end's kind is an end
end_word : (t : TypedValue) (x : Word) (kind : Kind) → is_end kind ≡ true → HasKind t.element.shape t.element.rows t.quasi.basis.words x kind
    → IsAttractorWord t.element.shape t.element.rows x ⊎ IsRepellerWord t.element.shape t.element.rows x
end_word t x (Cycle m) e h = absurd (true≢false (sym e))
end_word t x (Attractor m by) e h = inl (m, by, h)
end_word t x (Repeller m by) e h = inr (m, by, h)
end_word t x (Passing ahead behind) e h = absurd (true≢false (sym e))

-- the word at an index among the places of an atom, and its kind
pub record IsAtIndex (t : TypedValue) (k : List ℕ) (index : ℕ) (place : ℕ) : Type 0 where
  pub at : slice_get k index ≡ Some place
  pub word : Word
  pub here : slice_get t.quasi.basis.words place ≡ Some word
  pub infinite : IsInfiniteWord t.element.shape t.element.rows t.quasi.basis.words word

module _ (t : TypedValue) (typed : IsTyped t.element t.quasi t.kinds) (k : List ℕ) (atom : IsAtom t.element.shape t.element.rows t.quasi.basis.words k) where
  pub at_index : (index place : ℕ) → slice_get k index ≡ Some place → IsAtIndex t k index place
  at_index index place e = let i = atom_infinite t.element.shape t.element.rows t.quasi.basis.words k place atom (entry_listed k index place e) in record { at = e; word = i.0; here = i.1; infinite = i.2 }

  pub place_within : (index place : ℕ) → slice_get k index ≡ Some place → place < length t.quasi.basis.words
  place_within index place e = let i = at_index index place e in slice_get_within t.quasi.basis.words place i.word i.here

  pub kind_at : {index place : ℕ} (i : IsAtIndex t k index place) (kind : Kind) → slice_get t.kinds place ≡ Some kind → HasKind t.element.shape t.element.rows t.quasi.basis.words i.word kind
  kind_at {index} {place} i kind e = typed.kinds_are.each place i.word kind i.here e

  -- a word of the basis under which a power leads from a word at the places stands at one of these
  pub led_place : {index place : ℕ} (i : IsAtIndex t k index place) (power : ℤ) (to : ℕ) (above : Word) (rest : List ℕ) → slice_get t.quasi.basis.words to ≡ Some above
      → Carries t.element.shape t.element.rows power i.word (above · rest) → Contains k to
  led_place {index} {place} i power to above rest there carries =
      let X = t.quasi.basis.words in
      let h = typed_base t typed in
      let c = entry_listed X to above there in
      let listed = carried_into_atom h atom power i.word (above · rest) above (atom_inside h atom i.word (at_places X k place i.word (entry_listed k index place i.at) i.here)) carries c (under_after above rest) in
      let g = placed_word X k above listed in
      let same : g.0 ≡ to = prefix_free_place X h.semi.basis.prefix_free above above (entry_listed X g.0 above g.2) c (under_refl above) in
      subst (Contains k) same g.1

  -- an end is its own anchor
  pub end_anchor : (index place : ℕ) → slice_get k index ≡ Some place → (kind : Kind) → slice_get t.kinds place ≡ Some kind → is_end kind ≡ true → IsAnchor t k index index (pos 0) []
  end_anchor index place e kind is end =
      let i = at_index index place e in
      let X = t.quasi.basis.words in
      let c = entry_listed X place i.word i.here in
      let itself = carries_itself t.element.shape t.element.rows i.word (basis_word t.element.shape X (typed_base t typed).semi.basis i.word c) in
      record {
        way = record { start = place; start_at = e; place = place; place_at = e; word = i.word; here = i.here; above = i.word; there = i.here; carries = subst (Carries t.element.shape t.element.rows (pos 0) i.word) (sym (after-nil i.word)) itself };
        ends = record { listed = entry_listed k index place e; word = i.word; here = i.here; ends = end_word t i.word kind end (kind_at i kind is) };
        few = omega arith;
        itself = λ _. (refl, refl, refl);
      }

  -- what a passing word reaches is one of the places, where it has an end
  pub record IsReached (index place : ℕ) (steps : ℤ) (to : ℕ) (rest : List ℕ) : Type 0 where
    pub start : IsAtIndex t k index place
    pub above : Word
    pub there : slice_get t.quasi.basis.words to ≡ Some above
    pub carries : Carries t.element.shape t.element.rows steps start.word (above · rest)
    pub ends : IsAttractorWord t.element.shape t.element.rows above ⊎ IsRepellerWord t.element.shape t.element.rows above
    pub listed : Contains k to
    pub passing : ¬ IsEndAt t k place

  such_above : {P : Word → Type 0} {power : ℤ} {x v : Word} → CarriesUnderSuch t.element.shape t.element.rows P t.quasi.basis.words power x v → (to : ℕ) (above : Word) (rest : List ℕ) → v ≡ above · rest
      → slice_get t.quasi.basis.words to ≡ Some above → P above
  such_above {P} {power} {x} {v} such to above rest is there =
      let X = t.quasi.basis.words in
      subst P (basis_single t.element.shape X (typed_base t typed).semi.basis v such.above above such.listed (entry_listed X to above there) such.under (record { rest = rest; is = is })) such.such

  no_end : {index place : ℕ} (i : IsAtIndex t k index place) → ¬ IsAttractorWord t.element.shape t.element.rows i.word → ¬ IsRepellerWord t.element.shape t.element.rows i.word → ¬ IsEndAt t k place
  no_end {index} {place} i a r end =
      let same : end.word ≡ i.word = same_Some end.word i.word (sym end.here ∙ i.here) in
      elim end.ends [
        | inl e ↦ a (subst (IsAttractorWord t.element.shape t.element.rows) same e)
        | inr e ↦ r (subst (IsRepellerWord t.element.shape t.element.rows) same e)
      ]

  pub reached_ahead : (index place : ℕ) → slice_get k index ≡ Some place → (reach : Reach) (kind : Kind) → slice_get t.kinds place ≡ Some kind → ahead_of kind ≡ Some reach
      → IsReached index place (pos reach.steps) reach.to reach.rest
  reached_ahead index place e reach given told is =
      let i = at_index index place e in
      let b = passing_ahead given reach is in
      let kind = kind_at i (Passing (Some reach) b.0) (told ∙ ap Some b.1) in
      let leads = kind.1 in
      let such = leads.first.1.reached in
      record {
        start = i;
        above = leads.above;
        there = leads.here;
        carries = such.carries;
        ends = inl (such_above such reach.to leads.above reach.rest refl leads.here);
        listed = led_place i (pos reach.steps) reach.to leads.above reach.rest leads.here such.carries;
        passing = no_end i kind.0.1 kind.0.2;
      }

  pub reached_behind : (index place : ℕ) → slice_get k index ≡ Some place → (reach : Reach) (kind : Kind) → slice_get t.kinds place ≡ Some kind → behind_of kind ≡ Some reach
      → IsReached index place (neg_ℤ (pos reach.steps)) reach.to reach.rest
  reached_behind index place e reach given told is =
      let i = at_index index place e in
      let b = passing_behind given reach is in
      let kind = kind_at i (Passing b.0 (Some reach)) (told ∙ ap Some b.1) in
      let leads = kind.2 in
      let such = leads.first.1.reached in
      record {
        start = i;
        above = leads.above;
        there = leads.here;
        carries = such.carries;
        ends = inr (such_above such reach.to leads.above reach.rest refl leads.here);
        listed = led_place i (neg_ℤ (pos reach.steps)) reach.to leads.above reach.rest leads.here such.carries;
        passing = no_end i kind.0.1 kind.0.2;
      }

  -- so it is the anchor
  pub reached_anchor : {index place : ℕ} {steps : ℤ} {to : ℕ} {rest : List ℕ} → IsReached index place steps to rest → (end : ℕ) → slice_get k end ≡ Some to → nat_abs steps < 2 ^ 121 → IsAnchor t k index end steps rest
  reached_anchor {index} {place} {steps} {to} {rest} r end e few = record {
    way = record { start = place; start_at = r.start.at; place = to; place_at = e; word = r.start.word; here = r.start.here; above = r.above; there = r.there; carries = r.carries };
    ends = record { listed = r.listed; word = r.above; here = r.there; ends = r.ends };
    few = few;
    itself = λ end. absurd (r.passing end);
  }

  -- a word of the infinite part is no cycle word, and it stays ahead or behind
  pub some_kind : (index place : ℕ) → slice_get k index ≡ Some place → (kind : Kind) → slice_get t.kinds place ≡ Some kind → is_end kind ≡ false → ahead_of kind ≡ None → behind_of kind ≡ None → ⊥
  some_kind index place e kind is other ahead behind = by kind (kind_at (at_index index place e) kind is) other ahead behind
    where
      by : (kind : Kind) → HasKind t.element.shape t.element.rows t.quasi.basis.words (at_index index place e).word kind → is_end kind ≡ false → ahead_of kind ≡ None → behind_of kind ≡ None → ⊥
      by (Cycle m) h n a b = (at_index index place e).infinite.1 (m, h)
      by (Attractor m z) h n a b = true≢false n
      by (Repeller m z) h n a b = true≢false n
      by (Passing ahead behind) h n a b =
          let i = at_index index place e in
          let none = subst (λ o. IsAhead t.element.shape t.element.rows t.quasi.basis.words i.word o) a h.1 in
          let other = subst (λ o. IsBehind t.element.shape t.element.rows t.quasi.basis.words i.word o) b h.2 in
          elim (All-contains (λ x. StaysAhead t.element.shape t.element.rows t.quasi.basis.words x ⊎ StaysBehind t.element.shape t.element.rows t.quasi.basis.words x) t.quasi.basis.words i.word (typed_base t typed).semi.stays (entry_listed t.quasi.basis.words place i.word i.here)) [
            | inl stays ↦ none stays
            | inr stays ↦ other stays
          ]

  -- the reaches are short
  pub short_ahead : (place : ℕ) (reach : Reach) (kind : Kind) → slice_get t.kinds place ≡ Some kind → ahead_of kind ≡ Some reach → reach.steps < 2 ^ 121
  short_ahead place reach kind told is =
      let b = passing_ahead kind reach is in
      let at : slice_get t.kinds place ≡ Some (Passing (Some reach) b.0) = told ∙ ap Some b.1 in
      let s = All-contains HasShortReaches t.kinds (Passing (Some reach) b.0) typed.short (entry_listed t.kinds place (Passing (Some reach) b.0) at) in s.0

  pub short_behind : (place : ℕ) (reach : Reach) (kind : Kind) → slice_get t.kinds place ≡ Some kind → behind_of kind ≡ Some reach → reach.steps < 2 ^ 121
  short_behind place reach kind told is =
      let b = passing_behind kind reach is in
      let at : slice_get t.kinds place ≡ Some (Passing b.0 (Some reach)) = told ∙ ap Some b.1 in
      let s = All-contains HasShortReaches t.kinds (Passing b.0 (Some reach)) typed.short (entry_listed t.kinds place (Passing b.0 (Some reach)) at) in s.1

  -- where a single step leads
  pub next_place : (direction : Direction) (index place to : ℕ) (rest : List ℕ) (e : slice_get k index ≡ Some place)
      → ((x : Word) → slice_get t.quasi.basis.words place ≡ Some x → LeadsTo t.element.shape t.element.rows t.quasi.basis.words (power_in direction 1) x to rest) → (next : ℕ) → slice_get k next ≡ Some to
      → IsNext t k index direction next rest
  next_place direction index place to rest e leads next at =
      let i = at_index index place e in
      let l = leads i.word i.here in
      record { start = place; start_at = e; place = to; place_at = at; word = i.word; here = i.here; above = l.above; there = l.here; carries = l.carries }
