-- Words that stand for the cycles of one length, and their expansions.
use Rattle.std.proofs.Common.{◌≡◌, ℕ, ◌+◌, ◌<◌, ◌≤◌, inl, inr, List, ◌∷◌, ◌++◌, length, drop, ◌*◌, Some, slice_get, sym, ap, ◌∙◌, subst, arith, Contains, pos}
use Rattle.std.proofs.lemmas.List.{length-append, drop-append-le}
use Rattle.std.proofs.lemmas.Option.{get_or_from_slice_get}
use Rattle.std.proofs.lemmas.List.Elements.{All-contains, Contains-append_left, Contains-append_right, Contains-append_cases}
use Rattle.ht_word.specs.Words.{◌·◌, child, IsWordOf, IsUnder}
use Rattle.ht_word.specs.declared.shape.Shape.{Shape}
use Rattle.ht_word.specs.declared.word.Word.{Word}
use Rattle.ht_word.proofs.ListLaws.{Contains-here, Contains-there, Contains-cons_cases, AllPairs-head, AllPairs-tail, AllPairs-append, AllPairs-weaker}
use Rattle.ht_word.proofs.WordLaws.{length-after, under_refl, under_after, under_trans, under_both, word_rest}
use Rattle.ht_pair.specs.Bases.{AreApart, longest}
use Rattle.ht_pair.specs.HeldBases.{children}
use Rattle.ht_pair.specs.Kinds.{IsCycle}
use Rattle.ht_pair.specs.Pairs.{IsPair}
use Rattle.ht_pair.specs.SemiNormal.{IsSemiNormal}
use Rattle.ht_pair.specs.Steps.{Carries}
use Rattle.ht_pair.specs.declared.row.Row.{Row}
use Rattle.ht_pair.proofs.BasisLaws.{basis_single, basis_word, longest_bounds, children_apart, child_above, child_under, child_word}
use Rattle.ht_pair.proofs.CarriesLaws.{carries_single, carries_word, carries_extends}
use Rattle.ht_pair.proofs.Sequences.{length-each}
use Rattle.ht_quasi.proofs.RoundLaws.{something_at}
use Rattle.ht_types.proofs.PeriodicLaws.{under_cycle_moved, under_cycle_home}
use Rattle.ht_cycles.specs.Cycles.{Reaches, Meets, ArePicked, IsWordUnderCycle, AreSeeds}
use Rattle.ht_cycles.proofs.RepresentativeLaws.{reaches_back}
use Rattle.ht_cycles.proofs.RunLaws.{left_at}

-- where k steps lead from a word under a word of a cycle of length m: to one under a word of its cycle, with the same letters behind it
pub record IsCarriedOn (shape : Shape) (f : List Row) (X : List Word) (m k : ℕ) (u above : Word) (rest : List ℕ) (v : Word) : Type 0 where
  pub next : Word
  pub listed : Contains X next
  pub cycle : IsCycle shape f next m
  pub carries : Carries shape f (pos k) above next
  pub is : v ≡ next · rest
  pub word : IsWordOf shape v

pub carried_on : (shape : Shape) (f : List Row) → IsPair shape f → (X : List Word) → IsSemiNormal shape f X → (m k : ℕ) (u v : Word) → (under : IsWordUnderCycle shape f X u m) → Carries shape f (pos k) u v → IsCarriedOn shape f X m k u under.above under.under.rest v
carried_on shape f pair X semi m k u v under carries =
    let there = under_cycle_moved shape f pair X semi (pos k) u m under.word under.under_cycle in
    let next = there.0 in
    record {
      next = next.word;
      listed = next.listed;
      cycle = next.cycle;
      carries = next.carries;
      is = carries_single shape f pair (pos k) u v (next.word · under.under.rest) carries there.1;
      word = carries_word shape f pair (pos k) u v carries;
    }

-- so that one is under a word of a cycle of length m
pub under_carried : (shape : Shape) (f : List Row) → IsPair shape f → (X : List Word) → IsSemiNormal shape f X → (m k : ℕ) (u v : Word) → IsWordUnderCycle shape f X u m → Carries shape f (pos k) u v → IsWordUnderCycle shape f X v m
under_carried shape f pair X semi m k u v under carries =
    let on = carried_on shape f pair X semi m k u v under carries in
    record { word = on.word; under_cycle = record { above = on.next; listed = on.listed; cycle = on.cycle; under = record { rest = under.under.rest; is = on.is } } }

-- each power from 0 on carries such a word to a word
pub goes_on : (shape : Shape) (f : List Row) → IsPair shape f → (X : List Word) → IsSemiNormal shape f X → (m : ℕ) (u : Word) → IsWordUnderCycle shape f X u m → (k : ℕ) → (v : Word) × Carries shape f (pos k) u v
goes_on shape f pair X semi m u under k = let there = under_cycle_moved shape f pair X semi (pos k) u m under.word under.under_cycle in (there.0.word · under.under.rest, there.1)

-- a word of the shape under such a word is one
abbrev pub under_cycle_below : (shape : Shape) (f : List Row) (X : List Word) (m : ℕ) (u v : Word) → IsWordOf shape v → IsUnder v u → IsWordUnderCycle shape f X u m → IsWordUnderCycle shape f X v m
under_cycle_below shape f X m u v word below under = record { word = word; under_cycle = record { above = under.above; listed = under.listed; cycle = under.cycle; under = under_trans below under.under } }

-- reaching such a word is reaching back from it
pub reached_back : (shape : Shape) (f : List Row) → IsPair shape f → (X : List Word) (m : ℕ) (u v : Word) → IsWordUnderCycle shape f X u m → Reaches shape f u v → Reaches shape f v u
reached_back shape f pair X m u v under reaches = reaches_back shape f pair m u v under.cycle.positive (under_cycle_home shape f X u m under.word under.under_cycle) reaches

-- steps from a word under such a word to one under it lead back to where they began
pub same_again : (shape : Shape) (f : List Row) → IsPair shape f → (X : List Word) → IsSemiNormal shape f X → (m : ℕ) (x u v : Word) → IsWordUnderCycle shape f X x m → IsUnder u x → IsUnder v x → Reaches shape f u v → u ≡ v
same_again shape f pair X semi m x u v under at_u at_v reaches =
    let h : IsUnder u under.above = under_trans at_u under.under in
    let on = carried_on shape f pair X semi m reaches.steps u v (under_cycle_below shape f X m x u reaches.carries.word at_u under) reaches.carries in
    let one : on.next ≡ under.above = basis_single shape X semi.basis v on.next under.above on.listed under.listed (record { rest = h.rest; is = on.is }) (under_trans at_v under.under) in
    h.is ∙ ap (λ t. t · h.rest) (sym one) ∙ sym on.is

-- ---- picked words

-- words that are picked, one of each cycle, stand for the cycles
pub picked_seeds : (shape : Shape) (f : List Row) → IsPair shape f → (X : List Word) → IsSemiNormal shape f X → (m : ℕ) (R : List Word) → ArePicked shape f X m R → AreSeeds shape f X m R
picked_seeds shape f pair X semi m R picked = record {
  under = under;
  apart = AllPairs-weaker (λ r s. ¬ Reaches shape f r s) (λ r s. ¬ Meets shape f r s) R picked.apart (λ r s c d apart meets.
      let at = under r c in
      let on = carried_on shape f pair X semi m meets.reaches.steps meets.from meets.to (under_cycle_below shape f X m r meets.from meets.reaches.carries.word meets.from_under at) meets.reaches.carries in
      let one : on.next ≡ s = basis_single shape X semi.basis meets.to on.next s on.listed (picked.listed s d).0 (record { rest = (under_trans meets.from_under at.under).rest; is = on.is }) meets.to_under in
      apart (record { steps = meets.reaches.steps; carries = subst (Carries shape f (pos meets.reaches.steps) r) one on.carries }));
  bound = 0;
  all = λ u at l.
      let r = picked.all at.above at.listed at.cycle in
      let z = at.under.rest in
      let hz = word_rest shape at.above z (subst (IsWordOf shape) at.under.is at.word) in
      record {
        above = r.0;
        from = r.0 · z;
        listed = r.1;
        under = under_after r.0 z;
        reaches = record { steps = r.2.steps; carries = subst (Carries shape f (pos r.2.steps) (r.0 · z)) (sym at.under.is) (carries_extends shape f (pos r.2.steps) r.0 at.above z hz r.2.carries) };
      };
}
  where
    under : (r : Word) → Contains R r → IsWordUnderCycle shape f X r m
    under r c = let h = picked.listed r c in record { word = basis_word shape X semi.basis r h.0; under_cycle = record { above = r; listed = h.0; cycle = h.1; under = under_refl r } }

-- ---- expansions

-- the first word gives way to its children, behind the others
pub seeds_expanded : (shape : Shape) (f : List Row) → IsPair shape f → (X : List Word) → IsSemiNormal shape f X → (m : ℕ) (x : Word) (D : List Word) → AreSeeds shape f X m (x ∷ D) → AreSeeds shape f X m (D ++ children shape x)
seeds_expanded shape f pair X semi m x D seeds =
    let at = seeds.under x (Contains-here x D) in
    let C = children shape x in
    record {
      under = λ r c. elim (Contains-append_cases D C r c) [
        | inl d ↦ seeds.under r (Contains-there x D r d)
        | inr d ↦ under_cycle_below shape f X m x r (child_word shape x r at.word d) (child_under x shape.n r d) at
      ];
      apart = AllPairs-append (λ r s. ¬ Meets shape f r s) D C (AllPairs-tail (λ r s. ¬ Meets shape f r s) x D seeds.apart)
          (AllPairs-weaker AreApart (λ r s. ¬ Meets shape f r s) C (children_apart x shape.n) (λ v w c d apart meets.
          let same = same_again shape f pair X semi m x meets.from meets.to at (under_trans meets.from_under (child_under x shape.n v c)) (under_trans meets.to_under (child_under x shape.n w d)) meets.reaches in
          elim (under_both (subst (λ t. IsUnder t v) same meets.from_under) meets.to_under) [ inl h ↦ apart.0 h | inr h ↦ apart.1 h ]))
          (λ r w c d meets.
          All-contains (λ s. ¬ Meets shape f x s) D r (AllPairs-head (λ r s. ¬ Meets shape f r s) x D seeds.apart) c (record {
            from = meets.to;
            to = meets.from;
            from_under = under_trans meets.to_under (child_under x shape.n w d);
            to_under = meets.from_under;
            reaches = reached_back shape f pair X m meets.from meets.to (under_cycle_below shape f X m r meets.from meets.reaches.carries.word meets.from_under (seeds.under r (Contains-there x D r c))) meets.reaches;
          }));
      bound = seeds.bound + longest X + length x.letters + 1;
      all = λ u under l.
          let r = seeds.all u under (omega arith) in
          elim (Contains-cons_cases x D r.above r.listed) [
            | inr d ↦ record { above = r.above; from = r.from; listed = Contains-append_left D C r.above d; under = r.under; reaches = r.reaches }
            | inl e ↦
                let below : IsUnder r.from x = subst (IsUnder r.from) (sym e) r.under in
                let s = child_above shape x r.from r.reaches.carries.word below (longer u r.from below r.reaches (omega arith)) in
                record { above = s.above; from = r.from; listed = Contains-append_right D C s.above s.listed; under = s.under; reaches = r.reaches }
          ];
    }
  where
    longer : (u from : Word) → IsUnder from x → Reaches shape f from u → longest X + length x.letters + 1 ≤ length u.letters → length x.letters < length from.letters
    longer u from below reaches l =
        let at = seeds.under x (Contains-here x D) in
        let h : IsUnder from at.above = under_trans below at.under in
        let on = carried_on shape f pair X semi m reaches.steps from u (under_cycle_below shape f X m x from reaches.carries.word below at) reaches.carries in
        let is : u ≡ on.next · h.rest = on.is in
        omega (arith, length-after on.next h.rest, length-after at.above h.rest, longest_bounds X on.next on.listed, ap (λ (t : Word). length t.letters) is, ap (λ (t : Word). length t.letters) h.is)

-- so does the word at a place, where the words before it have given way already
pub one_more_expansion : (shape given : Shape) (f : List Row) → IsPair shape f → (X : List Word) → IsSemiNormal shape f X → (place : ℕ) (list new : List Word) → given ≡ shape → place < length list → ((x : Word) → slice_get list place ≡ Some x → new ≡ list ++ children given x)
    → (m : ℕ) → AreSeeds shape f X m (drop place list) → AreSeeds shape f X m (drop (place + 1) new)
one_more_expansion shape given f pair X semi place list new same inside added m seeds =
    let x = something_at list place inside in
    let is : new ≡ list ++ children shape x.0 = added x.0 x.1 ∙ ap (λ (s : Shape). list ++ children s x.0) same in
    subst (AreSeeds shape f X m) (sym (ap (drop (place + 1)) is ∙ drop-append-le (place + 1) list (children shape x.0) (omega arith)))
    (seeds_expanded shape f pair X semi m x.0 (drop (place + 1) list) (subst (AreSeeds shape f X m) (left_at list place x.0 inside (get_or_from_slice_get list place x.0 x.0 x.1)) seeds))

pub one_more_size : (n place before : ℕ) (given : Shape) (list new : List Word) → given.n ≡ n → place < length list → length list ≡ before + place * n → ((x : Word) → slice_get list place ≡ Some x → new ≡ list ++ children given x) → length new ≡ before + (place + 1) * n
one_more_size n place before given list new same inside size added =
    let x = something_at list place inside in
    omega (arith, ap (λ (t : List Word). length t) (added x.0 x.1), length-append list (children given x.0), length-each (child x.0) given.n)
