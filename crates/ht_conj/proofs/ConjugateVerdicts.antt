-- Verdicts: conjugators made cycle by cycle and atom by atom are normal.
use Rattle.std.proofs.Common.{◌≡◌, ◌≢◌, ℕ, pos, ◌⊎◌, inl, inr, List, [], length, sym, subst, arith, AllPairs, Contains, None}
use Rattle.std.proofs.lemmas.List.{length-map}
use Rattle.std.proofs.lemmas.List.Elements.{All-contains}
use Rattle.ht_word.specs.Words.{◌·◌, IsUnderSome, IsWordOf}
use Rattle.ht_word.specs.declared.shape.Shape.{Shape}
use Rattle.ht_word.specs.declared.word.Word.{Word}
use Rattle.ht_word.proofs.ListLaws.{contained_in_map, Contains-map, Contains-nil}
use Rattle.ht_pair.specs.Actions.{IsCanonicalFor}
use Rattle.ht_pair.specs.Atoms.{IsAtom, words_at}
use Rattle.ht_pair.specs.Conjugacy.{AreConjugate, Conjugates}
use Rattle.ht_pair.specs.Kinds.{IsCycleWord}
use Rattle.ht_pair.specs.NormalConjugators.{CarriesToAttractor}
use Rattle.ht_pair.specs.Pairs.{from_words, to_words}
use Rattle.ht_pair.specs.Parts.{IsPeriodicPart}
use Rattle.ht_pair.specs.SemiNormal.{IsQuasinormal}
use Rattle.ht_pair.specs.Steps.{Carries}
use Rattle.ht_pair.specs.Verdicts.{IsVerdict}
use Rattle.ht_pair.specs.declared.row.Row.{Row}
use Rattle.ht_pair.specs.declared.verdict.Verdict.TheVariants.{Conjugate}
use Rattle.ht_pair.proofs.ConjugacyLaws.{conjugates_alike}
use Rattle.ht_cycles.specs.Matches.{IsMatch, TellsMatch}
use Rattle.ht_types.proofs.TurnLaws.{HasSemiNormal}
use Rattle.ht_counterparts.proofs.GluedRows.{whole}
use Rattle.ht_counterparts.proofs.PeriodicCounterparts.{periodic_piece, periodic_restricted}
use Rattle.ht_atoms.specs.AtomLists.{AreAtoms}
use Rattle.ht_conj.specs.Stages.{IsStage, SendsToAttractor}
use Rattle.ht_conj.proofs.CarriedRows.{part_carried, row_carried}
use Rattle.ht_conj.proofs.PartsDone.{all_done, cycles_done, done_reordered}
use Rattle.ht_conj.proofs.StageLaws.{atoms_matched}

-- ---- the first stage, and the last

module _ {shape : Shape} {f g : List Row} {X Y : List Word} (first : HasSemiNormal shape f X) (second : HasSemiNormal shape g Y) where
  -- rows that match the cycles, and all atoms
  pub first_stage : {rows : List Row} (A all' B : List (List ℕ)) → ((x : Word) → Contains X x → IsCycleWord shape f x ⊎ ¬ IsCycleWord shape f x)
      → ((y : Word) → Contains Y y → IsCycleWord shape g y ⊎ ¬ IsCycleWord shape g y)
      → IsMatch shape f X g Y rows → AreAtoms shape f X A → AreAtoms shape g Y all' → ((l : List ℕ) → Contains all' l → Contains B l) → ((l : List ℕ) → Contains B l → Contains all' l)
      → AllPairs (λ (k : List ℕ) (l : List ℕ). k ≢ l) B → length B ≡ length A → IsStage shape f X g Y rows A B rows
  first_stage {rows} A all' B told told' m are are' to from different many =
      let done = cycles_done first m.first A told m.first_part are in
      let done' = done_reordered to from different (cycles_done second m.second all' told' m.second_part are') in
      record {
        first = m.first;
        second = m.second;
        first_done = done;
        second_done = done';
        many = many;
        kept = (periodic_piece first m.first_part).kept;
        conjugates = m.conjugates;
        on_cycles = λ row c. c;
        on_atoms = λ k c atom least. inl (are.all k atom);
        matched = atoms_matched first second A B (λ k c. All-contains (IsAtom shape f X) A k are.each c) are.all
            (λ l c. All-contains (IsAtom shape g Y) all' l are'.each (from l c)) (λ l atom. to l (are'.all l atom)) done.different;
      }

  -- where all atoms are done, the rows conjugate
  pub last_conjugates : {cycles rows : List Row} → IsStage shape f X g Y cycles [] [] rows → Conjugates shape rows f g
  last_conjugates s = whole (all_done first s.first_done) (all_done second s.second_done) s.conjugates

  -- and the pair that they reduce to is a normal conjugator
  pub last_verdict : {cycles rows reduced : List Row} → IsQuasinormal shape f X → IsQuasinormal shape g Y → IsMatch shape f X g Y cycles
      → IsStage shape f X g Y cycles [] [] rows → IsCanonicalFor shape reduced rows
      → IsVerdict shape f g (Conjugate reduced)
  last_verdict {cycles} {rows} {reduced} least least' m s canonical = (
    canonical.form,
    record {
      conjugates = conjugates_alike shape rows reduced f g first.pair canonical.pair canonical.alike (last_conjugates s);
      first_basis = X;
      second_basis = Y;
      first_quasinormal = least;
      second_quasinormal = least';
      on_atoms = λ k c atom is. elim (s.on_atoms k c atom is) [ inl e ↦ absurd (Contains-nil k e) | inr sends ↦ at_reduced k c is.listed sends ];
      on_cycles = record {
        first = m.first;
        second = m.second;
        first_part = m.first_part;
        second_part = m.second_part;
        few_words = record {
          words = from_words cycles;
          few = omega (arith, m.few, length-map cycles (λ (row : Row). row.from));
          covers = m.conjugates.from;
          carries = λ x c.
              let row = contained_in_map (λ (row : Row). row.from) cycles x c in
              let word = All-contains (IsWordOf shape) (from_words cycles) x m.conjugates.from.words c in
              record {
                to = row.0.to;
                carries = subst (λ t. Carries shape reduced (pos 1) t row.0.to) row.2 (row_carried canonical.alike row.0 (s.on_cycles row.0 row.1) (subst (IsWordOf shape) (sym row.2) word));
                under = All-contains (λ y. IsUnderSome y m.second) (to_words cycles) row.0.to m.to_under (Contains-map (λ (row : Row). row.to) cycles row.0 row.1);
              };
        };
      };
    },
  )
    where
      at_reduced : (k : List ℕ) (c : Word) → Contains (words_at X k) c → SendsToAttractor shape rows g X Y k c → CarriesToAttractor shape reduced g Y c
      at_reduced k c listed sends =
          let e = sends.carries in
          record {
            to = e.to;
            listed = e.listed;
            steps = e.steps;
            front = e.front;
            back = e.back;
            attractor = e.attractor;
            proper = e.proper;
            carries = part_carried canonical.alike sends.among sends.from c (e.to · e.front) listed e.carries;
          }

  -- where no rows conjugate one periodic part into the other, no element conjugates
  pub no_match : {P Q : List Word} → IsPeriodicPart shape f X P → IsPeriodicPart shape g Y Q → TellsMatch shape f X g Y None → ¬ AreConjugate shape f g
  no_match {P} {Q} part part' told conjugate = let q = periodic_restricted first second conjugate.conjugates part part' in told.1 q.0 P Q part part' q.1
