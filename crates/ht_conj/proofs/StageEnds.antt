-- The first and the last stage of elements with their atoms in classes, and what they tell of the elements.
use Rattle.std.proofs.Common.{◌≡◌, ◌≢◌, ℕ, List, [], length, map, None, Some, sym, ◌∙◌, subst, Contains}
use Rattle.std.proofs.lemmas.List.{length-map, nil_from_length}
use Rattle.std.proofs.lemmas.List.Elements.{All-contains}
use Rattle.ht_word.proofs.ListLaws.{AllPairs-from_map, AllPairs-map, Contains-map, contained_in_map}
use Rattle.ht_pair.specs.Actions.{IsCanonicalFor}
use Rattle.ht_pair.specs.Atoms.{IsAtom}
use Rattle.ht_pair.specs.Pairs.{IsPair}
use Rattle.ht_pair.specs.Verdicts.{IsVerdict}
use Rattle.ht_pair.specs.declared.row.Row.{Row}
use Rattle.ht_pair.specs.declared.verdict.Verdict.TheVariants.{Conjugate}
use Rattle.ht_types.specs.TypedElements.{TypedValue}
use Rattle.ht_atoms.specs.AtomLists.{AreAtoms}
use Rattle.ht_conj.specs.LinkedAtoms.{AreLinkedAtoms, places_of}
use Rattle.ht_conj.specs.Classes.{AreClasses, all_of}
use Rattle.ht_conj.specs.Stages.{AreConjugateAt, IsStage, IsStageOf, TellsWhole}
use Rattle.ht_conj.specs.declared.linked.LinkedAtom.{LinkedAtom}
use Rattle.ht_conj.proofs.ConjugateVerdicts.{first_stage, last_conjugates, last_verdict, no_match}
use Rattle.ht_conj.proofs.MatchingLaws.{matched_length}
use Rattle.ht_conj.proofs.OneShape.{AreConjugateElements, AreOfOneShape, MatchCycles, TellsCycles, first_basis, second_basis}
use Rattle.ht_conj.proofs.PartsDone.{atoms_different}
use Rattle.ht_conj.proofs.StageLaws.{atoms_matched}

-- the same places, where the same things are listed
places_listed : (xs ys : List LinkedAtom) → ((k : LinkedAtom) → Contains xs k → Contains ys k) → (l : List ℕ) → Contains (map places_of xs) l → Contains (map places_of ys) l
places_listed xs ys to l c = let k = contained_in_map places_of xs l c in subst (Contains (map places_of ys)) k.2 (Contains-map places_of ys k.0 (to k.0 k.1))

module _ {f g : TypedValue} (both : AreOfOneShape f g) where
  atoms_of_second : (atoms : List LinkedAtom) → AreLinkedAtoms g atoms → AreAtoms f.element.shape g.element.rows g.quasi.basis.words (map places_of atoms)
  atoms_of_second atoms are = subst (λ s. AreAtoms s g.element.rows g.quasi.basis.words (map places_of atoms)) both.same are.atoms_are

  module _ (atoms others : List LinkedAtom) (are : AreLinkedAtoms f atoms) (are' : AreLinkedAtoms g others) where
    -- elements with other numbers of atoms aren't conjugate
    pub other_number : length atoms ≢ length others → ¬ AreConjugateElements f g
    other_number other conjugate =
        let shape = f.element.shape in
        let X = f.quasi.basis.words in
        let Y = g.quasi.basis.words in
        let A = map places_of atoms in
        let B = map places_of others in
        let all = are.atoms_are in
        let all' = atoms_of_second others are' in
        let matched = atoms_matched (first_basis both).basis (second_basis both).basis A B (λ k c. All-contains (IsAtom shape f.element.rows X) A k all.each c) all.all
        (λ l c. All-contains (IsAtom shape g.element.rows Y) B l all'.each c) all'.all (atoms_different all) conjugate in
        let many = matched_length (AreConjugateAt shape f.element.rows X g.element.rows Y) A B (atoms_different all') matched in
        other (sym (length-map atoms places_of) ∙ sym many ∙ length-map others places_of)

    -- rows for the cycles, and all atoms, those of g in their classes
    pub stage_begun : (cycles : List Row) (classes : List (List LinkedAtom)) → MatchCycles f g cycles → AreClasses g others classes → length atoms ≡ length others
        → IsStageOf f g cycles atoms classes cycles
    stage_begun cycles classes m c many =
        let first = first_basis both in
        let second = second_basis both in
        let all = all_of classes in
        first_stage first.basis second.basis (map places_of atoms) (map places_of others) (map places_of all) first.told second.told m are.atoms_are (atoms_of_second others are')
        (places_listed others all (λ k. (c.same k).0)) (places_listed all others (λ k. (c.same k).1))
        (AllPairs-map places_of (λ k l. k ≢ l) all (c.different (AllPairs-from_map places_of (λ k l. k ≢ l) others (atoms_different are'.atoms_are))))
        (length-map all places_of ∙ c.many ∙ sym many ∙ sym (length-map atoms places_of))

  -- where no atom of f is left, none of g is
  pub stage_ended : (cycles rows : List Row) (classes : List (List LinkedAtom)) → IsStageOf f g cycles [] classes rows → TellsWhole f g cycles (Some rows)
  stage_ended cycles rows classes s =
      let at = λ (B : List (List ℕ)). IsStage f.element.shape f.element.rows f.quasi.basis.words g.element.rows g.quasi.basis.words cycles [] B rows in
      subst at (nil_from_length (map places_of (all_of classes)) s.many) s

  -- where no rows conjugate one periodic part into the other, the elements aren't conjugate
  pub no_cycles : TellsCycles f g None → ¬ AreConjugateElements f g
  no_cycles =
      let first = first_basis both in
      let second = second_basis both in
      no_match first.basis second.basis first.is_periodic second.is_periodic

  -- the rows for all atoms are a pair
  pub whole_pair : (cycles rows : List Row) → TellsWhole f g cycles (Some rows) → IsPair f.element.shape rows
  whole_pair cycles rows s = (last_conjugates (first_basis both).basis (second_basis both).basis s).pair

  -- and canonical rows for it a normal conjugator
  pub whole_verdict : (cycles rows reduced : List Row) → MatchCycles f g cycles → TellsWhole f g cycles (Some rows) → IsCanonicalFor f.element.shape reduced rows
      → IsVerdict f.element.shape f.element.rows g.element.rows (Conjugate reduced)
  whole_verdict cycles rows reduced m s canonical =
      let first = first_basis both in
      let second = second_basis both in
      last_verdict first.basis second.basis first.quasinormal second.quasinormal m s canonical
