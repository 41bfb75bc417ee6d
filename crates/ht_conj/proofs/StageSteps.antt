-- Stages of elements with their atoms in classes: a counterpart leads to the next one, and no counterpart tells that the elements aren't conjugate.
use Rattle.std.proofs.Common.{List, ◌∷◌, ◌++◌, sym, subst}
use Rattle.std.proofs.lemmas.List.Elements.{All-contains}
use Rattle.ht_word.proofs.ListLaws.{contained_in_map}
use Rattle.ht_pair.specs.declared.row.Row.{Row}
use Rattle.ht_types.specs.TypedElements.{TypedValue}
use Rattle.ht_conj.specs.LinkedAtoms.{places_of}
use Rattle.ht_conj.specs.Classes.{AreConjugateAtoms, all_of}
use Rattle.ht_conj.specs.Matchings.{IsCounterpart, NoneConjugate}
use Rattle.ht_conj.specs.Stages.{AreConjugateAt, IsStageOf}
use Rattle.ht_conj.specs.declared.linked.LinkedAtom.{LinkedAtom}
use Rattle.ht_conj.proofs.OneShape.{AreConjugateElements, AreOfOneShape, first_basis, second_basis}
use Rattle.ht_conj.proofs.StageLaws.{next_stage, no_stage}
use Rattle.ht_conj.proofs.TakenOutLaws.{taken_map}

module _ {f g : TypedValue} (both : AreOfOneShape f g) (atom : LinkedAtom) (atoms : List LinkedAtom) (classes : List (List LinkedAtom)) {cycles rows : List Row} (s : IsStageOf f g cycles (atom ∷ atoms) classes rows) where
  -- the rows for the next atom are added
  pub stage_more : {more : List Row} {new : List (List LinkedAtom)} → IsCounterpart f atom g classes new more → IsStageOf f g cycles atoms new (rows ++ more)
  stage_more found =
      next_stage (first_basis both).basis (second_basis both).basis (taken_map found.out places_of) found.rows_are.conjugates found.rows_are.normal s

  -- the next atom has no counterpart
  pub stage_stopped : NoneConjugate f atom g (all_of classes) → ¬ AreConjugateElements f g
  stage_stopped none = no_stage (first_basis both).basis (second_basis both).basis (λ l c on.
      let k = contained_in_map places_of (all_of classes) l c in
      let at = AreConjugateAt f.element.shape f.element.rows f.quasi.basis.words g.element.rows g.quasi.basis.words atom.places in
      All-contains (λ (k : LinkedAtom). ¬ AreConjugateAtoms f atom g k) (all_of classes) k.0 none k.1 (subst at (sym k.2) on)) s
