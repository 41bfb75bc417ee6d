-- Each atom has an attractor and a repeller.
use Rattle.std.proofs.Common.{ℕ, List, refl, Contains, pos, neg_ℤ}
use Rattle.ht_word.specs.declared.shape.Shape.{Shape}
use Rattle.ht_word.specs.declared.word.Word.{Word}
use Rattle.ht_word.proofs.WordLaws.{under_refl}
use Rattle.ht_word.specs.Words.{◌·◌}
use Rattle.ht_pair.specs.Atoms.{IsAtom, words_at}
use Rattle.ht_pair.specs.Kinds.{IsAttractorWord, IsRepellerWord}
use Rattle.ht_pair.specs.declared.row.Row.{Row}
use Rattle.ht_quasi.proofs.StepLaws.{at_place}
use Rattle.ht_types.proofs.FlowLaws.{flows_ahead, flows_behind}
use Rattle.ht_types.proofs.TurnLaws.{HasSemiNormal}
use Rattle.ht_pieces.proofs.InsideLaws.{inside_extends}
use Rattle.ht_pieces.proofs.KeptAtoms.{atom_inside, carried_into_atom}
use Rattle.ht_types.proofs.PlacedWords.{at_places}

-- the word from which an atom is reached is in it
pub atom_start : {shape : Shape} {f : List Row} {X : List Word} {places : List ℕ} → (atom : IsAtom shape f X places) → Contains (words_at X places) atom.start
atom_start {X = X} {places = places} atom =
    let c = atom.infinite.0 in
    let here = at_place X atom.start c in
    at_places X places c.0 atom.start ((atom.same c.0).1 (atom.start, here, 0, refl)) here

pub has_attractor : {shape : Shape} {f : List Row} {X : List Word} {places : List ℕ} → HasSemiNormal shape f X → IsAtom shape f X places
    → (c : Word) × Contains (words_at X places) c × IsAttractorWord shape f c
has_attractor {shape} {f} {X} h atom =
    let d = atom_inside h atom atom.start (atom_start atom) in
    let w = flows_ahead h atom.start atom.start d.word atom.infinite.0 atom.infinite.1 (under_refl atom.start) in
    (w.reached.above, carried_into_atom h atom (pos w.steps) (atom.start · w.letters) w.to w.reached.above (inside_extends d w.letters w.of_shape) w.reached.carries w.reached.listed w.reached.under, w.reached.such)

pub has_repeller : {shape : Shape} {f : List Row} {X : List Word} {places : List ℕ} → HasSemiNormal shape f X → IsAtom shape f X places
    → (c : Word) × Contains (words_at X places) c × IsRepellerWord shape f c
has_repeller {shape} {f} {X} h atom =
    let d = atom_inside h atom atom.start (atom_start atom) in
    let w = flows_behind h atom.start atom.start d.word atom.infinite.0 atom.infinite.1 (under_refl atom.start) in
    (w.reached.above, carried_into_atom h atom (neg_ℤ (pos w.steps)) (atom.start · w.letters) w.to w.reached.above (inside_extends d w.letters w.of_shape) w.reached.carries w.reached.listed w.reached.under, w.reached.such)
