use Rattle.std.proofs.Common.{◌≡◌, List, ℕ, Bool, length, sym, subst₂, arith}
use Rattle.std.proofs.lemmas.Result.{IfOk-weaker}
use Rattle.ht_atoms.specs.declared.join.Join.{Join}
use Rattle.ht_atoms.specs.AtomLists.{AreAtoms}
use Rattle.ht_atoms.specs.Pieces.{ArePieces, HaveFirsts}
use Rattle.ht_atoms.specs.Trees.{AreLabels}
use Rattle.ht_atoms.proofs.AtomListLaws.{labels_first, atoms_are}
use Rattle.ht_atoms.proofs.piece.atoms.Goals as goal

-- the labels are those of as many places as there are marks
of_marks : (marks : List Bool) (given joins : List Join) (count : ℕ) (labels : List ℕ) → given ≡ joins → count ≡ length marks → AreLabels given count labels → AreLabels joins (length marks) labels
of_marks marks given joins count labels same counted told = subst₂ (λ (t : List Join) (n : ℕ). AreLabels t n labels) same counted told

pub pieces-requires-clause-firsts : goal.pieces-requires-clause-firsts
pieces-requires-clause-firsts c =
    let t = c.args.t.now in
    let marks = c.in_ok-marks.marks.items in
    let joins = c.in_ok-joins.joins in
    let labels = c.in_ok-labels.labels.items in
    let told = of_marks marks c.as_slice.result.now joins c.len.result labels c.as_slice.ensures (omega (arith, c.len.ensures, c.in_ok-marks.marks.ok.0)) c.in_ok-labels.ensures in
    subst₂ HaveFirsts (sym c.deref.ensures.value) (sym c.deref-2.ensures.value)
    (labels_first t.element.shape t.element.rows t.quasi.basis.words c.keeps_kinds.ensures.quasinormal.least.semi_normal.basis.prefix_free marks c.in_ok-marks.ensures joins c.in_ok-joins.ensures.joins labels told)

pub returns : goal.returns
returns c =
    let t = c.args.t.now in
    let marks = c.in_ok-marks.marks.items in
    let joins = c.in_ok-joins.joins in
    let labels = c.in_ok-labels.labels.items in
    let told = of_marks marks c.as_slice.result.now joins c.len.result labels c.as_slice.ensures (omega (arith, c.len.ensures, c.in_ok-marks.marks.ok.0)) c.in_ok-labels.ensures in
    IfOk-weaker c.pieces.result (ArePieces c.deref.result.now c.deref-2.result.now) (AreAtoms t.element.shape t.element.rows t.quasi.basis.words)
    (λ pieces are.
    atoms_are t.element.shape t.element.rows t.quasi.basis.words c.keeps_kinds.ensures.quasinormal.least.semi_normal.basis.prefix_free marks c.in_ok-marks.ensures joins c.in_ok-joins.ensures.joins labels told pieces
    (subst₂ (λ (m : List Bool) (l : List ℕ). ArePieces m l pieces) c.deref.ensures.value c.deref-2.ensures.value are))
    c.pieces.ensures
