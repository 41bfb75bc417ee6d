-- Conjugators on an atom are rigid: two that agree under one of its words agree under all.
use Rattle.std.proofs.Common.{ℕ, List, [], ◌∷◌, subst, Contains}
use Rattle.ht_word.specs.Words.{IsWordOf}
use Rattle.ht_word.specs.declared.shape.Shape.{Shape}
use Rattle.ht_word.specs.declared.word.Word.{Word}
use Rattle.ht_word.proofs.WordLaws.{word_rest}
use Rattle.ht_pair.specs.Actions.{Moves}
use Rattle.ht_pair.specs.Atoms.{IsAtom, words_at}
use Rattle.ht_pair.specs.LocalConjugacy.{ConjugatesOn}
use Rattle.ht_pair.specs.Pairs.{IsPair}
use Rattle.ht_pair.specs.SemiNormal.{IsSemiNormal}
use Rattle.ht_pair.specs.declared.row.Row.{Row}
use Rattle.ht_types.proofs.TurnLaws.{HasSemiNormal}
use Rattle.ht_pieces.specs.Agreements.{AreAlikeUnder}
use Rattle.ht_pieces.proofs.Agreeing.{agree_rises, alike_agree}
use Rattle.ht_pieces.proofs.Conjugating.{rows_conjugate}
use Rattle.ht_pieces.proofs.KeptAtoms.{atom_inside, atom_is_kept}
use Rattle.ht_pieces.proofs.Rising.{rises_in_atom}

-- rows that conjugate on an atom, and are alike under one of its words, are alike under all
pub rigid : (shape : Shape) (f g : List Row) (X : List Word) → IsPair shape f → IsPair shape g → IsSemiNormal shape f X → (places : List ℕ) → IsAtom shape f X places → (W : List Word) (h q : List Row)
    → ConjugatesOn shape h f (words_at X places) g W → ConjugatesOn shape q f (words_at X places) g W → (c : Word) → Contains (words_at X places) c → AreAlikeUnder shape h q (c ∷ []) → AreAlikeUnder shape h q (words_at X places)
rigid shape f g X pair_f pair_g semi places atom W h q first second c listed alike u v v' hu s m n =
    let base : HasSemiNormal shape f X = record { pair = pair_f; semi = semi } in
    let kept = atom_is_kept base atom in
    let a = rows_conjugate pair_f pair_g kept first in
    let b = rows_conjugate pair_f pair_g kept second in
    let d = atom_inside base atom c listed in
    let at = rises_in_atom base (agree_rises a b) atom c s.above d (record { inside = d; agree = alike_agree shape h q c d.word alike }) s.listed in
    let hz = word_rest shape s.above s.under.rest (subst (IsWordOf shape) s.under.is hu) in
    at.agree.at s.under.rest v v' hz (subst (λ t. Moves h t v) s.under.is m) (subst (λ t. Moves q t v') s.under.is n)
