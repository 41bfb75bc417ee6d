-- Rows of value lists that send as a conjugator does conjugate too.
use Rattle.std.proofs.Common.{◌≡◌, ℕ, List, Some, slice_get, sym, subst}
use Rattle.ht_word.specs.Words.{IsUnderSome, IsWordOf}
use Rattle.ht_word.specs.declared.shape.Shape.{Shape}
use Rattle.ht_word.specs.declared.word.Word.{Word}
use Rattle.ht_word.proofs.WordLaws.{word_rest}
use Rattle.ht_pair.specs.Actions.{Moves}
use Rattle.ht_pair.specs.Atoms.{IsAtom, words_at}
use Rattle.ht_pair.specs.Images.{Entry}
use Rattle.ht_pair.specs.LocalConjugacy.{ConjugatesOn}
use Rattle.ht_pair.specs.Pairs.{IsPair}
use Rattle.ht_pair.specs.declared.row.Row.{Row}
use Rattle.ht_quasi.proofs.StepLaws.{at_place}
use Rattle.ht_types.proofs.TurnLaws.{HasSemiNormal}
use Rattle.ht_pieces.proofs.Conjugating.{rows_conjugate}
use Rattle.ht_pieces.proofs.ConjugatingRows.{alike_conjugates, under_alike}
use Rattle.ht_pieces.proofs.KeptAtoms.{atom_is_kept}
use Rattle.ht_types.proofs.PlacedWords.{placed_word}
use Rattle.ht_local.specs.PlacedLists.{SendsAs, rows_at}
use Rattle.ht_local.proofs.TableLaws.{IsTableOver, list_there, moves_sent, table_covers}

pub lists_conjugate : {shape : Shape} {f g h : List Row} {X W : List Word} {k : List ℕ} {lists : List (List Entry)} → HasSemiNormal shape f X → IsAtom shape f X k → IsPair shape g
    → IsTableOver shape X k lists → ConjugatesOn shape h f (words_at X k) g W
    → ((i place : ℕ) (x : Word) (L : List Entry) → slice_get k i ≡ Some place → slice_get X place ≡ Some x → slice_get lists i ≡ Some L → SendsAs shape h x L)
    → ConjugatesOn shape (rows_at X k lists) f (words_at X k) g W
lists_conjugate {shape} {f} {g} {h} {X} {W} {k} {lists} semi atom pair t conjugates sends =
    let c = rows_conjugate semi.pair pair (atom_is_kept semi atom) conjugates in
    let covers = table_covers t in
    alike_conjugates c (rows_at X k lists) covers (under_alike c.map (rows_at X k lists) covers alike)
  where
    alike : (u v v' : Word) → IsWordOf shape u → IsUnderSome u (words_at X k) → Moves h u v → Moves (rows_at X k lists) u v' → v ≡ v'
    alike u v v' hu s m n =
        let g = placed_word X k s.above s.listed in
        let p = at_place k g.0 g.1 in
        let l = list_there t g.1.0 g.0 p in
        let z = s.under.rest in
        let hz = word_rest shape s.above z (subst (IsWordOf shape) s.under.is hu) in
        let sent = moves_sent t g.1.0 g.0 s.above l.0 p g.2 l.1 z v' (subst (λ e. Moves (rows_at X k lists) e v') s.under.is n) in
        sym ((sends g.1.0 g.0 s.above l.0 p g.2 l.1).at z v' v hz sent (subst (λ e. Moves h e v) s.under.is m))
