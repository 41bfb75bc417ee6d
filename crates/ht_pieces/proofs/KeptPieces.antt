-- Pieces that an element keeps: all of an infinite word is inside one, or no word under it; so all of an atom, or no word inside it.
use Rattle.std.proofs.Common.{ℕ, List, All, Contains}
use Rattle.std.proofs.lemmas.List.Elements.{All-contains}
use Rattle.ht_word.specs.Words.{IsUnder}
use Rattle.ht_word.specs.declared.shape.Shape.{Shape}
use Rattle.ht_word.specs.declared.word.Word.{Word}
use Rattle.ht_word.proofs.WordLaws.{under_refl}
use Rattle.ht_pair.specs.Atoms.{IsAtom, IsInfiniteWord, words_at}
use Rattle.ht_pair.specs.Bases.{longest}
use Rattle.ht_pair.specs.Pairs.{IsPair}
use Rattle.ht_pair.specs.declared.row.Row.{Row}
use Rattle.ht_pair.proofs.BasisLaws.{some_at}
use Rattle.ht_types.proofs.TurnLaws.{HasSemiNormal}
use Rattle.ht_pieces.specs.Pieces.{IsInside, IsKept}
use Rattle.ht_pieces.proofs.InsideLaws.{inside_above, inside_from_under, inside_listed}
use Rattle.ht_pieces.proofs.KeptAtoms.{atom_inside, atom_words}
use Rattle.ht_pieces.proofs.KeptLaws.{kept_carries}
use Rattle.ht_pieces.proofs.Rising.{Rises, rises_in_atom, rises_to}

pub kept_rises : {shape : Shape} {f : List Row} {W : List Word} → IsPair shape f → IsKept shape f (IsInside shape W) → Rises shape f (IsInside shape W)
kept_rises {shape} {f} {W} pair kept = record {
  word = kept.word;
  extends = kept.extends;
  carried = kept_carries pair kept;
  bound = longest W;
  above = inside_above shape W;
}

-- an infinite word with a word under it inside a piece that is kept is inside it
pub all_or_nothing : {shape : Shape} {f : List Row} {X W : List Word} → HasSemiNormal shape f X → IsKept shape f (IsInside shape W)
    → (u x : Word) → IsInfiniteWord shape f X x → IsUnder u x → IsInside shape W u → IsInside shape W x
all_or_nothing h kept = rises_to h (kept_rises h.pair kept)

-- so is each word of an atom with a word inside it inside the piece
pub atom_met : {shape : Shape} {f : List Row} {X W : List Word} {places : List ℕ} → HasSemiNormal shape f X → IsKept shape f (IsInside shape W)
    → IsAtom shape f X places → (u x : Word) → IsInside shape (words_at X places) u → IsInside shape W u → Contains (words_at X places) x → IsInside shape W x
atom_met h kept = rises_in_atom h (kept_rises h.pair kept)

-- infinite words of the basis that are kept are a union of atoms
pub kept_union : {shape : Shape} {f : List Row} {X W : List Word} {places : List ℕ} → HasSemiNormal shape f X → All (IsInfiniteWord shape f X) W
    → IsKept shape f (IsInside shape W) → IsAtom shape f X places
    → (x y : Word) → Contains (words_at X places) x → Contains (words_at X places) y → Contains W x → Contains W y
kept_union {shape} {f} {X} {W} h infinite kept atom x y c e a =
    let within = λ (t : Word) (m : Contains W t). (All-contains (IsInfiniteWord shape f X) W t infinite m).0 in
    let d = atom_inside h atom x c in
    let inside = atom_met h kept atom x y d (inside_from_under shape W x d.word (some_at W x x a (under_refl x))) e in
    inside_listed h.semi.basis within inside y (atom_words atom y e).0 (under_refl y)
