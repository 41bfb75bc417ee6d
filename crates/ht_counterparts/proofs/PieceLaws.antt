-- Pieces of an element: lists of words whose inside it keeps.
use Rattle.std.proofs.Common.{ℕ, ◌≤◌, ◌++◌, inl, inr, List, [], max, length, arith, ◌⊎◌}
use Rattle.std.proofs.lemmas.List.Elements.{Contains-append_cases, Contains-append_left, Contains-append_right}
use Rattle.ht_word.specs.Words.{◌·◌, IsLetters, IsUnderSome, IsWordOf}
use Rattle.ht_word.specs.declared.shape.Shape.{Shape}
use Rattle.ht_word.specs.declared.word.Word.{Word}
use Rattle.ht_word.proofs.ListLaws.{Contains-nil}
use Rattle.ht_word.proofs.WordLaws.{length-after, length-ones, ones, ones_letters, word_after}
use Rattle.ht_pair.specs.Actions.{Moves}
use Rattle.ht_pair.specs.Atoms.{IsAtom, words_at}
use Rattle.ht_pair.specs.Bases.{longest}
use Rattle.ht_pair.specs.Pairs.{IsPair}
use Rattle.ht_pair.specs.declared.row.Row.{Row}
use Rattle.ht_pair.proofs.BasisLaws.{some_at}
use Rattle.ht_pair.proofs.MovesLaws.{moves_extends, moves_map}
use Rattle.ht_types.proofs.TurnLaws.{HasSemiNormal}
use Rattle.ht_pieces.specs.Pieces.{IsInside, IsKept}
use Rattle.ht_pieces.proofs.InsideLaws.{inside_extends, inside_from_under, inside_long}
use Rattle.ht_pieces.proofs.KeptAtoms.{atom_is_kept}

-- f is a pair, and keeps what is inside V
pub record IsPiece (shape : Shape) (f : List Row) (V : List Word) : Type 0 where
  pub pair : IsPair shape f
  pub kept : IsKept shape f (IsInside shape V)

-- an atom is a piece
pub atom_piece : {shape : Shape} {f : List Row} {X : List Word} {k : List ℕ} → HasSemiNormal shape f X → IsAtom shape f X k
    → IsPiece shape f (words_at X k)
atom_piece h atom = record { pair = h.pair; kept = atom_is_kept h atom }

-- no word is inside no words
pub nothing_inside : {shape : Shape} {u : Word} → IsInside shape [] u → ⊥
nothing_inside {shape} d =
    let s = d.under (ones d.letters) (ones_letters shape d.letters) (omega (arith, length-ones d.letters)) in Contains-nil s.above s.listed

-- so they are a piece
pub nothing_piece : {shape : Shape} {f : List Row} → IsPair shape f → IsPiece shape f []
nothing_piece pair = record {
  pair = pair;
  kept = record {
    word = λ u d. d.word;
    extends = λ u z d. inside_extends d z;
    ahead = λ u v d m. absurd (nothing_inside d);
    behind = λ u v d h m. absurd (nothing_inside d);
  };
}

-- ---- two lists

-- a word under one of the words of two lists is under one of the first or one of the second
pub under_either : (V W : List Word) (u : Word) → IsUnderSome u (V ++ W) → IsUnderSome u V ⊎ IsUnderSome u W
under_either V W u s =
    elim (Contains-append_cases V W s.above s.listed) [ inl c ↦ inl (some_at V s.above u c s.under) | inr c ↦ inr (some_at W s.above u c s.under) ]

pub under_first : (V W : List Word) (u : Word) → IsUnderSome u V → IsUnderSome u (V ++ W)
under_first V W u s = some_at (V ++ W) s.above u (Contains-append_left V W s.above s.listed) s.under

pub under_second : (V W : List Word) (u : Word) → IsUnderSome u W → IsUnderSome u (V ++ W)
under_second V W u s = some_at (V ++ W) s.above u (Contains-append_right V W s.above s.listed) s.under

-- a word inside two lists behind enough letters each is inside both
inside_either : (shape : Shape) (V W : List Word) (u : Word) → IsWordOf shape u → (k : ℕ)
    → ((y : List ℕ) → IsLetters shape y → k ≤ length y → IsInside shape V (u · y) ⊎ IsInside shape W (u · y)) → IsInside shape (V ++ W) u
inside_either shape V W u h k far = record {
  word = h;
  letters = max k (max (longest V) (longest W));
  under = λ y hy l. elim (far y hy (omega arith)) [
    | inl d ↦ under_first V W (u · y) (inside_long d (omega (arith, length-after u y)))
    | inr d ↦ under_second V W (u · y) (inside_long d (omega (arith, length-after u y)))
  ];
}

-- a word inside two lists is, behind its letters, inside one of them
either_inside : (shape : Shape) (V W : List Word) (u : Word) → (d : IsInside shape (V ++ W) u) → (y : List ℕ) → IsLetters shape y
    → d.letters ≤ length y
    → IsInside shape V (u · y) ⊎ IsInside shape W (u · y)
either_inside shape V W u d y hy l = elim (under_either V W (u · y) (d.under y hy l)) [
  | inl s ↦ inl (inside_from_under shape V (u · y) (word_after shape u y d.word hy) s)
  | inr s ↦ inr (inside_from_under shape W (u · y) (word_after shape u y d.word hy) s)
]

-- two pieces are one
pub joined_pieces : {shape : Shape} {f : List Row} {V W : List Word} → IsPiece shape f V → IsPiece shape f W → IsPiece shape f (V ++ W)
joined_pieces {shape} {f} {V} {W} first second = record {
  pair = first.pair;
  kept = record {
    word = λ u d. d.word;
    extends = λ u z d. inside_extends d z;
    ahead = λ u v d m. inside_either shape V W v (moved_word u v d.word m) d.letters (λ y hy l. elim (either_inside shape V W u d y hy l) [
      | inl i ↦ inl (first.kept.ahead (u · y) (v · y) i (moves_extends f u v y m))
      | inr i ↦ inr (second.kept.ahead (u · y) (v · y) i (moves_extends f u v y m))
    ]);
    behind = λ u v d h m. inside_either shape V W u h d.letters (λ y hy l. elim (either_inside shape V W v d y hy l) [
      | inl i ↦ inl (first.kept.behind (u · y) (v · y) i (word_after shape u y h hy) (moves_extends f u v y m))
      | inr i ↦ inr (second.kept.behind (u · y) (v · y) i (word_after shape u y h hy) (moves_extends f u v y m))
    ]);
  };
}
  where
    moved_word : (u v : Word) → IsWordOf shape u → Moves f u v → IsWordOf shape v
    moved_word = (moves_map shape f first.pair).ahead.word
