-- An atom is a piece that the element keeps.
use Rattle.std.proofs.Common.{ℕ, List, max, refl, sym, ◌∙◌, subst, arith, Contains, ℤ, pos, neg_ℤ}
use Rattle.std.proofs.lemmas.Option.{same_Some}
use Rattle.ht_word.specs.Words.{◌·◌, IsUnder, IsUnderSome, IsWordOf}
use Rattle.ht_word.specs.declared.shape.Shape.{Shape}
use Rattle.ht_word.specs.declared.word.Word.{Word}
use Rattle.ht_word.proofs.WordLaws.{length-after, under_refl, word_after}
use Rattle.ht_pair.specs.Actions.{Moves}
use Rattle.ht_pair.specs.Atoms.{IsAtom, IsInfiniteWord, words_at}
use Rattle.ht_pair.specs.Bases.{longest}
use Rattle.ht_pair.specs.Steps.{Carries}
use Rattle.ht_pair.specs.declared.row.Row.{Row}
use Rattle.ht_pair.proofs.BasisLaws.{basis_holds, basis_word, some_at}
use Rattle.ht_pair.proofs.CarriesLaws.{carries_back, carries_from_steps}
use Rattle.ht_pair.proofs.MovesLaws.{moves_extends, moves_map}
use Rattle.ht_quasi.proofs.StepLaws.{at_place}
use Rattle.ht_types.proofs.AtomLaws.{atom_infinite, atom_kept}
use Rattle.ht_types.proofs.TurnLaws.{HasSemiNormal, infinite_kept}
use Rattle.ht_pieces.specs.Pieces.{IsInside, IsKept}
use Rattle.ht_pieces.proofs.InsideLaws.{inside_extends, inside_from_under, inside_listed}
use Rattle.ht_pieces.proofs.KeptLaws.{kept_carries}
use Rattle.ht_types.proofs.PlacedWords.{at_places, placed_word}

-- the words of an atom are infinite words of the basis
pub atom_words : {shape : Shape} {f : List Row} {X : List Word} {places : List ℕ} → IsAtom shape f X places → (x : Word) → Contains (words_at X places) x → IsInfiniteWord shape f X x
atom_words {shape} {f} {X} {places} atom x c =
    let g = placed_word X places x c in
    let i = atom_infinite shape f X places g.0 atom g.1 in
    subst (IsInfiniteWord shape f X) (same_Some _ _ (sym i.1 ∙ g.2)) i.2

-- where a power leads from under an infinite word under a word of the basis, that is infinite too
infinite_over : {shape : Shape} {f : List Row} {X : List Word} → HasSemiNormal shape f X → (k : ℤ) (u v x y : Word) → IsInfiniteWord shape f X x → IsUnder u x
    → Carries shape f k u v → Contains X y → IsUnder v y → IsInfiniteWord shape f X y
infinite_over {shape} {f} h k u v x y infinite under carries c over =
    infinite_kept h k x y under.rest over.rest infinite c (subst (λ w. Carries shape f k w (y · over.rest)) under.is (subst (Carries shape f k u) over.is carries))

module _ {shape : Shape} {f : List Row} {X : List Word} {places : List ℕ} (h : HasSemiNormal shape f X) (atom : IsAtom shape f X places) where
  -- the words of an atom are inside it
  pub atom_inside : (x : Word) → Contains (words_at X places) x → IsInside shape (words_at X places) x
  atom_inside x c = inside_from_under shape (words_at X places) x (basis_word shape X h.semi.basis x (atom_words atom x c).0) (some_at (words_at X places) x x c (under_refl x))

  -- one step leads from under an atom under it alone
  from_atom : (u v : Word) → Carries shape f (pos 1) u v → IsUnderSome u (words_at X places) → IsUnderSome v X → IsUnderSome v (words_at X places)
  from_atom u v carries s t =
      let g = placed_word X places s.above s.listed in
      let first = atom_words atom s.above s.listed in
      let second = infinite_over h (pos 1) u v s.above t.above first s.under carries t.listed t.under in
      let here = at_place X t.above t.listed in
      let place = (atom_kept shape f X places g.0 t.listed.0 s.above t.above u v atom g.2 here first.1 second.1 s.under carries t.under).0 g.1 in
      some_at (words_at X places) t.above v (at_places X places t.listed.0 t.above place here) t.under

  -- and to under it
  to_atom : (u v : Word) → Carries shape f (pos 1) u v → IsUnderSome v (words_at X places) → IsUnderSome u X → IsUnderSome u (words_at X places)
  to_atom u v carries t s =
      let g = placed_word X places t.above t.listed in
      let second = atom_words atom t.above t.listed in
      let first = infinite_over h (neg_ℤ (pos 1)) v u t.above s.above second t.under (carries_back shape f h.pair (pos 1) u v carries) s.listed s.under in
      let here = at_place X s.above s.listed in
      let place = (atom_kept shape f X places s.listed.0 g.0 s.above t.above u v atom here g.2 first.1 second.1 s.under carries t.under).1 g.1 in
      some_at (words_at X places) s.above u (at_places X places s.listed.0 s.above place here) s.under

  -- one step, with long letters behind it
  step_far : (u v : Word) (y : List ℕ) → IsWordOf shape (u · y) → Moves f u v → Carries shape f (pos 1) (u · y) (v · y)
  step_far u v y long m = carries_from_steps shape f h.pair (pos 1) (u · y) (v · y) long (u · y, refl, moves_extends f u v y m)

  pub atom_is_kept : IsKept shape f (IsInside shape (words_at X places))
  atom_is_kept = record {
    word = λ u d. d.word;
    extends = λ u z d hz. inside_extends d z hz;
    ahead = λ u v d m.
        let word = (moves_map shape f h.pair).ahead.word u v d.word m in
        record {
          word = word;
          letters = max d.letters (longest X);
          under = λ y hy l. from_atom (u · y) (v · y) (step_far u v y (word_after shape u y d.word hy) m) (d.under y hy (omega arith)) (basis_holds shape X h.semi.basis (v · y) (word_after shape v y word hy) (omega (arith, length-after v y)));
        };
    behind = λ u v d word m. record {
      word = word;
      letters = max d.letters (longest X);
      under = λ y hy l.
          let long = word_after shape u y word hy in
          to_atom (u · y) (v · y) (step_far u v y long m) (d.under y hy (omega arith)) (basis_holds shape X h.semi.basis (u · y) long (omega (arith, length-after u y)));
    };
  }

  -- a word of the basis is in the atom where some power leads from inside the atom to a word under it
  pub carried_into_atom : (k : ℤ) (u v y : Word) → IsInside shape (words_at X places) u → Carries shape f k u v → Contains X y → IsUnder v y → Contains (words_at X places) y
  carried_into_atom k u v y d carries c under = inside_listed h.semi.basis (λ x e. (atom_words atom x e).0) (kept_carries h.pair atom_is_kept k u v d carries) y c under
