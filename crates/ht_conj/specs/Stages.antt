-- Conjugators made piece by piece: f and g are pairs with their quasinormal bases X and Y, k and l the places of atoms.
--
--     AreConjugateAt shape f X g Y k l       some rows conjugate f on the words at k into g on the words at l
--     IsPartDone shape p X words atoms       words of the basis that are apart; the others are those of the atoms, which are different
--     SendsToAttractor shape rows g X Y k c  some of the rows are from the atom, and carry c to an attractor of g and few letters
--     IsStage shape f X g Y cycles A B rows  the rows, with the rows for the cycles among them, conjugate f into g, but for the atoms A of f and B of g,
--                                            and carry the least attractor of each other atom to an attractor and few letters; if f and g are
--                                            conjugate, A is matched with B
--     IsStageOf f g cycles atoms classes rows   the same of elements with their bases, atoms and classes of atoms
--     TellsStage f g cycles classes rows told   such rows for all atoms; or f and g aren't conjugate
use Rattle.std.specs.Prelude.{ℕ, Bool, true, false, ◌≡◌, ◌≢◌, ◌⊎◌, List, [], length, map, All, AllPairs, Contains, Option, None, Some}
use Rattle.ht_word.specs.declared.word.Word.{Word}
use Rattle.ht_word.specs.declared.shape.Shape.{Shape}
use Rattle.ht_pair.specs.declared.row.Row.{Row}
use Rattle.ht_pair.specs.Atoms.{IsAtom, words_at}
use Rattle.ht_pair.specs.Bases.{Covers, IsPrefixFree}
use Rattle.ht_pair.specs.Conjugacy.{AreConjugate}
use Rattle.ht_pair.specs.LocalConjugacy.{ConjugatesOn}
use Rattle.ht_pair.specs.NormalConjugators.{IsLeastAttractor, CarriesToAttractor}
use Rattle.ht_pair.specs.Pairs.{from_words}
use Rattle.ht_pieces.specs.Pieces.{IsInside, IsKept}
use Rattle.ht_types.specs.TypedElements.{TypedValue}
use Rattle.ht_conj.specs.LinkedAtoms.{places_of}
use Rattle.ht_conj.specs.Classes.{all_of}
use Rattle.ht_conj.specs.Matchings.{AreMatched}
use Rattle.ht_conj.specs.declared.linked.LinkedAtom.{LinkedAtom}

abbrev pub AreConjugateAt : Shape → List Row → List Word → List Row → List Word → List ℕ → List ℕ → Type 0
AreConjugateAt shape f X g Y k l = (rows : List Row) × ConjugatesOn shape rows f (words_at X k) g (words_at Y l)

pub record IsPartDone (shape : Shape) (p : List Row) (X : List Word) (words : List Word) (atoms : List (List ℕ)) : Type 0 where
  pub within : (x : Word) → Contains words x → Contains X x
  pub free : IsPrefixFree words
  pub each : All (IsAtom shape p X) atoms
  pub different : AllPairs (λ (k : List ℕ) (l : List ℕ). k ≢ l) atoms
  pub apart : (x : Word) (k : List ℕ) → Contains words x → Contains atoms k → ¬ Contains (words_at X k) x
  pub whole : (x : Word) → Contains X x → Contains words x ⊎ ((k : List ℕ) × Contains atoms k × Contains (words_at X k) x)

pub record SendsToAttractor (shape : Shape) (rows g : List Row) (X Y : List Word) (k : List ℕ) (c : Word) : Type 0 where
  pub part : List Row
  pub among : (row : Row) → Contains part row → Contains rows row
  pub from : Covers shape (from_words part) (words_at X k)
  pub carries : CarriesToAttractor shape part g Y c

pub record IsStage (shape : Shape) (f : List Row) (X : List Word) (g : List Row) (Y : List Word) (cycles : List Row) (A B : List (List ℕ)) (rows : List Row) : Type 0 where
  pub first : List Word
  pub second : List Word
  pub first_done : IsPartDone shape f X first A
  pub second_done : IsPartDone shape g Y second B
  pub many : length B ≡ length A
  pub kept : IsKept shape f (IsInside shape first)
  pub conjugates : ConjugatesOn shape rows f first g second
  pub on_cycles : (row : Row) → Contains cycles row → Contains rows row
  pub on_atoms : (k : List ℕ) (c : Word) → IsAtom shape f X k → IsLeastAttractor shape f X k c → Contains A k ⊎ SendsToAttractor shape rows g X Y k c
  pub matched : AreConjugate shape f g → AreMatched (AreConjugateAt shape f X g Y) A (Contains B)

abbrev pub IsStageOf : TypedValue → TypedValue → List Row → List LinkedAtom → List (List LinkedAtom) → List Row → Type 0
IsStageOf f g cycles atoms classes rows = IsStage f.element.shape f.element.rows f.quasi.basis.words g.element.rows g.quasi.basis.words cycles (map places_of atoms) (map places_of (all_of classes)) rows

abbrev pub TellsStage : TypedValue → TypedValue → List Row → List (List LinkedAtom) → List Row → Bool → Type 0
TellsStage f g cycles classes rows true = IsStageOf f g cycles [] classes rows
TellsStage f g cycles classes rows false = ¬ AreConjugate f.element.shape f.element.rows g.element.rows

abbrev pub TellsWhole : TypedValue → TypedValue → List Row → Option (List Row) → Type 0
TellsWhole f g cycles None = ¬ AreConjugate f.element.shape f.element.rows g.element.rows
TellsWhole f g cycles (Some rows) = IsStage f.element.shape f.element.rows f.quasi.basis.words g.element.rows g.quasi.basis.words cycles [] [] rows
