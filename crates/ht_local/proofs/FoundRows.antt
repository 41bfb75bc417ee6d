-- The rows of the value lists at an atom's words: the two tests tell whether they conjugate, and they do where some conjugator has the values.
use Rattle.std.proofs.Common.{◌≡◌, ◌<◌, ℕ, List, [], Option, Some, length, slice_get, sym, subst, All, pos}
use Rattle.std.proofs.lemmas.List.Elements.{All-contains, All-nil}
use Rattle.ht_word.specs.Words.{◌·◌, IsLetter, IsUnderSome, IsWordOf}
use Rattle.ht_word.specs.declared.word.Word.{Word}
use Rattle.ht_word.proofs.ListLaws.{Contains-here}
use Rattle.ht_word.proofs.WordLaws.{All-from_contains}
use Rattle.ht_pair.specs.Actions.{Moves}
use Rattle.ht_pair.specs.Atoms.{IsAtom, words_at}
use Rattle.ht_pair.specs.Bases.{IsPrefixFree}
use Rattle.ht_pair.specs.Images.{Entry}
use Rattle.ht_pair.specs.Pairs.{to_words}
use Rattle.ht_pair.specs.Steps.{Carries}
use Rattle.ht_pair.specs.ValueLists.{IsValueList}
use Rattle.ht_pair.specs.declared.row.Row.{Row}
use Rattle.ht_pair.proofs.BasisLaws.{basis_word}
use Rattle.ht_pair.proofs.ValueListLaws.{cone_of, cone_sends, sends_single}
use Rattle.ht_quasi.proofs.StepLaws.{at_place}
use Rattle.ht_types.specs.Links.{IsEndAt}
use Rattle.ht_types.specs.TypedElements.{TypedValue, IsTyped}
use Rattle.ht_pieces.proofs.FilledAtoms.{conjugator_fills_atom}
use Rattle.ht_pieces.proofs.InsideLaws.{inside_extends, inside_from_under}
use Rattle.ht_pieces.proofs.KeptAtoms.{atom_inside, atom_words}
use Rattle.ht_types.proofs.PlacedWords.{at_places, placed_word}
use Rattle.ht_local.specs.declared.known.Known.{Known}
use Rattle.ht_local.specs.KnownValues.{AreKnown, AreRight}
use Rattle.ht_local.specs.LocalConjugators.{ConjugatesPlaces}
use Rattle.ht_local.specs.PlacedLists.{AgreesAlong, AreListsAt, IsStepBelow, rows_at}
use Rattle.ht_local.proofs.AgreeingLaws.{agreeing_commute, commuting_agree}
use Rattle.ht_local.proofs.AlikeLists.{lists_conjugate}
use Rattle.ht_local.proofs.PlacedListLaws.{ArePosed, known_there, second_pair}
use Rattle.ht_local.proofs.PlaceLaws.{base_over, entry_listed}
use Rattle.ht_local.proofs.StepBelowLaws.{step_carries, step_under}
use Rattle.ht_quasi.proofs.RoundLaws.{something_at}
use Rattle.ht_local.proofs.TableLaws.{IsTableOver, moves_sent, sent_moves, table_covers, to_of_shape}
use Rattle.ht_types.proofs.TypedLaws.{typed_base}

-- the lists are a table
pub lists_over : (f : TypedValue) → IsTyped f.element f.quasi f.kinds → (k : List ℕ) → IsAtom f.element.shape f.element.rows f.quasi.basis.words k → (lists : List (List Entry))
    → length lists ≡ length k → All (IsValueList f.element.shape) lists → IsTableOver f.element.shape f.quasi.basis.words k lists
lists_over f typed k atom lists many values = record {
  basis = (typed_base f typed).semi.basis;
  ascending = atom.ascending;
  as_many = many;
  values = λ i L e. All-contains (IsValueList f.element.shape) lists L values (entry_listed lists i L e);
}

-- they are value lists
pub lists_values : {f g : TypedValue} {k : List ℕ} {known : List (Option Known)} {lists : List (List Entry)} → AreListsAt f k g known lists → All (IsValueList f.element.shape) lists
lists_values {f} {g} {k} {known} {lists} are = All-from_contains (IsValueList f.element.shape) lists (λ L c.
    let l = c.1 in
    let p = something_at k c.0 (subst (λ n. c.0 < n) are.as_many l) in
    (are.each c.0 p.0 L p.1 (at_place lists L c)).list)

-- all rows of one step from under the atom's words agree
abbrev pub AllAgree : TypedValue → List ℕ → TypedValue → List (List Entry) → Type 0
AllAgree f k g lists = (row : Row) (index : ℕ) → IsStepBelow f k index row → AgreesAlong f.element.shape (rows_at f.quasi.basis.words k lists) g.element.rows row

-- what is known at the ends of an atom, of typed elements of one shape
pub posed_known : {f g : TypedValue} {k : List ℕ} {known : List (Option Known)} → IsTyped f.element f.quasi f.kinds → IsTyped g.element g.quasi g.kinds → g.element.shape ≡ f.element.shape
    → IsAtom f.element.shape f.element.rows f.quasi.basis.words k → AreKnown f g k known → ArePosed f k g known
posed_known typed_f typed_g shape atom known = record { first = typed_f; second = typed_g; posed = record { shape = shape; first = atom; values = known } }

-- the list of the word at an index is the cone of another word
pub record IsConeAt (f : TypedValue) (k : List ℕ) (lists : List (List Entry)) (index : ℕ) (x word : Word) : Type 0 where
  pub place : ℕ
  pub at : slice_get k index ≡ Some place
  pub here : slice_get f.quasi.basis.words place ≡ Some x
  pub cone : slice_get lists index ≡ Some (cone_of word)

module _ {f g : TypedValue} {k : List ℕ} {known : List (Option Known)} {lists : List (List Entry)} (p : ArePosed f k g known) (are : AreListsAt f k g known lists) where
  pub found_table : IsTableOver f.element.shape f.quasi.basis.words k lists
  found_table = lists_over f p.first k p.posed.first lists are.as_many (lists_values are)

  -- such a word is moved to the other
  cone_moved : {index : ℕ} {x word : Word} → IsConeAt f k lists index x word → Moves (rows_at f.quasi.basis.words k lists) (x · []) (word · [])
  cone_moved {index} {x} {word} c = sent_moves found_table index c.place x (cone_of word) c.at c.here c.cone [] (word · []) (cone_sends word [])

  cone_word : {index : ℕ} {x word : Word} → IsConeAt f k lists index x word → IsWordOf f.element.shape word
  cone_word {index} {x} {word} c =
      let entry : Entry = record { letters = []; word = word } in
      All-contains (λ (d : Entry). IsWordOf f.element.shape d.word) (cone_of word) entry (are.each index c.place (cone_of word) c.at c.cone).list.words (Contains-here entry [])

  -- where they agree, go to words that are apart, and send a word of the atom into the other one, they conjugate
  pub tested_conjugate : {l : List ℕ} → IsAtom f.element.shape g.element.rows g.quasi.basis.words l → AllAgree f k g lists → IsPrefixFree (to_words (rows_at f.quasi.basis.words k lists))
      → {index : ℕ} {x word : Word} → IsConeAt f k lists index x word → IsUnderSome word (words_at g.quasi.basis.words l) → ConjugatesPlaces f k g l (rows_at f.quasi.basis.words k lists)
  tested_conjugate {l} other agree free {index} {x} {word} c under =
      let shape = f.element.shape in
      let X = f.quasi.basis.words in
      let W = words_at g.quasi.basis.words l in
      let h = typed_base f p.first in
      let none = All-nil (IsLetter shape) in
      let covers = table_covers found_table in
      let commutes = agreeing_commute h.semi.basis p.first.quasinormal.rows (λ y d. (atom_words p.posed.first y d).0) (λ row y listed d below.
      let q = placed_word X k y d in
      agree row q.1.0 (record { listed = listed; place = q.0; place_at = at_place k q.0 q.1; above = y; here = q.2; under = below })) in
      record {
        from = covers;
        to = conjugator_fills_atom h (base_over g p.second p.posed.shape) p.posed.first other covers (to_of_shape found_table) free commutes (x · []) (word · [])
            (inside_extends (atom_inside h p.posed.first x (at_places X k c.place x (entry_listed k index c.place c.at) c.here)) [] none) (cone_moved c)
            (inside_extends (inside_from_under shape W word (cone_word c) under) [] none);
        commutes = commutes;
      }

  -- so they do where all ends are known, and the one at the start by no steps and under the other atom
  pub found_conjugate : {l : List ℕ} → IsAtom f.element.shape g.element.rows g.quasi.basis.words l → AllAgree f k g lists → IsPrefixFree (to_words (rows_at f.quasi.basis.words k lists))
      → (start place : ℕ) → slice_get k start ≡ Some place → IsEndAt f k place
      → ((value : Known) → slice_get known start ≡ Some (Some value) → (value.power ≡ pos 0) × IsUnderSome value.word (words_at g.quasi.basis.words l))
      → ((value : Known) → slice_get known start ≡ Some (Some value) → value.power ≡ pos 0 → slice_get lists start ≡ Some (cone_of value.word))
      → ConjugatesPlaces f k g l (rows_at f.quasi.basis.words k lists)
  found_conjugate other agree free start place at end inside cones =
      let value = known_there p start place at end in
      let under = inside value.0 value.1 in
      tested_conjugate other agree free (record { place = place; at = at; here = end.here; cone = cones value.0 value.1 under.0 }) under.1

  -- where they conjugate, they agree
  pub conjugating_agree : (l : List ℕ) → ConjugatesPlaces f k g l (rows_at f.quasi.basis.words k lists) → AllAgree f k g lists
  conjugating_agree l conjugates = λ row index s. commuting_agree p.first.canonical.pair conjugates.commutes row (step_carries f p.first k p.posed.first s) (step_under f p.first k p.posed.first s)

  -- and they do where some rows that conjugate have the values
  pub right_conjugate : (l : List ℕ) (h : List Row) → ConjugatesPlaces f k g l h → AreRight f g h k known → ConjugatesPlaces f k g l (rows_at f.quasi.basis.words k lists)
  right_conjugate l h conjugates right = lists_conjugate (typed_base f p.first) p.posed.first (second_pair p) found_table conjugates
      (λ i place x L at here e. (are.each i place L at e).sends h l x conjugates right here)

  -- a word whose list is the cone of another is carried there
  pub cone_carried : {index : ℕ} {x word : Word} → IsConeAt f k lists index x word → Carries f.element.shape (rows_at f.quasi.basis.words k lists) (pos 1) x word
  cone_carried {index} {x} {word} c = record {
    word = basis_word f.element.shape f.quasi.basis.words (typed_base f p.first).semi.basis x (entry_listed f.quasi.basis.words c.place x c.here);
    carried = λ z w hz s. sends_single f.element.shape (cone_of word) (are.each index c.place (cone_of word) c.at c.cone).list z w (word · z)
        (moves_sent found_table index c.place x (cone_of word) c.at c.here c.cone z w (subst (λ t. Moves (rows_at f.quasi.basis.words k lists) t w) (sym s.1) s.2)) (cone_sends word z);
  }
