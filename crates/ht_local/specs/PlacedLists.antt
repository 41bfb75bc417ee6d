-- Value lists at the words of an atom: f and g are elements with their quasinormal bases, k are the places of an atom of f, and known is what is known
-- of conjugators at its ends. This project's own.
--
--     IsPosed f k g known            f and g have one shape, k is an atom, and known is known at its ends
--     SendsAs shape h x L              where L sends letters behind x, h sends x with them too, wherever it moves that word
--     IsListAt f k g known place L   a value list that sends as each h does that conjugates and for which known is right, from the word at the place
--     AreListsAt f k g known lists   each place of k has such a list
--     AreSlotsAt f k g known slots   each place of k has such a list, or none yet
--     KeepsLists old new               the lists that were there are there
--     rows_at X k lists                from each word of X at the places, with the letters of each entry of its list, to the entry's word
--     IsStepBelow f k index row        a row of one step of f from under the word at the index among the places
--     AgreesAlong shape h g row        h and then g is the row and then h
--     IsListBehind shape X k lists index word L
--                                      the list at the index, behind the letters that the word has behind the word of X at the place there
use Rattle.std.specs.Prelude.{ℕ, ◌≡◌, List, [], ◌∷◌, ◌++◌, length, map, Option, None, Some, slice_get, Contains, ◌↔◌}
use Rattle.ht_word.specs.declared.word.Word.{Word}
use Rattle.ht_word.specs.declared.shape.Shape.{Shape}
use Rattle.ht_word.specs.Words.{◌·◌, IsLetters, IsUnder}
use Rattle.ht_pair.specs.declared.row.Row.{Row}
use Rattle.ht_pair.specs.Actions.{Moves}
use Rattle.ht_pair.specs.Atoms.{IsAtom}
use Rattle.ht_pair.specs.Images.{Entry}
use Rattle.ht_pair.specs.ValueLists.{IsValueList, Sends}
use Rattle.ht_types.specs.TypedElements.{TypedValue}
use Rattle.ht_local.specs.declared.known.Known.{Known}
use Rattle.ht_local.specs.LocalConjugators.{ConjugatesPlaces}
use Rattle.ht_local.specs.KnownValues.{AreKnown, AreRight}

pub record IsPosed (f : TypedValue) (k : List ℕ) (g : TypedValue) (known : List (Option Known)) : Type 0 where
  pub shape : g.element.shape ≡ f.element.shape
  pub first : IsAtom f.element.shape f.element.rows f.quasi.basis.words k
  pub values : AreKnown f g k known

pub record SendsAs (shape : Shape) (h : List Row) (x : Word) (L : List Entry) : Type 0 where
  pub at : (z : List ℕ) (v w : Word) → IsLetters shape z → Sends L z v → Moves h (x · z) w → v ≡ w

pub record IsListAt (f : TypedValue) (k : List ℕ) (g : TypedValue) (known : List (Option Known)) (place : ℕ) (L : List Entry) : Type 0 where
  pub list : IsValueList f.element.shape L
  pub sends : (h : List Row) (l : List ℕ) (x : Word) → ConjugatesPlaces f k g l h → AreRight f g h k known → slice_get f.quasi.basis.words place ≡ Some x → SendsAs f.element.shape h x L

pub record AreListsAt (f : TypedValue) (k : List ℕ) (g : TypedValue) (known : List (Option Known)) (lists : List (List Entry)) : Type 0 where
  pub as_many : length lists ≡ length k
  pub each : (i place : ℕ) (L : List Entry) → slice_get k i ≡ Some place → slice_get lists i ≡ Some L → IsListAt f k g known place L

pub record AreSlotsAt (f : TypedValue) (k : List ℕ) (g : TypedValue) (known : List (Option Known)) (slots : List (Option (List Entry))) : Type 0 where
  pub as_many : length slots ≡ length k
  pub each : (i place : ℕ) (L : List Entry) → slice_get k i ≡ Some place → slice_get slots i ≡ Some (Some L) → IsListAt f k g known place L

abbrev pub KeepsLists : List (Option (List Entry)) → List (Option (List Entry)) → Type 0
KeepsLists old new = (i : ℕ) (L : List Entry) → slice_get old i ≡ Some (Some L) → slice_get new i ≡ Some (Some L)

abbrev pub rows_of_list : Option Word → List Entry → List Row
rows_of_list None L = []
rows_of_list (Some x) L = map (λ (e : Entry). record { from = x · e.letters; to = e.word }) L

abbrev pub rows_at : List Word → List ℕ → List (List Entry) → List Row
rows_at X [] lists = []
rows_at X (place ∷ k) [] = []
rows_at X (place ∷ k) (L ∷ lists) = rows_of_list (slice_get X place) L ++ rows_at X k lists

abbrev pub AgreesAlong : Shape → List Row → List Row → Row → Type 0
AgreesAlong shape h g row = (z : List ℕ) (v v' w : Word) → IsLetters shape z → Moves h (row.from · z) v → Moves g v w → Moves h (row.to · z) v' → w ≡ v'

pub record IsStepBelow (f : TypedValue) (k : List ℕ) (index : ℕ) (row : Row) : Type 0 where
  pub listed : Contains f.quasi.y row
  pub place : ℕ
  pub place_at : slice_get k index ≡ Some place
  pub above : Word
  pub here : slice_get f.quasi.basis.words place ≡ Some above
  pub under : IsUnder row.from above

pub record IsListBehind (shape : Shape) (X : List Word) (k : List ℕ) (lists : List (List Entry)) (index : ℕ) (word : Word) (L : List Entry) : Type 0 where
  pub place : ℕ
  pub place_at : slice_get k index ≡ Some place
  pub above : Word
  pub here : slice_get X place ≡ Some above
  pub list : List Entry
  pub list_at : slice_get lists index ≡ Some list
  pub letters : List ℕ
  pub is : word ≡ above · letters
  pub value_list : IsValueList shape L
  pub sends : (z : List ℕ) (v : Word) → IsLetters shape z → Sends L z v ↔ Sends list (letters ++ z) v
