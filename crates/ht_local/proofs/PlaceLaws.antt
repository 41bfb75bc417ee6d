-- The words at the places of an atom.
use Rattle.std.proofs.Common.{◌≡◌, ℕ, ◌<◌, List, length, Some, slice_get, refl, sym, ap, ◌∙◌, subst, Contains}
use Rattle.std.proofs.lemmas.Option.{same_Some, slice_get_within, get_or_from_slice_get}
use Rattle.ht_word.specs.declared.shape.Shape.{Shape}
use Rattle.ht_word.specs.declared.word.Word.{Word}
use Rattle.ht_pair.specs.Atoms.{IsAtom, words_at}
use Rattle.ht_pair.specs.Kinds.{IsAttractorWord}
use Rattle.ht_quasi.proofs.StepLaws.{at_place}
use Rattle.ht_types.specs.TypedElements.{TypedValue, IsTyped}
use Rattle.ht_types.specs.Flows.{IsEndKind}
use Rattle.ht_types.specs.WordKinds.{HasKind}
use Rattle.ht_types.specs.declared.direction.Direction.TheVariants.{Ahead}
use Rattle.ht_types.specs.declared.kind.Kind.{Kind}
use Rattle.ht_types.specs.declared.kind.Kind.TheVariants.{Cycle, Attractor, Repeller, Passing}
use Rattle.ht_types.proofs.AtomLaws.{atom_infinite}
use Rattle.ht_quasi.proofs.RoundLaws.{something_at}
use Rattle.ht_types.proofs.SeenLaws.{open_kind}
use Rattle.ht_types.proofs.TurnLaws.{HasSemiNormal}
use Rattle.ht_types.proofs.PlacedWords.{at_places, placed_word}
use Rattle.ht_local.specs.Candidates.{IsWordAt}
use Rattle.ht_types.proofs.TypedLaws.{typed_base}

pub base_over : {shape : Shape} (t : TypedValue) → IsTyped t.element t.quasi t.kinds → t.element.shape ≡ shape → HasSemiNormal shape t.element.rows t.quasi.basis.words
base_over t typed e = subst (λ s. HasSemiNormal s t.element.rows t.quasi.basis.words) e (typed_base t typed)

-- the entry at an index is in the list
abbrev pub entry_listed : {A : Type 0} (entries : List A) (i : ℕ) (entry : A) → slice_get entries i ≡ Some entry → Contains entries entry
entry_listed entries i entry e = (i, slice_get_within entries i entry e, get_or_from_slice_get entries i entry entry e)

-- a word at one of the places is one of the words there
pub word_listed : (t : TypedValue) (places : List ℕ) (i : ℕ) (x : Word) → IsWordAt t places i x → Contains (words_at t.quasi.basis.words places) x
word_listed t places i x w = at_places t.quasi.basis.words places w.place x (entry_listed places i w.place w.at) w.here

-- and one of these is at one of the places
pub record IsWordSomewhere (t : TypedValue) (places : List ℕ) (x : Word) : Type 0 where
  pub index : ℕ
  pub within : index < length places
  pub word : IsWordAt t places index x

pub word_somewhere : (t : TypedValue) (places : List ℕ) (x : Word) → Contains (words_at t.quasi.basis.words places) x → IsWordSomewhere t places x
word_somewhere t places x c =
    let g = placed_word t.quasi.basis.words places x c in
    record { index = g.1.0; within = g.1.1; word = record { place = g.0; at = at_place places g.0 g.1; here = g.2 } }

-- the places of an atom are places of the basis
pub place_within : (t : TypedValue) (places : List ℕ) → IsAtom t.element.shape t.element.rows t.quasi.basis.words places → (i place : ℕ) → slice_get places i ≡ Some place
    → place < length t.quasi.basis.words
place_within t places atom i place e =
    let w = atom_infinite t.element.shape t.element.rows t.quasi.basis.words places place atom (entry_listed places i place e) in
    slice_get_within t.quasi.basis.words place w.0 w.1

-- the word at an index of an atom's places
pub record IsStart (t : TypedValue) (places : List ℕ) (i place : ℕ) : Type 0 where
  pub word : Word
  pub here : slice_get t.quasi.basis.words place ≡ Some word
  pub at : IsWordAt t places i word

pub start_word : (t : TypedValue) (places : List ℕ) → IsAtom t.element.shape t.element.rows t.quasi.basis.words places → (i place : ℕ) → slice_get places i ≡ Some place → IsStart t places i place
start_word t places atom i place e =
    let w = something_at t.quasi.basis.words place (place_within t places atom i place e) in
    record { word = w.0; here = w.1; at = record { place = place; at = e; here = w.1 } }

-- the word at one of the places has the kind there
pub kind_at : (t : TypedValue) → IsTyped t.element t.quasi t.kinds → (places : List ℕ) (i place : ℕ) (x : Word) (kind : Kind) → IsWordAt t places i x
    → slice_get places i ≡ Some place → slice_get t.kinds place ≡ Some kind → HasKind t.element.shape t.element.rows t.quasi.basis.words x kind
kind_at t typed places i place x kind w at here =
    typed.kinds_are.each place x kind (subst (λ p. slice_get t.quasi.basis.words p ≡ Some x) (same_Some _ _ (sym w.at ∙ at)) w.here) here

-- a word of another kind is no attractor
pub other_kind : (t : TypedValue) → IsTyped t.element t.quasi t.kinds → (x : Word) (kind : Kind) → HasKind t.element.shape t.element.rows t.quasi.basis.words x kind
    → ((m : ℕ) (by : List ℕ) → kind ≡ Attractor m by → ⊥) → ¬ IsAttractorWord t.element.shape t.element.rows x
other_kind t typed x kind has other = open_kind Ahead t.element.shape t.element.rows typed.canonical.pair t.quasi.basis.words x kind has (no_end kind other)
  where
    no_end : (kind : Kind) → ((m : ℕ) (by : List ℕ) → kind ≡ Attractor m by → ⊥) → ¬ IsEndKind Ahead kind
    no_end (Cycle m) other = λ e. e
    no_end (Attractor m by) other = λ e. other m by refl
    no_end (Repeller m by) other = λ e. e
    no_end (Passing ahead behind) other = λ e. e

-- one word at an index
pub word_at_place : (t : TypedValue) (places : List ℕ) (i place : ℕ) (x y : Word) → IsWordAt t places i x → slice_get places i ≡ Some place → slice_get t.quasi.basis.words place ≡ Some y → x ≡ y
word_at_place t places i place x y w at here =
    let same : w.place ≡ place = same_Some _ _ (sym w.at ∙ at) in
    same_Some _ _ (sym w.here ∙ ap (λ p. slice_get t.quasi.basis.words p) same ∙ here)

pub word_at_same : (t : TypedValue) (places : List ℕ) (i : ℕ) (x y : Word) → IsWordAt t places i x → IsWordAt t places i y → x ≡ y
word_at_same t places i x y v w = word_at_place t places i w.place x y v w.at w.here
