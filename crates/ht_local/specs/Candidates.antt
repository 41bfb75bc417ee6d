-- Candidates for the values of conjugators at an attractor, from the attractors at some places: g is an element with its quasinormal basis, l are
-- places of its words, m is a period, and `by` are letters. This project's own.
--
--     IsWordAt t places i x           x is the word of the basis at the i-th of the places, from 0
--     IsTurned letters place by       the letters from the place on and then those before it, which aren't all, are `by`
--     known_at end letters place      no steps from the word and the letters before the place
--     IsFront g candidate             an attractor with so many letters or more stands at the candidate's place
--     known_of g candidate            no steps from the word there and so many of its letters
--     HasCandidate g u found          some power of g carries u to the word of a listed candidate
--     AreFound g m by end found       so it does for `end` and each front of its letters that turns these into `by`, where it is an attractor with
--                                     the period m
--     IsMetAhead g l x i              steps lead x to the word at the i-th of the places, with some letters behind it
--     AreTried g l m by count marks found   all listed are candidates, and they are found for each word at one of the first so many places, and
--                                     at a place with a mark
use Rattle.std.specs.Prelude.{ℕ, ℤ, pos, ◌≡◌, ◌≢◌, ◌≤◌, ◌<◌, Bool, List, [], ◌++◌, All, Contains, Some, length, slice_get, slice_index_or, take, drop}
use Rattle.ht_word.specs.declared.word.Word.{Word}
use Rattle.ht_word.specs.Words.{◌·◌, root_word}
use Rattle.ht_pair.specs.Kinds.{IsAttractor}
use Rattle.ht_pair.specs.Steps.{Carries}
use Rattle.ht_quasi.specs.Rounds.{IsMarked}
use Rattle.ht_types.specs.declared.kind.Kind.TheVariants.{Attractor, Cycle}
use Rattle.ht_types.specs.TypedElements.{TypedValue}
use Rattle.ht_local.specs.declared.candidates.Candidate.{Candidate}
use Rattle.ht_local.specs.declared.known.Known.{Known}
use Rattle.ht_local.specs.Crossings.{letters_of}
use Rattle.ht_local.specs.KnownValues.{IsCandidate, IsHeld}

pub record IsWordAt (t : TypedValue) (places : List ℕ) (i : ℕ) (x : Word) : Type 0 where
  pub place : ℕ
  pub at : slice_get places i ≡ Some place
  pub here : slice_get t.quasi.basis.words place ≡ Some x

abbrev pub IsTurned : List ℕ → ℕ → List ℕ → Type 0
IsTurned letters place by = (place < length letters) × (by ≡ drop place letters ++ take place letters)

abbrev pub known_at : Word → List ℕ → ℕ → Known
known_at end letters place = record { word = end · take place letters; power = pos 0 }

pub record IsFront (g : TypedValue) (candidate : Candidate) : Type 0 where
  pub end : Word
  pub here : slice_get g.quasi.basis.words candidate.place ≡ Some end
  pub period : ℕ
  pub letters : List ℕ
  pub kind : slice_get g.kinds candidate.place ≡ Some (Attractor period letters)
  pub within : candidate.front ≤ length letters

abbrev pub known_of : TypedValue → Candidate → Known
known_of g candidate = known_at (slice_index_or g.quasi.basis.words candidate.place (root_word 1)) (letters_of (slice_index_or g.kinds candidate.place (Cycle 0))) candidate.front

pub record HasCandidate (g : TypedValue) (u : Word) (found : List Candidate) : Type 0 where
  pub candidate : Candidate
  pub listed : Contains found candidate
  pub power : ℤ
  pub carries : Carries g.element.shape g.element.rows power u (known_of g candidate).word

abbrev pub AreFound : TypedValue → ℕ → List ℕ → Word → List Candidate → Type 0
AreFound g m by end found = (front back : List ℕ) → IsAttractor g.element.shape g.element.rows end m (front ++ back) → back ≢ [] → by ≡ back ++ front → HasCandidate g (end · front) found

pub record IsMetAhead (g : TypedValue) (l : List ℕ) (x : Word) (i : ℕ) : Type 0 where
  pub word : Word
  pub at : IsWordAt g l i word
  pub steps : ℕ
  pub letters : List ℕ
  pub carries : Carries g.element.shape g.element.rows (pos steps) x (word · letters)

pub record AreTried (g : TypedValue) (l : List ℕ) (m : ℕ) (by : List ℕ) (count : ℕ) (marks : List Bool) (found : List Candidate) : Type 0 where
  pub as_many : length marks ≡ length l
  pub fronts : All (IsFront g) found
  pub each : All (λ (c : Candidate). IsCandidate g l m by (known_of g c)) found
  pub held : All (λ (c : Candidate). IsHeld g (known_of g c)) found
  pub marked : (i : ℕ) (x : Word) → IsMarked marks i → IsWordAt g l i x → AreFound g m by x found
  pub before : (i : ℕ) (x : Word) → i < count → IsWordAt g l i x → AreFound g m by x found
