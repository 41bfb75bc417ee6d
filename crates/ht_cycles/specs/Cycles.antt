-- The cycles of the cycle words of a basis X of f, as the program holds them: representatives, of which one stands for each cycle.
--
--     Reaches shape f u v                   some steps from 0 on lead from u to v
--     Meets shape f u v                     some lead from a word under u to one under v
--     IsCyclePlace shape f X m place        the word of X at the place is of a cycle of length m
--     LeadsToPlace shape f X place next     one step leads from the word of X at the place to that at the next
--     AreCycleMarks shape f X start old new the new marks are the old ones and those of the words that the word at the start reaches
--     group groups m                        the words of the groups for length m
--     IsGrouped groups m word new           the word is added to the group of length m
--     ArePicked shape f X m R               R has one word of X of each cycle of length m
--     ArePickedBefore shape f X k marks groups   so have the groups of the cycles that the first k words of X are in, whose words are marked
--     IsWordUnderCycle shape f X u m        u is a word of the shape under a word of X of a cycle of length m
--     AreSeeds shape f X m R                words under such words that never meet; each long word under one of length m is reached from one
--     GoesOn shape f u                      each power from 0 on carries u to a word
--     IsMatchedRound shape f g m u v rows   the rows from what i steps of f carry u to, to what i steps of g carry v to, for i below m
--     AreRounds shape f g m us vs rows      one after another, for words at one place
use Rattle.std.specs.Prelude.{ℕ, zero, suc, pos, ◌≡◌, ◌≢◌, ◌≤◌, ◌<◌, ◌⊎◌, ◌↔◌, Bool, List, [], ◌∷◌, ◌++◌, length, get_or, Contains, AllPairs, Some, slice_get}
use Rattle.ht_word.specs.declared.word.Word.{Word}
use Rattle.ht_word.specs.declared.shape.Shape.{Shape}
use Rattle.ht_word.specs.Words.{IsWordOf, IsUnder}
use Rattle.ht_pair.specs.declared.row.Row.{Row}
use Rattle.ht_pair.specs.Kinds.{IsCycle}
use Rattle.ht_pair.specs.Steps.{Carries}
use Rattle.ht_quasi.specs.Rounds.{IsMarked}
use Rattle.ht_types.specs.CycleWords.{IsUnderCycle}

pub record Reaches (shape : Shape) (g : List Row) (u v : Word) : Type 0 where
  pub steps : ℕ
  pub carries : Carries shape g (pos steps) u v

pub record Meets (shape : Shape) (f : List Row) (u v : Word) : Type 0 where
  pub from : Word
  pub to : Word
  pub from_under : IsUnder from u
  pub to_under : IsUnder to v
  pub reaches : Reaches shape f from to

pub record IsCyclePlace (shape : Shape) (f : List Row) (X : List Word) (m place : ℕ) : Type 0 where
  pub word : Word
  pub here : slice_get X place ≡ Some word
  pub cycle : IsCycle shape f word m

pub record LeadsToPlace (shape : Shape) (f : List Row) (X : List Word) (place next : ℕ) : Type 0 where
  pub from : Word
  pub to : Word
  pub here : slice_get X place ≡ Some from
  pub there : slice_get X next ≡ Some to
  pub carries : Carries shape f (pos 1) from to

pub record AreCycleMarks (shape : Shape) (f : List Row) (X : List Word) (start : ℕ) (old new : List Bool) : Type 0 where
  pub many : length new ≡ length old
  pub marked : (place : ℕ) (x y : Word) → slice_get X start ≡ Some x → slice_get X place ≡ Some y → IsMarked new place ↔ (IsMarked old place ⊎ Reaches shape f x y)

abbrev pub group : List (List Word) → ℕ → List Word
group groups m = get_or groups m []

pub record IsGrouped (groups : List (List Word)) (m : ℕ) (word : Word) (new : List (List Word)) : Type 0 where
  pub here : group new m ≡ group groups m ++ word ∷ []
  pub other : (k : ℕ) → k ≢ m → group new k ≡ group groups k

pub record ArePicked (shape : Shape) (f : List Row) (X : List Word) (m : ℕ) (R : List Word) : Type 0 where
  pub listed : (r : Word) → Contains R r → Contains X r × IsCycle shape f r m
  pub apart : AllPairs (λ r s. ¬ Reaches shape f r s) R
  pub all : (x : Word) → Contains X x → IsCycle shape f x m → (r : Word) × Contains R r × Reaches shape f r x

pub record ArePickedBefore (shape : Shape) (f : List Row) (X : List Word) (k : ℕ) (marks : List Bool) (groups : List (List Word)) : Type 0 where
  pub many : length marks ≡ length X
  pub listed : (m : ℕ) (r : Word) → Contains (group groups m) r → Contains X r × IsCycle shape f r m
  pub apart : (m : ℕ) → AllPairs (λ r s. ¬ Reaches shape f r s) (group groups m)
  pub done : (place m : ℕ) (x : Word) → place < k → slice_get X place ≡ Some x → IsCycle shape f x m → IsMarked marks place
  pub marked : (place : ℕ) (x : Word) → slice_get X place ≡ Some x → IsMarked marks place → (m : ℕ) × (r : Word) × Contains (group groups m) r × Reaches shape f r x
  pub reached : (place m : ℕ) (r x : Word) → slice_get X place ≡ Some x → Contains (group groups m) r → Reaches shape f r x → IsMarked marks place

pub record IsWordUnderCycle (shape : Shape) (f : List Row) (X : List Word) (u : Word) (m : ℕ) : Type 0 where
  pub word : IsWordOf shape u
  pub under_cycle : IsUnderCycle shape f X u m
  pub open under_cycle use *

-- some steps lead from a word under one of R to u
pub record IsReachedFrom (shape : Shape) (f : List Row) (R : List Word) (u : Word) : Type 0 where
  pub above : Word
  pub from : Word
  pub listed : Contains R above
  pub under : IsUnder from above
  pub reaches : Reaches shape f from u

pub record AreSeeds (shape : Shape) (f : List Row) (X : List Word) (m : ℕ) (R : List Word) : Type 0 where
  pub under : (r : Word) → Contains R r → IsWordUnderCycle shape f X r m
  pub apart : AllPairs (λ r s. ¬ Meets shape f r s) R
  pub bound : ℕ
  pub all : (u : Word) → IsWordUnderCycle shape f X u m → bound ≤ length u.letters → IsReachedFrom shape f R u

abbrev pub GoesOn : Shape → List Row → Word → Type 0
GoesOn shape f u = (k : ℕ) → (v : Word) × Carries shape f (pos k) u v

pub record IsOnMatchedRound (shape : Shape) (f g : List Row) (u v : Word) (i : ℕ) (row : Row) : Type 0 where
  pub from : Carries shape f (pos i) u row.from
  pub to : Carries shape g (pos i) v row.to

abbrev pub IsMatchedRound : Shape → List Row → List Row → ℕ → Word → Word → List Row → Type 0
IsMatchedRound shape f g zero u v rows = rows ≡ []
IsMatchedRound shape f g (suc m) u v rows = (before : List Row) × (row : Row) × (rows ≡ before ++ row ∷ []) × IsMatchedRound shape f g m u v before × IsOnMatchedRound shape f g u v m row

abbrev pub AreRounds : Shape → List Row → List Row → ℕ → List Word → List Word → List Row → Type 0
AreRounds shape f g m [] vs rows = rows ≡ []
AreRounds shape f g m (u ∷ us) [] rows = rows ≡ []
AreRounds shape f g m (u ∷ us) (v ∷ vs) rows = (first : List Row) × (others : List Row) × (rows ≡ first ++ others) × IsMatchedRound shape f g m u v first × AreRounds shape f g m us vs others
