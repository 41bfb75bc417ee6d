-- Trees of places: each place has a parent, which stands at it in the list of parents and is no later place. A root is its own parent.
--
--     AreTied joins i j            the least equivalence that ties the first place of each join to the second
--     IsForest parents             no place has a later parent
--     AreTiedUp joins parents      the joins tie each place to its parent
--     IsSameUp parents f           f is the same at each place as at its parent, so on each tree
--     IsForestOf joins parents     a forest; the joins tie each place to its parent, and the places of each join are in one tree
--     IsShortened old new          the same trees, with the same roots, over other parents
--     IsRootOf old new start root  the root of the tree of start in both, where new shortens old
--     AreLabels joins count labels the labels of the places below count: places that joins tie have one label, which is one of them, and no later one
use Rattle.std.specs.Prelude.{ℕ, ◌≡◌, ◌≤◌, ◌<◌, List, length, All, Contains, slice_index}
use Rattle.ht_atoms.specs.declared.join.Join.{Join}

pub data AreTied (joins : List Join) : ℕ → ℕ → Type 0 where
  itself : {i : ℕ} → AreTied joins i i
  joined : (join : Join) → Contains joins join → AreTied joins join.first join.second
  back : {i j : ℕ} → AreTied joins i j → AreTied joins j i
  on : {i j k : ℕ} → AreTied joins i j → AreTied joins j k → AreTied joins i k

abbrev pub IsForest : List ℕ → Type 0
IsForest parents = (i : ℕ) → slice_index parents i ≤ i

abbrev pub AreTiedUp : List Join → List ℕ → Type 0
AreTiedUp joins parents = (i : ℕ) → i < length parents → AreTied joins i (slice_index parents i)

abbrev pub IsSameUp : List ℕ → (ℕ → ℕ) → Type 0
IsSameUp parents f = (i : ℕ) → i < length parents → f i ≡ f (slice_index parents i)

pub record IsForestOf (joins : List Join) (parents : List ℕ) : Type 0 where
  pub forest : IsForest parents
  pub tied : AreTiedUp joins parents
  pub whole : (f : ℕ → ℕ) → IsSameUp parents f → All (λ join. f join.first ≡ f join.second) joins

pub record IsShortened (old new : List ℕ) : Type 0 where
  pub forest : IsForest new
  pub as_many : length new ≡ length old
  pub roots : (i : ℕ) → slice_index old i ≡ i → slice_index new i ≡ i
  pub tied : (joins : List Join) → AreTiedUp joins old → AreTiedUp joins new
  pub same : (f : ℕ → ℕ) → IsSameUp new f → IsSameUp old f

pub record IsRootOf (old new : List ℕ) (start root : ℕ) : Type 0 where
  pub inside : root < length new
  pub top : slice_index new root ≡ root
  pub tied : (joins : List Join) → AreTiedUp joins old → AreTied joins start root
  pub same : (f : ℕ → ℕ) → IsSameUp new f → f start ≡ f root

pub record AreLabels (joins : List Join) (count : ℕ) (labels : List ℕ) : Type 0 where
  pub as_many : length labels ≡ count
  pub earlier : (i : ℕ) → slice_index labels i ≤ i
  pub settled : (i : ℕ) → i < count → slice_index labels (slice_index labels i) ≡ slice_index labels i
  pub tied : (i : ℕ) → i < count → AreTied joins i (slice_index labels i)
  pub same : All (λ join. slice_index labels join.first ≡ slice_index labels join.second) joins
