-- Where walks in a direction stop, and how many steps they take.
use Rattle.std.proofs.Common.{◌≡◌, ℕ, ◌≤◌, ◌<◌, ◌*◌, ◌+◌, ◌^◌, inl, inr, List, length, Some, slice_get, refl, subst, arith, pos}
use Rattle.std.proofs.lemmas.Nat.{mul-le}
use Rattle.ht_word.specs.Words.{◌·◌, IsWordOf}
use Rattle.ht_word.specs.declared.shape.Shape.{Shape}
use Rattle.ht_word.specs.declared.word.Word.{Word}
use Rattle.ht_pair.specs.Bases.{TakesAtMost}
use Rattle.ht_pair.specs.Steps.{Carries}
use Rattle.ht_pair.specs.declared.row.Row.{Row}
use Rattle.ht_pair.proofs.CarriesLaws.{carries_word}
use Rattle.ht_quasi.proofs.StepLaws.{same_at}
use Rattle.ht_types.specs.Flows.{IsEndKind, IsUnderInfinite, IsPlaced, IsWholeWalk}
use Rattle.ht_types.specs.TypedElements.{TypedValue, IsTyped}
use Rattle.ht_types.specs.WordKinds.{HasKind}
use Rattle.ht_types.specs.WordSteps.{LeadsTo}
use Rattle.ht_types.specs.declared.direction.Direction.{Direction}
use Rattle.ht_types.specs.declared.kind.Kind.{Kind}
use Rattle.ht_types.specs.declared.walk.Walk.{Walk}
use Rattle.ht_types.proofs.OnwardLaws.{IsOnWay, walk_none, walk_more, walk_bound}
use Rattle.ht_types.proofs.SeenLaws.{IsDirected, rows_in, directed, infinite_seen, under_out, end_in, walk_in, end_kind, open_kind}
use Rattle.ht_types.proofs.TurnLaws.{HasSemiNormal}

-- ---- numbers

-- the quasinormal basis of a typed element has fewer than 2^20 words
pub few_words : (shape : Shape) (X : List Word) → TakesAtMost shape X 65536 → length X ≤ 2 ^ 20
few_words shape X within = let n = shape.letters_high in let r = shape.roots_high in omega arith

-- so a walk takes few steps
pub few_steps : (n l k steps : ℕ) → n ≤ 2 ^ 20 → l < 2 ^ 64 → k ≤ 2 → steps ≤ n * (l + k) → steps < 2 ^ 86
few_steps n l k steps words letters more few = omega (arith, mul-le n (l + k) (2 ^ 20) (2 ^ 64 + 1) words (let m : l + k ≤ 2 ^ 64 + 1 = omega arith in m))

-- ---- on the way

-- the walk of no steps is on its way
pub way_begins : (shape : Shape) (q : List Row) (X : List Word) (u : Word) (walk : Walk) → IsWordOf shape u → IsPlaced X u walk → IsOnWay shape q X u walk
way_begins shape q X u walk hu placed = record { above = placed.above; walked = walk_none shape q X u placed.above walk hu placed.here placed.is placed.none }

-- it is at words of the shape
pub way_word : {shape : Shape} {q : List Row} {X : List Word} → HasSemiNormal shape q X → (u x : Word) (walk : Walk) → IsOnWay shape q X u walk → slice_get X walk.to ≡ Some x → IsWordOf shape (x · walk.rest)
way_word {shape} {q} {X} h u x walk w here =
    let same : w.above ≡ x = same_at X X walk.to w.above x refl w.walked.here here in
    subst (λ y. IsWordOf shape (y · walk.rest)) same (carries_word shape q h.pair (pos walk.steps) u (w.above · walk.rest) w.walked.carries)

-- where it hasn't come to an end, it goes on
pub way_on : (direction : Direction) (shape : Shape) (p q : List Row) (X : List Word) → IsDirected direction shape p q X → (u : Word) (walk : Walk) (w : IsOnWay shape q X u walk) (kind : Kind) → HasKind shape p X w.above kind → ¬ IsEndKind direction kind
    → (to : ℕ) (rest : List ℕ) → LeadsTo shape q X (pos 1) (w.above · walk.rest) to rest → IsOnWay shape q X u (record { steps = walk.steps + 1; to = to; rest = rest })
way_on direction shape p q X d u walk w kind h none to rest l =
    let next : Walk = record { steps = walk.steps + 1; to = to; rest = rest } in
    record {
      above = l.above;
      walked = walk_more d.base u w.above l.above walk next w.walked (λ a. open_kind direction shape p d.there.pair X w.above kind h none (end_in direction shape p q X d w.above a)) l.here l.carries refl;
    }

-- its steps
pub way_bound : (direction : Direction) (shape : Shape) (p q : List Row) (X : List Word) → IsDirected direction shape p q X → (u : Word) (walk : Walk) → IsUnderInfinite shape p X u → IsOnWay shape q X u walk → walk.steps ≤ length X * (length u.letters + 1)
way_bound direction shape p q X d u walk under w =
    walk_bound d.base u under.above w.above under.under.rest walk (infinite_seen direction shape p q X d under.above under.infinite) under.under.is w.walked

-- ---- the end

-- under the word of an end
pub stops_ended : (direction : Direction) (shape : Shape) (p q : List Row) (X : List Word) → IsDirected direction shape p q X → (u : Word) (walk : Walk) (w : IsOnWay shape q X u walk) (kind : Kind) → HasKind shape p X w.above kind → IsEndKind direction kind → IsUnderInfinite shape p X u → walk.steps < 2 ^ 121 → IsWholeWalk shape p X direction u walk
stops_ended direction shape p q X d u walk w kind h e under few =
    record { above = w.above; walked = walk_in direction shape p q X d u w.above walk w.walked; stops = inl (end_kind direction shape p X w.above kind h e); most = way_bound direction shape p q X d u walk under w; few = few }

-- or where a step leads to no word
pub stops_stuck : (direction : Direction) (shape : Shape) (p q : List Row) (X : List Word) → IsDirected direction shape p q X → (u : Word) (walk : Walk) (w : IsOnWay shape q X u walk) → ((v : Word) → ¬ Carries shape q (pos 1) (w.above · walk.rest) v) → IsUnderInfinite shape p X u → walk.steps < 2 ^ 121 → IsWholeWalk shape p X direction u walk
stops_stuck direction shape p q X d u walk w stuck under few =
    record { above = w.above; walked = walk_in direction shape p q X d u w.above walk w.walked; stops = inr (λ h. let c = under_out direction shape p q X d 1 (w.above · walk.rest) h in stuck c.to c.carries); most = way_bound direction shape p q X d u walk under w; few = few }

-- ---- what the code knows

-- the kind that stands at the place of the walk is that of the word there
pub way_kind : (t : TypedValue) → IsTyped t.element t.quasi t.kinds → (q : List Row) (u : Word) (walk : Walk) (w : IsOnWay t.element.shape q t.quasi.basis.words u walk) (kind : Kind) → slice_get t.kinds walk.to ≡ Some kind → HasKind t.element.shape t.element.rows t.quasi.basis.words w.above kind
way_kind t typed q u walk w kind here = typed.kinds_are.each walk.to w.above kind w.walked.here here

-- a walk takes few steps
pub way_few : (direction : Direction) (t : TypedValue) → IsTyped t.element t.quasi t.kinds → (u : Word) (walk : Walk) → length u.letters < 2 ^ 64 → IsUnderInfinite t.element.shape t.element.rows t.quasi.basis.words u → IsOnWay t.element.shape (rows_in direction t.element.rows) t.quasi.basis.words u walk → walk.steps < 2 ^ 86
way_few direction t typed u walk letters under w =
    few_steps (length t.quasi.basis.words) (length u.letters) 1 walk.steps (few_words t.element.shape t.quasi.basis.words typed.within) letters (omega arith)
    (way_bound direction t.element.shape t.element.rows (rows_in direction t.element.rows) t.quasi.basis.words (directed direction t typed) u walk under w)
