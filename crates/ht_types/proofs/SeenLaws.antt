-- Walks of p in a direction are walks ahead of q, which makes their steps: p itself, or what mirrors it.
use Rattle.std.proofs.Common.{◌≡◌, ◌≢◌, ℕ, List, Some, slice_get, refl, sym, ap, subst, pos}
use Rattle.ht_word.specs.Words.{◌·◌}
use Rattle.ht_word.specs.declared.shape.Shape.{Shape}
use Rattle.ht_word.specs.declared.word.Word.{Word}
use Rattle.ht_pair.specs.Atoms.{IsInfiniteWord}
use Rattle.ht_pair.specs.Elements.{ElementValue}
use Rattle.ht_pair.specs.Kinds.{IsAttractorWord, IsAttractor, IsRepeller}
use Rattle.ht_pair.specs.Pairs.{IsPair, turned}
use Rattle.ht_pair.specs.Reaches.{CarriesUnderSuch}
use Rattle.ht_pair.specs.SemiNormal.{CarriesUnder, IsQuasinormal}
use Rattle.ht_pair.specs.Steps.{Carries}
use Rattle.ht_pair.specs.declared.row.Row.{Row}
use Rattle.ht_pair.proofs.KindLaws.{cycle_no_attractor, cycle_no_repeller, attractor_no_repeller, attractor_once, repeller_once}
use Rattle.ht_quasi.proofs.MirrorLaws.{Mirrors, mirrors_back, quasinormal_inverse, under_to, under_from}
use Rattle.ht_types.specs.Flows.{power_in, IsEndIn, IsEndKind, LeadsIn, LeadsAway, IsWalk}
use Rattle.ht_types.specs.TypedElements.{TypedValue, IsTyped}
use Rattle.ht_types.specs.WordKinds.{HasKind}
use Rattle.ht_types.specs.WordSteps.{HasStep}
use Rattle.ht_types.specs.declared.direction.Direction.{Direction}
use Rattle.ht_types.specs.declared.direction.Direction.TheVariants.{Ahead, Behind}
use Rattle.ht_types.specs.declared.kind.Kind.{Kind}
use Rattle.ht_types.specs.declared.kind.Kind.TheVariants.{Cycle, Attractor, Repeller, Passing}
use Rattle.ht_types.specs.declared.step.Step.{Step}
use Rattle.ht_types.specs.declared.walk.Walk.{Walk}
use Rattle.ht_types.proofs.FlowLaws.{mirrored_infinite, turned_base}
use Rattle.ht_types.proofs.MirrorLaws.{turned_mirrors, such_to, such_from, attractor_repeller, repeller_attractor}
use Rattle.ht_types.proofs.StepLaws.{step_from}
use Rattle.ht_types.proofs.TurnLaws.{HasSemiNormal}

abbrev pub MirrorsIn : Direction → Shape → List Row → List Row → Type 0
MirrorsIn Ahead shape p q = q ≡ p
MirrorsIn Behind shape p q = Mirrors shape p q

pub record IsDirected (direction : Direction) (shape : Shape) (p q : List Row) (X : List Word) : Type 0 where
  pub there : HasSemiNormal shape p X
  pub base : HasSemiNormal shape q X
  pub follows : MirrorsIn direction shape p q

-- ---- elements

pub mover_shape : (direction : Direction) (a b : ElementValue) → LeadsIn direction a b → b.shape ≡ a.shape
mover_shape Ahead a b e = ap (λ (v : ElementValue). v.shape) e
mover_shape Behind a b l = l.0

-- rows whose steps ahead are those of p in the direction
abbrev pub rows_in : Direction → List Row → List Row
rows_in Ahead p = p
rows_in Behind p = turned p

pub directed : (direction : Direction) (t : TypedValue) → IsTyped t.element t.quasi t.kinds → IsDirected direction t.element.shape t.element.rows (rows_in direction t.element.rows) t.quasi.basis.words
directed direction t typed = by direction (record { pair = typed.canonical.pair; semi = typed.quasinormal.least.semi_normal })
  where
    by : (way : Direction) → HasSemiNormal t.element.shape t.element.rows t.quasi.basis.words → IsDirected way t.element.shape t.element.rows (rows_in way t.element.rows) t.quasi.basis.words
    by Ahead base = record { there = base; base = base; follows = refl }
    by Behind base = record { there = base; base = turned_base base; follows = turned_mirrors t.element.shape t.element.rows base.pair }

-- the quasinormal basis of the element is that of what makes the steps
pub least_for : (direction : Direction) (a b : ElementValue) (X : List Word) → IsPair a.shape a.rows → LeadsIn direction a b → IsQuasinormal a.shape a.rows X → IsQuasinormal b.shape b.rows X
least_for Ahead a b X pair e least = subst (λ (v : ElementValue). IsQuasinormal v.shape v.rows X) (sym e) least
least_for Behind a b X pair l least = subst (λ (s : Shape). IsQuasinormal s b.rows X) (sym l.0) ((quasinormal_inverse a.shape a.rows b.rows X pair l.1).0 least)

-- ---- words

pub infinite_seen : (direction : Direction) (shape : Shape) (p q : List Row) (X : List Word) → IsDirected direction shape p q X → (x : Word) → IsInfiniteWord shape p X x → IsInfiniteWord shape q X x
infinite_seen Ahead shape p q X d x h = subst (λ r. IsInfiniteWord shape r X x) (sym d.follows) h
infinite_seen Behind shape p q X d x h = mirrored_infinite d.there d.follows x h

pub infinite_back : (direction : Direction) (shape : Shape) (p q : List Row) (X : List Word) → IsDirected direction shape p q X → (x : Word) → IsInfiniteWord shape q X x → IsInfiniteWord shape p X x
infinite_back Ahead shape p q X d x h = subst (λ r. IsInfiniteWord shape r X x) d.follows h
infinite_back Behind shape p q X d x h = mirrored_infinite d.base (mirrors_back d.follows) x h

pub under_in : (direction : Direction) (shape : Shape) (p q : List Row) (X : List Word) → IsDirected direction shape p q X → (k : ℕ) (u : Word) → CarriesUnder shape q (pos k) u X → CarriesUnder shape p (power_in direction k) u X
under_in Ahead shape p q X d k u h = subst (λ r. CarriesUnder shape r (pos k) u X) d.follows h
under_in Behind shape p q X d k u h = under_to d.follows (pos k) u X h

pub under_out : (direction : Direction) (shape : Shape) (p q : List Row) (X : List Word) → IsDirected direction shape p q X → (k : ℕ) (u : Word) → CarriesUnder shape p (power_in direction k) u X → CarriesUnder shape q (pos k) u X
under_out Ahead shape p q X d k u h = subst (λ r. CarriesUnder shape r (pos k) u X) (sym d.follows) h
under_out Behind shape p q X d k u h = under_from d.follows (pos k) u X h

carries_in : (direction : Direction) (shape : Shape) (p q : List Row) (X : List Word) → IsDirected direction shape p q X → (k : ℕ) (u v : Word) → Carries shape q (pos k) u v → Carries shape p (power_in direction k) u v
carries_in Ahead shape p q X d k u v h = subst (λ r. Carries shape r (pos k) u v) d.follows h
carries_in Behind shape p q X d k u v h = d.follows.to (pos k) u v h

carries_out : (direction : Direction) (shape : Shape) (p q : List Row) (X : List Word) → IsDirected direction shape p q X → (k : ℕ) (u v : Word) → Carries shape p (power_in direction k) u v → Carries shape q (pos k) u v
carries_out Ahead shape p q X d k u v h = subst (λ r. Carries shape r (pos k) u v) (sym d.follows) h
carries_out Behind shape p q X d k u v h = d.follows.from (pos k) u v h

-- what p does in one step in the direction, q does in one step ahead
pub step_seen : (direction : Direction) (shape : Shape) (p q : List Row) (X : List Word) → IsDirected direction shape p q X → (x : Word) (step : Step) → HasStep shape p X (power_in direction 1) x step → HasStep shape q X (pos 1) x step
step_seen Ahead shape p q X d x step h = subst (λ r. HasStep shape r X (pos 1) x step) (sym d.follows) h
step_seen Behind shape p q X d x step h = step_from d.follows X (pos 1) x step h

such_in : (direction : Direction) (shape : Shape) (p q : List Row) (X : List Word) → IsDirected direction shape p q X → (k : ℕ) (u v : Word) → CarriesUnderSuch shape q (IsAttractorWord shape q) X (pos k) u v → CarriesUnderSuch shape p (IsEndIn direction shape p) X (power_in direction k) u v
such_in Ahead shape p q X d k u v h = subst (λ r. CarriesUnderSuch shape r (IsAttractorWord shape r) X (pos k) u v) d.follows h
such_in Behind shape p q X d k u v h = such_to d.follows X k u v h

such_out : (direction : Direction) (shape : Shape) (p q : List Row) (X : List Word) → IsDirected direction shape p q X → (k : ℕ) (u v : Word) → CarriesUnderSuch shape p (IsEndIn direction shape p) X (power_in direction k) u v → CarriesUnderSuch shape q (IsAttractorWord shape q) X (pos k) u v
such_out Ahead shape p q X d k u v h = subst (λ r. CarriesUnderSuch shape r (IsAttractorWord shape r) X (pos k) u v) (sym d.follows) h
such_out Behind shape p q X d k u v h = such_from d.follows X k u v h

pub end_in : (direction : Direction) (shape : Shape) (p q : List Row) (X : List Word) → IsDirected direction shape p q X → (x : Word) → IsAttractorWord shape q x → IsEndIn direction shape p x
end_in Ahead shape p q X d x a = subst (λ r. IsAttractorWord shape r x) d.follows a
end_in Behind shape p q X d x a = (a.0, a.1, attractor_repeller d.follows x a.0 a.1 a.2)

pub end_out : (direction : Direction) (shape : Shape) (p q : List Row) (X : List Word) → IsDirected direction shape p q X → (x : Word) → IsEndIn direction shape p x → IsAttractorWord shape q x
end_out Ahead shape p q X d x a = subst (λ r. IsAttractorWord shape r x) (sym d.follows) a
end_out Behind shape p q X d x a = (a.0, a.1, repeller_attractor d.follows x a.0 a.1 a.2)

-- ---- walks

pub walk_in : (direction : Direction) (shape : Shape) (p q : List Row) (X : List Word) → IsDirected direction shape p q X → (u x : Word) (walk : Walk) → IsWalk shape q X Ahead u x walk → IsWalk shape p X direction u x walk
walk_in direction shape p q X d u x walk w = record {
  here = w.here;
  carries = carries_in direction shape p q X d walk.steps u (x · walk.rest) w.carries;
  under = λ j l. under_in direction shape p q X d j u (w.under j l);
  before = λ j v l s. w.before j v l (such_out direction shape p q X d j u v s);
}

pub walk_out : (direction : Direction) (shape : Shape) (p q : List Row) (X : List Word) → IsDirected direction shape p q X → (u x : Word) (walk : Walk) → IsWalk shape p X direction u x walk → IsWalk shape q X Ahead u x walk
walk_out direction shape p q X d u x walk w = record {
  here = w.here;
  carries = carries_out direction shape p q X d walk.steps u (x · walk.rest) w.carries;
  under = λ j l. under_out direction shape p q X d j u (w.under j l);
  before = λ j v l s. w.before j v l (such_in direction shape p q X d j u v s);
}

-- ---- kinds

pub end_kind : (direction : Direction) (shape : Shape) (p : List Row) (X : List Word) (x : Word) (kind : Kind) → HasKind shape p X x kind → IsEndKind direction kind → IsEndIn direction shape p x
end_kind Ahead shape p X x (Cycle m) h e = elim e [ ]
end_kind Ahead shape p X x (Attractor m by) h e = (m, by, h)
end_kind Ahead shape p X x (Repeller m by) h e = elim e [ ]
end_kind Ahead shape p X x (Passing ahead behind) h e = elim e [ ]
end_kind Behind shape p X x (Cycle m) h e = elim e [ ]
end_kind Behind shape p X x (Attractor m by) h e = elim e [ ]
end_kind Behind shape p X x (Repeller m by) h e = (m, by, h)
end_kind Behind shape p X x (Passing ahead behind) h e = elim e [ ]

pub open_kind : (direction : Direction) (shape : Shape) (p : List Row) → IsPair shape p → (X : List Word) (x : Word) (kind : Kind) → HasKind shape p X x kind → ¬ IsEndKind direction kind → ¬ IsEndIn direction shape p x
open_kind Ahead shape p pair X x (Cycle m) h n e = cycle_no_attractor shape p pair x m e.0 e.1 h e.2
open_kind Ahead shape p pair X x (Attractor m by) h n e = n tt
open_kind Ahead shape p pair X x (Repeller m by) h n e = attractor_no_repeller shape p pair x e.0 m e.1 by e.2 h
open_kind Ahead shape p pair X x (Passing ahead behind) h n e = h.0.1 e
open_kind Behind shape p pair X x (Cycle m) h n e = cycle_no_repeller shape p pair x m e.0 e.1 h e.2
open_kind Behind shape p pair X x (Attractor m by) h n e = attractor_no_repeller shape p pair x m e.0 by e.1 h e.2
open_kind Behind shape p pair X x (Repeller m by) h n e = n tt
open_kind Behind shape p pair X x (Passing ahead behind) h n e = h.0.2 e

-- a letter that leads away from the word of a kind doesn't stand at the place among the letters of the repeller that the word is for q
away_ahead : (shape : Shape) (p : List Row) → IsPair shape p → (X : List Word) (x : Word) (kind : Kind) (k a : ℕ) → HasKind shape p X x kind → LeadsAway Ahead kind k a → (m : ℕ) (by : List ℕ) → IsRepeller shape p x m by → slice_get by k ≢ Some a
away_ahead shape p pair X x (Cycle n) k a h l m by r = absurd (cycle_no_repeller shape p pair x n m by h r)
away_ahead shape p pair X x (Attractor n off) k a h l m by r = absurd (attractor_no_repeller shape p pair x n m off by h r)
away_ahead shape p pair X x (Repeller n off) k a h l m by r = subst (λ z. slice_get z k ≢ Some a) ((repeller_once shape p pair x n m off by h r).1) l
away_ahead shape p pair X x (Passing ahead behind) k a h l m by r = absurd (h.0.2 (m, by, r))

away_behind : (shape : Shape) (p : List Row) → IsPair shape p → (X : List Word) (x : Word) (kind : Kind) (k a : ℕ) → HasKind shape p X x kind → LeadsAway Behind kind k a → (m : ℕ) (by : List ℕ) → IsAttractor shape p x m by → slice_get by k ≢ Some a
away_behind shape p pair X x (Cycle n) k a h l m by r = absurd (cycle_no_attractor shape p pair x n m by h r)
away_behind shape p pair X x (Attractor n off) k a h l m by r = subst (λ z. slice_get z k ≢ Some a) ((attractor_once shape p pair x n m off by h r).1) l
away_behind shape p pair X x (Repeller n off) k a h l m by r = absurd (attractor_no_repeller shape p pair x m n by off r h)
away_behind shape p pair X x (Passing ahead behind) k a h l m by r = absurd (h.0.1 (m, by, r))

pub away_seen : (direction : Direction) (shape : Shape) (p q : List Row) (X : List Word) → IsDirected direction shape p q X → (x : Word) (kind : Kind) (k a : ℕ) → HasKind shape p X x kind → LeadsAway direction kind k a → (m : ℕ) (by : List ℕ) → IsRepeller shape q x m by → slice_get by k ≢ Some a
away_seen Ahead shape p q X d x kind k a h l m by r = away_ahead shape p d.there.pair X x kind k a h l m by (subst (λ s. IsRepeller shape s x m by) d.follows r)
away_seen Behind shape p q X d x kind k a h l m by r = away_behind shape p d.there.pair X x kind k a h l m by (repeller_attractor (mirrors_back d.follows) x m by r)
