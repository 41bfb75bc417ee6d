-- The ends that kinds tell: the end of a kind is that of the word, an attractor of the rows in its direction.
use Rattle.std.proofs.Common.{◌≡◌, ◌<◌, ◌⊎◌, ℕ, inl, inr, List, [], ◌∷◌, length, Some, slice_get, refl, ap, ◌∙◌, arith}
use Rattle.std.proofs.lemmas.Option.{slice_get_within}
use Rattle.ht_word.specs.declared.shape.Shape.{Shape}
use Rattle.ht_word.specs.declared.word.Word.{Word}
use Rattle.ht_pair.specs.Kinds.{IsAttractor, IsRepeller}
use Rattle.ht_pair.specs.Pairs.{IsPair}
use Rattle.ht_pair.specs.declared.row.Row.{Row}
use Rattle.ht_pair.proofs.KindLaws.{attractor_no_repeller, attractor_once, cycle_no_attractor, cycle_no_repeller, repeller_once}
use Rattle.ht_quasi.proofs.RoundLaws.{something_at}
use Rattle.ht_types.specs.WordKinds.{AreKinds, HasKind}
use Rattle.ht_types.specs.declared.direction.Direction.{Direction}
use Rattle.ht_types.specs.declared.direction.Direction.TheVariants.{Ahead, Behind}
use Rattle.ht_types.specs.declared.kind.Kind.{Kind}
use Rattle.ht_types.specs.declared.kind.Kind.TheVariants.{Cycle, Attractor, Repeller, Passing}
use Rattle.ht_types.proofs.MirrorLaws.{attractor_repeller, repeller_attractor, turned_mirrors}
use Rattle.ht_types.proofs.SeenLaws.{rows_in}
use Rattle.ht_counterparts.specs.Ends.{end_in, end_of}

-- a word is an attractor in one direction at most
pub one_way : (shape : Shape) (f : List Row) → IsPair shape f → (x : Word) (way other : Direction) {m n : ℕ} {G B : List ℕ}
    → IsAttractor shape (rows_in way f) x m G → IsAttractor shape (rows_in other f) x n B → way ≡ other
one_way shape f pair x Ahead Ahead a b = refl
one_way shape f pair x Ahead Behind {m} {n} {G} {B} a b =
    absurd (attractor_no_repeller shape f pair x m n G B a (attractor_repeller (turned_mirrors shape f pair) x n B b))
one_way shape f pair x Behind Ahead {m} {n} {G} {B} a b =
    absurd (attractor_no_repeller shape f pair x n m B G b (attractor_repeller (turned_mirrors shape f pair) x m G a))
one_way shape f pair x Behind Behind a b = refl

-- walks of f in the direction end under x
pub record IsWalkEnd (shape : Shape) (f : List Row) (x : Word) : Type 0 where
  pub direction : Direction
  pub period : ℕ
  pub letters : List ℕ
  pub attractor : IsAttractor shape (rows_in direction f) x period letters

pub end_found : (shape : Shape) (f : List Row) → IsPair shape f → (X : List Word) (x : Word) (kind : Kind) → HasKind shape f X x kind
    → (end_of kind ≡ []) ⊎ IsWalkEnd shape f x
end_found shape f pair X x (Cycle m) h = inl refl
end_found shape f pair X x (Attractor m by) h = inr (record { direction = Ahead; period = m; letters = by; attractor = h })
end_found shape f pair X x (Repeller m by) h =
    inr (record { direction = Behind; period = m; letters = by; attractor = repeller_attractor (turned_mirrors shape f pair) x m by h })
end_found shape f pair X x (Passing ahead behind) h = inl refl

-- where they do, the kind tells it
end_told : (shape : Shape) (f : List Row) → IsPair shape f → (X : List Word) (x : Word) (kind : Kind) → HasKind shape f X x kind
    → (way : Direction) (m : ℕ) (G : List ℕ) → IsAttractor shape (rows_in way f) x m G
    → end_of kind ≡ record { direction = way; period = m; letters = length G } ∷ []
end_told shape f pair X x kind h Ahead m G a = ahead kind h
  where
    ahead : (kind : Kind) → HasKind shape f X x kind → end_of kind ≡ record { direction = Ahead; period = m; letters = length G } ∷ []
    ahead (Cycle n) h = absurd (cycle_no_attractor shape f pair x n m G h a)
    ahead (Attractor n by) h = let o = attractor_once shape f pair x n m by G h a in cc (o.0, o.1)
    ahead (Repeller n by) h = absurd (attractor_no_repeller shape f pair x m n G by a h)
    ahead (Passing there behind) h = absurd (h.0.1 (m, G, a))
end_told shape f pair X x kind h Behind m G a = behind kind h
  where
    r : IsRepeller shape f x m G
    r = attractor_repeller (turned_mirrors shape f pair) x m G a

    behind : (kind : Kind) → HasKind shape f X x kind → end_of kind ≡ record { direction = Behind; period = m; letters = length G } ∷ []
    behind (Cycle n) h = absurd (cycle_no_repeller shape f pair x n m G h r)
    behind (Attractor n by) h = absurd (attractor_no_repeller shape f pair x n m by G h r)
    behind (Repeller n by) h = let o = repeller_once shape f pair x n m by G h r in cc (o.0, o.1)
    behind (Passing ahead there) h = absurd (h.0.2 (m, G, r))

-- ---- at a place

-- the kind at the place of a word is one of the word
pub kind_at : {shape : Shape} {f : List Row} {X : List Word} {kinds : List Kind} → AreKinds shape f X kinds → (i : ℕ) (x : Word)
    → slice_get X i ≡ Some x → (kind : Kind) × (slice_get kinds i ≡ Some kind) × HasKind shape f X x kind
kind_at {X = X} {kinds = kinds} are i x here =
    let l : i < length kinds = omega (arith, are.as_many, slice_get_within X i x here) in
    let kind = something_at kinds i l in
    (kind.0, kind.1, are.each i x kind.0 here kind.1)

pub end_here : {shape : Shape} {f : List Row} {X : List Word} {kinds : List Kind} → IsPair shape f → AreKinds shape f X kinds → (i : ℕ) (x : Word)
    → slice_get X i ≡ Some x → (way : Direction) (m : ℕ) (G : List ℕ) → IsAttractor shape (rows_in way f) x m G
    → end_in (slice_get kinds i) ≡ record { direction = way; period = m; letters = length G } ∷ []
end_here {shape} {f} {X} pair are i x here way m G a =
    let kind = kind_at are i x here in
    ap end_in kind.1 ∙ end_told shape f pair X x kind.0 kind.2 way m G a
