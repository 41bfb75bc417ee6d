-- Two elements that permute a basis, each of them as a power of the other, are conjugate.
-- The conjugator goes along the cycles: where k steps of the one lead from the first word of a cycle to x, it sends x to where k
-- steps of the other lead from that word.
--
--     IsReached shape f x y       some power of f carries x to y
--     Permutes shape f X          each power of f carries the words of X to words of X, and where they lead is decided
--     Follows shape f g           g leads words only where f does, and back where f does
--     AreTwins shape f g X x y    the same steps of f and of g lead from the first word of a cycle to x and to y
use Rattle.std.proofs.Common.{◌≡◌, ℕ, ◌⊎◌, List, sym, subst, arith, Contains, ℤ, pos, neg_ℤ, ◌+ℤ◌}
use Rattle.std.proofs.lemmas.Int.{ints}
use Rattle.ht_word.specs.Words.{IsWordOf, ◌·◌}
use Rattle.ht_word.specs.declared.shape.Shape.{Shape}
use Rattle.ht_word.specs.declared.word.Word.{Word}
use Rattle.ht_word.proofs.WordLaws.{word_rest}
use Rattle.ht_pair.specs.Actions.{Moves}
use Rattle.ht_pair.specs.Bases.{IsBasis}
use Rattle.ht_pair.specs.Conjugacy.{AreConjugate}
use Rattle.ht_pair.specs.Pairs.{IsPair}
use Rattle.ht_pair.specs.Steps.{Carries}
use Rattle.ht_pair.specs.declared.row.Row.{Row}
use Rattle.ht_pair.proofs.CarriesLaws.{carries_single, carries_extends, carries_add, carries_back, carries_sum, carries_itself}
use Rattle.ht_pair.proofs.MovesLaws.{moves_map}
use Rattle.ht_pair.proofs.PrefixMapLaws.{realised}
use Rattle.ht_laws.proofs.PrefixLaws.{moves_carries}
use Rattle.ht_power_laws.proofs.PermutedBases.{Extends, IsMapOf, permutation_map}
use Rattle.ht_power_laws.proofs.Searches.{IsFirst, first_exists, first_once, first_same, first_holds}

abbrev pub IsReached : Shape → List Row → Word → Word → Type 0
IsReached shape f x y = (k : ℤ) × Carries shape f k x y

pub record Permutes (shape : Shape) (f : List Row) (X : List Word) : Type 0 where
  pub pair : IsPair shape f
  pub moved : (k : ℤ) (x : Word) → Contains X x → (y : Word) × Contains X y × Carries shape f k x y
  pub decided : (x y : Word) → Contains X x → IsReached shape f x y ⊎ ¬ IsReached shape f x y

pub record Follows (shape : Shape) (f g : List Row) : Type 0 where
  pub returns : (k : ℤ) (x : Word) → Carries shape f k x x → Carries shape g k x x
  pub reached : (x y : Word) → IsReached shape g x y → IsReached shape f x y

module _ {shape : Shape} {f : List Row} (pair : IsPair shape f) where
  -- being reached is symmetric
  reached_back : (x y : Word) → IsReached shape f x y → IsReached shape f y x
  reached_back x y (k, c) = (neg_ℤ k, carries_back shape f pair k x y c)

  -- and transitive
  reached_on : (x y z : Word) → IsReached shape f x y → IsReached shape f y z → IsReached shape f x z
  reached_on x y z (j, c) (k, d) = (j +ℤ k, carries_add shape f pair j k x y z c d)

  -- so words on one cycle have one first word of their cycle
  one_cycle : (X : List Word) (x y z : Word) → IsReached shape f x y → IsFirst (IsReached shape f x) X z → IsFirst (IsReached shape f y) X z
  one_cycle X x y z there = first_same (IsReached shape f x) (IsReached shape f y) (λ w. reached_on y x w (reached_back x y there)) (λ w. reached_on x y w there) X z

  -- where f moves a word under x, which it carries to x'
  moved_under : (u u' x x' : Word) (z : List ℕ) → IsWordOf shape u → u ≡ x · z → Carries shape f (pos 1) x x' → Moves f u u' → u' ≡ x' · z
  moved_under u u' x x' z word is c moved =
      let hz = word_rest shape x z (subst (IsWordOf shape) is word) in
      let there = subst (λ t. Carries shape f (pos 1) t (x' · z)) (sym is) (carries_extends shape f (pos 1) x x' z hz c) in
      carries_single shape f pair (pos 1) u u' (x' · z) (moves_carries shape f u u' pair word moved) there

pub record AreTwins (shape : Shape) (f g : List Row) (X : List Word) (x y : Word) : Type 0 where
  pub start : Word
  pub first : IsFirst (IsReached shape f start) X start
  pub steps : ℤ
  pub ahead : Carries shape f steps start x
  pub beside : Carries shape g steps start y

module _ {shape : Shape} {f g : List Row} {X : List Word} where
  -- a word has a twin
  twin_exists : Permutes shape f X → Permutes shape g X → (x : Word) → Contains X x → (y : Word) × Contains X y × AreTwins shape f g X x y
  twin_exists first second x c =
      let here : IsReached shape f x x = (pos 0, carries_itself shape f x (first.moved (pos 0) x c).2.word) in
      let s = first_exists (IsReached shape f x) (λ y. first.decided x y c) X x c here in
      let held = first_holds (IsReached shape f x) X s.0 s.1 in
      let back = reached_back first.pair x s.0 held.1 in
      let y = second.moved back.0 s.0 held.0 in
      (y.0, y.1, record { start = s.0; first = one_cycle first.pair X x s.0 s.0 held.1 s.1; steps = back.0; ahead = back.1; beside = y.2 })

  -- and just one
  twin_once : IsPair shape f → IsPair shape g → Follows shape f g → (x y y' : Word) → AreTwins shape f g X x y → AreTwins shape f g X x y' → y ≡ y'
  twin_once pair_f pair_g follows x y y' a b =
      let there = reached_on pair_f b.start x a.start (b.steps, b.ahead) (reached_back pair_f a.start x (a.steps, a.ahead)) in
      let same : b.start ≡ a.start = first_once (IsReached shape f a.start) X b.start a.start (one_cycle pair_f X b.start a.start b.start there b.first) a.first in
      let ahead : Carries shape f b.steps a.start x = subst (λ t. Carries shape f b.steps t x) same b.ahead in
      let beside : Carries shape g b.steps a.start y' = subst (λ t. Carries shape g b.steps t y') same b.beside in
      let k = b.steps +ℤ neg_ℤ a.steps in
      let round = carries_add shape f pair_f b.steps (neg_ℤ a.steps) a.start x a.start ahead (carries_back shape f pair_f a.steps a.start x a.ahead) in
      let other = carries_sum shape g pair_g k a.steps b.steps (omega (arith, ints)) a.start a.start y (follows.returns k a.start round) a.beside in
      carries_single shape g pair_g b.steps a.start y y' other beside

  -- twins are twins the other way round
  twins_turned : Follows shape f g → Follows shape g f → (x y : Word) → AreTwins shape f g X x y → AreTwins shape g f X y x
  twins_turned to from x y t = record {
    start = t.start;
    first = first_same (IsReached shape f t.start) (IsReached shape g t.start) (from.reached t.start) (to.reached t.start) X t.start t.first;
    steps = t.steps;
    ahead = t.beside;
    beside = t.ahead;
  }

  -- one step of both leads twins to twins
  twins_next : IsPair shape f → IsPair shape g → (x y x' y' : Word) → AreTwins shape f g X x y → Carries shape f (pos 1) x x' → Carries shape g (pos 1) y y' → AreTwins shape f g X x' y'
  twins_next pair_f pair_g x y x' y' t c d = record {
    start = t.start;
    first = t.first;
    steps = t.steps +ℤ pos 1;
    ahead = carries_add shape f pair_f t.steps (pos 1) t.start x x' t.ahead c;
    beside = carries_add shape g pair_g t.steps (pos 1) t.start y y' t.beside d;
  }

-- elements that follow one another on a basis are conjugate
pub follows_conjugate : {shape : Shape} {f g : List Row} {X : List Word} → IsBasis shape X → Permutes shape f X → Permutes shape g X → Follows shape f g → Follows shape g f
    → AreConjugate shape f g
follows_conjugate {shape} {f} {g} {X} basis first second to from =
    let ahead : IsMapOf (AreTwins shape f g X) X = record { total = twin_exists first second; single = twin_once first.pair second.pair to } in
    let behind : IsMapOf (λ x y. AreTwins shape f g X y x) X = record {
      total = λ y c. let t = twin_exists second first y c in (t.0, t.1, twins_turned from to y t.0 t.2);
      single = λ y x x' t s. twin_once second.pair first.pair from y x x' (twins_turned to from x y t) (twins_turned to from x' y s);
    } in
    let map = permutation_map shape X basis (AreTwins shape f g X) ahead behind in
    let h = realised shape (Extends (AreTwins shape f g X) X) map in
    record {
      by = h.rows;
      conjugates = record {
        pair = h.pair;
        commutes = λ u u' v v' w word moved sent start other.
            let e = h.by u v start in
            let x = first.moved (pos 1) e.from e.from_listed in
            let y = second.moved (pos 1) e.to e.to_listed in
            let there : Extends (AreTwins shape f g X) X u' w = record {
              from = x.0;
              to = y.0;
              rest = e.rest;
              from_listed = x.1;
              to_listed = y.1;
              sent = twins_next first.pair second.pair e.from e.to x.0 y.0 e.sent x.2 y.2;
              from_is = moved_under first.pair u u' e.from x.0 e.rest word e.from_is x.2 moved;
              to_is = moved_under second.pair v w e.to y.0 e.rest (map.ahead.word u v word e) e.to_is y.2 other;
            } in
            map.ahead.single u' w v' ((moves_map shape f first.pair).ahead.word u u' word moved) there (h.by u' v' sent);
      };
    }
