-- Bases that grow: they stay whole, and each expansion adds one word.
use Rattle.std.proofs.Common.{◌≡◌, ℕ, suc, ◌+◌, ◌<◌, List, [], ◌∷◌, ◌++◌, length, take, drop, refl, sym, ap, ◌∙◌, subst, arith, append_assoc, length-append, add-one}
use Rattle.std.proofs.lemmas.List.Elements.{All-contains}
use Rattle.std.proofs.lemmas.Option.{get_or_from_slice_get}
use Rattle.ht_word.specs.Words.{child, root_word}
use Rattle.ht_word.specs.declared.shape.Shape.{Shape}
use Rattle.ht_word.specs.declared.word.Word.{Word}
use Rattle.ht_pair.specs.Bases.{roots, roots_to}
use Rattle.ht_pair.specs.HeldBases.{IsHeldBasis, children}
use Rattle.ht_pair.specs.Merges.{each_to}
use Rattle.ht_pair.proofs.BasisLaws.{longest_least}
use Rattle.ht_pair.proofs.HeldBasisLaws.{roots_held, held_expanded_here, parts_at}
use Rattle.ht_sample.specs.Growth.{IsGrownOnce, IsGrown}
use Rattle.ht_sample.specs.Rooms.{IsWhole}
use Rattle.ht_sample.specs.Samples.{IsSampleBasis}
use Rattle.ht_sample.proofs.WholeLaws.{IsShort, room_is, whole_expanded, whole_root}

-- a whole basis of k words
pub record IsWholeBasis (shape : Shape) (k : ℕ) (X : List Word) : Type 0 where
  pub held : IsHeldBasis shape X
  pub whole : IsWhole X
  pub size : length X ≡ k

-- the children of a word of two letters
children_two : (shape : Shape) → shape.n ≡ 2 → (x : Word) → children shape x ≡ child x 1 ∷ child x 2 ∷ []
children_two shape two x = ap (λ k. each_to (child x) k) two

pub whole_roots : (shape : Shape) → shape.r ≡ 1 → IsWholeBasis shape 1 (roots shape)
whole_roots shape one =
    let are : roots shape ≡ root_word 1 ∷ [] = ap roots_to one in
    record { held = roots_held shape; whole = subst IsWhole (sym are) (whole_root 1); size = ap (λ (X : List Word). length X) are }

-- one expansion more
pub whole_once : (shape : Shape) → shape.n ≡ 2 → (k s t : ℕ) (X Y : List Word) → IsGrownOnce shape s X t Y → IsWholeBasis shape k X → IsWholeBasis shape (suc k) Y
whole_once shape two k s t X Y g h =
    let x = g.expanded.word in
    let A = take g.place X in
    let B = drop (g.place + 1) X in
    let are : X ≡ A ++ x ∷ B = parts_at X g.place x g.expanded.here in
    let new : Y ≡ A ++ child x 1 ∷ child x 2 ∷ B = g.expanded.words ∙ ap (λ (C : List Word). A ++ C ++ B) (children_two shape two x) ∙ append_assoc A (child x 1 ∷ child x 2 ∷ []) B in
    let room : length x.letters < 64 = subst (λ (w : Word). length w.letters < 64) (get_or_from_slice_get X g.place x x g.expanded.here) ((room_is X _ g.place g.room).room x) in
    record {
      held = held_expanded_here shape X Y g.place x g.expanded.here g.expanded.words h.held;
      whole = subst IsWhole (sym new) (whole_expanded A B x room (subst IsWhole are h.whole));
      size = omega (arith, h.size, ap (λ (Z : List Word). length Z) are, ap (λ (Z : List Word). length Z) new, length-append A (x ∷ B), length-append A (child x 1 ∷ child x 2 ∷ B));
    }

-- 3,999 expansions of a root
pub whole_sample : (shape : Shape) (k : ℕ) (X : List Word) → k ≡ 4000 → IsWholeBasis shape k X → IsSampleBasis shape X
whole_sample shape k X e h = record { basis = h.held.basis; size = h.size ∙ e; short = longest_least X 64 (λ w c. All-contains IsShort X w h.whole.short c) }

-- ---- expansions one after another

pub grown_none : (shape : Shape) (s : ℕ) (X : List Word) → IsGrown shape 0 s X s X
unfolding IsGrown
grown_none shape s X = (refl, refl)

pub grown_more : (shape : Shape) (k s r t : ℕ) (X Z Y : List Word) → IsGrown shape k s X r Z → IsGrownOnce shape r Z t Y → IsGrown shape (k + 1) s X t Y
unfolding IsGrown
grown_more shape k s r t X Z Y g h = subst (λ j. IsGrown shape j s X t Y) (sym (add-one k)) (r, Z, g, h)
