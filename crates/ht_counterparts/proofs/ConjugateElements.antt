-- What conjugate elements have in common: being the identity, the powers that are, and so the order, and having an infinite part.
use Rattle.std.proofs.Common.{ℤ, refl, ◌≡◌, ℕ, List, [], sym, ◌∙◌, subst, arith, pos}
use Rattle.std.proofs.lemmas.List.Elements.{All-nil}
use Rattle.ht_word.specs.Words.{◌·◌, IsLetter, IsWordOf, root_word}
use Rattle.ht_word.specs.declared.shape.Shape.{Shape}
use Rattle.ht_word.specs.declared.word.Word.{Word}
use Rattle.ht_word.proofs.ListLaws.{Contains-nil}
use Rattle.ht_word.proofs.WordLaws.{after-nil, after_cancel_right, ones, word_after}
use Rattle.ht_num.proofs.NumberLaws.{least_same}
use Rattle.ht_pair.specs.Actions.{Alike, Moves}
use Rattle.ht_pair.specs.Atoms.{IsInfiniteWord}
use Rattle.ht_pair.specs.Bases.{roots}
use Rattle.ht_pair.specs.Conjugacy.{AreConjugate, Conjugates}
use Rattle.ht_pair.specs.Orders.{FixesRoots, HasInfiniteOrder, IsOrder}
use Rattle.ht_pair.specs.Pairs.{IsPair, identity}
use Rattle.ht_pair.specs.Parts.{IsInfinitePart}
use Rattle.ht_pair.specs.Steps.{Carries, Steps}
use Rattle.ht_pair.specs.declared.row.Row.{Row}
use Rattle.ht_pair.proofs.AlikeLaws.{alike_sym}
use Rattle.ht_pair.proofs.AlikePowerLaws.{carries_alike}
use Rattle.ht_pair.proofs.BasisLaws.{basis_word, roots_basis, roots_hold}
use Rattle.ht_pair.proofs.CarriesLaws.{carries_from_steps, carries_single}
use Rattle.ht_pair.proofs.ConjugacyLaws.{conjugate_sym, conjugates_turned}
use Rattle.ht_pair.proofs.ConjugatePowerLaws.{conjugates_carries}
use Rattle.ht_pair.proofs.IdentityLaws.{fixed_word, identity_moves, identity_pair}
use Rattle.ht_pair.proofs.MovesLaws.{moves_map}
use Rattle.ht_pair.proofs.PrefixMapLaws.{back, long_word, moved_long}
use Rattle.ht_pair.proofs.StepsLaws.{steps_map}
use Rattle.ht_types.proofs.TurnLaws.{HasSemiNormal}
use Rattle.ht_counterparts.proofs.PeriodicCounterparts.{infinite_sent}

module _ {shape : Shape} {f g h : List Row} (first : IsPair shape f) (second : IsPair shape g) (c : Conjugates shape h f g) where
  -- a power that carries all words to themselves does so for a conjugate
  fixed_across : (k : ℤ) → ((u : Word) → IsWordOf shape u → Carries shape f k u u) → (v : Word) → IsWordOf shape v → Carries shape g k v v
  fixed_across k fixes v hv = record {
    word = hv;
    carried = λ z w hz s.
        let m = (moves_map shape h c.pair).behind in
        let hvz = word_after shape v z hv hz in
        let t = (v · z) · ones m.bound in
        let u = moved_long shape (back (Moves h)) m (v · z) m.bound hvz (omega arith) in
        let fixed = fixes u.0 (m.word t u.0 (long_word shape (v · z) m.bound hvz) u.1) in
        at_end (v · z) w (ones m.bound) (conjugates_carries shape h f g first second c k u.0 u.0 t t fixed u.1 u.1) s;
  }
    where
      at_end : (v w : Word) (y : List ℕ) → Carries shape g k (v · y) (v · y) → Steps g k v w → w ≡ v
      at_end v w y carries s =
          let long = (steps_map shape g second k).ahead.extends v w y s in
          let same = carries.carried [] (w · y) (All-nil (IsLetter shape)) (subst (λ t. Steps g k t (w · y)) (sym (after-nil (v · y))) long) in
          after_cancel_right w v y (same ∙ after-nil (v · y))

  -- a conjugate of the identity is the identity
  pub identity_across : Alike shape f (identity shape) → Alike shape g (identity shape)
  identity_across alike = λ v w w' hv m n.
      let back = alike_sym shape f (identity shape) alike in
      let by_f = λ (u : Word) (hu : IsWordOf shape u). carries_alike shape (identity shape) f (identity_pair shape) first back (pos 1) u u (stays u hu) in
      let moved = carries_from_steps shape g second (pos 1) v w hv (v, refl, m) in
      carries_single shape g second (pos 1) v w v moved (fixed_across (pos 1) by_f v hv) ∙ identity_moves shape v w' n
    where
      stays : (u : Word) → IsWordOf shape u → Carries shape (identity shape) (pos 1) u u
      stays u hu = record { word = hu; carried = λ z w hz s. sym (identity_moves shape (u · z) w (subst (λ t. Moves (identity shape) t w) (sym s.1) s.2)) }

  -- a power that fixes the roots fixes them for a conjugate
  pub roots_fixed_across : (k : ℕ) → FixesRoots shape f k → FixesRoots shape g k
  roots_fixed_across k fixes = λ root low high.
      let word = basis_word shape (roots shape) (roots_basis shape) (root_word root) (roots_hold shape.r root low high) in
      fixed_across (pos k) (fixed_word shape f k fixes) (root_word root) word

-- conjugate elements have the same order
pub orders_across : {shape : Shape} {f g : List Row} → IsPair shape f → IsPair shape g → AreConjugate shape f g → (k : ℕ) → IsOrder shape f k
    → IsOrder shape g k
orders_across {shape} {f} {g} first second a k order =
    let back = conjugate_sym shape f g first second a in
    least_same (FixesRoots shape f) (FixesRoots shape g) (roots_fixed_across first second a.conjugates) (roots_fixed_across second first back.conjugates) k order

-- or none has one
pub infinite_order_across : {shape : Shape} {f g : List Row} → IsPair shape f → IsPair shape g → AreConjugate shape f g → HasInfiniteOrder shape f
    → HasInfiniteOrder shape g
infinite_order_across {shape} {f} {g} first second a none = λ k low fixes.
    none k low (roots_fixed_across second first (conjugate_sym shape f g first second a).conjugates k fixes)

-- where the one has no infinite part the other has none
pub no_infinite_across : {shape : Shape} {f g h : List Row} {X Y : List Word} → HasSemiNormal shape f X → HasSemiNormal shape g Y
    → Conjugates shape h f g
    → IsInfinitePart shape f X [] → IsInfinitePart shape g Y []
no_infinite_across {shape} {f} {g} {h} {X} {Y} first second c none = record {
  ascending = none.ascending;
  same = λ y. ((λ e. absurd (Contains-nil y e)), (λ infinite. absurd (no_infinite y infinite)));
}
  where
    no_infinite : (y : Word) → IsInfiniteWord shape g Y y → ⊥
    no_infinite y infinite =
        let s = infinite_sent second first (conjugates_turned shape h f g first.pair second.pair c) y infinite in
        Contains-nil s.above ((none.same s.above).1 s.infinite)
