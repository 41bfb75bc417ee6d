-- What one step of a reduced pair carries under a basis.
use Rattle.std.proofs.Common.{◌≡◌, ◌+◌, ◌↔◌, List, [], refl, sym, ap, ◌∙◌, subst, subst₂, arith, All, Contains, pos, negsuc, neg_ℤ}
use Rattle.std.proofs.lemmas.List.Elements.{All-contains}
use Rattle.std.specs.declared.cmp.Ordering.TheVariants.{Less}
use Rattle.ht_word.specs.declared.word.Word.{Word}
use Rattle.ht_word.specs.declared.shape.Shape.{Shape}
use Rattle.ht_word.specs.Words.{◌·◌, word_cmp, IsWordOf, IsUnder, IsUnderSome, IsAscending}
use Rattle.ht_word.proofs.WordLaws.{after-nil, under_refl, under_after, word_rest, word_cmp_once, All-from_contains}
use Rattle.ht_word.proofs.ListLaws.{Contains-map, contained_in_map, AllPairs-weaker, AllPairs-from_map, AllPairs-map, ascending_same}
use Rattle.ht_pair.specs.declared.row.Row.{Row}
use Rattle.ht_pair.specs.Actions.{Moves, IsCanonical}
use Rattle.ht_pair.specs.Bases.{AreApart, IsBasis, IsAllUnder, longest}
use Rattle.ht_pair.specs.HeldBases.{IsHeldBasis}
use Rattle.ht_pair.specs.Pairs.{IsPair, from_words, to_words, turned}
use Rattle.ht_pair.specs.Products.{IsPower}
use Rattle.ht_pair.specs.Steps.{Steps, Carries}
use Rattle.ht_pair.specs.SemiNormal.{CarriesUnder}
use Rattle.ht_pair.proofs.BasisLaws.{some_at, some_trans, basis_holds, basis_word, basis_from}
use Rattle.ht_pair.proofs.CarriesLaws.{carries_single, carries_word, carries_from_steps, carries_extends, carries_back, carries_injective}
use Rattle.ht_pair.proofs.IdentityLaws.{from_words-keep, to_words-keep}
use Rattle.ht_pair.proofs.MovesLaws.{turn, from_words-turned}
use Rattle.ht_pair.proofs.PrefixMapLaws.{back, length-carried}
use Rattle.ht_pair.proofs.QuasinormalLaws.{both_under}
use Rattle.ht_pair.proofs.StepsLaws.{steps_map}
use Rattle.ht_ops.specs.Blocks.{IsFullProduct}
use Rattle.ht_quasi.specs.Quasis.{kept, IsYOf}
use Rattle.ht_quasi.proofs.MirrorLaws.{inverse_mirrors, under_to, under_from}
use Rattle.ht_quasi.proofs.StepLaws.{carried_moves}

-- the row from a word to itself
keep : Word → Row
keep x = record { from = x; to = x }

-- the rows that keep the words of a basis are a pair
pub kept_pair : (shape : Shape) (X : List Word) → IsBasis shape X → IsPair shape (kept X)
kept_pair shape X basis = record { from = subst (IsBasis shape) (sym (from_words-keep X)) basis; to = subst (IsBasis shape) (sym (to_words-keep X)) basis }

-- in ascending order where the basis is
pub kept_ascending : (X : List Word) → IsAscending X → IsAscending (from_words (kept X))
kept_ascending X ascending = subst IsAscending (sym (from_words-keep X)) ascending

-- they move words under the list alone, and each to itself
kept_moves : (X : List Word) (u v : Word) → Moves (kept X) u v → IsUnderSome u X × (u ≡ v)
unfolding keep
kept_moves X u v m =
    let g = contained_in_map keep X m.row m.listed in
    let from_is : u ≡ g.0 · m.rest = m.from ∙ ap (λ (t : Row). t.from · m.rest) (sym g.2) in
    (some_at X g.0 u g.1 (record { rest = m.rest; is = from_is }), from_is ∙ ap (λ (t : Row). t.to · m.rest) g.2 ∙ sym m.to)

-- and each of these
moves_kept : (X : List Word) (u : Word) → IsUnderSome u X → Moves (kept X) u u
unfolding keep
moves_kept X u s = record { row = keep s.above; rest = s.under.rest; listed = Contains-map keep X s.above s.listed; from = s.under.is; to = s.under.is }

-- a word under the `from` words is moved
moved_under : (p : List Row) (u : Word) → IsUnderSome u (from_words p) → (v : Word) × Moves p u v
moved_under p u s =
    let g = contained_in_map (λ (t : Row). t.from) p s.above s.listed in
    (g.0.to · s.under.rest, record { row = g.0; rest = s.under.rest; listed = g.1; from = s.under.is ∙ ap (λ t. t · s.under.rest) (sym g.2); to = refl })

-- a word that is moved is under the `from` words
under_moved : (p : List Row) (u v : Word) → Moves p u v → IsUnderSome u (from_words p)
under_moved p u v m = some_at (from_words p) m.row.from u (Contains-map (λ (t : Row). t.from) p m.row m.listed) (record { rest = m.rest; is = m.from })

-- a row moves its `from` word to its `to` word
row_moves : (p : List Row) (row : Row) → Contains p row → Moves p row.from row.to
row_moves p row c = record { row = row; rest = []; listed = c; from = sym (after-nil row.from); to = sym (after-nil row.to) }

-- moved by the rows: a word under X that p moves to a word under X
record IsMovedUnder (p : List Row) (X : List Word) (u w : Word) : Type 0 where
  from : IsUnderSome u X
  moves : Moves p u w
  to : IsUnderSome w X

moved_by_both : (shape : Shape) (p : List Row) (X : List Word) (common rows : List Row) → IsFullProduct shape (kept X) p common → IsFullProduct shape common (kept X) rows → (u w : Word) → Moves rows u w → IsMovedUnder p X u w
moved_by_both shape p X common rows first second u w m =
    let b = (second.moves u w).0 m in
    let a = (first.moves u b.0).0 b.1 in
    let keeps = kept_moves X u a.0 a.1 in
    let kept_to = kept_moves X b.0 w b.2 in
    let same : b.0 ≡ w = kept_to.1 in
    record { from = keeps.0; moves = subst (Moves p u) same (subst (λ t. Moves p t b.0) (sym keeps.1) a.2); to = subst (λ t. IsUnderSome t X) same kept_to.0 }

-- and such words are
both_move : (shape : Shape) (p : List Row) (X : List Word) (common rows : List Row) → IsFullProduct shape (kept X) p common → IsFullProduct shape common (kept X) rows → (u w : Word) → IsMovedUnder p X u w → Moves rows u w
both_move shape p X common rows first second u w h = (second.moves u w).1 (w, (first.moves u w).1 (u, moves_kept X u h.from, h.moves), moves_kept X w h.to)

-- the words of the basis kept, then a canonical pair, then the words kept again
pub y_is : (shape : Shape) (p : List Row) (X : List Word) (common rows : List Row) → IsCanonical shape p → IsHeldBasis shape X → IsFullProduct shape (kept X) p common → IsFullProduct shape common (kept X) rows → IsYOf shape p X rows
y_is shape p X common rows canonical held first second = record {
  basis = second.product.pair.from;
  ascending = second.ascending;
  carried = λ u h s. (under_carried u h, carried_under u s);
  to = All-from_contains (λ (row : Row). Carries shape p (pos 1) row.from row.to) rows (λ row c.
      carries_from_steps shape p pair (pos 1) row.from row.to (basis_word shape (from_words rows) second.product.pair.from row.from (Contains-map (λ (t : Row). t.from) rows row c)) (row.from, refl, (by row c).moves));
  from_under = All-from_contains (λ w. IsUnderSome w X) (from_words rows) (λ w c. let g = contained_in_map (λ (t : Row). t.from) rows w c in subst (λ t. IsUnderSome t X) g.2 (by g.0 g.1).from);
  to_under = All-from_contains (λ w. IsUnderSome w X) (to_words rows) (λ w c. let g = contained_in_map (λ (t : Row). t.to) rows w c in subst (λ t. IsUnderSome t X) g.2 (by g.0 g.1).to);
}
  where
    pair : IsPair shape p
    pair = canonical.pair

    by : (row : Row) → Contains rows row → IsMovedUnder p X row.from row.to
    by row c = moved_by_both shape p X common rows first second row.from row.to (row_moves rows row c)

    under_carried : (u : Word) → IsWordOf shape u → IsUnderSome u (from_words rows) → CarriesUnder shape p (pos 1) u X
    under_carried u h s =
        let m = moved_under rows u s in
        let k = moved_by_both shape p X common rows first second u m.0 m.1 in
        record { to = m.0; carries = carries_from_steps shape p pair (pos 1) u m.0 h (u, refl, k.moves); under = k.to }

    carried_under : (u : Word) → IsUnderSome u X → CarriesUnder shape p (pos 1) u X → IsUnderSome u (from_words rows)
    carried_under u s c = under_moved rows u c.to (both_move shape p X common rows first second u c.to (record { from = s; moves = carried_moves shape p canonical u c.to c.carries; to = c.under }))

-- the rows that keep the words of a held basis may stand in a product
pub kept_given : (shape given : Shape) (X : List Word) (rows : List Row) → given ≡ shape → rows ≡ kept X → IsHeldBasis shape X → IsPair given rows × IsAscending (from_words rows)
kept_given shape given X rows shapes are held = (
  subst₂ IsPair (sym shapes) (sym are) (kept_pair shape X held.basis),
  subst (λ (t : List Row). IsAscending (from_words t)) (sym are) (kept_ascending X held.ascending),
)

-- the two products give the rows of what is carried
pub y_given : (shape first_shape second_shape : Shape) (p rows : List Row) (X : List Word) (before behind common again y : List Row) → first_shape ≡ shape → second_shape ≡ shape → rows ≡ p → before ≡ kept X → behind ≡ kept X → again ≡ common
    → IsCanonical shape p → IsHeldBasis shape X → IsFullProduct first_shape before rows common → IsFullProduct second_shape again behind y → IsYOf shape p X y
y_given shape first_shape second_shape p rows X before behind common again y first_is second_is rows_are before_is behind_is again_is canonical held first second =
    y_is shape p X common y canonical held
    (subst (λ (s : Shape). IsFullProduct s (kept X) p common) first_is (subst₂ (λ (b q : List Row). IsFullProduct first_shape b q common) before_is rows_are first))
    (subst (λ (s : Shape). IsFullProduct s common (kept X) y) second_is (subst₂ (λ (c b : List Row). IsFullProduct second_shape c b y) again_is behind_is second))

-- ---- a basis has one list of rows

-- the `from` words of one list are under those of another one
all_under : (shape : Shape) (p : List Row) (X : List Word) (y z : List Row) → IsYOf shape p X y → IsYOf shape p X z → IsAllUnder (from_words y) (from_words z)
all_under shape p X y z h g = All-from_contains (λ w. IsUnderSome w (from_words z)) (from_words y) (λ w c.
    let word = basis_word shape (from_words y) h.basis w c in
    let under = All-contains (λ t. IsUnderSome t X) (from_words y) w h.from_under c in
    (g.carried w word under).1 ((h.carried w word under).0 (some_at (from_words y) w w c (under_refl w))))

-- rows by which a pair carries words are in each such list that has their `from` words
listed_too : (shape : Shape) (p : List Row) (y z : List Row) → IsPair shape p → All (λ (row : Row). Carries shape p (pos 1) row.from row.to) y → All (λ (row : Row). Carries shape p (pos 1) row.from row.to) z
    → ((w : Word) → Contains (from_words y) w → Contains (from_words z) w) → (row : Row) → Contains y row → Contains z row
listed_too shape p y z pair first second froms row c =
    let s = contained_in_map (λ (t : Row). t.from) z row.from (froms row.from (Contains-map (λ (t : Row). t.from) y row c)) in
    let to_is : (s.0).to ≡ row.to = carries_single shape p pair (pos 1) row.from (s.0).to row.to
    (subst (λ t. Carries shape p (pos 1) t (s.0).to) s.2 (All-contains (λ (t : Row). Carries shape p (pos 1) t.from t.to) z s.0 second s.1))
    (All-contains (λ (t : Row). Carries shape p (pos 1) t.from t.to) y row first c) in
    let from_is : (s.0).from ≡ row.from = s.2 in
    let is : s.0 ≡ row = λ i. record { from = from_is i; to = to_is i } in
    subst (Contains z) is s.1

-- and its rows are in the other
all_listed : (shape : Shape) (p : List Row) (X : List Word) (y z : List Row) → IsPair shape p → IsYOf shape p X y → IsYOf shape p X z → (row : Row) → Contains y row → Contains z row
all_listed shape p X y z pair h g = listed_too shape p y z pair h.to g.to (both_under shape (from_words y) (from_words z) h.basis (all_under shape p X y z h g) (all_under shape p X z y g h))

-- so there is one list
pub y_single : (shape : Shape) (p : List Row) (X : List Word) (y z : List Row) → IsPair shape p → IsYOf shape p X y → IsYOf shape p X z → y ≡ z
y_single shape p X y z pair h g =
    ascending_same (λ (s : Row) (t : Row). word_cmp s.from t.from ≡ Less) (λ s t. word_cmp_once s.from t.from) y z
    (AllPairs-from_map (λ (t : Row). t.from) (λ u v. word_cmp u v ≡ Less) y h.ascending)
    (AllPairs-from_map (λ (t : Row). t.from) (λ u v. word_cmp u v ≡ Less) z g.ascending)
    (all_listed shape p X y z pair h g) (all_listed shape p X z y pair g h)

-- ---- the rows of the inverse

-- a pair carries words to one word under another only from one under another
under_back : (shape : Shape) (p : List Row) → IsPair shape p → (u v u' v' : Word) → Carries shape p (pos 1) u u' → Carries shape p (pos 1) v v' → IsUnder u' v' → IsUnder u v
under_back shape p pair u v u' v' c d k =
    let hz = word_rest shape v' k.rest (subst (IsWordOf shape) k.is (carries_word shape p pair (pos 1) u u' c)) in
    let below : Carries shape p (pos 1) (v · k.rest) u' = subst (Carries shape p (pos 1) (v · k.rest)) (sym k.is) (carries_extends shape p (pos 1) v v' k.rest hz d) in
    record { rest = k.rest; is = carries_injective shape p pair (pos 1) u (v · k.rest) u' c below }

-- a word under the `from` words is carried under the `to` words
carried_to : (shape : Shape) (p : List Row) (X : List Word) (y : List Row) → IsPair shape p → IsYOf shape p X y → (u v : Word) → IsUnderSome u (from_words y) → Carries shape p (pos 1) u v → IsUnderSome v (to_words y)
carried_to shape p X y pair h u v s c =
    let g = contained_in_map (λ (t : Row). t.from) y s.above s.listed in
    let row = g.0 in
    let z = s.under.rest in
    let from_is : u ≡ row.from · z = s.under.is ∙ ap (λ t. t · z) (sym g.2) in
    let below = carries_extends shape p (pos 1) row.from row.to z (word_rest shape row.from z (subst (IsWordOf shape) from_is c.word)) (All-contains (λ (t : Row). Carries shape p (pos 1) t.from t.to) y row h.to g.1) in
    some_at (to_words y) row.to v (Contains-map (λ (t : Row). t.to) y row g.1) (record { rest = z; is = carries_single shape p pair (pos 1) u v (row.to · z) c (subst (λ t. Carries shape p (pos 1) t (row.to · z)) (sym from_is) below) })

-- the `to` words are a basis
pub to_basis : (shape : Shape) (p : List Row) (X : List Word) (y : List Row) → IsPair shape p → IsYOf shape p X y → IsBasis shape (to_words y)
to_basis shape p X y pair h =
    let map = steps_map shape p pair (pos 1) in
    let carried : (row : Row) → Contains y row → Carries shape p (pos 1) row.from row.to = λ row c. All-contains (λ (t : Row). Carries shape p (pos 1) t.from t.to) y row h.to c in
    basis_from shape (to_words y)
    (All-from_contains (IsWordOf shape) (to_words y) (λ w c.
    let g = contained_in_map (λ (t : Row). t.to) y w c in
    subst (IsWordOf shape) g.2 (carries_word shape p pair (pos 1) g.0.from g.0.to (carried g.0 g.1))))
    (AllPairs-map (λ (t : Row). t.to) AreApart y
    (AllPairs-weaker (λ a b. AreApart a.from b.from) (λ a b. AreApart a.to b.to) y (AllPairs-from_map (λ (t : Row). t.from) AreApart y h.basis.prefix_free)
    (λ a b c d apart. (λ k. apart.0 (under_back shape p pair a.from b.from a.to b.to (carried a c) (carried b d) k), λ k. apart.1 (under_back shape p pair b.from a.from b.to a.to (carried b d) (carried a c) k)))))
    (map.behind.bound + longest (from_words y))
    (λ v hv l.
    let u = map.behind.total v hv (omega arith) in
    let hu = map.behind.word v u.0 hv u.1 in
    let s = basis_holds shape (from_words y) h.basis u.0 hu (length-carried shape (back (Steps p (pos 1))) map.behind v u.0 (longest (from_words y)) hv l u.1) in
    carried_to shape p X y pair h u.0 v s (carries_from_steps shape p pair (pos 1) u.0 v hu u.1))

-- a word under X is under the `to` words just where the inverse carries it to a word under X
pub to_carried : (shape : Shape) (p : List Row) (X : List Word) (y : List Row) (u : Word) → IsPair shape p → IsYOf shape p X y → IsUnderSome u X → IsWordOf shape u → IsUnderSome u (to_words y) ↔ CarriesUnder shape p (negsuc 0) u X
to_carried shape p X y u pair h under word = (
  λ s.
      let g = contained_in_map (λ (t : Row). t.to) y s.above s.listed in
      let row = g.0 in
      let z = s.under.rest in
      let to_is : u ≡ row.to · z = s.under.is ∙ ap (λ t. t · z) (sym g.2) in
      let back = carries_back shape p pair (pos 1) row.from row.to (All-contains (λ (t : Row). Carries shape p (pos 1) t.from t.to) y row h.to g.1) in
      record {
        to = row.from · z;
        carries = subst (λ t. Carries shape p (negsuc 0) t (row.from · z)) (sym to_is) (carries_extends shape p (negsuc 0) row.to row.from z (word_rest shape row.to z (subst (IsWordOf shape) to_is word)) back);
        under = some_trans (under_after row.from z) (All-contains (λ w. IsUnderSome w X) (from_words y) row.from h.from_under (Contains-map (λ (t : Row). t.from) y row g.1));
      },
  λ c.
      let ahead = carries_back shape p pair (negsuc 0) u c.to c.carries in
      let s = (h.carried c.to ahead.word c.under).1 (record { to = u; carries = ahead; under = under }) in
      carried_to shape p X y pair h c.to u s ahead,
)

-- the rows of the inverse are the rows turned round
pub turned_y : (shape : Shape) (p q : List Row) (X : List Word) (y z : List Row) (row : Row) → IsPair shape p → IsPower shape p (neg_ℤ (pos 1)) q → IsYOf shape p X y → IsYOf shape q X z → Contains z row ↔ Contains (turned y) row
unfolding turn
turned_y shape p q X y z row pair power h g =
    let m = inverse_mirrors shape p q pair power in
    let W = to_words y in
    let basis = to_basis shape p X y pair h in
    let carried : All (λ (t : Row). Carries shape q (pos 1) t.from t.to) (turned y) = All-from_contains (λ (t : Row). Carries shape q (pos 1) t.from t.to) (turned y) (λ t c.
    let s = contained_in_map turn y t c in
    let back = m.from (pos 1) s.0.to s.0.from (carries_back shape p pair (pos 1) s.0.from s.0.to (All-contains (λ (t : Row). Carries shape p (pos 1) t.from t.to) y s.0 h.to s.1)) in
    subst (λ (t : Row). Carries shape q (pos 1) t.from t.to) s.2 back) in
    let up : IsAllUnder (from_words z) W = All-from_contains (λ w. IsUnderSome w W) (from_words z) (λ w c.
    let word = basis_word shape (from_words z) g.basis w c in
    let under = All-contains (λ t. IsUnderSome t X) (from_words z) w g.from_under c in
    (to_carried shape p X y w pair h under word).1 (under_to m (pos 1) w X ((g.carried w word under).0 (some_at (from_words z) w w c (under_refl w))))) in
    let down : IsAllUnder W (from_words z) = All-from_contains (λ w. IsUnderSome w (from_words z)) W (λ w c.
    let word = basis_word shape W basis w c in
    let under = All-contains (λ t. IsUnderSome t X) W w h.to_under c in
    (g.carried w word under).1 (under_from m (pos 1) w X ((to_carried shape p X y w pair h under word).0 (some_at W w w c (under_refl w))))) in
    let froms_are : from_words (turned y) ≡ W = from_words-turned y in (
      listed_too shape q z (turned y) power.pair g.to carried (λ w c. subst (λ (V : List Word). Contains V w) (sym froms_are) (both_under shape (from_words z) W g.basis up down w c)) row,
      listed_too shape q (turned y) z power.pair carried g.to (λ w c. both_under shape W (from_words z) basis down up w (subst (λ (V : List Word). Contains V w) froms_are c)) row,
    )
