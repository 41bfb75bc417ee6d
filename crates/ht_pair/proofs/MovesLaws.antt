-- The moves of rows; those of a pair are a bijection of the long enough words.
use Rattle.std.proofs.Common.{◌≡◌, ℕ, ◌≤◌, inl, inr, List, [], ◌∷◌, ◌++◌, length, refl, sym, ap, ◌∙◌, subst, Contains}
use Rattle.std.proofs.lemmas.List.Elements.{All-contains}
use Rattle.ht_word.specs.Words.{IsWordOf, ◌·◌, IsUnder}
use Rattle.ht_word.specs.declared.shape.Shape.{Shape}
use Rattle.ht_word.specs.declared.word.Word.{Word}
use Rattle.ht_word.proofs.ListLaws.{Contains-map, contained_in_map, same_by_map}
use Rattle.ht_word.proofs.WordLaws.{after-append, after_cancel, under_both, word_after, word_rest}
use Rattle.ht_pair.specs.Actions.{Moves}
use Rattle.ht_pair.specs.Bases.{AreApart, IsPrefixFree, longest, IsBasis}
use Rattle.ht_pair.specs.Pairs.{from_words, to_words, IsPair, turned}
use Rattle.ht_pair.specs.declared.row.Row.{Row}
use Rattle.ht_pair.proofs.BasisLaws.{basis_holds}
use Rattle.ht_pair.proofs.PrefixMapLaws.{IsCarrying, back, IsPrefixMap}

-- two rows of a list with prefix-free `from` words, one `from` word under the other, are one row
row_same : (p : List Row) → IsPrefixFree (from_words p) → (x y : Row) → Contains p x → Contains p y → IsUnder x.from y.from → x ≡ y
row_same p free x y c e h = same_by_map (λ (t : Row). t.from) AreApart p free x y c e (λ k. k.0 h) (λ k. k.1 h)

-- such rows move a word to one word only
pub moves_single : (p : List Row) → IsPrefixFree (from_words p) → (u v v' : Word) → Moves p u v → Moves p u v' → v ≡ v'
moves_single p free u v v' h g =
    let same : h.row ≡ g.row = elim (under_both {w = u} (record { rest = h.rest; is = h.from }) (record { rest = g.rest; is = g.from })) [
      | inl k ↦ row_same p free h.row g.row h.listed g.listed k
      | inr k ↦ sym (row_same p free g.row h.row g.listed h.listed k)
    ] in
    let rests : h.rest ≡ g.rest = after_cancel h.row.from h.rest g.rest (sym h.from ∙ g.from ∙ ap (λ (t : Row). t.from · g.rest) (sym same)) in
    h.to ∙ ap (λ (t : Row). t.to · h.rest) same ∙ ap (λ z. g.row.to · z) rests ∙ sym g.to

-- the letters behind a word that is moved stay
pub moves_extends : (p : List Row) (u v : Word) (z : List ℕ) → Moves p u v → Moves p (u · z) (v · z)
moves_extends p u v z h = record {
  row = h.row;
  rest = h.rest ++ z;
  listed = h.listed;
  from = ap (λ t. t · z) h.from ∙ after-append h.row.from h.rest z;
  to = ap (λ t. t · z) h.to ∙ after-append h.row.to h.rest z;
}

-- a pair moves each long enough word to one word
moves_carrying : (shape : Shape) (p : List Row) → IsPair shape p → IsCarrying shape (Moves p)
moves_carrying shape p pair = record {
  extends = moves_extends p;
  word = λ u v h m. subst (IsWordOf shape) (sym m.to) (word_after shape m.row.to m.rest
      (All-contains (IsWordOf shape) (to_words p) m.row.to pair.to.words (Contains-map (λ (t : Row). t.to) p m.row m.listed))
      (word_rest shape m.row.from m.rest (subst (IsWordOf shape) m.from h)));
  single = λ u v v' h. moves_single p pair.from.prefix_free u v v';
  bound = longest (from_words p);
  total = λ u h l.
      let s = basis_holds shape (from_words p) pair.from u h l in
      let g = contained_in_map (λ (t : Row). t.from) p s.above s.listed in
      (g.0.to · s.under.rest, record { row = g.0; rest = s.under.rest; listed = g.1; from = s.under.is ∙ ap (λ t. t · s.under.rest) (sym g.2); to = refl });
}

-- a row turned round
unfoldable pub turn : Row → Row
turn row = record { from = row.to; to = row.from }

-- rows turned round twice are the rows
pub turned-turned : (p : List Row) → turned (turned p) ≡ p
turned-turned [] = refl
turned-turned (row ∷ p) = ap (λ (t : List Row). row ∷ t) (turned-turned p)

-- the `from` words of turned rows are the `to` words
pub from_words-turned : (p : List Row) → from_words (turned p) ≡ to_words p
from_words-turned [] = refl
from_words-turned (row ∷ p) = ap (λ (t : List Word). row.to ∷ t) (from_words-turned p)

-- the `to` words of turned rows are the `from` words
pub to_words-turned : (p : List Row) → to_words (turned p) ≡ from_words p
to_words-turned [] = refl
to_words-turned (row ∷ p) = ap (λ (t : List Word). row.from ∷ t) (to_words-turned p)

-- a pair turned round is a pair
pub turned_pair : (shape : Shape) (p : List Row) → IsPair shape p → IsPair shape (turned p)
turned_pair shape p pair = record { from = subst (IsBasis shape) (sym (from_words-turned p)) pair.to; to = subst (IsBasis shape) (sym (to_words-turned p)) pair.from }

-- the turned rows move words back
pub moves_turned : (p : List Row) (u v : Word) → Moves p u v → Moves (turned p) v u
unfolding turn
moves_turned p u v h = record { row = turn h.row; rest = h.rest; listed = Contains-map turn p h.row h.listed; from = h.to; to = h.from }

-- what the turned rows move back the rows move
pub moves_back : (p : List Row) (u v : Word) → Moves (turned p) v u → Moves p u v
moves_back p u v h = subst (λ (q : List Row). Moves q u v) (turned-turned p) (moves_turned (turned p) v u h)

-- the moves of a pair are a bijection of the long enough words
pub moves_map : (shape : Shape) (p : List Row) → IsPair shape p → IsPrefixMap shape (Moves p)
moves_map shape p pair = record {
  ahead = moves_carrying shape p pair;
  behind = turned_carrying;
}
  where
    turned_carrying : IsCarrying shape (back (Moves p))
    turned_carrying = let m = moves_carrying shape (turned p) (turned_pair shape p pair) in record {
      extends = λ u v z h. moves_extends p v u z h;
      word = λ u v h t. m.word u v h (moves_turned p v u t);
      single = λ u v v' h t s. m.single u v v' h (moves_turned p v u t) (moves_turned p v' u s);
      bound = m.bound;
      total = λ u h l. let v = m.total u h l in (v.0, moves_back p v.0 u v.1);
    }

-- a pair moves each word that is as long as its `from` words
pub pair_moves : (shape : Shape) (p : List Row) → IsPair shape p → (u : Word) → IsWordOf shape u → longest (from_words p) ≤ length u.letters → (v : Word) × IsWordOf shape v × Moves p u v
pair_moves shape p pair u h l =
    let m = moves_carrying shape p pair in
    let s = basis_holds shape (from_words p) pair.from u h l in
    let g = contained_in_map (λ (t : Row). t.from) p s.above s.listed in
    let moved : Moves p u (g.0.to · s.under.rest) = record { row = g.0; rest = s.under.rest; listed = g.1; from = s.under.is ∙ ap (λ t. t · s.under.rest) (sym g.2); to = refl } in
    (g.0.to · s.under.rest, m.word u (g.0.to · s.under.rest) h moved, moved)
