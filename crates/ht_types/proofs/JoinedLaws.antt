-- Joined words of a semi-normal basis X of p are told by the rows y of what one step carries under X.
use Rattle.std.proofs.Common.{List, sym, ap, ◌∙◌, subst, pos, Contains, ◌↔◌}
use Rattle.std.proofs.lemmas.List.Elements.{All-contains}
use Rattle.ht_word.specs.Words.{◌·◌, IsWordOf, IsUnder, IsUnderSome}
use Rattle.ht_word.specs.declared.shape.Shape.{Shape}
use Rattle.ht_word.specs.declared.word.Word.{Word}
use Rattle.ht_word.proofs.ListLaws.{Contains-map, contained_in_map}
use Rattle.ht_word.proofs.WordLaws.{under_trans, word_rest}
use Rattle.ht_pair.specs.Actions.{Moves}
use Rattle.ht_pair.specs.Atoms.{AreJoined}
use Rattle.ht_pair.specs.Bases.{IsBasis}
use Rattle.ht_pair.specs.Pairs.{IsPair, from_words, to_words}
use Rattle.ht_pair.specs.Steps.{Carries}
use Rattle.ht_pair.specs.declared.row.Row.{Row}
use Rattle.ht_pair.proofs.BasisLaws.{basis_single, some_at}
use Rattle.ht_pair.proofs.CarriesLaws.{carries_single, carries_extends}
use Rattle.ht_quasi.specs.Quasis.{IsYOf}

-- one of the rows leads from a word under x to one under w
pub record JoinsByRow (y : List Row) (x w : Word) : Type 0 where
  pub row : Row
  pub listed : Contains y row
  pub from : IsUnder row.from x
  pub to : IsUnder row.to w

-- p carries the `from` word of a row to its `to` word
pub row_carries : (shape : Shape) (p : List Row) (X : List Word) (y : List Row) → IsYOf shape p X y → (row : Row) → Contains y row → Carries shape p (pos 1) row.from row.to
row_carries shape p X y h row c = All-contains (λ (t : Row). Carries shape p (pos 1) t.from t.to) y row h.to c

-- the words of a row are under X
pub row_from_under : (shape : Shape) (p : List Row) (X : List Word) (y : List Row) → IsYOf shape p X y → (row : Row) → Contains y row → IsUnderSome row.from X
row_from_under shape p X y h row c = All-contains (λ w. IsUnderSome w X) (from_words y) row.from h.from_under (Contains-map (λ (t : Row). t.from) y row c)

pub row_to_under : (shape : Shape) (p : List Row) (X : List Word) (y : List Row) → IsYOf shape p X y → (row : Row) → Contains y row → IsUnderSome row.to X
row_to_under shape p X y h row c = All-contains (λ w. IsUnderSome w X) (to_words y) row.to h.to_under (Contains-map (λ (t : Row). t.to) y row c)

-- where one step carries a word under X to a word under X, a row does
pub row_moves : (shape : Shape) (p : List Row) → IsPair shape p → (X : List Word) (y : List Row) → IsYOf shape p X y → (u v : Word) → Carries shape p (pos 1) u v → IsUnderSome u X → IsUnderSome v X → Moves y u v
row_moves shape p pair X y h u v c under_u under_v =
    let s = (h.carried u c.word under_u).1 (record { to = v; carries = c; under = under_v }) in
    let g = contained_in_map (λ (t : Row). t.from) y s.above s.listed in
    let row = g.0 in
    let z = s.under.rest in
    let from_is = s.under.is ∙ ap (λ t. t · z) (sym g.2) in
    let hz = word_rest shape row.from z (subst (IsWordOf shape) from_is c.word) in
    record {
      row = row;
      rest = z;
      listed = g.1;
      from = from_is;
      to = carries_single shape p pair (pos 1) u v (row.to · z) c (subst (λ t. Carries shape p (pos 1) t (row.to · z)) (sym from_is) (carries_extends shape p (pos 1) row.from row.to z hz (row_carries shape p X y h row g.1)));
    }

-- a word that is under some word of X, and that has a word under it that is under x, is under x
above_is : (shape : Shape) (X : List Word) → IsBasis shape X → (u v x : Word) (z : IsUnder v u) → Contains X x → IsUnder v x → IsUnderSome u X → IsUnder u x
above_is shape X basis u v x k c under s = subst (λ t. IsUnder u t) (basis_single shape X basis v s.above x s.listed c (under_trans k s.under) under) s.under

-- two words of X are joined just where a row leads from a word under the one to a word under the other
pub joined_by_row : (shape : Shape) (p : List Row) → IsPair shape p → (X : List Word) → IsBasis shape X → (y : List Row) → IsYOf shape p X y → (x w : Word) → Contains X x → Contains X w → AreJoined shape p x w ↔ JoinsByRow y x w
joined_by_row shape p pair X basis y h x w listed_x listed_w = (
  (λ j.
      let m = row_moves shape p pair X y h j.from j.to j.carries (some_at X x j.from listed_x j.under_first) (some_at X w j.to listed_w j.under_second) in
      record {
        row = m.row;
        listed = m.listed;
        from = above_is shape X basis m.row.from j.from x (record { rest = m.rest; is = m.from }) listed_x j.under_first (row_from_under shape p X y h m.row m.listed);
        to = above_is shape X basis m.row.to j.to w (record { rest = m.rest; is = m.to }) listed_w j.under_second (row_to_under shape p X y h m.row m.listed);
      }),
  (λ r. record { from = r.row.from; to = r.row.to; under_first = r.from; carries = row_carries shape p X y h r.row r.listed; under_second = r.to }),
)
