-- Relations that replace prefixes of words, as the moves of a pair and all that is composed of them; and the pair of rows
-- that such a relation has.
use Rattle.std.proofs.Common.{◌≡◌, ℕ, ◌≤◌, inl, inr, List, [], ◌∷◌, length, refl, sym, ap, ◌∙◌, subst, arith, All, Contains, ◌+◌, drop, subst₂}
use Rattle.std.proofs.lemmas.List.{length-drop}
use Rattle.ht_word.specs.Words.{IsWordOf, IsUnderSome, ◌·◌}
use Rattle.ht_word.specs.declared.shape.Shape.{Shape}
use Rattle.ht_word.specs.declared.word.Word.{Word}
use Rattle.ht_word.proofs.ListLaws.{Contains-nil, Contains-here, Contains-there, Contains-cons_cases, Contains-map, contained_in_map, AllPairs-weaker, AllPairs-from_map, AllPairs-map}
use Rattle.ht_word.proofs.WordLaws.{length-after, All-from_contains, word_after, word_front, ones, length-ones, ones_letters}
use Rattle.ht_pair.specs.Actions.{Moves}
use Rattle.ht_pair.specs.Bases.{AreApart, IsPrefixFree, longest, IsBasis}
use Rattle.ht_pair.specs.Pairs.{from_words, to_words, IsPair}
use Rattle.ht_pair.specs.declared.row.Row.{Row}
use Rattle.ht_pair.proofs.BasisLaws.{longest_least, some_at, front, front_is, length-front, basis_holds, basis_word, basis_from, words_of, words_of_basis, words_of_length}

-- F sends each long enough word to one word, and what follows a prefix stays
pub record IsCarrying (shape : Shape) (F : Word → Word → Type 0) : Type 0 where
  pub extends : (u v : Word) (z : List ℕ) → F u v → F (u · z) (v · z)
  pub word : (u v : Word) → IsWordOf shape u → F u v → IsWordOf shape v
  pub single : (u v v' : Word) → IsWordOf shape u → F u v → F u v' → v ≡ v'
  pub bound : ℕ
  pub total : (u : Word) → IsWordOf shape u → bound ≤ length u.letters → (v : Word) × F u v

-- F the other way round
abbrev pub back : (Word → Word → Type 0) → Word → Word → Type 0
back F u v = F v u

-- F is a bijection of the long enough words
pub record IsPrefixMap (shape : Shape) (F : Word → Word → Type 0) : Type 0 where
  pub ahead : IsCarrying shape F
  pub behind : IsCarrying shape (back F)

-- F and then G
pub record Then (F G : Word → Word → Type 0) (u w : Word) : Type 0 where
  pub middle : Word
  pub first : F u middle
  pub second : G middle w

-- a word of the shape, made long by the letter 1
pub long_word : (shape : Shape) (u : Word) (k : ℕ) → IsWordOf shape u → IsWordOf shape (u · ones k)
long_word shape u k h = word_after shape u (ones k) h (ones_letters shape k)

-- the letters of a word made long
pub length-long : (u : Word) (k : ℕ) → length ((u · ones k).letters) ≡ length u.letters + k
length-long u k = omega (arith, length-after u (ones k), length-ones k)

-- F sends each word of the shape to some word, once it is made long by k letters
pub moved_long : (shape : Shape) (F : Word → Word → Type 0) (m : IsCarrying shape F) (u : Word) (k : ℕ) → IsWordOf shape u → m.bound ≤ k → (v : Word) × F (u · ones k) v
moved_long shape F m u k h l = m.total (u · ones k) (long_word shape u k h) (omega (arith, length-long u k))

-- the word that a long word goes to is long
pub length-carried : (shape : Shape) (F : Word → Word → Type 0) (m : IsCarrying shape F) (u v : Word) (k : ℕ) → IsWordOf shape u → m.bound + k ≤ length u.letters → F u v → k ≤ length v.letters
length-carried shape F m u v k h l f =
    let s = front u m.bound in
    let z = drop m.bound u.letters in
    let e : u ≡ s · z = front_is u m.bound in
    let g = m.total s (word_front shape s z (subst (IsWordOf shape) e h)) (omega (arith, length-front u m.bound)) in
    let same : v ≡ g.0 · z = m.single u v (g.0 · z) h f (subst (λ t. F t (g.0 · z)) (sym e) (m.extends s g.0 z g.1)) in
    omega (arith, ap (λ (t : Word). length t.letters) same, length-after g.0 z, length-drop m.bound u.letters)

-- F and then G sends each long enough word to one word
then_carrying : (shape : Shape) (F G : Word → Word → Type 0) → IsCarrying shape F → IsCarrying shape G → IsCarrying shape (Then F G)
then_carrying shape F G f g = record {
  extends = λ u w z h. record { middle = h.middle · z; first = f.extends u h.middle z h.first; second = g.extends h.middle w z h.second };
  word = λ u w h t. g.word t.middle w (f.word u t.middle h t.first) t.second;
  single = λ u w w' h t s.
      let same : s.middle ≡ t.middle = f.single u s.middle t.middle h s.first t.first in
      g.single t.middle w w' (f.word u t.middle h t.first) t.second (subst (λ m. G m w') same s.second);
  bound = f.bound + g.bound;
  total = λ u h l.
      let v = f.total u h (omega arith) in
      let w = g.total v.0 (f.word u v.0 h v.1) (length-carried shape F f u v.0 g.bound h l v.1) in
      (w.0, record { middle = v.0; first = v.1; second = w.1 });
}

-- a relation with the same words
carrying_same : (shape : Shape) (F G : Word → Word → Type 0) → ((u v : Word) → F u v → G u v) → ((u v : Word) → G u v → F u v) → IsCarrying shape F → IsCarrying shape G
carrying_same shape F G to from m = record {
  extends = λ u v z h. to (u · z) (v · z) (m.extends u v z (from u v h));
  word = λ u v h t. m.word u v h (from u v t);
  single = λ u v v' h t s. m.single u v v' h (from u v t) (from u v' s);
  bound = m.bound;
  total = λ u h l. let v = m.total u h l in (v.0, to u v.0 v.1);
}

-- F and then G is a bijection of the long enough words
pub then_map : (shape : Shape) (F G : Word → Word → Type 0) → IsPrefixMap shape F → IsPrefixMap shape G → IsPrefixMap shape (Then F G)
then_map shape F G f g = record {
  ahead = then_carrying shape F G f.ahead g.ahead;
  behind = carrying_same shape (Then (back G) (back F)) (back (Then F G))
      (λ u v t. record { middle = t.middle; first = t.second; second = t.first })
      (λ u v t. record { middle = t.middle; first = t.second; second = t.first })
      (then_carrying shape (back G) (back F) g.behind f.behind);
}

-- so is a relation with the same words
pub same_carrying : (shape : Shape) (F G : Word → Word → Type 0) → ((u v : Word) → F u v → G u v) → ((u v : Word) → G u v → F u v) → IsPrefixMap shape F → IsPrefixMap shape G
same_carrying shape F G to from m = record { ahead = carrying_same shape F G to from m.ahead; behind = carrying_same shape (back F) (back G) (λ u v. to v u) (λ u v. from v u) m.behind }

-- ---- the rows of a relation

-- rows from the words of a list, by F
pub record RowsOf (F : Word → Word → Type 0) (W : List Word) : Type 0 where
  pub rows : List Row
  pub from_is : from_words rows ≡ W
  pub by : (row : Row) → Contains rows row → F row.from row.to

-- F gives rows from each list whose words it sends somewhere
pub rows_of : (F : Word → Word → Type 0) (W : List Word) → ((w : Word) → Contains W w → (v : Word) × F w v) → RowsOf F W
rows_of F [] f = record { rows = []; from_is = refl; by = λ row c. absurd (Contains-nil row c) }
rows_of F (w ∷ W) f =
    let rest = rows_of F W (λ x c. f x (Contains-there w W x c)) in
    let v = f w (Contains-here w W) in
    let row : Row = record { from = w; to = v.0 } in
    record {
      rows = row ∷ rest.rows;
      from_is = ap (λ (X : List Word). w ∷ X) rest.from_is;
      by = λ x c. elim (Contains-cons_cases row rest.rows x c) [
        | inl e ↦ subst (λ (t : Row). F t.from t.to) e v.1
        | inr k ↦ rest.by x k
      ];
    }

-- a pair that moves words as F does
pub record IsRealised (shape : Shape) (F : Word → Word → Type 0) : Type 0 where
  pub rows : List Row
  pub pair : IsPair shape rows
  pub by : (u v : Word) → Moves rows u v → F u v

-- F sends words that are apart to words that are apart
apart_carried : (shape : Shape) (F : Word → Word → Type 0) → IsPrefixMap shape F → (u v u' v' : Word) → IsWordOf shape u → IsWordOf shape v → F u u' → F v v' → AreApart u v → AreApart u' v'
apart_carried shape F m u v u' v' hu hv f g apart = (
  λ k. apart.0 (record { rest = k.rest; is = m.behind.single u' u (v · k.rest) (m.ahead.word u u' hu f) f (subst (λ t. F (v · k.rest) t) (sym k.is) (m.ahead.extends v v' k.rest g)) }),
  λ k. apart.1 (record { rest = k.rest; is = m.behind.single v' v (u · k.rest) (m.ahead.word v v' hv g) g (subst (λ t. F (u · k.rest) t) (sym k.is) (m.ahead.extends u u' k.rest f)) }),
)

-- the `from` word of such a row is in the list
pub from_listed : (F : Word → Word → Type 0) (U : List Word) (r : RowsOf F U) (row : Row) → Contains r.rows row → Contains U row.from
from_listed F U r row c = subst (λ (W : List Word). Contains W row.from) r.from_is (Contains-map (λ (t : Row). t.from) r.rows row c)

-- the rows from words that are apart go to words that are apart
pub rows_free : (shape : Shape) (F : Word → Word → Type 0) → IsPrefixMap shape F → (U : List Word) → ((u : Word) → Contains U u → IsWordOf shape u) → IsPrefixFree U → (r : RowsOf F U) → IsPrefixFree (to_words r.rows)
rows_free shape F m U words free r =
    let from_free : IsPrefixFree (from_words r.rows) = subst IsPrefixFree (sym r.from_is) free in
    AllPairs-map (λ (t : Row). t.to) AreApart r.rows
    (AllPairs-weaker (λ x y. AreApart x.from y.from) (λ x y. AreApart x.to y.to) r.rows (AllPairs-from_map (λ (t : Row). t.from) AreApart r.rows from_free)
    (λ x y c e a. apart_carried shape F m x.from y.from x.to y.to (words x.from (from_listed F U r x c)) (words y.from (from_listed F U r y e)) (r.by x c) (r.by y e) a))

-- the rows move words as F does
pub rows_move : (shape : Shape) (F : Word → Word → Type 0) → IsCarrying shape F → (U : List Word) (r : RowsOf F U) (u v : Word) → Moves r.rows u v → F u v
rows_move shape F m U r u v h = subst₂ F (sym h.from) (sym h.to) (m.extends h.row.from h.row.to h.rest (r.by h.row h.listed))

-- the rows go to words of the shape
pub rows_words : (shape : Shape) (F : Word → Word → Type 0) → IsCarrying shape F → (U : List Word) → ((u : Word) → Contains U u → IsWordOf shape u) → (r : RowsOf F U) → All (IsWordOf shape) (to_words r.rows)
rows_words shape F m U words r = All-from_contains (IsWordOf shape) (to_words r.rows) (λ w c.
    let g = contained_in_map (λ (t : Row). t.to) r.rows w c in
    subst (IsWordOf shape) g.2 (m.word g.0.from g.0.to (words g.0.from (from_listed F U r g.0 g.1)) (r.by g.0 g.1)))

-- what F sends a word under the list to is under the words that the rows go to
pub rows_under : (shape : Shape) (F : Word → Word → Type 0) → IsCarrying shape F → (U : List Word) (r : RowsOf F U) (u v : Word) → IsWordOf shape u → IsUnderSome u U → F u v → IsUnderSome v (to_words r.rows)
rows_under shape F m U r u v hu s sent =
    let g = contained_in_map (λ (t : Row). t.from) r.rows s.above (subst (λ (W : List Word). Contains W s.above) (sym r.from_is) s.listed) in
    let moved : F u (g.0.to · s.under.rest) = subst (λ t. F t (g.0.to · s.under.rest)) (ap (λ t. t · s.under.rest) g.2 ∙ sym s.under.is) (m.extends g.0.from g.0.to s.under.rest (r.by g.0 g.1)) in
    some_at (to_words r.rows) g.0.to v (Contains-map (λ (t : Row). t.to) r.rows g.0 g.1) (record { rest = s.under.rest; is = m.single u v (g.0.to · s.under.rest) hu sent moved })

-- the rows from a basis of words of at most k letters go to a basis
pub rows_basis : (shape : Shape) (F : Word → Word → Type 0) → IsPrefixMap shape F → (k : ℕ) (U : List Word) → IsBasis shape U → longest U ≤ k → (r : RowsOf F U) → IsBasis shape (to_words r.rows)
rows_basis shape F m k U basis short r = basis_from shape (to_words r.rows) (rows_words shape F m.ahead U (basis_word shape U basis) r) (rows_free shape F m U (basis_word shape U basis) basis.prefix_free r) (m.behind.bound + k) (λ v h l.
    let u = m.behind.total v h (omega arith) in
    let hu = m.behind.word v u.0 h u.1 in
    rows_under shape F m.ahead U r u.0 v hu (basis_holds shape U basis u.0 hu (omega (arith, short, length-carried shape (back F) m.behind v u.0 k h l u.1))) u.1)

-- each bijection of the long enough words that keeps what follows a prefix is the moves of a pair
pub realised : (shape : Shape) (F : Word → Word → Type 0) → IsPrefixMap shape F → IsRealised shape F
realised shape F m =
    let k = m.ahead.bound in
    let U = words_of shape k in
    let basis = words_of_basis shape k in
    let r = rows_of F U (λ w c. m.ahead.total w (basis_word shape U basis w c) (omega (arith, words_of_length shape k w c))) in
    record {
      rows = r.rows;
      pair = record { from = subst (IsBasis shape) (sym r.from_is) basis; to = rows_basis shape F m k U basis (longest_least U k (λ w c. omega (arith, words_of_length shape k w c))) r };
      by = rows_move shape F m.ahead U r;
    }
