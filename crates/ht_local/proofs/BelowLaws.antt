-- The rows whose `from` words are under a word stand together among ascending rows.
use Rattle.std.proofs.Common.{◌≡◌, ◌↔◌, ℕ, ◌<◌, ◌≤◌, ◌+◌, ◌-◌, ◌⊎◌, inl, inr, Bool, true, false, true≢false, Decides, List, length, get_or, take, drop, refl, sym, ap, ◌∙◌, subst, arith, Contains, IsTrue}
use Rattle.std.specs.Ordering.{is_lt, is_le}
use Rattle.std.specs.List.Sorted.{IsPartitionedBy, IsPartitionPoint}
use Rattle.std.specs.declared.cmp.Ordering.{Ordering}
use Rattle.std.specs.declared.cmp.Ordering.TheVariants.{Less, Equal, Greater}
use Rattle.std.proofs.lemmas.Bool.Decides.{same_from_decides}
use Rattle.std.proofs.lemmas.Cmp.{alike_right}
use Rattle.std.proofs.lemmas.List.{get_or-drop, get_or-take, length-drop, length-take}
use Rattle.ht_word.specs.declared.word.Word.{Word}
use Rattle.ht_word.specs.Words.{word_cmp, IsUnder, IsAscending}
use Rattle.ht_word.proofs.Deciding.{under_or_not}
use Rattle.ht_word.proofs.ListLaws.{AllPairs-from_map, trichotomy}
use Rattle.ht_word.proofs.WordLaws.{under_trans, word_cmp_once, word_cmp_total}
use Rattle.ht_pair.specs.Bases.{AreApart, IsPrefixFree}
use Rattle.ht_pair.specs.Pairs.{from_words}
use Rattle.ht_pair.specs.declared.row.Row.{Row}
use Rattle.ht_pair.proofs.ConeOrder.{before_apart, before_from, before_less, before_trans, parted}
use Rattle.ht_pair.proofs.RowSearch.{less_is, prefix_until}

-- whether a word is under another one
pub is_under : Word → Word → Bool
is_under u v = elim (under_or_not u v) as (λ _. Bool) [ inl h ↦ true | inr h ↦ false ]

pub decides_under : (u v : Word) → Decides (is_under u v) (IsUnder u v)
unfolding is_under
decides_under u v = by (under_or_not u v)
  where
    by : (d : IsUnder u v ⊎ ¬ IsUnder u v) → Decides (elim d as (λ _. Bool) [ inl h ↦ true | inr h ↦ false ]) (IsUnder u v)
    by (inl h) = ((λ _. h), (λ _. refl))
    by (inr h) = ((λ e. absurd (true≢false (sym e))), (λ k. absurd (h k)))

-- whether the `from` word is under the word
abbrev pub is_below : Word → Row → Bool
is_below w row = is_under row.from w

pub below_true : (w : Word) (row : Row) → is_below w row ≡ true → IsUnder row.from w
below_true w row = (decides_under row.from w).0

pub below_false : (w : Word) (row : Row) → is_below w row ≡ false → ¬ IsUnder row.from w
below_false w row e under = true≢false (sym ((decides_under row.from w).1 under) ∙ e)

-- the test tells it
pub below_told : (w : Word) (row : Row) (b : Bool) → IsTrue b ↔ IsUnder row.from w → b ≡ is_below w row
below_told w row b told = same_from_decides b (is_below w row) told (decides_under row.from w)

-- ---- what isn't before a word, and goes before what is under it, is under it

between_under : (a b w : Word) → AreApart a b → word_cmp a b ≡ Less → ¬ (word_cmp a w ≡ Less) → IsUnder b w → IsUnder a w
between_under a b w apart less late under = elim (parted a w) [
  | inl h ↦ elim h [ inl before ↦ absurd (late (before_less a w before)) | inr k ↦ k ]
  | inr h ↦ elim h [
    | inl before ↦ absurd ((before_apart w b (before_trans w a b before (before_from a b less apart))).1 under)
    | inr k ↦ absurd (apart.1 (under_trans under k))
  ]
]

not_less : (o : Ordering) → is_lt o ≡ false → ¬ (o ≡ Less)
not_less o e h = true≢false (sym (ap is_lt h) ∙ e)

le_less : (u w : Word) → is_le (word_cmp u w) ≡ true → word_cmp w u ≡ Less → ⊥
le_less u w le less = by (word_cmp u w) refl le
  where
    by : (o : Ordering) → word_cmp u w ≡ o → is_le o ≡ true → ⊥
    by Less e h = word_cmp_once w u less e
    by Equal e h = word_cmp_once w w (sym (alike_right word_cmp_total u w w e) ∙ less) (sym (alike_right word_cmp_total u w w e) ∙ less)
    by Greater e h = true≢false (sym h)

-- rows of which the first `first` are before the word
module _ (rows : List Row) (w : Word) (free : IsPrefixFree (from_words rows)) (ascending : IsAscending (from_words rows)) (first : ℕ) (within : first ≤ length rows)
    (point : IsPartitionPoint (λ (row : Row). is_lt (word_cmp row.from w) ≡ true) (λ (row : Row). is_lt (word_cmp row.from w) ≡ false) rows first) where
  parted_below : IsPartitionedBy (is_below w) (drop first rows)
  parted_below i j d l m below = elim (trichotomy i j) [
    | inl h ↦ elim h [
      | inl less ↦ earlier less
      | inr more ↦ absurd (omega arith)
    ]
    | inr e ↦ subst (λ k. is_below w (get_or (drop first rows) k d) ≡ true) (sym e) below
  ]
    where
      earlier : i < j → is_below w (get_or (drop first rows) i d) ≡ true
      earlier less =
          let ea = get_or-drop first rows i d in
          let eb = get_or-drop first rows j d in
          let far : first + j < length rows = omega (arith, m, length-drop first rows) in
          let order = AllPairs-from_map (λ (t : Row). t.from) (λ u v. word_cmp u v ≡ Less) rows ascending (first + i) (first + j) d (omega arith) far in
          let apart = AllPairs-from_map (λ (t : Row). t.from) AreApart rows free (first + i) (first + j) d (omega arith) far in
          let late = not_less (word_cmp (get_or rows (first + i) d).from w) (point.1 (first + i) d (omega arith) (omega arith)) in
          let under : IsUnder (get_or rows (first + j) d).from w = subst (λ (r : Row). IsUnder r.from w) eb (below_true w (get_or (drop first rows) j d) below) in
          (decides_under (get_or (drop first rows) i d).from w).1 (subst (λ (r : Row). IsUnder r.from w) (sym ea) (between_under (get_or rows (first + i) d).from (get_or rows (first + j) d).from w apart order late under))

  -- the rows under the word are the next ones
  rows_below : (count : ℕ) → count ≤ length (drop first rows) → IsPartitionPoint (λ (row : Row). is_below w row ≡ true) (λ (row : Row). is_below w row ≡ false) (drop first rows) count
      → (row : Row) → Contains (take count (drop first rows)) row ↔ (Contains rows row × IsUnder row.from w)
  rows_below count few next row = (there, back)
    where
      there : Contains (take count (drop first rows)) row → Contains rows row × IsUnder row.from w
      there c =
          let i = c.0 in
          let l : i < count = let h = c.1 in omega (arith, length-take count (drop first rows)) in
          let e : get_or (drop first rows) i row ≡ row = sym (get_or-take count (drop first rows) i row l) ∙ c.2 in
          ((first + i, omega (arith, length-drop first rows), sym (get_or-drop first rows i row) ∙ e), below_true w row (subst (λ r. is_below w r ≡ true) e (next.0 i row (omega arith) l)))

      back : Contains rows row × IsUnder row.from w → Contains (take count (drop first rows)) row
      back h = elim (less_or c.0 first) [
        | inl less ↦ absurd (le_less w row.from (prefix_until w row.from h.1) (less_is (word_cmp row.from w) (subst (λ (r : Row). is_lt (word_cmp r.from w) ≡ true) c.2 (point.0 c.0 row (omega arith) less))))
        | inr more ↦ behind more
      ]
        where
          c : Contains rows row
          c = h.0

          less_or : (a b : ℕ) → (a < b) ⊎ (b ≤ a)
          less_or a b = elim (trichotomy a b) [ inl l ↦ elim l [ inl less ↦ inl less | inr more ↦ inr (omega arith) ] | inr e ↦ inr (omega arith) ]

          back_to : (n : ℕ) → first ≤ n → first + (n - first) ≡ n
          back_to n l = omega arith

          behind : first ≤ c.0 → Contains (take count (drop first rows)) row
          behind more =
              let j = c.0 - first in
              let l = c.1 in
              let e : get_or (drop first rows) j row ≡ row = get_or-drop first rows j row ∙ ap (λ n. get_or rows n row) (back_to c.0 more) ∙ c.2 in
              elim (less_or j count) [
                | inl less ↦ (j, omega (arith, length-take count (drop first rows)), get_or-take count (drop first rows) j row less ∙ e)
                | inr late ↦ absurd (below_false w row (subst (λ r. is_below w r ≡ false) e (next.1 j row late (omega (arith, length-drop first rows)))) h.1)
              ]

  -- the same of a list that is what is left
  pub parted_from : (from : List Row) → from ≡ drop first rows → IsPartitionedBy (is_below w) from
  parted_from from is = subst (IsPartitionedBy (is_below w)) (sym is) parted_below

  pub rows_from : (from : List Row) → from ≡ drop first rows → (count : ℕ) → count ≤ length from → IsPartitionPoint (λ (row : Row). is_below w row ≡ true) (λ (row : Row). is_below w row ≡ false) from count
      → (row : Row) → Contains (take count from) row ↔ (Contains rows row × IsUnder row.from w)
  rows_from from is = subst (λ (from : List Row). (count : ℕ) → count ≤ length from → IsPartitionPoint (λ (row : Row). is_below w row ≡ true) (λ (row : Row). is_below w row ≡ false) from count
      → (row : Row) → Contains (take count from) row ↔ (Contains rows row × IsUnder row.from w)) (sym is) rows_below
