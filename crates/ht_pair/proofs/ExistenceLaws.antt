-- Each pair has a canonical pair: its rows are put in order, and then all merges are made.
use Rattle.std.proofs.Common.{◌≡◌, ℕ, zero, suc, ◌≤◌, ◌⊎◌, inl, inr, List, [], ◌∷◌, ◌++◌, length, refl, sym, ap, ◌∙◌, subst, arith, Contains, AllPairs, append-nil, le_refl}
use Rattle.std.proofs.lemmas.List.{length-append, length-map}
use Rattle.std.specs.Prelude.{◌-◌}
use Rattle.ht_word.specs.Words.{IsWordOf, child, IsUnder}
use Rattle.ht_word.specs.declared.shape.Shape.{Shape}
use Rattle.ht_word.specs.declared.word.Word.{Word}
use Rattle.ht_word.proofs.Deciding.{same_or_not, same_word_or_not, ends_with_or_not}
use Rattle.ht_word.proofs.ListLaws.{Contains-nil, Contains-here, Contains-there, Contains-cons_cases, Contains-map, contained_in_map, AllPairs-weaker, AllPairs-from_map, AllPairs-map, same_by_map}
use Rattle.ht_word.proofs.WordLaws.{word_eq, after_cancel_right, under_refl, All-from_contains}
use Rattle.ht_pair.specs.Actions.{Alike, child_row, IsCanonicalFor}
use Rattle.ht_pair.specs.Bases.{AreApart, IsPrefixFree, longest, IsBasis}
use Rattle.ht_pair.specs.Merges.{child_rows, ClosesCaret, MergesDown, IsAdded, IsReducedOf}
use Rattle.ht_pair.specs.Merges.Merges.{unmerged}
use Rattle.ht_pair.specs.Pairs.{from_words, to_words, IsPair}
use Rattle.ht_pair.specs.declared.row.Row.{Row}
use Rattle.ht_pair.proofs.AlikeLaws.{alike_trans}
use Rattle.ht_pair.proofs.BasisLaws.{front, basis_holds, basis_word, basis_from}
use Rattle.ht_pair.proofs.Canonical.{AreMergedUpTo, none_merged, one_more_merged, all_merged, merged_pair, longest_within}
use Rattle.ht_pair.proofs.Carets.{long_enough, caret_merged}
use Rattle.ht_pair.proofs.ConeOrder.{IsBefore, before_irreflexive}
use Rattle.ht_pair.proofs.CountLaws.{no_more}
use Rattle.ht_pair.proofs.MovesLaws.{moves_single}
use Rattle.ht_pair.proofs.OrderedBasisLaws.{IsOrdered, ordered, ordered_basis}
use Rattle.ht_pair.proofs.Sequences.{length-each}
use Rattle.ht_pair.proofs.Siblings.{AreOrdered}

-- ---- whether a row closes a caret

-- two rows are the same or not
same_row_or_not : (x y : Row) → (x ≡ y) ⊎ ¬ (x ≡ y)
same_row_or_not x y = elim (same_word_or_not x.from y.from) [
  | inr n ↦ inr (λ e. n (ap (λ (r : Row). r.from) e))
  | inl from ↦ elim (same_word_or_not x.to y.to) [
    | inr n ↦ inr (λ e. n (ap (λ (r : Row). r.to) e))
    | inl to ↦ inl (λ i. record { from = from i; to = to i })
  ]
]

-- whether the last rows and the row behind them are the child rows of one row
caret_or_not : (shape : Shape) (rows : List Row) (last : Row) → ClosesCaret shape rows last ⊎ ¬ ClosesCaret shape rows last
caret_or_not shape rows last = elim (ends_with_or_not same_or_not last.from.letters (shape.n ∷ [])) [
  | inr n ↦ inr (λ h. n h.from.letters (ap (λ (r : Row). r.from.letters) h.last_is))
  | inl s ↦ elim (ends_with_or_not same_or_not last.to.letters (shape.n ∷ [])) [
    | inr n ↦ inr (λ h. n h.to.letters (ap (λ (r : Row). r.to.letters) h.last_is))
    | inl t ↦ caret_of shape rows last (record { root = last.from.root; letters = s.0 }) (record { root = last.to.root; letters = t.0 }) (word_eq refl s.1) (word_eq refl t.1)
  ]
]
  where
    caret_of : (shape : Shape) (rows : List Row) (last : Row) (u v : Word) → last.from ≡ child u shape.n → last.to ≡ child v shape.n → ClosesCaret shape rows last ⊎ ¬ ClosesCaret shape rows last
    caret_of shape rows last u v from_is to_is = elim (ends_with_or_not same_row_or_not rows (child_rows u v (shape.n - 1))) [
      | inl b ↦ inl (record { from = u; to = v; before = b.0; rows_are = b.1; last_is = λ i. record { from = from_is i; to = to_is i } })
      | inr n ↦ inr (λ h.
          let u_is : h.from ≡ u = after_cancel_right h.from u (shape.n ∷ []) (sym (ap (λ (r : Row). r.from) h.last_is) ∙ from_is) in
          let v_is : h.to ≡ v = after_cancel_right h.to v (shape.n ∷ []) (sym (ap (λ (r : Row). r.to) h.last_is) ∙ to_is) in
          n h.before (h.rows_are ∙ (λ i. h.before ++ child_rows (u_is i) (v_is i) (shape.n - 1))))
    ]

-- ---- all merges

-- each row can be added to merged rows, with all merges that it closes
added_from : (shape : Shape) (fuel : ℕ) (rows : List Row) (row : Row) (front : List Row) (last : Row) → length front ≤ fuel → MergesDown shape rows row front last → (added : List Row) × IsAdded shape rows row added
added_from shape zero rows row front last l steps = elim (caret_or_not shape front last) [
  | inr unclosed ↦ (front ++ last ∷ [], record { front = front; last = last; added_is = refl; down = steps; open_end = unclosed })
  | inl h ↦ absurd (omega (arith, l, shape.letters_low, long_enough shape front last h))
]
added_from shape (suc fuel) rows row front last l steps = elim (caret_or_not shape front last) [
  | inr unclosed ↦ (front ++ last ∷ [], record { front = front; last = last; added_is = refl; down = steps; open_end = unclosed })
  | inl h ↦ added_from shape fuel rows row h.before (record { from = h.from; to = h.to }) (fewer_left h) (caret_merged shape rows front row last steps h)
]
  where
    fewer_left : (h : ClosesCaret shape front last) → length h.before ≤ fuel
    fewer_left h = omega (arith, l, shape.letters_low, ap (λ (t : List Row). length t) h.rows_are, length-append h.before (child_rows h.from h.to (shape.n - 1)), length-each (child_row h.from h.to) (shape.n - 1))

-- row by row all merges can be made
merged_along : (shape : Shape) (rows : List Row) → AreOrdered shape rows → (rest done : List Row) → AreMergedUpTo shape rows done rest → (q : List Row) × AreMergedUpTo shape rows q []
merged_along shape rows ordered [] done h = (done, h)
merged_along shape rows ordered (row ∷ rest) done h =
    let added = added_from shape (length done) done row done row (le_refl (length done)) (record { merges = unmerged; taken = []; rows_are = sym (append-nil done) }) in
    merged_along shape rows ordered rest added.0 (one_more_merged shape rows done rest added.0 row ordered h added.1)

-- ---- rows in order

-- rows of p, with these `from` words
record HasFrom (p : List Row) (V : List Word) (q : List Row) : Type 0 where
  from_is : from_words q ≡ V
  listed : (row : Row) → Contains q row → Contains p row

-- `from` words of p make rows of p
rows_from : (p : List Row) (V : List Word) → ((w : Word) → Contains V w → Contains (from_words p) w) → (q : List Row) × HasFrom p V q
rows_from p [] all = ([], record { from_is = refl; listed = λ row c. absurd (Contains-nil row c) })
rows_from p (w ∷ V) all =
    let first = contained_in_map (λ (t : Row). t.from) p w (all w (Contains-here w V)) in
    let rest = rows_from p V (λ x c. all x (Contains-there w V x c)) in (
      first.0 ∷ rest.0,
      record {
        from_is = λ i. first.2 i ∷ rest.1.from_is i;
        listed = λ row c. elim (Contains-cons_cases first.0 rest.0 row c) [ inl e ↦ subst (Contains p) e first.1 | inr k ↦ rest.1.listed row k ];
      },
    )

-- rows of a pair that go from the same word are one row
from_once : (shape : Shape) (p : List Row) → IsPair shape p → (x y : Row) → Contains p x → Contains p y → x.from ≡ y.from → x ≡ y
from_once shape p pair x y c d e = same_by_map (λ (t : Row). t.from) AreApart p pair.from.prefix_free x y c d (λ k. k.0 (subst (λ t. IsUnder x.from t) e (under_refl x.from))) (λ k. k.1 (subst (λ t. IsUnder x.from t) e (under_refl x.from)))

-- a pair with its rows in order
record IsOrderedPair (shape : Shape) (p : List Row) : Type 0 where
  pair : IsPair shape p
  before : AllPairs IsBefore (from_words p)

-- the rows in order are a pair
ordered_is_pair : (shape : Shape) (p : List Row) (V : List Word) (q : List Row) → IsPair shape p → IsOrdered (from_words p) V → HasFrom p V q → IsOrderedPair shape q
ordered_is_pair shape p V q pair o h = record {
  pair = record {
    from = subst (IsBasis shape) (sym h.from_is) (ordered_basis shape (from_words p) V o pair.from);
    to = basis_from shape (to_words q)
        (All-from_contains (IsWordOf shape) (to_words q) (λ w c. let g = contained_in_map (λ (t : Row). t.to) q w c in subst (IsWordOf shape) g.2 (to_word g.0 (h.listed g.0 g.1))))
        (AllPairs-map (λ (t : Row). t.to) AreApart q (AllPairs-weaker (λ x y. IsBefore x.from y.from) (λ x y. AreApart x.to y.to) q (AllPairs-from_map (λ (t : Row). t.from) IsBefore q order) apart))
        (longest (to_words p))
        (λ u word l.
        let s = basis_holds shape (to_words p) pair.to u word l in
        let g = contained_in_map (λ (t : Row). t.to) p s.above s.listed in
        record { above = s.above; listed = subst (Contains (to_words q)) g.2 (Contains-map (λ (t : Row). t.to) q g.0 (all_rows g.0 g.1)); under = s.under });
  };
  before = order;
}
  where
    order : AllPairs IsBefore (from_words q)
    order = subst (AllPairs IsBefore) (sym h.from_is) o.order

    to_word : (row : Row) → Contains p row → IsWordOf shape row.to
    to_word row c = basis_word shape (to_words p) pair.to row.to (Contains-map (λ (t : Row). t.to) p row c)

    apart_to : (x y : Row) → Contains p x → Contains p y → IsBefore x.from y.from → IsUnder x.to y.to → ⊥
    apart_to x y c d before under = before_irreflexive x.from (subst (λ (t : Row). IsBefore x.from t.from) (sym (same_by_map (λ (t : Row). t.to) AreApart p pair.to.prefix_free x y c d (λ k. k.0 under) (λ k. k.1 under))) before)

    apart_back : (x y : Row) → Contains p x → Contains p y → IsBefore x.from y.from → IsUnder y.to x.to → ⊥
    apart_back x y c d before under = before_irreflexive x.from (subst (λ (t : Row). IsBefore x.from t.from) (sym (same_by_map (λ (t : Row). t.to) AreApart p pair.to.prefix_free x y c d (λ k. k.1 under) (λ k. k.0 under))) before)

    apart : (x y : Row) → Contains q x → Contains q y → IsBefore x.from y.from → AreApart x.to y.to
    apart x y c d before = (apart_to x y (h.listed x c) (h.listed y d) before, apart_back x y (h.listed x c) (h.listed y d) before)

    all_rows : (row : Row) → Contains p row → Contains q row
    all_rows row c =
        let w = o.kept row.from (Contains-map (λ (t : Row). t.from) p row c) in
        let g = contained_in_map (λ (t : Row). t.from) q row.from (subst (λ (W : List Word). Contains W row.from) (sym h.from_is) w) in
        subst (Contains q) (from_once shape p pair g.0 row (h.listed g.0 g.1) c g.2) g.1

-- rows of p with different `from` words are no more than those of p
no_more_rows : (p q : List Row) → IsPrefixFree (from_words q) → ((row : Row) → Contains q row → Contains p row) → length q ≤ length p
no_more_rows p q free listed = omega (
  arith,
  length-map p (λ (row : Row). row.from),
  length-map q (λ (row : Row). row.from),
  no_more (from_words q) (from_words p) free (λ w c.
      let g = contained_in_map (λ (row : Row). row.from) q w c in
      subst (Contains (from_words p)) g.2 (Contains-map (λ (row : Row). row.from) p g.0 (listed g.0 g.1))),
)

-- each pair has a canonical pair, with no more rows and no longer words
pub reduced_exists : (shape : Shape) (p : List Row) → IsPair shape p → (q : List Row) × IsReducedOf shape p q
reduced_exists shape p pair =
    let V = ordered (from_words p) pair.from.prefix_free in
    let rows = rows_from p V.0 V.1.from in
    let in_order = ordered_is_pair shape p V.0 rows.0 pair V.1 rows.1 in
    let rows_in_order : AreOrdered shape rows.0 = record {
      words = λ row c. basis_word shape (from_words rows.0) in_order.pair.from row.from (Contains-map (λ (t : Row). t.from) rows.0 row c);
      before = AllPairs-from_map (λ (t : Row). t.from) IsBefore rows.0 in_order.before;
    } in
    let q = merged_along shape rows.0 rows_in_order rows.0 [] (none_merged shape rows.0) in
    let merged = merged_pair shape rows.0 q.0 in_order.pair (all_merged shape rows.0 q.0 rows_in_order q.1) in
    let canonical = merged.canonical in
    let same : Alike shape rows.0 p = λ w v v' word f g. moves_single p pair.from.prefix_free w v v' (record { row = f.row; rest = f.rest; listed = rows.1.listed f.row f.listed; from = f.from; to = f.to }) g in (
      q.0,
      record {
        canonical = record { form = canonical.form; alike = alike_trans shape q.0 rows.0 p canonical.form.pair in_order.pair pair canonical.alike same };
        fewer = omega (arith, merged.fewer, no_more_rows p rows.0 in_order.pair.from.prefix_free rows.1.listed);
        shorter = omega (arith, merged.shorter, longest_within (λ row. row.from) p rows.0 rows.1.listed, longest_within (λ row. row.to) p rows.0 rows.1.listed);
      },
    )

pub canonical_exists : (shape : Shape) (p : List Row) → IsPair shape p → (q : List Row) × IsCanonicalFor shape q p
canonical_exists shape p pair = let q = reduced_exists shape p pair in (q.0, q.1.canonical)
