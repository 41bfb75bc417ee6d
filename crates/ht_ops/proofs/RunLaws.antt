-- In ascending rows with prefix-free `from` words those under a word stand together.
use Rattle.std.proofs.Common.{◌≡◌, ℕ, ◌<◌, ◌≤◌, ◌-◌, ◌+◌, inl, inr, ◌⊎◌, true, false, true≢false, List, [], ◌++◌, length, get_or, take, drop, refl, sym, ap, ◌∙◌, subst, arith, take-append-drop, All, Contains, Some, slice_get}
use Rattle.std.specs.Ordering.{is_lt, is_le, ordering_reverse}
use Rattle.std.specs.List.Sorted.{IsPartitionPoint}
use Rattle.std.specs.declared.cmp.Ordering.TheVariants.{Less}
use Rattle.std.proofs.lemmas.List.{get_or-drop, get_or-take, length-take, length-drop, get_or_default}
use Rattle.std.proofs.lemmas.List.Elements.{All-contains}
use Rattle.std.proofs.lemmas.Option.{slice_get_read}
use Rattle.ht_word.specs.declared.word.Word.{Word}
use Rattle.ht_word.specs.Words.{◌·◌, word_cmp, IsUnder, IsAscending}
use Rattle.ht_word.proofs.WordLaws.{after-nil, under_trans, word_cmp_total, word_cmp_once}
use Rattle.ht_word.proofs.ListLaws.{trichotomy, AllPairs-from_map}
use Rattle.ht_pair.specs.declared.row.Row.{Row}
use Rattle.ht_pair.specs.Bases.{AreApart, IsPrefixFree}
use Rattle.ht_pair.specs.Pairs.{from_words}
use Rattle.ht_pair.proofs.ConeOrder.{IsBefore, before_less, before_extended, parted}
use Rattle.ht_pair.proofs.RowSearch.{prefix_until, is_before, less_is}
use Rattle.ht_ops.specs.Blocks.{IsRun}

-- a word under w isn't before it
under_not_before : (u w : Word) → IsUnder u w → ¬ (word_cmp u w ≡ Less)
under_not_before u w h less = true≢false (sym (prefix_until w u h) ∙ ap is_le (word_cmp_total.antisymm w u ∙ ap ordering_reverse less))

-- no word that isn't before w, nor under it, is before a word under w
pub none_inside : (u v w : Word) → AreApart u v → word_cmp u v ≡ Less → ¬ (word_cmp u w ≡ Less) → ¬ IsUnder u w → ¬ IsUnder v w
none_inside u v w apart less late out under = elim (parted u w) [
  | inl h ↦ elim h [ inl b ↦ late (before_less u w b) | inr k ↦ out k ]
  | inr h ↦ elim h [
    | inl b ↦ word_cmp_once u v less (subst (λ t. word_cmp t u ≡ Less) (sym under.is) (before_less (w · under.rest) u (subst (IsBefore (w · under.rest)) (after-nil u) (before_extended w u under.rest [] b))))
    | inr k ↦ apart.1 (under_trans under k)
  ]
]

-- where the first k rows are those before a word
abbrev pub PartsBefore : List Row → Word → ℕ → Type 0
PartsBefore rows w k = IsPartitionPoint (λ (row : Row). is_before w row ≡ true) (λ (row : Row). is_before w row ≡ false) rows k

-- a row behind the point isn't before the word
late_row : (rows : List Row) (w : Word) (k i : ℕ) (d : Row) → PartsBefore rows w k → k ≤ i → i < length rows → ¬ (word_cmp (get_or rows i d).from w ≡ Less)
late_row rows w k i d parts l m less = true≢false (sym (ap is_lt less) ∙ parts.1 i d l m)

-- a row whose `from` word is under w isn't before the point
not_early : (rows : List Row) (w : Word) (k : ℕ) (x : Row) → PartsBefore rows w k → (c : Contains rows x) → IsUnder x.from w → k ≤ c.0
not_early rows w k x parts c under = elim (early_or c.0 k) [
  | inr l ↦ l
  | inl l ↦ absurd (under_not_before x.from w under (subst (λ (t : Row). word_cmp t.from w ≡ Less) c.2 (less_is _ (parts.0 c.0 x (omega arith) l))))
]
  where
    early_or : (i k : ℕ) → (i < k) ⊎ (k ≤ i)
    early_or i k = grind arith

-- nor is it at or behind the first row from there on that isn't under w
not_late : (rows : List Row) (w : Word) (k e : ℕ) (x : Row) → IsPrefixFree (from_words rows) → IsAscending (from_words rows) → PartsBefore rows w k → k ≤ e
    → ((d : Row) → e < length rows → ¬ IsUnder (get_or rows e d).from w) → (c : Contains rows x) → IsUnder x.from w → c.0 < e
not_late rows w k e x free ascending parts l end c under = elim (trichotomy c.0 e) [
  | inl h ↦ elim h [
    | inl less ↦ less
    | inr more ↦ (
        let in_rows : c.0 < length rows = c.1 in
        let u = get_or rows e x in
        let apart = subst (λ (t : Row). AreApart u.from t.from) c.2 (AllPairs-from_map (λ (t : Row). t.from) AreApart rows free e c.0 x more in_rows) in
        let less = subst (λ (t : Row). word_cmp u.from t.from ≡ Less) c.2 (AllPairs-from_map (λ (t : Row). t.from) (λ u v. word_cmp u v ≡ Less) rows ascending e c.0 x more in_rows) in
        absurd (none_inside u.from x.from w apart less (late_row rows w k e x parts l (omega arith)) (end x (omega arith)) under))
  ]
  | inr same ↦ absurd (end x (subst (λ t. t < length rows) same c.1) (subst (λ (t : Row). IsUnder t.from w) (sym (ap (λ t. get_or rows t x) (sym same) ∙ c.2)) under))
]

-- a row at a place from k to before k + m is among the m rows behind the first k
listed_between : (rows : List Row) (k m : ℕ) (x : Row) (c : Contains rows x) → k ≤ c.0 → c.0 < k + m → Contains (take m (drop k rows)) x
listed_between rows k m x c low high =
    let in_rows : c.0 < length rows = c.1 in
    let there : k + (c.0 - k) ≡ c.0 = omega arith in (
      c.0 - k,
      omega (arith, length-take m (drop k rows), length-drop k rows),
      get_or-take m (drop k rows) (c.0 - k) x (omega arith) ∙ get_or-drop k rows (c.0 - k) x ∙ ap (λ t. get_or rows t x) there ∙ c.2,
    )

-- the rows from the first that isn't before w to the last under w
run_is : (rows : List Row) (w : Word) (k m : ℕ) → IsPrefixFree (from_words rows) → IsAscending (from_words rows) → k ≤ length rows → PartsBefore rows w k
    → m ≤ length (drop k rows) → All (λ (row : Row). IsUnder row.from w) (take m (drop k rows)) → ((row : Row) → slice_get (drop k rows) m ≡ Some row → ¬ IsUnder row.from w)
    → IsRun rows w (take m (drop k rows))
run_is rows w k m free ascending within parts bound under end = record {
  before = take k rows;
  behind = drop m (drop k rows);
  are = sym (take-append-drop k rows) ∙ ap (λ t. take k rows ++ t) (sym (take-append-drop m (drop k rows)));
  under = λ x c. All-contains (λ (row : Row). IsUnder row.from w) (take m (drop k rows)) x under c;
  all = λ x c h.
      listed_between rows k m x c (not_early rows w k x parts c h)
      (not_late rows w k (k + m) x free ascending parts (omega arith)
      (λ d l. end (get_or rows (k + m) d) (slice_get_read (drop k rows) (length (drop k rows)) m (get_or rows (k + m) d) refl (omega (arith, length-drop k rows)) (at_end d l))) c h);
}
  where
    at_end : (d : Row) → k + m < length rows → get_or rows (k + m) d ≡ get_or (drop k rows) m (get_or rows (k + m) d)
    at_end d l = get_or_default rows (k + m) d (get_or rows (k + m) d) l ∙ sym (get_or-drop k rows m (get_or rows (k + m) d))

-- the same, where the rows behind the first k are known as a list
pub run_at : (rows tail : List Row) (w : Word) (k m : ℕ) → tail ≡ drop k rows → IsPrefixFree (from_words rows) → IsAscending (from_words rows) → k ≤ length rows → PartsBefore rows w k
    → m ≤ length tail → All (λ (row : Row). IsUnder row.from w) (take m tail) → ((row : Row) → slice_get tail m ≡ Some row → ¬ IsUnder row.from w)
    → IsRun rows w (take m tail)
run_at rows tail w k m is free ascending within parts =
    subst (λ (t : List Row). m ≤ length t → All (λ (row : Row). IsUnder row.from w) (take m t) → ((row : Row) → slice_get t m ≡ Some row → ¬ IsUnder row.from w) → IsRun rows w (take m t))
    (sym is) (run_is rows w k m free ascending within parts)

-- a place is read as one row
pub read_same : (rows : List Row) (i : ℕ) (x y : Row) → i < length rows → x ≡ get_or rows i x → slice_get rows i ≡ Some y → y ≡ x
read_same rows i x y inside is e = let both : Some y ≡ Some x = sym e ∙ slice_get_read rows (length rows) i x refl inside is in cc
