-- Items in order of a word each, and the one whose word is a prefix of a word.
use Rattle.std.proofs.Common.{◌≡◌, ℕ, suc, ◌<◌, ◌≤◌, ◌-◌, inl, inr, Bool, true, false, true≢false, List, [], ◌∷◌, ◌++◌, length, get_or, map, drop, Contains, Option, None, Some, slice_get, MatchOption, refl, sym, ap, ◌∙◌, subst, arith, take-append-drop}
use Rattle.std.specs.Ordering.{is_lt, is_le, nat_cmp, ordering_then, ordering_reverse}
use Rattle.std.specs.Cmp.{nat_cmp_is}
use Rattle.std.specs.Cmp.Lexicographic.{slice_cmp}
use Rattle.std.specs.List.Sorted.{IsPartitionedBy, IsPartitionPoint}
use Rattle.std.specs.declared.cmp.Ordering.{Ordering}
use Rattle.std.specs.declared.cmp.Ordering.TheVariants.{Less, Equal, Greater}
use Rattle.std.proofs.lemmas.Cmp.{alike_right}
use Rattle.std.proofs.lemmas.List.{get_or_default, get_or-map, length-map}
use Rattle.std.proofs.lemmas.Option.{slice_get_read, slice_get_within, get_or_from_slice_get}
use Rattle.ht_word.specs.declared.word.Word.{Word}
use Rattle.ht_word.specs.Words.{◌·◌, word_cmp, IsUnder, IsUnderSome, IsAscending}
use Rattle.ht_word.proofs.WordLaws.{word_eq, after-nil, word_cmp_total, take_from_under}
use Rattle.ht_word.proofs.ListLaws.{trichotomy, contains_at, Contains-map, contained_in_map, AllPairs-from_map}
use Rattle.ht_pair.specs.declared.row.Row.{Row}
use Rattle.ht_pair.specs.Bases.{AreApart, IsPrefixFree}
use Rattle.ht_pair.specs.Pairs.{from_words}
use Rattle.ht_pair.specs.Actions.{Moves}
use Rattle.ht_pair.specs.HeldBases.{IsPlaceAbove}
use Rattle.ht_pair.proofs.ConeOrder.{IsBefore, before_from, before_less, before_extended}

-- the item's word isn't after the word
abbrev pub is_until : {T : Type 0} → (T → Word) → Word → T → Bool
is_until head w item = is_le (word_cmp (head item) w)

-- letters aren't after the same letters with more behind them
letters_until : (s z : List ℕ) → is_le (slice_cmp nat_cmp s (s ++ z)) ≡ true
letters_until [] [] = refl
letters_until [] (a ∷ z) = refl
letters_until (a ∷ s) z = ap (λ o. is_le (ordering_then o (slice_cmp nat_cmp s (s ++ z)))) (sym (nat_cmp_is a a Equal refl)) ∙ letters_until s z

-- a prefix of a word isn't after it
pub prefix_until : (u w : Word) → IsUnder w u → is_le (word_cmp u w) ≡ true
prefix_until u w h =
    ap (λ (t : Word). is_le (word_cmp u t)) h.is
    ∙ ap (λ o. is_le (ordering_then o (slice_cmp nat_cmp u.letters (u.letters ++ h.rest)))) (sym (nat_cmp_is u.root u.root Equal refl))
    ∙ letters_until u.letters h.rest

-- what is before a word that isn't after w isn't after w
earlier_until : (u v w : Word) → word_cmp u v ≡ Less → is_le (word_cmp v w) ≡ true → is_le (word_cmp u w) ≡ true
earlier_until u v w less until = by (word_cmp v w) refl until
  where
    by : (o : Ordering) → word_cmp v w ≡ o → is_le o ≡ true → is_le (word_cmp u w) ≡ true
    by Less e h = ap is_le (word_cmp_total.trans u v w less e)
    by Equal e h = ap is_le (sym (alike_right word_cmp_total v w u e) ∙ less)
    by Greater e h = absurd (true≢false (sym h))

-- in items in ascending order of their words those that aren't after a word stand first
pub parted_at : {T : Type 0} (head : T → Word) (items : List T) (w : Word) → IsAscending (map head items) → IsPartitionedBy (is_until head w) items
parted_at head items w ascending = λ i j d l m until. elim (trichotomy i j) [
  | inl h ↦ elim h [
    | inl less ↦ earlier_until _ _ w (AllPairs-from_map head (λ u v. word_cmp u v ≡ Less) items ascending i j d less m) until
    | inr more ↦ absurd (omega arith)
  ]
  | inr e ↦ subst (λ k. is_until head w (get_or items k d) ≡ true) (sym e) until
]

-- the row's `from` word is before the word
abbrev pub is_before : Word → Row → Bool
is_before w row = is_lt (word_cmp row.from w)

-- what is less is told so
pub less_is : (o : Ordering) → is_lt o ≡ true → o ≡ Less
less_is Less h = refl
less_is Equal h = absurd (true≢false (sym h))
less_is Greater h = absurd (true≢false (sym h))

-- in ascending rows those before a word stand first
pub parted_before : (rows : List Row) (w : Word) → IsAscending (from_words rows) → IsPartitionedBy (is_before w) rows
parted_before rows w ascending = λ i j d l m before. elim (trichotomy i j) [
  | inl h ↦ elim h [
    | inl less ↦ ap is_lt (word_cmp_total.trans _ _ w (AllPairs-from_map (λ (t : Row). t.from) (λ u v. word_cmp u v ≡ Less) rows ascending i j d less m) (less_is _ before))
    | inr more ↦ absurd (omega arith)
  ]
  | inr e ↦ subst (λ k. is_before w (get_or rows k d) ≡ true) (sym e) before
]

-- where the first k items are those that aren't after a word
abbrev pub PartsAt : {T : Type 0} → (T → Word) → List T → Word → ℕ → Type 0
PartsAt head items w k = IsPartitionPoint (λ item. is_until head w item ≡ true) (λ item. is_until head w item ≡ false) items k

-- an item whose word is a prefix of the word isn't behind the point
above_before : {T : Type 0} (head : T → Word) (items : List T) (w : Word) (k : ℕ) (x : T) → PartsAt head items w k → (c : Contains items x) → IsUnder w (head x) → ¬ (k ≤ c.0)
above_before head items w k x parts c under l =
    let after : is_until head w x ≡ false = subst (λ t. is_until head w t ≡ false) c.2 (parts.1 c.0 x l c.1) in
    true≢false (sym (prefix_until (head x) w under) ∙ after)

-- where no item has such a word, the word is under none of the words
none_above : {T : Type 0} (head : T → Word) (items : List T) (w : Word) → ((x : T) → Contains items x → ¬ IsUnder w (head x)) → ¬ IsUnderSome w (map head items)
none_above head items w none s =
    let g = contained_in_map head items s.above s.listed in
    none g.0 g.1 (subst (IsUnder w) (sym g.2) s.under)

-- where no item stands before the point, the word is under no item's word
pub none_before : {T : Type 0} (head : T → Word) (items : List T) (w : Word) (k : ℕ) → k ≡ 0 → PartsAt head items w k → ¬ IsUnderSome w (map head items)
none_before head items w k zero parts = none_above head items w (λ x c under. above_before head items w k x parts c under (omega arith))

-- a word under one of two words whose cones are in order is before the other one
under_before : (u v w : Word) → IsBefore u v → IsUnder w u → word_cmp w v ≡ Less
under_before u v w before h = before_less w v (subst (λ t. IsBefore t v) (sym h.is) (subst (IsBefore (u · h.rest)) (after-nil v) (before_extended u v h.rest [] before)))

-- nor does an item before the last one that isn't after the word have a prefix of it
not_earlier : {T : Type 0} (head : T → Word) (items : List T) (w : Word) (k : ℕ) (x : T) → IsPrefixFree (map head items) → IsAscending (map head items) → PartsAt head items w (suc k) → k < length items → (c : Contains items x) → IsUnder w (head x) → ¬ (c.0 < k)
not_earlier head items w k x free ascending parts within c under l =
    let last = get_or items k x in
    let less = AllPairs-from_map head (λ u v. word_cmp u v ≡ Less) items ascending c.0 k x l within in
    let apart = AllPairs-from_map head AreApart items free c.0 k x l within in
    let before : IsBefore (head x) (head last) = subst (λ t. IsBefore (head t) (head last)) c.2 (before_from _ _ less apart) in
    let behind : word_cmp (head last) w ≡ Greater = word_cmp_total.antisymm (head last) w ∙ ap ordering_reverse (under_before (head x) (head last) w before under) in
    true≢false (sym (parts.0 k x (omega arith) (omega arith)) ∙ ap is_le behind)

-- where that last one's word is no prefix of the word, no item's is
pub none_at : {T : Type 0} (head : T → Word) (items : List T) (w : Word) (k : ℕ) (last : T) → IsPrefixFree (map head items) → IsAscending (map head items) → 0 < k → k ≤ length items → PartsAt head items w k
    → last ≡ get_or items (k - 1) last → ¬ IsUnder w (head last) → ¬ IsUnderSome w (map head items)
none_at {T} head items w k last free ascending some within parts is other = none_above head items w (λ x c under.
    let here : suc (k - 1) ≡ k = omega arith in
    elim (trichotomy c.0 (k - 1)) [
      | inl h ↦ elim h [
        | inl less ↦ not_earlier head items w (k - 1) x free ascending (subst (PartsAt head items w) (sym here) parts) (omega arith) c under less
        | inr more ↦ above_before head items w k x parts c under (omega arith)
      ]
      | inr e ↦ other (subst (λ t. IsUnder w (head t)) (found x c e) under)
    ])
  where
    found : (x : T) (c : Contains items x) → c.0 ≡ k - 1 → x ≡ last
    found x c e = sym (contains_at items x last c) ∙ ap (λ j. get_or items j last) e ∙ sym is

-- the item at a place whose word is a prefix of the word
pub place_at : {T : Type 0} (head : T → Word) (items : List T) (w : Word) (place : ℕ) (x : T) → place < length items → x ≡ get_or items place x → IsUnder w (head x) → IsPlaceAbove (map head items) w place
place_at head items w place x within is under = record {
  word = head x;
  here = slice_get_read (map head items) _ place (head x) refl (omega (arith, length-map items head)) (ap head is ∙ sym (get_or-map head items place x (head x) within));
  above = under;
}

-- what follows from the cases of an option
match_weaker : {X : Type 0} (o : Option X) {P P' : Type 0} {Q Q' : X → Type 0} → (P → P') → ((x : X) → Q x → Q' x) → MatchOption o P Q → MatchOption o P' Q'
match_weaker None none some h = none h
match_weaker (Some x) none some h = some x h

-- a row that moves the word has a `from` word above it
none_moved : (rows : List Row) (w : Word) → ¬ IsUnderSome w (from_words rows) → (v : Word) → ¬ Moves rows w v
none_moved rows w none v m = none (record { above = m.row.from; listed = Contains-map (λ (t : Row). t.from) rows m.row m.listed; under = record { rest = m.rest; is = m.from } })

-- the row at the place of its `from` word
row_at : (rows : List Row) (w : Word) (place : ℕ) → IsPlaceAbove (from_words rows) w place → (row : Row) × (slice_get rows place ≡ Some row) × IsUnder w row.from
row_at rows w place h =
    let within : place < length (from_words rows) = slice_get_within (from_words rows) place h.word h.here in
    let inside : place < length rows = omega (arith, length-map rows (λ (t : Row). t.from)) in
    let row = get_or rows place (record { from = h.word; to = h.word }) in
    let read : slice_get rows place ≡ Some row = slice_get_read rows _ place row refl inside (get_or_default rows place _ row inside) in
    let is : row.from ≡ h.word = sym (get_or-map (λ (t : Row). t.from) rows place (record { from = h.word; to = h.word }) h.word inside) ∙ get_or_from_slice_get (from_words rows) place h.word h.word h.here in
    (row, read, subst (IsUnder w) (sym is) h.above)

-- the place of the row above a word, told by what the rows move
pub row_found : (rows : List Row) (w : Word) (found : Option ℕ) → MatchOption found (¬ IsUnderSome w (from_words rows)) (IsPlaceAbove (from_words rows) w)
    → MatchOption found ((v : Word) → ¬ Moves rows w v) (λ place. (row : Row) × (slice_get rows place ≡ Some row) × IsUnder w row.from)
row_found rows w found = match_weaker found (none_moved rows w) (row_at rows w)

-- the letters behind a prefix
pub letters_behind : (u w : Word) → IsUnder w u → w ≡ u · drop (length u.letters) w.letters
letters_behind u w h = word_eq (ap (λ (t : Word). t.root) h.is) (sym (take-append-drop (length u.letters) w.letters) ∙ ap (λ t. t ++ drop (length u.letters) w.letters) (take_from_under w u h))
