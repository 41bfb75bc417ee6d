-- The words under X that one step carries to no word under X: each is above just one row of what one step carries by letters 1 alone, and these stand in
-- the order of the rows.
use Rattle.std.proofs.Common.{◌≡◌, ◌≢◌, ℕ, zero, suc, ◌+◌, ◌-◌, ◌≤◌, ◌<◌, inl, inr, List, [], ◌∷◌, ◌++◌, length, replicate, take, drop, get_or, Some, slice_get, refl, sym, ap, ◌∙◌, subst, arith, AllPairs, Contains}
use Rattle.std.proofs.lemmas.List.{length-append, length-replicate, append_assoc, append-nil, append_cancel_right, replicate-append-replicate, take_at, take_more, drop_more, take-append-drop}
use Rattle.std.proofs.lemmas.List.Elements.{All-head, All-tail, All-contains, All-replicate, Contains-append_cases, Contains-append_left, Contains-append_right}
use Rattle.std.specs.Ordering.{nat_cmp, ordering_then}
use Rattle.std.specs.Cmp.{nat_cmp_is}
use Rattle.std.specs.Cmp.Lexicographic.{slice_cmp}
use Rattle.std.specs.declared.cmp.Ordering.TheVariants.{Less, Equal}
use Rattle.ht_word.specs.Words.{◌·◌, child, root_word, word_cmp, IsLetter, IsLetters, IsWordOf, IsUnder, IsUnderSome, IsAscending}
use Rattle.ht_word.specs.declared.shape.Shape.{Shape}
use Rattle.ht_word.specs.declared.word.Word.{Word}
use Rattle.ht_word.proofs.ListLaws.{Contains-nil, Contains-here, Contains-there, Contains-cons_cases, Contains-map, contained_in_map, AllPairs-nil, AllPairs-cons, AllPairs-append, AllPairs-from_map, AllPairs-across, last_same}
use Rattle.ht_word.proofs.WordLaws.{after-append, after-nil, after_cancel, prefixes, length-after, under_trans, under_refl, word_after, word_front, word_rest, All-from_contains}
use Rattle.ht_pair.specs.Bases.{IsBasis, longest}
use Rattle.ht_pair.specs.Pairs.{from_words}
use Rattle.ht_pair.specs.declared.row.Row.{Row}
use Rattle.ht_pair.specs.Tilings.{path}
use Rattle.ht_pair.proofs.BasisLaws.{basis_holds, basis_single, basis_word, some_at}
use Rattle.ht_pair.proofs.ConeOrder.{IsBelow, IsBefore, before_irreflexive, before_trans, before_extended, before_less, before_behind, parted, all_before}
use Rattle.ht_quasi.specs.Quasis.{IsYOf}
use Rattle.ht_quasi.proofs.StepLaws.{listed_at}
use Rattle.ht_share.specs.InnerWords.{IsInner, AreInner, IsLeftmost, AreAbove, IsTrailing}

-- ---- letters 1 at the end

-- one more
more_ones : (j : ℕ) → replicate {A = ℕ} j 1 ++ 1 ∷ [] ≡ replicate (j + 1) 1
more_ones j = replicate-append-replicate {A = ℕ} j 1 1

pub trailing_none : IsTrailing [] 0
trailing_none = record { front = []; whole = refl; most = few }
  where
    few : (z : List ℕ) (j : ℕ) → [] ≡ z ++ replicate j 1 → j ≤ 0
    few z j e = omega (arith, length-append z (replicate j 1), ap (λ (t : List ℕ). length t) e, length-replicate {A = ℕ} j 1)

-- the letters end with one more where 1 is put behind them
pub trailing_more : (letters : List ℕ) (count : ℕ) → IsTrailing letters count → IsTrailing (letters ++ 1 ∷ []) (count + 1)
trailing_more letters count t = record {
  front = t.front;
  whole = ap (λ z. z ++ 1 ∷ []) t.whole ∙ append_assoc t.front (replicate count 1) (1 ∷ []) ∙ ap (λ z. t.front ++ z) (more_ones count);
  most = most;
}
  where
    most : (z : List ℕ) (j : ℕ) → letters ++ 1 ∷ [] ≡ z ++ replicate j 1 → j ≤ count + 1
    most z zero e = omega arith
    most z (suc j) e =
        let i : j + 1 ≡ suc j = omega arith in
        let less = t.most z j (append_cancel_right letters (z ++ replicate j 1) (1 ∷ []) (e ∙ ap (λ k. z ++ replicate k 1) (sym i) ∙ ap (λ y. z ++ y) (sym (more_ones j)) ∙ sym (append_assoc z (replicate j 1) (1 ∷ [])))) in
        omega (arith, less)

-- and with none where another letter is
pub trailing_other : (letters : List ℕ) (a : ℕ) → a ≢ 1 → IsTrailing (letters ++ a ∷ []) 0
trailing_other letters a other = record { front = letters ++ a ∷ []; whole = sym (append-nil (letters ++ a ∷ [])); most = most }
  where
    most : (z : List ℕ) (j : ℕ) → letters ++ a ∷ [] ≡ z ++ replicate j 1 → j ≤ 0
    most z zero e = omega arith
    most z (suc j) e =
        let i : j + 1 ≡ suc j = omega arith in
        absurd (other (last_same letters (z ++ replicate j 1) a 1 (e ∙ ap (λ k. z ++ replicate k 1) (sym i) ∙ ap (λ y. z ++ y) (sym (more_ones j)) ∙ sym (append_assoc z (replicate j 1) (1 ∷ [])))))

-- ---- the words above one word by letters 1

-- u, u1, u11 and so on, k words
pub heads : Word → ℕ → List Word
heads u zero = []
heads u (suc k) = u ∷ heads (child u 1) k

heads-none : (u : Word) → heads u 0 ≡ []
unfolding heads
heads-none u = refl

heads-more : (u : Word) (k : ℕ) → heads u (suc k) ≡ u ∷ heads (child u 1) k
unfolding heads
heads-more u k = refl

record IsRowHead (u : Word) (k : ℕ) (w : Word) : Type 0 where
  count : ℕ
  less : count < k
  is : w ≡ u · replicate count 1

head_of : (u : Word) (k : ℕ) (w : Word) → Contains (heads u k) w → IsRowHead u k w
unfolding heads
head_of u zero w c = absurd (Contains-nil w c)
head_of u (suc k) w c = elim (Contains-cons_cases u (heads (child u 1) k) w c) [
  | inl e ↦ record { count = 0; less = omega arith; is = sym e ∙ sym (after-nil u) }
  | inr h ↦ let g = head_of (child u 1) k w h in record { count = suc g.count; less = (let l = g.less in omega arith); is = g.is ∙ after-append u (1 ∷ []) (replicate g.count 1) }
]

heads_hold : (u : Word) (k i : ℕ) → i < k → Contains (heads u k) (u · replicate i 1)
unfolding heads
heads_hold u zero i l = absurd (omega arith)
heads_hold u (suc k) zero l = subst (Contains (u ∷ heads (child u 1) k)) (sym (after-nil u)) (Contains-here u (heads (child u 1) k))
heads_hold u (suc k) (suc i) l = Contains-there u (heads (child u 1) k) (u · replicate (suc i) 1) (subst (Contains (heads (child u 1) k)) (after-append u (1 ∷ []) (replicate i 1)) (heads_hold (child u 1) k i (omega arith)))

-- a word is before those with letters behind it
longer_less : (s : List ℕ) (a : ℕ) (z : List ℕ) → slice_cmp nat_cmp s (s ++ a ∷ z) ≡ Less
longer_less [] a z = refl
longer_less (b ∷ s) a z = ap (λ o. ordering_then o (slice_cmp nat_cmp s (s ++ a ∷ z))) (sym (nat_cmp_is b b Equal refl)) ∙ longer_less s a z

above_less : (u : Word) (a : ℕ) (z : List ℕ) → word_cmp u (u · (a ∷ z)) ≡ Less
above_less u a z = longer_less (path u) a z

heads_ascending : (u : Word) (k : ℕ) → IsAscending (heads u k)
unfolding heads
heads_ascending u zero = AllPairs-nil (λ u v. word_cmp u v ≡ Less)
heads_ascending u (suc k) = AllPairs-cons (λ u v. word_cmp u v ≡ Less) u (heads (child u 1) k)
    (All-from_contains (λ v. word_cmp u v ≡ Less) (heads (child u 1) k) (λ w c.
    let g = head_of (child u 1) k w c in
    subst (λ v. word_cmp u v ≡ Less) (sym (after-append u (1 ∷ []) (replicate g.count 1)) ∙ sym g.is) (above_less u 1 (replicate g.count 1))))
    (heads_ascending (child u 1) k)

-- the words above a word under x by letters 1
above_given : (shape : Shape) (X : List Word) → IsBasis shape X → (x y : Word) (rest front : List ℕ) (count : ℕ) → Contains X x → y ≡ x · rest → rest ≡ front ++ replicate count 1 → ((z : List ℕ) (j : ℕ) → rest ≡ z ++ replicate j 1 → j ≤ count) → AreAbove X y (heads (x · front) count)
above_given shape X basis x y rest front count listed is whole most = record { ascending = heads_ascending (x · front) count; same = λ u. (from u, to u) }
  where
    top : y ≡ (x · front) · replicate count 1
    top = is ∙ ap (λ z. x · z) whole ∙ sym (after-append x front (replicate count 1))

    from : (u : Word) → Contains (heads (x · front) count) u → IsUnderSome u X × IsLeftmost u y
    from u c =
        let g = head_of (x · front) count u c in
        let less = g.less in
        let left = count - g.count in
        let sum : g.count + left ≡ count = omega arith in (
          some_at X x u listed (record { rest = front ++ replicate g.count 1; is = g.is ∙ after-append x front (replicate g.count 1) }),
          record {
            count = left;
            positive = omega arith;
            whole = top ∙ ap (λ k. (x · front) · replicate k 1) (sym sum) ∙ ap (λ z. (x · front) · z) (sym (replicate-append-replicate {A = ℕ} g.count left 1)) ∙ sym (after-append (x · front) (replicate g.count 1) (replicate left 1)) ∙ ap (λ v. v · replicate left 1) (sym g.is);
          },
        )

    to : (u : Word) → IsUnderSome u X × IsLeftmost u y → Contains (heads (x · front) count) u
    to u h =
        let s = h.0 in
        let l = h.1 in
        let one : s.above ≡ x = basis_single shape X basis y s.above x s.listed listed (under_trans (record { rest = replicate l.count 1; is = l.whole }) s.under) (record { rest = rest; is = is }) in
        let z = s.under.rest in
        let u_is : u ≡ x · z = s.under.is ∙ ap (λ v. v · z) one in
        let split : rest ≡ z ++ replicate l.count 1 = after_cancel x rest (z ++ replicate l.count 1) (sym is ∙ l.whole ∙ ap (λ v. v · replicate l.count 1) u_is ∙ after-append x z (replicate l.count 1)) in
        let few = most z l.count split in
        let positive = l.positive in
        let left = count - l.count in
        let sum : left + l.count ≡ count = omega arith in
        let z_is : z ≡ front ++ replicate left 1 =
        append_cancel_right z (front ++ replicate left 1) (replicate l.count 1)
        (sym split ∙ whole ∙ ap (λ k. front ++ replicate k 1) (sym sum) ∙ ap (λ t. front ++ t) (sym (replicate-append-replicate {A = ℕ} left l.count 1)) ∙ sym (append_assoc front (replicate left 1) (replicate l.count 1))) in
        subst (Contains (heads (x · front) count)) (after-append x front (replicate left 1) ∙ ap (λ t. x · t) (sym z_is) ∙ sym u_is) (heads_hold (x · front) count left (omega arith))

-- as the code reads them
pub above_read : (shape : Shape) (W X : List Word) → IsBasis shape X → W ≡ X → (place : ℕ) (x y top : Word) (rest : List ℕ) (count : ℕ) → slice_get W place ≡ Some x → y ≡ x · rest → top ≡ x · take (length rest - count) rest → IsTrailing rest count → AreAbove X y (heads top count)
above_read shape W X basis same place x y top rest count here is made t =
    let far : length t.front ≡ length rest - count = omega (arith, length-append t.front (replicate count 1), length-replicate {A = ℕ} count 1, ap (λ (z : List ℕ). length z) t.whole) in
    let front : take (length rest - count) rest ≡ t.front = ap (λ z. take (length rest - count) z) t.whole ∙ take_at t.front (replicate count 1) (length rest - count) far in
    subst (λ u. AreAbove X y (heads u count)) (sym (made ∙ ap (λ z. x · z) front))
    (above_given shape X basis x y rest t.front count (subst (λ V. Contains V x) same (listed_at W place x here)) is t.whole t.most)

-- one after another
pub heads_step : (inner more : List Word) (u copy next : Word) (all : List Word) (count left : ℕ) → left < count → copy ≡ u → more ≡ inner ++ copy ∷ [] → next ≡ child u 1 → inner ++ heads u (count - left) ≡ all → more ++ heads next (count - (left + 1)) ≡ all
heads_step inner more u copy next all count left less same pushed is so_far =
    let k : suc (count - (left + 1)) ≡ count - left = omega arith in
    ap (λ W. W ++ heads next (count - (left + 1))) pushed ∙ append_assoc inner (copy ∷ []) (heads next (count - (left + 1))) ∙ ap (λ v. inner ++ v ∷ heads next (count - (left + 1))) same ∙ ap (λ v. inner ++ u ∷ heads v (count - (left + 1))) is
    ∙ ap (λ W. inner ++ W) (sym (heads-more u (count - (left + 1)))) ∙ ap (λ j. inner ++ heads u j) k ∙ so_far

pub heads_all : (inner : List Word) (u : Word) (all : List Word) (count left : ℕ) → left ≡ count → inner ++ heads u (count - left) ≡ all → inner ≡ all
heads_all inner u all count left end so_far =
    let none : count - left ≡ 0 = omega arith in
    sym (append-nil inner) ∙ ap (λ W. inner ++ W) (sym (heads-none u)) ∙ ap (λ j. inner ++ heads u j) (sym none) ∙ so_far

-- ---- in the order of the rows

-- no letters are below letters 1
none_below_ones : (shape : Shape) (y : List ℕ) (k : ℕ) → IsLetters shape y → ¬ IsBelow y (replicate k 1)
none_below_ones shape [] k letters h = h
none_below_ones shape (b ∷ y) zero letters h = h
none_below_ones shape (b ∷ y) (suc k) letters (inl l) = omega (arith, All-head (IsLetter shape) b y letters)
none_below_ones shape (b ∷ y) (suc k) letters (inr h) = none_below_ones shape y k (All-tail (IsLetter shape) b y letters) h.1

-- so nothing under a word is before it with letters 1 behind
none_before_ones : (shape : Shape) (u : Word) (y : List ℕ) (k : ℕ) → IsLetters shape y → ¬ IsBefore (u · y) (u · replicate k 1)
none_before_ones shape u y k letters before = elim (before_behind u (root_word 0) y (replicate k 1) before) [
  | inl l ↦ omega (arith, l)
  | inr h ↦ none_below_ones shape y k letters h.1
]

-- words from which letters 1 lead to words in order are in order
leftmost_order : (shape : Shape) (u v y t : Word) → IsWordOf shape y → IsLeftmost u y → IsLeftmost v t → IsBefore y t → word_cmp u v ≡ Less
leftmost_order shape u v y t hy l m before = elim (parted u v) [
  | inl h ↦ elim h [ inl b ↦ before_less u v b | inr k ↦ absurd (not_under k) ]
  | inr h ↦ elim h [
    | inl b ↦ absurd (before_irreflexive y (before_trans y t y before (subst (λ w. IsBefore t w) (sym l.whole) (subst (λ w. IsBefore w (u · replicate l.count 1)) (sym m.whole) (before_extended v u (replicate m.count 1) (replicate l.count 1) b)))))
    | inr k ↦ by k.rest k.is
  ]
]
  where
    not_under : ¬ IsUnder u v
    not_under k =
        let all : y ≡ v · (k.rest ++ replicate l.count 1) = l.whole ∙ ap (λ w. w · replicate l.count 1) k.is ∙ after-append v k.rest (replicate l.count 1) in
        none_before_ones shape v (k.rest ++ replicate l.count 1) m.count (word_rest shape v (k.rest ++ replicate l.count 1) (subst (IsWordOf shape) all hy)) (subst (λ w. IsBefore w (v · replicate m.count 1)) all (subst (IsBefore y) m.whole before))

    by : (z : List ℕ) → v ≡ u · z → word_cmp u v ≡ Less
    by [] is = absurd (not_under (record { rest = []; is = sym (after-nil u) ∙ sym is ∙ sym (after-nil v) }))
    by (a ∷ z) is = subst (λ w. word_cmp u w ≡ Less) (sym is) (above_less u a z)

-- ---- all rows

-- the words under X above the rows by letters 1, in order
pub record AreAboveRows (X : List Word) (rows : List Row) (words : List Word) : Type 0 where
  pub ascending : IsAscending words
  pub same : (u : Word) → Contains words u → IsUnderSome u X × ((row : Row) × Contains rows row × IsLeftmost u row.from)
  pub all : (u : Word) (row : Row) → IsUnderSome u X → Contains rows row → IsLeftmost u row.from → Contains words u

found_more : (shape : Shape) (X : List Word) (rows : List Row) (row : Row) (words more : List Word) → ((other : Row) → Contains rows other → IsWordOf shape other.from × IsBefore other.from row.from) → AreAboveRows X rows words → AreAbove X row.from more → AreAboveRows X (rows ++ row ∷ []) (words ++ more)
found_more shape X rows row words more before f a = record {
  ascending = AllPairs-append (λ u v. word_cmp u v ≡ Less) words more f.ascending a.ascending (λ u v c e.
      let g = (f.same u c).1 in
      let b = before g.0 g.1 in
      leftmost_order shape u v g.0.from row.from b.0 g.2 ((a.same v).0 e).1 b.1);
  same = λ u c. elim (Contains-append_cases words more u c) [
    | inl e ↦ (let s = f.same u e in (s.0, (s.1.0, Contains-append_left rows (row ∷ []) s.1.0 s.1.1, s.1.2)))
    | inr e ↦ (let s = (a.same u).0 e in (s.0, (row, Contains-append_right rows (row ∷ []) row (Contains-here row []), s.1)))
  ];
  all = λ u other s c l. elim (Contains-append_cases rows (row ∷ []) other c) [
    | inl e ↦ Contains-append_left words more u (f.all u other s e l)
    | inr e ↦ elim (Contains-cons_cases row [] other e) [
      | inr n ↦ absurd (Contains-nil other n)
      | inl same ↦ Contains-append_right words more u ((a.same u).1 (s, subst (λ (r : Row). IsLeftmost u r.from) (sym same) l))
    ]
  ];
}

-- the earlier rows are before one in the order of cones
rows_before : (shape : Shape) (p : List Row) (X : List Word) (y : List Row) → IsYOf shape p X y → (i : ℕ) (row : Row) → i < length y → row ≡ get_or y i row → (other : Row) → Contains (take i y) other → IsWordOf shape other.from × IsBefore other.from row.from
rows_before shape p X y h i row within is other c =
    let back = drop i y in
    let split : take i y ++ back ≡ y = take-append-drop i y in
    let here : back ≡ row ∷ drop (i + 1) y = drop_more y i row within ∙ ap (λ r. r ∷ drop (i + 1) y) (sym is) in
    let before = AllPairs-from_map (λ (t : Row). t.from) IsBefore y (all_before (from_words y) h.basis.prefix_free h.ascending) in (
      basis_word shape (from_words y) h.basis other.from (Contains-map (λ (t : Row). t.from) y other (subst (λ z. Contains z other) split (Contains-append_left (take i y) back other c))),
      AllPairs-across (λ (s : Row) (t : Row). IsBefore s.from t.from) (take i y) back (subst (AllPairs (λ (s : Row) (t : Row). IsBefore s.from t.from)) (sym split) before) other row c (subst (λ z. Contains z row) (sym here) (Contains-here row (drop (i + 1) y))),
    )

-- the rows as the code reads them: each is under X
pub row_under : (shape : Shape) (p : List Row) (X : List Word) (y : List Row) → IsYOf shape p X y → (given : List Row) → given ≡ y → (i : ℕ) (row : Row) → i < length given → row ≡ get_or given i row → IsUnderSome row.from X
row_under shape p X y h given same i row within is =
    All-contains (λ x. IsUnderSome x X) (from_words y) row.from h.from_under (Contains-map (λ (t : Row). t.from) y row (subst (λ z. Contains z row) same (i, within, sym is)))

-- and adds the words above it
pub found_next : (shape : Shape) (p : List Row) (X : List Word) (y : List Row) → IsYOf shape p X y → (given : List Row) → given ≡ y → (i : ℕ) (row : Row) → i < length given → row ≡ get_or given i row
    → (words new more : List Word) → AreAbove X row.from more → new ≡ words ++ more → AreAboveRows X (take i given) words → AreAboveRows X (take (i + 1) given) new
found_next shape p X y h given same i row within is words new more a added f =
    let next : take (i + 1) given ≡ take i given ++ row ∷ [] = take_more given i row within ∙ ap (λ r. take i given ++ r ∷ []) (sym is) in
    subst (λ z. AreAboveRows X z new) (sym next) (subst (AreAboveRows X (take i given ++ row ∷ [])) (sym added)
    (found_more shape X (take i given) row words more (rows_before shape p X given (subst (IsYOf shape p X) (sym same) h) i row within is) f a))

-- ---- inner words

-- a word under X is under the rows, or letters 1 lead from it to one
leftmost_row : (shape : Shape) (p : List Row) (X : List Word) (y : List Row) → IsYOf shape p X y → (u : Word) → IsInner shape p X u → (row : Row) × Contains y row × IsLeftmost u row.from
leftmost_row shape p X y h u inner =
    let far = longest (from_words y) in
    let s = basis_holds shape (from_words y) h.basis (u · replicate far 1) (word_after shape u (replicate far 1) inner.word (All-replicate (IsLetter shape) far 1 (omega arith, (let n = shape.letters_low in omega arith)))) (omega (arith, length-after u (replicate far 1), length-replicate {A = ℕ} far 1)) in
    at_row (contained_in_map (λ (t : Row). t.from) y s.above s.listed) (elim (prefixes u s.above (replicate far 1) s.under.rest s.under.is) [
      | inl k ↦ absurd (inner.leaves ((h.carried u inner.word inner.under).0 (some_at (from_words y) s.above u s.listed (record { rest = k.middle; is = k.is }))))
      | inr k ↦ record { count = length k.middle; positive = some k.middle k.is s.listed; whole = k.is ∙ ap (λ z. u · z) (all_ones k.middle s.under.rest far k.rest_is) }
    ])
  where
    all_ones : (z t : List ℕ) (k : ℕ) → replicate k 1 ≡ z ++ t → z ≡ replicate (length z) 1
    all_ones [] t k e = refl
    all_ones (a ∷ z) t zero e = absurd (omega (arith, length-append z t, ap (λ (l : List ℕ). length l) e))
    all_ones (a ∷ z) t (suc k) e =
        let one : 1 ≡ a = cc in
        let tail : replicate k 1 ≡ z ++ t = cc in
        ap (λ b. b ∷ z) (sym one) ∙ ap (λ l. 1 ∷ l) (all_ones z t k tail)

    at_row : {v : Word} → (row : Row) × Contains y row × (row.from ≡ v) → IsLeftmost u v → (row : Row) × Contains y row × IsLeftmost u row.from
    at_row g l = (g.0, g.1, subst (IsLeftmost u) (sym g.2) l)

    some : {v : Word} (z : List ℕ) → v ≡ u · z → Contains (from_words y) v → 1 ≤ length z
    some {v} [] e c = absurd (inner.leaves ((h.carried u inner.word inner.under).0 (some_at (from_words y) v u c (record { rest = []; is = sym (after-nil u) ∙ sym e ∙ sym (after-nil v) }))))
    some (a ∷ z) e c = omega arith

-- a word from which letters 1 lead to a row is not under the rows
leftmost_inner : (shape : Shape) (p : List Row) (X : List Word) (y : List Row) → IsYOf shape p X y → (u : Word) (row : Row) → IsUnderSome u X → Contains y row → IsLeftmost u row.from → IsInner shape p X u
leftmost_inner shape p X y h u row under c l =
    let listed = Contains-map (λ (t : Row). t.from) y row c in
    let word = word_front shape u (replicate l.count 1) (subst (IsWordOf shape) l.whole (basis_word shape (from_words y) h.basis row.from listed)) in
    record {
      word = word;
      under = under;
      leaves = λ s.
          let k = (h.carried u word under).1 s in
          let one : row.from ≡ k.above = basis_single shape (from_words y) h.basis row.from row.from k.above listed k.listed (under_refl row.from) (under_trans (record { rest = replicate l.count 1; is = l.whole }) k.under) in
          let positive = l.positive in
          omega (arith, length-after u (replicate l.count 1), length-replicate {A = ℕ} l.count 1, length-after k.above k.under.rest, ap (λ (w : Word). length w.letters) l.whole, ap (λ (w : Word). length w.letters) k.under.is, ap (λ (w : Word). length w.letters) one);
    }

pub found_inner : (shape : Shape) (p : List Row) (X : List Word) (y : List Row) (words : List Word) → IsYOf shape p X y → AreAboveRows X y words → AreInner shape p X words
found_inner shape p X y words h f = record {
  ascending = f.ascending;
  same = λ u. (
    (λ c. let s = f.same u c in leftmost_inner shape p X y h u s.1.0 s.0 s.1.1 s.1.2),
    (λ inner. let r = leftmost_row shape p X y h u inner in f.all u r.0 inner.under r.1 r.2),
  );
}
