-- Value lists: where they send letters, the one list that follows them, and the images that they are.
use Rattle.std.proofs.Common.{◌≡◌, ◌↔◌, ℕ, ◌≤◌, ◌+◌, inl, inr, List, [], ◌∷◌, ◌++◌, length, refl, sym, ap, ◌∙◌, subst, arith, append_assoc, Contains, ℤ, pos, ◌+ℤ◌, All}
use Rattle.std.proofs.lemmas.List.{length-append}
use Rattle.std.proofs.lemmas.List.Elements.{All-contains, All-nil, All-cons}
use Rattle.std.specs.Cmp.Lexicographic.{slice_cmp}
use Rattle.std.specs.Ordering.{nat_cmp}
use Rattle.std.specs.declared.cmp.Ordering.TheVariants.{Less}
use Rattle.ht_word.specs.Words.{IsLetter, IsLetters, IsWordOf, IsAscending, ◌·◌, child, root_word, word_cmp, IsUnder, IsUnderSome}
use Rattle.ht_word.specs.declared.shape.Shape.{Shape}
use Rattle.ht_word.specs.declared.word.Word.{Word}
use Rattle.ht_word.proofs.ListLaws.{Contains-nil, Contains-here, Contains-cons_cases, Contains-map, contained_in_map, AllPairs-cons, AllPairs-nil, AllPairs-map, AllPairs-from_map, AllPairs-weaker, ascending_same}
use Rattle.ht_word.proofs.WordLaws.{after-append, after_cancel, after_cancel_right, under_after, length-after, word_after, word_rest, letters_append, letters_back, word_cmp_once, ones, ones_letters, length-ones, All-from_contains}
use Rattle.ht_pair.specs.Actions.{Moves, IsReduced}
use Rattle.ht_pair.specs.Bases.{AreApart, IsPrefixFree, longest, Covers}
use Rattle.ht_pair.specs.Images.{Entry, words_behind, IsImage}
use Rattle.ht_pair.specs.Pairs.{from_words, to_words, IsPair}
use Rattle.ht_pair.specs.Products.{IsPower}
use Rattle.ht_pair.specs.Steps.{Steps, Carries}
use Rattle.ht_pair.specs.Tables.{IsTable}
use Rattle.ht_pair.specs.ValueLists.{IsValueList, Sends, IsFollowed}
use Rattle.ht_pair.specs.declared.row.Row.{Row}
use Rattle.ht_pair.proofs.BasisLaws.{some_at, longest_bounds, covers_long, covers_from}
use Rattle.ht_pair.proofs.ImageLaws.{row_behind, rows_behind, from_words-behind, entry_listed, entries_reduced}
use Rattle.ht_pair.proofs.MovesLaws.{moves_single, moves_map}
use Rattle.ht_pair.proofs.ReducedLaws.{MovesAs, same_rows}
use Rattle.ht_pair.proofs.StepsLaws.{steps_map, steps_add}

-- root 1 is a word of each shape
pub root_one : (shape : Shape) → IsWordOf shape (root_word 1)
root_one shape = record { root_low = omega arith; root_high = shape.roots_low; letters = All-nil (IsLetter shape) }

-- ---- as tables

-- the rows of a value list are a table
pub value_table : (shape : Shape) (L : List Entry) → IsValueList shape L → IsTable shape (rows_behind (root_word 1) L)
value_table shape L h =
    let is = sym (from_words-behind (root_word 1) L) in
    record {
      words = subst (All (IsWordOf shape)) is h.covers.words;
      prefix_free = subst IsPrefixFree is h.covers.prefix_free;
      ascending = subst IsAscending is (AllPairs-map (λ (e : Entry). root_word 1 · e.letters) (λ u v. word_cmp u v ≡ Less) L h.order);
    }

-- that covers root 1
pub value_covers : (shape : Shape) (L : List Entry) → IsValueList shape L → Covers shape (from_words (rows_behind (root_word 1) L)) (root_word 1 ∷ [])
value_covers shape L h = subst (λ W. Covers shape W (root_word 1 ∷ [])) (sym (from_words-behind (root_word 1) L)) h.covers

-- whose `to` words are of the shape
pub value_words : (shape : Shape) (L : List Entry) → IsValueList shape L → All (IsWordOf shape) (to_words (rows_behind (root_word 1) L))
unfolding row_behind
value_words shape L h = All-from_contains (IsWordOf shape) (to_words (rows_behind (root_word 1) L)) (λ w c.
    let g = contained_in_map (λ (t : Row). t.to) (rows_behind (root_word 1) L) w c in
    let e = contained_in_map (row_behind (root_word 1)) L g.0 g.1 in
    subst (IsWordOf shape) (ap (λ (t : Row). t.to) e.2 ∙ g.2) (All-contains (λ (d : Entry). IsWordOf shape d.word) L e.0 h.words e.1))

-- and such a table that is reduced and covers root 1 is a value list
pub table_value : (shape : Shape) (L : List Entry) → IsTable shape (rows_behind (root_word 1) L) → Covers shape (from_words (rows_behind (root_word 1) L)) (root_word 1 ∷ [])
    → ((row : Row) → Contains (rows_behind (root_word 1) L) row → IsWordOf shape row.to) → IsReduced shape (rows_behind (root_word 1) L) → IsValueList shape L
unfolding row_behind
table_value shape L table covers words reduced = record {
  order = AllPairs-from_map (λ (e : Entry). root_word 1 · e.letters) (λ u v. word_cmp u v ≡ Less) L (subst IsAscending (from_words-behind (root_word 1) L) table.ascending);
  covers = subst (λ W. Covers shape W (root_word 1 ∷ [])) (from_words-behind (root_word 1) L) covers;
  words = All-from_contains (λ (e : Entry). IsWordOf shape e.word) L (λ e c. words (row_behind (root_word 1) e) (Contains-map (row_behind (root_word 1)) L e c));
  merged = λ z v all. reduced (root_word 1 · z) v (λ a low high. Contains-map (row_behind (root_word 1)) L (record { letters = z ++ a ∷ []; word = child v a }) (all a low high));
}

-- what a list sends, its rows move
pub sends_moves : (L : List Entry) (t : List ℕ) (w : Word) → Sends L t w → Moves (rows_behind (root_word 1) L) (root_word 1 · t) w
unfolding row_behind
sends_moves L t w s = record { row = row_behind (root_word 1) s.entry; rest = s.rest; listed = Contains-map (row_behind (root_word 1)) L s.entry s.listed; from = ap (λ y. root_word 1 · y) s.from; to = s.to }

-- and the other way round
pub moves_sends : (L : List Entry) (t : List ℕ) (w : Word) → Moves (rows_behind (root_word 1) L) (root_word 1 · t) w → Sends L t w
unfolding row_behind
moves_sends L t w m =
    let g = contained_in_map (row_behind (root_word 1)) L m.row m.listed in
    record {
      entry = g.0;
      rest = m.rest;
      listed = g.1;
      from = after_cancel (root_word 1) t (g.0.letters ++ m.rest) (m.from ∙ ap (λ (r : Row). r.from · m.rest) (sym g.2));
      to = m.to ∙ ap (λ (r : Row). r.to · m.rest) (sym g.2);
    }

-- ---- where value lists send letters

-- to one word
pub sends_single : (shape : Shape) (L : List Entry) → IsValueList shape L → (t : List ℕ) (w w' : Word) → Sends L t w → Sends L t w' → w ≡ w'
sends_single shape L h t w w' s s' = moves_single (rows_behind (root_word 1) L) (value_table shape L h).prefix_free (root_word 1 · t) w w' (sends_moves L t w s) (sends_moves L t w' s')

pub sends_extends : (L : List Entry) (t : List ℕ) (w : Word) (z : List ℕ) → Sends L t w → Sends L (t ++ z) (w · z)
sends_extends L t w z s = record {
  entry = s.entry;
  rest = s.rest ++ z;
  listed = s.listed;
  from = ap (λ y. y ++ z) s.from ∙ append_assoc s.entry.letters s.rest z;
  to = ap (λ v. v · z) s.to ∙ after-append s.entry.word s.rest z;
}

-- of the shape
pub sends_word : (shape : Shape) (L : List Entry) → IsValueList shape L → (t : List ℕ) (w : Word) → IsLetters shape t → Sends L t w → IsWordOf shape w
sends_word shape L h t w letters s =
    subst (IsWordOf shape) (sym s.to)
    (word_after shape s.entry.word s.rest (All-contains (λ (d : Entry). IsWordOf shape d.word) L s.entry h.words s.listed)
    (letters_back shape s.entry.letters s.rest (subst (IsLetters shape) s.from letters)))

-- the letters of the longest entry
abbrev pub reach_of : List Entry → ℕ
reach_of L = longest (words_behind (root_word 1) L)

-- long letters to a long word
sends_long : (L : List Entry) (t : List ℕ) (w : Word) → Sends L t w → length t ≤ reach_of L + length w.letters
sends_long L t w s =
    omega (
      arith,
      ap (λ (y : List ℕ). length y) s.from,
      length-append s.entry.letters s.rest,
      ap (λ (v : Word). length v.letters) s.to,
      length-after s.entry.word s.rest,
      longest_bounds (words_behind (root_word 1) L) (root_word 1 · s.entry.letters) (Contains-map (λ (e : Entry). root_word 1 · e.letters) L s.entry s.listed),
    )

-- and all long enough letters
pub sends_some : (shape : Shape) (L : List Entry) → IsValueList shape L → (t : List ℕ) → IsLetters shape t → reach_of L ≤ length t → (w : Word) × Sends L t w
sends_some shape L h t letters l =
    let s = (covers_long shape (words_behind (root_word 1) L) (root_word 1 ∷ []) h.covers (root_word 1 · t) (word_after shape (root_word 1) t (root_one shape) letters) (omega (arith, l))).1
    (some_at (root_word 1 ∷ []) (root_word 1) (root_word 1 · t) (Contains-here (root_word 1) []) (under_after (root_word 1) t)) in
    let g = contained_in_map (λ (e : Entry). root_word 1 · e.letters) L s.above s.listed in (
      g.0.word · s.under.rest,
      record {
        entry = g.0;
        rest = s.under.rest;
        listed = g.1;
        from = after_cancel (root_word 1) t (g.0.letters ++ s.under.rest) (s.under.is ∙ ap (λ v. v · s.under.rest) (sym g.2));
        to = refl;
      },
    )

-- letters made long
long_letters : (shape : Shape) (t : List ℕ) (k : ℕ) → IsLetters shape t → IsLetters shape (t ++ ones k)
long_letters shape t k h = letters_append shape t (ones k) h (ones_letters shape k)

-- value lists that send long letters to the same words are equal
pub value_once : (shape : Shape) (M N : List Entry) → IsValueList shape M → IsValueList shape N → ((t : List ℕ) (w v : Word) → IsLetters shape t → Sends M t w → Sends N t v → w ≡ v) → M ≡ N
unfolding row_behind
value_once shape M N hm hn agree =
    ascending_same (λ (d : Entry) (e : Entry). slice_cmp nat_cmp d.letters e.letters ≡ Less) (λ d e l m. word_cmp_once (root_word 1 · d.letters) (root_word 1 · e.letters) l m) M N hm.order hn.order
    (listed M N hm hn agree)
    (listed N M hn hm (λ t w v h s s'. sym (agree t v w h s' s)))
  where
    moved : (M N : List Entry) → IsValueList shape N → ((t : List ℕ) (w v : Word) → IsLetters shape t → Sends M t w → Sends N t v → w ≡ v)
        → (row : Row) → Contains (rows_behind (root_word 1) N) row → MovesAs shape (rows_behind (root_word 1) M) row.from row.to
    moved M N hn agree row c =
        let g = contained_in_map (row_behind (root_word 1)) N row c in
        let e : Entry = g.0 in
        let letters : IsLetters shape e.letters = word_rest shape (root_word 1) e.letters (All-contains (IsWordOf shape) (words_behind (root_word 1) N) (root_word 1 · e.letters) hn.covers.words (Contains-map (λ (d : Entry). root_word 1 · d.letters) N e g.1)) in
        subst (λ (r : Row). MovesAs shape (rows_behind (root_word 1) M) r.from r.to) g.2 (record {
          at = λ z w hz m. agree (e.letters ++ z) w (e.word · z) (letters_append shape e.letters z letters hz) (moves_sends M (e.letters ++ z) w m) (record { entry = e; rest = z; listed = g.1; from = refl; to = refl });
        })

    listed : (M N : List Entry) → IsValueList shape M → IsValueList shape N → ((t : List ℕ) (w v : Word) → IsLetters shape t → Sends M t w → Sends N t v → w ≡ v) → (e : Entry) → Contains M e → Contains N e
    listed M N hm hn agree e c =
        entry_listed (root_word 1) N e
        (same_rows shape (λ w. IsUnder w (root_word 1)) (rows_behind (root_word 1) N) (rows_behind (root_word 1) M) (entries_reduced shape (root_word 1) N hn.covers hn.merged) (entries_reduced shape (root_word 1) M hm.covers hm.merged)
        (moved N M hm (λ t w v h s s'. sym (agree t v w h s' s)))
        (moved M N hn agree)
        (row_behind (root_word 1) e)
        (Contains-map (row_behind (root_word 1)) M e c))

-- ---- what follows a value list

-- it is enough that long letters are followed
followed_from : (shape : Shape) (p : List Row) (k : ℤ) (L M : List Entry) → IsPair shape p → IsValueList shape M → (bound : ℕ)
    → ((t : List ℕ) (w w' w'' : Word) → IsLetters shape t → bound ≤ length t → Sends L t w → Steps p k w w' → Sends M t w'' → w' ≡ w'') → IsFollowed shape L p k M
followed_from shape p k L M pair value bound long = record {
  value_list = value;
  followed = λ t w w' w'' h s st s'.
      let z = ones bound in
      after_cancel_right w' w'' z
      (long (t ++ z) (w · z) (w' · z) (w'' · z) (long_letters shape t bound h) (omega (arith, length-append t z, length-ones bound)) (sends_extends L t w z s) ((steps_map shape p pair k).ahead.extends w w' z st) (sends_extends M t w'' z s'));
}

-- just one list follows a value list by a power
pub followed_once : (shape : Shape) (p : List Row) (k : ℤ) (L M N : List Entry) → IsPair shape p → IsValueList shape L → IsFollowed shape L p k M → IsFollowed shape L p k N → M ≡ N
followed_once shape p k L M N pair value hm hn = value_once shape M N hm.value_list hn.value_list (λ t w v h s s'.
    let m = (steps_map shape p pair k).ahead in
    let z = ones (reach_of L + m.bound) in
    let letters = long_letters shape t (reach_of L + m.bound) h in
    let a = sends_some shape L value (t ++ z) letters (omega (arith, length-append t z, length-ones (reach_of L + m.bound))) in
    let b = m.total a.0 (sends_word shape L value (t ++ z) a.0 letters a.1) (omega (arith, sends_long L (t ++ z) a.0 a.1, length-append t z, length-ones (reach_of L + m.bound))) in
    let first : b.0 ≡ w · z = hm.followed (t ++ z) a.0 b.0 (w · z) letters a.1 b.1 (sends_extends M t w z s) in
    let second : b.0 ≡ v · z = hn.followed (t ++ z) a.0 b.0 (v · z) letters a.1 b.1 (sends_extends N t v z s') in
    after_cancel_right w v z (sym first ∙ second))

-- what follows by a pair follows by each power that the pair is
pub followed_power : (shape : Shape) (p s : List Row) (k : ℤ) (L M : List Entry) → IsPair shape p → IsValueList shape L → IsPower shape p k s → IsFollowed shape L s (pos 1) M → IsFollowed shape L p k M
followed_power shape p s k L M pair value power h =
    let m = (moves_map shape s power.pair).ahead in
    followed_from shape p k L M pair h.value_list (reach_of L + m.bound) (λ t w w' w'' letters l a st b.
    let word = sends_word shape L value t w letters a in
    let y = m.total w word (omega (arith, sends_long L t w a)) in
    power.stepped w w' y.0 word st y.1 ∙ h.followed t w y.0 w'' letters a (w, refl, y.1) b)

-- a value list follows itself by the power 0
pub followed_none : (shape : Shape) (p : List Row) (L : List Entry) → IsValueList shape L → IsFollowed shape L p (pos 0) L
followed_none shape p L value = record { value_list = value; followed = λ t w w' w'' letters a st b. sym st ∙ sends_single shape L value t w w'' a b }

-- what follows what follows, follows by the sum
pub followed_then : (shape : Shape) (p : List Row) (j k : ℤ) (L M N : List Entry) → IsPair shape p → IsValueList shape L → IsFollowed shape L p j M → IsFollowed shape M p k N → IsFollowed shape L p (j +ℤ k) N
followed_then shape p j k L M N pair value hm hn =
    let first = (steps_map shape p pair j).ahead in
    let second = (steps_map shape p pair k).ahead in
    followed_from shape p (j +ℤ k) L N pair hn.value_list (reach_of L + first.bound + reach_of M + second.bound) (λ t w w' w'' letters l a st b.
    let word = sends_word shape L value t w letters a in
    let x = first.total w word (omega (arith, sends_long L t w a)) in
    let y = sends_some shape M hm.value_list t letters (omega arith) in
    let there : x.0 ≡ y.0 = hm.followed t w x.0 y.0 letters a x.1 y.1 in
    let word_y = sends_word shape M hm.value_list t y.0 letters y.1 in
    let v = second.total y.0 word_y (omega (arith, sends_long M t y.0 y.1)) in
    let both : Steps p (j +ℤ k) w v.0 = steps_add shape p pair j k w y.0 v.0 word (subst (Steps p j w) there x.1) v.1 in
    (steps_map shape p pair (j +ℤ k)).ahead.single w w' v.0 word st both ∙ hn.followed t y.0 v.0 w'' letters y.1 v.1 b)

-- ---- the value list of one word

-- the entry without letters
abbrev pub cone_of : Word → List Entry
cone_of u = record { letters = []; word = u } ∷ []

pub cone_value : (shape : Shape) (u : Word) → IsWordOf shape u → IsValueList shape (cone_of u)
cone_value shape u word = record {
  order = AllPairs-cons (λ (d : Entry) (e : Entry). slice_cmp nat_cmp d.letters e.letters ≡ Less) (record { letters = []; word = u }) [] (λ i d l. absurd (omega arith)) (AllPairs-nil (λ (d : Entry) (e : Entry). slice_cmp nat_cmp d.letters e.letters ≡ Less));
  covers = record {
    words = All-cons (IsWordOf shape) (root_word 1) [] (root_one shape) (All-nil (IsWordOf shape));
    prefix_free = AllPairs-cons AreApart (root_word 1) [] (λ i d l. absurd (omega arith)) (AllPairs-nil AreApart);
    same = λ w h l. ((λ s. s), (λ s. s));
  };
  words = All-cons (λ (e : Entry). IsWordOf shape e.word) (record { letters = []; word = u }) [] word (All-nil (λ (e : Entry). IsWordOf shape e.word));
  merged = λ z v all. elim (Contains-cons_cases (record { letters = []; word = u }) [] (record { letters = z ++ 1 ∷ []; word = child v 1 }) (all 1 (omega arith) (omega (arith, shape.letters_low)))) [
    | inl e ↦ absurd (omega (arith, ap (λ (d : Entry). length d.letters) e, length-append z (1 ∷ [])))
    | inr n ↦ Contains-nil (record { letters = z ++ 1 ∷ []; word = child v 1 }) n
  ];
}

-- it sends letters to the word with the letters
pub cone_sends : (u : Word) (t : List ℕ) → Sends (cone_of u) t (u · t)
cone_sends u t = record { entry = record { letters = []; word = u }; rest = t; listed = Contains-here (record { letters = []; word = u }) []; from = refl; to = refl }

-- words behind root 1 that cover it cover u behind u
covers_shifted : (shape : Shape) (u : Word) (L : List Entry) → IsWordOf shape u → Covers shape (words_behind (root_word 1) L) (root_word 1 ∷ []) → Covers shape (words_behind u L) (u ∷ [])
covers_shifted shape u L word h = covers_from shape (words_behind u L) (u ∷ []) words free (length u.letters + reach_of L) same
  where
    letters : (e : Entry) → Contains L e → IsLetters shape e.letters
    letters e c = word_rest shape (root_word 1) e.letters (All-contains (IsWordOf shape) (words_behind (root_word 1) L) (root_word 1 · e.letters) h.words (Contains-map (λ (d : Entry). root_word 1 · d.letters) L e c))

    words : All (IsWordOf shape) (words_behind u L)
    words = All-from_contains (IsWordOf shape) (words_behind u L) (λ w c.
        let g = contained_in_map (λ (d : Entry). u · d.letters) L w c in
        subst (IsWordOf shape) g.2 (word_after shape u g.0.letters word (letters g.0 g.1)))

    shifted : (d e : Entry) → IsUnder (u · d.letters) (u · e.letters) → IsUnder (root_word 1 · d.letters) (root_word 1 · e.letters)
    shifted d e k = record { rest = k.rest; is = ap (λ z. root_word 1 · z) (after_cancel u d.letters (e.letters ++ k.rest) (k.is ∙ after-append u e.letters k.rest)) }

    free : IsPrefixFree (words_behind u L)
    free = AllPairs-map (λ (d : Entry). u · d.letters) AreApart L
        (AllPairs-weaker (λ (d : Entry) (e : Entry). AreApart (root_word 1 · d.letters) (root_word 1 · e.letters)) (λ (d : Entry) (e : Entry). AreApart (u · d.letters) (u · e.letters)) L
        (AllPairs-from_map (λ (d : Entry). root_word 1 · d.letters) AreApart L h.prefix_free)
        (λ d e c m apart. ((λ k. apart.0 (shifted d e k)), (λ k. apart.1 (shifted e d k)))))

    same : (w : Word) → IsWordOf shape w → length u.letters + reach_of L ≤ length w.letters → IsUnderSome w (words_behind u L) ↔ IsUnderSome w (u ∷ [])
    same w hw l = (
      (λ s.
          let g = contained_in_map (λ (d : Entry). u · d.letters) L s.above s.listed in
          some_at (u ∷ []) u w (Contains-here u []) (record { rest = g.0.letters ++ s.under.rest; is = s.under.is ∙ ap (λ v. v · s.under.rest) (sym g.2) ∙ after-append u g.0.letters s.under.rest })),
      (λ s. elim (Contains-cons_cases u [] s.above s.listed) [
        | inr n ↦ absurd (Contains-nil s.above n)
        | inl e ↦ (
            let is : w ≡ u · s.under.rest = s.under.is ∙ ap (λ v. v · s.under.rest) (sym e) in
            let z = s.under.rest in
            let far : reach_of L ≤ length z = omega (arith, ap (λ (v : Word). length v.letters) is, length-after u z) in
            let t = (covers_long shape (words_behind (root_word 1) L) (root_word 1 ∷ []) h (root_word 1 · z) (word_after shape (root_word 1) z (root_one shape) (word_rest shape u z (subst (IsWordOf shape) is hw))) (omega (arith, far))).1
            (some_at (root_word 1 ∷ []) (root_word 1) (root_word 1 · z) (Contains-here (root_word 1) []) (under_after (root_word 1) z)) in
            let g = contained_in_map (λ (d : Entry). root_word 1 · d.letters) L t.above t.listed in
            let rest : z ≡ g.0.letters ++ t.under.rest = after_cancel (root_word 1) z (g.0.letters ++ t.under.rest) (t.under.is ∙ ap (λ v. v · t.under.rest) (sym g.2)) in
            some_at (words_behind u L) (u · g.0.letters) w (Contains-map (λ (d : Entry). u · d.letters) L g.0 g.1) (record { rest = t.under.rest; is = is ∙ ap (λ y. u · y) rest ∙ sym (after-append u g.0.letters t.under.rest) }))
      ]),
    )

-- what follows the list of one word by a power is the image of the word
pub followed_image : (shape : Shape) (p : List Row) (k : ℤ) (u : Word) (L : List Entry) → IsWordOf shape u → IsFollowed shape (cone_of u) p k L → IsImage shape p k u L
followed_image shape p k u L word h = record {
  order = h.value_list.order;
  covers = covers_shifted shape u L word h.value_list.covers;
  carries = All-from_contains (λ (e : Entry). Carries shape p k (u · e.letters) e.word) L (λ e c. record {
    word = word_after shape u e.letters word (letters e c);
    carried = λ z w hz st.
        h.followed (e.letters ++ z) (u · (e.letters ++ z)) w (e.word · z) (letters_append shape e.letters z (letters e c) hz) (cone_sends u (e.letters ++ z))
        (subst (λ v. Steps p k v w) (after-append u e.letters z) st) (record { entry = e; rest = z; listed = c; from = refl; to = refl });
  });
  merged = h.value_list.merged;
}
  where
    letters : (e : Entry) → Contains L e → IsLetters shape e.letters
    letters e c = word_rest shape (root_word 1) e.letters (All-contains (IsWordOf shape) (words_behind (root_word 1) L) (root_word 1 · e.letters) h.value_list.covers.words (Contains-map (λ (d : Entry). root_word 1 · d.letters) L e c))
