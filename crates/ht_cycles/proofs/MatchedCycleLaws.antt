-- Matched lists have equally many cycles of each length modulo n - 1.
use Rattle.std.proofs.Common.{◌≡◌, ℕ, ◌+◌, ◌*◌, ◌-◌, ◌/◌, ◌%◌, ◌≤◌, ◌↔◌, inl, inr, List, length, drop, sym, ap, ◌∙◌, subst, subst₂, arith, All, Contains, pos}
use Rattle.std.proofs.Math.Nat.{mul-div_cancel_left}
use Rattle.std.proofs.lemmas.List.{length-map}
use Rattle.std.proofs.lemmas.List.Elements.{All-contains}
use Rattle.ht_word.specs.Words.{◌·◌, IsLetters, IsWordOf, IsUnder, IsUnderSome}
use Rattle.ht_word.specs.declared.shape.Shape.{Shape}
use Rattle.ht_word.specs.declared.word.Word.{Word}
use Rattle.ht_word.proofs.ListLaws.{Contains-map, contained_in_map, AllPairs-from_map, AllPairs-map, AllPairs-weaker}
use Rattle.ht_word.proofs.WordLaws.{after_cancel_right, length-after, under_after, under_both, word_after, word_front, word_rest, All-from_contains}
use Rattle.ht_num.proofs.NumberLaws.{least_same}
use Rattle.ht_pair.specs.Actions.{Moves}
use Rattle.ht_pair.specs.Bases.{AreApart, IsPrefixFree, longest, Covers}
use Rattle.ht_pair.specs.Kinds.{IsCycle}
use Rattle.ht_pair.specs.Pairs.{to_words, IsPair}
use Rattle.ht_pair.specs.Steps.{Carries}
use Rattle.ht_pair.specs.declared.row.Row.{Row}
use Rattle.ht_pair.proofs.BasisLaws.{prefix_free_same, longest_bounds, some_at, some_trans, front, front_is, length-front, under_front, covers_from}
use Rattle.ht_pair.proofs.CarriesLaws.{carries_single, carries_extends}
use Rattle.ht_pair.proofs.MovesLaws.{moves_extends, moves_back}
use Rattle.ht_pair.proofs.PrefixMapLaws.{RowsOf, rows_of}
use Rattle.ht_types.proofs.PeriodicLaws.{cycle_moved}
use Rattle.ht_cycles.proofs.LevelLaws.{IsOnLevel, Level, level, level_size, covers_size}
use Rattle.ht_cycles.proofs.MatchingLaws.{IsSent, IsMatching}
use Rattle.ht_cycles.specs.Cycles.{Reaches}
use Rattle.ht_cycles.proofs.RepresentativeLaws.{reaches_then, reaches_back, IsPermuted, Representatives, representatives}

-- ---- lengths of cycles

-- steps that lead back to a word under a word that is permuted lead back to that word
back_above : (shape : Shape) (g : List Row) → IsPair shape g → (W : List Word) → IsPermuted shape g W → (k : ℕ) (y : Word) (z : List ℕ) → Contains W y → IsLetters shape z → Carries shape g (pos k) (y · z) (y · z) → Carries shape g (pos k) y y
back_above shape g pair W perm k y z c hz carries =
    let r = perm.moves k y c in
    let same : r.0 · z ≡ y · z = carries_single shape g pair (pos k) (y · z) (r.0 · z) (y · z) (carries_extends shape g (pos k) y r.0 z hz r.2) carries in
    subst (Carries shape g (pos k) y) (after_cancel_right r.0 y z same) r.2

-- a word of V and the word of W above the image of a long word under it
record IsImageOf (shape : Shape) (h : List Row) (V W : List Word) (bound : ℕ) (v y : Word) : Type 0 where
  from_listed : Contains V v
  to_listed : Contains W y
  behind : List ℕ
  rest : List ℕ
  word : IsWordOf shape (v · behind)
  letters : IsLetters shape rest
  moved : Moves h (v · behind) (y · rest)
  long : bound ≤ length ((v · behind).letters)

-- the same steps lead back to both
same_rounds : (shape : Shape) (f g : List Row) → IsPair shape f → IsPair shape g → (V W : List Word) (h : List Row) (bound : ℕ) → IsPermuted shape f V → IsPermuted shape g W → IsMatching shape f V g W h bound → (v y : Word) → IsImageOf shape h V W bound v y
    → (k : ℕ) → Carries shape f (pos k) v v ↔ Carries shape g (pos k) y y
same_rounds shape f g pair_f pair_g V W h bound perm_f perm_g match v y i k =
    let u = v · i.behind in
    let w = y · i.rest in
    let under = some_at V v u i.from_listed (under_after v i.behind) in
    let hz = word_rest shape v i.behind i.word in (
      (λ c. back_above shape g pair_g W perm_g k y i.rest i.to_listed i.letters (match.follows k u u w w i.word under i.long i.moved i.moved (carries_extends shape f (pos k) v v i.behind hz c))),
      (λ c. back_above shape f pair_f V perm_f k v i.behind i.from_listed hz (match.returns k u u w w i.word under i.long i.moved i.moved (carries_extends shape g (pos k) y y i.rest i.letters c))),
    )

-- so their cycles have one length
same_length : (shape : Shape) (f g : List Row) → IsPair shape f → IsPair shape g → (V W : List Word) (h : List Row) (bound : ℕ) → IsPermuted shape f V → IsPermuted shape g W → IsMatching shape f V g W h bound → (v y : Word) → IsImageOf shape h V W bound v y
    → (m : ℕ) → IsCycle shape f v m ↔ IsCycle shape g y m
same_length shape f g pair_f pair_g V W h bound perm_f perm_g match v y i m =
    let same = same_rounds shape f g pair_f pair_g V W h bound perm_f perm_g match v y i in (
      least_same (λ k. Carries shape f (pos k) v v) (λ k. Carries shape g (pos k) y y) (λ k. (same k).0) (λ k. (same k).1) m,
      least_same (λ k. Carries shape g (pos k) y y) (λ k. Carries shape f (pos k) v v) (λ k. (same k).1) (λ k. (same k).0) m,
    )

-- a long word and its image are under such two
image_above : (shape : Shape) (h : List Row) (V W : List Word) (bound : ℕ) (u w : Word) → IsWordOf shape u → IsWordOf shape w → (s : IsUnderSome u V) → (t : IsUnderSome w W) → Moves h u w → bound ≤ length u.letters → IsImageOf shape h V W bound s.above t.above
image_above shape h V W bound u w word_u word_w s t moved l = record {
  from_listed = s.listed;
  to_listed = t.listed;
  behind = s.under.rest;
  rest = t.under.rest;
  word = subst (IsWordOf shape) s.under.is word_u;
  letters = word_rest shape t.above t.under.rest (subst (IsWordOf shape) t.under.is word_w);
  moved = subst₂ (Moves h) s.under.is t.under.is moved;
  long = subst (λ (x : Word). bound ≤ length x.letters) s.under.is l;
}

-- what is under a list is under one that has its words
under_wider : (A V : List Word) (u : Word) → ((x : Word) → Contains A x → Contains V x) → IsUnderSome u A → IsUnderSome u V
under_wider A V u listed s = some_at V s.above u (listed s.above s.listed) s.under

-- the words of V of cycles of one length
pub record AreOfLength (shape : Shape) (f : List Row) (V : List Word) (m : ℕ) (A : List Word) : Type 0 where
  pub same : (x : Word) → Contains A x ↔ (Contains V x × IsCycle shape f x m)

-- f permutes these as well
pub permuted_of_length : (shape : Shape) (f : List Row) → IsPair shape f → (V A : List Word) (m : ℕ) → IsPermuted shape f V → IsPrefixFree A → AreOfLength shape f V m A → IsPermuted shape f A
permuted_of_length shape f pair V A m perm free of = record {
  words = All-from_contains (IsWordOf shape) A (λ x c. All-contains (IsWordOf shape) V x perm.words ((of.same x).0 c).0);
  free = free;
  cycle = λ v c. (m, ((of.same v).0 c).1);
  moves = λ k v c. let was = (of.same v).0 c in let r = perm.moves k v was.0 in (r.0, (of.same r.0).1 (r.1, cycle_moved shape f pair (pos k) v r.0 m r.2 was.1), r.2);
}

-- and they are matched
pub match_of_length : (shape : Shape) (f g : List Row) → IsPair shape f → IsPair shape g → (V W : List Word) (h : List Row) (bound : ℕ) → IsPermuted shape f V → IsPermuted shape g W → IsMatching shape f V g W h bound
    → (m : ℕ) (A B : List Word) → AreOfLength shape f V m A → AreOfLength shape g W m B → IsMatching shape f A g B h (bound + bound)
match_of_length shape f g pair_f pair_g V W h bound perm_f perm_g match m A B of_A of_B = record {
  one = match.one;
  ahead = λ u j word under l.
      let s : IsUnderSome u V = record { above = under.above; listed = ((of_A.same under.above).0 under.listed).0; under = under.under } in
      let r = match.ahead u j word s (omega arith) in
      let image = image_above shape h V W bound u r.to word r.word s r.under r.moved (omega arith) in
      let cycle = (same_length shape f g pair_f pair_g V W h bound perm_f perm_g match s.above r.under.above image m).0 ((of_A.same s.above).0 under.listed).1 in
      record { to = r.to; moved = r.moved; word = r.word; under = some_at B r.under.above r.to ((of_B.same r.under.above).1 (r.under.listed, cycle)) r.under.under; long = r.long };
  behind = λ w j word under l.
      let t : IsUnderSome w W = record { above = under.above; listed = ((of_B.same under.above).0 under.listed).0; under = under.under } in
      let r = match.behind w (bound + j) word t (omega arith) in
      let image = image_above shape h V W bound r.to w r.word word r.under t (moves_back h r.to w r.moved) (omega (arith, r.long)) in
      let cycle = (same_length shape f g pair_f pair_g V W h bound perm_f perm_g match r.under.above t.above image m).1 ((of_B.same t.above).0 under.listed).1 in
      record { to = r.to; moved = r.moved; word = r.word; under = some_at A r.under.above r.to ((of_A.same r.under.above).1 (r.under.listed, cycle)) r.under.under; long = omega (arith, r.long) };
  follows = λ k u u' w w' word under l. match.follows k u u' w w' word (under_wider A V u (λ x c. ((of_A.same x).0 c).0) under) (omega arith);
  returns = λ k u u' w w' word under l. match.returns k u u' w w' word (under_wider A V u (λ x c. ((of_A.same x).0 c).0) under) (omega arith);
}

-- ---- representatives

-- what a word under a representative reaches under another is that word
once_below : (shape : Shape) (g : List Row) → IsPair shape g → (W : List Word) (m : ℕ) → IsPermuted shape g W → (R : Representatives shape g W m) → (u w : Word) → IsUnderSome u R.words → IsUnderSome w R.words → Reaches shape g u w → u ≡ w
once_below shape g pair W m perm R u w s t h =
    let r = s.above in
    let z = s.under.rest in
    let is : u ≡ r · z = s.under.is in
    let hz = word_rest shape r z (subst (IsWordOf shape) is h.carries.word) in
    let y = perm.moves h.steps r (R.listed r s.listed) in
    let there : w ≡ y.0 · z = carries_single shape g pair (pos h.steps) u w (y.0 · z) h.carries (subst (λ t. Carries shape g (pos h.steps) t (y.0 · z)) (sym is) (carries_extends shape g (pos h.steps) r y.0 z hz y.2)) in
    let same : y.0 ≡ t.above = free_above W perm.free w y.0 t.above y.1 (R.listed t.above t.listed) (record { rest = z; is = there }) t.under in
    let one : r ≡ t.above = R.once r t.above s.listed t.listed (record { steps = h.steps; carries = subst (Carries shape g (pos h.steps) r) same y.2 }) in
    is ∙ ap (λ t. t · z) (one ∙ sym same) ∙ sym there
  where
    free_above : (W : List Word) → IsPrefixFree W → (w x y : Word) → Contains W x → Contains W y → IsUnder w x → IsUnder w y → x ≡ y
    free_above W free w x y c d a b = elim (under_both a b) [
      | inl k ↦ prefix_free_same W free x y c d k
      | inr k ↦ sym (prefix_free_same W free y x d c k)
    ]

-- the image of r is reached from s, a word under a representative
record IsLed (shape : Shape) (g h : List Row) (S : List Word) (r s : Word) : Type 0 where
  to : Word
  moved : Moves h r to
  under : IsUnderSome s S
  reaches : Reaches shape g s to

-- each long word is so for one
led : (shape : Shape) (g h : List Row) (B : List Word) (m : ℕ) → (S : Representatives shape g B m) → (r : Word) → IsSent shape h B r 0 → (s : Word) × IsLed shape g h S.words r s
led shape g h B m S r sent =
    let b = sent.under.above in
    let z = sent.under.under.rest in
    let is : sent.to ≡ b · z = sent.under.under.is in
    let hz = word_rest shape b z (subst (IsWordOf shape) is sent.word) in
    let c = S.reach b sent.under.listed in (
      c.0 · z,
      record {
        to = sent.to;
        moved = sent.moved;
        under = some_at S.words c.0 (c.0 · z) c.1 (under_after c.0 z);
        reaches = record { steps = c.2.steps; carries = subst (Carries shape g (pos c.2.steps) (c.0 · z)) (sym is) (carries_extends shape g (pos c.2.steps) c.0 b z hz c.2.carries) };
      },
    )

-- two matched lists, with a word of each cycle
record HasBoth (shape : Shape) (f g : List Row) (A B : List Word) (h : List Row) (bound m j : ℕ) : Type 0 where
  pair_f : IsPair shape f
  pair_g : IsPair shape g
  perm_f : IsPermuted shape f A
  perm_g : IsPermuted shape g B
  match : IsMatching shape f A g B h bound
  first : Representatives shape f A m
  second : Representatives shape g B j

-- steps lead from a word under a representative back to it
round_below : (shape : Shape) (g : List Row) (B : List Word) (j : ℕ) → IsPermuted shape g B → (S : Representatives shape g B j) → (s : Word) → IsWordOf shape s → IsUnderSome s S.words → (m : ℕ) × (1 ≤ m) × Carries shape g (pos m) s s
round_below shape g B j perm S s word under =
    let b = under.above in
    let z = under.under.rest in
    let cycle = perm.cycle b (S.listed b under.listed) in
    let hz = word_rest shape b z (subst (IsWordOf shape) under.under.is word) in
    (cycle.0, cycle.1.positive, subst (λ t. Carries shape g (pos cycle.0) t t) (sym under.under.is) (carries_extends shape g (pos cycle.0) b b z hz cycle.1.holds))

-- words that are led to words under one another are so as well
led_under : (shape : Shape) (f g : List Row) (A B : List Word) (h : List Row) (bound m j : ℕ) → (both : HasBoth shape f g A B h bound m j) → (r r' s s' : Word) → IsWordOf shape r → IsUnderSome r both.first.words → IsUnderSome r' both.first.words → bound ≤ length r.letters
    → IsLed shape g h both.second.words r s → IsLed shape g h both.second.words r' s' → IsUnder s s' → IsUnder r r'
led_under shape f g A B h bound m j both r r' s s' word under under' l a b k =
    let y = k.rest in
    let word_s : IsWordOf shape s = a.reaches.carries.word in
    let hy = word_rest shape s' y (subst (IsWordOf shape) k.is word_s) in
    let there : Reaches shape g s (b.to · y) = record { steps = b.reaches.steps; carries = subst (λ t. Carries shape g (pos b.reaches.steps) t (b.to · y)) (sym k.is) (carries_extends shape g (pos b.reaches.steps) s' b.to y hy b.reaches.carries) } in
    let round = round_below shape g B j both.perm_g both.second s word_s a.under in
    let on = reaches_then shape g both.pair_g a.to s (b.to · y) (reaches_back shape g both.pair_g round.0 s a.to round.1 round.2 a.reaches) there in
    let back = both.match.returns on.steps r (r' · y) a.to (b.to · y) word (under_wider both.first.words A r both.first.listed under) l a.moved (moves_extends h r' b.to y b.moved) on.carries in
    record { rest = y; is = once_below shape f both.pair_f A m both.perm_f both.first r (r' · y) under (some_trans (under_after r' y) under') (record { steps = on.steps; carries = back }) }

-- u is the image of a word that a long word under a representative reaches
record IsReached (shape : Shape) (f h : List Row) (R : List Word) (L : ℕ) (u : Word) : Type 0 where
  from : Word
  word : IsWordOf shape from
  under : IsUnderSome from R
  long : L ≤ length from.letters
  to : Word
  reaches : Reaches shape f from to
  moved : Moves h to u

-- a word under the list is reached so
reached_below : (shape : Shape) (f h : List Row) (A : List Word) (m : ℕ) → (R : Representatives shape f A m) → (L : ℕ) (u y : Word) → IsWordOf shape y → IsUnderSome y A → L + longest A ≤ length y.letters → Moves h y u → IsReached shape f h R.words L u
reached_below shape f h A m R L u y word under l moved =
    let a = under.above in
    let z = under.under.rest in
    let is : y ≡ a · z = under.under.is in
    let hz = word_rest shape a z (subst (IsWordOf shape) is word) in
    let r = R.reach a under.listed in
    record {
      from = r.0 · z;
      word = word_after shape r.0 z r.2.carries.word hz;
      under = some_at R.words r.0 (r.0 · z) r.1 (under_after r.0 z);
      long = omega (arith, longest_bounds A a under.listed, ap (λ (x : Word). length x.letters) is, length-after a z, length-after r.0 z);
      to = y;
      reaches = record { steps = r.2.steps; carries = subst (Carries shape f (pos r.2.steps) (r.0 · z)) (sym is) (carries_extends shape f (pos r.2.steps) r.0 a z hz r.2.carries) };
      moved = moved;
    }

-- a word under the list with no less letters than its level is under a word of the level
on_level : (shape : Shape) (L : ℕ) (R : List Word) → longest R ≤ L → (lev : Level shape L R) → (w : Word) → IsWordOf shape w → IsUnderSome w R → L ≤ length w.letters → (r : Word) × Contains lev.words r × IsUnder w r
on_level shape L R short lev w word under l =
    let r = front w L in
    let z = drop L w.letters in
    let is : w ≡ r · z = front_is w L in
    let s : IsUnderSome r R = some_at R under.above r under.listed (under_front w under.above L l under.under (omega (arith, longest_bounds R under.above under.listed))) in
    (r, lev.all r (record { word = word_front shape r z (subst (IsWordOf shape) is word); long = length-front w L l; under = s }), record { rest = z; is = is })

-- a word that the image of a word below r reaches is below the word to which r is led
below_led : (shape : Shape) (f g : List Row) (A B : List Word) (h : List Row) (bound m j : ℕ) → (both : HasBoth shape f g A B h bound m j) → (r s : Word) → IsLed shape g h both.second.words r s → (w y u : Word) → IsWordOf shape w → IsUnderSome w both.first.words → bound ≤ length w.letters → IsUnder w r
    → Reaches shape f w y → Moves h y u → IsUnderSome u both.second.words → IsUnder u s
below_led shape f g A B h bound m j both r s led w y u word under l k reaches moved under_u =
    let z = k.rest in
    let is : w ≡ r · z = k.is in
    let hz = word_rest shape r z (subst (IsWordOf shape) is word) in
    let image : Moves h w (led.to · z) = subst (λ t. Moves h t (led.to · z)) (sym is) (moves_extends h r led.to z led.moved) in
    let over = both.match.follows reaches.steps w y (led.to · z) u word (under_wider both.first.words A w both.first.listed under) l image moved reaches.carries in
    let first : Reaches shape g (s · z) (led.to · z) = record { steps = led.reaches.steps; carries = carries_extends shape g (pos led.reaches.steps) s led.to z hz led.reaches.carries } in
    let all = reaches_then shape g both.pair_g (s · z) (led.to · z) u first (record { steps = reaches.steps; carries = over }) in
    record { rest = z; is = sym (once_below shape g both.pair_g B j both.perm_g both.second (s · z) u (some_trans (under_after s z) led.under) under_u all) }

-- a long word under a representative of the one list is under a word to which one of the level of the other's is led
led_to : (shape : Shape) (f g : List Row) (A B : List Word) (h : List Row) (bound m j : ℕ) → (both : HasBoth shape f g A B h bound m j) → (L : ℕ) → bound ≤ L → longest both.first.words ≤ L → (lev : Level shape L both.first.words) → (rows : RowsOf (IsLed shape g h both.second.words) lev.words)
    → (u : Word) → IsWordOf shape u → IsUnderSome u both.second.words → bound + (L + longest A) ≤ length u.letters → IsUnderSome u (to_words rows.rows)
led_to shape f g A B h bound m j both L few short lev rows u word under l =
    let t = both.match.behind u (L + longest A) word (under_wider both.second.words B u both.second.listed under) l in
    let c = reached_below shape f h A m both.first L u t.to t.word t.under t.long (moves_back h t.to u t.moved) in
    at c (on_level shape L both.first.words short lev c.from c.word c.under c.long)
  where
    at : (c : IsReached shape f h both.first.words L u) → (r : Word) × Contains lev.words r × IsUnder c.from r → IsUnderSome u (to_words rows.rows)
    at c r =
        let row = contained_in_map (λ (x : Row). x.from) rows.rows r.0 (subst (λ (X : List Word). Contains X r.0) (sym rows.from_is) r.1) in
        some_at (to_words rows.rows) row.0.to u (Contains-map (λ (x : Row). x.to) rows.rows row.0 row.1)
        (below_led shape f g A B h bound m j both row.0.from row.0.to (rows.by row.0 row.1) c.from c.to u c.word c.under (omega (arith, c.long)) (subst (IsUnder c.from) (sym row.2) r.2) c.reaches c.moved under)

-- the words to which those of the level are led cover the representatives of the other list
led_cover : (shape : Shape) (f g : List Row) (A B : List Word) (h : List Row) (bound m j : ℕ) → (both : HasBoth shape f g A B h bound m j) → (L : ℕ) → bound ≤ L → longest both.first.words ≤ L → (lev : Level shape L both.first.words) → (rows : RowsOf (IsLed shape g h both.second.words) lev.words)
    → Covers shape (to_words rows.rows) both.second.words
led_cover shape f g A B h bound m j both L few short lev rows = covers_from shape (to_words rows.rows) both.second.words
    (All-from_contains (IsWordOf shape) (to_words rows.rows) (λ s c. let row = contained_in_map (λ (x : Row). x.to) rows.rows s c in subst (IsWordOf shape) row.2 (rows.by row.0 row.1).reaches.carries.word))
    (AllPairs-map (λ (x : Row). x.to) AreApart rows.rows (AllPairs-weaker (λ x y. AreApart x.from y.from) (λ x y. AreApart x.to y.to) rows.rows (AllPairs-from_map (λ (x : Row). x.from) AreApart rows.rows (subst IsPrefixFree (sym rows.from_is) lev.free))
    (λ x y c d apart. (λ k. apart.0 (under x y c d k), λ k. apart.1 (under y x d c k)))))
    (bound + (L + longest A))
    (λ u word l. (
      λ s. let row = contained_in_map (λ (x : Row). x.to) rows.rows s.above s.listed in some_trans (subst (IsUnder u) (sym row.2) s.under) (rows.by row.0 row.1).under,
      λ s. led_to shape f g A B h bound m j both L few short lev rows u word s l,
    ))
  where
    on : (x : Row) → Contains rows.rows x → IsOnLevel shape L both.first.words x.from
    on x c = lev.each x.from (subst (λ (X : List Word). Contains X x.from) rows.from_is (Contains-map (λ (t : Row). t.from) rows.rows x c))

    under : (x y : Row) → Contains rows.rows x → Contains rows.rows y → IsUnder x.to y.to → IsUnder x.from y.from
    under x y c d k = led_under shape f g A B h bound m j both x.from y.from x.to y.to (on x c).word (on x c).under (on y d).under (omega (arith, (on x c).long)) (rows.by x c) (rows.by y d) k

-- so both have as many representatives modulo n - 1
matched_size : (shape : Shape) (f g : List Row) (A B : List Word) (h : List Row) (bound m j : ℕ) → (both : HasBoth shape f g A B h bound m j) → length both.first.words % (shape.n - 1) ≡ length both.second.words % (shape.n - 1)
matched_size shape f g A B h bound m j both =
    let L = bound + longest both.first.words in
    let words : All (IsWordOf shape) both.first.words = All-from_contains (IsWordOf shape) both.first.words (λ r c. All-contains (IsWordOf shape) A r both.perm_f.words (both.first.listed r c)) in
    let others : All (IsWordOf shape) both.second.words = All-from_contains (IsWordOf shape) both.second.words (λ r c. All-contains (IsWordOf shape) B r both.perm_g.words (both.second.listed r c)) in
    by L (omega arith) (omega arith) (level shape L both.first.words words both.first.free (omega arith)) others
  where
    by : (L : ℕ) → bound ≤ L → longest both.first.words ≤ L → (lev : Level shape L both.first.words) → All (IsWordOf shape) both.second.words → length both.first.words % (shape.n - 1) ≡ length both.second.words % (shape.n - 1)
    by L few short lev others =
        let rows = rows_of (IsLed shape g h both.second.words) lev.words (λ r c. let e = lev.each r c in led shape g h B j both.second r (both.match.ahead r 0 e.word (under_wider both.first.words A r both.first.listed e.under) (omega (arith, e.long)))) in
        let size : length (to_words rows.rows) ≡ length lev.words = length-map rows.rows (λ (x : Row). x.to) ∙ sym (length-map rows.rows (λ (x : Row). x.from)) ∙ ap (λ (X : List Word). length X) rows.from_is in
        sym (level_size shape L both.first.words lev) ∙ ap (λ k. k % (shape.n - 1)) (sym size) ∙ covers_size shape (to_words rows.rows) both.second.words others both.second.free (led_cover shape f g A B h bound m j both L few short lev rows)

-- and as many cycles of the one length, which the words of both have
pub matched_cycles : (shape : Shape) (f g : List Row) → IsPair shape f → IsPair shape g → (A B : List Word) (h : List Row) (bound m : ℕ) → IsPermuted shape f A → IsPermuted shape g B → IsMatching shape f A g B h bound → ((v : Word) → Contains A v → IsCycle shape f v m) → ((v : Word) → Contains B v → IsCycle shape g v m)
    → 1 ≤ m → (length A / m) % (shape.n - 1) ≡ (length B / m) % (shape.n - 1)
matched_cycles shape f g pair_f pair_g A B h bound m perm_f perm_g match cycles_A cycles_B positive =
    let R = representatives shape f pair_f A perm_f m cycles_A in
    let S = representatives shape g pair_g B perm_g m cycles_B in
    let size = matched_size shape f g A B h bound m m (record { pair_f = pair_f; pair_g = pair_g; perm_f = perm_f; perm_g = perm_g; match = match; first = R; second = S }) in
    ap (λ k. k % (shape.n - 1)) (parts (length A) m (length R.words) R.size positive) ∙ size ∙ sym (ap (λ k. k % (shape.n - 1)) (parts (length B) m (length S.words) S.size positive))
  where
    parts : (a m r : ℕ) → a ≡ m * r → 1 ≤ m → a / m ≡ r
    parts a m r e l = ap (λ k. k / m) e ∙ mul-div_cancel_left r (omega arith)
