-- Powers of an element of finite order carry each word of its basis X to a word of X: rows over X are such a power, and none is larger than these.
use Rattle.std.proofs.Common.{◌≡◌, ◌≤◌, ◌<◌, ◌+◌, ℕ, ℤ, pos, neg_ℤ, inl, inr, List, [], ◌∷◌, ◌++◌, length, map, take, get_or, slice_index, Option, Some, slice_get, option_map, refl, sym, ap, ◌∙◌, subst, arith, All, Contains}
use Rattle.std.proofs.lemmas.Int.{ints}
use Rattle.std.proofs.lemmas.List.{length-append, length-map, take_more, map-append}
use Rattle.std.proofs.lemmas.List.Elements.{All-contains}
use Rattle.std.proofs.lemmas.Option.{slice_get_within, get_or_from_slice_get, slice_get-get_or, slice_get-map, slice_get_read}
use Rattle.ht_word.specs.declared.shape.Shape.{Shape}
use Rattle.ht_word.specs.declared.word.Word.{Word}
use Rattle.ht_word.specs.Words.{◌·◌, IsAscending, IsUnder, IsWordOf}
use Rattle.ht_word.proofs.ListLaws.{Contains-map, contained_in_map, AllPairs-from_map, AllPairs-map, AllPairs-weaker}
use Rattle.ht_word.proofs.WordLaws.{after-nil, under_refl, word_rest, All-from_contains}
use Rattle.ht_pair.specs.Actions.{IsCanonicalFor}
use Rattle.ht_pair.specs.Bases.{AreApart, IsBasis, IsPrefixFree, longest}
use Rattle.ht_pair.specs.Elements.{ElementValue, IsElement}
use Rattle.ht_pair.specs.Kinds.{IsCycleWord}
use Rattle.ht_pair.specs.Pairs.{IsPair, from_words, to_words, longest_of}
use Rattle.ht_pair.specs.PowerSizes.{Plus}
use Rattle.ht_pair.specs.Products.{IsPower}
use Rattle.ht_pair.specs.SemiNormal.{IsSemiNormal}
use Rattle.ht_pair.specs.Sizes.{IsLarge}
use Rattle.ht_pair.specs.Steps.{Carries, Steps}
use Rattle.ht_pair.specs.declared.row.Row.{Row}
use Rattle.ht_pair.proofs.AlikeLaws.{alike_sym, alike_trans}
use Rattle.ht_pair.proofs.BasisLaws.{basis_from, basis_holds, basis_single, basis_word, longest_least, prefix_free_same, some_at}
use Rattle.ht_pair.proofs.CarriesLaws.{carries_back, carries_injective, carries_single, carries_sum}
use Rattle.ht_pair.proofs.ExistenceLaws.{reduced_exists}
use Rattle.ht_pair.proofs.LargePowerLaws.{NoneFirst}
use Rattle.ht_pair.proofs.PowerLaws.{power_once}
use Rattle.ht_pair.proofs.PrefixMapLaws.{RowsOf, rows_of}
use Rattle.ht_pair.proofs.SizeLaws.{alike_not_large}
use Rattle.ht_ops.proofs.AlikeProducts.{power_alike}
use Rattle.ht_quasi.proofs.StepLaws.{at_place, at_push, listed_at, same_at}
use Rattle.ht_quasi.proofs.RoundLaws.{something_at}
use Rattle.ht_types.proofs.PeriodicLaws.{cycle_around}
use Rattle.ht_types.specs.WordSteps.{LeadsTo, HasStep}
use Rattle.ht_types.specs.declared.step.Step.{Step}
use Rattle.ht_types.specs.declared.step.Step.TheVariants.{Splits, Leads}
use Rattle.ht_types.specs.TypedElements.{TypedValue, IsTyped}
use Rattle.ht_parts.proofs.CycleTests.{all_cycles}
use Rattle.ht_power.specs.CyclePowers.{IsFinite, AreLed, ArePlaced}

-- ---- rows from words to the words at places

-- the rows from the first words, so many
pub record ArePlacedTo (W : List Word) (places : List ℕ) (count : ℕ) (rows : List Row) : Type 0 where
  pub from : from_words rows ≡ take count W
  pub to : map (λ (row : Row). Some row.to) rows ≡ map (λ (to : ℕ). slice_get W to) (take count places)

-- a copy of the word at a place
pub word_copied : (W : List Word) (place : ℕ) (read copy : Word) → place < length W → read ≡ get_or W place read → copy ≡ read → slice_get W place ≡ Some copy
word_copied W place read copy inside is same = slice_get_read W (length W) place read refl inside is ∙ ap (λ (w : Word). Some w) (sym same)

-- one more row
pub one_more_placed : (W : List Word) (places : List ℕ) (count to : ℕ) (rows new : List Row) (row : Row) → ArePlacedTo W places count rows → slice_get W count ≡ Some row.from → slice_get places count ≡ Some to → slice_get W to ≡ Some row.to
    → new ≡ rows ++ row ∷ [] → ArePlacedTo W places (count + 1) new
one_more_placed W places count to rows new row are here at there added = subst (ArePlacedTo W places (count + 1)) (sym added) (record {
  from = map-append (λ (r : Row). r.from) rows (row ∷ []) ∙ ap (λ (V : List Word). V ++ row.from ∷ []) are.from ∙ sym (taken W count row.from here);
  to = map-append (λ (r : Row). Some r.to) rows (row ∷ []) ∙ ap (λ (os : List (Option Word)). os ++ Some row.to ∷ []) are.to ∙ ap (λ (o : Option Word). map (λ (i : ℕ). slice_get W i) (take count places) ++ o ∷ []) (sym there)
      ∙ sym (ap (λ (is : List ℕ). map (λ (i : ℕ). slice_get W i) is) (taken places count to at) ∙ map-append (λ (i : ℕ). slice_get W i) (take count places) (to ∷ []));
})
  where
    taken : {T : Type 0} (xs : List T) (i : ℕ) (x : T) → slice_get xs i ≡ Some x → take (i + 1) xs ≡ take i xs ++ x ∷ []
    taken xs i x e = take_more xs i x (slice_get_within xs i x e) ∙ ap (λ t. take i xs ++ t ∷ []) (get_or_from_slice_get xs i x x e)

-- ---- of an element of finite order

module _ (t : TypedValue) (typed : IsTyped t.element t.quasi t.kinds) (finite : IsFinite t) where
  abbrev shape : Shape
  shape = t.element.shape

  abbrev p : List Row
  p = t.element.rows

  abbrev X : List Word
  X = t.quasi.basis.words

  pair : IsPair shape p
  pair = typed.canonical.pair

  semi_normal : IsSemiNormal shape p X
  semi_normal = typed.quasinormal.least.semi_normal

  -- k steps carry each word of the basis to one
  around : (k : ℤ) (x : Word) → Contains X x → (y : Word) × Contains X y × Carries shape p k x y
  around k x c =
      let cycle = All-contains (IsCycleWord shape p) X x (all_cycles t.element t.quasi t.kinds typed finite) c in
      let on = cycle_around shape p pair X semi_normal k x cycle.0 c cycle.1 in
      (on.word, on.listed, on.carries)

  -- ---- places

  -- one step leads somewhere
  pub never_splits : (place : ℕ) (step : Step) → place < length X → ((x : Word) → slice_get X place ≡ Some x → HasStep shape p X (pos 1) x step) → step ≡ Splits → ⊥
  never_splits place step inside has e =
      let x = something_at X place inside in
      let y = around (pos 1) x.0 (listed_at X place x.0 x.1) in
      subst (HasStep shape p X (pos 1) x.0) e (has x.0 x.1) y.0 y.2

  -- with no letters behind
  leads_exactly : (x : Word) (to : ℕ) (rest : List ℕ) → Contains X x → LeadsTo shape p X (pos 1) x to rest → LeadsTo shape p X (pos 1) x to []
  leads_exactly x to rest c leads =
      let y = around (pos 1) x c in
      let same : leads.above · rest ≡ y.0 = carries_single shape p pair (pos 1) x (leads.above · rest) y.0 leads.carries y.2 in
      let one : leads.above ≡ y.0 = basis_single shape X semi_normal.basis y.0 leads.above y.0 (listed_at X to leads.above leads.here) y.1 (record { rest = rest; is = sym same }) (under_refl y.0) in
      record { above = leads.above; here = leads.here; carries = subst (Carries shape p (pos 1) x) (sym one ∙ sym (after-nil leads.above)) y.2 }

  -- one more place
  pub one_more_led : (count to : ℕ) (rest : List ℕ) (step : Step) (places new : List ℕ) → AreLed shape p X 1 count places → count < length X → ((x : Word) → slice_get X count ≡ Some x → HasStep shape p X (pos 1) x step) → step ≡ Leads to rest
      → new ≡ places ++ to ∷ [] → AreLed shape p X 1 (count + 1) new
  one_more_led count to rest step places new led inside has e added = subst (AreLed shape p X 1 (count + 1)) (sym added) (record {
    many = omega (arith, led.many, length-append places (to ∷ []));
    each = λ place i x here at. elim (at_push places to i place at) [
      | inl old ↦ led.each place i x here old
      | inr last ↦ (
          let there : slice_get X count ≡ Some x = subst (λ j. slice_get X j ≡ Some x) (last.0 ∙ led.many) here in
          subst (λ j. LeadsTo shape p X (pos 1) x j []) last.1 (leads_exactly x to rest (listed_at X count x there) (subst (HasStep shape p X (pos 1) x) e (has x there)))
          )
    ];
  })

  -- as they are read
  pub led_read : {k : ℕ} {given places : List ℕ} → given ≡ places → AreLed shape p X k (length X) places → AreLed shape p X k (length X) given
  led_read {k} {given} {places} is led = subst (AreLed shape p X k (length X)) (sym is) led

  -- the places are inside
  pub led_inside : {k : ℕ} {places : List ℕ} (count : ℕ) → count ≡ length X → AreLed shape p X k (length X) places → All (λ (to : ℕ). to < count) places
  led_inside {k} {places} count is led = All-from_contains (λ (to : ℕ). to < count) places (λ to c.
      let x = something_at X c.0 (omega (arith, led.many, c.1)) in
      let leads = led.each c.0 to x.0 x.1 (at_place places to c) in
      omega (arith, is, slice_get_within X to leads.above leads.here))

  -- j steps and then k are j + k
  pub led_on : {j k : ℕ} (n : ℕ) (first second made : List ℕ) → AreLed shape p X j (length X) first → AreLed shape p X k (length X) second → j + k ≡ n → made ≡ map (λ place. slice_index second place) first → AreLed shape p X n (length X) made
  led_on {j} {k} n first second made led further sum is = subst (AreLed shape p X n (length X)) (sym is) (record {
    many = length-map first (λ (place : ℕ). slice_index second place) ∙ led.many;
    each = λ place to x here at.
        let i = something_at first place (omega (arith, led.many, slice_get_within X place x here)) in
        let leads = led.each place i.0 x here i.1 in
        let inside : i.0 < length second = omega (arith, further.many, slice_get_within X i.0 leads.above leads.here) in
        let there : Some (slice_index second i.0) ≡ Some to = sym (slice_get-map (λ (j : ℕ). slice_index second j) first place ∙ ap (λ (o : Option ℕ). option_map (λ (j : ℕ). slice_index second j) o) i.1) ∙ at in
        let next = further.each i.0 to leads.above leads.here (slice_get-get_or second i.0 0 inside ∙ there) in
        record {
          above = next.above;
          here = next.here;
          carries = carries_sum shape p pair (pos j) (pos k) (pos n) (ap pos sum) x leads.above (next.above · []) (subst (Carries shape p (pos j) x) (after-nil leads.above) leads.carries) next.carries;
        };
  })

  -- ---- rows

  -- k steps carry u to v, a word of the basis
  abbrev CarriesTo : ℕ → Word → Word → Type 0
  CarriesTo k u v = Carries shape p (pos k) u v × Contains X v

  -- rows from the words of the basis, each to one
  abbrev CarriedRows : ℕ → Type 0
  CarriedRows k = RowsOf (CarriesTo k) X

  -- rows to the words at places are such rows
  pub placed_carried : (k : ℕ) (places : List ℕ) (rows : List Row) → AreLed shape p X k (length X) places → ArePlaced X places rows → CarriedRows k
  placed_carried k places rows led placed = record {
    rows = rows;
    from_is = placed.from;
    by = λ row c.
        let i = c.0 in
        let here : slice_get X i ≡ Some row.from = subst (λ (W : List Word). slice_get W i ≡ Some row.from) placed.from (slice_get-map (λ (r : Row). r.from) rows i ∙ ap (λ (o : Option Row). option_map (λ (r : Row). r.from) o) (at_place rows row c)) in
        let to = something_at places i (omega (arith, led.many, slice_get_within X i row.from here)) in
        let leads = led.each i to.0 row.from here to.1 in
        let first : slice_get (map (λ (r : Row). Some r.to) rows) i ≡ Some (Some row.to) = slice_get-map (λ (r : Row). Some r.to) rows i ∙ ap (λ (o : Option Row). option_map (λ (r : Row). Some r.to) o) (at_place rows row c) in
        let second : slice_get (map (λ (j : ℕ). slice_get X j) places) i ≡ Some (slice_get X to.0) = slice_get-map (λ (j : ℕ). slice_get X j) places i ∙ ap (λ (o : Option ℕ). option_map (λ (j : ℕ). slice_get X j) o) to.1 in
        let there : slice_get X to.0 ≡ Some row.to = same_at (map (λ (j : ℕ). slice_get X j) places) (map (λ (r : Row). Some r.to) rows) i (slice_get X to.0) (Some row.to) (sym placed.to) second first in
        let same : leads.above ≡ row.to = same_at X X to.0 leads.above row.to refl leads.here there in
        (subst (Carries shape p (pos k) row.from) (after-nil leads.above ∙ same) leads.carries, listed_at X to.0 row.to there);
  }

  module _ (k : ℕ) (r : CarriedRows k) where
    -- each word of the basis is reached
    reached : (y : Word) → Contains X y → Contains (to_words r.rows) y
    reached y c =
        let x = around (neg_ℤ (pos k)) y c in
        let g = contained_in_map (λ (row : Row). row.from) r.rows x.0 (subst (λ (W : List Word). Contains W x.0) (sym r.from_is) x.1) in
        let back : Carries shape p (neg_ℤ (neg_ℤ (pos k))) x.0 y = carries_back shape p pair (neg_ℤ (pos k)) y x.0 x.2 in
        let twice : neg_ℤ (neg_ℤ (pos k)) ≡ pos k = omega (arith, ints) in
        let there = subst (λ (u : Word). Carries shape p (pos k) u g.0.to) g.2 (r.by g.0 g.1).0 in
        let same : g.0.to ≡ y = carries_single shape p pair (pos k) x.0 g.0.to y there (subst (λ (i : ℤ). Carries shape p i x.0 y) twice back) in
        subst (Contains (to_words r.rows)) same (Contains-map (λ (row : Row). row.to) r.rows g.0 g.1)

    -- and no other
    to_listed : (v : Word) → Contains (to_words r.rows) v → Contains X v
    to_listed v c = let g = contained_in_map (λ (row : Row). row.to) r.rows v c in subst (Contains X) g.2 (r.by g.0 g.1).1

    -- from one alone
    apart : (a b : Row) → Contains r.rows a → Contains r.rows b → ¬ IsUnder a.from b.from → ¬ IsUnder a.to b.to
    apart a b c e other under =
        let same : a.to ≡ b.to = prefix_free_same X semi_normal.basis.prefix_free a.to b.to (r.by a c).1 (r.by b e).1 under in
        let from : a.from ≡ b.from = carries_injective shape p pair (pos k) a.from b.from b.to (subst (Carries shape p (pos k) a.from) same (r.by a c).0) (r.by b e).0 in
        other (subst (λ (u : Word). IsUnder a.from u) from (under_refl a.from))

    -- so they are a pair
    pub carried_pair : IsPair shape r.rows
    carried_pair = record {
      from = subst (IsBasis shape) (sym r.from_is) basis;
      to = basis_from shape (to_words r.rows) (All-from_contains (IsWordOf shape) (to_words r.rows) (λ v c. basis_word shape X basis v (to_listed v c)))
          (AllPairs-map (λ (row : Row). row.to) AreApart r.rows
          (AllPairs-weaker (λ (a : Row) (b : Row). AreApart a.from b.from) (λ (a : Row) (b : Row). AreApart a.to b.to) r.rows (AllPairs-from_map (λ (row : Row). row.from) AreApart r.rows (subst IsPrefixFree (sym r.from_is) basis.prefix_free))
          (λ a b c e free. (apart a b c e free.0, apart b a e c free.1))))
          (longest X)
          (λ u word long. let some = basis_holds shape X basis u word long in some_at (to_words r.rows) some.above u (reached some.above some.listed) some.under);
    }
      where
        basis : IsBasis shape X
        basis = semi_normal.basis

    -- the power k
    pub carried_power : IsPower shape p (pos k) r.rows
    carried_power = record {
      pair = carried_pair;
      stepped = λ u v w word steps moves.
          let from = moves.row.from in
          (r.by moves.row moves.listed).0.carried moves.rest v (word_rest shape from moves.rest (subst (IsWordOf shape) moves.from word)) (subst (λ (a : Word). Steps p (pos k) a v) moves.from steps) ∙ sym moves.to;
    }

    -- no larger than the basis
    carried_small : (letters : ℕ) → All (λ (w : Word). length w.letters ≤ letters) X → (length r.rows ≡ length X) × (longest_of r.rows ≤ letters)
    carried_small letters short = (
      sym (length-map r.rows (λ (row : Row). row.from)) ∙ ap (λ (W : List Word). length W) r.from_is,
      omega (arith, longest_least (from_words r.rows) letters (λ w c. within w (subst (λ (W : List Word). Contains W w) r.from_is c)), longest_least (to_words r.rows) letters (λ w c. within w (to_listed w c))),
    )
      where
        within : (w : Word) → Contains X w → length w.letters ≤ letters
        within w c = All-contains (λ (w : Word). length w.letters ≤ letters) X w short c

  -- ---- the element that is made

  -- the rows that are made, as they are read
  pub rows_made : {k : ℕ} {W : List Word} {given places : List ℕ} {rows : List Row} → W ≡ X → given ≡ places → AreLed shape p X k (length X) places → ArePlaced W given rows → IsPower shape p (pos k) rows × IsAscending (from_words rows)
  unfolding placed_carried
  rows_made {k} {W} {given} {places} {rows} words same led placed =
      let r = placed_carried k given rows (led_read same led) (subst (λ (V : List Word). ArePlaced V given rows) words placed) in
      (carried_power k r, subst IsAscending (sym r.from_is) typed.quasinormal.least.ascending)

  -- their canonical pair
  pub element_made : {k : ℕ} {given : Shape} {rows : List Row} (element : ElementValue) → given ≡ shape → IsPower shape p (pos k) rows → (element.shape ≡ given) × IsCanonicalFor given element.rows rows → (element.shape ≡ shape) × IsPower shape p (pos k) element.rows
  element_made {k} {given} {rows} element is power made =
      let canonical = subst (λ (s : Shape). IsCanonicalFor s element.rows rows) is made.1 in
      (made.0 ∙ is, power_alike shape p rows element.rows (pos k) pair power canonical.form.pair canonical.alike)

  -- ---- sizes

  module _ (few : length X ≤ 8192) (short : All (λ (w : Word). length w.letters ≤ 1024) X) where
    -- no power is large
    pub never_large : (k : ℕ) (s : List Row) → IsPower shape p (pos k) s → (rows letters : ℕ) → ¬ IsLarge shape s rows letters
    never_large k s power rows letters =
        let r = rows_of (CarriesTo k) X (λ x c. let y = around (pos k) x c in (y.0, (y.2, y.1))) in
        let made = carried_power k r in
        let small = carried_small k r 1024 short in
        let q = reduced_exists shape r.rows made.pair in
        let element : IsElement shape q.0 = record { canonical = q.1.canonical.form; few_rows = omega (arith, few, small.0, q.1.fewer); short_words = omega (arith, small.1, q.1.shorter) } in
        let same = alike_trans shape s r.rows q.0 power.pair made.pair element.canonical.pair (power_once shape p s r.rows (pos k) pair power made) (alike_sym shape q.0 r.rows q.1.canonical.alike) in
        alike_not_large shape q.0 s rows letters element power.pair same

    -- so none of a list is
    pub none_large : (ks : List ℕ) → NoneFirst shape p Plus ks
    none_large [] = λ rows letters h. h
    none_large (k ∷ ks) = λ rows letters h. elim h.2 [
      | inl large ↦ never_large k h.0 h.1 rows letters large
      | inr later ↦ none_large ks rows letters later.1
    ]
