-- Ends, the attractors and repellers of a semi-normal basis X of p, and what powers carry under them: each word of the infinite part comes under one,
-- and attractors under which powers carry one word are on one round, which has one period.
use Rattle.std.proofs.Common.{◌≡◌, ℕ, zero, suc, ◌<◌, ◌⊎◌, inl, inr, List, [], ◌∷◌, ◌++◌, length, Some, slice_get, refl, sym, ap, ◌∙◌, subst, arith, Contains, ℤ, pos, negsuc, neg_ℤ, ◌+ℤ◌}
use Rattle.std.proofs.lemmas.Int.{ints}
use Rattle.std.proofs.lemmas.List.{length-append}
use Rattle.std.proofs.lemmas.List.Elements.{All-contains}
use Rattle.ht_word.specs.Words.{◌·◌}
use Rattle.ht_word.specs.declared.shape.Shape.{Shape}
use Rattle.ht_word.specs.declared.word.Word.{Word}
use Rattle.ht_word.proofs.WordLaws.{after-append, after-nil, after_cancel, under_refl, word_rest}
use Rattle.ht_pair.specs.Atoms.{IsInfiniteWord}
use Rattle.ht_pair.specs.Kinds.{IsAttractorWord, IsRepellerWord}
use Rattle.ht_pair.specs.Pairs.{turned}
use Rattle.ht_pair.specs.Reaches.{CarriesUnderSuch}
use Rattle.ht_pair.specs.SemiNormal.{CarriesUnder, StaysAhead, StaysBehind}
use Rattle.ht_pair.specs.Steps.{Carries}
use Rattle.ht_pair.specs.declared.row.Row.{Row}
use Rattle.ht_pair.proofs.BasisLaws.{basis_single, basis_word}
use Rattle.ht_pair.proofs.CarriesLaws.{carries_single, carries_none, carries_back, carries_itself, carries_rest}
use Rattle.ht_pair.proofs.KindLaws.{lengthened_there}
use Rattle.ht_quasi.proofs.MirrorLaws.{behind_ahead}
use Rattle.ht_quasi.proofs.StepLaws.{at_place, listed_at}
use Rattle.ht_types.proofs.AttractorLaws.{IsAttractorOf, attractor_ahead, attractor_moved, moved_ahead, period_le, comes_round, on_round}
use Rattle.ht_types.proofs.CourseLaws.{same_place}
use Rattle.ht_types.proofs.FlowLaws.{mirrored_infinite, turned_base}
use Rattle.ht_types.proofs.MirrorLaws.{such_to, turned_mirrors, repeller_attractor}
use Rattle.ht_types.proofs.PeriodicLaws.{carried_further}
use Rattle.ht_types.proofs.RepellerLaws.{IsRepellerOf}
use Rattle.ht_types.proofs.TurnLaws.{HasSemiNormal, MeetsAttractor, FallsBack, turns}

-- ---- words of the infinite part come under ends

-- an attractor or a repeller
abbrev pub IsEndWord : Shape → List Row → Word → Type 0
IsEndWord shape p x = IsAttractorWord shape p x ⊎ IsRepellerWord shape p x

-- one of the first k words on the way back of u is under a repeller
pub record MeetsRepeller (shape : Shape) (p : List Row) (X : List Word) (k : ℕ) (u : Word) : Type 0 where
  pub count : ℕ
  pub less : count < k
  pub to : Word
  pub reached : CarriesUnderSuch shape p (IsRepellerWord shape p) X (neg_ℤ (pos count)) u to

-- a power carries u under the word of X at the place, an end
pub record MeetsEnd (shape : Shape) (p : List Row) (X : List Word) (u : Word) (place : ℕ) : Type 0 where
  pub above : Word
  pub here : slice_get X place ≡ Some above
  pub ends : IsEndWord shape p above
  pub power : ℤ
  pub rest : List ℕ
  pub carries : Carries shape p power u (above · rest)

no_front : {shape : Shape} {p : List Row} {X : List Word} (x : Word) → FallsBack shape p X x [] → ⊥
no_front x b = b.lengthens.0 (nothing b.front b.back b.whole)
  where
    nothing : (s t : List ℕ) → [] ≡ s ++ t → s ≡ []
    nothing [] t e = refl
    nothing (a ∷ s) t e = cc

-- one that stays ahead comes under an attractor by fewer steps than X has words
pub ahead_meets : {shape : Shape} {p : List Row} {X : List Word} → HasSemiNormal shape p X → (x : Word) → IsInfiniteWord shape p X x → StaysAhead shape p X x → MeetsAttractor shape p X (length X) x
ahead_meets {shape} {p} {X} h x infinite ahead =
    let stays : (j : ℕ) → CarriesUnder shape p (pos j) (x · []) X = λ j. subst (λ t. CarriesUnder shape p (pos j) t X) (sym (after-nil x)) (ahead j) in
    subst (MeetsAttractor shape p X (length X)) (after-nil x) (meets (turns h x [] infinite (λ j l. stays j)))
  where
    meets : MeetsAttractor shape p X (length X) (x · []) ⊎ FallsBack shape p X x [] → MeetsAttractor shape p X (length X) (x · [])
    meets (inl m) = m
    meets (inr b) = absurd (no_front x b)

-- and one that stays behind under a repeller
pub behind_meets : {shape : Shape} {p : List Row} {X : List Word} → HasSemiNormal shape p X → (x : Word) → IsInfiniteWord shape p X x → StaysBehind shape p X x → MeetsRepeller shape p X (length X) x
behind_meets {shape} {p} {X} h x infinite behind =
    let mirrors = turned_mirrors shape p h.pair in
    let m = ahead_meets (turned_base h) x (mirrored_infinite h mirrors x infinite) (behind_ahead mirrors X x behind) in
    record { count = m.count; less = m.less; to = m.to; reached = such_to mirrors X m.count x m.to m.reached }

module _ {shape : Shape} {p : List Row} {X : List Word} (h : HasSemiNormal shape p X) where
  -- an end comes under itself
  pub end_meets : (x : Word) (place : ℕ) → slice_get X place ≡ Some x → IsEndWord shape p x → MeetsEnd shape p X x place
  end_meets x place here ends = record {
    above = x;
    here = here;
    ends = ends;
    power = pos 0;
    rest = [];
    carries = subst (Carries shape p (pos 0) x) (sym (after-nil x)) (carries_itself shape p x (basis_word shape X h.semi.basis x (listed_at X place x here)));
  }

  such_meets : (k : ℤ) (u v : Word) {P : Word → Type 0} (s : CarriesUnderSuch shape p P X k u v) → (P s.above → IsEndWord shape p s.above) → MeetsEnd shape p X u s.listed.0
  such_meets k u v s ends = record {
    above = s.above;
    here = at_place X s.above s.listed;
    ends = ends s.such;
    power = k;
    rest = s.under.rest;
    carries = subst (Carries shape p k u) s.under.is s.carries;
  }

  -- each word of the infinite part comes under an end
  pub anchor : (x : Word) → IsInfiniteWord shape p X x → (place : ℕ) × MeetsEnd shape p X x place
  anchor x infinite = elim (All-contains (λ t. StaysAhead shape p X t ⊎ StaysBehind shape p X t) X x h.semi.stays infinite.0) [
    | inl ahead ↦ (let m = ahead_meets h x infinite ahead in (m.reached.listed.0, such_meets (pos m.count) x m.to m.reached (λ a. inl a)))
    | inr behind ↦ (let m = behind_meets h x infinite behind in (m.reached.listed.0, such_meets (neg_ℤ (pos m.count)) x m.to m.reached (λ r. inr r)))
  ]

  attractor_at : (i : ℕ) (x : Word) → slice_get X i ≡ Some x → (a : IsAttractorWord shape p x) → IsAttractorOf shape p X x a.0 a.1
  attractor_at i x here a = record { listed = listed_at X i x here; attractor = a.2 }

-- ---- attractors on one round

pub record IsPlaceEquivalence (Near : ℕ → ℕ → Type 0) : Type 0 where
  pub same : (i : ℕ) → Near i i
  pub back : (i j : ℕ) → Near i j → Near j i
  pub on : (i j k : ℕ) → Near i j → Near j k → Near i k

-- the place of an attractor is near that of the word under which one step carries it
abbrev pub AreNextNear : Shape → List Row → List Word → (ℕ → ℕ → Type 0) → Type 0
AreNextNear shape p X Near = (i j : ℕ) (x y : Word) (t : List ℕ) → slice_get X i ≡ Some x → slice_get X j ≡ Some y → IsAttractorWord shape p x → Carries shape p (pos 1) x (y · t) → Near i j

module _ {shape : Shape} {p : List Row} {X : List Word} (h : HasSemiNormal shape p X) {Near : ℕ → ℕ → Type 0} (near : IsPlaceEquivalence Near) (next : AreNextNear shape p X Near) where
  -- then it is near those of all words under which more steps carry it
  pub round_near : (d i j : ℕ) (x y : Word) (t : List ℕ) → slice_get X i ≡ Some x → slice_get X j ≡ Some y → IsAttractorWord shape p x → Carries shape p (pos d) x (y · t) → Near i j
  round_near zero i j x y t x_is y_is a c =
      let same : x ≡ y · t = (carries_none shape p x (y · t) c.word).0 c in
      let one : x ≡ y = basis_single shape X h.semi.basis x x y (listed_at X i x x_is) (listed_at X j y y_is) (under_refl x) (record { rest = t; is = same }) in
      subst (Near i) (same_place X h.semi.basis.prefix_free i j x y x_is y_is one) (near.same i)
  round_near (suc d) i j x y t x_is y_is a c =
      let at = attractor_at h i x x_is a in
      let w = attractor_ahead h at 1 in
      let v = w.under.above in
      let s = w.under.under.rest in
      let n = w.under.listed.0 in
      let v_is = at_place X v w.under.listed in
      let one : Carries shape p (pos 1) x (v · s) = subst (Carries shape p (pos 1) x) w.under.under.is w.carries in
      let there = carries_rest shape p h.pair (pos 1) (pos d) (pos (suc d)) (omega (arith, ints)) x (v · s) (y · t) one c in
      let f = carried_further shape p h.pair X h.semi.basis (pos d) v y s t (listed_at X j y y_is) (word_rest shape v s there.word) (moved_ahead h at (pos 1) v s w.under.listed one d) there in
      near.on i n j (next i n x v s x_is v_is a one) (round_near d n j v y f.letters v_is y_is (attractor_moved h at (pos 1) v s w.under.listed one) f.carries)

  along : (d i j : ℕ) (x y : Word) (s t : List ℕ) → slice_get X i ≡ Some x → slice_get X j ≡ Some y → IsAttractorWord shape p x → Carries shape p (pos d) (x · s) (y · t) → Near i j
  along d i j x y s t x_is y_is a c =
      let f = carried_further shape p h.pair X h.semi.basis (pos d) x y s t (listed_at X j y y_is) (word_rest shape x s c.word) (attractor_ahead h (attractor_at h i x x_is a) d) c in
      round_near d i j x y f.letters x_is y_is a f.carries

  between : (d : ℤ) (i j : ℕ) (x y : Word) (s t : List ℕ) → slice_get X i ≡ Some x → slice_get X j ≡ Some y → IsAttractorWord shape p x → IsAttractorWord shape p y → Carries shape p d (x · s) (y · t) → Near i j
  between (pos d) i j x y s t x_is y_is a b c = along d i j x y s t x_is y_is a c
  between (negsuc d) i j x y s t x_is y_is a b c = near.back j i (along (suc d) j i y x t s y_is x_is b (carries_back shape p h.pair (negsuc d) (x · s) (y · t) c))

  -- two attractors under which powers carry one word are near
  pub met_near : (k l : ℤ) (i j : ℕ) (u x y : Word) (s t : List ℕ) → slice_get X i ≡ Some x → slice_get X j ≡ Some y → IsAttractorWord shape p x → IsAttractorWord shape p y → Carries shape p k u (x · s) → Carries shape p l u (y · t) → Near i j
  met_near k l i j u x y s t x_is y_is a b c e = between (l +ℤ neg_ℤ k) i j x y s t x_is y_is a b (carries_rest shape p h.pair k (l +ℤ neg_ℤ k) l (sum k l) u (x · s) (y · t) c e)
    where
      sum : (k l : ℤ) → k +ℤ (l +ℤ neg_ℤ k) ≡ l
      sum k l = omega (arith, ints)

-- ---- one period

module _ {shape : Shape} {p : List Row} {X : List Word} (h : HasSemiNormal shape p X) where
  -- the steps of its period lengthen what a power carries an attractor under by as many letters
  lengthened_too : (i : ℤ) (x y : Word) (m : ℕ) (G c : List ℕ) → IsAttractorOf shape p X x m G → Contains X y → Carries shape p i x (y · c) → (z : List ℕ) × (length z ≡ length G) × Carries shape p (pos m) y (y · z)
  lengthened_too i x y m G c a listed carries =
      let grows = subst (Carries shape p (pos m) (y · c)) (after-append y c G) (lengthened_there shape p h.pair i m x (y · c) G carries a.attractor.lengthens.1) in
      let f = carried_further shape p h.pair X h.semi.basis (pos m) y y c (c ++ G) listed (word_rest shape y c grows.word) (moved_ahead h a i y c listed carries m) grows in
      (f.letters, as_many f.letters c G f.is, f.carries)
    where
      as_many : (z c G : List ℕ) → z ++ c ≡ c ++ G → length z ≡ length G
      as_many z c G e = omega (arith, length-append z c, length-append c G, ap (λ (t : List ℕ). length t) e)

  -- attractors on one round have one period, and as many letters
  pub round_same : (i : ℤ) (x y : Word) (m n : ℕ) (G H c : List ℕ) → IsAttractorOf shape p X x m G → IsAttractorOf shape p X y n H → Carries shape p i x (y · c) → (m ≡ n) × (length G ≡ length H)
  round_same i x y m n G H c a b carries =
      let there = lengthened_too i x y m G c a b.listed carries in
      let on = on_round h a i y c b.listed carries in
      let back = comes_round h a on.count y on.letters b.listed on.carries in
      let here = lengthened_too (pos back.count) y x n H back.letters b a.listed back.carries in
      let first = period_le h b m there.0 a.attractor.first.positive there.2 in
      let second = period_le h a n here.0 b.attractor.first.positive here.2 in
      let same : n ≡ m = omega arith in
      let letters = after_cancel x G here.0 (carries_single shape p h.pair (pos m) x (x · G) (x · here.0) a.attractor.lengthens.1 (subst (λ k. Carries shape p (pos k) x (x · here.0)) same here.2)) in
      (sym same, ap (λ (t : List ℕ). length t) letters ∙ here.1)

-- so have repellers
pub round_behind_same : {shape : Shape} {p : List Row} {X : List Word} → HasSemiNormal shape p X → (i : ℤ) (x y : Word) (m n : ℕ) (G H c : List ℕ) → IsRepellerOf shape p X x m G → IsRepellerOf shape p X y n H → Carries shape p i x (y · c)
    → (m ≡ n) × (length G ≡ length H)
round_behind_same {shape} {p} {X} h i x y m n G H c a b carries =
    let mirrors = turned_mirrors shape p h.pair in
    let first : IsAttractorOf shape (turned p) X x m G = record { listed = a.listed; attractor = repeller_attractor mirrors x m G a.repeller } in
    let second : IsAttractorOf shape (turned p) X y n H = record { listed = b.listed; attractor = repeller_attractor mirrors y n H b.repeller } in
    round_same (turned_base h) (neg_ℤ i) x y m n G H c first second (mirrors.from (neg_ℤ i) x (y · c) (subst (λ k. Carries shape p k x (y · c)) (twice i) carries))
  where
    twice : (k : ℤ) → k ≡ neg_ℤ (neg_ℤ k)
    twice k = omega (arith, ints)
