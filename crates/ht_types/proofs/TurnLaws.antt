-- Words of a semi-normal basis X of p that are carried under X for as many steps as X has words: they come under an attractor, or the letters
-- behind them begin with those that a power from -1 down puts behind the word of X.
use Rattle.std.proofs.Common.{◌≡◌, ◌≢◌, ℕ, zero, suc, ◌+◌, ◌-◌, ◌*◌, ◌≤◌, ◌<◌, ◌⊎◌, inl, inr, min, List, [], ◌∷◌, ◌++◌, length, refl, sym, ap, ◌∙◌, subst, arith, Contains, ℤ, pos, neg_ℤ, ◌+ℤ◌}
use Rattle.std.proofs.Math.Nat.{mul-le-mul_right}
use Rattle.std.proofs.lemmas.Int.{ints}
use Rattle.std.proofs.lemmas.List.{length-append}
use Rattle.std.proofs.lemmas.List.Elements.{All-contains}
use Rattle.ht_word.specs.Words.{◌·◌, IsLetters, IsWordOf}
use Rattle.ht_word.specs.declared.shape.Shape.{Shape}
use Rattle.ht_word.specs.declared.word.Word.{Word}
use Rattle.ht_word.proofs.Deciding.{under_or_not}
use Rattle.ht_word.proofs.ListLaws.{Contains-map}
use Rattle.ht_word.proofs.WordLaws.{after-append, after-nil, after_cancel, under_after, under_refl, length-after, word_rest}
use Rattle.ht_pair.specs.Actions.{Moves}
use Rattle.ht_pair.specs.Atoms.{IsInfiniteWord}
use Rattle.ht_pair.specs.Bases.{longest}
use Rattle.ht_pair.specs.Kinds.{Lengthens, IsAttractorWord}
use Rattle.ht_pair.specs.Pairs.{IsPair, from_words}
use Rattle.ht_pair.specs.Reaches.{CarriesUnderSuch}
use Rattle.ht_pair.specs.SemiNormal.{CarriesUnder, StaysAhead, StaysBehind, IsSemiNormal}
use Rattle.ht_pair.specs.Steps.{Carries}
use Rattle.ht_pair.specs.declared.row.Row.{Row}
use Rattle.ht_pair.proofs.BasisLaws.{basis_holds, longest_bounds}
use Rattle.ht_pair.proofs.CarriesLaws.{carries_single, carries_word, carries_from_steps, carries_extends, carries_back, carries_rest, carries_sum, carries_itself}
use Rattle.ht_pair.proofs.MovesLaws.{pair_moves}
use Rattle.ht_num.proofs.NumberLaws.{least_decided}
use Rattle.ht_types.proofs.PeriodicLaws.{carried_further, cycle_kept, periodic_word_either}
use Rattle.ht_types.proofs.Repeats.{repeats}

-- a pair and a semi-normal basis of it
pub record HasSemiNormal (shape : Shape) (p : List Row) (X : List Word) : Type 0 where
  pub pair : IsPair shape p
  pub semi : IsSemiNormal shape p X

-- the powers from 0 to k carry u under X
abbrev pub StaysFor : Shape → List Row → List Word → ℕ → Word → Type 0
StaysFor shape p X k u = (j : ℕ) → j ≤ k → CarriesUnder shape p (pos j) u X

-- ---- long words

-- a move takes away no more letters than the longest `from` word has
moved_length : (p : List Row) (u v : Word) → Moves p u v → length u.letters ≤ longest (from_words p) + length v.letters
moved_length p u v m =
    omega (arith, longest_bounds (from_words p) m.row.from (Contains-map (λ (row : Row). row.from) p m.row m.listed), length-after m.row.from m.rest, length-after m.row.to m.rest, ap (λ (w : Word). length w.letters) m.from, ap (λ (w : Word). length w.letters) m.to)

-- k steps carry a word with so many letters under X
pub carried_far : {shape : Shape} {p : List Row} {X : List Word} → HasSemiNormal shape p X → (k : ℕ) (u : Word) → IsWordOf shape u → k * longest (from_words p) + longest X ≤ length u.letters → CarriesUnder shape p (pos k) u X
carried_far {shape} {p} {X} h zero u w l = record { to = u; carries = carries_itself shape p u w; under = basis_holds shape X h.semi.basis u w (omega arith) }
carried_far {shape} {p} {X} h (suc k) u w l =
    let m = pair_moves shape p h.pair u w (omega arith) in
    let r = carried_far h k m.0 m.1 (omega (arith, moved_length p u m.0 m.2)) in
    let one : Carries shape p (pos 1) u m.0 = carries_from_steps shape p h.pair (pos 1) u m.0 w (u, refl, m.2) in
    record { to = r.to; carries = carries_sum shape p h.pair (pos 1) (pos k) (pos (suc k)) (omega (arith, ints)) u m.0 r.to one r.carries; under = r.under }

-- so do all powers from 0 to k
pub stays_far : {shape : Shape} {p : List Row} {X : List Word} → HasSemiNormal shape p X → (k : ℕ) (u : Word) → IsWordOf shape u → k * longest (from_words p) + longest X ≤ length u.letters → StaysFor shape p X k u
stays_far {shape} {p} {X} h k u w l = λ j less. carried_far h j u w (omega (arith, mul-le-mul_right (longest (from_words p)) less))

-- ---- words that are lengthened

-- a word that stays ahead and that a power from 1 on lengthens is an attractor: whether a power does is told from where it carries the word
pub grows_attractor : {shape : Shape} {p : List Row} {X : List Word} → HasSemiNormal shape p X → (k : ℕ) (x : Word) (z : List ℕ) → 1 ≤ k → StaysAhead shape p X x → Lengthens shape p (pos k) x z → IsAttractorWord shape p x
grows_attractor {shape} {p} {X} h k x z positive ahead l =
    let m = least_decided (λ j. (y : List ℕ) × Lengthens shape p (pos j) x y) decided k positive (z, l) in
    (m.0, m.1.holds.0, record { lengthens = m.1.holds.1; first = m.1 })
  where
    by : (j : ℕ) (y : List ℕ) → Carries shape p (pos j) x (x · y) → ((y : List ℕ) × Lengthens shape p (pos j) x y) ⊎ ¬ ((y : List ℕ) × Lengthens shape p (pos j) x y)
    by j [] c = inr (λ g. g.1.0 (after_cancel x g.0 [] (carries_single shape p h.pair (pos j) x (x · g.0) (x · []) g.1.1 c)))
    by j (a ∷ y) c = inl (a ∷ y, ((λ e. cc), c))

    decided : (j : ℕ) → ((y : List ℕ) × Lengthens shape p (pos j) x y) ⊎ ¬ ((y : List ℕ) × Lengthens shape p (pos j) x y)
    decided j = let w = ahead j in elim (under_or_not w.to x) [
      | inl u ↦ by j u.rest (subst (Carries shape p (pos j) x) u.is w.carries)
      | inr n ↦ inr (λ g. n (record { rest = g.0; is = carries_single shape p h.pair (pos j) x w.to (x · g.0) w.carries g.1.1 }))
    ]

-- a word of X that is no cycle word is carried to itself with some letters behind it
some_letters : {shape : Shape} {p : List Row} {X : List Word} → HasSemiNormal shape p X → (k : ℤ) (x : Word) (z : List ℕ) → k ≢ pos 0 → IsInfiniteWord shape p X x → Carries shape p k x (x · z) → z ≢ []
some_letters {shape} {p} {X} h k x z other infinite c = λ e.
    infinite.1 (periodic_word_either shape p h.pair X h.semi k x x other infinite.0 (under_refl x) (subst (Carries shape p k x) (ap (λ s. x · s) e ∙ after-nil x) c))

-- what a word under a word that is no cycle word is carried to, is under no cycle word
pub infinite_kept : {shape : Shape} {p : List Row} {X : List Word} → HasSemiNormal shape p X → (k : ℤ) (x y : Word) (z t : List ℕ) → IsInfiniteWord shape p X x → Contains X y → Carries shape p k (x · z) (y · t) → IsInfiniteWord shape p X y
infinite_kept {shape} {p} {X} h k x y z t infinite c carries =
    (c, λ cycle. infinite.1 (cycle_kept shape p h.pair X h.semi (neg_ℤ k) (y · t) (x · z) y x c infinite.0 (under_after y t) (under_after x z) (carries_back shape p h.pair k (x · z) (y · t) carries) cycle))

-- ---- two words on the way under one word of X

record MeetsTwice (shape : Shape) (p : List Row) (X : List Word) (u : Word) : Type 0 where
  first : ℕ
  second : ℕ
  less : first < second
  within : second ≤ length X
  at : Word
  listed : Contains X at
  before : List ℕ
  after : List ℕ
  here : Carries shape p (pos first) u (at · before)
  again : Carries shape p (pos second) u (at · after)

meets_twice : (shape : Shape) (p : List Row) (X : List Word) (u : Word) → StaysFor shape p X (length X) u → MeetsTwice shape p X u
meets_twice shape p X u stays =
    let r = repeats X (λ i. (reached i).under.above) (λ i l. (reached i).under.listed) in
    let a = reached r.first in
    let b = reached r.second in
    record {
      first = min r.first (length X);
      second = min r.second (length X);
      less = apart r.first r.second r.less r.within;
      within = omega arith;
      at = a.under.above;
      listed = a.under.listed;
      before = a.under.under.rest;
      after = b.under.under.rest;
      here = subst (Carries shape p (pos (min r.first (length X))) u) a.under.under.is a.carries;
      again = subst (Carries shape p (pos (min r.second (length X))) u) (b.under.under.is ∙ ap (λ (w : Word). w · b.under.under.rest) (sym r.same)) b.carries;
    }
  where
    reached : (i : ℕ) → CarriesUnder shape p (pos (min i (length X))) u X
    reached i = stays (min i (length X)) (omega arith)

    apart : (i j : ℕ) → i < j → j ≤ length X → min i (length X) < min j (length X)
    apart i j l m = omega arith

between : {shape : Shape} {p : List Row} {X : List Word} → HasSemiNormal shape p X → (u : Word) (m : MeetsTwice shape p X u) → Carries shape p (pos (m.second - m.first)) (m.at · m.before) (m.at · m.after)
between {shape} {p} {X} h u m = carries_rest shape p h.pair (pos m.first) (pos (m.second - m.first)) (pos m.second) (sum m.first m.second m.less) u (m.at · m.before) (m.at · m.after) m.here m.again
  where
    sum : (i j : ℕ) → i < j → pos i +ℤ pos (j - i) ≡ pos j
    sum i j l = omega (arith, ints)

-- ---- attractors

-- one of the first k words on the way of u is under an attractor
pub record MeetsAttractor (shape : Shape) (p : List Row) (X : List Word) (k : ℕ) (u : Word) : Type 0 where
  pub count : ℕ
  pub less : count < k
  pub to : Word
  pub reached : CarriesUnderSuch shape p (IsAttractorWord shape p) X (pos count) u to

-- a power from -1 down carries x to x with some letters behind it, and z begins with these
pub record FallsBack (shape : Shape) (p : List Row) (X : List Word) (x : Word) (z : List ℕ) : Type 0 where
  pub count : ℕ
  pub positive : 1 ≤ count
  pub within : count ≤ length X
  pub stays : StaysBehind shape p X x
  pub front : List ℕ
  pub back : List ℕ
  pub lengthens : Lengthens shape p (neg_ℤ (pos count)) x front
  pub whole : z ≡ front ++ back

stays_of : {shape : Shape} {p : List Row} {X : List Word} → HasSemiNormal shape p X → (x : Word) → Contains X x → StaysAhead shape p X x ⊎ StaysBehind shape p X x
stays_of {shape} {p} {X} h x c = All-contains (λ t. StaysAhead shape p X t ⊎ StaysBehind shape p X t) X x h.semi.stays c

-- where the word of X that is met twice stays ahead, it is an attractor
meets_ahead : {shape : Shape} {p : List Row} {X : List Word} → HasSemiNormal shape p X → (x : Word) (z : List ℕ) → IsInfiniteWord shape p X x → (m : MeetsTwice shape p X (x · z)) → StaysAhead shape p X m.at → MeetsAttractor shape p X (length X) (x · z)
meets_ahead {shape} {p} {X} h x z infinite m ahead =
    let low : 1 ≤ m.second - m.first = (let l = m.less in omega arith) in
    let hb = word_rest shape m.at m.before (carries_word shape p h.pair (pos m.first) (x · z) (m.at · m.before) m.here) in
    let f = carried_further shape p h.pair X h.semi.basis (pos (m.second - m.first)) m.at m.at m.before m.after m.listed hb (ahead (m.second - m.first)) (between h (x · z) m) in
    let other = infinite_kept h (pos m.first) x m.at z m.before infinite m.listed m.here in
    let such = grows_attractor h (m.second - m.first) m.at f.letters low ahead (some_letters h (pos (m.second - m.first)) m.at f.letters (some (m.second - m.first) low) other f.carries, f.carries) in
    record {
      count = m.first;
      less = (let l = m.less in let k = m.within in omega arith);
      to = m.at · m.before;
      reached = record { above = m.at; listed = m.listed; such = such; carries = m.here; under = under_after m.at m.before };
    }
  where
    some : (d : ℕ) → 1 ≤ d → pos d ≢ pos 0
    some d l e = absurd (omega (arith, ints))

-- where it stays behind, the steps between lead from x and its letters back to x, with fewer letters behind it
record ComesBack (shape : Shape) (p : List Row) (X : List Word) (x : Word) (z : List ℕ) : Type 0 where
  count : ℕ
  positive : 1 ≤ count
  within : count ≤ length X
  rest : List ℕ
  fewer : length rest ≤ length z
  carries : Carries shape p (pos count) (x · z) (x · rest)

comes_back : {shape : Shape} {p : List Row} {X : List Word} → HasSemiNormal shape p X → (x : Word) (z : List ℕ) → Contains X x → (m : MeetsTwice shape p X (x · z)) → StaysBehind shape p X m.at → ComesBack shape p X x z
comes_back {shape} {p} {X} h x z c m behind =
    let d = m.second - m.first in
    let hb = word_rest shape m.at m.before (carries_word shape p h.pair (pos m.first) (x · z) (m.at · m.before) m.here) in
    let ha = word_rest shape m.at m.after (carries_word shape p h.pair (pos m.second) (x · z) (m.at · m.after) m.again) in
    let f = carried_further shape p h.pair X h.semi.basis (neg_ℤ (pos m.first)) m.at x m.before z c hb (behind m.first) (carries_back shape p h.pair (pos m.first) (x · z) (m.at · m.before) m.here) in
    let g = carried_further shape p h.pair X h.semi.basis (neg_ℤ (pos d)) m.at m.at m.after m.before m.listed ha (behind d) (carries_back shape p h.pair (pos d) (m.at · m.before) (m.at · m.after) (between h (x · z) m)) in
    let there : Carries shape p (neg_ℤ (pos m.first)) (m.at · m.after) (x · (f.letters ++ m.after)) =
    subst (Carries shape p (neg_ℤ (pos m.first)) (m.at · m.after)) (after-append x f.letters m.after) (carries_extends shape p (neg_ℤ (pos m.first)) m.at (x · f.letters) m.after ha f.carries) in
    record {
      count = d;
      positive = (let l = m.less in omega arith);
      within = (let l = m.within in omega arith);
      rest = f.letters ++ m.after;
      fewer = shorter f.letters m.before m.after z g.letters f.is g.is;
      carries = carries_sum shape p h.pair (pos m.second) (neg_ℤ (pos m.first)) (pos d) (sum m.first m.second m.less) (x · z) (m.at · m.after) (x · (f.letters ++ m.after)) m.again there;
    }
  where
    sum : (i j : ℕ) → i < j → pos j +ℤ neg_ℤ (pos i) ≡ pos (j - i)
    sum i j l = omega (arith, ints)

    shorter : (a b t z y : List ℕ) → a ++ b ≡ z → y ++ t ≡ b → length (a ++ t) ≤ length z
    shorter a b t z y e g = omega (arith, length-append a b, length-append a t, length-append y t, ap (λ (s : List ℕ). length s) e, ap (λ (s : List ℕ). length s) g)

falls_back : {shape : Shape} {p : List Row} {X : List Word} → HasSemiNormal shape p X → (x : Word) (z : List ℕ) → IsInfiniteWord shape p X x → ComesBack shape p X x z → FallsBack shape p X x z
falls_back {shape} {p} {X} h x z infinite b = elim (stays_of h x infinite.0) [
  | inl ahead ↦ (
      let hz = word_rest shape x z b.carries.word in
      let f = carried_further shape p h.pair X h.semi.basis (pos b.count) x x z b.rest infinite.0 hz (ahead b.count) b.carries in
      absurd (some_letters h (pos b.count) x f.letters (λ e. absurd (let l = b.positive in omega (arith, ints))) infinite f.carries (nothing f.letters z b.rest f.is b.fewer)))
  | inr behind ↦ (
      let hr = word_rest shape x b.rest (carries_word shape p h.pair (pos b.count) (x · z) (x · b.rest) b.carries) in
      let f = carried_further shape p h.pair X h.semi.basis (neg_ℤ (pos b.count)) x x b.rest z infinite.0 hr (behind b.count) (carries_back shape p h.pair (pos b.count) (x · z) (x · b.rest) b.carries) in
      record {
        count = b.count;
        positive = b.positive;
        within = b.within;
        stays = behind;
        front = f.letters;
        back = b.rest;
        lengthens = (some_letters h (neg_ℤ (pos b.count)) x f.letters (λ e. absurd (let l = b.positive in omega (arith, ints))) infinite f.carries, f.carries);
        whole = sym f.is;
      })
]
  where
    nothing : (y z t : List ℕ) → y ++ z ≡ t → length t ≤ length z → y ≡ []
    nothing [] z t e l = refl
    nothing (a ∷ y) z t e l = absurd (omega (arith, length-append (a ∷ y) z, ap (λ (s : List ℕ). length s) e))

-- a word under X that is under no cycle word comes under an attractor, or falls back
pub turns : {shape : Shape} {p : List Row} {X : List Word} → HasSemiNormal shape p X → (x : Word) (z : List ℕ) → IsInfiniteWord shape p X x → StaysFor shape p X (length X) (x · z) → MeetsAttractor shape p X (length X) (x · z) ⊎ FallsBack shape p X x z
turns {shape} {p} {X} h x z infinite stays =
    let m = meets_twice shape p X (x · z) stays in
    elim (stays_of h m.at m.listed) [
      | inl ahead ↦ inl (meets_ahead h x z infinite m ahead)
      | inr behind ↦ inr (falls_back h x z infinite (comes_back h x z infinite.0 m behind))
    ]

-- as many steps lead from the word and its front back to the word
pub falls_to : {shape : Shape} {p : List Row} {X : List Word} → HasSemiNormal shape p X → (x : Word) (z y : List ℕ) (b : FallsBack shape p X x z) → IsLetters shape y → Carries shape p (pos b.count) (x · (b.front ++ y)) (x · y)
falls_to {shape} {p} {X} h x z y b hy =
    let k = neg_ℤ (pos b.count) in
    let twice : neg_ℤ k ≡ pos b.count = omega (arith, ints) in
    let back : Carries shape p (pos b.count) (x · b.front) x = subst (λ i. Carries shape p i (x · b.front) x) twice (carries_back shape p h.pair k x (x · b.front) b.lengthens.1) in
    subst (λ u. Carries shape p (pos b.count) u (x · y)) (after-append x b.front y) (carries_extends shape p (pos b.count) (x · b.front) x y hy back)

-- fewer letters are left
pub falls_shorter : {shape : Shape} {p : List Row} {X : List Word} (x : Word) (z t y : List ℕ) (b : FallsBack shape p X x t) → z ≡ b.front ++ y → length y < length z
falls_shorter x z t y b e = less b.front b.lengthens.0 e
  where
    less : (s : List ℕ) → s ≢ [] → z ≡ s ++ y → length y < length z
    less [] n e = absurd (n refl)
    less (a ∷ s) n e = omega (arith, length-append (a ∷ s) y, ap (λ (r : List ℕ). length r) e)
