-- Letters put behind a word where no step carries it under the basis: the walk with them takes few steps, and ends.
use Rattle.std.proofs.Common.{◌≡◌, ◌≢◌, ℕ, zero, suc, ◌+◌, ◌-◌, ◌*◌, ◌^◌, ◌≤◌, ◌<◌, ◌⊎◌, inl, inr, List, [], ◌∷◌, ◌++◌, length, Some, slice_get, refl, sym, ap, ◌∙◌, subst, arith, append-nil, append_assoc, Contains, pos}
use Rattle.std.proofs.Math.Nat.{mul-le-mul_left, mul-le-mul_right}
use Rattle.std.proofs.lemmas.Bool.{cases_lt}
use Rattle.std.proofs.lemmas.List.{length-append}
use Rattle.std.proofs.lemmas.List.Elements.{All-cons, All-nil}
use Rattle.ht_word.specs.Words.{◌·◌, IsLetter, IsLetters, IsWordOf, child}
use Rattle.ht_word.specs.declared.shape.Shape.{Shape}
use Rattle.ht_word.specs.declared.word.Word.{Word}
use Rattle.ht_word.proofs.WordLaws.{after-append, after-nil, after_cancel, length-after, letters_append, word_after}
use Rattle.ht_pair.specs.Atoms.{IsInfiniteWord}
use Rattle.ht_pair.specs.Bases.{longest}
use Rattle.ht_pair.specs.Kinds.{IsAttractorWord, IsRepeller}
use Rattle.ht_pair.specs.Pairs.{from_words}
use Rattle.ht_pair.specs.SemiNormal.{CarriesUnder}
use Rattle.ht_pair.specs.Steps.{Carries}
use Rattle.ht_pair.specs.declared.row.Row.{Row}
use Rattle.ht_pair.proofs.BasisLaws.{basis_single}
use Rattle.ht_pair.proofs.CarriesLaws.{carries_none, carries_word, carries_extends}
use Rattle.ht_quasi.proofs.StepLaws.{listed_at, same_at}
use Rattle.ht_types.specs.Flows.{IsEndKind, IsUnderInfinite, IsWalk, IsWholeWalk, IsContinuedWith, LeadsAway, IsExit}
use Rattle.ht_types.specs.TypedElements.{TypedValue, IsTyped}
use Rattle.ht_types.specs.WordKinds.{HasKind}
use Rattle.ht_types.specs.declared.direction.Direction.{Direction}
use Rattle.ht_types.specs.declared.direction.Direction.TheVariants.{Ahead}
use Rattle.ht_types.specs.declared.exit.Exit.{Exit}
use Rattle.ht_types.specs.declared.kind.Kind.{Kind}
use Rattle.ht_types.specs.declared.walk.Walk.{Walk}
use Rattle.ht_types.proofs.AwayLaws.{IsAway, away_made}
use Rattle.ht_types.proofs.OnwardLaws.{walk_then, walk_bound, stays_on, none_on}
use Rattle.ht_types.proofs.SeenLaws.{IsDirected, rows_in, directed, infinite_seen, infinite_back, under_in, end_in, end_out, walk_in, walk_out, end_kind, open_kind, away_seen}
use Rattle.ht_types.proofs.StopLaws.{few_words, few_steps}
use Rattle.ht_types.proofs.TurnLaws.{HasSemiNormal, infinite_kept, turns, carried_far}

-- after some steps of the walk of u, no more than n letters allow, it has come to a word from which it leads away
pub record HasLeft (shape : Shape) (p : List Row) (X : List Word) (u : Word) (steps n : ℕ) : Type 0 where
  pub count : ℕ
  pub soon : count ≤ steps
  pub early : count ≤ length X * (n + 1)
  pub at : Word
  pub infinite : IsInfiniteWord shape p X at
  pub front : List ℕ
  pub back : List ℕ
  pub carries : Carries shape p (pos count) u (at · (front ++ back))
  pub away : IsAway shape p X at front

-- it has still when more letters come behind it
left_more : (shape : Shape) (p : List Row) (X : List Word) (u t : Word) (z : List ℕ) (steps more n : ℕ) → IsLetters shape z → u · z ≡ t → HasLeft shape p X u steps n → HasLeft shape p X t (steps + more) n
left_more shape p X u t z steps more n hz e l = record {
  count = l.count;
  soon = (let s = l.soon in omega arith);
  early = l.early;
  at = l.at;
  infinite = l.infinite;
  front = l.front;
  back = l.back ++ z;
  carries = subst (Carries shape p (pos l.count) t) (after-append l.at (l.front ++ l.back) z ∙ ap (λ s. l.at · s) (append_assoc l.front l.back z)) (subst (λ w. Carries shape p (pos l.count) w ((l.at · (l.front ++ l.back)) · z)) e (carries_extends shape p (pos l.count) u (l.at · (l.front ++ l.back)) z hz l.carries));
  away = l.away;
}

-- it has from the first letter on that leads away
left_first : (shape : Shape) (p : List Row) (X : List Word) (u t x : Word) (z y : List ℕ) (steps more n : ℕ) → IsLetters shape y → u · y ≡ t → steps ≤ length X * (n + 1) → IsInfiniteWord shape p X x → Carries shape p (pos steps) u (x · z) → IsAway shape p X x (z ++ y) → HasLeft shape p X t (steps + more) n
left_first shape p X u t x z y steps more n hy e early infinite c away = record {
  count = steps;
  soon = omega arith;
  early = early;
  at = x;
  infinite = infinite;
  front = z ++ y;
  back = [];
  carries = subst (Carries shape p (pos steps) t) (after-append x z y ∙ ap (λ s. x · s) (sym (append-nil (z ++ y)))) (subst (λ w. Carries shape p (pos steps) w ((x · z) · y)) e (carries_extends shape p (pos steps) u (x · z) y hy c));
  away = away;
}

-- from there it takes fewer steps than X has words
left_bound : {shape : Shape} {p : List Row} {X : List Word} → HasSemiNormal shape p X → (u x : Word) (walk : Walk) (n : ℕ) → IsWalk shape p X Ahead u x walk → HasLeft shape p X u walk.steps n → walk.steps ≤ length X * (n + 2)
left_bound {shape} {p} {X} h u x walk n w l = elim (cases_lt (walk.steps - l.count) (length X)) [
  | inl less ↦ total (length X) n l.count walk.steps l.early l.soon less
  | inr other ↦ (
      let v = l.at · (l.front ++ l.back) in
      let stays = stays_on shape p h.pair X l.count walk.steps l.soon u v l.carries w.under in
      let none = none_on shape p h.pair X l.count walk.steps l.soon u v l.carries w.before in
      elim (turns h l.at (l.front ++ l.back) l.infinite (λ j m. stays j (omega arith))) [
        | inl m ↦ absurd (none m.count m.to (let less = m.less in omega arith) m.reached)
        | inr b ↦ absurd (l.away l.back b)
      ])
]
  where
    total : (m n c s : ℕ) → c ≤ m * (n + 1) → c ≤ s → s - c < m → s ≤ m * (n + 2)
    total m n c s early soon less = omega arith

-- ---- on the way to an exit

-- the letters so far, and the walk of the word with them, which has ended or isn't carried on
pub record IsOnExit (shape : Shape) (p : List Row) (X : List Word) (word : Word) (letters : List ℕ) (walk : Walk) : Type 0 where
  pub above : Word
  pub of_shape : IsLetters shape letters
  pub walked : IsWalk shape p X Ahead (word · letters) above walk
  pub stops : IsAttractorWord shape p above ⊎ ¬ CarriesUnder shape p (pos 1) (above · walk.rest) X
  pub left : (letters ≡ []) ⊎ HasLeft shape p X (word · letters) walk.steps (length word.letters)

stops_out : (direction : Direction) (shape : Shape) (p q : List Row) (X : List Word) → IsDirected direction shape p q X → (u : Word) (walk : Walk) (w : IsWholeWalk shape p X direction u walk) → IsAttractorWord shape q w.above ⊎ ¬ CarriesUnder shape q (pos 1) (w.above · walk.rest) X
stops_out direction shape p q X d u walk w = elim w.stops [
  | inl e ↦ inl (end_out direction shape p q X d w.above e)
  | inr n ↦ inr (λ h. n (under_in direction shape p q X d 1 (w.above · walk.rest) h))
]

pub exit_begins : (direction : Direction) (shape : Shape) (p q : List Row) (X : List Word) → IsDirected direction shape p q X → (word : Word) (letters : List ℕ) (walk : Walk) → letters ≡ [] → IsWholeWalk shape p X direction word walk → IsOnExit shape q X word letters walk
exit_begins direction shape p q X d word letters walk none w = record {
  above = w.above;
  of_shape = subst (IsLetters shape) (sym none) (All-nil (IsLetter shape));
  walked = subst (λ u. IsWalk shape q X Ahead u w.above walk) (sym (after-nil word) ∙ ap (λ z. word · z) (sym none)) (walk_out direction shape p q X d word w.above walk w.walked);
  stops = stops_out direction shape p q X d word walk w;
  left = inl none;
}

-- it takes few steps
pub exit_bound : {shape : Shape} {p : List Row} {X : List Word} → HasSemiNormal shape p X → (word x : Word) (z letters : List ℕ) (walk : Walk) → IsInfiniteWord shape p X x → word ≡ x · z → IsOnExit shape p X word letters walk → walk.steps ≤ length X * (length word.letters + 2)
exit_bound {shape} {p} {X} h word x z letters walk infinite e on = elim on.left [
  | inl none ↦ (
      let w = subst (λ u. IsWalk shape p X Ahead u on.above walk) (ap (λ s. word · s) none ∙ after-nil word) on.walked in
      omega (arith, mul-le-mul_left (length X) (more (length word.letters)), walk_bound h word x on.above z walk infinite e w))
  | inr l ↦ left_bound h (word · letters) on.above walk (length word.letters) on.walked l
]
  where
    more : (n : ℕ) → n + 1 ≤ n + 2
    more n = omega arith

-- the word where it has come is under one that is no cycle word
pub exit_infinite : {shape : Shape} {p : List Row} {X : List Word} → HasSemiNormal shape p X → (word x : Word) (z letters : List ℕ) (walk : Walk) → IsInfiniteWord shape p X x → word ≡ x · z → (on : IsOnExit shape p X word letters walk) → IsInfiniteWord shape p X on.above
exit_infinite {shape} {p} {X} h word x z letters walk infinite e on =
    infinite_kept h (pos walk.steps) x on.above (z ++ letters) walk.rest infinite (listed_at X walk.to on.above on.walked.here)
    (subst (λ u. Carries shape p (pos walk.steps) u (on.above · walk.rest)) (ap (λ u. u · letters) e ∙ after-append x z letters) on.walked.carries)

-- ---- one more letter

pub one_letter : (shape : Shape) (a : ℕ) → IsLetter shape a → IsLetters shape (a ∷ [])
one_letter shape a h = All-cons (IsLetter shape) a [] h (All-nil (IsLetter shape))

-- a letter that leads away is put behind the word, and the walk goes on
exit_left : {shape : Shape} {p : List Row} {X : List Word} → HasSemiNormal shape p X → (word x : Word) (z letters : List ℕ) (walk : Walk) (a more : ℕ) → IsInfiniteWord shape p X x → word ≡ x · z → (on : IsOnExit shape p X word letters walk) → IsLetter shape a → IsAway shape p X on.above (walk.rest ++ (a ∷ []))
    → HasLeft shape p X (word · (letters ++ (a ∷ []))) (walk.steps + more) (length word.letters)
exit_left {shape} {p} {X} h word x z letters walk a more infinite e on ha away = elim on.left [
  | inl none ↦ (
      let w = subst (λ u. IsWalk shape p X Ahead u on.above walk) (ap (λ s. word · s) none ∙ after-nil word) on.walked in
      left_first shape p X (word · letters) (word · (letters ++ (a ∷ []))) on.above walk.rest (a ∷ []) walk.steps more (length word.letters) (one_letter shape a ha) (after-append word letters (a ∷ []))
      (walk_bound h word x on.above z walk infinite e w) (exit_infinite h word x z letters walk infinite e on) on.walked.carries away)
  | inr l ↦ left_more shape p X (word · letters) (word · (letters ++ (a ∷ []))) (a ∷ []) walk.steps more (length word.letters) (one_letter shape a ha) (after-append word letters (a ∷ [])) l
]

pub exit_more : (direction : Direction) (shape : Shape) (p q : List Row) (X : List Word) → IsDirected direction shape p q X → (word x : Word) (z letters longer : List ℕ) (walk next : Walk) (a : ℕ) → IsInfiniteWord shape q X x → word ≡ x · z → (on : IsOnExit shape q X word letters walk) → ¬ IsAttractorWord shape q on.above → IsLetter shape a
    → ((m : ℕ) (by : List ℕ) → IsRepeller shape q on.above m by → slice_get by (length walk.rest) ≢ Some a) → longer ≡ letters ++ (a ∷ []) → IsContinuedWith shape p X direction walk a next → IsOnExit shape q X word longer next
exit_more direction shape p q X d word x z letters longer walk next a infinite e on open_end ha other is f =
    let same : f.above ≡ on.above = same_at X X walk.to f.above on.above refl f.here on.walked.here in
    let m = walk_out direction shape p q X d (child (f.above · walk.rest) a) f.whole.above f.more f.whole.walked in
    let hw = carries_word shape q d.base.pair (pos walk.steps) (word · letters) (on.above · walk.rest) on.walked.carries in
    let away = away_made d.base on.above walk.rest a (listed_at X walk.to on.above on.walked.here) hw (stuck on.stops) other in
    let to_longer : word · (letters ++ (a ∷ [])) ≡ word · longer = ap (λ s. word · s) (sym is) in
    record {
      above = f.whole.above;
      of_shape = subst (IsLetters shape) (sym is) (letters_append shape letters (a ∷ []) on.of_shape (one_letter shape a ha));
      walked = walk_then d.base (word · letters) on.above f.whole.above (word · longer) (a ∷ []) walk f.more next (one_letter shape a ha) (after-append word letters (a ∷ []) ∙ to_longer) on.walked
          (subst (λ y. IsWalk shape q X Ahead ((y · walk.rest) · (a ∷ [])) f.whole.above f.more) same m) f.steps f.to f.rest;
      stops = subst (λ r. IsAttractorWord shape q f.whole.above ⊎ ¬ CarriesUnder shape q (pos 1) (f.whole.above · r) X) (sym f.rest) (stops_out direction shape p q X d (child (f.above · walk.rest) a) f.more f.whole);
      left = inr (subst (λ k. HasLeft shape q X (word · longer) k (length word.letters)) (sym f.steps) (subst (λ u. HasLeft shape q X u (walk.steps + f.more.steps) (length word.letters)) to_longer (exit_left d.base word x z letters walk a f.more.steps infinite e on ha away)));
    }
  where
    stuck : IsAttractorWord shape q on.above ⊎ ¬ CarriesUnder shape q (pos 1) (on.above · walk.rest) X → ¬ CarriesUnder shape q (pos 1) (on.above · walk.rest) X
    stuck (inl a) = absurd (open_end a)
    stuck (inr n) = n

-- ---- the measure

-- a word that isn't carried on has few letters behind the word of X
pub stuck_short : {shape : Shape} {p : List Row} {X : List Word} → HasSemiNormal shape p X → (x : Word) (z : List ℕ) → IsWordOf shape (x · z) → ¬ CarriesUnder shape p (pos 1) (x · z) X → length z < longest (from_words p) + longest X
stuck_short {shape} {p} {X} h x z hz stuck = elim (cases_lt (length z) (longest (from_words p) + longest X)) [
  | inl less ↦ less
  | inr other ↦ absurd (stuck (carried_far h 1 (x · z) hz (omega (arith, length-after x z))))
]

-- a walk of no steps leaves the letters as they are
no_steps_rest : {shape : Shape} {p : List Row} {X : List Word} → HasSemiNormal shape p X → (u x y : Word) (z : List ℕ) (walk : Walk) → Contains X x → u ≡ x · z → IsWordOf shape u → IsWalk shape p X Ahead u y walk → walk.steps ≡ 0 → walk.rest ≡ z
no_steps_rest {shape} {p} {X} h u x y z walk c e hu w none =
    let same : u ≡ y · walk.rest = (carries_none shape p u (y · walk.rest) hu).0 (subst (λ k. Carries shape p (pos k) u (y · walk.rest)) none w.carries) in
    let one : y ≡ x = basis_single shape X h.semi.basis u y x (listed_at X walk.to y w.here) c (record { rest = walk.rest; is = same }) (record { rest = z; is = e }) in
    after_cancel x walk.rest z (ap (λ t. t · walk.rest) (sym one) ∙ sym same ∙ e)

-- the measure of the search for an exit: steps that are left, and letters that may still be put behind the word before the next
abbrev pub left_over : ℕ → ℕ → ℕ → ℕ → ℕ
left_over most steps room letters = (most - steps) * (room + 1) + (room - letters)

measure_steps : (t s k m r l : ℕ) → s + suc k ≤ t → left_over t (s + suc k) m r < left_over t s m l
measure_steps t s k m r l within = omega (arith, mul-le-mul_right (m + 1) (let less : (t - (s + suc k)) + 1 ≤ t - s = omega arith in less))

pub measure_falls : (t s k m r l : ℕ) → s + k ≤ t → l < m → (k ≡ 0 → r ≡ l + 1) → left_over t (s + k) m r < left_over t s m l
measure_falls t s zero m r l within short same = let e : r ≡ l + 1 = same refl in let z : s + 0 ≡ s = omega arith in rw (z, e) (omega arith)
measure_falls t s (suc k) m r l within short same = measure_steps t s k m r l within

pub exit_smaller : (direction : Direction) (shape : Shape) (p q : List Row) (X : List Word) → IsDirected direction shape p q X → (word x : Word) (z letters longer : List ℕ) (walk next : Walk) (a : ℕ) → IsInfiniteWord shape q X x → word ≡ x · z → (on : IsOnExit shape q X word letters walk) → ¬ IsAttractorWord shape q on.above → IsLetter shape a
    → IsContinuedWith shape p X direction walk a next → IsOnExit shape q X word longer next
    → left_over (length X * (length word.letters + 2)) next.steps (longest (from_words q) + longest X) (length next.rest) < left_over (length X * (length word.letters + 2)) walk.steps (longest (from_words q) + longest X) (length walk.rest)
exit_smaller direction shape p q X d word x z letters longer walk next a infinite e on open_end ha f after =
    let same : f.above ≡ on.above = same_at X X walk.to f.above on.above refl f.here on.walked.here in
    let m = walk_out direction shape p q X d (child (f.above · walk.rest) a) f.whole.above f.more f.whole.walked in
    let hw = carries_word shape q d.base.pair (pos walk.steps) (word · letters) (on.above · walk.rest) on.walked.carries in
    let bound = exit_bound d.base word x z longer next infinite e after in
    let u = child (f.above · walk.rest) a in
    let is : u ≡ on.above · (walk.rest ++ (a ∷ [])) = ap (λ y. child (y · walk.rest) a) same ∙ after-append on.above walk.rest (a ∷ []) in
    let hu : IsWordOf shape u = subst (IsWordOf shape) (ap (λ y. child (y · walk.rest) a) (sym same)) (word_after shape (on.above · walk.rest) (a ∷ []) hw (one_letter shape a ha)) in
    subst (λ k. left_over (length X * (length word.letters + 2)) k (longest (from_words q) + longest X) (length next.rest) < left_over (length X * (length word.letters + 2)) walk.steps (longest (from_words q) + longest X) (length walk.rest)) (sym f.steps)
    (measure_falls (length X * (length word.letters + 2)) walk.steps f.more.steps (longest (from_words q) + longest X) (length next.rest) (length walk.rest) (subst (λ k. k ≤ length X * (length word.letters + 2)) f.steps bound)
    (stuck_short d.base on.above walk.rest hw (stuck on.stops))
    (λ none. longer_rest next.rest f.more.rest walk.rest f.rest (no_steps_rest d.base u on.above f.whole.above (walk.rest ++ (a ∷ [])) f.more (listed_at X walk.to on.above on.walked.here) is hu m none)))
  where
    stuck : IsAttractorWord shape q on.above ⊎ ¬ CarriesUnder shape q (pos 1) (on.above · walk.rest) X → ¬ CarriesUnder shape q (pos 1) (on.above · walk.rest) X
    stuck (inl a) = absurd (open_end a)
    stuck (inr n) = n

    longer_rest : (r s t : List ℕ) → r ≡ s → s ≡ t ++ (a ∷ []) → length r ≡ length t + 1
    longer_rest r s t e g = omega (arith, length-append t (a ∷ []), ap (λ (y : List ℕ). length y) e, ap (λ (y : List ℕ). length y) g)

-- ---- what the code knows

pub record IsAsked (t : TypedValue) (word : Word) : Type 0 where
  pub typed : IsTyped t.element t.quasi t.kinds
  pub under : IsUnderInfinite t.element.shape t.element.rows t.quasi.basis.words word
  pub few : length word.letters < 2 ^ 64

-- a letter that a word may have behind it: 1 or 2
pub first_letter : (shape : Shape) (a : ℕ) → (1 ≤ a) × (a ≤ 2) → IsLetter shape a
first_letter shape a h = (h.0, (let n = shape.letters_low in let l = h.1 in omega arith))

module _ (direction : Direction) (t : TypedValue) (word : Word) (h : IsAsked t word) where
  abbrev shape : Shape
  shape = t.element.shape

  abbrev p : List Row
  p = t.element.rows

  abbrev q : List Row
  q = rows_in direction p

  abbrev X : List Word
  X = t.quasi.basis.words

  sides : IsDirected direction shape p q X
  sides = directed direction t h.typed

  seen_above : IsInfiniteWord shape q X h.under.above
  seen_above = infinite_seen direction shape p q X sides h.under.above h.under.infinite

  asked_bound : (letters : List ℕ) (walk : Walk) → IsOnExit shape q X word letters walk → walk.steps ≤ length X * (length word.letters + 2)
  asked_bound letters walk on = exit_bound sides.base word h.under.above h.under.under.rest letters walk seen_above h.under.under.is on

  pub asked_few : (letters : List ℕ) (walk : Walk) → IsOnExit shape q X word letters walk → walk.steps < 2 ^ 86
  asked_few letters walk on = few_steps (length X) (length word.letters) 2 walk.steps (few_words shape X h.typed.within) h.few (omega arith) (asked_bound letters walk on)

  pub asked_further : (letters : List ℕ) (walk : Walk) → IsOnExit shape q X word letters walk → (a : ℕ) → IsLetter shape a → (x : Word) → slice_get X walk.to ≡ Some x → IsWordOf shape (child (x · walk.rest) a) × IsUnderInfinite shape p X (child (x · walk.rest) a)
  asked_further letters walk on a ha x here =
      let same : on.above ≡ x = same_at X X walk.to on.above x refl on.walked.here here in
      let hw : IsWordOf shape (x · walk.rest) = subst (λ y. IsWordOf shape (y · walk.rest)) same (carries_word shape q sides.base.pair (pos walk.steps) (word · letters) (on.above · walk.rest) on.walked.carries) in
      let infinite = infinite_back direction shape p q X sides x (subst (IsInfiniteWord shape q X) same (exit_infinite sides.base word h.under.above h.under.under.rest letters walk seen_above h.under.under.is on)) in (
        word_after shape (x · walk.rest) (a ∷ []) hw (one_letter shape a ha),
        record { above = x; infinite = infinite; under = record { rest = walk.rest ++ (a ∷ []); is = after-append x walk.rest (a ∷ []) } },
      )

  -- the kind that stands at the place of the walk is that of the word there
  asked_kind : (letters : List ℕ) (walk : Walk) (on : IsOnExit shape q X word letters walk) (kind : Kind) → slice_get t.kinds walk.to ≡ Some kind → HasKind shape p X on.above kind
  asked_kind letters walk on kind here = h.typed.kinds_are.each walk.to on.above kind on.walked.here here

  asked_open : (letters : List ℕ) (walk : Walk) (on : IsOnExit shape q X word letters walk) (kind : Kind) → slice_get t.kinds walk.to ≡ Some kind → ¬ IsEndKind direction kind → ¬ IsAttractorWord shape q on.above
  asked_open letters walk on kind here none a = open_kind direction shape p sides.there.pair X on.above kind (asked_kind letters walk on kind here) none (end_in direction shape p q X sides on.above a)

  pub asked_more : (letters longer : List ℕ) (walk next : Walk) → IsOnExit shape q X word letters walk → (kind : Kind) → slice_get t.kinds walk.to ≡ Some kind → ¬ IsEndKind direction kind → (a : ℕ) → IsLetter shape a → LeadsAway direction kind (length walk.rest) a → longer ≡ letters ++ (a ∷ [])
      → IsContinuedWith shape p X direction walk a next → IsOnExit shape q X word longer next
  asked_more letters longer walk next on kind here none a ha away is f =
      exit_more direction shape p q X sides word h.under.above h.under.under.rest letters longer walk next a seen_above h.under.under.is on (asked_open letters walk on kind here none) ha
      (away_seen direction shape p q X sides on.above kind (length walk.rest) a (asked_kind letters walk on kind here) away) is f

  -- what is left to do, in steps and letters
  abbrev to_do : Walk → ℕ
  to_do walk = left_over (length X * (length word.letters + 2)) walk.steps (longest (from_words q) + longest X) (length walk.rest)

  pub asked_smaller : (letters longer : List ℕ) (walk next : Walk) → IsOnExit shape q X word letters walk → (kind : Kind) → slice_get t.kinds walk.to ≡ Some kind → ¬ IsEndKind direction kind → (a : ℕ) → IsLetter shape a → IsContinuedWith shape p X direction walk a next → IsOnExit shape q X word longer next
      → to_do next < to_do walk
  asked_smaller letters longer walk next on kind here none a ha f after =
      exit_smaller direction shape p q X sides word h.under.above h.under.under.rest letters longer walk next a seen_above h.under.under.is on (asked_open letters walk on kind here none) ha f after

  -- the walk that has ended is an exit
  pub asked_exit : (exit : Exit) (on : IsOnExit shape q X word exit.letters (record { steps = exit.steps; to = exit.to; rest = exit.rest })) (kind : Kind) → slice_get t.kinds exit.to ≡ Some kind → IsEndKind direction kind → IsExit shape p X direction word exit
  asked_exit exit on kind here ends =
      let walk : Walk = record { steps = exit.steps; to = exit.to; rest = exit.rest } in
      let few : exit.steps < 2 ^ 86 = asked_few exit.letters walk on in
      record {
        above = on.above;
        of_shape = on.of_shape;
        walked = walk_in direction shape p q X sides (word · exit.letters) on.above walk on.walked;
        ends = end_kind direction shape p X on.above kind (asked_kind exit.letters walk on kind here) ends;
        most = asked_bound exit.letters walk on;
        few = omega arith;
      }
