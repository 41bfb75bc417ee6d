-- Walks of a given number of steps, with letters put behind the word where a step would split it.
use Rattle.std.proofs.Common.{◌≡◌, ℕ, ◌+◌, ◌<◌, List, [], ◌∷◌, ◌++◌, length, Some, slice_get, refl, sym, ap, ◌∙◌, subst, arith, append_assoc, append-nil, ℤ, pos, ◌+ℤ◌}
use Rattle.std.proofs.lemmas.Int.{ints}
use Rattle.std.proofs.lemmas.List.Elements.{All-cons, All-nil}
use Rattle.ht_word.specs.Words.{◌·◌, IsLetter, IsLetters, IsWordOf}
use Rattle.ht_word.specs.declared.word.Word.{Word}
use Rattle.ht_word.proofs.WordLaws.{after-append, after-nil, letters_append, word_after}
use Rattle.ht_pair.specs.Bases.{longest}
use Rattle.ht_pair.specs.Pairs.{from_words}
use Rattle.ht_pair.specs.Steps.{Carries}
use Rattle.ht_pair.proofs.CarriesLaws.{carries_extends, carries_itself, carries_sum, carries_word}
use Rattle.ht_quasi.proofs.RoundLaws.{something_at}
use Rattle.ht_quasi.proofs.StepLaws.{same_at}
use Rattle.ht_types.specs.Flows.{IsPlaced, power_in}
use Rattle.ht_types.specs.TypedElements.{TypedValue, IsTyped}
use Rattle.ht_types.specs.WordSteps.{HasStep}
use Rattle.ht_types.specs.declared.direction.Direction.{Direction}
use Rattle.ht_types.specs.declared.direction.Direction.TheVariants.{Ahead, Behind}
use Rattle.ht_types.specs.declared.step.Step.TheVariants.{Splits, Leads}
use Rattle.ht_types.specs.declared.walk.Walk.{Walk}
use Rattle.ht_types.proofs.ExitLaws.{first_letter, stuck_short}
use Rattle.ht_types.proofs.SeenLaws.{rows_in, directed, step_seen}
use Rattle.ht_local.specs.Crossings.{IsLedBy, IsLedOn}
use Rattle.ht_local.specs.declared.led.Led.{Led}

-- ---- one step

-- letters are put behind the word where the way has come
pub record IsSplitting (t : TypedValue) (way : Led) (letters : List ℕ) (walk : Walk) : Type 0 where
  pub before : Word
  pub there : slice_get t.quasi.basis.words way.walk.to ≡ Some before
  pub word : IsWordOf t.element.shape (before · way.walk.rest)
  pub more : List ℕ
  pub of_shape : IsLetters t.element.shape more
  pub letters_are : letters ≡ way.letters ++ more
  pub to : walk.to ≡ way.walk.to
  pub rest : walk.rest ≡ way.walk.rest ++ more
  pub steps : walk.steps ≡ way.walk.steps

pub split_begins : (t : TypedValue) (way : Led) → way.walk.to < length t.quasi.basis.words → ((x : Word) → slice_get t.quasi.basis.words way.walk.to ≡ Some x → IsWordOf t.element.shape (x · way.walk.rest)) → IsSplitting t way way.letters way.walk
split_begins t way within word =
    let x = something_at t.quasi.basis.words way.walk.to within in
    record { before = x.0; there = x.1; word = word x.0 x.1; more = []; of_shape = All-nil (IsLetter t.element.shape); letters_are = sym (append-nil way.letters); to = refl; rest = sym (append-nil way.walk.rest); steps = refl }

module _ (t : TypedValue) (way : Led) (letters : List ℕ) (walk : Walk) (s : IsSplitting t way letters walk) where
  -- the word with the letters
  split_word : IsWordOf t.element.shape (s.before · walk.rest)
  split_word = subst (IsWordOf t.element.shape) (after-append s.before way.walk.rest s.more ∙ ap (λ r. s.before · r) (sym s.rest)) (word_after t.element.shape (s.before · way.walk.rest) s.more s.word s.of_shape)

  pub split_here : slice_get t.quasi.basis.words walk.to ≡ Some s.before
  split_here = subst (λ k. slice_get t.quasi.basis.words k ≡ Some s.before) (sym s.to) s.there

  pub split_asked : (x : Word) → slice_get t.quasi.basis.words walk.to ≡ Some x → IsWordOf t.element.shape (x · walk.rest)
  split_asked x here = subst (λ y. IsWordOf t.element.shape (y · walk.rest)) (same_at t.quasi.basis.words t.quasi.basis.words walk.to s.before x refl split_here here) split_word

  -- one letter more
  pub split_more : (longer : List ℕ) (next : Walk) → longer ≡ letters ++ 1 ∷ [] → next.to ≡ walk.to → next.steps ≡ walk.steps → next.rest ≡ walk.rest ++ 1 ∷ [] → IsSplitting t way longer next
  split_more longer next e to steps rest = record {
    before = s.before;
    there = s.there;
    word = s.word;
    more = s.more ++ 1 ∷ [];
    of_shape = letters_append t.element.shape s.more (1 ∷ []) s.of_shape (All-cons (IsLetter t.element.shape) 1 [] (first_letter t.element.shape 1 (omega arith, omega arith)) (All-nil (IsLetter t.element.shape)));
    letters_are = e ∙ ap (λ z. z ++ 1 ∷ []) s.letters_are ∙ append_assoc way.letters s.more (1 ∷ []);
    to = to ∙ s.to;
    rest = rest ∙ ap (λ z. z ++ 1 ∷ []) s.rest ∙ append_assoc way.walk.rest s.more (1 ∷ []);
    steps = steps ∙ s.steps;
  }

  -- only short words split
  pub split_short : (direction : Direction) → IsTyped t.element t.quasi t.kinds → HasStep t.element.shape t.element.rows t.quasi.basis.words (power_in direction 1) (s.before · walk.rest) Splits
      → length walk.rest < longest (from_words (rows_in direction t.element.rows)) + longest t.quasi.basis.words
  split_short direction typed splits =
      let q = rows_in direction t.element.rows in
      let d = directed direction t typed in
      let none = step_seen direction t.element.shape t.element.rows q t.quasi.basis.words d (s.before · walk.rest) Splits splits in
      stuck_short d.base s.before walk.rest split_word (λ c. none c.to c.carries)

  -- the step that leads on
  pub split_leads : (direction : Direction) (next : Led) → HasStep t.element.shape t.element.rows t.quasi.basis.words (power_in direction 1) (s.before · walk.rest) (Leads next.walk.to next.walk.rest)
      → next.letters ≡ letters → next.walk.steps ≡ walk.steps + 1 → IsLedOn t direction way next
  split_leads direction next leads e steps = record {
    before = s.before;
    there = s.there;
    more = s.more;
    of_shape = s.of_shape;
    letters = e ∙ s.letters_are;
    steps = steps ∙ ap (λ k. k + 1) s.steps;
    above = leads.above;
    here = leads.here;
    carries = subst (λ u. Carries t.element.shape t.element.rows (power_in direction 1) u (leads.above · next.walk.rest)) (ap (λ r. s.before · r) s.rest ∙ sym (after-append s.before way.walk.rest s.more)) leads.carries;
  }

-- ---- some steps

no_power : (direction : Direction) (k : ℕ) → k ≡ 0 → power_in direction k ≡ pos 0
no_power Ahead k e = ap pos e
no_power Behind k e = omega (arith, ints, e)

next_power : (direction : Direction) (k n : ℕ) → n ≡ k + 1 → power_in direction k +ℤ power_in direction 1 ≡ power_in direction n
next_power Ahead k n e = omega (arith, ints, e)
next_power Behind k n e = omega (arith, ints, e)

pub led_begins : (t : TypedValue) (direction : Direction) (u : Word) (way : Led) → IsWordOf t.element.shape u → way.letters ≡ [] → IsPlaced t.quasi.basis.words u way.walk → IsLedBy t (power_in direction way.walk.steps) u way
led_begins t direction u way hu none p = record {
  above = p.above;
  here = p.here;
  of_shape = subst (IsLetters t.element.shape) (sym none) (All-nil (IsLetter t.element.shape));
  carries = subst (λ k. Carries t.element.shape t.element.rows k (u · way.letters) (p.above · way.walk.rest)) (sym (no_power direction way.walk.steps p.none))
      (subst (λ v. Carries t.element.shape t.element.rows (pos 0) v (p.above · way.walk.rest)) (sym (ap (λ z. u · z) none ∙ after-nil u)) (subst (Carries t.element.shape t.element.rows (pos 0) u) p.is (carries_itself t.element.shape t.element.rows u hu)));
}

pub led_asked : (t : TypedValue) → IsTyped t.element t.quasi t.kinds → (i : ℤ) (u : Word) (way : Led) → IsLedBy t i u way → (x : Word) → slice_get t.quasi.basis.words way.walk.to ≡ Some x → IsWordOf t.element.shape (x · way.walk.rest)
led_asked t typed i u way l x here =
    subst (λ y. IsWordOf t.element.shape (y · way.walk.rest)) (same_at t.quasi.basis.words t.quasi.basis.words way.walk.to l.above x refl l.here here)
    (carries_word t.element.shape t.element.rows typed.canonical.pair i (u · way.letters) (l.above · way.walk.rest) l.carries)

pub led_more : (t : TypedValue) → IsTyped t.element t.quasi t.kinds → (direction : Direction) (u : Word) (way next : Led) → IsLedBy t (power_in direction way.walk.steps) u way → IsLedOn t direction way next → IsLedBy t (power_in direction next.walk.steps) u next
led_more t typed direction u way next l on =
    let shape = t.element.shape in
    let p = t.element.rows in
    let k = power_in direction way.walk.steps in
    let same : l.above ≡ on.before = same_at t.quasi.basis.words t.quasi.basis.words way.walk.to l.above on.before refl l.here on.there in
    let first = carries_extends shape p k (u · way.letters) (l.above · way.walk.rest) on.more on.of_shape l.carries in
    let here : Carries shape p k (u · next.letters) ((on.before · way.walk.rest) · on.more) = subst (λ v. Carries shape p k v ((on.before · way.walk.rest) · on.more)) (after-append u way.letters on.more ∙ ap (λ z. u · z) (sym on.letters))
    (subst (λ y. Carries shape p k ((u · way.letters) · on.more) ((y · way.walk.rest) · on.more)) same first) in
    record {
      above = on.above;
      here = on.here;
      of_shape = subst (IsLetters shape) (sym on.letters) (letters_append shape way.letters on.more l.of_shape on.of_shape);
      carries = carries_sum shape p typed.canonical.pair k (power_in direction 1) (power_in direction next.walk.steps) (next_power direction way.walk.steps next.walk.steps on.steps) (u · next.letters) ((on.before · way.walk.rest) · on.more) (on.above · next.walk.rest) here on.carries;
    }
