-- What is known while a value is carried over a link.
use Rattle.std.proofs.Common.{◌≡◌, ℕ, ◌+◌, ◌<◌, ◌^◌, List, ◌++◌, length, nat_abs, Option, None, Some, option_map, slice_get, refl, sym, ap, ◌∙◌, subst, arith, ℤ, pos, neg_ℤ, ◌+ℤ◌}
use Rattle.std.proofs.lemmas.Int.{ints}
use Rattle.std.proofs.lemmas.List.{length-append}
use Rattle.std.proofs.lemmas.Option.{same_Some, slice_get_within}
use Rattle.ht_word.specs.Words.{◌·◌, IsLetters, IsUnder, IsUnderSome, IsWordOf}
use Rattle.ht_word.specs.declared.shape.Shape.{Shape}
use Rattle.ht_word.specs.declared.word.Word.{Word}
use Rattle.ht_word.proofs.WordLaws.{after-append, letters_append, letters_front, under_after, word_after, word_rest}
use Rattle.ht_pair.specs.Actions.{Moves}
use Rattle.ht_pair.specs.Atoms.{IsAtom, IsInfiniteWord, words_at}
use Rattle.ht_pair.specs.Steps.{Carries}
use Rattle.ht_pair.specs.declared.row.Row.{Row}
use Rattle.ht_pair.proofs.BasisLaws.{basis_word, some_at}
use Rattle.ht_pair.proofs.CarriesLaws.{carries_word}
use Rattle.ht_quasi.proofs.RoundLaws.{something_at}
use Rattle.ht_quasi.proofs.StepLaws.{listed_at, same_at}
use Rattle.ht_types.specs.Flows.{power_in, IsEndIn, IsExit, IsUnderInfinite, opposite}
use Rattle.ht_types.specs.Links.{IsLink, ReachesEnd, reach_in}
use Rattle.ht_types.specs.Shares.{IsShare}
use Rattle.ht_types.specs.TypedElements.{TypedValue, IsTyped}
use Rattle.ht_types.specs.WordKinds.{HasKind}
use Rattle.ht_types.specs.declared.direction.Direction.{Direction}
use Rattle.ht_types.specs.declared.direction.Direction.TheVariants.{Ahead, Behind}
use Rattle.ht_types.specs.declared.exit.Exit.{Exit}
use Rattle.ht_types.specs.declared.kind.Kind.{Kind}
use Rattle.ht_types.specs.declared.kind.Reach.{Reach}
use Rattle.ht_types.specs.declared.link.Link.{Link}
use Rattle.ht_types.proofs.TurnLaws.{HasSemiNormal, infinite_kept}
use Rattle.ht_pieces.specs.Values.{IsValue}
use Rattle.ht_pieces.proofs.Conjugating.{rows_conjugate}
use Rattle.ht_pieces.proofs.InsideLaws.{inside_from_under}
use Rattle.ht_pieces.proofs.KeptAtoms.{atom_inside, atom_is_kept, carried_into_atom}
use Rattle.ht_local.specs.Crossings.{power_across, IsLedBy, IsFarWord, IsRightAcross, IsShared, letters_of}
use Rattle.ht_local.specs.KnownValues.{IsHeld, IsRight}
use Rattle.ht_local.specs.LocalConjugators.{ConjugatesPlaces}
use Rattle.ht_local.specs.declared.known.Known.{Known}
use Rattle.ht_local.specs.declared.led.Led.{Led}
use Rattle.ht_local.proofs.CrossingLaws.{end_letters, end_infinite, found_at, value_along}
use Rattle.ht_local.proofs.FarEnds.{power_once_only}
use Rattle.ht_types.proofs.TypedLaws.{typed_base}

-- ---- the link

pub reach_of : (f : TypedValue) (link : Link) (direction : Direction) → IsLink f link → ReachesEnd f direction link.cone (reach_in direction link)
reach_of f link Ahead l = l.ahead
reach_of f link Behind l = l.behind

-- the letters of a reach
pub reach_letters : (f g : TypedValue) (link : Link) (direction : Direction) → IsTyped f.element f.quasi f.kinds → g.element.shape ≡ f.element.shape → IsLink f link → IsLetters g.element.shape (reach_in direction link).rest
reach_letters f g link direction typed same l =
    let r = reach_of f link direction l in
    subst (λ s. IsLetters s (reach_in direction link).rest) (sym same) (word_rest f.element.shape r.above (reach_in direction link).rest
    (carries_word f.element.shape f.element.rows typed.canonical.pair (power_in direction (reach_in direction link).steps) link.cone (r.above · (reach_in direction link).rest) r.carries))

-- the kind at a place
pub kind_at : (t : TypedValue) → IsTyped t.element t.quasi t.kinds → (place : ℕ) (x : Word) → slice_get t.quasi.basis.words place ≡ Some x → (kind : Kind) × (slice_get t.kinds place ≡ Some kind) × HasKind t.element.shape t.element.rows t.quasi.basis.words x kind
kind_at t typed place x here =
    let within : place < length t.kinds = let l = slice_get_within t.quasi.basis.words place x here in let e = typed.kinds_are.as_many in omega arith in
    let k = something_at t.kinds place within in
    (k.0, k.1, typed.kinds_are.each place x k.0 here k.1)

-- ---- on the way

module _ (g : TypedValue) (typed : IsTyped g.element g.quasi g.kinds) where
  -- where the word is led to
  pub led_to : (i : ℤ) (u : Word) (way : Led) (l : IsLedBy g i u way) → IsUnderInfinite g.element.shape g.element.rows g.quasi.basis.words u → IsWordOf g.element.shape (l.above · way.walk.rest) × IsUnderInfinite g.element.shape g.element.rows g.quasi.basis.words (l.above · way.walk.rest)
  led_to i u way l under =
      let z = under.under.rest ++ way.letters in
      let is : u · way.letters ≡ under.above · z = ap (λ x. x · way.letters) under.under.is ∙ after-append under.above under.under.rest way.letters in
      let listed = listed_at g.quasi.basis.words way.walk.to l.above l.here in (
        carries_word g.element.shape g.element.rows typed.canonical.pair i (u · way.letters) (l.above · way.walk.rest) l.carries,
        record {
          above = l.above;
          infinite = infinite_kept (typed_base g typed) i under.above l.above z way.walk.rest under.infinite listed (subst (λ x. Carries g.element.shape g.element.rows i x (l.above · way.walk.rest)) is l.carries);
          under = under_after l.above way.walk.rest;
        },
      )

  -- a word where an exit ends, with some front of its letters
  pub record IsFrontAt (side : Direction) (place : ℕ) (word : Word) : Type 0 where
    pub end : Word
    pub here : slice_get g.quasi.basis.words place ≡ Some end
    pub infinite : IsInfiniteWord g.element.shape g.element.rows g.quasi.basis.words end
    pub front : List ℕ
    pub of_shape : IsLetters g.element.shape front
    pub is : word ≡ end · front

  pub front_at : (side : Direction) (f : TypedValue) → IsTyped f.element f.quasi f.kinds → (u : Word) (exit : Exit) (far : Reach) (led : List ℕ) (b : Word) → IsExit g.element.shape g.element.rows g.quasi.basis.words side u exit → slice_get f.quasi.basis.words far.to ≡ Some b
      → (word : Word) → IsFarWord f g exit far led (Some word) → IsFrontAt side exit.to word
  front_at side f typed_f u exit far led b ex there word told =
      let k = kind_at f typed_f far.to b there in
      let o = kind_at g typed exit.to ex.above ex.walked.here in
      let t = told k.0 o.0 ex.above k.1 o.1 ex.walked.here in
      by t.0 t.1 t.2 o.2
    where
      by : (front : Option (List ℕ)) → Some word ≡ option_map (λ z. ex.above · z) front → ((z : List ℕ) → front ≡ Some z → (back : List ℕ) × (letters_of (kind_at g typed exit.to ex.above ex.walked.here).0 ≡ z ++ back))
          → HasKind g.element.shape g.element.rows g.quasi.basis.words ex.above (kind_at g typed exit.to ex.above ex.walked.here).0 → IsFrontAt side exit.to word
      by None e l has = cc
      by (Some z) e l has =
          let w = l z refl in
          let kind = (kind_at g typed exit.to ex.above ex.walked.here).0 in
          record {
            end = ex.above;
            here = ex.walked.here;
            infinite = end_infinite side (typed_base g typed) ex.above (listed_at g.quasi.basis.words exit.to ex.above ex.walked.here) ex.ends;
            front = z;
            of_shape = letters_front g.element.shape z w.0 (subst (IsLetters g.element.shape) w.1 (end_letters side (typed_base g typed) ex.above kind has ex.ends));
            is = same_Some word (ex.above · z) e;
          }

  pub front_word : (side : Direction) (place : ℕ) (word : Word) → IsFrontAt side place word → IsWordOf g.element.shape word
  front_word side place word w = subst (IsWordOf g.element.shape) (sym w.is) (word_after g.element.shape w.end w.front (basis_word g.element.shape g.quasi.basis.words (typed_base g typed).semi.basis w.end w.infinite.0) w.of_shape)

  -- what is asked
  pub front_asked : (side : Direction) (place : ℕ) (word : Word) → IsFrontAt side place word → (y z : List ℕ) → IsLetters g.element.shape y → IsLetters g.element.shape z
      → IsWordOf g.element.shape ((word · y) · z) × IsUnderSome ((word · y) · z) g.quasi.basis.words
  front_asked side place word w y z hy hz = (
    word_after g.element.shape (word · y) z (word_after g.element.shape word y (front_word side place word w) hy) hz,
    some_at g.quasi.basis.words w.end ((word · y) · z) w.infinite.0 (record { rest = (w.front ++ y) ++ z; is = ap (λ u. (u · y) · z) w.is ∙ ap (λ u. u · z) (after-append w.end w.front y) ∙ after-append w.end (w.front ++ y) z }),
  )

  -- what is held
  pub front_held : (side : Direction) (place : ℕ) (word : Word) → IsFrontAt side place word → (far : Reach) (led : List ℕ) (to : Word) (known : Known) → IsShared g word far led to (Some known) → IsHeld g known
  front_held side place word w far led to known s = by s.0 s.1 s.2
    where
      held : (i : ℤ) → known ≡ record { word = word; power = i } → nat_abs i < 2 ^ 122 → IsHeld g known
      held i e few = record {
        word = subst (IsWordOf g.element.shape) (ap (λ (k : Known). k.word) (sym e)) (front_word side place word w);
        infinite = record { above = w.end; infinite = w.infinite; under = record { rest = w.front; is = ap (λ (k : Known). k.word) e ∙ w.is } };
        few = subst (λ (k : Known). nat_abs k.power < 2 ^ 122) (sym e) few;
      }

      by : (power : Option ℤ) → Some known ≡ option_map (λ i. record { word = word; power = i }) power → IsShare g.element.shape g.element.rows g.quasi.basis.words ((word · far.rest) · led) to power → IsHeld g known
      by None e h = cc
      by (Some i) e h = held i (same_Some known (record { word = word; power = i }) e) h.1

-- ---- right for conjugators

module _ (f g : TypedValue) (typed_f : IsTyped f.element f.quasi f.kinds) (typed_g : IsTyped g.element g.quasi g.kinds) (same : g.element.shape ≡ f.element.shape) (link : Link) (direction : Direction) (near : Known) (l : IsLink f link) (held : IsHeld g near) where
  abbrev S : Shape
  S = f.element.shape

  abbrev G : List Row
  G = g.element.rows

  abbrev side : Direction
  side = opposite direction

  abbrev close : Reach
  close = reach_in direction link

  abbrev far : Reach
  far = reach_in side link

  abbrev power : ℤ
  power = power_across direction near.power (link.ahead.steps + link.behind.steps)

  -- the far end
  abbrev other_end : ReachesEnd f side link.cone far
  other_end = reach_of f link side l

  far_base : HasSemiNormal S G g.quasi.basis.words
  far_base = subst (λ s. HasSemiNormal s G g.quasi.basis.words) same (typed_base g typed_g)

  steps_between : (way : Direction) (i : ℤ) → power_across way i (link.ahead.steps + link.behind.steps) ≡ i +ℤ (neg_ℤ (power_in way (reach_in way link).steps) +ℤ power_in (opposite way) (reach_in (opposite way) link).steps)
  steps_between Ahead i = omega (arith, ints)
  steps_between Behind i = omega (arith, ints)

  -- the word that is right at the far end
  record IsRightWord (h : List Row) (led : List ℕ) (v : Word) (found : Option Word) : Type 0 where
    pub word : Word
    pub is : found ≡ Some word
    pub power_at : ℤ
    pub value : IsValue S (Moves h) G other_end.above word power_at
    pub shares : Carries S G power_at ((word · far.rest) · led) v

  right_word : (way : Led) (w : IsLedBy g power (near.word · close.rest) way) (exit : Exit) → IsExit g.element.shape G g.quasi.basis.words side (w.above · way.walk.rest) exit
      → (found : Option Word) → IsFarWord f g exit far way.letters found → (k o : List ℕ) (h : List Row) → IsAtom S f.element.rows f.quasi.basis.words k → IsAtom S G g.quasi.basis.words o
      → IsUnderSome link.cone (words_at f.quasi.basis.words k) → ConjugatesPlaces f k g o h → IsRight f g h close.to near → IsRightWord h way.letters (w.above · way.walk.rest) found
  right_word way w exit ex found told k o h atom other under conjugates right =
      let first = typed_base f typed_f in
      let r = reach_of f link direction l in
      let b = other_end.above in
      let v = w.above · way.walk.rest in
      let c = rows_conjugate first.pair far_base.pair (atom_is_kept first atom) conjugates in
      let d = inside_from_under S (words_at f.quasi.basis.words k) link.cone l.word under in
      let at = same_at f.quasi.basis.words f.quasi.basis.words close.to right.word r.above refl right.here r.here in
      let value = subst (λ x. IsValue S (Moves h) G x near.word near.power) at right.value in
      let ht = subst (λ s. IsWordOf s near.word) same held.word in
      let hw = subst (λ s. IsLetters s way.letters) same w.of_shape in
      let led = subst (λ s. Carries s G power ((near.word · close.rest) · way.letters) v) same w.carries in
      let along = value_along c (atom_is_kept far_base other) first far_base link.cone r.above (b · far.rest) near.word v near.power (power_in direction close.steps) (power_in side far.steps) power close.rest way.letters d ht value r.carries other_end.carries hw (steps_between direction near.power) led in
      let there = subst (λ x. IsValue S (Moves h) G x v (pos 0)) (after-append b far.rest way.letters) along in
      let hb = word_rest S b far.rest (carries_word S f.element.rows first.pair (power_in side far.steps) link.cone (b · far.rest) other_end.carries) in
      let listed = listed_at f.quasi.basis.words far.to b other_end.here in
      let inside = atom_inside first atom b (carried_into_atom first atom (power_in side far.steps) link.cone (b · far.rest) b d other_end.carries listed (under_after b far.rest)) in
      let kf = kind_at f typed_f far.to b other_end.here in
      let kg = kind_at g typed_g exit.to ex.above ex.walked.here in
      let t = told kf.0 kg.0 ex.above kf.1 kg.1 ex.walked.here in
      let hv = carries_word S G far_base.pair power ((near.word · close.rest) · way.letters) v led in
      let x = far.rest ++ way.letters in
      let hf = found_at c (atom_is_kept far_base other) first far_base side b kf.0 listed kf.2 other_end.ends inside x exit.letters exit.rest v ex.above kg.0 (power_in side exit.steps) (length far.rest + length way.letters + length exit.letters) t.0
      (letters_append S far.rest way.letters hb hw) (subst (λ s. IsLetters s exit.letters) same ex.of_shape) hv there (listed_at g.quasi.basis.words exit.to ex.above ex.walked.here) (subst (λ s. HasKind s G g.quasi.basis.words ex.above kg.0) same kg.2)
      (subst (λ s. IsEndIn side s G ex.above) same ex.ends) (subst (λ s. Carries s G (power_in side exit.steps) (v · exit.letters) (ex.above · exit.rest)) same ex.walked.carries) (omega (arith, length-append far.rest way.letters)) t.3 in
      record {
        word = ex.above · hf.front;
        is = t.1 ∙ ap (λ z. option_map (λ y. ex.above · y) z) hf.is;
        power_at = hf.power;
        value = hf.value;
        shares = subst (λ u. Carries S G hf.power u v) (sym (after-append (ex.above · hf.front) far.rest way.letters)) hf.shares;
      }

  -- none is found only where there is none
  pub right_none : (way : Led) (w : IsLedBy g power (near.word · close.rest) way) (exit : Exit) → IsExit g.element.shape G g.quasi.basis.words side (w.above · way.walk.rest) exit
      → (found : Option Word) → IsFarWord f g exit far way.letters found → found ≡ None → IsRightAcross f g link direction near None
  right_none way w exit ex found told none = λ k o h atom other under conjugates right.
      let r = right_word way w exit ex found told k o h atom other under conjugates right in
      let both : None ≡ Some r.word = sym none ∙ r.is in
      cc

  -- and what is shared is right
  pub right_some : (way : Led) (w : IsLedBy g power (near.word · close.rest) way) (exit : Exit) → IsExit g.element.shape G g.quasi.basis.words side (w.above · way.walk.rest) exit
      → (found : Option Word) → IsFarWord f g exit far way.letters found → (word : Word) → found ≡ Some word → (result : Option Known) → IsShared g word far way.letters (w.above · way.walk.rest) result → IsRightAcross f g link direction near result
  right_some way w exit ex found told word is result shared = λ k o h atom other under conjugates right.
      let r = right_word way w exit ex found told k o h atom other under conjugates right in
      let one = same_Some r.word word (sym r.is ∙ is) in
      let v = w.above · way.walk.rest in
      let value = subst (λ u. IsValue S (Moves h) G other_end.above u r.power_at) one r.value in
      let shares = subst (λ u. Carries S G r.power_at ((u · far.rest) · way.letters) v) one r.shares in
      by h shared.0 shared.1 shared.2 r.power_at value (subst (λ s. Carries s G r.power_at ((word · far.rest) · way.letters) v) (sym same) shares)
    where
      front : IsFrontAt g typed_g side exit.to word
      front = front_at g typed_g side f typed_f (w.above · way.walk.rest) exit far way.letters other_end.above ex other_end.here word (subst (IsFarWord f g exit far way.letters) is told)

      by : (h : List Row) (answer : Option ℤ) → result ≡ option_map (λ i. record { word = word; power = i }) answer → IsShare g.element.shape G g.quasi.basis.words ((word · far.rest) · way.letters) (w.above · way.walk.rest) answer
          → (i : ℤ) → IsValue S (Moves h) G other_end.above word i → Carries g.element.shape G i ((word · far.rest) · way.letters) (w.above · way.walk.rest) → (known : Known) × (result ≡ Some known) × IsRight f g h far.to known
      by h None e none i value shares = absurd (none i shares)
      by h (Some j) e share i value shares =
          let u = (word · far.rest) · way.letters in
          let under : IsUnder u front.end = record { rest = (front.front ++ far.rest) ++ way.letters; is = ap (λ t. (t · far.rest) · way.letters) front.is ∙ ap (λ t. t · way.letters) (after-append front.end front.front far.rest) ∙ after-append front.end (front.front ++ far.rest) way.letters } in
          let once : i ≡ j = power_once_only (typed_base g typed_g) front.end u (w.above · way.walk.rest) front.infinite under i j shares share.0 in
          (record { word = word; power = j }, e, record { word = other_end.above; here = other_end.here; value = subst (IsValue S (Moves h) G other_end.above word) once value })
