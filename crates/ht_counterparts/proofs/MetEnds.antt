-- A conjugator brings attractors together: what it sends an attractor to, with its letters often enough behind it, is under an attractor of the other
-- element. Back again that is the attractor from which it came, so both have one period and as many letters.
use Rattle.std.proofs.Common.{◌≡◌, ℕ, zero, suc, ◌+◌, ◌-◌, ◌*◌, ◌≤◌, List, ◌++◌, length, refl, sym, ap, ◌∙◌, subst, subst₂, arith, append_assoc, append-nil, Contains, pos}
use Rattle.std.proofs.Math.Nat.{mul-le-mul_left}
use Rattle.std.proofs.lemmas.List.{length-append}
use Rattle.ht_word.specs.Words.{◌·◌, IsUnder, IsWordOf}
use Rattle.ht_word.specs.declared.shape.Shape.{Shape}
use Rattle.ht_word.specs.declared.word.Word.{Word}
use Rattle.ht_word.proofs.WordLaws.{after-append, under_after, under_trans, word_rest}
use Rattle.ht_pair.specs.Repeats.{repeated}
use Rattle.ht_pair.specs.declared.row.Row.{Row}
use Rattle.ht_pair.proofs.BasisLaws.{basis_single}
use Rattle.ht_pair.proofs.CarriesLaws.{carries_word}
use Rattle.ht_pair.proofs.KindLaws.{attractor_once, carries_times, length-repeated}
use Rattle.ht_pair.proofs.PrefixMapLaws.{back}
use Rattle.ht_types.proofs.AttractorLaws.{IsAttractorOf, repeated_next, repeated_none}
use Rattle.ht_types.proofs.TurnLaws.{HasSemiNormal}
use Rattle.ht_pieces.specs.Pieces.{IsInside, IsKept}
use Rattle.ht_pieces.proofs.Conjugating.{IsConjugator}
use Rattle.ht_pieces.proofs.EndValues.{comes_under, lengthened}
use Rattle.ht_pieces.proofs.InsideLaws.{inside_listed}
use Rattle.ht_pieces.proofs.PartMaps.{sent_long}
use Rattle.ht_pieces.proofs.TurnedLetters.{repeated_add, repeated_once}

-- F sends the attractor x of f, with its letters some times behind it, under the attractor y of g, of which some rounds take as long as one of x
pub record MeetsEnd (shape : Shape) (f g : List Row) (X Y : List Word) (F : Word → Word → Type 0) (x y : Word) : Type 0 where
  pub period : ℕ
  pub letters : List ℕ
  pub from : IsAttractorOf shape f X x period letters
  pub steps : ℕ
  pub by : List ℕ
  pub to : IsAttractorOf shape g Y y steps by
  pub times : ℕ
  pub rest : List ℕ
  pub sent : F (x · repeated times letters) (y · rest)
  pub rounds : ℕ
  pub positive : 1 ≤ rounds
  pub divides : period ≡ rounds * steps
  pub passes : repeated rounds by ++ rest ≡ rest ++ letters

-- ---- letters again and again

repeated_times : (t r : ℕ) (L : List ℕ) → repeated t (repeated r L) ≡ repeated (t * r) L
repeated_times zero r L = repeated_none (repeated r L) ∙ sym (repeated_none L) ∙ ap (λ k. repeated k L) (none r)
  where
    none : (r : ℕ) → 0 ≡ 0 * r
    none r = omega arith
repeated_times (suc t) r L =
    repeated_next t (repeated r L) ∙ ap (λ z. z ++ repeated r L) (repeated_times t r L) ∙ repeated_add (t * r) r L ∙ ap (λ k. repeated k L) (more t r)
  where
    more : (t r : ℕ) → t * r + r ≡ suc t * r
    more t r = omega arith

-- so they begin with as many of the letters
begins : (t r : ℕ) (L : List ℕ) → 1 ≤ r → repeated t (repeated r L) ≡ repeated t L ++ repeated (t * r - t) L
begins t r L low = repeated_times t r L ∙ ap (λ k. repeated k L) (whole t r (mul-le-mul_left t low)) ∙ sym (repeated_add t (t * r - t) L)
  where
    whole : (t r : ℕ) → t * 1 ≤ t * r → t * r ≡ t + (t * r - t)
    whole t r l = omega arith

-- what passes through letters once passes through them each number of times
passes_times : (L z G : List ℕ) → L ++ z ≡ z ++ G → (t : ℕ) → repeated t L ++ z ≡ z ++ repeated t G
passes_times L z G e zero = ap (λ y. y ++ z) (repeated_none L) ∙ sym (append-nil z) ∙ ap (λ y. z ++ y) (sym (repeated_none G))
passes_times L z G e (suc t) =
    ap (λ y. y ++ z) (repeated_next t L) ∙ append_assoc (repeated t L) L z ∙ ap (λ y. repeated t L ++ y) e ∙ sym (append_assoc (repeated t L) z G)
    ∙ ap (λ y. y ++ G) (passes_times L z G e t) ∙ append_assoc z (repeated t G) G ∙ ap (λ y. z ++ y) (sym (repeated_next t G))

-- ---- there and back

repeated_word : {shape : Shape} {f : List Row} {X : List Word} → HasSemiNormal shape f X → {x : Word} {m : ℕ} {G : List ℕ} → IsAttractorOf shape f X x m G
    → (k : ℕ) → IsWordOf shape (x · repeated k G)
repeated_word {shape} {f} first {x} {m} {G} a k =
    carries_word shape f first.pair (pos (k * m)) x (x · repeated k G) (carries_times shape f first.pair m x G a.attractor.lengthens.1 k)

module _ {shape : Shape} {f g : List Row} {X Y V W : List Word} {F : Word → Word → Type 0} (c : IsConjugator shape f g V W F) (first : HasSemiNormal shape f X) (second : HasSemiNormal shape g Y) where
  sent_further : (x : Word) (G : List ℕ) (s t : ℕ) (v w : Word) → F (x · repeated s G) v → v · repeated t G ≡ w → F (x · repeated (s + t) G) w
  sent_further x G s t v w sent is =
      subst₂ F (after-append x (repeated s G) (repeated t G) ∙ ap (λ z. x · z) (repeated_add s t G)) is (c.map.extends (x · repeated s G) v (repeated t G) sent)

  -- each attractor inside V meets one of W
  pub meets : IsKept shape g (IsInside shape W) → ((y : Word) → Contains W y → Contains Y y)
      → (x : Word) (m : ℕ) (G : List ℕ) → IsAttractorOf shape f X x m G → IsInside shape V x
      → (y : Word) × Contains W y × MeetsEnd shape f g X Y F x y
  meets kept within x m G a d =
      let some = a.attractor.lengthens.0 in
      let s = c.map.bound in
      let hs = word_rest shape x (repeated s G) (repeated_word first a s) in
      let v = sent_long c.map x d (repeated s G) hs (length-repeated s G some) in
      let e = comes_under second m a.attractor.first.positive v.0 G some (lengthened c kept first second x m G a d s v.0 v.1) in
      let k = s + e.times in
      let sent = sent_further x G s e.times v.0 (e.end · e.rest) v.1 e.is in
      let i = (c.map.inside (x · repeated k G) (e.end · e.rest) (repeated_word first a k) sent).1 in (
        e.end,
        inside_listed second.semi.basis within {u = e.end · e.rest} i e.end e.attractor.listed (under_after e.end e.rest),
        record {
          period = m;
          letters = G;
          from = a;
          steps = e.steps;
          by = e.by;
          to = e.attractor;
          times = k;
          rest = e.rest;
          sent = sent;
          rounds = e.rounds;
          positive = e.positive;
          divides = e.divides;
          passes = e.passes;
        },
      )

  -- and back it meets that from which it came alone
  pub comes_back : (x y x' : Word) → MeetsEnd shape f g X Y F x y → MeetsEnd shape g f Y X (back F) y x' → x' ≡ x
  comes_back x y x' a b =
      let t = b.times in
      let more = repeated (t * a.rounds - t) b.letters ++ a.rest in
      let u = x · repeated (a.times + t) a.letters in
      let v = (y · repeated t b.letters) · more in
      let w = (x' · b.rest) · more in
      let one = attractor_once shape g second.pair y a.steps b.period a.by b.letters a.to.attractor b.from.attractor in
      let there : F u v = sent_further x a.letters a.times t (y · a.rest) v a.sent
      (onward y a.rest b.letters a.letters a.rounds t a.positive (subst (λ L. repeated a.rounds L ++ a.rest ≡ a.rest ++ a.letters) one.1 a.passes)) in
      let far : IsWordOf shape u = repeated_word first a.from (a.times + t) in
      let again : F w v = c.map.extends (x' · b.rest) (y · repeated t b.letters) more b.sent in
      let is : u ≡ w = c.map.single_back u w v (c.map.inside u v far there).1.word there again in
      basis_single shape X first.semi.basis u x' x b.to.listed a.from.listed
      (subst (λ e. IsUnder e x') (sym is) (under_trans (under_after (x' · b.rest) more) (under_after x' b.rest)))
      (under_after x (repeated (a.times + t) a.letters))
    where
      onward : (y : Word) (z L G : List ℕ) (r t : ℕ) → 1 ≤ r → repeated r L ++ z ≡ z ++ G
          → (y · z) · repeated t G ≡ (y · repeated t L) · (repeated (t * r - t) L ++ z)
      onward y z L G r t low passes =
          let whole = sym (passes_times (repeated r L) z G passes t) ∙ ap (λ e. e ++ z) (begins t r L low)
          ∙ append_assoc (repeated t L) (repeated (t * r - t) L) z in
          after-append y z (repeated t G) ∙ ap (λ e. y · e) whole ∙ sym (after-append y (repeated t L) (repeated (t * r - t) L ++ z))

-- attractors that meet both ways have one period and as many letters
pub same_end : {shape : Shape} {f g : List Row} {X Y : List Word} {F : Word → Word → Type 0} {x y : Word} → HasSemiNormal shape f X → HasSemiNormal shape g Y
    → (a : MeetsEnd shape f g X Y F x y) (b : MeetsEnd shape g f Y X (back F) y x) → (a.period ≡ a.steps) × (length a.letters ≡ length a.by)
same_end {shape} {f} {g} {X} {Y} {F} {x} {y} first second a b =
    let there = attractor_once shape g second.pair y a.steps b.period a.by b.letters a.to.attractor b.from.attractor in
    let here = attractor_once shape f first.pair x a.period b.steps a.letters b.by a.from.attractor b.to.attractor in
    let divides : a.steps ≡ b.rounds * a.period = there.0 ∙ b.divides ∙ ap (λ k. b.rounds * k) (sym here.0) in
    let once = one_round a.rounds b.rounds a.period a.steps a.positive a.to.attractor.first.positive a.divides divides in
    let one = ap (λ k. repeated k a.by) once.0 ∙ repeated_once a.by in
    (once.1, as_many a.by a.rest a.letters (subst (λ L. L ++ a.rest ≡ a.rest ++ a.letters) one a.passes))
  where
    one_round : (r j m n : ℕ) → 1 ≤ r → 1 ≤ n → m ≡ r * n → n ≡ j * m → (r ≡ 1) × (m ≡ n)
    one_round zero j m n some low e i = absurd (omega arith)
    one_round (suc zero) j m n some low e i = (refl, omega arith)
    one_round (suc (suc r)) zero m n some low e i = absurd (omega arith)
    one_round (suc (suc r)) (suc j) m n some low e i = absurd (omega arith)

    as_many : (B z G : List ℕ) → B ++ z ≡ z ++ G → length G ≡ length B
    as_many B z G e = omega (arith, length-append B z, length-append z G, ap (λ (t : List ℕ). length t) e)
