-- Each word under the infinite part flows: letters behind it lead it under an attractor.
use Rattle.std.proofs.Common.{◌≡◌, ◌≢◌, ℕ, zero, suc, ◌+◌, ◌*◌, ◌≤◌, ◌<◌, ◌⊎◌, inl, inr, List, [], ◌∷◌, ◌++◌, length, refl, sym, ap, ◌∙◌, subst, arith, append_assoc, append-nil, ℤ, pos, neg_ℤ, ◌+ℤ◌, Contains}
use Rattle.std.proofs.lemmas.Int.{ints}
use Rattle.std.proofs.lemmas.List.{length-append, append_cancel_left}
use Rattle.std.proofs.lemmas.List.Elements.{All-cons}
use Rattle.ht_word.specs.Words.{◌·◌, IsLetter, IsLetters, IsWordOf, IsUnder}
use Rattle.ht_word.specs.declared.shape.Shape.{Shape}
use Rattle.ht_word.specs.declared.word.Word.{Word}
use Rattle.ht_word.proofs.WordLaws.{after-append, after_cancel, length-after, letters_back, list_prefixes, ones, ones_letters, length-ones, under_refl, word_after, word_front, word_rest}
use Rattle.ht_pair.specs.Atoms.{IsInfiniteWord}
use Rattle.ht_pair.specs.Bases.{longest}
use Rattle.ht_pair.specs.Kinds.{IsAttractorWord, IsCycleWord}
use Rattle.ht_pair.specs.Pairs.{IsPair, from_words, turned}
use Rattle.ht_pair.specs.Reaches.{CarriesUnderSuch}
use Rattle.ht_pair.specs.Steps.{Carries}
use Rattle.ht_pair.specs.declared.row.Row.{Row}
use Rattle.ht_pair.proofs.CarriesLaws.{carries_single, carries_word, carries_extends, carries_sum}
use Rattle.ht_pair.proofs.MovesLaws.{turned_pair}
use Rattle.ht_quasi.proofs.MirrorLaws.{Mirrors, mirrored_semi_normal}
use Rattle.ht_types.specs.Flows.{FlowsAhead, FlowsBehind}
use Rattle.ht_types.proofs.MirrorLaws.{turned_mirrors, such_to}
use Rattle.ht_types.proofs.PeriodicLaws.{periodic_word_either}
use Rattle.ht_types.proofs.TurnLaws.{HasSemiNormal, FallsBack, turns, stays_far, falls_to, falls_shorter}

-- ---- two words that fall back

-- what two powers put behind a word they put there in turn, in either order
pub lengthened_twice : (shape : Shape) (p : List Row) → IsPair shape p → (j k i : ℤ) → j +ℤ k ≡ i → (x : Word) (y z : List ℕ) → Carries shape p j x (x · y) → Carries shape p k x (x · z) → Carries shape p i x (x · (z ++ y))
lengthened_twice shape p pair j k i e x y z c d =
    let hy = word_rest shape x y (carries_word shape p pair j x (x · y) c) in
    carries_sum shape p pair j k i e x (x · y) (x · (z ++ y)) c (subst (Carries shape p k (x · y)) (after-append x z y) (carries_extends shape p k x (x · z) y hy d))

fronts_commute : {shape : Shape} {p : List Row} {X : List Word} → HasSemiNormal shape p X → (x : Word) (y z : List ℕ) (a : FallsBack shape p X x y) (b : FallsBack shape p X x z) → a.front ++ b.front ≡ b.front ++ a.front
fronts_commute {shape} {p} {X} h x y z a b =
    let i = neg_ℤ (pos a.count) in
    let j = neg_ℤ (pos b.count) in
    let one = lengthened_twice shape p h.pair i j (i +ℤ j) refl x a.front b.front a.lengthens.1 b.lengthens.1 in
    let other = lengthened_twice shape p h.pair j i (i +ℤ j) (turn j i) x b.front a.front b.lengthens.1 a.lengthens.1 in
    after_cancel x (a.front ++ b.front) (b.front ++ a.front) (carries_single shape p h.pair (i +ℤ j) x (x · (a.front ++ b.front)) (x · (b.front ++ a.front)) other one)
  where
    turn : (i j : ℤ) → i +ℤ j ≡ j +ℤ i
    turn i j = omega (arith, ints)

-- of two lists that begin z with 1 and z with 2 behind it, and that are the same in either order, one begins z
front_inside : (z s t o q y w : List ℕ) → z ++ (1 ∷ o) ≡ s ++ y → z ++ (2 ∷ q) ≡ t ++ w → s ++ t ≡ t ++ s → ((r : List ℕ) × (z ≡ s ++ r)) ⊎ ((r : List ℕ) × (z ≡ t ++ r))
front_inside z s t o q y w e g turn = elim (list_prefixes z s (1 ∷ o) y e) [
  | inl a ↦ inl (a.0, a.1)
  | inr a ↦ elim (list_prefixes z t (2 ∷ q) w g) [
    | inl b ↦ inr (b.0, b.1)
    | inr b ↦ past a.0 b.0 a.1 b.1 a.2 b.2
  ]
]
  where
    differ : (a b : List ℕ) → s ≡ z ++ (1 ∷ a) → t ≡ z ++ (2 ∷ b) → ⊥
    differ a b c d =
        let same : z ++ ((1 ∷ a) ++ t) ≡ z ++ ((2 ∷ b) ++ s) = sym (append_assoc z (1 ∷ a) t) ∙ ap (λ u. u ++ t) (sym c) ∙ turn ∙ ap (λ u. u ++ s) d ∙ append_assoc z (2 ∷ b) s in
        let tails : 1 ∷ (a ++ t) ≡ 2 ∷ (b ++ s) = append_cancel_left z (1 ∷ (a ++ t)) (2 ∷ (b ++ s)) same in
        cc

    past : (a b : List ℕ) → s ≡ z ++ a → t ≡ z ++ b → 1 ∷ o ≡ a ++ y → 2 ∷ q ≡ b ++ w → ((r : List ℕ) × (z ≡ s ++ r)) ⊎ ((r : List ℕ) × (z ≡ t ++ r))
    past [] b c d e g = inl ([], sym (append-nil z) ∙ sym c ∙ sym (append-nil s))
    past (l ∷ a) [] c d e g = inr ([], sym (append-nil z) ∙ sym d ∙ sym (append-nil t))
    past (l ∷ a) (m ∷ b) c d e g =
        let one : 1 ≡ l = cc in
        let two : 2 ≡ m = cc in
        absurd (differ a b (c ∙ ap (λ n. z ++ (n ∷ a)) (sym one)) (d ∙ ap (λ n. z ++ (n ∷ b)) (sym two)))

-- ---- words that flow

-- letters enough, after a first one
flows_or_falls : {shape : Shape} {p : List Row} {X : List Word} → HasSemiNormal shape p X → (x : Word) (z : List ℕ) → IsInfiniteWord shape p X x → IsWordOf shape (x · z) → (a : ℕ) → IsLetter shape a
    → FlowsAhead shape p X (x · z) ⊎ FallsBack shape p X x (z ++ (a ∷ ones (length X * longest (from_words p) + longest X)))
flows_or_falls {shape} {p} {X} h x z infinite hz a ha =
    let far = length X * longest (from_words p) + longest X in
    let y = a ∷ ones far in
    let hy : IsLetters shape y = All-cons (IsLetter shape) a (ones far) ha (ones_letters shape far) in
    let w = subst (IsWordOf shape) (after-append x z y) (word_after shape (x · z) y hz hy) in
    elim (turns h x (z ++ y) infinite (stays_far h (length X) (x · (z ++ y)) w (long x z a far))) [
      | inl m ↦ inl (record { letters = y; of_shape = hy; steps = m.count; to = m.to; reached = subst (λ u. CarriesUnderSuch shape p (IsAttractorWord shape p) X (pos m.count) u m.to) (sym (after-append x z y)) m.reached })
      | inr b ↦ inr b
    ]
  where
    long : (x : Word) (z : List ℕ) (a k : ℕ) → k ≤ length ((x · (z ++ (a ∷ ones k))).letters)
    long x z a k = omega (arith, length-after x (z ++ (a ∷ ones k)), length-append z (a ∷ ones k), length-ones k)

-- what flows from a word that steps lead to, flows from that where the steps begin
flows_further : {shape : Shape} {p : List Row} {X : List Word} → HasSemiNormal shape p X → (j : ℕ) (u v : Word) → Carries shape p (pos j) u v → FlowsAhead shape p X v → FlowsAhead shape p X u
flows_further {shape} {p} {X} h j u v c f = record {
  letters = f.letters;
  of_shape = f.of_shape;
  steps = j + f.steps;
  to = f.to;
  reached = record {
    above = f.reached.above;
    listed = f.reached.listed;
    such = f.reached.such;
    carries = carries_sum shape p h.pair (pos j) (pos f.steps) (pos (j + f.steps)) (omega (arith, ints)) (u · f.letters) (v · f.letters) f.to (carries_extends shape p (pos j) u v f.letters f.of_shape c) f.reached.carries;
    under = f.reached.under;
  };
}

-- a word that begins with the letters by which it falls back leads to one with fewer
flows_shorter : {shape : Shape} {p : List Row} {X : List Word} → HasSemiNormal shape p X → (x : Word) (z t y : List ℕ) → IsWordOf shape (x · z) → (b : FallsBack shape p X x t) → z ≡ b.front ++ y
    → (length y < length z → IsWordOf shape (x · y) → FlowsAhead shape p X (x · y)) → FlowsAhead shape p X (x · z)
flows_shorter {shape} {p} {X} h x z t y hz b e shorter =
    let hx = word_front shape x z hz in
    let hy = letters_back shape b.front y (subst (IsLetters shape) e (word_rest shape x z hz)) in
    let there : Carries shape p (pos b.count) (x · z) (x · y) = subst (λ s. Carries shape p (pos b.count) (x · s) (x · y)) (sym e) (falls_to h x t y b hy) in
    flows_further h b.count (x · z) (x · y) there (shorter (falls_shorter x z t y b e) (word_after shape x y hx hy))

-- by two first letters: if both fall back, the word leads to one with fewer letters
flows_by : {shape : Shape} {p : List Row} {X : List Word} → HasSemiNormal shape p X → (x : Word) (z : List ℕ) → IsInfiniteWord shape p X x → IsWordOf shape (x · z)
    → ((y : List ℕ) → length y < length z → IsWordOf shape (x · y) → FlowsAhead shape p X (x · y)) → FlowsAhead shape p X (x · z)
flows_by {shape} {p} {X} h x z infinite hz shorter =
    let far = length X * longest (from_words p) + longest X in
    elim (flows_or_falls h x z infinite hz 1 (omega arith, (let n = shape.letters_low in omega arith))) [
      | inl f ↦ f
      | inr a ↦ elim (flows_or_falls h x z infinite hz 2 (omega arith, shape.letters_low)) [
        | inl f ↦ f
        | inr b ↦ elim (front_inside z a.front b.front (ones far) (ones far) a.back b.back a.whole b.whole (fronts_commute h x (z ++ (1 ∷ ones far)) (z ++ (2 ∷ ones far)) a b)) [
          | inl r ↦ flows_shorter h x z (z ++ (1 ∷ ones far)) r.0 hz a r.1 (shorter r.0)
          | inr r ↦ flows_shorter h x z (z ++ (2 ∷ ones far)) r.0 hz b r.1 (shorter r.0)
        ]
      ]
    ]

flows_within : {shape : Shape} {p : List Row} {X : List Word} → HasSemiNormal shape p X → (x : Word) → IsInfiniteWord shape p X x → (n : ℕ) (z : List ℕ) → length z ≤ n → IsWordOf shape (x · z) → FlowsAhead shape p X (x · z)
flows_within h x infinite zero z l hz = flows_by h x z infinite hz (λ y less hy. absurd (omega arith))
flows_within h x infinite (suc n) z l hz = flows_by h x z infinite hz (λ y less hy. flows_within h x infinite n y (omega arith) hy)

pub flows_ahead : {shape : Shape} {p : List Row} {X : List Word} → HasSemiNormal shape p X → (u x : Word) → IsWordOf shape u → Contains X x → ¬ IsCycleWord shape p x → IsUnder u x → FlowsAhead shape p X u
flows_ahead {shape} {p} {X} h u x hu c none under =
    subst (FlowsAhead shape p X) (sym under.is) (flows_within h x (c, none) (length under.rest) under.rest (omega arith) (subst (IsWordOf shape) under.is hu))

-- ---- the other way round

-- a word that a power of a mirror leads back to itself is a cycle word
pub mirrored_infinite : {shape : Shape} {p q : List Row} {X : List Word} → HasSemiNormal shape p X → Mirrors shape p q → (x : Word) → IsInfiniteWord shape p X x → IsInfiniteWord shape q X x
mirrored_infinite {shape} {p} {q} {X} h mirrors x infinite =
    (infinite.0, λ c. infinite.1 (periodic_word_either shape p h.pair X h.semi (neg_ℤ (pos c.0)) x x (some c.0 c.1.positive) infinite.0 (under_refl x) (mirrors.to (pos c.0) x x c.1.holds)))
  where
    some : (m : ℕ) → 1 ≤ m → neg_ℤ (pos m) ≢ pos 0
    some m l e = absurd (omega (arith, ints))

-- the turned rows of a pair have its semi-normal bases
pub turned_base : {shape : Shape} {p : List Row} {X : List Word} → HasSemiNormal shape p X → HasSemiNormal shape (turned p) X
turned_base {shape} {p} {X} h = record { pair = turned_pair shape p h.pair; semi = mirrored_semi_normal (turned_mirrors shape p h.pair) X h.semi }

pub flows_behind : {shape : Shape} {p : List Row} {X : List Word} → HasSemiNormal shape p X → (u x : Word) → IsWordOf shape u → Contains X x → ¬ IsCycleWord shape p x → IsUnder u x → FlowsBehind shape p X u
flows_behind {shape} {p} {X} h u x hu c none under =
    let m = turned_mirrors shape p h.pair in
    let f = flows_ahead (turned_base h) u x hu c (mirrored_infinite h m x (c, none)).1 under in
    record { letters = f.letters; of_shape = f.of_shape; steps = f.steps; to = f.to; reached = such_to m X f.steps (u · f.letters) f.to f.reached }
