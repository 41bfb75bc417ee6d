-- Attractors of a semi-normal basis X of p: they stay ahead, powers carry them round and round, and their periods are no greater than X has words.
use Rattle.std.proofs.Common.{◌≡◌, ◌≢◌, ℕ, zero, suc, ◌-◌, ◌*◌, ◌/◌, ◌%◌, ◌≤◌, ◌<◌, ◌⊎◌, inl, inr, List, [], ◌∷◌, ◌++◌, length, refl, sym, ap, ◌∙◌, subst, arith, Contains, ℤ, pos, negsuc, neg_ℤ, ◌+ℤ◌}
use Rattle.std.proofs.Math.Nat.{mul-le-mul_left, mod-lt}
use Rattle.std.proofs.lemmas.Bool.{cases_lt}
use Rattle.std.proofs.lemmas.Int.{ints}
use Rattle.std.proofs.lemmas.List.{append_assoc, append-nil, length-append}
use Rattle.std.proofs.lemmas.List.Elements.{All-contains}
use Rattle.ht_word.specs.Words.{◌·◌}
use Rattle.ht_word.specs.declared.shape.Shape.{Shape}
use Rattle.ht_word.specs.declared.word.Word.{Word}
use Rattle.ht_word.proofs.WordLaws.{after-append, after-nil, after_cancel, under_after, word_rest}
use Rattle.ht_pair.specs.Addresses.{BelongTogether}
use Rattle.ht_pair.specs.Kinds.{IsAttractor, IsAttractorWord}
use Rattle.ht_pair.specs.SemiNormal.{StaysAhead, StaysBehind}
use Rattle.ht_pair.specs.Steps.{Carries}
use Rattle.ht_pair.specs.declared.row.Row.{Row}
use Rattle.ht_pair.proofs.CarriesLaws.{carries_single, carries_word, carries_extends, carries_back, carries_rest, carries_sum, carries_itself}
use Rattle.ht_pair.specs.Repeats.{repeated}
use Rattle.ht_pair.proofs.KindLaws.{carries_times, lengthened_there, not_both}
use Rattle.ht_types.proofs.PeriodicLaws.{carried_further}
use Rattle.ht_types.proofs.Repeats.{repeats}
use Rattle.ht_types.proofs.TurnLaws.{HasSemiNormal, grows_attractor}

-- a word of X that is an attractor
pub record IsAttractorOf (shape : Shape) (p : List Row) (X : List Word) (x : Word) (m : ℕ) (G : List ℕ) : Type 0 where
  pub listed : Contains X x
  pub attractor : IsAttractor shape p x m G

-- ---- attractors stay ahead

nothing_more : (y c G : List ℕ) → y ++ (c ++ G) ≡ c → G ≡ []
nothing_more y c [] e = refl
nothing_more y c (a ∷ G) e = absurd (omega (arith, length-append y (c ++ (a ∷ G)), length-append c (a ∷ G), ap (λ (t : List ℕ). length t) e))

-- a word of X stays ahead where some power from 0 on lengthens a word under it
pub lengthened_ahead : {shape : Shape} {p : List Row} {X : List Word} → HasSemiNormal shape p X → (m : ℕ) (y : Word) (c G : List ℕ) → Contains X y → G ≢ [] → Carries shape p (pos m) (y · c) (y · (c ++ G)) → StaysAhead shape p X y
lengthened_ahead {shape} {p} {X} h m y c G listed some grows = elim (All-contains (λ t. StaysAhead shape p X t ⊎ StaysBehind shape p X t) X y h.semi.stays listed) [
  | inl ahead ↦ ahead
  | inr behind ↦
      let hz = word_rest shape y (c ++ G) (carries_word shape p h.pair (pos m) (y · c) (y · (c ++ G)) grows) in
      let f = carried_further shape p h.pair X h.semi.basis (neg_ℤ (pos m)) y y (c ++ G) c listed hz (behind m) (carries_back shape p h.pair (pos m) (y · c) (y · (c ++ G)) grows) in
      absurd (some (nothing_more f.letters c G f.is))
]

pub attractor_ahead : {shape : Shape} {p : List Row} {X : List Word} {x : Word} {m : ℕ} {G : List ℕ} → HasSemiNormal shape p X → IsAttractorOf shape p X x m G → StaysAhead shape p X x
attractor_ahead {shape} {p} {X} {x} {m} {G} h a = lengthened_ahead h m x [] G a.listed a.attractor.lengthens.0 (subst (λ t. Carries shape p (pos m) t (x · G)) (sym (after-nil x)) a.attractor.lengthens.1)

-- the word of X under which any power carries an attractor is one
pub attractor_moved : {shape : Shape} {p : List Row} {X : List Word} {x : Word} {m : ℕ} {G : List ℕ} → HasSemiNormal shape p X → IsAttractorOf shape p X x m G → (i : ℤ) (y : Word) (c : List ℕ) → Contains X y → Carries shape p i x (y · c) → IsAttractorWord shape p y
attractor_moved {shape} {p} {X} {x} {m} {G} h a i y c listed carries =
    let some = a.attractor.lengthens.0 in
    let grows : Carries shape p (pos m) (y · c) (y · (c ++ G)) = subst (Carries shape p (pos m) (y · c)) (after-append y c G) (lengthened_there shape p h.pair i m x (y · c) G carries a.attractor.lengthens.1) in
    let hc = word_rest shape y c grows.word in
    let f = carried_further shape p h.pair X h.semi.basis (pos m) y y c (c ++ G) listed hc (lengthened_ahead h m y c G listed some grows m) grows in
    grows_attractor h m y f.letters a.attractor.first.positive (lengthened_ahead h m y c G listed some grows) ((λ e. some (no_more f.letters c G e f.is)), f.carries)
  where
    no_more : (y c G : List ℕ) → y ≡ [] → y ++ c ≡ c ++ G → G ≡ []
    no_more y c [] n e = refl
    no_more y c (b ∷ G) n e = absurd (omega (arith, length-append y c, length-append c (b ∷ G), ap (λ (t : List ℕ). length t) e, ap (λ (t : List ℕ). length t) n))

pub moved_ahead : {shape : Shape} {p : List Row} {X : List Word} {x : Word} {m : ℕ} {G : List ℕ} → HasSemiNormal shape p X → IsAttractorOf shape p X x m G → (i : ℤ) (y : Word) (c : List ℕ) → Contains X y → Carries shape p i x (y · c) → StaysAhead shape p X y
moved_ahead h a i y c listed carries = let w = attractor_moved h a i y c listed carries in attractor_ahead h (record { listed = listed; attractor = w.2 })

-- ---- periods

pub repeated_none : (G : List ℕ) → repeated 0 G ≡ []
unfolding repeated
repeated_none G = refl

pub repeated_next : (s : ℕ) (G : List ℕ) → repeated (suc s) G ≡ repeated s G ++ G
unfolding repeated
repeated_next s G = refl

-- the first of some repeats is as good as the last
pub repeated_first : (s : ℕ) (G : List ℕ) → repeated (suc s) G ≡ G ++ repeated s G
repeated_first zero G = repeated_next 0 G ∙ ap (λ t. t ++ G) (repeated_none G) ∙ sym (append-nil G) ∙ ap (λ t. G ++ t) (sym (repeated_none G))
repeated_first (suc s) G = repeated_next (suc s) G ∙ ap (λ t. t ++ G) (repeated_first s G) ∙ append_assoc G (repeated s G) G ∙ ap (λ t. G ++ t) (sym (repeated_next s G))

-- d steps lengthen an attractor by whole repeats of its letters: as often as its period is in d
pub record IsInPeriods (m d : ℕ) (G t : List ℕ) : Type 0 where
  pub count : ℕ
  pub steps : d ≡ count * m
  pub letters : t ≡ repeated count G

pub periods_within : {shape : Shape} {p : List Row} {X : List Word} {x : Word} {m : ℕ} {G : List ℕ} → HasSemiNormal shape p X → IsAttractorOf shape p X x m G → (most d : ℕ) (t : List ℕ) → d ≤ most → Carries shape p (pos d) x (x · t) → IsInPeriods m d G t
periods_within {shape} {p} {X} {x} {m} {G} h a most zero t l c = record {
  count = 0;
  steps = omega arith;
  letters = after_cancel x t [] (carries_single shape p h.pair (pos 0) x (x · t) x c (carries_itself shape p x c.word) ∙ sym (after-nil x)) ∙ sym (repeated_none G);
}
periods_within {shape} {p} {X} {x} {m} {G} h a zero (suc d) t l c = absurd (omega arith)
periods_within {shape} {p} {X} {x} {m} {G} h a (suc most) (suc d) t l c = elim (cases_lt (suc d) m) [
  | inl less ↦ absurd (early t less c)
  | inr other ↦
      let hG = word_rest shape x G (carries_word shape p h.pair (pos m) x (x · G) a.attractor.lengthens.1) in
      let there = carries_rest shape p h.pair (pos m) (pos (suc d - m)) (pos (suc d)) (sum m (suc d) other) x (x · G) (x · t) a.attractor.lengthens.1 c in
      let f = carried_further shape p h.pair X h.semi.basis (pos (suc d - m)) x x G t a.listed hG (attractor_ahead h a (suc d - m)) there in
      let r = periods_within h a most (suc d - m) f.letters (fewer a.attractor.first.positive) f.carries in
      record {
        count = suc r.count;
        steps = one_more m (suc d) r.count other r.steps;
        letters = sym f.is ∙ ap (λ s. s ++ G) r.letters ∙ sym (repeated_next r.count G);
      }
]
  where
    early : (t : List ℕ) → suc d < m → Carries shape p (pos (suc d)) x (x · t) → ⊥
    early [] less c = not_both shape p h.pair x (suc d) m G (omega arith) a.attractor.lengthens.0 (subst (Carries shape p (pos (suc d)) x) (after-nil x) c) a.attractor.lengthens.1
    early (b ∷ t) less c = a.attractor.first.least (suc d) (omega arith) less (b ∷ t, ((λ e. cc), c))

    sum : (m d : ℕ) → m ≤ d → pos m +ℤ pos (d - m) ≡ pos d
    sum m d l = omega (arith, ints)

    fewer : 1 ≤ m → suc d - m ≤ most
    fewer positive = omega arith

    one_more : (m d s : ℕ) → m ≤ d → d - m ≡ s * m → d ≡ suc s * m
    one_more m d s l e = omega arith

pub periods_of : {shape : Shape} {p : List Row} {X : List Word} {x : Word} {m : ℕ} {G : List ℕ} → HasSemiNormal shape p X → IsAttractorOf shape p X x m G → (d : ℕ) (t : List ℕ) → Carries shape p (pos d) x (x · t) → IsInPeriods m d G t
periods_of h a d t c = periods_within h a d d t (omega arith) c

-- some steps lengthen an attractor by a whole period at least
pub period_le : {shape : Shape} {p : List Row} {X : List Word} {x : Word} {m : ℕ} {G : List ℕ} → HasSemiNormal shape p X → IsAttractorOf shape p X x m G → (d : ℕ) (t : List ℕ) → 1 ≤ d → Carries shape p (pos d) x (x · t) → m ≤ d
period_le {m = m} h a d t positive c = let k = periods_of h a d t c in some k.count d m k.steps positive
  where
    some : (s d m : ℕ) → d ≡ s * m → 1 ≤ d → m ≤ d
    some zero d m e l = absurd (omega arith)
    some (suc s) d m e l = omega arith

-- ---- round and round

-- steps on from y lead to x again, with so many repeats of its letters behind it
pub record ComesRound (shape : Shape) (p : List Row) (x y : Word) (d : ℕ) (G c : List ℕ) : Type 0 where
  pub count : ℕ
  pub letters : List ℕ
  pub carries : Carries shape p (pos count) y (x · letters)
  pub whole : letters ++ c ≡ repeated d G

pub comes_round : {shape : Shape} {p : List Row} {X : List Word} {x : Word} {m : ℕ} {G : List ℕ} → HasSemiNormal shape p X → IsAttractorOf shape p X x m G → (d : ℕ) (y : Word) (c : List ℕ) → Contains X y → Carries shape p (pos d) x (y · c) → ComesRound shape p x y d G c
comes_round {shape} {p} {X} {x} {m} {G} h a d y c listed carries =
    let far : Carries shape p (pos (d * m)) x (x · repeated d G) = carries_times shape p h.pair m x G a.attractor.lengthens.1 d in
    let e = d * m - d in
    let there : Carries shape p (pos e) (y · c) (x · repeated d G) = carries_rest shape p h.pair (pos d) (pos e) (pos (d * m)) (sum d m a.attractor.first.positive) x (y · c) (x · repeated d G) carries far in
    let hc = word_rest shape y c (carries_word shape p h.pair (pos d) x (y · c) carries) in
    let f = carried_further shape p h.pair X h.semi.basis (pos e) y x c (repeated d G) a.listed hc (moved_ahead h a (pos d) y c listed carries e) there in
    record { count = e; letters = f.letters; carries = f.carries; whole = f.is }
  where
    sum : (d m : ℕ) → 1 ≤ m → pos d +ℤ pos (d * m - d) ≡ pos (d * m)
    sum d m l = omega (arith, ints, mul-le-mul_left d l)

-- the words of X under which powers from 0 on carry attractors belong together with them, both ways
pub belongs_both : {shape : Shape} {p : List Row} {X : List Word} {x : Word} {m : ℕ} {G : List ℕ} → HasSemiNormal shape p X → IsAttractorOf shape p X x m G → (d : ℕ) (y : Word) (z w : List ℕ) → Contains X y → Carries shape p (pos d) (x · z) (y · w) → BelongTogether shape p x y × BelongTogether shape p y x
belongs_both {shape} {p} {X} {x} h a d y z w listed carries =
    let hz = word_rest shape x z carries.word in
    let f = carried_further shape p h.pair X h.semi.basis (pos d) x y z w listed hz (attractor_ahead h a d) carries in
    let r = comes_round h a d y f.letters listed f.carries in (
      record { steps = pos d; to = y · f.letters; carries = f.carries; under = under_after y f.letters },
      record { steps = pos r.count; to = x · r.letters; carries = r.carries; under = under_after x r.letters },
    )

-- the period of an attractor is no greater than X has words: of more words on its way two are under one word of X
pub period_small : {shape : Shape} {p : List Row} {X : List Word} {x : Word} {m : ℕ} {G : List ℕ} → HasSemiNormal shape p X → IsAttractorOf shape p X x m G → m ≤ length X
period_small {shape} {p} {X} {x} {m} {G} h a =
    let ahead = attractor_ahead h a in
    let r = repeats X (λ i. (ahead i).under.above) (λ i l. (ahead i).under.listed) in
    let first = ahead r.first in
    let second = ahead r.second in
    let y = first.under.above in
    by r.first r.second y first.under.under.rest second.under.under.rest first.under.listed r.less r.within
    (subst (Carries shape p (pos r.first) x) first.under.under.is first.carries)
    (subst (Carries shape p (pos r.second) x) (second.under.under.is ∙ ap (λ t. t · second.under.under.rest) (sym r.same)) second.carries)
  where
    sum : (i j : ℕ) → i < j → pos i +ℤ pos (j - i) ≡ pos j
    sum i j l = omega (arith, ints)

    by : (i j : ℕ) (y : Word) (c t : List ℕ) → Contains X y → i < j → j ≤ length X → Carries shape p (pos i) x (y · c) → Carries shape p (pos j) x (y · t) → m ≤ length X
    by i j y c t listed less within here again =
        let d = j - i in
        let between = carries_rest shape p h.pair (pos i) (pos d) (pos j) (sum i j less) x (y · c) (y · t) here again in
        let hc = word_rest shape y c between.word in
        let f = carried_further shape p h.pair X h.semi.basis (pos d) y y c t listed hc (moved_ahead h a (pos i) y c listed here d) between in
        let r = comes_round h a i y c listed here in
        let round = subst (Carries shape p (pos d) (x · r.letters)) (after-append x r.letters f.letters) (lengthened_there shape p h.pair (pos r.count) d y (x · r.letters) f.letters r.carries f.carries) in
        let hr = word_rest shape x r.letters round.word in
        let g = carried_further shape p h.pair X h.semi.basis (pos d) x x r.letters (r.letters ++ f.letters) a.listed hr (attractor_ahead h a d) round in
        bound (period_le h a d g.letters (positive less) g.carries) within
      where
        positive : i < j → 1 ≤ j - i
        positive l = omega arith

        bound : m ≤ j - i → j ≤ length X → m ≤ length X
        bound l w = omega arith

-- what some power carries an attractor under, a power below the period does
pub record IsOnRound (shape : Shape) (p : List Row) (x y : Word) (m : ℕ) : Type 0 where
  pub count : ℕ
  pub less : count < m
  pub letters : List ℕ
  pub carries : Carries shape p (pos count) x (y · letters)

pub round_ahead : {shape : Shape} {p : List Row} {X : List Word} {x : Word} {m : ℕ} {G : List ℕ} → HasSemiNormal shape p X → IsAttractorOf shape p X x m G → (d : ℕ) (y : Word) (t : List ℕ) → Contains X y → Carries shape p (pos d) x (y · t) → IsOnRound shape p x y m
round_ahead {shape} {p} {X} {x} {m} {G} h a d y t listed carries =
    let q = d / m in
    let r = d % m in
    let rounds : Carries shape p (pos (q * m)) x (x · repeated q G) = carries_times shape p h.pair m x G a.attractor.lengthens.1 q in
    let last = carries_rest shape p h.pair (pos (q * m)) (pos r) (pos d) (sum d m a.attractor.first.positive) x (x · repeated q G) (y · t) rounds carries in
    let hG = word_rest shape x (repeated q G) last.word in
    let f = carried_further shape p h.pair X h.semi.basis (pos r) x y (repeated q G) t listed hG (attractor_ahead h a r) last in
    record { count = r; less = mod-lt d a.attractor.first.positive; letters = f.letters; carries = f.carries }
  where
    sum : (d m : ℕ) → 1 ≤ m → pos (d / m * m) +ℤ pos (d % m) ≡ pos d
    sum d m l = omega (arith, ints)

pub on_round : {shape : Shape} {p : List Row} {X : List Word} {x : Word} {m : ℕ} {G : List ℕ} → HasSemiNormal shape p X → IsAttractorOf shape p X x m G → (i : ℤ) (y : Word) (t : List ℕ) → Contains X y → Carries shape p i x (y · t) → IsOnRound shape p x y m
on_round h a (pos d) y t listed carries = round_ahead h a d y t listed carries
on_round {shape} {p} {X} {x} {m} {G} h a (negsuc f) y t listed carries =
    let rounds : Carries shape p (pos (suc f * m)) x (x · repeated (suc f) G) = carries_times shape p h.pair m x G a.attractor.lengthens.1 (suc f) in
    let hG = word_rest shape x (repeated (suc f) G) (carries_word shape p h.pair (pos (suc f * m)) x (x · repeated (suc f) G) rounds) in
    let back : Carries shape p (negsuc f) (x · repeated (suc f) G) (y · (t ++ repeated (suc f) G)) = subst (Carries shape p (negsuc f) (x · repeated (suc f) G)) (after-append y t (repeated (suc f) G)) (carries_extends shape p (negsuc f) x (y · t) (repeated (suc f) G) hG carries) in
    round_ahead h a (suc f * m - suc f) y (t ++ repeated (suc f) G) listed
    (carries_sum shape p h.pair (pos (suc f * m)) (negsuc f) (pos (suc f * m - suc f)) (sum (suc f * m) f (mul-le-mul_left (suc f) a.attractor.first.positive)) x (x · repeated (suc f) G) (y · (t ++ repeated (suc f) G)) rounds back)
  where
    sum : (n f : ℕ) → suc f * 1 ≤ n → pos n +ℤ negsuc f ≡ pos (n - suc f)
    sum n f l = omega (arith, ints)
