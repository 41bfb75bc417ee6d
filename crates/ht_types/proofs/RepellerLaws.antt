-- Repellers of a semi-normal basis X of p: they are the attractors of the turned rows. So they stay behind, powers from 0 down carry them round and
-- round, and their periods are no greater than X has words.
use Rattle.std.proofs.Common.{◌≡◌, ◌≢◌, ℕ, ◌≤◌, ◌<◌, List, [], ◌++◌, length, sym, subst, arith, Contains, ℤ, pos, neg_ℤ}
use Rattle.std.proofs.lemmas.Int.{ints}
use Rattle.ht_word.specs.Words.{◌·◌}
use Rattle.ht_word.specs.declared.shape.Shape.{Shape}
use Rattle.ht_word.specs.declared.word.Word.{Word}
use Rattle.ht_pair.specs.Addresses.{BelongTogether}
use Rattle.ht_pair.specs.Kinds.{IsRepeller, IsRepellerWord}
use Rattle.ht_pair.specs.Pairs.{turned}
use Rattle.ht_pair.specs.SemiNormal.{StaysBehind}
use Rattle.ht_pair.specs.Steps.{Carries}
use Rattle.ht_pair.specs.declared.row.Row.{Row}
use Rattle.ht_pair.specs.Repeats.{repeated}
use Rattle.ht_types.proofs.AttractorLaws.{IsAttractorOf, lengthened_ahead, attractor_ahead, attractor_moved, moved_ahead, IsInPeriods, periods_of, period_le, comes_round, belongs_both, period_small, on_round}
use Rattle.ht_types.proofs.FlowLaws.{turned_base}
use Rattle.ht_quasi.proofs.MirrorLaws.{ahead_behind}
use Rattle.ht_types.proofs.MirrorLaws.{turned_mirrors, attractor_repeller, repeller_attractor}
use Rattle.ht_types.proofs.TurnLaws.{HasSemiNormal}

-- a word of X that is a repeller
pub record IsRepellerOf (shape : Shape) (p : List Row) (X : List Word) (x : Word) (m : ℕ) (G : List ℕ) : Type 0 where
  pub listed : Contains X x
  pub repeller : IsRepeller shape p x m G

twice : (i : ℤ) → neg_ℤ (neg_ℤ i) ≡ i
twice i = omega (arith, ints)

-- ---- turned about

repeller_turned : {shape : Shape} {p : List Row} {X : List Word} {x : Word} {m : ℕ} {G : List ℕ} → HasSemiNormal shape p X → IsRepellerOf shape p X x m G → IsAttractorOf shape (turned p) X x m G
repeller_turned {shape} {p} {X} {x} {m} {G} h r = record { listed = r.listed; attractor = repeller_attractor (turned_mirrors shape p h.pair) x m G r.repeller }

-- what a power carries, the turned rows carry by the power with the other sign
carries_turned : {shape : Shape} {p : List Row} {X : List Word} → HasSemiNormal shape p X → (i : ℤ) (u v : Word) → Carries shape p i u v → Carries shape (turned p) (neg_ℤ i) u v
carries_turned {shape} {p} h i u v c = (turned_mirrors shape p h.pair).from (neg_ℤ i) u v (subst (λ k. Carries shape p k u v) (sym (twice i)) c)

together_turned : {shape : Shape} {p : List Row} {X : List Word} → HasSemiNormal shape p X → (x y : Word) → BelongTogether shape (turned p) x y → BelongTogether shape p x y
together_turned {shape} {p} h x y b = record { steps = neg_ℤ b.steps; to = b.to; carries = (turned_mirrors shape p h.pair).to b.steps x b.to b.carries; under = b.under }

-- ---- repellers stay behind

-- a word of X stays behind where some power from 0 down lengthens a word under it
pub lengthened_behind : {shape : Shape} {p : List Row} {X : List Word} → HasSemiNormal shape p X → (m : ℕ) (y : Word) (c G : List ℕ) → Contains X y → G ≢ [] → Carries shape p (neg_ℤ (pos m)) (y · c) (y · (c ++ G)) → StaysBehind shape p X y
lengthened_behind {shape} {p} {X} h m y c G listed some grows =
    let mirrors = turned_mirrors shape p h.pair in
    ahead_behind mirrors X y (lengthened_ahead (turned_base h) m y c G listed some (mirrors.from (pos m) (y · c) (y · (c ++ G)) grows))

pub repeller_behind : {shape : Shape} {p : List Row} {X : List Word} {x : Word} {m : ℕ} {G : List ℕ} → HasSemiNormal shape p X → IsRepellerOf shape p X x m G → StaysBehind shape p X x
repeller_behind {shape} {p} {X} {x} h r = ahead_behind (turned_mirrors shape p h.pair) X x (attractor_ahead (turned_base h) (repeller_turned h r))

-- the word of X under which any power carries a repeller is one
pub repeller_moved : {shape : Shape} {p : List Row} {X : List Word} {x : Word} {m : ℕ} {G : List ℕ} → HasSemiNormal shape p X → IsRepellerOf shape p X x m G → (i : ℤ) (y : Word) (c : List ℕ) → Contains X y → Carries shape p i x (y · c) → IsRepellerWord shape p y
repeller_moved {shape} {p} {X} {x} h r i y c listed carries =
    let a = attractor_moved (turned_base h) (repeller_turned h r) (neg_ℤ i) y c listed (carries_turned h i x (y · c) carries) in
    (a.0, a.1, attractor_repeller (turned_mirrors shape p h.pair) y a.0 a.1 a.2)

pub moved_behind : {shape : Shape} {p : List Row} {X : List Word} {x : Word} {m : ℕ} {G : List ℕ} → HasSemiNormal shape p X → IsRepellerOf shape p X x m G → (i : ℤ) (y : Word) (c : List ℕ) → Contains X y → Carries shape p i x (y · c) → StaysBehind shape p X y
moved_behind {shape} {p} {X} {x} h r i y c listed carries = ahead_behind (turned_mirrors shape p h.pair) X y (moved_ahead (turned_base h) (repeller_turned h r) (neg_ℤ i) y c listed (carries_turned h i x (y · c) carries))

-- ---- periods

-- d steps back lengthen a repeller by whole repeats of its letters: as often as its period is in d
pub periods_behind : {shape : Shape} {p : List Row} {X : List Word} {x : Word} {m : ℕ} {G : List ℕ} → HasSemiNormal shape p X → IsRepellerOf shape p X x m G → (d : ℕ) (t : List ℕ) → Carries shape p (neg_ℤ (pos d)) x (x · t) → IsInPeriods m d G t
periods_behind {shape} {p} {X} {x} h r d t c = periods_of (turned_base h) (repeller_turned h r) d t ((turned_mirrors shape p h.pair).from (pos d) x (x · t) c)

-- some steps back lengthen a repeller by a whole period at least
pub period_behind_le : {shape : Shape} {p : List Row} {X : List Word} {x : Word} {m : ℕ} {G : List ℕ} → HasSemiNormal shape p X → IsRepellerOf shape p X x m G → (d : ℕ) (t : List ℕ) → 1 ≤ d → Carries shape p (neg_ℤ (pos d)) x (x · t) → m ≤ d
period_behind_le {shape} {p} {X} {x} h r d t positive c = period_le (turned_base h) (repeller_turned h r) d t positive ((turned_mirrors shape p h.pair).from (pos d) x (x · t) c)

-- the period of a repeller is no greater than X has words
pub period_behind_small : {shape : Shape} {p : List Row} {X : List Word} {x : Word} {m : ℕ} {G : List ℕ} → HasSemiNormal shape p X → IsRepellerOf shape p X x m G → m ≤ length X
period_behind_small h r = period_small (turned_base h) (repeller_turned h r)

-- ---- round and round

-- steps back from y lead to x again, with so many repeats of its letters behind it
pub record ComesRoundBehind (shape : Shape) (p : List Row) (x y : Word) (d : ℕ) (G c : List ℕ) : Type 0 where
  pub count : ℕ
  pub letters : List ℕ
  pub carries : Carries shape p (neg_ℤ (pos count)) y (x · letters)
  pub whole : letters ++ c ≡ repeated d G

pub comes_round_behind : {shape : Shape} {p : List Row} {X : List Word} {x : Word} {m : ℕ} {G : List ℕ} → HasSemiNormal shape p X → IsRepellerOf shape p X x m G → (d : ℕ) (y : Word) (c : List ℕ) → Contains X y → Carries shape p (neg_ℤ (pos d)) x (y · c) → ComesRoundBehind shape p x y d G c
comes_round_behind {shape} {p} {X} {x} h r d y c listed carries =
    let mirrors = turned_mirrors shape p h.pair in
    let round = comes_round (turned_base h) (repeller_turned h r) d y c listed (mirrors.from (pos d) x (y · c) carries) in
    record { count = round.count; letters = round.letters; carries = mirrors.to (pos round.count) y (x · round.letters) round.carries; whole = round.whole }

-- the words of X under which powers from 0 down carry repellers belong together with them, both ways
pub belongs_both_behind : {shape : Shape} {p : List Row} {X : List Word} {x : Word} {m : ℕ} {G : List ℕ} → HasSemiNormal shape p X → IsRepellerOf shape p X x m G → (d : ℕ) (y : Word) (z w : List ℕ) → Contains X y → Carries shape p (neg_ℤ (pos d)) (x · z) (y · w) → BelongTogether shape p x y × BelongTogether shape p y x
belongs_both_behind {shape} {p} {X} {x} h r d y z w listed carries =
    let both = belongs_both (turned_base h) (repeller_turned h r) d y z w listed ((turned_mirrors shape p h.pair).from (pos d) (x · z) (y · w) carries) in
    (together_turned h x y both.0, together_turned h y x both.1)

-- what some power carries a repeller under, a power from 0 down above minus the period does
pub record IsOnRoundBehind (shape : Shape) (p : List Row) (x y : Word) (m : ℕ) : Type 0 where
  pub count : ℕ
  pub less : count < m
  pub letters : List ℕ
  pub carries : Carries shape p (neg_ℤ (pos count)) x (y · letters)

pub on_round_behind : {shape : Shape} {p : List Row} {X : List Word} {x : Word} {m : ℕ} {G : List ℕ} → HasSemiNormal shape p X → IsRepellerOf shape p X x m G → (i : ℤ) (y : Word) (t : List ℕ) → Contains X y → Carries shape p i x (y · t) → IsOnRoundBehind shape p x y m
on_round_behind {shape} {p} {X} {x} h r i y t listed carries =
    let round = on_round (turned_base h) (repeller_turned h r) (neg_ℤ i) y t listed (carries_turned h i x (y · t) carries) in
    record { count = round.count; less = round.less; letters = round.letters; carries = (turned_mirrors shape p h.pair).to (pos round.count) x (y · round.letters) round.carries }
