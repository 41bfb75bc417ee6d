-- Paths: steps from a word to another, and words to which steps lead back. A step leads to one word with one list of letters, so paths are told by
-- their length, are cut and joined, and every word that a word that turns leads to turns.
use Rattle.std.proofs.Common.{◌≡◌, ℕ, zero, suc, ◌+◌, ◌-◌, ◌≤◌, ◌<◌, List, [], ◌++◌, length, Some, slice_get, refl, sym, ap, ◌∙◌, subst, arith}
use Rattle.std.proofs.lemmas.List.{append-nil, append_assoc}
use Rattle.std.proofs.lemmas.Option.{slice_get_within}
use Rattle.ht_types.specs.declared.step.Step.{Step}
use Rattle.ht_types.specs.declared.step.Step.TheVariants.{Splits, Leads}
use Rattle.ht_types.specs.Courses.{AreInside, Goes, IsRound, Turns, EndsFrom}

-- a word has one step
pub step_once : (steps : List Step) (x y w : ℕ) (rest more : List ℕ) → slice_get steps x ≡ Some (Leads y rest) → slice_get steps x ≡ Some (Leads w more) → (y ≡ w) × (rest ≡ more)
step_once steps x y w rest more h g = let e : Some (Leads y rest) ≡ Some (Leads w more) = sym h ∙ g in (cc, cc)

-- a word that splits leads nowhere
pub splits_leads : (steps : List Step) (x y : ℕ) (rest : List ℕ) → slice_get steps x ≡ Some Splits → slice_get steps x ≡ Some (Leads y rest) → ⊥
splits_leads steps x y rest h g = let e : Some Splits ≡ Some (Leads y rest) = sym h ∙ g in cc

-- ---- one path

pub goes_along : {k l x u y v : ℕ} {z t : List ℕ} (steps : List Step) → k ≡ l → x ≡ u → y ≡ v → z ≡ t → Goes steps k x y z → Goes steps l u v t
goes_along {k} {l} {x} {u} {y} {v} {z} {t} steps count from to rest g =
    subst (λ a. Goes steps l u v a) rest (subst (λ a. Goes steps l u a z) to (subst (λ a. Goes steps l a y z) from (subst (λ a. Goes steps a x y z) count g)))

pub goes_none : (steps : List Step) (x : ℕ) → Goes steps 0 x x []
unfolding Goes
goes_none steps x = (refl, refl)

-- a step, and a path
pub goes_next : (steps : List Step) (k x y w : ℕ) (rest z : List ℕ) → slice_get steps x ≡ Some (Leads y rest) → Goes steps k y w z → Goes steps (suc k) x w (z ++ rest)
unfolding Goes
goes_next steps k x y w rest z here g = (y, rest, z, here, g, refl)

pub goes_one : (steps : List Step) (x y : ℕ) (rest : List ℕ) → slice_get steps x ≡ Some (Leads y rest) → Goes steps 1 x y rest
goes_one steps x y rest here = goes_next steps 0 x y y rest [] here (goes_none steps y)

-- the first step of a path, and what follows
pub record IsAfterStep (steps : List Step) (k x w : ℕ) (z : List ℕ) : Type 0 where
  pub next : ℕ
  pub rest : List ℕ
  pub behind : List ℕ
  pub here : slice_get steps x ≡ Some (Leads next rest)
  pub goes : Goes steps k next w behind
  pub whole : z ≡ behind ++ rest

pub first_step : (steps : List Step) (k x w : ℕ) (z : List ℕ) → Goes steps (suc k) x w z → IsAfterStep steps k x w z
unfolding Goes
first_step steps k x w z g = record { next = g.0; rest = g.1; behind = g.2; here = g.3; goes = g.4; whole = g.5 }

pub no_steps : (steps : List Step) (x y : ℕ) (z : List ℕ) → Goes steps 0 x y z → (x ≡ y) × (z ≡ [])
unfolding Goes
no_steps steps x y z g = (g.0, g.1)

-- as many steps lead to one word, with one list of letters
pub goes_once : (steps : List Step) (k x y w : ℕ) (z t : List ℕ) → Goes steps k x y z → Goes steps k x w t → (y ≡ w) × (z ≡ t)
unfolding Goes
goes_once steps zero x y w z t g h = (sym g.0 ∙ h.0, g.1 ∙ sym h.1)
goes_once steps (suc k) x y w z t g h =
    let s = step_once steps x g.0 h.0 g.1 h.1 g.3 h.3 in
    let r = goes_once steps k g.0 y w g.2 h.2 g.4 (goes_along steps refl (sym s.0) refl refl h.4) in
    (r.0, joined z t g.2 g.1 h.2 h.1 g.5 h.5 r.1 s.1)
  where
    joined : (z t a b c d : List ℕ) → z ≡ a ++ b → t ≡ c ++ d → a ≡ c → b ≡ d → z ≡ t
    joined z t a b c d e f p q = cc

-- ---- paths one after another

pub goes_then : (steps : List Step) (j k x y w : ℕ) (z t : List ℕ) → Goes steps j x y z → Goes steps k y w t → Goes steps (j + k) x w (t ++ z)
goes_then steps zero k x y w z t g h =
    let n = no_steps steps x y z g in
    goes_along steps (omega arith) (sym n.0) refl (sym (append-nil t) ∙ ap (λ a. t ++ a) (sym n.1)) h
goes_then steps (suc j) k x y w z t g h =
    let s = first_step steps j x y z g in
    let rest = goes_then steps j k s.next y w s.behind t s.goes h in
    goes_along steps (omega arith) refl refl (append_assoc t s.behind s.rest ∙ ap (λ a. t ++ a) (sym s.whole)) (goes_next steps (j + k) x s.next w s.rest (t ++ s.behind) s.here rest)

pub goes_last : (steps : List Step) (k x y w : ℕ) (z rest : List ℕ) → Goes steps k x y z → slice_get steps y ≡ Some (Leads w rest) → Goes steps (suc k) x w (rest ++ z)
goes_last steps k x y w z rest g here = goes_along steps (omega arith) refl refl refl (goes_then steps k 1 x y w z rest g (goes_one steps y w rest here))

-- a path in two
pub record IsInTwo (steps : List Step) (j k x y : ℕ) (z : List ℕ) : Type 0 where
  pub mid : ℕ
  pub rest : List ℕ
  pub behind : List ℕ
  pub first : Goes steps j x mid rest
  pub last : Goes steps k mid y behind
  pub whole : z ≡ behind ++ rest

pub goes_in_two : (steps : List Step) (j k x y : ℕ) (z : List ℕ) → Goes steps (j + k) x y z → IsInTwo steps j k x y z
goes_in_two steps zero k x y z g = record { mid = x; rest = []; behind = z; first = goes_none steps x; last = goes_along steps (omega arith) refl refl refl g; whole = sym (append-nil z) }
goes_in_two steps (suc j) k x y z g =
    let s = first_step steps (j + k) x y z (goes_along steps (omega arith) refl refl refl g) in
    let r = goes_in_two steps j k s.next y s.behind s.goes in
    record {
      mid = r.mid;
      rest = r.rest ++ s.rest;
      behind = r.behind;
      first = goes_next steps j x s.next r.mid s.rest r.rest s.here r.first;
      last = r.last;
      whole = s.whole ∙ ap (λ a. a ++ s.rest) r.whole ∙ append_assoc r.behind r.rest s.rest;
    }

pub goes_front : (steps : List Step) (j k x y : ℕ) (z : List ℕ) → j ≤ k → Goes steps k x y z → IsInTwo steps j (k - j) x y z
goes_front steps j k x y z l g = goes_in_two steps j (k - j) x y z (goes_along steps (omega arith) refl refl refl g)

-- what is left of a path behind a part of it
pub goes_back : (steps : List Step) (j k x y w : ℕ) (z t : List ℕ) → j ≤ k → Goes steps j x y z → Goes steps k x w t → (u : List ℕ) × Goes steps (k - j) y w u × (t ≡ u ++ z)
goes_back steps j k x y w z t l g h =
    let f = goes_front steps j k x w t l h in
    let o = goes_once steps j x f.mid y f.rest z f.first g in
    (f.behind, goes_along steps refl o.0 refl refl f.last, f.whole ∙ ap (λ a. f.behind ++ a) o.1)

-- ---- places of the list

pub goes_on_inside : (steps : List Step) (k x y : ℕ) (z : List ℕ) → 1 ≤ k → Goes steps k x y z → x < length steps
unfolding Goes
goes_on_inside steps zero x y z l g = absurd (omega arith)
goes_on_inside steps (suc k) x y z l g = slice_get_within steps x (Leads g.0 g.1) g.3

pub goes_inside : (steps : List Step) (k x y : ℕ) (z : List ℕ) → AreInside steps → x < length steps → Goes steps k x y z → y < length steps
unfolding Goes
goes_inside steps zero x y z inside l g = subst (λ a. a < length steps) g.0 l
goes_inside steps (suc k) x y z inside l g = goes_inside steps k g.0 y g.2 inside (inside x g.0 g.1 g.3) g.4

-- ---- words that turn

pub turns_by : (steps : List Step) (k x : ℕ) (z : List ℕ) → 1 ≤ k → Goes steps k x x z → Turns steps x
turns_by steps k x z l g = record { count = k; positive = l; round = (z, g) }

-- where a round's first step leads, there is a round of as many steps
pub round_next : (steps : List Step) (k x y : ℕ) (rest : List ℕ) → 1 ≤ k → slice_get steps x ≡ Some (Leads y rest) → IsRound steps x k → IsRound steps y k
round_next steps zero x y rest l here g = absurd (omega arith)
round_next steps (suc k) x y rest l here g =
    let s = first_step steps k x x g.0 g.1 in
    let o = step_once steps x s.next y s.rest rest s.here here in
    (rest ++ s.behind, goes_last steps k y x y s.behind rest (goes_along steps refl o.0 refl refl s.goes) here)

pub turns_next : (steps : List Step) (x y : ℕ) (rest : List ℕ) → slice_get steps x ≡ Some (Leads y rest) → Turns steps x → Turns steps y
turns_next steps x y rest here t = record { count = t.count; positive = t.positive; round = round_next steps t.count x y rest t.positive here t.round }

pub turns_along : (steps : List Step) (k x y : ℕ) (z : List ℕ) → Goes steps k x y z → Turns steps x → Turns steps y
unfolding Goes
turns_along steps zero x y z g t = subst (λ a. Turns steps a) g.0 t
turns_along steps (suc k) x y z g t = turns_along steps k g.0 y g.2 g.4 (turns_next steps x g.0 g.1 g.3 t)

pub splits_turns : (steps : List Step) (x : ℕ) → slice_get steps x ≡ Some Splits → Turns steps x → ⊥
splits_turns steps x here t = by t.count t.positive t.round
  where
    by : (k : ℕ) → 1 ≤ k → IsRound steps x k → ⊥
    by zero l g = absurd (omega arith)
    by (suc k) l g = let s = first_step steps k x x g.0 g.1 in splits_leads steps x s.next s.rest here s.here

-- a word that leads to a split doesn't turn
pub ends_turns : (steps : List Step) (x : ℕ) → EndsFrom steps x → Turns steps x → ⊥
ends_turns steps x e t = splits_turns steps e.last e.splits (turns_along steps e.count x e.last e.behind e.goes t)

-- a word met twice turns
pub met_again : (steps : List Step) (i j x y : ℕ) (z t : List ℕ) → i < j → Goes steps i x y z → Goes steps j x y t → Turns steps y
met_again steps i j x y z t l g h =
    let b = goes_back steps i j x y y z t (omega arith) g h in
    turns_by steps (j - i) y b.0 (omega arith) b.1

-- words that a word leads to have its rounds
pub round_along : (steps : List Step) (k j x y : ℕ) (z : List ℕ) → 1 ≤ j → Goes steps k x y z → IsRound steps x j → IsRound steps y j
round_along steps zero j x y z l g r = subst (λ a. IsRound steps a j) (no_steps steps x y z g).0 r
round_along steps (suc k) j x y z l g r =
    let s = first_step steps k x y z g in
    round_along steps k j s.next y s.behind l s.goes (round_next steps j x s.next s.rest l s.here r)

-- the letters of a round from the next word: those of the step come to the front
pub record IsTurned (steps : List Step) (k y : ℕ) (z rest : List ℕ) : Type 0 where
  pub front : List ℕ
  pub whole : z ≡ front ++ rest
  pub goes : Goes steps k y y (rest ++ front)

pub round_turned : (steps : List Step) (k x y : ℕ) (rest z : List ℕ) → 1 ≤ k → slice_get steps x ≡ Some (Leads y rest) → Goes steps k x x z → IsTurned steps k y z rest
round_turned steps zero x y rest z l here g = absurd (omega arith)
round_turned steps (suc k) x y rest z l here g =
    let s = first_step steps k x x z g in
    let o = step_once steps x s.next y s.rest rest s.here here in
    record { front = s.behind; whole = s.whole ∙ ap (λ a. s.behind ++ a) o.1; goes = goes_last steps k y x y s.behind rest (goes_along steps refl o.0 refl refl s.goes) here }
