-- Where steps lead, one after another, told by places alone.
use Rattle.std.proofs.Common.{◌≡◌, ◌≢◌, ℕ, zero, suc, ◌+◌, ◌≤◌, ◌⊎◌, inl, inr, List, [], ◌++◌, Option, None, Some, slice_get, refl, sym, ◌∙◌, subst, arith}
use Rattle.ht_num.specs.Numbers.{IsLeastPositive}
use Rattle.ht_num.proofs.NumberLaws.{least_decided}
use Rattle.ht_word.proofs.Deciding.{same_or_not}
use Rattle.ht_types.specs.declared.step.Step.{Step}
use Rattle.ht_types.specs.declared.step.Step.TheVariants.{Splits, Leads}
use Rattle.ht_types.specs.Courses.{Goes, IsRound, Turns}
use Rattle.ht_types.proofs.PathLaws.{step_once, goes_none, goes_next, first_step, goes_once, goes_then, goes_front}

-- k steps lead from the word at x to some word
pub record CanGo (steps : List Step) (k x : ℕ) : Type 0 where
  pub to : ℕ
  pub behind : List ℕ
  pub goes : Goes steps k x to behind

-- ---- rounds

-- round and round, as far as one likes
rounds_on : (steps : List Step) (x : ℕ) → Turns steps x → (j : ℕ) → (k : ℕ) × (j ≤ k) × IsRound steps x k
rounds_on steps x h zero = (0, omega arith, ([], goes_none steps x))
rounds_on steps x h (suc j) =
    let r = rounds_on steps x h j in
    (r.0 + h.count, far r.0 h.count r.1 h.positive, (h.round.0 ++ r.2.0, goes_then steps r.0 h.count x x x r.2.0 h.round.0 r.2.1 h.round.1))
  where
    far : (k m : ℕ) → j ≤ k → 1 ≤ m → suc j ≤ k + m
    far k m l p = omega arith

-- the steps from a word that leads to one that turns never end
pub turns_on : (steps : List Step) (k x y : ℕ) (z : List ℕ) → Goes steps k x y z → Turns steps y → (j : ℕ) → CanGo steps j x
turns_on steps k x y z g h j =
    let r = rounds_on steps y h j in
    let f = goes_front steps j (k + r.0) x y (r.2.0 ++ z) (enough r.0 r.1) (goes_then steps k r.0 x y y z r.2.0 g r.2.1) in
    record { to = f.mid; behind = f.rest; goes = f.first }
  where
    enough : (i : ℕ) → j ≤ i → j ≤ k + i
    enough i l = omega arith

-- ---- the first round

-- so many steps lead somewhere or not
goes_or_not : (steps : List Step) (k x : ℕ) → CanGo steps k x ⊎ ¬ CanGo steps k x
goes_or_not steps zero x = inl (record { to = x; behind = []; goes = goes_none steps x })
goes_or_not steps (suc k) x = by (λ t. goes_or_not steps k t) (slice_get steps x) refl
  where
    none : (found : Option Step) → slice_get steps x ≡ found → ((next : ℕ) (rest : List ℕ) → found ≢ Some (Leads next rest)) → ¬ CanGo steps (suc k) x
    none found e n c = let a = first_step steps k x c.to c.behind c.goes in n a.next a.rest (sym e ∙ a.here)

    by : ((t : ℕ) → CanGo steps k t ⊎ ¬ CanGo steps k t) → (found : Option Step) → slice_get steps x ≡ found → CanGo steps (suc k) x ⊎ ¬ CanGo steps (suc k) x
    by further None e = inr (none None e (λ next rest f. cc))
    by further (Some Splits) e = inr (none (Some Splits) e (λ next rest f. cc))
    by further (Some (Leads next rest)) e = elim (further next) [
      | inl c ↦ inl (record { to = c.to; behind = c.behind ++ rest; goes = goes_next steps k x next c.to rest c.behind e c.goes })
      | inr n ↦ inr (λ c.
          let a = first_step steps k x c.to c.behind c.goes in
          let same = step_once steps x a.next next a.rest rest a.here e in
          n (record { to = c.to; behind = a.behind; goes = subst (λ t. Goes steps k t c.to a.behind) same.0 a.goes }))
    ]

-- so many steps are a round or not
round_or_not : (steps : List Step) (x k : ℕ) → IsRound steps x k ⊎ ¬ IsRound steps x k
round_or_not steps x k = elim (goes_or_not steps k x) [
  | inl c ↦ elim (same_or_not x c.to) [
    | inl e ↦ inl (c.behind, subst (λ t. Goes steps k x t c.behind) (sym e) c.goes)
    | inr n ↦ inr (λ r. n ((goes_once steps k x x c.to r.0 c.behind r.1 c.goes).0))
  ]
  | inr n ↦ inr (λ r. n (record { to = x; behind = r.0; goes = r.1 }))
]

-- a word that turns has a first round
pub first_round : (steps : List Step) (x : ℕ) → Turns steps x → (m : ℕ) × IsLeastPositive (IsRound steps x) m
first_round steps x h = least_decided (IsRound steps x) (round_or_not steps x) h.count h.positive h.round
