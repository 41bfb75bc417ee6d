-- Whether walks end at a word of the basis, told from its kind.
use Rattle.std.proofs.Common.{◌≡◌, ℕ, ◌⊎◌, inl, inr, List, length, None, Some, slice_get, refl, sym, subst}
use Rattle.ht_word.specs.declared.word.Word.{Word}
use Rattle.ht_pair.specs.Kinds.{IsAttractor, IsRepeller}
use Rattle.ht_pair.proofs.KindLaws.{attractor_no_repeller, cycle_no_attractor, cycle_no_repeller}
use Rattle.ht_types.specs.declared.direction.Direction.TheVariants.{Ahead, Behind}
use Rattle.ht_types.specs.declared.kind.Kind.{Kind}
use Rattle.ht_types.specs.declared.kind.Kind.TheVariants.{Cycle, Attractor, Repeller, Passing}
use Rattle.ht_types.specs.TypedElements.{TypedValue}
use Rattle.ht_power.specs.RatesTold.{HasPeriod, TellsEnd, TellsPeriod}
use Rattle.ht_power.proofs.PeriodLaws.{Typed, Has}

module _ (t : TypedValue) (typed : Typed t) (place : ℕ) (kind : Kind) (there : slice_get t.kinds place ≡ Some kind) where
  -- the word at the place is of the kind
  here_is : (x : Word) → slice_get t.quasi.basis.words place ≡ Some x → Has t x kind
  here_is x here = typed.kinds_are.each place x kind here there

  -- walks ahead end at an attractor
  pub ahead_told : (m count letters : ℕ) (by : List ℕ) → kind ≡ Attractor m by → count ≡ m → letters ≡ length by
      → TellsEnd Ahead t place (Some (count, letters))
  ahead_told m count letters by e counted long x here = (by, subst (λ n. IsAttractor t.element.shape t.element.rows x n by) (sym counted) (subst (Has t x) e (here_is x here)), long)

  -- walks behind at a repeller
  pub behind_told : (m count letters : ℕ) (by : List ℕ) → kind ≡ Repeller m by → count ≡ m → letters ≡ length by
      → TellsEnd Behind t place (Some (count, letters))
  behind_told m count letters by e counted long x here = (by, subst (λ n. IsRepeller t.element.shape t.element.rows x n by) (sym counted) (subst (Has t x) e (here_is x here)), long)

  -- the period of either
  pub period_told : (m count : ℕ) → ((by : List ℕ) × (kind ≡ Attractor m by)) ⊎ ((by : List ℕ) × (kind ≡ Repeller m by)) → count ≡ m
      → TellsPeriod t place (Some count)
  period_told m count either counted x here = subst (HasPeriod t x) (sym counted) (elim either [
    | inl (by, e) ↦ (by, inl (subst (Has t x) e (here_is x here)))
    | inr (by, e) ↦ (by, inr (subst (Has t x) e (here_is x here)))
  ])

  -- no walks ahead end at a word of another kind
  pub no_ahead : ((m : ℕ) (by : List ℕ) → ¬ (kind ≡ Attractor m by)) → TellsEnd Ahead t place None
  no_ahead other x here m by a = other_kind kind other (here_is x here)
    where
      other_kind : (k : Kind) → ((n : ℕ) (z : List ℕ) → ¬ (k ≡ Attractor n z)) → Has t x k → ⊥
      other_kind (Cycle n) differ h = cycle_no_attractor t.element.shape t.element.rows typed.canonical.pair x n m by h a
      other_kind (Attractor n z) differ h = differ n z refl
      other_kind (Repeller n z) differ h = attractor_no_repeller t.element.shape t.element.rows typed.canonical.pair x m n by z a h
      other_kind (Passing ahead behind) differ h = h.0.1 (m, by, a)

  -- nor behind
  pub no_behind : ((m : ℕ) (by : List ℕ) → ¬ (kind ≡ Repeller m by)) → TellsEnd Behind t place None
  no_behind other x here m by r = other_kind kind other (here_is x here)
    where
      other_kind : (k : Kind) → ((n : ℕ) (z : List ℕ) → ¬ (k ≡ Repeller n z)) → Has t x k → ⊥
      other_kind (Cycle n) differ h = cycle_no_repeller t.element.shape t.element.rows typed.canonical.pair x n m by h r
      other_kind (Attractor n z) differ h = attractor_no_repeller t.element.shape t.element.rows typed.canonical.pair x n m z by h r
      other_kind (Repeller n z) differ h = differ n z refl
      other_kind (Passing ahead behind) differ h = h.0.2 (m, by, r)

  -- no period where the kind is neither
  pub period_untold : ((m : ℕ) (by : List ℕ) → ¬ (kind ≡ Attractor m by)) → ((m : ℕ) (by : List ℕ) → ¬ (kind ≡ Repeller m by))
      → TellsPeriod t place None
  period_untold other behind x here m (by, end) = elim end [ inl a ↦ no_ahead other x here m by a | inr r ↦ no_behind behind x here m by r ]
