-- The trial of the powers of infinite parts, as it is told: f and g are two elements with their quasinormal bases.
use Rattle.std.proofs.Common.{◌≡◌, ℕ, pos, ◌<◌, ◌^◌, inl, inr, List, [], ◌∷◌, Option, None, Some, Result, Err, refl, sym, ap, ◌∙◌, subst, subst₂}
use Rattle.ht_word.specs.declared.shape.Shape.{Shape}
use Rattle.ht_num.specs.Numbers.{IsSomeWide}
use Rattle.ht_pair.specs.declared.fault.OpFault.{OpFault}
use Rattle.ht_pair.specs.declared.fault.OpFault.TheVariants as op_fault
use Rattle.ht_pair.specs.declared.row.Row.{Row}
use Rattle.ht_pair.specs.declared.verdict.PowerVerdict.{PowerVerdict}
use Rattle.ht_pair.specs.Parts.{HasParts}
use Rattle.ht_pair.specs.PowerSizes.{Sign, signed, IsFirstLargeOf, NoneLargeOf}
use Rattle.ht_pair.specs.PowerTrials.{Powers, TooLarge, TooWide}
use Rattle.ht_pair.specs.SignTrials.{BothParts, all_parts, HasBothParts, SignCompares, SignTrial}
use Rattle.ht_pair.specs.Sizes.{IsLarge}
use Rattle.ht_types.specs.TypedElements.{TypedValue}
use Rattle.ht_parts.specs.LargeParts.{IsLargePart}
use Rattle.ht_power.specs.declared.fault.PowerFault.{PowerFault}
use Rattle.ht_power.specs.declared.fault.PowerFault.TheVariants as fault
use Rattle.ht_power.specs.SignsTold.{IsPassed, Never, TellsTried, TellsWhole, Tried}
use Rattle.ht_power.specs.Told.{AreCompared, TellsConjugator, TellsTrial, of_operation}
use Rattle.ht_power.proofs.PartsThere.{parts_there}
use Rattle.ht_power.proofs.PeriodLaws.{Typed}
use Rattle.ht_power.proofs.WideNumbers.{both_narrow}

-- ---- which of some pairs is large

-- the first of two is, of two and more
first_of_more : {shape : Shape} {s t : List Row} {rows letters : ℕ} (ss : List (List Row)) → IsFirstLargeOf shape (s ∷ t ∷ []) rows letters → IsFirstLargeOf shape (s ∷ t ∷ ss) rows letters
first_of_more ss (inl large) = inl large
first_of_more ss (inr (small, inl large)) = inr (small, inl large)
first_of_more ss (inr (small, inr (other, none))) = absurd none

-- behind two that aren't the first of more is
first_behind : {shape : Shape} {s t : List Row} {rows letters : ℕ} (ss : List (List Row)) → NoneLargeOf shape (s ∷ t ∷ []) → IsFirstLargeOf shape ss rows letters → IsFirstLargeOf shape (s ∷ t ∷ ss) rows letters
first_behind {shape} {s} ss none large =
    let first = λ (i j : ℕ) (l : IsLarge shape s i j). none i j (inl l) in
    inr (first, inr (λ i j l. none i j (inr (first, inl l)), large))

-- neither of two is, and none of more
none_of_more : {shape : Shape} {s t : List Row} (ss : List (List Row)) → NoneLargeOf shape (s ∷ t ∷ []) → NoneLargeOf shape ss → NoneLargeOf shape (s ∷ t ∷ ss)
none_of_more ss none others i j (inl large) = none i j (inl large)
none_of_more ss none others i j (inr (small, inl large)) = none i j (inr (small, inl large))
none_of_more ss none others i j (inr (small, inr (other, large))) = others i j large

-- no part is
none_of_parts : (t : TypedValue) {first second : List Row} → HasParts t.element.shape t.element.rows t.quasi.basis.words first second
    → ((rows letters : ℕ) → ¬ IsLargePart t.element.shape t.element.rows t.quasi.basis.words rows letters) → NoneLargeOf t.element.shape (first ∷ second ∷ [])
none_of_parts t {first} {second} parts none rows letters large = none rows letters (record { first = first; second = second; parts = parts; large = large })

module _ (f g : TypedValue) (same : g.element.shape ≡ f.element.shape) (sign : Sign) (i j : ℕ) (one : i < 2 ^ 127) (other : j < 2 ^ 127) where
  abbrev PartsOfFirst : List Row → List Row → Type 0
  PartsOfFirst = HasParts f.element.shape f.element.rows f.quasi.basis.words

  abbrev PartsOfSecond : List Row → List Row → Type 0
  PartsOfSecond = HasParts g.element.shape g.element.rows g.quasi.basis.words

  fit : ¬ IsSomeWide (i ∷ j ∷ [])
  fit = both_narrow i j one other

  -- why no part is made
  failed : (why : OpFault) → ((rows letters : ℕ) → why ≡ op_fault.Large rows letters → Tried f g sign i j Never (TooLarge rows letters)) → {made : PowerFault} {result : Result (Option PowerVerdict) PowerFault} → result ≡ Err made → made ≡ of_operation why → TellsTried f g sign i j result
  failed why large is from = subst (TellsTried f g sign i j) (sym (is ∙ ap Err from)) (told why large)
    where
      told : (why : OpFault) → ((rows letters : ℕ) → why ≡ op_fault.Large rows letters → Tried f g sign i j Never (TooLarge rows letters)) → TellsTried f g sign i j (Err (of_operation why))
      told (op_fault.Large rows letters) large = large rows letters refl
      told op_fault.NoMemory large = tt

  module _ {a_periodic a_infinite b_periodic b_infinite : List Row} (first : PartsOfFirst a_periodic a_infinite) (second : PartsOfSecond b_periodic b_infinite) where
    abbrev parts : BothParts
    parts = record { a_periodic = a_periodic; a_infinite = a_infinite; b_periodic = b_periodic; b_infinite = b_infinite }

    has_parts : HasBothParts f.element.shape f.element.rows g.element.rows f.quasi.basis.words g.quasi.basis.words parts
    has_parts = record { first = first; second = subst (λ (s : Shape). HasParts s g.element.rows g.quasi.basis.words b_periodic b_infinite) same second }

    part_large : {rows letters : ℕ} → IsFirstLargeOf f.element.shape (all_parts parts) rows letters → Tried f g sign i j Never (TooLarge rows letters)
    part_large large = SignTrial.parts_large {parts = parts} fit has_parts large

  -- a part of the first is large
  pub first_failed : Typed g → (why : OpFault) → ((rows letters : ℕ) → why ≡ op_fault.Large rows letters → IsLargePart f.element.shape f.element.rows f.quasi.basis.words rows letters)
      → {made : PowerFault} {result : Result (Option PowerVerdict) PowerFault} → result ≡ Err made → made ≡ of_operation why → TellsTried f g sign i j result
  first_failed typed why large is from =
      let others = parts_there g typed in
      failed why (λ rows letters e.
      let part = large rows letters e in
      part_large part.parts others.2 (first_of_more (others.0 ∷ others.1 ∷ []) part.large)) is from

  module _ {a_periodic a_infinite : List Row} (first : PartsOfFirst a_periodic a_infinite) (first_small : (rows letters : ℕ) → ¬ IsLargePart f.element.shape f.element.rows f.quasi.basis.words rows letters) where
    -- or of the second
    pub second_failed : (why : OpFault) → ((rows letters : ℕ) → why ≡ op_fault.Large rows letters → IsLargePart g.element.shape g.element.rows g.quasi.basis.words rows letters)
        → {made : PowerFault} {result : Result (Option PowerVerdict) PowerFault} → result ≡ Err made → made ≡ of_operation why → TellsTried f g sign i j result
    second_failed why large is from = failed why (λ rows letters e.
        let part = large rows letters e in
        part_large first part.parts (first_behind (part.first ∷ part.second ∷ []) (none_of_parts f first first_small) (subst (λ (s : Shape). IsFirstLargeOf s (part.first ∷ part.second ∷ []) rows letters) same part.large))) is from

    module _ {b_periodic b_infinite : List Row} (second : PartsOfSecond b_periodic b_infinite) (second_small : (rows letters : ℕ) → ¬ IsLargePart g.element.shape g.element.rows g.quasi.basis.words rows letters) where
      parts_small : NoneLargeOf f.element.shape (all_parts (parts first second))
      parts_small = none_of_more (b_periodic ∷ b_infinite ∷ []) (none_of_parts f first first_small) (subst (λ (s : Shape). NoneLargeOf s (b_periodic ∷ b_infinite ∷ [])) same (none_of_parts g second second_small))

      -- the powers aren't made
      pub powers_failed : (why : PowerFault) → TellsTrial f.element.shape a_infinite b_infinite sign i j (Err why) → {result : Result (Option PowerVerdict) PowerFault} → result ≡ Err why → TellsTried f g sign i j result
      powers_failed why told is = subst (TellsTried f g sign i j) (sym is) (tell why told)
        where
          tell : (why : PowerFault) → TellsTrial f.element.shape a_infinite b_infinite sign i j (Err why) → TellsTried f g sign i j (Err why)
          tell (fault.Budget which) none = none
          tell (fault.Large rows letters) large = SignTrial.powers_large {parts = parts first second} fit (has_parts first second) parts_small large
          tell fault.Wide none = absurd none
          tell fault.NoMemory none = tt

      module _ (told : Option (List Row)) (compared : AreCompared f.element.shape a_infinite b_infinite sign i j told) where
        compares : SignCompares f.element.shape f.element.rows g.element.rows f.quasi.basis.words g.quasi.basis.words sign i j compared.first compared.second
        compares = record { fit = fit; parts = parts first second; has_parts = has_parts first second; parts_small = parts_small; compares = compared.compared }

        -- they are compared and not conjugate
        pub passed : told ≡ None → IsPassed f g sign i j
        passed is = record { first = compared.first; second = compared.second; compared = compares; apart = subst (TellsConjugator f.element.shape compared.first compared.second) is compared.tells }

        -- they are conjugate, but an exponent is wide
        pub found_wide : (by : List Row) → told ≡ Some by → TellsWhole f g i j None → Tried f g sign i j Never TooWide
        found_wide by is wide =
            let printed = subst (TellsConjugator f.element.shape compared.first compared.second) is compared.tells in
            SignTrial.found_wide compares (record { by = by; conjugates = printed.normal.conjugates }) wide.1 wide.2

        -- or none is
        pub found : (by : List Row) → told ≡ Some by → (x y : ℕ) → TellsWhole f g i j (Some (x, y)) → Tried f g sign i j Never (Powers (pos x) (signed sign y) by)
        found by is x y (N, common, first_is, second_is, fits) =
            let printed = subst (TellsConjugator f.element.shape compared.first compared.second) is compared.tells in
            subst₂ (λ (m n : ℕ). Tried f g sign i j Never (Powers (pos m) (signed sign n) by)) (sym first_is) (sym second_is) (SignTrial.found {N = N} compares printed common fits)
