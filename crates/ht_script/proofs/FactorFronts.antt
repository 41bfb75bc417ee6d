-- The longest fronts of factors.
use Rattle.std.proofs.Common.{◌≡◌, ◌≢◌, ◌<◌, ◌≤◌, ◌+◌, ℕ, zero, suc, ◌⊎◌, inl, inr, List, [], ◌∷◌, ◌++◌, length, take, refl, sym, ap, ◌∙◌, subst, arith, append_assoc, length-append}
use Rattle.std.specs.List.{AllByRecursion}
use Rattle.std.proofs.lemmas.List.{length-take-le}
use Rattle.std.proofs.lemmas.List.Elements.{All-nil, All-cons, All-take, recursion_from_All}
use Rattle.ht_text.specs.Fronts.{IsFront, IsLongestFront}
use Rattle.ht_text.proofs.Cuts.{IsFree}
use Rattle.ht_script.specs.declared.factor.Factor.{Factor}
use Rattle.ht_script.specs.Tokens.{IsSpaces, IsSpaced, IsFirstToken}
use Rattle.ht_script.specs.Names.{IsName}
use Rattle.ht_script.specs.Factors.{IsFactor, IsFactorText, AreListed, AreFactorsText}
use Rattle.ht_script.specs.Exponents.{IsExponentText}
use Rattle.ht_script.proofs.TokenLaws.{spaces_left, AreTokens, refit, spaced_before}
use Rattle.ht_script.proofs.FrontLaws.{front_map, moved, longest_behind, longest_stops, longest_same, longest_alike}
use Rattle.ht_script.proofs.SpacedFronts.{Fits, TakesSpace, spaces_front, longest_spaces, longest_in_token, longest_past_token}
use Rattle.ht_script.proofs.NameLaws.{name_a}
use Rattle.ht_script.proofs.FactorTexts.{form_of, Form, alone, powered, factor_alone, powered_text, parts_of, exponent_of_parts, factor_token}

-- bytes without an x, at the front of some that have one, end before it
before_cut : (x : ℕ) (a c b d : List ℕ) → AllByRecursion (λ y. y ≢ x) a → a ++ c ≡ b ++ x ∷ d → (more : List ℕ) × (b ≡ a ++ more)
before_cut x [] c b d free e = (b, refl)
before_cut x (y ∷ a) c [] d free e = let head : y ≡ x = cc in absurd (free.0 head)
before_cut x (y ∷ a) c (z ∷ b) d free e =
    let head : y ≡ z = cc in
    let tail : a ++ c ≡ b ++ x ∷ d = cc in
    let more = before_cut x a c b d free.1 tail in
    let rest = more.1 in
    (more.0, cc)

-- fronts of factors without `^` are fronts of names
front_of_free : (t : List ℕ) → IsFree 94 t → IsFront IsFactorText t → IsFront IsName t
front_of_free t free f = by_form (form_of f.text.0 (t ++ f.rest) f.text.1).0 (form_of f.text.0 (t ++ f.rest) f.text.1).1
  where
    by_form : IsName f.text.0.name → Form f.text.0.name f.text.0.exponent (t ++ f.rest) → IsFront IsName t
    by_form is_name (alone is one) = record { rest = f.rest; text = subst IsName (sym is) is_name }
    by_form is_name (powered text is p) =
        let more = before_cut 94 t f.rest f.text.0.name text (recursion_from_All (λ y. y ≢ 94) t free) is in
        record { rest = more.0; text = subst IsName more.1 is_name }

name_factor : (t : List ℕ) → IsName t → IsFactorText t
name_factor t h = (_, factor_alone t h)

-- a token without `^`
pub longest_free : (t : List ℕ) (k : ℕ) → IsFree 94 t → IsLongestFront IsName t k → IsLongestFront IsFactorText t k
longest_free t k free h =
    longest_alike IsName IsFactorText t k (λ j l f. front_map IsName IsFactorText (take j t) name_factor f)
    (λ j l f. front_of_free (take j t) (All-take (λ b. b ≢ 94) j t free) f) h

-- a token that has no name before its first `^`
pub longest_unnamed : (name text : List ℕ) (k : ℕ) → IsFree 94 name → ¬ IsName name → IsLongestFront IsName name k → IsLongestFront IsFactorText (name ++ 94 ∷ text) k
longest_unnamed name text k free none h = longest_stops IsFactorText name (94 ∷ text) k (longest_free name k free h) stop
  where
    stop : (i : ℕ) → 0 < i → i ≤ length (94 ∷ text) → ¬ IsFront IsFactorText (name ++ take i (94 ∷ text))
    stop zero low high f = absurd (omega arith)
    stop (suc i) low high f =
        let whole = subst (λ t. IsFactor f.text.0 t) (append_assoc name (94 ∷ take i text) f.rest) f.text.1 in
        none (parts_of f.text.0 name (take i text ++ f.rest) free whole).is_name

-- a token that has a name before its first `^`
pub longest_powered : (name text : List ℕ) (k : ℕ) → IsFree 94 name → IsName name → IsLongestFront IsExponentText text k → IsLongestFront IsFactorText (name ++ 94 ∷ text) (length name + 1 + k)
longest_powered name text k free is_name h =
    moved IsFactorText (name ++ 94 ∷ text) ((name ++ 94 ∷ []) ++ text) (length name + 1 + k) (length (name ++ 94 ∷ []) + k) (append_assoc name (94 ∷ []) text)
    (ap (λ n. n + k) (length-append name (94 ∷ [])))
    (longest_behind IsFactorText IsExponentText (name ++ 94 ∷ []) text k
    (λ f. record { rest = f.rest; text = subst IsFactorText (sym (joined (take k text) f.rest)) (powered_text name (take k text ++ f.rest) is_name f.text) })
    (λ i low high f.
    let parts = parts_of f.text.0 name (take i text ++ f.rest) free (subst (λ t. IsFactor f.text.0 t) (joined (take i text) f.rest) f.text.1) in
    record { rest = f.rest; text = exponent_of_parts f.text.0 name (take i text ++ f.rest) parts }) h)
  where
    joined : (x rest : List ℕ) → ((name ++ 94 ∷ []) ++ x) ++ rest ≡ name ++ 94 ∷ (x ++ rest)
    joined x rest = append_assoc (name ++ 94 ∷ []) x rest ∙ append_assoc name (94 ∷ []) (x ++ rest)

-- factors, none or more
abbrev pub AreListedText : List ℕ → Type 0
AreListedText bytes = (factors : List Factor) × AreListed factors bytes

-- a factor, and behind it further ones
abbrev pub FactorFits : List ℕ → List ℕ → Type 0
FactorFits token rest = IsFactorText token × AreListedText rest

pub factor_tokens : AreTokens FactorFits
factor_tokens = λ t r h. factor_token h.0.0 t h.0.1

-- one more space may stand before factors
pub listed_before : (fs : List Factor) (bytes : List ℕ) → AreListed fs bytes → AreListed fs (32 ∷ bytes)
listed_before [] bytes h = All-cons (λ b. b ≡ 32) 32 bytes refl h
listed_before (f ∷ fs) bytes h = spaced_before (λ t r. IsFactor f t × AreListed fs r) bytes h

factor_takes_space : TakesSpace FactorFits
factor_takes_space = λ t r h. (h.0, (h.1.0, listed_before h.1.0 r h.1.1))

-- some factors are a factor and further ones
factors_spaced : (bytes : List ℕ) → AreFactorsText bytes → IsSpaced FactorFits bytes
factors_spaced bytes h = by_list h.0 h.1.0 h.1.1
  where
    by_list : (fs : List Factor) → fs ≢ [] → AreListed fs bytes → IsSpaced FactorFits bytes
    by_list [] some s = absurd (some refl)
    by_list (f ∷ fs) some s = refit (λ t r. IsFactor f t × AreListed fs r) FactorFits bytes s ((f, s.fits.0), (fs, s.fits.1))

spaced_factors : (bytes : List ℕ) → IsSpaced FactorFits bytes → AreFactorsText bytes
spaced_factors bytes s =
    let f = s.fits.0 in
    let fs = s.fits.1 in
    (f.0 ∷ fs.0, (λ none. cc, refit FactorFits (λ t r. IsFactor f.0 t × AreListed fs.0 r) bytes s (f.1, fs.1)))

factor_a : Fits FactorFits (97 ∷ [])
factor_a = ([], (name_factor (97 ∷ []) name_a, ([], All-nil (λ b. b ≡ 32))))

-- fronts of factors, none or more, are fronts of at least one
front_of_listed : (t : List ℕ) → IsFront AreListedText t → IsFront AreFactorsText t
front_of_listed t f = by_list f.text.0 f.text.1
  where
    by_list : (fs : List Factor) → AreListed fs (t ++ f.rest) → IsFront AreFactorsText t
    by_list [] spaces = front_map (IsSpaced FactorFits) AreFactorsText t spaced_factors (spaces_front FactorFits t (97 ∷ []) factor_takes_space factor_a (spaces_left t f.rest spaces))
    by_list (g ∷ gs) s = record { rest = f.rest; text = (g ∷ gs, (λ none. cc, s)) }

longest_listed : (bytes : List ℕ) (k : ℕ) → IsLongestFront AreFactorsText bytes k → IsLongestFront AreListedText bytes k
longest_listed bytes k h = longest_alike AreFactorsText AreListedText bytes k (λ j l f. front_map AreFactorsText AreListedText (take j bytes) (λ t g. (g.0, g.1.1)) f) (λ j l f. front_of_listed (take j bytes) f) h

by_spaced : (bytes : List ℕ) (k : ℕ) → IsLongestFront (IsSpaced FactorFits) bytes k → IsLongestFront AreFactorsText bytes k
by_spaced bytes k h = longest_same (IsSpaced FactorFits) AreFactorsText bytes k spaced_factors factors_spaced h

-- only spaces
pub longest_no_factor : (bytes : List ℕ) → IsSpaces bytes → IsLongestFront AreFactorsText bytes (length bytes)
longest_no_factor bytes spaces = by_spaced bytes (length bytes) (longest_spaces FactorFits bytes (97 ∷ []) factor_takes_space factor_a spaces)

-- the first token is the last one, or no factor
pub longest_in_factor : (bytes : List ℕ) (at : ℕ) (token rest : List ℕ) (j : ℕ) → IsFirstToken bytes at token rest → (rest ≡ []) ⊎ ¬ IsFactorText token → IsLongestFront IsFactorText token j → IsLongestFront AreFactorsText bytes (at + j)
longest_in_factor bytes at token rest j h none front =
    by_spaced bytes (at + j)
    (longest_in_token FactorFits bytes at token rest j factor_tokens factor_takes_space h (elim none [ inl e ↦ inl e | inr other ↦ inr (λ f. other f.1.0) ])
    (longest_same IsFactorText (Fits FactorFits) token j (λ t f. ([], (f, ([], All-nil (λ b. b ≡ 32))))) (λ t f. f.1.0) front))

-- the first token is a factor
pub longest_past_factor : (bytes : List ℕ) (at : ℕ) (token rest : List ℕ) (k : ℕ) → IsFirstToken bytes at token rest → IsFactorText token → IsLongestFront AreFactorsText rest k → IsLongestFront AreFactorsText bytes (at + length token + k)
longest_past_factor bytes at token rest k h is_factor front =
    by_spaced bytes (at + length token + k)
    (longest_past_token FactorFits bytes at token rest k factor_tokens factor_takes_space h
    (longest_same AreListedText (FactorFits token) rest k (λ t f. (is_factor, f)) (λ t f. f.1) (longest_listed rest k front)))

-- the bytes behind a token are fewer
pub first_lengths : (bytes : List ℕ) (at : ℕ) (token rest : List ℕ) → IsFirstToken bytes at token rest → at + length token + length rest ≡ length bytes
first_lengths bytes at token rest h =
    let whole : length bytes ≡ length (take at bytes ++ (token ++ rest)) = ap (λ (t : List ℕ). length t) h.is in
    omega (arith, length-append (take at bytes) (token ++ rest), length-append token rest, length-take-le at bytes h.within)
