-- Factors that were read from the front of bytes, and what is left of these.
use Rattle.std.proofs.Common.{◌≡◌, ◌≢◌, ◌+◌, ℕ, List, [], ◌∷◌, ◌++◌, length, take, refl, sym, ap, ◌∙◌, subst, arith, append_assoc, append-nil, length-append}
use Rattle.std.proofs.lemmas.List.{nil_from_length}
use Rattle.ht_script.specs.declared.factor.Factor.{Factor}
use Rattle.ht_script.specs.Tokens.{IsSpaces, IsFirstToken}
use Rattle.ht_script.specs.Factors.{IsFactor, AreListed, AreFactors}
use Rattle.ht_script.proofs.TokenLaws.{begins, not_spaces, none_of, found, first_of}
use Rattle.ht_script.proofs.FactorTexts.{factor_token}

-- what is left, behind the factors so far, makes a list of the bytes
abbrev pub MakesList : List Factor → List ℕ → List ℕ → Type 0
MakesList so left bytes = (more : List Factor) → AreListed more left → AreListed (so ++ more) bytes

-- each list of the bytes has, behind so many factors, a list of what is left
abbrev pub ComesFrom : ℕ → List ℕ → List ℕ → Type 0
ComesFrom n left bytes = (fs : List Factor) → AreListed fs bytes → (more : List Factor) × AreListed more left × (length fs ≡ n + length more)

pub goes_on : (so new : List Factor) (f : Factor) (left bytes : List ℕ) (at : ℕ) (token rest : List ℕ) → MakesList so left bytes → IsFirstToken left at token rest → IsFactor f token → new ≡ so ++ f ∷ [] → MakesList new rest bytes
goes_on so new f left bytes at token rest read h is_factor is = λ more m.
    let joined : so ++ f ∷ more ≡ new ++ more = sym (append_assoc so (f ∷ []) more) ∙ ap (λ t. t ++ more) (sym is) in
    subst (λ fs. AreListed fs bytes) joined (read (f ∷ more) (found (λ t r. IsFactor f t × AreListed more r) left at token rest h (is_factor, m)))

-- a list with a first token has a first factor
behind_first : (fs : List Factor) (left : List ℕ) (at : ℕ) (token rest : List ℕ) → IsFirstToken left at token rest → AreListed fs left
    → (f : Factor) × (more : List Factor) × (fs ≡ f ∷ more) × IsFactor f token × AreListed more rest
behind_first [] left at token rest h s = absurd (not_spaces left (take at left) (token ++ rest) s h.is (begins token rest h.is_token))
behind_first (f ∷ fs) left at token rest h s = let parts = first_of (IsFactor f) (AreListed fs) left at token rest (factor_token f) h s in (f, fs, refl, parts.0, parts.1)

pub comes_from : (n m : ℕ) (left bytes : List ℕ) (at : ℕ) (token rest : List ℕ) → ComesFrom n left bytes → IsFirstToken left at token rest → m ≡ n + 1 → ComesFrom m rest bytes
comes_from n m left bytes at token rest all h is = λ fs listed.
    let here = all fs listed in
    let first = behind_first here.0 left at token rest h here.1 in
    let count : length here.0 ≡ length (first.0 ∷ first.1) = ap (λ (t : List Factor). length t) first.2 in
    let whole = here.2 in
    (first.1, first.4, omega arith)

-- a token that is no factor
pub no_factors : (n : ℕ) (left bytes : List ℕ) (at : ℕ) (token rest : List ℕ) → ComesFrom n left bytes → IsFirstToken left at token rest → ((f : Factor) → ¬ IsFactor f token) → (fs : List Factor) → ¬ AreFactors fs bytes
no_factors n left bytes at token rest all h none fs listed =
    let here = all fs listed.1 in
    let first = behind_first here.0 left at token rest h here.1 in none first.0 first.3

at_end : (fs : List Factor) (left : List ℕ) → IsSpaces left → AreListed fs left → length fs ≡ 0
at_end [] left spaces s = refl
at_end (f ∷ fs) left spaces s = absurd (none_of (IsFactor f) (AreListed fs) left (factor_token f) spaces s)

-- spaces alone
pub only_none : (n : ℕ) (left bytes : List ℕ) → ComesFrom n left bytes → IsSpaces left → n ≡ 0 → (fs : List Factor) → ¬ AreFactors fs bytes
only_none n left bytes all spaces zero fs listed =
    let here = all fs listed.1 in
    let none = at_end here.0 left spaces here.1 in
    let whole = here.2 in
    let few : length fs ≡ 0 = omega arith in
    listed.0 (nil_from_length fs few)

pub all_read : (so : List Factor) (left bytes : List ℕ) → MakesList so left bytes → IsSpaces left → length so ≢ 0 → AreFactors so bytes
all_read so left bytes read spaces some = ((λ e. some (ap (λ (t : List Factor). length t) e)), subst (λ fs. AreListed fs bytes) (append-nil so) (read [] spaces))

pub one_more : (so new : List Factor) (f : Factor) → new ≡ so ++ f ∷ [] → length new ≡ length so + 1
one_more so new f is = ap (λ (t : List Factor). length t) is ∙ length-append so (f ∷ [])
