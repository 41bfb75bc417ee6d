-- The first token of bytes is the only one that they can have.
use Rattle.std.proofs.Common.{◌≡◌, ◌≢◌, ◌<◌, ℕ, List, [], ◌∷◌, ◌++◌, length, take, refl, sym, ap, ◌∙◌, subst, subst₂, arith, Result, Ok, Err, Option, Some, None, IfOk, MatchOption}
use Rattle.std.specs.List.{AllByRecursion}
use Rattle.std.proofs.lemmas.List.Elements.{All-nil, All-cons, All-take, recursion_from_All}
use Rattle.std.proofs.lemmas.List.{take_at}
use Rattle.ht_script.specs.Tokens.{◌▸◌, Is, IsSpaces, IsToken, IsApart, IsSpaced, IsFirstToken}

-- the first byte is there and isn't a space
abbrev pub BeginsToken : List ℕ → Type 0
BeginsToken [] = ⊥
BeginsToken (b ∷ rest) = b ≢ 32

abbrev AreSpaces : List ℕ → Type 0
AreSpaces bytes = AllByRecursion (λ b. b ≡ 32) bytes

abbrev NoSpace : List ℕ → Type 0
NoSpace bytes = AllByRecursion (λ b. b ≢ 32) bytes

-- F holds of tokens alone
abbrev pub AreTokens : (List ℕ → List ℕ → Type 0) → Type 0
AreTokens F = (token rest : List ℕ) → F token rest → IsToken token

pub begins : (token rest : List ℕ) → IsToken token → BeginsToken (token ++ rest)
begins [] rest h = let none : 0 < 0 = h.some in absurd (omega arith)
begins (b ∷ token) rest h = (recursion_from_All (λ b. b ≢ 32) (b ∷ token) h.no_space).0

strip_by_recursion : (a b x y : List ℕ) → AreSpaces a → AreSpaces b → BeginsToken x → BeginsToken y → a ++ x ≡ b ++ y → x ≡ y
strip_by_recursion [] [] x y p q f g e = e
strip_by_recursion [] (z ∷ b) [] y p q f g e = absurd f
strip_by_recursion [] (z ∷ b) (c ∷ x) y p q f g e = let head : c ≡ z = cc in absurd (f (head ∙ q.0))
strip_by_recursion (z ∷ a) [] x [] p q f g e = absurd g
strip_by_recursion (z ∷ a) [] x (c ∷ y) p q f g e = let head : z ≡ c = cc in absurd (g (sym head ∙ p.0))
strip_by_recursion (z ∷ a) (w ∷ b) x y p q f g e = let tail : a ++ x ≡ b ++ y = cc in strip_by_recursion a b x y p.1 q.1 f g tail

-- what stands behind the first spaces is one thing
pub strip : (a b x y : List ℕ) → IsSpaces a → IsSpaces b → BeginsToken x → BeginsToken y → a ++ x ≡ b ++ y → x ≡ y
strip a b x y p q f g e = strip_by_recursion a b x y (recursion_from_All (λ b. b ≡ 32) a p) (recursion_from_All (λ b. b ≡ 32) b q) f g e

end_of_spaces : (a x : List ℕ) → AreSpaces (a ++ x) → BeginsToken x → ⊥
end_of_spaces [] [] h f = f
end_of_spaces [] (b ∷ x) h f = f h.0
end_of_spaces (z ∷ a) x h f = end_of_spaces a x h.1 f

-- spaces have no other byte
pub not_spaces : (bytes a x : List ℕ) → IsSpaces bytes → bytes ≡ a ++ x → BeginsToken x → ⊥
not_spaces bytes a x h e f = end_of_spaces a x (recursion_from_All (λ b. b ≡ 32) (a ++ x) (subst IsSpaces e h)) f

-- the first of spaces are spaces
pub spaces_left : (a r : List ℕ) → IsSpaces (a ++ r) → IsSpaces a
spaces_left a r h = subst IsSpaces (take_at a r (length a) refl) (All-take (λ b. b ≡ 32) (length a) (a ++ r) h)

-- the token u goes on behind t, which has c behind it where u has y
pub record IsLongerToken (t c u y : List ℕ) : Type 0 where
  pub more : List ℕ
  pub token : u ≡ t ++ more
  pub rest : c ≡ more ++ y

go_on : (t c u y : List ℕ) → NoSpace t → IsApart y → t ++ c ≡ u ++ y → IsLongerToken t c u y
go_on [] c u y f apart e = record { more = u; token = refl; rest = e }
go_on (p ∷ t) c [] [] f apart e = absurd cc
go_on (p ∷ t) c [] (b ∷ y) f apart e = let head : p ≡ b = cc in absurd (f.0 (head ∙ apart))
go_on (p ∷ t) c (q ∷ u) y f apart e =
    let head : p ≡ q = cc in
    let tail : t ++ c ≡ u ++ y = cc in
    let on = go_on t c u y f.1 apart tail in
    let whole = on.token in
    record { more = on.more; token = cc; rest = on.rest }

-- bytes without a space at the front of a token and its rest are the token's
pub token_goes_on : (t c u y : List ℕ) → IsToken t → IsApart y → t ++ c ≡ u ++ y → IsLongerToken t c u y
token_goes_on t c u y h apart e = go_on t c u y (recursion_from_All (λ b. b ≢ 32) t h.no_space) apart e

one_token : (t x u y : List ℕ) → NoSpace t → NoSpace u → IsApart x → IsApart y → t ++ x ≡ u ++ y → (t ≡ u) × (x ≡ y)
one_token [] x [] y f g p q e = (refl, e)
one_token [] [] (c ∷ u) y f g p q e = absurd cc
one_token [] (b ∷ x) (c ∷ u) y f g p q e = let head : b ≡ c = cc in absurd (g.0 (sym head ∙ p))
one_token (c ∷ t) x [] [] f g p q e = absurd cc
one_token (c ∷ t) x [] (b ∷ y) f g p q e = let head : c ≡ b = cc in absurd (f.0 (head ∙ q))
one_token (c ∷ t) x (d ∷ u) y f g p q e =
    let head : c ≡ d = cc in
    let tail : t ++ x ≡ u ++ y = cc in
    let same = one_token t x u y f.1 g.1 p q tail in
    let front = same.0 in
    (cc, same.1)

-- a token and its rest are the only ones
pub same_token : (t x u y : List ℕ) → IsToken t → IsToken u → IsApart x → IsApart y → t ++ x ≡ u ++ y → (t ≡ u) × (x ≡ y)
same_token t x u y f g p q e = one_token t x u y (recursion_from_All (λ b. b ≢ 32) t f.no_space) (recursion_from_All (λ b. b ≢ 32) u g.no_space) p q e

-- what holds of some first token and rest holds of those that were found
pub at_first : (F : List ℕ → List ℕ → Type 0) (bytes before token rest : List ℕ) → AreTokens F → IsSpaces before → IsToken token → IsApart rest → bytes ≡ before ++ (token ++ rest)
    → IsSpaced F bytes → F token rest
at_first F bytes before token rest only spaces is_token apart is s =
    let other = only s.token s.rest s.fits in
    let same = same_token token rest s.token s.rest is_token other apart s.apart
    (strip before s.before (token ++ rest) (s.token ++ s.rest) spaces s.spaces (begins token rest is_token) (begins s.token s.rest other) (sym is ∙ s.is)) in
    subst₂ F (sym same.0) (sym same.1) s.fits

pub first_fits : (F : List ℕ → List ℕ → Type 0) (bytes : List ℕ) (at : ℕ) (token rest : List ℕ) → AreTokens F → IsFirstToken bytes at token rest → IsSpaced F bytes → F token rest
first_fits F bytes at token rest only h s = at_first F bytes (take at bytes) token rest only h.spaces h.is_token h.apart h.is s

-- spaces alone have no token
pub no_token : (F : List ℕ → List ℕ → Type 0) (bytes : List ℕ) → AreTokens F → IsSpaces bytes → ¬ IsSpaced F bytes
no_token F bytes only spaces s = not_spaces bytes s.before (s.token ++ s.rest) spaces s.is (begins s.token s.rest (only s.token s.rest s.fits))

-- the same token and rest by what else holds of them
pub refit : (F G : List ℕ → List ℕ → Type 0) (bytes : List ℕ) (s : IsSpaced F bytes) → G s.token s.rest → IsSpaced G bytes
refit F G bytes s g = record { before = s.before; token = s.token; rest = s.rest; spaces = s.spaces; apart = s.apart; fits = g; is = s.is }

-- a token that was found, with what holds of it
pub found : (F : List ℕ → List ℕ → Type 0) (bytes : List ℕ) (at : ℕ) (token rest : List ℕ) → IsFirstToken bytes at token rest → F token rest → IsSpaced F bytes
found F bytes at token rest h f = record { before = take at bytes; token = token; rest = rest; spaces = h.spaces; apart = h.apart; fits = f; is = h.is }

-- tokens of T, whatever stands behind them
only_tokens : (T R : List ℕ → Type 0) → ((t : List ℕ) → T t → IsToken t) → AreTokens (λ t r. T t × R r)
only_tokens T R f = λ t r h. f t h.0

-- the first token is of T, and R holds of what is behind it
pub first_of : (T R : List ℕ → Type 0) (bytes : List ℕ) (at : ℕ) (token rest : List ℕ) → ((t : List ℕ) → T t → IsToken t) → IsFirstToken bytes at token rest → (T ▸ R) bytes → T token × R rest
first_of T R bytes at token rest f h s = first_fits (λ t r. T t × R r) bytes at token rest (only_tokens T R f) h s

pub none_of : (T R : List ℕ → Type 0) (bytes : List ℕ) → ((t : List ℕ) → T t → IsToken t) → IsSpaces bytes → ¬ (T ▸ R) bytes
none_of T R bytes f spaces s = no_token (λ t r. T t × R r) bytes (only_tokens T R f) spaces s

-- bytes that aren't one token aren't one of T
pub no_single : (T : List ℕ → Type 0) (bytes : List ℕ) → ((t : List ℕ) → T t → IsToken t) → ((t : List ℕ) → IsToken t → ¬ (Is t ▸ IsSpaces) bytes) → ¬ (T ▸ IsSpaces) bytes
no_single T bytes f none s =
    none s.token (f s.token s.fits.0) (refit (λ t r. T t × IsSpaces r) (λ t r. (t ≡ s.token) × IsSpaces r) bytes s (refl, s.fits.1))

-- one token that is of T
pub single_of : (T : List ℕ → Type 0) (bytes token : List ℕ) → (Is token ▸ IsSpaces) bytes → T token → (T ▸ IsSpaces) bytes
single_of T bytes token s t = refit (λ u r. (u ≡ token) × IsSpaces r) (λ u r. T u × IsSpaces r) bytes s (subst T (sym s.fits.0) t, s.fits.1)

-- the one token is of T
pub single_is : (T : List ℕ → Type 0) (bytes token : List ℕ) → ((t : List ℕ) → T t → IsToken t) → (Is token ▸ IsSpaces) bytes → IsToken token → (T ▸ IsSpaces) bytes → T token
single_is T bytes token f s is_token h =
    subst T s.fits.0
    (at_first (λ u r. T u × IsSpaces r) bytes s.before s.token s.rest (only_tokens T IsSpaces f) s.spaces (subst IsToken (sym s.fits.0) is_token) s.apart s.is h).0

-- what was read from the one token is what the bytes are
pub single_read : {X E : Type 0} (T : X → List ℕ → Type 0) (bytes token : List ℕ) → ((x : X) (t : List ℕ) → T x t → IsToken t) → (Is token ▸ IsSpaces) bytes → IsToken token → (r : Result (Option X) E)
    → IfOk r (λ found. MatchOption found ((x : X) → ¬ T x token) (λ x. T x token)) → IfOk r (λ found. MatchOption found ((x : X) → ¬ (T x ▸ IsSpaces) bytes) (λ x. (T x ▸ IsSpaces) bytes))
single_read T bytes token f s is_token (Err e) h = h
single_read T bytes token f s is_token (Ok None) h = λ x g. h x (single_is (T x) bytes token (f x) s is_token g)
single_read T bytes token f s is_token (Ok (Some x)) h = single_of (T x) bytes token s h

-- one more space may stand before the first token
pub spaced_before : (F : List ℕ → List ℕ → Type 0) (bytes : List ℕ) → IsSpaced F bytes → IsSpaced F (32 ∷ bytes)
spaced_before F bytes s = record {
  before = 32 ∷ s.before;
  token = s.token;
  rest = s.rest;
  spaces = All-cons (λ b. b ≡ 32) 32 s.before refl s.spaces;
  apart = s.apart;
  fits = s.fits;
  is = ap (λ t. 32 ∷ t) s.is;
}

-- a token behind a space
pub one_spaced : (F : List ℕ → List ℕ → Type 0) (token rest : List ℕ) → F token rest → IsApart rest → IsSpaced F (32 ∷ (token ++ rest))
one_spaced F token rest fits apart = record {
  before = 32 ∷ [];
  token = token;
  rest = rest;
  spaces = All-cons (λ b. b ≡ 32) 32 [] refl (All-nil (λ b. b ≡ 32));
  apart = apart;
  fits = fits;
  is = refl;
}

-- one token and one rest that two readings of the bytes agree on
pub record IsOneToken (T R U S : List ℕ → Type 0) : Type 0 where
  pub token : List ℕ
  pub rest : List ℕ
  pub first : T token
  pub second : U token
  pub behind_first : R rest
  pub behind_second : S rest

pub both : (T R U S : List ℕ → Type 0) (bytes : List ℕ) → ((t : List ℕ) → T t → IsToken t) → ((t : List ℕ) → U t → IsToken t) → (T ▸ R) bytes → (U ▸ S) bytes → IsOneToken T R U S
both T R U S bytes f g s h =
    let other = at_first (λ t r. U t × S r) bytes s.before s.token s.rest (λ t r k. g t k.0) s.spaces (f s.token s.fits.0) s.apart s.is h in
    record { token = s.token; rest = s.rest; first = s.fits.0; second = other.0; behind_first = s.fits.1; behind_second = other.1 }
