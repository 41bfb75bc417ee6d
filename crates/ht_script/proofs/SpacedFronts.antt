-- The longest front of bytes that a token and what stands behind it have.
use Rattle.std.proofs.Common.{◌≡◌, ◌≢◌, ◌<◌, ◌≤◌, ◌+◌, ℕ, zero, suc, ◌⊎◌, inl, inr, List, [], ◌∷◌, ◌++◌, length, take, refl, sym, ap, ◌∙◌, subst, arith, append_assoc, append-nil, length-append}
use Rattle.std.proofs.lemmas.List.{length-take-le}
use Rattle.std.proofs.lemmas.List.Elements.{All-take}
use Rattle.ht_text.specs.Fronts.{IsFront, IsLongestFront}
use Rattle.ht_script.specs.Tokens.{IsSpaces, IsToken, IsApart, IsSpaced, IsFirstToken}
use Rattle.ht_script.proofs.TokenLaws.{AreTokens, token_goes_on, begins, strip, at_first}
use Rattle.ht_script.proofs.FrontLaws.{moved, longest_whole, longest_behind, longest_stops}

-- a token that something may stand behind
abbrev pub Fits : (List ℕ → List ℕ → Type 0) → List ℕ → Type 0
Fits F token = (rest : List ℕ) × F token rest

-- one more space may stand behind a token
abbrev pub TakesSpace : (List ℕ → List ℕ → Type 0) → Type 0
TakesSpace F = (token rest : List ℕ) → F token rest → F token (32 ∷ rest)

-- a front of a token is one of the whole
pub token_front : (F : List ℕ → List ℕ → Type 0) (before u : List ℕ) → TakesSpace F → IsSpaces before → IsFront (Fits F) u → IsFront (IsSpaced F) (before ++ u)
token_front F before u takes spaces h = record {
  rest = h.rest ++ 32 ∷ h.text.0;
  text = record {
    before = before;
    token = u ++ h.rest;
    rest = 32 ∷ h.text.0;
    spaces = spaces;
    apart = refl;
    fits = takes (u ++ h.rest) h.text.0 h.text.1;
    is = append_assoc before u (h.rest ++ 32 ∷ h.text.0) ∙ ap (λ t. before ++ t) (sym (append_assoc u h.rest (32 ∷ h.text.0)));
  };
}

-- a front that ends within a token is one of the token
of_token : (F : List ℕ → List ℕ → Type 0) (before u : List ℕ) → AreTokens F → IsSpaces before → IsToken u → IsFront (IsSpaced F) (before ++ u) → IsFront (Fits F) u
of_token F before u only spaces is_token h =
    let s = h.text in
    let other = only s.token s.rest s.fits in
    let same = strip before s.before (u ++ h.rest) (s.token ++ s.rest) spaces s.spaces (begins u h.rest is_token) (begins s.token s.rest other) (sym (append_assoc before u h.rest) ∙ s.is) in
    let on = token_goes_on u h.rest s.token s.rest is_token s.apart same in
    record { rest = on.more; text = (s.rest, subst (λ t. F t s.rest) on.token s.fits) }

-- behind a whole token its fronts are those of what stands behind it
rest_front : (F : List ℕ → List ℕ → Type 0) (before token x : List ℕ) → TakesSpace F → IsSpaces before → IsApart x → IsFront (F token) x → IsFront (IsSpaced F) ((before ++ token) ++ x)
rest_front F before token [] takes spaces apart h = record {
  rest = 32 ∷ h.rest;
  text = record {
    before = before;
    token = token;
    rest = 32 ∷ h.rest;
    spaces = spaces;
    apart = refl;
    fits = takes token h.rest h.text;
    is = ap (λ t. t ++ 32 ∷ h.rest) (append-nil (before ++ token)) ∙ append_assoc before token (32 ∷ h.rest);
  };
}
rest_front F before token (b ∷ x) takes spaces apart h = record {
  rest = h.rest;
  text = record {
    before = before;
    token = token;
    rest = b ∷ (x ++ h.rest);
    spaces = spaces;
    apart = apart;
    fits = h.text;
    is = append_assoc (before ++ token) (b ∷ x) h.rest ∙ append_assoc before token ((b ∷ x) ++ h.rest);
  };
}

-- and the other way round, where at least a space stands behind it
of_rest : (F : List ℕ → List ℕ → Type 0) (before token x : List ℕ) → AreTokens F → IsSpaces before → IsToken token → IsApart x → 0 < length x → IsFront (IsSpaced F) ((before ++ token) ++ x) → IsFront (F token) x
of_rest F before token [] only spaces is_token apart some h = absurd (omega arith)
of_rest F before token (b ∷ x) only spaces is_token apart some h = record {
  rest = h.rest;
  text = at_first F (((before ++ token) ++ (b ∷ x)) ++ h.rest) before token ((b ∷ x) ++ h.rest) only spaces is_token apart
      (append_assoc (before ++ token) (b ∷ x) h.rest ∙ append_assoc before token ((b ∷ x) ++ h.rest)) h.text;
}

apart_take : (k : ℕ) (rest : List ℕ) → IsApart rest → IsApart (take k rest)
apart_take zero rest h = tt
apart_take (suc k) [] h = tt
apart_take (suc k) (b ∷ rest) h = h

token_take : (i : ℕ) (token : List ℕ) → IsToken token → 0 < i → i ≤ length token → IsToken (take i token)
token_take i token h low high = record {
  some = omega (arith, length-take-le i token high);
  no_space = All-take (λ b. b ≢ 32) i token h.no_space;
}

within_token : (F : List ℕ → List ℕ → Type 0) (before token : List ℕ) (j : ℕ) → AreTokens F → TakesSpace F → IsSpaces before → IsToken token → IsLongestFront (Fits F) token j
    → IsLongestFront (IsSpaced F) (before ++ token) (length before + j)
within_token F before token j only takes spaces is_token h =
    longest_behind (IsSpaced F) (Fits F) before token j (λ f. token_front F before (take j token) takes spaces f)
    (λ i low high f. of_token F before (take i token) only spaces (token_take i token is_token low high) f) h

-- nothing fits behind the token
no_further : (F : List ℕ → List ℕ → Type 0) (before token rest : List ℕ) → AreTokens F → IsSpaces before → IsToken token → IsApart rest → (rest ≡ []) ⊎ ¬ Fits F token
    → (i : ℕ) → 0 < i → i ≤ length rest → ¬ IsFront (IsSpaced F) ((before ++ token) ++ take i rest)
no_further F before token rest only spaces is_token apart (inl none) i low high f = let e : length rest ≡ 0 = ap (λ (t : List ℕ). length t) none in absurd (omega arith)
no_further F before token rest only spaces is_token apart (inr unfit) i low high f =
    let inside = of_rest F before token (take i rest) only spaces is_token (apart_take i rest apart) (omega (arith, length-take-le i rest high)) f in
    unfit (take i rest ++ inside.rest, inside.text)

-- the longest front ends with the token, or within it, where nothing fits behind it
pub longest_in_token : (F : List ℕ → List ℕ → Type 0) (bytes : List ℕ) (at : ℕ) (token rest : List ℕ) (j : ℕ) → AreTokens F → TakesSpace F → IsFirstToken bytes at token rest → (rest ≡ []) ⊎ ¬ Fits F token
    → IsLongestFront (Fits F) token j → IsLongestFront (IsSpaced F) bytes (at + j)
longest_in_token F bytes at token rest j only takes h none front =
    let before : List ℕ = take at bytes in
    let inside = within_token F before token j only takes h.spaces h.is_token front in
    let whole = longest_stops (IsSpaced F) (before ++ token) rest (length before + j) inside (no_further F before token rest only h.spaces h.is_token h.apart none) in
    moved (IsSpaced F) bytes ((before ++ token) ++ rest) (at + j) (length before + j) (append_assoc before token rest ∙ sym h.is) (ap (λ n. n + j) (length-take-le at bytes h.within)) whole

-- the longest front goes on behind the token
pub longest_past_token : (F : List ℕ → List ℕ → Type 0) (bytes : List ℕ) (at : ℕ) (token rest : List ℕ) (k : ℕ) → AreTokens F → TakesSpace F → IsFirstToken bytes at token rest
    → IsLongestFront (F token) rest k → IsLongestFront (IsSpaced F) bytes (at + length token + k)
longest_past_token F bytes at token rest k only takes h front =
    let before : List ℕ = take at bytes in
    let whole = longest_behind (IsSpaced F) (F token) (before ++ token) rest k
    (λ f. rest_front F before token (take k rest) takes h.spaces (apart_take k rest h.apart) f)
    (λ i low high f. of_rest F before token (take i rest) only h.spaces h.is_token (apart_take i rest h.apart) (omega (arith, length-take-le i rest high)) f) front in
    moved (IsSpaced F) bytes ((before ++ token) ++ rest) (at + length token + k) (length (before ++ token) + k) (append_assoc before token rest ∙ sym h.is)
    (ap (λ n. n + k) (length-append before token ∙ ap (λ n. n + length token) (length-take-le at bytes h.within))) whole

-- spaces are a front, where there is some token
pub spaces_front : (F : List ℕ → List ℕ → Type 0) (bytes token : List ℕ) → TakesSpace F → Fits F token → IsSpaces bytes → IsFront (IsSpaced F) bytes
spaces_front F bytes token takes fits spaces =
    subst (λ t. IsFront (IsSpaced F) t) (append-nil bytes) (token_front F bytes [] takes spaces (record { rest = token; text = fits }))

pub longest_spaces : (F : List ℕ → List ℕ → Type 0) (bytes token : List ℕ) → TakesSpace F → Fits F token → IsSpaces bytes → IsLongestFront (IsSpaced F) bytes (length bytes)
longest_spaces F bytes token takes fits spaces = longest_whole (IsSpaced F) bytes (spaces_front F bytes token takes fits spaces)
