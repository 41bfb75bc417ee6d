-- Bytes before and after the first of a byte, and behind a prefix.
use Rattle.std.proofs.Common.{◌≡◌, ◌≢◌, ℕ, ◌+◌, List, [], ◌∷◌, ◌++◌, Option, Some, None, MatchOption, Bor, length, take, drop, eqb, true, false, true≢false, refl, sym, ap, ◌∙◌, take-append-drop}
use Rattle.std.specs.Prelude.{All}
use Rattle.std.specs.List.{AllByRecursion}
use Rattle.std.specs.Cmp.Lexicographic.{pointwise, bytes_decides}
use Rattle.std.proofs.Math.Seq.{take-append_seam}
use Rattle.std.proofs.lemmas.List.Elements.{All-append, All-push, All-nil, recursion_from_All}

-- the byte x isn't among the bytes
abbrev pub IsFree : ℕ → List ℕ → Type 0
IsFree x bytes = All (λ b. b ≢ x) bytes

-- one other byte
pub free_one : (x b : ℕ) → b ≢ x → IsFree x (b ∷ [])
free_one x b h = All-push (λ b. b ≢ x) [] b (All-nil (λ b. b ≢ x)) h

-- two lists without the byte
pub free_append : (x : ℕ) (a b : List ℕ) → IsFree x a → IsFree x b → IsFree x (a ++ b)
free_append x a b p q = All-append (λ b. b ≢ x) a b p q

-- `same_cut`, by recursion on the fronts
cut_once : (x : ℕ) (a b c d : List ℕ) → AllByRecursion (λ y. y ≢ x) a → AllByRecursion (λ y. y ≢ x) c → a ++ x ∷ b ≡ c ++ x ∷ d → (a ≡ c) × (b ≡ d)
cut_once x [] b [] d p q e = (refl, cc)
cut_once x [] b (y ∷ c) d p q e = let same : y ≡ x = cc in absurd (q.0 same)
cut_once x (y ∷ a) b [] d p q e = let same : y ≡ x = cc in absurd (p.0 same)
cut_once x (y ∷ a) b (z ∷ c) d p q e =
    let head : y ≡ z = cc in
    let tail : a ++ x ∷ b ≡ c ++ x ∷ d = cc in
    let rest = cut_once x a b c d p.1 q.1 tail in (cc, rest.1)

-- the parts round the first x are the only ones
pub same_cut : (x : ℕ) (a b c d : List ℕ) → IsFree x a → IsFree x c → a ++ x ∷ b ≡ c ++ x ∷ d → (a ≡ c) × (b ≡ d)
same_cut x a b c d p q e = cut_once x a b c d (recursion_from_All (λ y. y ≢ x) a p) (recursion_from_All (λ y. y ≢ x) c q) e

-- `not_cut`, by recursion
not_within : (x : ℕ) (a c d : List ℕ) → AllByRecursion (λ y. y ≢ x) a → a ≢ c ++ x ∷ d
not_within x [] [] d p e = cc
not_within x [] (z ∷ c) d p e = cc
not_within x (y ∷ a) [] d p e = let same : y ≡ x = cc in p.0 same
not_within x (y ∷ a) (z ∷ c) d p e = let tail : a ≡ c ++ x ∷ d = cc in not_within x a c d p.1 tail

-- bytes without x aren't parts round an x
pub not_cut : (x : ℕ) (a c d : List ℕ) → IsFree x a → a ≢ c ++ x ∷ d
not_cut x a c d p e = not_within x a c d (recursion_from_All (λ y. y ≢ x) a p) e

-- what a test for a prefix says
pub prefix_test : (bytes prefix : List ℕ) (r : Option (Bor (List ℕ)))
    → MatchOption r (pointwise eqb (take (length prefix) bytes) prefix ≡ false) (λ x. (pointwise eqb (take (length prefix) bytes) prefix ≡ true) × (x.now ≡ drop (length prefix) bytes) × (length x.now + length prefix ≡ length bytes))
    → MatchOption r ((rest : List ℕ) → bytes ≢ prefix ++ rest) (λ rest. bytes ≡ prefix ++ rest.now)
prefix_test bytes prefix None h =
    let d = bytes_decides (take (length prefix) bytes) prefix in
    λ rest e. true≢false (sym (d.1 (ap (λ t. take (length prefix) t) e ∙ take-append_seam prefix rest)) ∙ h)
prefix_test bytes prefix (Some x) h =
    let d = bytes_decides (take (length prefix) bytes) prefix in
    sym (take-append-drop (length prefix) bytes) ∙ ap (λ t. t ++ drop (length prefix) bytes) (d.0 h.0) ∙ ap (λ t. prefix ++ t) (sym h.1)
