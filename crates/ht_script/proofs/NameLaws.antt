-- Names of elements and of files, and the bytes that some such name begins with.
use Rattle.std.proofs.Common.{◌≡◌, ◌<◌, ◌≤◌, ◌+◌, ℕ, zero, suc, List, [], ◌∷◌, ◌++◌, length, take, min, All, refl, sym, subst, arith, append-nil, length-append}
use Rattle.std.proofs.lemmas.List.{length-take-le, take-take}
use Rattle.std.proofs.lemmas.List.Elements.{All-nil}
use Rattle.ht_text.specs.Fronts.{IsFront, IsLongestFront}
use Rattle.ht_script.specs.Tokens.{IsSpan}
use Rattle.ht_script.specs.Names.{IsBounded, IsName, IsNameStart, IsNameByte, IsFileName, IsFileStart, IsFileByte}
use Rattle.ht_script.proofs.FrontLaws.{longest_whole, longest_behind, longest_stops, longest_span}

-- what may stand behind the first byte of a name
pub record IsEnd (Byte : ℕ → Type 0) (most : ℕ) (bytes : List ℕ) : Type 0 where
  pub short : length bytes ≤ most
  pub are_bytes : All Byte bytes

-- the name of one byte
pub one_byte : (Start Byte : ℕ → Type 0) (most b : ℕ) → Start b → IsBounded Start Byte most (b ∷ [])
one_byte Start Byte most b h = record { first = b; others = []; is = refl; short = omega arith; is_start = h; are_bytes = All-nil Byte }

pub start_a : IsNameStart 97
start_a = (omega arith, omega arith, λ e. absurd (omega arith))

pub name_a : IsName (97 ∷ [])
name_a = one_byte IsNameStart IsNameByte 31 97 start_a

pub file_start_a : IsFileStart 97
file_start_a = grind arith

pub file_a : IsFileName (97 ∷ [])
file_a = one_byte IsFileStart IsFileByte 63 97 file_start_a

no_bytes : (P : List ℕ → Type 0) (b : ℕ) → P (b ∷ []) → IsLongestFront P [] 0
no_bytes P b h = longest_whole P [] (record { rest = b ∷ []; text = h })

pub front_of_none : (P : List ℕ → Type 0) (b : ℕ) (bytes : List ℕ) → P (b ∷ []) → length bytes ≡ 0 → IsLongestFront P bytes 0
front_of_none P b [] h e = no_bytes P b h
front_of_none P b (c ∷ bytes) h e = absurd (omega arith)

-- a name begins with a start
starts : (Start Byte : ℕ → Type 0) (most first : ℕ) (others : List ℕ) → IsBounded Start Byte most (first ∷ others) → Start first
starts Start Byte most first others h = let whole = h.is in let e : h.first ≡ first = cc in subst Start e h.is_start

ends : (Start Byte : ℕ → Type 0) (most first : ℕ) (others : List ℕ) → IsBounded Start Byte most (first ∷ others) → IsEnd Byte most others
ends Start Byte most first others h =
    let whole = h.is in
    let e : h.others ≡ others = cc in
    subst (IsEnd Byte most) e (record { short = h.short; are_bytes = h.are_bytes })

not_within : (Start Byte : ℕ → Type 0) (most first : ℕ) (others : List ℕ) (i : ℕ) → ¬ Start first → 0 < i → ¬ IsFront (IsBounded Start Byte most) (take i (first ∷ others))
not_within Start Byte most first others zero other low f = absurd (omega arith)
not_within Start Byte most first others (suc i) other low f = other (starts Start Byte most first (take i others ++ f.rest) f.text)

pub front_of_other : (Start Byte : ℕ → Type 0) (most b : ℕ) (bytes : List ℕ) (first : ℕ) (others : List ℕ) → Start b → bytes ≡ first ∷ others → ¬ Start first → IsLongestFront (IsBounded Start Byte most) bytes 0
front_of_other Start Byte most b bytes first others h e other =
    subst (λ t. IsLongestFront (IsBounded Start Byte most) t 0) (sym e)
    (longest_stops (IsBounded Start Byte most) [] (first ∷ others) 0 (no_bytes (IsBounded Start Byte most) b (one_byte Start Byte most b h)) (λ i low high f. not_within Start Byte most first others i other low f))

fewer : (Byte : ℕ → Type 0) (most : ℕ) (others rest : List ℕ) (j : ℕ) → j ≤ length others → IsEnd Byte most (take j others ++ rest) → j ≤ most
fewer Byte most others rest j l h = omega (arith, h.short, length-append (take j others) rest, length-take-le j others l)

longest_end : (Byte : ℕ → Type 0) (limit : ℕ) (others : List ℕ) (within k : ℕ) → within ≤ length others → within ≤ limit → ((j : ℕ) → j ≤ length others → j ≤ limit → j ≤ within) → IsSpan Byte (take within others) k
    → IsLongestFront (IsEnd Byte limit) others k
longest_end Byte limit others within k long short most h =
    let len : length (take within others) ≡ within = length-take-le within others long in
    let inside : k ≤ length (take within others) = h.within in
    let bytes = longest_span Byte (take within others) k h in
    record {
      within = omega arith;
      front = record {
        rest = [];
        text = subst (IsEnd Byte limit) (sym (append-nil (take k others))) (record {
          short = omega (arith, length-take-le k others (omega arith));
          are_bytes = subst (λ t. All Byte t) (take-take k within others (omega arith)) h.passes;
        });
      };
      longest = λ j l f.
          let low : j ≤ within = most j l (fewer Byte limit others f.rest j l f.text) in
          bytes.longest j (subst (λ n. j ≤ n) (sym len) low) (record { rest = f.rest; text = subst (λ t. All Byte (t ++ f.rest)) (sym (take-take j within others low)) f.text.are_bytes });
    }

-- a start and as many bytes behind it as may stand there
pub front_of_name : (Start Byte : ℕ → Type 0) (limit : ℕ) (bytes : List ℕ) (first : ℕ) (others : List ℕ) (within k : ℕ) → bytes ≡ first ∷ others → Start first → within ≡ min (length others) limit
    → IsSpan Byte (take within others) k → IsLongestFront (IsBounded Start Byte limit) bytes (1 + k)
front_of_name Start Byte limit bytes first others within k e start few h =
    let end = longest_end Byte limit others within k (omega arith) (omega arith) (λ j l s. omega arith) h in
    subst (λ t. IsLongestFront (IsBounded Start Byte limit) t (1 + k)) (sym e)
    (longest_behind (IsBounded Start Byte limit) (IsEnd Byte limit) (first ∷ []) others k
    (λ f. record { rest = f.rest; text = record { first = first; others = take k others ++ f.rest; is = refl; short = f.text.short; is_start = start; are_bytes = f.text.are_bytes } })
    (λ i low high f. record { rest = f.rest; text = ends Start Byte limit first (take i others ++ f.rest) f.text }) end)
