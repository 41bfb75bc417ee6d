-- Longest fronts, put together.
use Rattle.std.proofs.Common.{◌≡◌, ◌≢◌, ◌<◌, ◌≤◌, ◌+◌, ◌-◌, ℕ, max, ◌⊎◌, inl, inr, List, [], ◌++◌, length, take, drop, get_or, All, sym, ap, ◌∙◌, subst, arith, append-nil, length-append, take-append-drop}
use Rattle.std.proofs.Math.Seq.{take-append-add, take-length}
use Rattle.std.proofs.lemmas.Bool.{cases_lt}
use Rattle.std.proofs.lemmas.List.{take-append-le, get_or_append_left, get_or-take, length-take-le}
use Rattle.ht_text.specs.Fronts.{IsFront, IsLongestFront}
use Rattle.ht_script.specs.Tokens.{IsSpan}

-- a front of one kind of texts is one of another
pub front_map : (P Q : List ℕ → Type 0) (bytes : List ℕ) → ((t : List ℕ) → P t → Q t) → IsFront P bytes → IsFront Q bytes
front_map P Q bytes f h = record { rest = h.rest; text = f (bytes ++ h.rest) h.text }

pub longest_same : (P Q : List ℕ → Type 0) (bytes : List ℕ) (k : ℕ) → ((t : List ℕ) → P t → Q t) → ((t : List ℕ) → Q t → P t) → IsLongestFront P bytes k → IsLongestFront Q bytes k
longest_same P Q bytes k f g h = record {
  within = h.within;
  front = front_map P Q (take k bytes) f h.front;
  longest = λ j l front. h.longest j l (front_map Q P (take j bytes) g front);
}

-- two kinds of texts that have the same fronts of the bytes
pub longest_alike : (P Q : List ℕ → Type 0) (bytes : List ℕ) (k : ℕ) → ((j : ℕ) → j ≤ length bytes → IsFront P (take j bytes) → IsFront Q (take j bytes))
    → ((j : ℕ) → j ≤ length bytes → IsFront Q (take j bytes) → IsFront P (take j bytes)) → IsLongestFront P bytes k → IsLongestFront Q bytes k
longest_alike P Q bytes k f g h = record {
  within = h.within;
  front = f k h.within h.front;
  longest = λ j l front. h.longest j l (g j l front);
}

-- texts of one kind or another
pub longest_either : (P Q : List ℕ → Type 0) (bytes : List ℕ) (k l : ℕ) → IsLongestFront P bytes k → IsLongestFront Q bytes l → IsLongestFront (λ t. P t ⊎ Q t) bytes (max k l)
longest_either P Q bytes k l g h = elim (cases_lt k l) [
  | inl less ↦ (let most : l ≡ max k l = omega arith in subst (λ n. IsLongestFront (λ t. P t ⊎ Q t) bytes n) most (record {
    within = h.within;
    front = front_map Q (λ t. P t ⊎ Q t) (take l bytes) (λ t q. inr q) h.front;
    longest = λ j low f. elim f.text [
      | inl p ↦ (let few = g.longest j low (record { rest = f.rest; text = p }) in omega arith)
      | inr q ↦ h.longest j low (record { rest = f.rest; text = q })
    ];
  }))
  | inr more ↦ (let most : k ≡ max k l = omega arith in subst (λ n. IsLongestFront (λ t. P t ⊎ Q t) bytes n) most (record {
    within = g.within;
    front = front_map P (λ t. P t ⊎ Q t) (take k bytes) (λ t p. inl p) g.front;
    longest = λ j low f. elim f.text [
      | inl p ↦ g.longest j low (record { rest = f.rest; text = p })
      | inr q ↦ (let few = h.longest j low (record { rest = f.rest; text = q }) in omega arith)
    ];
  }))
]

-- bytes that are a front as a whole
pub longest_whole : (P : List ℕ → Type 0) (bytes : List ℕ) → IsFront P bytes → IsLongestFront P bytes (length bytes)
longest_whole P bytes h = record {
  within = omega arith;
  front = subst (λ t. IsFront P t) (sym (take-length bytes)) h;
  longest = λ j l front. l;
}

-- the same bytes and the same number
pub moved : (P : List ℕ → Type 0) (bytes other : List ℕ) (k l : ℕ) → other ≡ bytes → l ≡ k → IsLongestFront P other l → IsLongestFront P bytes k
moved P bytes other k l e f h = subst (λ n. IsLongestFront P bytes n) f (subst (λ t. IsLongestFront P t l) e h)

past : (P Q : List ℕ → Type 0) (pre rest : List ℕ) (k : ℕ) → ((i : ℕ) → 0 < i → i ≤ length rest → IsFront P (pre ++ take i rest) → IsFront Q (take i rest)) → IsLongestFront Q rest k
    → (j : ℕ) → length pre < j → j ≤ length (pre ++ rest) → IsFront P (take j (pre ++ rest)) → j ≤ length pre + k
past P Q pre rest k back h j above within f =
    let len : length (pre ++ rest) ≡ length pre + length rest = length-append pre rest in
    let split : length pre + (j - length pre) ≡ j = omega arith in
    let cut : take j (pre ++ rest) ≡ pre ++ take (j - length pre) rest = ap (λ (n : ℕ). take n (pre ++ rest)) (sym split) ∙ take-append-add pre rest (j - length pre) in
    let most : j - length pre ≤ k = h.longest (j - length pre) (omega arith) (back (j - length pre) (omega arith) (omega arith) (subst (λ t. IsFront P t) cut f)) in
    omega arith

-- behind what can only stand first, the longest front is that of what may follow
pub longest_behind : (P Q : List ℕ → Type 0) (pre rest : List ℕ) (k : ℕ) → (IsFront Q (take k rest) → IsFront P (pre ++ take k rest))
    → ((i : ℕ) → 0 < i → i ≤ length rest → IsFront P (pre ++ take i rest) → IsFront Q (take i rest)) → IsLongestFront Q rest k → IsLongestFront P (pre ++ rest) (length pre + k)
longest_behind P Q pre rest k forth back h = record {
  within = omega (arith, length-append pre rest, h.within);
  front = subst (λ t. IsFront P t) (sym (take-append-add pre rest k)) (forth h.front);
  longest = λ j l f. elim (cases_lt (length pre) j) [
    | inl above ↦ past P Q pre rest k back h j above l f
    | inr below ↦ omega arith
  ];
}

-- more bytes that no front has change nothing
pub longest_stops : (P : List ℕ → Type 0) (a rest : List ℕ) (k : ℕ) → IsLongestFront P a k → ((i : ℕ) → 0 < i → i ≤ length rest → ¬ IsFront P (a ++ take i rest)) → IsLongestFront P (a ++ rest) k
longest_stops P a rest k h stops = record {
  within = omega (arith, length-append a rest, h.within);
  front = subst (λ t. IsFront P t) (sym (take-append-le k a rest h.within)) h.front;
  longest = λ j l f. elim (cases_lt (length a) j) [
    | inl above ↦ absurd (stopped j above l f)
    | inr below ↦ h.longest j below (subst (λ t. IsFront P t) (take-append-le j a rest below) f)
  ];
}
  where
    stopped : (j : ℕ) → length a < j → j ≤ length (a ++ rest) → ¬ IsFront P (take j (a ++ rest))
    stopped j above within f =
        let len : length (a ++ rest) ≡ length a + length rest = length-append a rest in
        let split : length a + (j - length a) ≡ j = omega arith in
        let cut : take j (a ++ rest) ≡ a ++ take (j - length a) rest = ap (λ (n : ℕ). take n (a ++ rest)) (sym split) ∙ take-append-add a rest (j - length a) in
        stops (j - length a) (omega arith) (omega arith) (subst (λ t. IsFront P t) cut f)

-- an element of a front of the bytes
front_at : (bytes rest : List ℕ) (j k : ℕ) → j ≤ length bytes → k < j → get_or (take j bytes ++ rest) k 0 ≡ get_or bytes k 0
front_at bytes rest j k within below =
    let len : length (take j bytes) ≡ j = length-take-le j bytes within in
    get_or_append_left (take j bytes) rest 0 k (omega arith) ∙ get_or-take j bytes k 0 below

-- bytes that have P, as many as there are
pub longest_span : (P : ℕ → Type 0) (bytes : List ℕ) (k : ℕ) → IsSpan P bytes k → IsLongestFront (λ t. All P t) bytes k
longest_span P bytes k h = record {
  within = h.within;
  front = record { rest = []; text = subst (λ t. All P t) (sym (append-nil (take k bytes))) h.passes };
  longest = λ j l f. elim (cases_lt k j) [
    | inl above ↦ absurd (h.stops (omega arith) (subst P (front_at bytes f.rest j k l above) (f.text k 0 (inside j l f.rest above))))
    | inr below ↦ below
  ];
}
  where
    inside : (j : ℕ) → j ≤ length bytes → (rest : List ℕ) → k < j → k < length (take j bytes ++ rest)
    inside j l rest above = omega (arith, length-take-le j bytes l, length-append (take j bytes) rest)

-- a text and bytes that begin alike, and not further
pub longest_text : (text bytes : List ℕ) (k : ℕ) → k ≤ length text → k ≤ length bytes → take k bytes ≡ take k text → (k < length text → k < length bytes → get_or bytes k 0 ≢ get_or text k 0)
    → IsLongestFront (λ t. t ≡ text) bytes k
longest_text text bytes k in_text in_bytes same stops = record {
  within = in_bytes;
  front = record { rest = drop k text; text = ap (λ t. t ++ drop k text) same ∙ take-append-drop k text };
  longest = λ j l f. elim (cases_lt k j) [
    | inl above ↦ absurd (stops (inside j l f.rest above f.text) (omega arith) (sym (front_at bytes f.rest j k l above) ∙ ap (λ t. get_or t k 0) f.text))
    | inr below ↦ below
  ];
}
  where
    inside : (j : ℕ) → j ≤ length bytes → (rest : List ℕ) → k < j → take j bytes ++ rest ≡ text → k < length text
    inside j l rest above e = omega (arith, length-take-le j bytes l, length-append (take j bytes) rest, ap (λ (t : List ℕ). length t) e)
