-- Longest fronts, read byte by byte.
use Rattle.std.proofs.Common.{◌≡◌, ◌<◌, ◌≤◌, ◌+◌, ◌↔◌, ℕ, inl, inr, List, [], ◌∷◌, ◌++◌, length, take, drop, get_or, take-append-drop, append_assoc, append-nil, sym, ap, ◌∙◌, subst, arith}
use Rattle.std.proofs.lemmas.List.{take-take, take_all, drop_more, get_or-take, length-take-le}
use Rattle.std.proofs.lemmas.Bool.{cases_lt}
use Rattle.ht_text.specs.Fronts.{IsFront, IsLongestFront}

-- behind the bytes read, what completes a text of P is what F holds of
pub record Continues (P F : List ℕ → Type 0) (read : List ℕ) : Type 0 where
  pub same : (rest : List ℕ) → P (read ++ rest) ↔ F rest

-- a longer front begins with one byte more
longer : (bytes : List ℕ) (i j : ℕ) → i < j → j ≤ length bytes → take j bytes ≡ take i bytes ++ get_or bytes i 0 ∷ drop (i + 1) (take j bytes)
longer bytes i j less within =
    let few : length (take j bytes) ≡ j = length-take-le j bytes within in
    sym (take-append-drop i (take j bytes))
    ∙ ap (λ t. t ++ drop i (take j bytes)) (take-take i j bytes (omega arith))
    ∙ ap (λ t. take i bytes ++ t) (drop_more (take j bytes) i 0 (omega arith) ∙ ap (λ b. b ∷ drop (i + 1) (take j bytes)) (get_or-take j bytes i 0 less))

-- fronts are no longer than i, where the byte at i can't stand there
pub no_longer : (P : List ℕ → Type 0) (bytes : List ℕ) (i : ℕ) → (i < length bytes → (rest : List ℕ) → ¬ P (take i bytes ++ get_or bytes i 0 ∷ rest))
    → (j : ℕ) → j ≤ length bytes → IsFront P (take j bytes) → j ≤ i
no_longer P bytes i stops j within h = elim (cases_lt i j) [
  | inr le ↦ le
  | inl lt ↦ absurd (stops (omega arith) (drop (i + 1) (take j bytes) ++ h.rest)
      (subst P (ap (λ t. t ++ h.rest) (longer bytes i j lt within) ∙ append_assoc (take i bytes) (get_or bytes i 0 ∷ drop (i + 1) (take j bytes)) h.rest) h.text))
]

-- the byte at i can't stand there
pub stops_at : (P F : List ℕ → Type 0) (bytes : List ℕ) (i : ℕ) → i < length bytes → Continues P F (take i bytes) → ((rest : List ℕ) → ¬ F (get_or bytes i 0 ∷ rest))
    → (rest : List ℕ) → F rest → IsLongestFront P bytes i
stops_at P F bytes i within h none rest f = record {
  within = omega arith;
  front = record { rest = rest; text = (h.same rest).1 f };
  longest = no_longer P bytes i (λ l more p. none more ((h.same (get_or bytes i 0 ∷ more)).0 p));
}

-- all bytes are a front
pub stops_at_end : (P F : List ℕ → Type 0) (bytes : List ℕ) (i : ℕ) → length bytes ≤ i → Continues P F (take i bytes) → (rest : List ℕ) → F rest → IsLongestFront P bytes (length bytes)
stops_at_end P F bytes i all h rest f =
    let whole : take i bytes ≡ take (length bytes) bytes = take_all i bytes all ∙ sym (take_all (length bytes) bytes (omega arith)) in
    record {
      within = omega arith;
      front = record { rest = rest; text = subst (λ t. P (t ++ rest)) whole ((h.same rest).1 f) };
      longest = λ j within front. within;
    }

-- a text of P stops nowhere
pub goes_on : (P F : List ℕ → Type 0) (bytes : List ℕ) (i : ℕ) → i < length bytes → Continues P F (take i bytes) → P bytes → F (get_or bytes i 0 ∷ drop (i + 1) bytes)
goes_on P F bytes i within h p =
    (h.same (get_or bytes i 0 ∷ drop (i + 1) bytes)).0 (subst P (sym (take-append-drop i bytes) ∙ ap (λ t. take i bytes ++ t) (drop_more bytes i 0 within)) p)

-- bytes are a text of P where nothing has to follow them
pub ends_at : (P F : List ℕ → Type 0) (bytes : List ℕ) (i : ℕ) → length bytes ≤ i → Continues P F (take i bytes) → F [] ↔ P bytes
ends_at P F bytes i all h =
    let whole : take i bytes ++ [] ≡ bytes = append-nil (take i bytes) ∙ take_all i bytes all in
    ((λ f. subst P whole ((h.same []).1 f)), (λ p. (h.same []).0 (subst P (sym whole) p)))
