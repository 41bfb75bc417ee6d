-- Whole lists of words: where they have fewer than 2^64 words, some word has room.
use Rattle.std.proofs.Common.{◌≡◌, ℕ, suc, ◌+◌, ◌-◌, ◌^◌, ◌≤◌, ◌<◌, inl, inr, List, [], ◌∷◌, ◌++◌, length, take, drop, Option, Some, None, refl, sym, ap, ◌∙◌, subst, arith, All, take-append-drop, get_or, unwrap_or, Contains}
use Rattle.std.proofs.Math.Nat.{two-pow-succ}
use Rattle.std.proofs.lemmas.Bool.{cases_lt, lt-ltb, ltb-false, ltb-true}
use Rattle.std.proofs.lemmas.Option.{none-some}
use Rattle.std.proofs.lemmas.List.{get_or-drop, get_or-take, length-take, length-drop, take_all}
use Rattle.std.proofs.lemmas.List.Elements.{All-nil, All-cons, All-append, All-contains, All-from_get_or, Contains-append_left, Contains-append_right}
use Rattle.std.proofs.lemmas.List.Quantifiers.{position-Some}
use Rattle.std.proofs.lemmas.List.Sums.{sum_by-append, sum_by-cons, sum_by-le, fails_before_first}
use Rattle.std.specs.List.{position, position_or_len}
use Rattle.std.specs.Option.{option_map, option_or}
use Rattle.ht_word.specs.Words.{child, root_word}
use Rattle.ht_word.specs.declared.word.Word.{Word}
use Rattle.ht_word.proofs.ListLaws.{Contains-there}
use Rattle.ht_word.proofs.WordLaws.{length-after, All-from_contains}
use Rattle.ht_sample.specs.Rooms.{has_room, room_from, full_under, IsWhole}

-- w lacks no letter
abbrev IsFull : Word → Type 0
IsFull w = 64 ≤ length w.letters

-- w has as many letters as there is room for, at most
abbrev pub IsShort : Word → Type 0
IsShort w = length w.letters ≤ 64

-- a list in which no place is found has full words alone
all_full : (X : List Word) → position has_room X ≡ None → All IsFull X
all_full X none = elim (cases_lt (position_or_len has_room X) (length X)) [
  | inl l ↦ absurd (none-some (position_or_len has_room X) (sym none ∙ found X l))
  | inr l ↦ All-from_get_or IsFull X (root_word 1) (λ i m. ltb-false (length (get_or X i (root_word 1)).letters) 64 (fails_before_first has_room X i (root_word 1) (omega arith)))
]
  where
    found : (X : List Word) → position_or_len has_room X < length X → position has_room X ≡ Some (position_or_len has_room X)
    found X l = rw (lt-ltb (position_or_len has_room X) (length X) l) refl

-- of two searches that find nothing each finds nothing
both_none : (f : ℕ → ℕ) (p q : Option ℕ) → option_or (option_map f p) q ≡ None → (p ≡ None) × (q ≡ None)
both_none f None q h = (refl, h)
both_none f (Some k) q h = absurd (none-some (f k) (sym h))

full_alone : (w : Word) → IsFull w → full_under w ≤ 1
unfolding full_under
full_alone w full = let none : 64 - length w.letters ≡ 0 = omega arith in omega (arith, ap (λ k. 2 ^ k) none)

-- a whole list with fewer than 2^64 words has a word with room, from each place on
pub room_found : (X : List Word) (p : ℕ) → IsWhole X → length X < 2 ^ 64 → room_from X p ≡ None → ⊥
unfolding room_from
room_found X p whole few none =
    let none_of = both_none (λ k. p + k) (position has_room (drop p X)) (position has_room (take p X)) none in
    let full : All IsFull X = subst (All IsFull) (take-append-drop p X) (All-append IsFull (take p X) (drop p X) (all_full (take p X) none_of.1) (all_full (drop p X) none_of.0)) in
    let low : All (λ w. full_under w ≤ 1) X = All-from_contains (λ w. full_under w ≤ 1) X (λ w c. full_alone w (All-contains IsFull X w full c)) in
    omega (arith, whole.full, sum_by-le full_under 1 X low)

some_same : {i j : ℕ} → Some i ≡ Some j → i ≡ j
some_same h = ap (λ (o : Option ℕ). unwrap_or o 0) h

-- the place that is found is one of the list, and its word has room
pub record IsRoom (X : List Word) (place : ℕ) : Type 0 where
  pub within : place < length X
  pub room : (d : Word) → length (get_or X place d).letters < 64

pub room_is : (X : List Word) (p place : ℕ) → room_from X p ≡ Some place → IsRoom X place
unfolding room_from
room_is X p place h = by (position has_room (drop p X)) (position has_room (take p X)) refl refl h
  where
    by : (o q : Option ℕ) → position has_room (drop p X) ≡ o → position has_room (take p X) ≡ q → option_or (option_map (λ k. p + k) o) q ≡ Some place → IsRoom X place
    by (Some k) q e f h =
        let s = position-Some has_room (drop p X) k (root_word 1) e in
        let is : p + k ≡ place = some_same h in
        record {
          within = omega (arith, s.0, length-drop p X, is);
          room = λ d. subst (λ i. length (get_or X i d).letters < 64) is (subst (λ (w : Word). length w.letters < 64) (get_or-drop p X k d) (ltb-true (length (get_or (drop p X) k d).letters) 64 ((position-Some has_room (drop p X) k d e).1)));
        }
    by None (Some k) e f h =
        let s = position-Some has_room (take p X) k (root_word 1) f in
        let is : k ≡ place = some_same h in
        let front : k < p = omega (arith, s.0, length-take p X) in
        record {
          within = omega (arith, s.0, length-take p X, is);
          room = λ d. subst (λ i. length (get_or X i d).letters < 64) is (subst (λ (w : Word). length w.letters < 64) (get_or-take p X k d front) (ltb-true (length (get_or (take p X) k d).letters) 64 ((position-Some has_room (take p X) k d f).1)));
        }
    by None None e f h = absurd (none-some place h)

-- the two searches of which the place is made
pub room_behind : (X : List Word) (p k : ℕ) → Some k ≡ position has_room (take (length X - p) (drop p X)) → Some (p + k) ≡ room_from X p
unfolding room_from
room_behind X p k h =
    let found = h ∙ ap (λ (Y : List Word). position has_room Y) (take_all (length X - p) (drop p X) (omega (arith, length-drop p X))) in
    ap (λ (o : Option ℕ). option_or (option_map (λ i. p + i) o) (position has_room (take p X))) found

pub room_before : (X : List Word) (p : ℕ) (o : Option ℕ) → None ≡ position has_room (take (length X - p) (drop p X)) → o ≡ position has_room (take p X) → o ≡ room_from X p
unfolding room_from
room_before X p o h g =
    let found = h ∙ ap (λ (Y : List Word). position has_room Y) (take_all (length X - p) (drop p X) (omega (arith, length-drop p X))) in
    g ∙ ap (λ (q : Option ℕ). option_or (option_map (λ i. p + i) q) (position has_room (take p X))) found

-- the words of 64 letters under a word with room are those under its children
children_full : (x : Word) → length x.letters < 64 → full_under (child x 1) + full_under (child x 2) ≡ full_under x
unfolding full_under
children_full x room = halves (length x.letters) (length (child x 1).letters) (length (child x 2).letters) room (length-after x (1 ∷ [])) (length-after x (2 ∷ []))
  where
    halves : (k i j : ℕ) → k < 64 → i ≡ k + 1 → j ≡ k + 1 → 2 ^ (64 - i) + 2 ^ (64 - j) ≡ 2 ^ (64 - k)
    halves k i j l e f =
        let next : 64 - k ≡ suc (64 - i) = omega arith in
        let same : 64 - j ≡ 64 - i = omega arith in
        ap (λ m. 2 ^ (64 - i) + 2 ^ m) same ∙ sym (two-pow-succ (64 - i)) ∙ ap (λ m. 2 ^ m) (sym next)

-- a whole list one of whose words, with room, gives way to its children is whole
pub whole_expanded : (A B : List Word) (x : Word) → length x.letters < 64 → IsWhole (A ++ x ∷ B) → IsWhole (A ++ child x 1 ∷ child x 2 ∷ B)
whole_expanded A B x room whole =
    let short : (w : Word) → Contains (A ++ x ∷ B) w → length w.letters ≤ 64 = λ w c. All-contains IsShort (A ++ x ∷ B) w whole.short c in
    record {
      short = All-append IsShort A (child x 1 ∷ child x 2 ∷ B)
          (All-from_contains IsShort A (λ w c. short w (Contains-append_left A (x ∷ B) w c)))
          (All-cons IsShort (child x 1) (child x 2 ∷ B) (omega (arith, length-after x (1 ∷ [])))
          (All-cons IsShort (child x 2) B (omega (arith, length-after x (2 ∷ []))) (All-from_contains IsShort B (λ w c. short w (Contains-append_right A (x ∷ B) w (Contains-there x B w c))))));
      full = omega (arith, whole.full, children_full x room, sum_by-append full_under A (x ∷ B), sum_by-cons full_under x B, sum_by-append full_under A (child x 1 ∷ child x 2 ∷ B), sum_by-cons full_under (child x 1) (child x 2 ∷ B), sum_by-cons full_under (child x 2) B);
    }

-- a root alone is whole
pub whole_root : (k : ℕ) → IsWhole (root_word k ∷ [])
unfolding full_under
whole_root k = record { short = All-cons IsShort (root_word k) [] (omega arith) (All-nil IsShort); full = refl }
