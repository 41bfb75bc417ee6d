-- Fronts of letters that others end with: what one more letter makes of them.
use Rattle.std.proofs.Common.{◌≡◌, ◌≢◌, ℕ, zero, suc, ◌+◌, ◌-◌, ◌≤◌, ◌<◌, inl, inr, List, [], ◌∷◌, ◌++◌, length, take, get_or, refl, sym, ap, ◌∙◌, subst, subst₂, arith, append_assoc, append-nil}
use Rattle.std.proofs.lemmas.Bool.{cases_lt}
use Rattle.std.proofs.lemmas.List.{append_cancel_right, get_or_append_left, get_or_push, length-append, length-take-le, take_more}
use Rattle.ht_word.proofs.Deciding.{same_or_not}
use Rattle.ht_word.proofs.ListLaws.{last_same}
use Rattle.ht_word.proofs.WordLaws.{list_prefixes}
use Rattle.ht_local.specs.Borders.{AreBorders, HoldsFront, IsTail}

-- ---- tails

no_letters : (w : List ℕ) → length w ≡ 0 → w ≡ []
no_letters [] e = refl
no_letters (a ∷ w) e = absurd (omega (arith, e))

pub tail_none : (z : List ℕ) → IsTail [] z
tail_none z = record { front = z; is = sym (append-nil z) }

pub tail_trans : {x y z : List ℕ} → IsTail x y → IsTail y z → IsTail x z
tail_trans {x} {y} {z} s t = record { front = t.front ++ s.front; is = t.is ∙ ap (λ w. t.front ++ w) s.is ∙ sym (append_assoc t.front s.front x) }

-- of two tails the shorter one is a tail of the other
pub tail_within : {x y z : List ℕ} → IsTail x z → IsTail y z → length x ≤ length y → IsTail x y
tail_within {x} {y} {z} s t l = elim (list_prefixes s.front t.front x y (sym s.is ∙ t.is)) [
  | inl h ↦ record { front = h.0; is = h.2 }
  | inr h ↦ (
      let none : h.0 ≡ [] = no_letters h.0 (omega (arith, l, length-append h.0 y, ap (λ (w : List ℕ). length w) h.2)) in
      record { front = []; is = sym (h.2 ∙ ap (λ w. w ++ y) none) }
      )
]

pub tail_length : {x z : List ℕ} → IsTail x z → length x ≤ length z
tail_length {x} {z} t = omega (arith, length-append t.front x, ap (λ (w : List ℕ). length w) t.is)

-- tails with the same letter behind
pub tail_more : {x z : List ℕ} (a : ℕ) → IsTail x z → IsTail (x ++ a ∷ []) (z ++ a ∷ [])
tail_more {x} {z} a t = record { front = t.front; is = ap (λ w. w ++ a ∷ []) t.is ∙ append_assoc t.front x (a ∷ []) }

-- letters behind a tail are those behind the whole
record IsTailBefore (x z : List ℕ) (a b : ℕ) : Type 0 where
  letter : a ≡ b
  tail : IsTail x z

tail_before : {x z : List ℕ} (a b : ℕ) → IsTail (x ++ a ∷ []) (z ++ b ∷ []) → IsTailBefore x z a b
tail_before {x} {z} a b t =
    let e : z ++ b ∷ [] ≡ (t.front ++ x) ++ a ∷ [] = t.is ∙ sym (append_assoc t.front x (a ∷ [])) in
    let same : b ≡ a = last_same z (t.front ++ x) b a e in
    record { letter = sym same; tail = record { front = t.front; is = append_cancel_right z (t.front ++ x) (a ∷ []) (ap (λ c. z ++ c ∷ []) (sym same) ∙ e) } }

-- ---- fronts

take_none : (by : List ℕ) → take 0 by ≡ []
take_none by = refl

pub front_none : (by z : List ℕ) → IsTail (take 0 by) z
front_none by z = tail_none z

-- what is known where no longer front goes on with the letter: from `held` letters on
pub record ShortensTo (by z : List ℕ) (letter most held : ℕ) : Type 0 where
  pub within : held ≤ most
  pub tail : IsTail (take held by) z
  pub longer : (k : ℕ) → held < k → k ≤ most → IsTail (take k by) z → get_or by k 0 ≢ letter

pub shortens_first : (by z : List ℕ) (letter most held : ℕ) → HoldsFront by z most held → ShortensTo by z letter most held
shortens_first by z letter most held h = record { within = h.within; tail = h.tail; longer = λ k l m t. absurd (h.longest k l m t) }

-- the next shorter front, where the one that is held doesn't go on with the letter
pub shortens_next : (by z : List ℕ) (letter most held to : ℕ) → most < length by → ShortensTo by z letter most held → get_or by held 0 ≢ letter
    → HoldsFront by (take held by) (held - 1) to → 1 ≤ held → ShortensTo by z letter most to
shortens_next by z letter most held to l s other border some = record {
  within = omega (arith, border.within, s.within);
  tail = tail_trans border.tail s.tail;
  longer = λ k more few t. elim (cases_lt held k) [
    | inl longer ↦ s.longer k longer few t
    | inr upto ↦ (elim (same_or_not k held) [
      | inl e ↦ subst (λ i. get_or by i 0 ≢ letter) (sym e) other
      | inr n ↦ absurd (border.longest k more (below k held n upto some) (tail_within t s.tail (shorter k upto)))
    ])
  ];
}
  where
    below : (k held : ℕ) → k ≢ held → k ≤ held → 1 ≤ held → k ≤ held - 1
    below k held n u o = omega arith

    shorter : (k : ℕ) → k ≤ held → length (take k by) ≤ length (take held by)
    shorter k u = omega (arith, length-take-le k by (omega (arith, s.within)), length-take-le held by (omega (arith, s.within)))

-- a front that the letters end with once there is one more behind them
front_before : (by z : List ℕ) (letter k : ℕ) → k < length by → IsTail (take (k + 1) by) (z ++ letter ∷ []) → IsTailBefore (take k by) z (get_or by k 0) letter
front_before by z letter k l t = tail_before (get_or by k 0) letter (subst (λ x. IsTail x (z ++ letter ∷ [])) (take_more by k 0 l) t)

one_less : (k : ℕ) → 1 ≤ k → (j : ℕ) × (k ≡ j + 1)
one_less zero l = absurd (omega arith)
one_less (suc k) l = (k, omega arith)

-- the front that is held goes on with the letter
pub goes_on : (by z : List ℕ) (letter most held : ℕ) → most < length by → ShortensTo by z letter most held → get_or by held 0 ≡ letter → HoldsFront by (z ++ letter ∷ []) (most + 1) (held + 1)
goes_on by z letter most held l s same = record {
  within = omega (arith, s.within);
  tail = subst₂ (λ x a. IsTail x (z ++ a ∷ [])) (sym (take_more by held 0 (omega (arith, s.within)))) same (tail_more (get_or by held 0) s.tail);
  longest = λ k more few t.
      let j = one_less k (omega arith) in
      let b = front_before by z letter j.0 (omega (arith, j.1)) (subst (λ i. IsTail (take i by) (z ++ letter ∷ [])) j.1 t) in
      s.longer j.0 (omega (arith, j.1)) (omega (arith, j.1)) b.tail b.letter;
}

-- no front does
pub goes_nowhere : (by z : List ℕ) (letter most : ℕ) → most < length by → ShortensTo by z letter most 0 → get_or by 0 0 ≢ letter → HoldsFront by (z ++ letter ∷ []) (most + 1) 0
goes_nowhere by z letter most l s other = record {
  within = omega arith;
  tail = front_none by (z ++ letter ∷ []);
  longest = λ k more few t.
      let j = one_less k (omega arith) in
      let b = front_before by z letter j.0 (omega (arith, j.1)) (subst (λ i. IsTail (take i by) (z ++ letter ∷ [])) j.1 t) in
      elim (cases_lt 0 j.0) [
        | inl some ↦ s.longer j.0 some (omega (arith, j.1)) b.tail b.letter
        | inr none ↦ (let e : j.0 ≡ 0 = omega arith in other (ap (λ i. get_or by i 0) (sym e) ∙ b.letter))
      ];
}

-- ---- tables

pub fewer_borders : (by table : List ℕ) (count few : ℕ) → few ≤ count → AreBorders by table count → AreBorders by table few
fewer_borders by table count few l b = record { as_many = omega (arith, b.as_many); each = λ place less. b.each place (omega arith) }

-- all of `by` held, but for all of it
pub all_shortened : (by z : List ℕ) (to : ℕ) → 1 ≤ length by → HoldsFront by z (length by) (length by) → HoldsFront by (take (length by) by) (length by - 1) to → HoldsFront by z (length by - 1) to
all_shortened by z to some h border = record {
  within = border.within;
  tail = tail_trans border.tail h.tail;
  longest = λ k more few t. border.longest k more few (tail_within t h.tail (omega (arith, length-take-le k by (omega arith), length-take-le (length by) by (omega arith))));
}

pub less_shortened : (by z : List ℕ) (held : ℕ) → held ≤ length by → held ≢ length by → HoldsFront by z (length by) held → HoldsFront by z (length by - 1) held
less_shortened by z held l other h = record { within = below held (length by) l other; tail = h.tail; longest = λ k more few. h.longest k more (omega arith) }
  where
    below : (k n : ℕ) → k ≤ n → k ≢ n → k ≤ n - 1
    below k n l o = omega arith

-- fewer than one letter: none
pub none_shorter : (by z : List ℕ) → HoldsFront by z 0 0
none_shorter by z = record { within = omega arith; tail = front_none by z; longest = λ k more few. absurd (omega arith) }

-- the table of one letter
pub borders_begun : (by : List ℕ) → AreBorders by (0 ∷ []) 1
borders_begun by = record {
  as_many = omega arith;
  each = λ place less. subst (λ i. HoldsFront by (take (i + 1) by) i (get_or (0 ∷ []) i 0)) (let e : 0 ≡ place = omega arith in e) (none_shorter by (take 1 by));
}

-- no letters end with none
pub none_held : (by : List ℕ) → HoldsFront by [] (length by) 0
none_held by = record { within = omega arith; tail = front_none by []; longest = λ k more few t. absurd (omega (arith, tail_length t, length-take-le k by few)) }

-- a table with one more place, and the front that is held there
pub record AreMoreBorders (by table : List ℕ) (count held : ℕ) : Type 0 where
  pub borders : AreBorders by table count
  pub front : HoldsFront by (take count by) (count - 1) held

pub borders_more : (by table : List ℕ) (count held to : ℕ) → 1 ≤ count → count < length by → length table ≡ count → AreBorders by table count → HoldsFront by (take count by) (count - 1) held
    → ((z : List ℕ) (most : ℕ) → most < length by → HoldsFront by z most held → HoldsFront by (z ++ get_or by count 0 ∷ []) (most + 1) to) → AreMoreBorders by (table ++ to ∷ []) (count + 1) to
borders_more by table count held to some within many borders front next =
    let here : HoldsFront by (take (count + 1) by) count to = subst₂ (λ z k. HoldsFront by z k to) (sym (take_more by count 0 within)) (back count some) (next (take count by) (count - 1) (omega arith) front) in
    record {
      borders = record {
        as_many = omega (arith, many, length-append table (to ∷ []));
        each = λ place less. elim (cases_lt place count) [
          | inl early ↦ subst (HoldsFront by (take (place + 1) by) place) (sym (get_or_append_left table (to ∷ []) 0 place (omega (arith, many)))) (borders.each place early)
          | inr late ↦ (let e : count ≡ place = omega arith in
              subst (λ i. HoldsFront by (take (i + 1) by) i (get_or (table ++ to ∷ []) i 0)) e (subst (HoldsFront by (take (count + 1) by) count) (sym (get_or_push table to 0 count many)) here))
        ];
      };
      front = subst (λ k. HoldsFront by (take (count + 1) by) k to) (let e : count ≡ count + 1 - 1 = omega arith in e) here;
    }
  where
    back : (k : ℕ) → 1 ≤ k → k - 1 + 1 ≡ k
    back k l = omega arith

-- the table of a place before a count, for a place that is given from 1
pub border_at : (by table : List ℕ) (count held : ℕ) → 1 ≤ held → held ≤ count → AreBorders by table count → HoldsFront by (take held by) (held - 1) (get_or table (held - 1) 0)
border_at by table count held some within b = subst (λ i. HoldsFront by (take i by) (held - 1) (get_or table (held - 1) 0)) (back held some) (b.each (held - 1) (omega arith))
  where
    back : (k : ℕ) → 1 ≤ k → k - 1 + 1 ≡ k
    back k l = omega arith
