-- Each value list is followed by one by each power: its entries are the shortest lists of letters that are replaced by a word, whatever comes behind
-- them.
use Rattle.std.proofs.Common.{◌≡◌, ℕ, zero, suc, ◌≤◌, ◌<◌, ◌⊎◌, inl, inr, List, [], ◌∷◌, ◌++◌, length, take, drop, refl, sym, ap, ◌∙◌, subst, arith, ◌↔◌, ◌+◌, ℤ, AllPairs, Contains, append_assoc, append-nil, take-append-drop}
use Rattle.std.proofs.lemmas.Bool.{cases_lt}
use Rattle.std.proofs.lemmas.List.{length-append, length-take, length-drop}
use Rattle.std.proofs.lemmas.List.Elements.{All-nil, All-cons, All-head, All-tail, Contains-append_cases, Contains-append_left, Contains-append_right}
use Rattle.std.specs.Cmp.Lexicographic.{slice_cmp}
use Rattle.std.specs.Ordering.{nat_cmp}
use Rattle.std.specs.declared.cmp.Ordering.TheVariants.{Less}
use Rattle.ht_word.specs.Words.{◌·◌, child, root_word, IsLetter, IsLetters, IsWordOf, IsUnder, IsUnderSome}
use Rattle.ht_word.specs.declared.shape.Shape.{Shape}
use Rattle.ht_word.specs.declared.word.Word.{Word}
use Rattle.ht_word.proofs.Deciding.{same_or_not, same_word_or_not, ends_with_or_not}
use Rattle.ht_word.proofs.ListLaws.{Contains-nil, Contains-here, Contains-cons_cases, Contains-map, contained_in_map, AllPairs-nil, AllPairs-cons, AllPairs-append, AllPairs-map, AllPairs-weaker}
use Rattle.ht_word.proofs.WordLaws.{word_eq, after-append, after-nil, after_cancel_right, under_after, under_trans, length-after, letters_append, letters_front, letters_back, word_after, word_front, ones, length-ones, ones_letters, All-from_contains}
use Rattle.ht_pair.specs.Bases.{AreApart}
use Rattle.ht_pair.specs.Images.{Entry, words_behind, IsImage}
use Rattle.ht_pair.specs.Pairs.{IsPair}
use Rattle.ht_pair.specs.Steps.{Steps}
use Rattle.ht_pair.specs.ValueLists.{IsValueList, Sends, IsFollowed}
use Rattle.ht_pair.specs.declared.row.Row.{Row}
use Rattle.ht_pair.proofs.BasisLaws.{some_at, covers_from}
use Rattle.ht_pair.proofs.ConeOrder.{IsBefore, before_less, before_apart, before_extended, child_before}
use Rattle.ht_pair.proofs.Sequences.{equal_parts}
use Rattle.ht_pair.proofs.StepsLaws.{steps_map}
use Rattle.ht_pair.proofs.ValueListLaws.{root_one, sends_single, sends_extends, sends_word, sends_some, reach_of, cone_of, cone_value, followed_image}
use Rattle.ht_types.proofs.ExitLaws.{one_letter}

-- F sends each long enough list of letters to one word, and what follows stays
record IsSending (shape : Shape) (F : List ℕ → Word → Type 0) : Type 0 where
  extends : (t : List ℕ) (w : Word) (z : List ℕ) → F t w → F (t ++ z) (w · z)
  single : (t : List ℕ) (w w' : Word) → IsLetters shape t → F t w → F t w' → w ≡ w'
  word : (t : List ℕ) (w : Word) → IsLetters shape t → F t w → IsWordOf shape w
  bound : ℕ
  total : (t : List ℕ) → IsLetters shape t → bound ≤ length t → (w : Word) × F t w

-- F replaces the letters z by the word w
record Replaces (shape : Shape) (F : List ℕ → Word → Type 0) (z : List ℕ) (w : Word) : Type 0 where
  letters : IsLetters shape z
  by : (y : List ℕ) (x : Word) → IsLetters shape y → F (z ++ y) x → x ≡ w · y

-- ---- what is replaced

-- by one word
replaced_once : (shape : Shape) (F : List ℕ → Word → Type 0) → IsSending shape F → (z : List ℕ) (w v : Word) → Replaces shape F z w → Replaces shape F z v → w ≡ v
replaced_once shape F m z w v h g =
    let y = ones m.bound in
    let hy = ones_letters shape m.bound in
    let x = m.total (z ++ y) (letters_append shape z y h.letters hy) (omega (arith, length-append z y, length-ones m.bound)) in
    after_cancel_right w v y (sym (h.by y x.0 hy x.1) ∙ g.by y x.0 hy x.1)

-- of the shape
replaced_word : (shape : Shape) (F : List ℕ → Word → Type 0) → IsSending shape F → (z : List ℕ) (w : Word) → Replaces shape F z w → IsWordOf shape w
replaced_word shape F m z w h =
    let y = ones m.bound in
    let hy = ones_letters shape m.bound in
    let hz = letters_append shape z y h.letters hy in
    let x = m.total (z ++ y) hz (omega (arith, length-append z y, length-ones m.bound)) in
    word_front shape w y (subst (IsWordOf shape) (h.by y x.0 hy x.1) (m.word (z ++ y) x.0 hz x.1))

-- long letters are replaced
long_replaced : (shape : Shape) (F : List ℕ → Word → Type 0) → (m : IsSending shape F) (z : List ℕ) → IsLetters shape z → m.bound ≤ length z → (w : Word) × Replaces shape F z w
long_replaced shape F m z hz l =
    let w = m.total z hz l in
    (w.0, record { letters = hz; by = λ y x hy f. m.single (z ++ y) x (w.0 · y) (letters_append shape z y hz hy) f (m.extends z w.0 y w.1) })

-- with one more letter they are replaced by a child
child_replaced : (shape : Shape) (F : List ℕ → Word → Type 0) (z : List ℕ) (w : Word) (a : ℕ) → IsLetter shape a → Replaces shape F z w → Replaces shape F (z ++ a ∷ []) (child w a)
child_replaced shape F z w a letter h = record {
  letters = letters_append shape z (a ∷ []) h.letters (one_letter shape a letter);
  by = λ y x hy f. h.by (a ∷ y) x (All-cons (IsLetter shape) a y letter hy) (subst (λ t. F t x) (append_assoc z (a ∷ []) y) f) ∙ sym (after-append w (a ∷ []) y);
}

-- and where all children are, so are the letters
children_replaced : (shape : Shape) (F : List ℕ → Word → Type 0) → IsSending shape F → (z : List ℕ) (w : Word) → IsLetters shape z → ((a : ℕ) → 1 ≤ a → a ≤ shape.n → Replaces shape F (z ++ a ∷ []) (child w a)) → Replaces shape F z w
children_replaced shape F m z w hz each = record { letters = hz; by = by }
  where
    by : (y : List ℕ) (x : Word) → IsLetters shape y → F (z ++ y) x → x ≡ w · y
    by [] x hy f =
        let longer : F ((z ++ 1 ∷ []) ++ []) (x · (1 ∷ [])) = subst (λ t. F t (x · (1 ∷ []))) (ap (λ (t : List ℕ). t ++ 1 ∷ []) (append-nil z) ∙ sym (append-nil (z ++ 1 ∷ []))) (m.extends (z ++ []) x (1 ∷ []) f) in
        after_cancel_right x (w · []) (1 ∷ []) ((each 1 (omega arith) (omega (arith, shape.letters_low))).by [] (x · (1 ∷ [])) hy longer ∙ after-nil (child w 1) ∙ ap (λ t. child t 1) (sym (after-nil w)))
    by (a ∷ y) x hy f =
        let letter = All-head (IsLetter shape) a y hy in
        (each a letter.0 letter.1).by y x (All-tail (IsLetter shape) a y hy) (subst (λ t. F t x) (sym (append_assoc z (a ∷ []) y)) f) ∙ after-append w (a ∷ []) y

-- ---- whether letters are replaced

-- each of the numbers 1 to k has the property, or not each
all_or_not : (P : ℕ → Type 0) (k : ℕ) → ((a : ℕ) → 1 ≤ a → a ≤ k → P a ⊎ ¬ P a) → ((a : ℕ) → 1 ≤ a → a ≤ k → P a) ⊎ ¬ ((a : ℕ) → 1 ≤ a → a ≤ k → P a)
all_or_not P zero told = inl (λ a low high. absurd (omega (arith, low, high)))
all_or_not P (suc k) told = elim (told (suc k) (omega arith) (omega arith)) [
  | inr n ↦ inr (λ all. n (all (suc k) (omega arith) (omega arith)))
  | inl last ↦ elim (all_or_not P k (λ a low high. told a low (omega (arith, high)))) [
    | inr n ↦ inr (λ all. n (λ a low high. all a low (omega (arith, high))))
    | inl below ↦ inl (λ a low high. elim (cases_lt a (suc k)) [
      | inl less ↦ below a low (omega (arith, less))
      | inr more ↦ (let same : suc k ≡ a = omega (arith, more, high) in subst P same last)
    ])
  ]
]

-- F replaces z by a word or not
IsReplaced : Shape → (List ℕ → Word → Type 0) → List ℕ → Type 0
IsReplaced shape F z = (w : Word) × Replaces shape F z w

-- where the child by 1 is replaced by the child of v by 1, it is enough to look whether all children are replaced by those of v
told_by_children : (shape : Shape) (F : List ℕ → Word → Type 0) → IsSending shape F → (z : List ℕ) (v : Word) → IsLetters shape z → Replaces shape F (z ++ 1 ∷ []) (child v 1)
    → ((a : ℕ) → 1 ≤ a → a ≤ shape.n → IsReplaced shape F (z ++ a ∷ []) ⊎ ¬ IsReplaced shape F (z ++ a ∷ [])) → IsReplaced shape F z ⊎ ¬ IsReplaced shape F z
unfolding IsReplaced
told_by_children shape F m z v hz first told = elim (all_or_not (λ a. Replaces shape F (z ++ a ∷ []) (child v a)) shape.n each) [
  | inl all ↦ inl (v, children_replaced shape F m z v hz all)
  | inr n ↦ inr (λ (w, h).
      let one = child_replaced shape F z w 1 (omega arith, omega (arith, shape.letters_low)) h in
      let same : w ≡ v = after_cancel_right w v (1 ∷ []) (replaced_once shape F m (z ++ 1 ∷ []) (child w 1) (child v 1) one first) in
      n (λ a low high. subst (λ t. Replaces shape F (z ++ a ∷ []) (child t a)) same (child_replaced shape F z w a (low, high) h)))
]
  where
    each : (a : ℕ) → 1 ≤ a → a ≤ shape.n → Replaces shape F (z ++ a ∷ []) (child v a) ⊎ ¬ Replaces shape F (z ++ a ∷ []) (child v a)
    each a low high = elim (told a low high) [
      | inr n ↦ inr (λ h. n (child v a, h))
      | inl (w, h) ↦ elim (same_word_or_not w (child v a)) [
        | inl e ↦ inl (subst (Replaces shape F (z ++ a ∷ [])) e h)
        | inr n ↦ inr (λ g. n (replaced_once shape F m (z ++ a ∷ []) w (child v a) h g))
      ]
    ]

replaced_or_not : (shape : Shape) (F : List ℕ → Word → Type 0) → (m : IsSending shape F) (fuel : ℕ) (z : List ℕ) → IsLetters shape z → m.bound ≤ fuel + length z → IsReplaced shape F z ⊎ ¬ IsReplaced shape F z
unfolding IsReplaced
replaced_or_not shape F m zero z hz l = inl (long_replaced shape F m z hz (omega (arith, l)))
replaced_or_not shape F m (suc fuel) z hz l =
    let told : (a : ℕ) → 1 ≤ a → a ≤ shape.n → IsReplaced shape F (z ++ a ∷ []) ⊎ ¬ IsReplaced shape F (z ++ a ∷ []) = λ a low high.
    replaced_or_not shape F m fuel (z ++ a ∷ []) (letters_append shape z (a ∷ []) hz (one_letter shape a (low, high))) (omega (arith, l, length-append z (a ∷ []))) in
    by_first told (told 1 (omega arith) (omega (arith, shape.letters_low)))
  where
    by_first : ((a : ℕ) → 1 ≤ a → a ≤ shape.n → IsReplaced shape F (z ++ a ∷ []) ⊎ ¬ IsReplaced shape F (z ++ a ∷ [])) → IsReplaced shape F (z ++ 1 ∷ []) ⊎ ¬ IsReplaced shape F (z ++ 1 ∷ []) → IsReplaced shape F z ⊎ ¬ IsReplaced shape F z
    by_first told (inr n) = inr (λ (w, h). n (child w 1, child_replaced shape F z w 1 (omega arith, omega (arith, shape.letters_low)) h))
    by_first told (inl (x, h)) = elim (ends_with_or_not same_or_not x.letters (1 ∷ [])) [
      | inr n ↦ inr (λ (w, g). n w.letters (ap (λ (t : Word). t.letters) (replaced_once shape F m (z ++ 1 ∷ []) x (child w 1) h (child_replaced shape F z w 1 (omega arith, omega (arith, shape.letters_low)) g))))
      | inl s ↦ told_by_children shape F m z (record { root = x.root; letters = s.0 }) hz (subst (Replaces shape F (z ++ 1 ∷ [])) (word_eq refl s.1) h) told
    ]

-- ---- the shortest letters that are replaced

-- the order of cones behind root 1
AreBefore : Entry → Entry → Type 0
AreBefore d e = IsBefore (root_word 1 · d.letters) (root_word 1 · e.letters)

-- the entries behind z: letters that are replaced, of which no shorter ones behind z are
record AreShortest (shape : Shape) (F : List ℕ → Word → Type 0) (bound : ℕ) (z : List ℕ) (L : List Entry) : Type 0 where
  behind : (e : Entry) → Contains L e → (y : List ℕ) × (e.letters ≡ z ++ y)
  by : (e : Entry) → Contains L e → Replaces shape F e.letters e.word
  order : AllPairs AreBefore L
  least : (e : Entry) → Contains L e → (y s : List ℕ) (a : ℕ) → e.letters ≡ y ++ a ∷ s → length z ≤ length y → ¬ IsReplaced shape F y
  covers : (y : List ℕ) → IsLetters shape y → bound ≤ length (z ++ y) → (e : Entry) × Contains L e × ((s : List ℕ) × (z ++ y ≡ e.letters ++ s))

-- letters that are replaced are one entry
one_shortest : (shape : Shape) (F : List ℕ → Word → Type 0) (bound : ℕ) (z : List ℕ) (w : Word) → Replaces shape F z w → AreShortest shape F bound z (record { letters = z; word = w } ∷ [])
unfolding AreBefore
one_shortest shape F bound z w h = record {
  behind = λ e c. ([], ap (λ (d : Entry). d.letters) (is e c) ∙ sym (append-nil z));
  by = λ e c. subst (λ (d : Entry). Replaces shape F d.letters d.word) (sym (is e c)) h;
  order = AllPairs-cons AreBefore first [] (All-nil (AreBefore first)) (AllPairs-nil AreBefore);
  least = λ e c y s a split l g. omega (arith, l, ap (λ (d : Entry). length d.letters) (is e c), ap (λ (t : List ℕ). length t) split, length-append y (a ∷ s));
  covers = λ y hy l. (first, Contains-here first [], (y, refl));
}
  where
    first : Entry
    first = record { letters = z; word = w }

    is : (e : Entry) → Contains (first ∷ []) e → e ≡ first
    is e c = elim (Contains-cons_cases first [] e c) [ inl same ↦ sym same | inr n ↦ absurd (Contains-nil e n) ]

-- the entries behind z by the letters 1 to k
record HaveShortest (shape : Shape) (F : List ℕ → Word → Type 0) (bound : ℕ) (z : List ℕ) (k : ℕ) (L : List Entry) : Type 0 where
  behind : (e : Entry) → Contains L e → (a : ℕ) × (1 ≤ a) × (a ≤ k) × ((y : List ℕ) × (e.letters ≡ z ++ a ∷ y))
  by : (e : Entry) → Contains L e → Replaces shape F e.letters e.word
  order : AllPairs AreBefore L
  least : (e : Entry) → Contains L e → (y s : List ℕ) (a : ℕ) → e.letters ≡ y ++ a ∷ s → suc (length z) ≤ length y → ¬ IsReplaced shape F y
  covers : (a : ℕ) (y : List ℕ) → 1 ≤ a → a ≤ k → IsLetters shape y → bound ≤ length (z ++ a ∷ y) → (e : Entry) × Contains L e × ((s : List ℕ) × (z ++ a ∷ y ≡ e.letters ++ s))

shortest_to : (shape : Shape) (F : List ℕ → Word → Type 0) (bound : ℕ) (z : List ℕ) (k : ℕ) → ((a : ℕ) → 1 ≤ a → a ≤ k → (L : List Entry) × AreShortest shape F bound (z ++ a ∷ []) L) → (L : List Entry) × HaveShortest shape F bound z k L
unfolding AreBefore
shortest_to shape F bound z zero each = (
  [],
  record {
    behind = λ e c. absurd (Contains-nil e c);
    by = λ e c. absurd (Contains-nil e c);
    order = AllPairs-nil AreBefore;
    least = λ e c. absurd (Contains-nil e c);
    covers = λ a y low high. absurd (omega (arith, low, high));
  },
)
shortest_to shape F bound z (suc k) each =
    let (L, front) = shortest_to shape F bound z k (λ a low high. each a low (omega (arith, high))) in
    let (M, last) = each (suc k) (omega arith) (omega arith) in (
      L ++ M,
      record {
        behind = λ e c. elim (Contains-append_cases L M e c) [
          | inl d ↦ (let g = front.behind e d in (g.0, g.1, omega (arith, g.2), g.3))
          | inr d ↦ (let g = last.behind e d in (suc k, omega arith, omega arith, (g.0, g.1 ∙ append_assoc z (suc k ∷ []) g.0)))
        ];
        by = λ e c. elim (Contains-append_cases L M e c) [ inl d ↦ front.by e d | inr d ↦ last.by e d ];
        order = AllPairs-append AreBefore L M front.order last.order (λ d e c f.
            let g = front.behind d c in
            let h = last.behind e f in
            across g.0 (omega (arith, g.2)) d e g.3.0 h.0 g.3.1 (h.1 ∙ append_assoc z (suc k ∷ []) h.0));
        least = λ e c y s a split l. elim (Contains-append_cases L M e c) [
          | inl d ↦ front.least e d y s a split l
          | inr d ↦ last.least e d y s a split (omega (arith, l, length-append z (suc k ∷ [])))
        ];
        covers = λ a y low high hy l. elim (cases_lt a (suc k)) [
          | inl less ↦ (let g = front.covers a y low (omega (arith, less)) hy l in (g.0, Contains-append_left L M g.0 g.1, g.2))
          | inr more ↦ (
              let same : suc k ≡ a = omega (arith, more, high) in
              let is : z ++ a ∷ y ≡ (z ++ suc k ∷ []) ++ y = ap (λ b. z ++ b ∷ y) (sym same) ∙ sym (append_assoc z (suc k ∷ []) y) in
              let g = last.covers y hy (subst (λ (t : List ℕ). bound ≤ length t) is l) in
              (g.0, Contains-append_right L M g.0 g.1, (g.2.0, is ∙ g.2.1)))
        ];
      },
    )
  where
    across : (a : ℕ) → a < suc k → (d e : Entry) (y x : List ℕ) → d.letters ≡ z ++ a ∷ y → e.letters ≡ z ++ suc k ∷ x → IsBefore (root_word 1 · d.letters) (root_word 1 · e.letters)
    across a less d e y x d_is e_is =
        let u = root_word 1 · z in
        let left : (child u a) · y ≡ root_word 1 · d.letters = after-append u (a ∷ []) y ∙ after-append (root_word 1) z (a ∷ y) ∙ ap (λ t. root_word 1 · t) (sym d_is) in
        let right : (child u (suc k)) · x ≡ root_word 1 · e.letters = after-append u (suc k ∷ []) x ∙ after-append (root_word 1) z (suc k ∷ x) ∙ ap (λ t. root_word 1 · t) (sym e_is) in
        subst (IsBefore (root_word 1 · d.letters)) right (subst (λ t. IsBefore t ((child u (suc k)) · x)) left (before_extended (child u a) (child u (suc k)) y x (child_before u a (suc k) less)))

-- letters that are not replaced have the entries behind all n letters
node_shortest : (shape : Shape) (F : List ℕ → Word → Type 0) (bound : ℕ) (z : List ℕ) (L : List Entry) → ¬ IsReplaced shape F z → (bound ≤ length z → ⊥) → HaveShortest shape F bound z shape.n L → AreShortest shape F bound z L
node_shortest shape F bound z L none short h = record {
  behind = λ e c. let g = h.behind e c in (g.0 ∷ g.3.0, g.3.1);
  by = h.by;
  order = h.order;
  least = λ e c y s a split l. elim (cases_lt (length z) (length y)) [
    | inl less ↦ h.least e c y s a split less
    | inr more ↦ (
        let g = h.behind e c in
        let same : z ≡ y = (equal_parts z y (g.0 ∷ g.3.0) (a ∷ s) (sym g.3.1 ∙ split) (omega (arith, l, more, ap (λ (t : List ℕ). length t) (sym g.3.1 ∙ split), length-append z (g.0 ∷ g.3.0), length-append y (a ∷ s)))).0 in
        subst (λ t. ¬ IsReplaced shape F t) same none)
  ];
  covers = covers;
}
  where
    covers : (y : List ℕ) → IsLetters shape y → bound ≤ length (z ++ y) → (e : Entry) × Contains L e × ((s : List ℕ) × (z ++ y ≡ e.letters ++ s))
    covers [] hy l = absurd (short (omega (arith, l, length-append z [])))
    covers (a ∷ y) hy l = let letter = All-head (IsLetter shape) a y hy in h.covers a y letter.0 letter.1 (All-tail (IsLetter shape) a y hy) l

shortest : (shape : Shape) (F : List ℕ → Word → Type 0) → (m : IsSending shape F) (fuel : ℕ) (z : List ℕ) → IsLetters shape z → m.bound ≤ fuel + length z → (L : List Entry) × AreShortest shape F m.bound z L
unfolding IsReplaced
shortest shape F m zero z hz l = let w = long_replaced shape F m z hz (omega (arith, l)) in (record { letters = z; word = w.0 } ∷ [], one_shortest shape F m.bound z w.0 w.1)
shortest shape F m (suc fuel) z hz l = elim (replaced_or_not shape F m (suc fuel) z hz l) [
  | inl w ↦ (record { letters = z; word = w.0 } ∷ [], one_shortest shape F m.bound z w.0 w.1)
  | inr none ↦ (
      let t = shortest_to shape F m.bound z shape.n (λ a low high. shortest shape F m fuel (z ++ a ∷ []) (letters_append shape z (a ∷ []) hz (one_letter shape a (low, high))) (omega (arith, l, length-append z (a ∷ [])))) in
      (t.0, node_shortest shape F m.bound z t.0 none (λ long. none (long_replaced shape F m z hz long)) t.1))
]

-- ---- value lists

-- the shortest letters that are replaced, with their words, are a value list
shortest_value : (shape : Shape) (F : List ℕ → Word → Type 0) → (m : IsSending shape F) (L : List Entry) → AreShortest shape F m.bound [] L → IsValueList shape L
unfolding AreBefore IsReplaced
shortest_value shape F m L h = record {
  order = AllPairs-weaker AreBefore (λ (d : Entry) (e : Entry). slice_cmp nat_cmp d.letters e.letters ≡ Less) L h.order (λ d e c f before. before_less (root_word 1 · d.letters) (root_word 1 · e.letters) before);
  covers = covers_from shape (words_behind (root_word 1) L) (root_word 1 ∷ [])
      (All-from_contains (IsWordOf shape) (words_behind (root_word 1) L) (λ w c. let g = contained_in_map (λ (e : Entry). root_word 1 · e.letters) L w c in subst (IsWordOf shape) g.2 (word_after shape (root_word 1) g.0.letters (root_one shape) (h.by g.0 g.1).letters)))
      (AllPairs-map (λ (e : Entry). root_word 1 · e.letters) AreApart L (AllPairs-weaker AreBefore (λ (d : Entry) (e : Entry). AreApart (root_word 1 · d.letters) (root_word 1 · e.letters)) L h.order (λ d e c f before. before_apart (root_word 1 · d.letters) (root_word 1 · e.letters) before)))
      m.bound same;
  words = All-from_contains (λ (e : Entry). IsWordOf shape e.word) L (λ e c. replaced_word shape F m e.letters e.word (h.by e c));
  merged = λ z v all.
      let first = all 1 (omega arith) (omega (arith, shape.letters_low)) in
      let letters = letters_front shape z (1 ∷ []) (h.by (record { letters = z ++ 1 ∷ []; word = child v 1 }) first).letters in
      h.least (record { letters = z ++ 1 ∷ []; word = child v 1 }) first z [] 1 refl (omega arith)
      (v, children_replaced shape F m z v letters (λ a low high. h.by (record { letters = z ++ a ∷ []; word = child v a }) (all a low high)));
}
  where
    same : (w : Word) → IsWordOf shape w → m.bound ≤ length w.letters → IsUnderSome w (words_behind (root_word 1) L) ↔ IsUnderSome w (root_word 1 ∷ [])
    same w hw l = (
      (λ s.
          let g = contained_in_map (λ (e : Entry). root_word 1 · e.letters) L s.above s.listed in
          some_at (root_word 1 ∷ []) (root_word 1) w (Contains-here (root_word 1) []) (under_trans s.under (subst (λ t. IsUnder t (root_word 1)) g.2 (under_after (root_word 1) g.0.letters)))),
      (λ s. elim (Contains-cons_cases (root_word 1) [] s.above s.listed) [
        | inr n ↦ absurd (Contains-nil s.above n)
        | inl e ↦ (
            let y = s.under.rest in
            let is : w ≡ root_word 1 · y = s.under.is ∙ ap (λ t. t · y) (sym e) in
            let g = h.covers y (subst (IsLetters shape) (ap (λ (t : Word). t.letters) is) hw.letters) (omega (arith, l, ap (λ (t : Word). length t.letters) is)) in
            some_at (words_behind (root_word 1) L) (root_word 1 · g.0.letters) w (Contains-map (λ (d : Entry). root_word 1 · d.letters) L g.0 g.1) (record { rest = g.2.0; is = is ∙ ap (λ t. root_word 1 · t) g.2.1 ∙ sym (after-append (root_word 1) g.0.letters g.2.0) }))
      ]),
    )

-- ---- what follows a value list

-- what a value list sends letters to, and k steps from there
SendsOn : List Row → ℤ → List Entry → List ℕ → Word → Type 0
SendsOn p k L t w = (v : Word) × Sends L t v × Steps p k v w

sending : (shape : Shape) (p : List Row) (k : ℤ) (L : List Entry) → IsPair shape p → IsValueList shape L → IsSending shape (SendsOn p k L)
unfolding SendsOn
sending shape p k L pair value = let m = steps_map shape p pair k in record {
  extends = λ t w z (v, sent, steps). (v · z, sends_extends L t v z sent, m.ahead.extends v w z steps);
  single = λ t w w' ht (v, sent, steps) (v', sent', steps').
      m.ahead.single v w w' (sends_word shape L value t v ht sent) steps (subst (λ x. Steps p k x w') (sends_single shape L value t v' v sent' sent) steps');
  word = λ t w ht (v, sent, steps). m.ahead.word v w (sends_word shape L value t v ht sent) steps;
  bound = reach_of L + m.ahead.bound;
  total = λ t ht l.
      let near = take (reach_of L) t in
      let far = drop (reach_of L) t in
      let is : near ++ far ≡ t = take-append-drop (reach_of L) t in
      let both = subst (IsLetters shape) (sym is) ht in
      let v = sends_some shape L value near (letters_front shape near far both) (omega (arith, l, length-take (reach_of L) t)) in
      let sent : Sends L t (v.0 · far) = subst (λ s. Sends L s (v.0 · far)) is (sends_extends L near v.0 far v.1) in
      let w = m.ahead.total (v.0 · far) (sends_word shape L value t (v.0 · far) ht sent) (omega (arith, l, length-drop (reach_of L) t, length-after v.0 far)) in
      (w.0, (v.0 · far, sent, w.1));
}

-- each value list is followed by one by each power
pub follower_exists : (shape : Shape) (p : List Row) (k : ℤ) (L : List Entry) → IsPair shape p → IsValueList shape L → (M : List Entry) × IsFollowed shape L p k M
unfolding SendsOn
follower_exists shape p k L pair value =
    let m = sending shape p k L pair value in
    let M = shortest shape (SendsOn p k L) m m.bound [] (All-nil (IsLetter shape)) (omega arith) in (
      M.0,
      record {
        value_list = shortest_value shape (SendsOn p k L) m M.0 M.1;
        followed = λ t w w' w'' ht sent steps s.
            let both = subst (IsLetters shape) s.from ht in
            (M.1.by s.entry s.listed).by s.rest w' (letters_back shape s.entry.letters s.rest both) (subst (λ x. SendsOn p k L x w') s.from (w, sent, steps)) ∙ sym s.to;
      },
    )

-- and each word has an image
pub image_exists : (shape : Shape) (p : List Row) (k : ℤ) (u : Word) → IsPair shape p → IsWordOf shape u → (L : List Entry) × IsImage shape p k u L
image_exists shape p k u pair word = let M = follower_exists shape p k (cone_of u) pair (cone_value shape u word) in (M.0, followed_image shape p k u M.0 word M.1)
