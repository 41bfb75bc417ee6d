-- A basis is reached by expansions from each basis that it is under, in any order.
use Rattle.std.proofs.Common.{◌≡◌, ℕ, zero, suc, ◌≤◌, ◌+◌, ◌*◌, ◌⊎◌, inl, inr, List, [], ◌∷◌, ◌++◌, length, take, drop, Some, slice_get, refl, sym, ap, ◌∙◌, subst, arith, ◌↔◌, Contains}
use Rattle.std.specs.Prelude.{◌-◌}
use Rattle.std.specs.declared.cmp.Ordering.TheVariants.{Less}
use Rattle.std.proofs.lemmas.Bool.{cases_lt}
use Rattle.std.proofs.lemmas.List.{length-append}
use Rattle.std.proofs.lemmas.List.Elements.{All-contains, Contains-append_cases, Contains-append_left, Contains-append_right}
use Rattle.std.proofs.Math.Nat.{mul-le-mul_right, le_of_mul-le-mul_right}
use Rattle.std.proofs.lemmas.Option.{same_Some}
use Rattle.ht_word.specs.Words.{child, IsUnder, IsUnderSome, word_cmp}
use Rattle.ht_word.specs.declared.shape.Shape.{Shape}
use Rattle.ht_word.specs.declared.word.Word.{Word}
use Rattle.ht_word.proofs.Deciding.{contains_or_not}
use Rattle.ht_word.proofs.ListLaws.{Contains-nil, Contains-here, Contains-there, Contains-cons_cases, ascending_same}
use Rattle.ht_word.proofs.WordLaws.{under_refl, under_same, All-from_contains, word_cmp_once}
use Rattle.ht_pair.specs.Bases.{IsBasis, IsAllUnder, TakesAtMost, roots}
use Rattle.ht_pair.specs.HeldBases.{BasisValue, IsHeldBasis, IsExpandedAt, children}
use Rattle.ht_pair.proofs.BasisLaws.{prefix_free_same, some_at, some_trans, under_roots, basis_word, child_under, child_above}
use Rattle.ht_pair.proofs.BasisSizes.{length-roots}
use Rattle.ht_pair.proofs.CountLaws.{no_more, no_fewer_below}
use Rattle.ht_pair.proofs.HeldBasisLaws.{roots_held, held_expanded_here, parts_at}
use Rattle.ht_pair.proofs.OrderedBasisLaws.{ordered, ordered_ascending, ordered_basis}
use Rattle.ht_pair.proofs.Sequences.{length-each}
use Rattle.ht_laws.specs.Expansions.{IsReachedBy}

-- the value of a basis
held : Shape → List Word → BasisValue
held shape X = record { shape = shape; words = X }

-- one word gives way to n words
pub expanded_more : (old new : BasisValue) (place : ℕ) → IsExpandedAt place old new → length new.words ≡ length old.words + (old.shape.n - 1)
expanded_more old new place e =
    let front = take place old.words in
    let tail = drop (place + 1) old.words in
    let many : length (children old.shape e.word) ≡ old.shape.n = length-each (child e.word) old.shape.n in
    let after : length new.words ≡ length front + length (children old.shape e.word) + length tail = ap (λ (t : List Word). length t) e.words ∙ length-append (front ++ children old.shape e.word) tail ∙ ap (λ k. k + length tail) (length-append front (children old.shape e.word)) in
    let before : length old.words ≡ length front + suc (length tail) = ap (λ (t : List Word). length t) (parts_at old.words place e.word e.here) ∙ length-append front (e.word ∷ tail) in
    omega (arith, many, after, before, old.shape.letters_low)

-- a basis in ascending order stays one
pub expanded_held : (old new : BasisValue) (place : ℕ) → IsHeldBasis old.shape old.words → IsExpandedAt place old new → IsHeldBasis new.shape new.words
expanded_held old new place h e = subst (λ (s : Shape). IsHeldBasis s new.words) (sym e.shape) (held_expanded_here old.shape old.words new.words place e.word e.here e.words h)

-- a word of the list is before the place, there or behind it
parted : (X : List Word) (place : ℕ) (x w : Word) → slice_get X place ≡ Some x → Contains X w → (Contains (take place X) w ⊎ (x ≡ w)) ⊎ Contains (drop (place + 1) X) w
parted X place x w here c = elim (Contains-append_cases (take place X) (x ∷ drop (place + 1) X) w (subst (λ (t : List Word). Contains t w) (parts_at X place x here) c)) [
  | inl l ↦ inl (inl l)
  | inr r ↦ elim (Contains-cons_cases x (drop (place + 1) X) w r) [ inl e ↦ inl (inr e) | inr k ↦ inr k ]
]

-- what is under the old words, and isn't the word that gives way, is under the new ones
under_expanded : (shape : Shape) (W : List Word) (new : BasisValue) (place : ℕ) (e : IsExpandedAt place (held shape W) new) (X : List Word) → IsBasis shape X → ¬ Contains X e.word → (x : Word) → Contains X x → IsUnderSome x W → IsUnderSome x new.words
unfolding held
under_expanded shape W new place e X basis other x c s = subst (IsUnderSome x) (sym e.words) (elim (parted W place e.word s.above e.here s.listed) [
  | inr k ↦ some_at after s.above x (Contains-append_right (front ++ children shape e.word) tail s.above k) s.under
  | inl near ↦ elim near [
    | inl k ↦ some_at after s.above x (Contains-append_left (front ++ children shape e.word) tail s.above (Contains-append_left front (children shape e.word) s.above k)) s.under
    | inr same ↦ (
        let under : IsUnder x e.word = subst (IsUnder x) (sym same) s.under in
        elim (cases_lt (length e.word.letters) (length x.letters)) [
          | inr l ↦ absurd (other (subst (Contains X) (under_same under l) c))
          | inl l ↦ (
              let t = child_above shape e.word x (basis_word shape X basis x c) under l in
              some_at after t.above x (Contains-append_left (front ++ children shape e.word) tail t.above (Contains-append_right front (children shape e.word) t.above t.listed)) t.under)
        ])
  ]
])
  where
    front : List Word
    front = take place W

    tail : List Word
    tail = drop (place + 1) W

    after : List Word
    after = front ++ children shape e.word ++ tail

-- a basis under a basis stays under it where a word that isn't its own gives way
pub any_first : (shape : Shape) (W X : List Word) (new : BasisValue) (place : ℕ) (w : Word) → IsBasis shape X → IsAllUnder X W → slice_get W place ≡ Some w → ¬ Contains X w → IsExpandedAt place (record { shape = shape; words = W }) new → IsAllUnder X new.words
unfolding held
any_first shape W X new place w basis under here other e =
    let same : e.word ≡ w = same_Some e.word w (sym e.here ∙ here) in
    All-from_contains (λ x. IsUnderSome x new.words) X (λ x c. under_expanded shape W new place e X basis (λ k. other (subst (Contains X) same k)) x c (All-contains (λ x. IsUnderSome x W) X x under c))

-- the new words are under the old ones
expanded_under : (shape : Shape) (W : List Word) (new : BasisValue) (place : ℕ) → IsExpandedAt place (held shape W) new → IsAllUnder new.words W
unfolding held
expanded_under shape W new place e = All-from_contains (λ x. IsUnderSome x W) new.words (λ x c.
    let from : (w : Word) → Contains (take place W ++ e.word ∷ drop (place + 1) W) w → Contains W w = λ w k. subst (λ (t : List Word). Contains t w) (sym (parts_at W place e.word e.here)) k in
    elim (Contains-append_cases (take place W ++ children shape e.word) (drop (place + 1) W) x (subst (λ (t : List Word). Contains t x) e.words c)) [
      | inr k ↦ some_at W x x (from x (Contains-append_right (take place W) (e.word ∷ drop (place + 1) W) x (Contains-there e.word (drop (place + 1) W) x k))) (under_refl x)
      | inl near ↦ elim (Contains-append_cases (take place W) (children shape e.word) x near) [
        | inl l ↦ some_at W x x (from x (Contains-append_left (take place W) (e.word ∷ drop (place + 1) W) x l)) (under_refl x)
        | inr l ↦ some_at W e.word x (from e.word (Contains-append_right (take place W) (e.word ∷ drop (place + 1) W) e.word (Contains-here e.word (drop (place + 1) W)))) (child_under e.word shape.n x l)
      ]
    ])

-- what is reached is under the words where the expansions begin
reached_under : (shape : Shape) (k : ℕ) (W X : List Word) → IsReachedBy shape k W X → IsAllUnder X W
unfolding held
reached_under shape zero W X same = subst (λ (t : List Word). IsAllUnder t W) same (All-from_contains (λ x. IsUnderSome x W) W (λ w c. some_at W w w c (under_refl w)))
reached_under shape (suc k) W X (V, place, e, rest) = All-from_contains (λ x. IsUnderSome x W) X (λ x c.
    let s = All-contains (λ x. IsUnderSome x V) X x (reached_under shape k V X rest) c in
    some_trans s.under (All-contains (λ x. IsUnderSome x W) V s.above (expanded_under shape W (held shape V) place e) s.listed))

-- a word of W that isn't in X, and its place
record IsMissing (W X : List Word) : Type 0 where
  word : Word
  place : ℕ
  here : slice_get W place ≡ Some word
  other : ¬ Contains X word

-- some word of W isn't in X, or all are
missing_or_none : (W X : List Word) → IsMissing W X ⊎ ((w : Word) → Contains W w → Contains X w)
missing_or_none [] X = inr (λ w c. absurd (Contains-nil w c))
missing_or_none (w ∷ W) X = elim (contains_or_not X w) [
  | inr n ↦ inl (record { word = w; place = 0; here = refl; other = n })
  | inl here ↦ elim (missing_or_none W X) [
    | inl m ↦ inl (record { word = m.word; place = suc m.place; here = m.here; other = m.other })
    | inr all ↦ inr (λ x c. elim (Contains-cons_cases w W x c) [ inl e ↦ subst (Contains X) e here | inr k ↦ all x k ])
  ]
]

-- where a missing word gives way, X is under the basis after
record IsNearer (shape : Shape) (W X : List Word) : Type 0 where
  words : List Word
  place : ℕ
  expanded : IsExpandedAt place (held shape W) (held shape words)
  more : length words ≡ length W + (shape.n - 1)
  is_held : IsHeldBasis shape words
  below : IsAllUnder X words
  within : length words ≤ length X

nearer : (shape : Shape) (W X : List Word) → IsHeldBasis shape W → IsBasis shape X → IsAllUnder X W → IsMissing W X → IsNearer shape W X
unfolding held
nearer shape W X held_w basis under m =
    let V = take m.place W ++ children shape m.word ++ drop (m.place + 1) W in
    let e : IsExpandedAt m.place (held shape W) (held shape V) = record { word = m.word; here = m.here; words = refl; shape = refl } in
    let held_v : IsHeldBasis shape V = expanded_held (held shape W) (held shape V) m.place held_w e in
    let below : IsAllUnder X V = any_first shape W X (held shape V) m.place m.word basis under m.here m.other e in
    record { words = V; place = m.place; expanded = e; more = expanded_more (held shape W) (held shape V) m.place e; is_held = held_v; below = below; within = no_fewer_below shape V X held_v.basis basis below }

-- where no word is missing, the bases are one
none_missing : (shape : Shape) (W X : List Word) → IsHeldBasis shape W → IsHeldBasis shape X → IsAllUnder X W → ((w : Word) → Contains W w → Contains X w) → W ≡ X
none_missing shape W X held_w held_x under all = ascending_same (λ u v. word_cmp u v ≡ Less) word_cmp_once W X held_w.ascending held_x.ascending all (λ x c.
    let s = All-contains (λ x. IsUnderSome x W) X x under c in
    subst (Contains W) (sym (prefix_free_same X held_x.basis.prefix_free x s.above c (all s.above s.listed) s.under)) s.listed)

-- a basis is reached from each one that it is under: words that aren't its own give way, as long as there are some
reached : (shape : Shape) (fuel : ℕ) (W X : List Word) → IsHeldBasis shape W → IsHeldBasis shape X → IsAllUnder X W → length X ≤ length W + fuel → (k : ℕ) × IsReachedBy shape k W X
unfolding held
reached shape zero W X held_w held_x under l = elim (missing_or_none W X) [
  | inr all ↦ (0, none_missing shape W X held_w held_x under all)
  | inl m ↦ (let g = nearer shape W X held_w held_x.basis under m in absurd (omega (arith, l, g.more, g.within, shape.letters_low)))
]
reached shape (suc fuel) W X held_w held_x under l = elim (missing_or_none W X) [
  | inr all ↦ (0, none_missing shape W X held_w held_x under all)
  | inl m ↦ (
      let g = nearer shape W X held_w held_x.basis under m in
      let r = reached shape fuel g.words X g.is_held held_x g.below (omega (arith, l, g.more, shape.letters_low)) in
      (suc r.0, (g.words, g.place, g.expanded, r.1)))
]

-- expansions lead from one basis to just the bases that are under it
pub reached_or_not : (shape : Shape) (W X : List Word) → IsHeldBasis shape W → IsHeldBasis shape X → IsAllUnder X W ↔ ((k : ℕ) × IsReachedBy shape k W X)
reached_or_not shape W X held_w held_x = ((λ under. reached shape (length X) W X held_w held_x under (omega arith)), (λ r. reached_under shape r.0 W X r.1))

-- and from the roots to each basis
pub reached_from_roots : (shape : Shape) (X : List Word) → IsHeldBasis shape X → (k : ℕ) × IsReachedBy shape k (roots shape) X
reached_from_roots shape X h = reached shape (length X) (roots shape) X (roots_held shape) h (All-from_contains (λ x. IsUnderSome x (roots shape)) X (λ x c. under_roots shape x (basis_word shape X h.basis x c))) (omega arith)

-- ---- how many words

-- each expansion makes n - 1 words more
pub reached_size : (shape : Shape) (k : ℕ) (W X : List Word) → IsReachedBy shape k W X → length X ≡ length W + k * (shape.n - 1)
unfolding held
reached_size shape zero W X same = omega (arith, ap (λ (t : List Word). length t) same)
reached_size shape (suc k) W X (V, place, e, rest) = add_up (length X) (length V) (length W) k (shape.n - 1) (reached_size shape k V X rest) (expanded_more (held shape W) (held shape V) place e)
  where
    add_up : (x v w k each : ℕ) → x ≡ v + k * each → v ≡ w + each → x ≡ w + suc k * each
    add_up x v w k each e g = omega (arith, e, g)

-- so a basis that is reached from the roots has r words, and n - 1 for each expansion
size_from_roots : (shape : Shape) (k : ℕ) (X : List Word) → IsReachedBy shape k (roots shape) X → length X ≡ shape.r + k * (shape.n - 1)
size_from_roots shape k X r = reached_size shape k (roots shape) X r ∙ ap (λ j. j + k * (shape.n - 1)) (length-roots shape.r)

-- each basis has as many words as some expansions make
pub basis_size : (shape : Shape) (X : List Word) → IsBasis shape X → (k : ℕ) × (length X ≡ shape.r + k * (shape.n - 1))
basis_size shape X basis =
    let V = ordered X basis.prefix_free in
    let basis_v = ordered_basis shape X V.0 V.1 basis in
    let r = reached_from_roots shape V.0 (record { basis = basis_v; ascending = ordered_ascending X V.0 V.1 }) in
    let same : length X ≡ length V.0 = omega (arith, no_more X V.0 basis.prefix_free V.1.kept, no_more V.0 X basis_v.prefix_free V.1.from) in
    (r.0, same ∙ size_from_roots shape r.0 V.0 r.1)

-- it takes at most k expansions where k or fewer lead to it
pub takes_at_most : (shape : Shape) (X : List Word) (k : ℕ) → IsHeldBasis shape X → TakesAtMost shape X k ↔ ((j : ℕ) × (j ≤ k) × IsReachedBy shape j (roots shape) X)
takes_at_most shape X k h = (
  (λ few. let r = reached_from_roots shape X h in (r.0, le_of_mul-le-mul_right {k = shape.n - 1} (omega (arith, few, size_from_roots shape r.0 X r.1)) (omega (arith, shape.letters_low)), r.1)),
  (λ (j, low, by). omega (arith, size_from_roots shape j X by, mul-le-mul_right (shape.n - 1) low)),
)
