-- Expanding some words of a basis at once.
use Rattle.std.proofs.Common.{◌≡◌, suc, ◌≤◌, ◌⊎◌, inl, inr, List, [], ◌∷◌, ◌++◌, length, sym, ap, subst, arith, Contains}
use Rattle.std.proofs.lemmas.Bool.{cases_lt}
use Rattle.std.proofs.lemmas.List.Elements.{All-contains, Contains-append_left, Contains-append_right, Contains-append_cases}
use Rattle.ht_word.specs.Words.{IsWordOf, IsUnder, IsUnderSome}
use Rattle.ht_word.specs.declared.shape.Shape.{Shape}
use Rattle.ht_word.specs.declared.word.Word.{Word}
use Rattle.ht_word.proofs.ListLaws.{Contains-nil, Contains-here, Contains-there, Contains-cons_cases, AllPairs-head, AllPairs-tail, AllPairs-cons, AllPairs-append}
use Rattle.ht_word.proofs.WordLaws.{under_refl, under_trans, length-after, under_length, under_same, All-from_contains}
use Rattle.ht_pair.specs.Bases.{AreApart, IsPrefixFree, longest, IsBasis}
use Rattle.ht_pair.proofs.BasisLaws.{prefix_free_same, longest_bounds, longest_least, some_at, basis_holds, basis_word, basis_from, children_to, child_of, children_apart, apart_under, child_under, child_word, child_above}

-- the words of X with the property C give way to their children
pub record Expanded (shape : Shape) (C : Word → Type 0) (X : List Word) : Type 0 where
  pub words : List Word
  pub from : (w : Word) → Contains words w → (Contains X w × ¬ C w) ⊎ ((x : Word) × Contains X x × C x × Contains (children_to x shape.n) w)
  pub kept : (w : Word) → Contains X w → ¬ C w → Contains words w
  pub opened : (x w : Word) → Contains X x → C x → Contains (children_to x shape.n) w → Contains words w
  pub free : IsPrefixFree X → IsPrefixFree words

-- each word of an expanded list is under a word of the list
origin : (shape : Shape) (C : Word → Type 0) (X : List Word) (e : Expanded shape C X) (w : Word) → Contains e.words w → (x : Word) × Contains X x × IsUnder w x
origin shape C X e w c = elim (e.from w c) [
  | inl h ↦ (w, h.0, under_refl w)
  | inr h ↦ (h.0, h.1, child_under h.0 shape.n w h.3)
]

-- words with a property that is decided can be expanded
pub expanded : (shape : Shape) (C : Word → Type 0) → ((w : Word) → C w ⊎ ¬ C w) → (X : List Word) → Expanded shape C X
expanded shape C dec [] = record { words = []; from = λ w c. absurd (Contains-nil w c); kept = λ w c n. c; opened = λ x w c h d. absurd (Contains-nil x c); free = λ f. f }
expanded shape C dec (x ∷ X) =
    let e = expanded shape C dec X in
    let K = children_to x shape.n in
    elim (dec x) [
      | inl h ↦ record {
        words = K ++ e.words;
        from = λ w c. elim (Contains-append_cases K e.words w c) [
          | inl a ↦ inr (x, Contains-here x X, h, a)
          | inr b ↦ elim (e.from w b) [ inl k ↦ inl (Contains-there x X w k.0, k.1) | inr k ↦ inr (k.0, Contains-there x X k.0 k.1, k.2, k.3) ]
        ];
        kept = λ w c n. elim (Contains-cons_cases x X w c) [ inl s ↦ absurd (n (subst C s h)) | inr k ↦ Contains-append_right K e.words w (e.kept w k n) ];
        opened = λ y w c g d. elim (Contains-cons_cases x X y c) [ inl s ↦ Contains-append_left K e.words w (subst (λ t. Contains (children_to t shape.n) w) (sym s) d) | inr k ↦ Contains-append_right K e.words w (e.opened y w k g d) ];
        free = λ f. AllPairs-append AreApart K e.words (children_apart x shape.n) (e.free (AllPairs-tail AreApart x X f)) (λ u v c d.
            let o = origin shape C X e v d in apart_under (All-contains (AreApart x) X o.0 (AllPairs-head AreApart x X f) o.1) (child_under x shape.n u c) o.2);
      }
      | inr n ↦ record {
        words = x ∷ e.words;
        from = λ w c. elim (Contains-cons_cases x e.words w c) [
          | inl s ↦ inl (subst (Contains (x ∷ X)) s (Contains-here x X), subst (λ t. ¬ C t) s n)
          | inr b ↦ elim (e.from w b) [ inl k ↦ inl (Contains-there x X w k.0, k.1) | inr k ↦ inr (k.0, Contains-there x X k.0 k.1, k.2, k.3) ]
        ];
        kept = λ w c m. elim (Contains-cons_cases x X w c) [ inl s ↦ subst (Contains (x ∷ e.words)) s (Contains-here x e.words) | inr k ↦ Contains-there x e.words w (e.kept w k m) ];
        opened = λ y w c g d. elim (Contains-cons_cases x X y c) [ inl s ↦ absurd (n (subst C (sym s) g)) | inr k ↦ Contains-there x e.words w (e.opened y w k g d) ];
        free = λ f. AllPairs-cons AreApart x e.words (All-from_contains (AreApart x) e.words (λ v d.
            let o = origin shape C X e v d in apart_under (All-contains (AreApart x) X o.0 (AllPairs-head AreApart x X f) o.1) (under_refl x) o.2)) (e.free (AllPairs-tail AreApart x X f));
      }
    ]

-- what was under X and is no expanded word is under the new words
pub under_new : (shape : Shape) (C : Word → Type 0) → ((w : Word) → C w ⊎ ¬ C w) → (X : List Word) (e : Expanded shape C X) (u : Word) → IsWordOf shape u → IsUnderSome u X → ¬ (Contains X u × C u) → IsUnderSome u e.words
under_new shape C dec X e u h s none = elim (dec s.above) [
  | inr n ↦ some_at e.words s.above u (e.kept s.above s.listed n) s.under
  | inl c ↦ elim (cases_lt (length (s.above).letters) (length u.letters)) [
    | inr l ↦ absurd (none (let same : s.above ≡ u = sym (under_same s.under l) in (subst (Contains X) same s.listed, subst C same c)))
    | inl l ↦ (let t = child_above shape s.above u h s.under l in some_at e.words t.above u (e.opened s.above t.above s.listed c t.listed) t.under)
  ]
]

-- what is under the expanded list is under the list, and is none of the words that were expanded
pub new_under : (shape : Shape) (C : Word → Type 0) (X : List Word) → IsBasis shape X → (e : Expanded shape C X) (u : Word) → IsUnderSome u e.words → IsUnderSome u X × ¬ (Contains X u × C u)
new_under shape C X basis e u s = elim (e.from s.above s.listed) [
  | inl h ↦ (some_at X s.above u h.0 s.under, λ g. h.1 (subst C (prefix_free_same X basis.prefix_free u s.above g.0 h.0 s.under) g.1))
  | inr h ↦ (
      let below = under_trans s.under (child_under h.0 shape.n s.above h.3) in (
        some_at X h.0 u h.1 below,
        λ g.
            let same : u ≡ h.0 = prefix_free_same X basis.prefix_free u h.0 g.0 h.1 below in
            let k = child_of h.0 shape.n s.above h.3 in
            omega (arith, under_length s.under, ap (λ (t : Word). length t.letters) same, ap (λ (t : Word). length t.letters) k.is, length-after h.0 (k.letter ∷ [])),
      ))
]

-- a basis some of whose words are expanded is a basis
pub expanded_basis : (shape : Shape) (C : Word → Type 0) → ((w : Word) → C w ⊎ ¬ C w) → (X : List Word) → IsBasis shape X → (e : Expanded shape C X) → IsBasis shape e.words
expanded_basis shape C dec X basis e = basis_from shape e.words
    (All-from_contains (IsWordOf shape) e.words (λ w c. elim (e.from w c) [ inl h ↦ basis_word shape X basis w h.0 | inr h ↦ child_word shape h.0 w (basis_word shape X basis h.0 h.1) h.3 ]))
    (e.free basis.prefix_free)
    (suc (longest X))
    (λ u h l. under_new shape C dec X e u h (basis_holds shape X basis u h (omega arith)) (λ g. omega (arith, longest_bounds X u g.0)))

-- expanding makes words longer by one letter at most
pub expanded_longest : (shape : Shape) (C : Word → Type 0) (X : List Word) (e : Expanded shape C X) → longest e.words ≤ suc (longest X)
expanded_longest shape C X e = longest_least e.words (suc (longest X)) (λ w c. elim (e.from w c) [
  | inl h ↦ omega (arith, longest_bounds X w h.0)
  | inr h ↦ (let k = child_of h.0 shape.n w h.3 in omega (arith, longest_bounds X h.0 h.1, ap (λ (t : Word). length t.letters) k.is, length-after h.0 (k.letter ∷ [])))
])
