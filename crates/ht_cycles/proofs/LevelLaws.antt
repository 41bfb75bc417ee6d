-- The words of one length under the words of a list, its level there, and that lists with the same long words under them have
-- the same number of words modulo n - 1.
use Rattle.std.proofs.Common.{◌≡◌, ℕ, zero, suc, ◌+◌, ◌*◌, ◌-◌, ◌%◌, ◌≤◌, inl, inr, List, [], ◌∷◌, ◌++◌, length, max, sym, ap, ◌∙◌, subst, arith, All, Contains}
use Rattle.std.proofs.Math.Nat.{add-mul-mod_self_right}
use Rattle.std.proofs.lemmas.List.{length-append}
use Rattle.std.proofs.lemmas.List.Elements.{All-contains, All-nil, Contains-append_left, Contains-append_right, Contains-append_cases}
use Rattle.ht_word.specs.Words.{IsWordOf, child, IsUnder, IsUnderSome}
use Rattle.ht_word.specs.declared.shape.Shape.{Shape}
use Rattle.ht_word.specs.declared.word.Word.{Word}
use Rattle.ht_word.proofs.ListLaws.{Contains-nil, Contains-here, Contains-there, Contains-cons_cases, AllPairs-nil, AllPairs-cons, AllPairs-head, AllPairs-tail, AllPairs-append}
use Rattle.ht_word.proofs.WordLaws.{under_refl, under_trans, under_same, length-after}
use Rattle.ht_pair.specs.Bases.{AreApart, IsPrefixFree, longest, Covers}
use Rattle.ht_pair.proofs.BasisLaws.{longest_bounds, some_at, children_to, children_apart, child_of, child_under, child_word, child_above, apart_under}
use Rattle.ht_pair.proofs.CountLaws.{no_more}
use Rattle.ht_pair.proofs.Sequences.{length-each}

-- a word of the shape of so many letters that is under a word of the list
pub record IsOnLevel (shape : Shape) (L : ℕ) (A : List Word) (w : Word) : Type 0 where
  pub word : IsWordOf shape w
  pub long : length w.letters ≡ L
  pub under : IsUnderSome w A

-- all these words, each once: as many as the list has, and some times n - 1 more
pub record Level (shape : Shape) (L : ℕ) (A : List Word) : Type 0 where
  pub words : List Word
  pub free : IsPrefixFree words
  pub each : (w : Word) → Contains words w → IsOnLevel shape L A w
  pub all : (w : Word) → IsOnLevel shape L A w → Contains words w
  pub more : ℕ
  pub size : length words ≡ length A + more * (shape.n - 1)

-- what is under a word
under_single : (u a : Word) → IsUnderSome u (a ∷ []) → IsUnder u a
under_single u a s = elim (Contains-cons_cases a [] s.above s.listed) [ inl e ↦ subst (IsUnder u) (sym e) s.under | inr c ↦ absurd (Contains-nil s.above c) ]

-- the level of one more word
level_more : (shape : Shape) (L : ℕ) (a : Word) (A : List Word) → IsPrefixFree (a ∷ A) → Level shape L (a ∷ []) → Level shape L A → Level shape L (a ∷ A)
level_more shape L a A free one rest = record {
  words = one.words ++ rest.words;
  free = AllPairs-append AreApart one.words rest.words one.free rest.free (λ u v c e.
      let s = (rest.each v e).under in
      apart_under (All-contains (AreApart a) A s.above (AllPairs-head AreApart a A free) s.listed) (under_single u a (one.each u c).under) s.under);
  each = λ w c. elim (Contains-append_cases one.words rest.words w c) [
    | inl d ↦ let e = one.each w d in record { word = e.word; long = e.long; under = some_at (a ∷ A) a w (Contains-here a A) (under_single w a e.under) }
    | inr d ↦ let e = rest.each w d in record { word = e.word; long = e.long; under = some_at (a ∷ A) e.under.above w (Contains-there a A e.under.above e.under.listed) e.under.under }
  ];
  all = λ w h. elim (Contains-cons_cases a A h.under.above h.under.listed) [
    | inl e ↦ Contains-append_left one.words rest.words w (one.all w (record { word = h.word; long = h.long; under = some_at (a ∷ []) h.under.above w (subst (Contains (a ∷ [])) e (Contains-here a [])) h.under.under }))
    | inr c ↦ Contains-append_right one.words rest.words w (rest.all w (record { word = h.word; long = h.long; under = some_at A h.under.above w c h.under.under }))
  ];
  more = one.more + rest.more;
  size = omega (arith, length-append one.words rest.words, one.size, rest.size);
}

-- the level of a list from those of its words
level_list : (shape : Shape) (L : ℕ) (A : List Word) → IsPrefixFree A → ((a : Word) → Contains A a → Level shape L (a ∷ [])) → Level shape L A
level_list shape L [] free each = record { words = []; free = AllPairs-nil AreApart; each = λ w c. absurd (Contains-nil w c); all = λ w h. absurd (Contains-nil h.under.above h.under.listed); more = 0; size = omega arith }
level_list shape L (a ∷ A) free each = level_more shape L a A free (each a (Contains-here a A)) (level_list shape L A (AllPairs-tail AreApart a A free) (λ b c. each b (Contains-there a A b c)))

-- the level of a word with no more letters, from those of its children
level_one : (shape : Shape) (L j : ℕ) (a : Word) → IsWordOf shape a → j + length a.letters ≡ L → Level shape L (a ∷ [])
level_one shape L zero a word l = record {
  words = a ∷ [];
  free = AllPairs-cons AreApart a [] (All-nil (AreApart a)) (AllPairs-nil AreApart);
  each = λ w c. elim (Contains-cons_cases a [] w c) [
    | inl e ↦ subst (IsOnLevel shape L (a ∷ [])) e (record { word = word; long = omega arith; under = some_at (a ∷ []) a a (Contains-here a []) (under_refl a) })
    | inr d ↦ absurd (Contains-nil w d)
  ];
  all = λ w h. let same : w ≡ a = under_same (under_single w a h.under) (omega (arith, h.long)) in subst (Contains (a ∷ [])) (sym same) (Contains-here a []);
  more = 0;
  size = omega arith;
}
level_one shape L (suc j) a word l =
    let C = children_to a shape.n in
    let below = level_list shape L C (children_apart a shape.n) (λ c listed.
    let e = child_of a shape.n c listed in
    level_one shape L j c (child_word shape a c word listed) (omega (arith, ap (λ (t : Word). length t.letters) e.is, length-after a (e.letter ∷ [])))) in
    record {
      words = below.words;
      free = below.free;
      each = λ w c. let e = below.each w c in record { word = e.word; long = e.long; under = some_at (a ∷ []) a w (Contains-here a []) (under_trans e.under.under (child_under a shape.n e.under.above e.under.listed)) };
      all = λ w h. below.all w (record { word = h.word; long = h.long; under = child_above shape a w h.word (under_single w a h.under) (omega (arith, h.long)) });
      more = below.more + 1;
      size = omega (arith, below.size, length-each (child a) shape.n, shape.letters_low);
    }

-- the level of a list of words with no more letters
pub level : (shape : Shape) (L : ℕ) (A : List Word) → All (IsWordOf shape) A → IsPrefixFree A → longest A ≤ L → Level shape L A
level shape L A words free l = level_list shape L A free (λ a c. level_one shape L (L - length a.letters) a (All-contains (IsWordOf shape) A a words c) (omega (arith, longest_bounds A a c)))

-- a list has as many words modulo n - 1 as its level
pub level_size : (shape : Shape) (L : ℕ) (A : List Word) (level : Level shape L A) → length level.words % (shape.n - 1) ≡ length A % (shape.n - 1)
level_size shape L A level = ap (λ k. k % (shape.n - 1)) level.size ∙ add-mul-mod_self_right (length A) level.more (shape.n - 1)

-- levels with the same words are as long
levels_same : (shape : Shape) (L : ℕ) (A B : List Word) (a : Level shape L A) (b : Level shape L B) → ((w : Word) → IsOnLevel shape L A w → IsOnLevel shape L B w) → ((w : Word) → IsOnLevel shape L B w → IsOnLevel shape L A w) → length a.words ≡ length b.words
levels_same shape L A B a b to from = omega (arith, no_more a.words b.words a.free (λ w c. b.all w (to w (a.each w c))), no_more b.words a.words b.free (λ w c. a.all w (from w (b.each w c))))

-- a list has as many words modulo n - 1 as one that covers it
pub covers_size : (shape : Shape) (W V : List Word) → All (IsWordOf shape) V → IsPrefixFree V → Covers shape W V → length W % (shape.n - 1) ≡ length V % (shape.n - 1)
covers_size shape W V words free covers =
    let L = max (longest W) (longest V) in
    let w = level shape L W covers.words covers.prefix_free (omega arith) in
    let v = level shape L V words free (omega arith) in
    let same : length w.words ≡ length v.words = levels_same shape L W V w v
    (λ u h. record { word = h.word; long = h.long; under = (covers.same u h.word h.long).0 h.under })
    (λ u h. record { word = h.word; long = h.long; under = (covers.same u h.word h.long).1 h.under }) in
    sym (level_size shape L W w) ∙ ap (λ k. k % (shape.n - 1)) same ∙ level_size shape L V v
