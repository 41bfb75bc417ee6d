-- Words inside a list of words: under it behind enough letters.
use Rattle.std.proofs.Common.{ℕ, ◌≤◌, ◌++◌, List, max, length, sym, subst, arith, All, Contains}
use Rattle.std.proofs.lemmas.List.{length-append}
use Rattle.std.proofs.lemmas.List.Elements.{All-contains}
use Rattle.ht_word.specs.Words.{◌·◌, IsLetters, IsWordOf, IsUnder, IsUnderSome}
use Rattle.ht_word.specs.declared.shape.Shape.{Shape}
use Rattle.ht_word.specs.declared.word.Word.{Word}
use Rattle.ht_word.proofs.WordLaws.{after-append, length-after, length-ones, letters_append, ones, ones_letters, under_after, under_trans, word_after, word_front, word_rest}
use Rattle.ht_pair.specs.Bases.{Covers, IsBasis, IsPrefixFree, longest}
use Rattle.ht_pair.proofs.BasisLaws.{basis_single, covers_from, covers_long, some_at, some_shorter, some_trans}
use Rattle.ht_pieces.specs.Pieces.{IsInside}

-- what is under V is inside it
pub inside_from_under : (shape : Shape) (V : List Word) (u : Word) → IsWordOf shape u → IsUnderSome u V → IsInside shape V u
inside_from_under shape V u h s = record { word = h; letters = 0; under = λ y hy l. some_trans (under_after u y) s }

pub inside_extends : {shape : Shape} {V : List Word} {u : Word} → IsInside shape V u → (z : List ℕ) → IsLetters shape z → IsInside shape V (u · z)
inside_extends {shape} {V} {u} d z hz = record {
  word = word_after shape u z d.word hz;
  letters = d.letters;
  under = λ y hy l. subst (λ t. IsUnderSome t V) (sym (after-append u z y)) (d.under (z ++ y) (letters_append shape z y hz hy) (omega (arith, length-append z y)));
}

-- a long word inside V is under V
pub inside_long : {shape : Shape} {V : List Word} {u : Word} → IsInside shape V u → longest V ≤ length u.letters → IsUnderSome u V
inside_long {shape} {V} {u} d l = some_shorter V u (ones d.letters) l (d.under (ones d.letters) (ones_letters shape d.letters) (omega (arith, length-ones d.letters)))

-- a long word above a word inside V is inside V
pub inside_above : (shape : Shape) (V : List Word) (u : Word) (z : List ℕ) → IsInside shape V (u · z) → longest V ≤ length u.letters → IsInside shape V u
inside_above shape V u z d l = inside_from_under shape V u (word_front shape u z d.word) (some_shorter V u z l (inside_long d (omega (arith, length-after u z))))

-- a word is inside V where it is so behind enough letters
pub inside_far : (shape : Shape) (V : List Word) (u : Word) → IsWordOf shape u → (k : ℕ) → ((y : List ℕ) → IsLetters shape y → k ≤ length y → IsInside shape V (u · y)) → IsInside shape V u
inside_far shape V u h k far = record { word = h; letters = max k (longest V); under = λ y hy l. inside_long (far y hy (omega arith)) (omega (arith, length-after u y)) }

-- the words that cover V are inside it
pub inside_covered : (shape : Shape) (U V : List Word) → Covers shape U V → (s : Word) → Contains U s → IsInside shape V s
inside_covered shape U V covers s c =
    let h = All-contains (IsWordOf shape) U s covers.words c in
    record { word = h; letters = max (longest U) (longest V); under = λ y hy l. (covers_long shape U V covers (s · y) (word_after shape s y h hy) (omega (arith, length-after s y))).0 (some_at U s (s · y) c (under_after s y)) }

-- a word of a basis above a word that is inside some of the basis is one of them
pub inside_listed : {shape : Shape} {X V : List Word} → IsBasis shape X → ((x : Word) → Contains V x → Contains X x) → {u : Word} → IsInside shape V u → (x : Word) → Contains X x
    → IsUnder u x → Contains V x
inside_listed {shape} {X} {V} basis within {u} d x c under =
    let y = ones d.letters in
    let s = d.under y (ones_letters shape d.letters) (omega (arith, length-ones d.letters)) in
    subst (Contains V) (basis_single shape X basis (u · y) s.above x (within s.above s.listed) c s.under (under_trans (under_after u y) under)) s.listed

-- words that are apart, all inside V, and with all words of V inside them, cover V
pub inside_covers : (shape : Shape) (W V : List Word) → All (IsWordOf shape) W → IsPrefixFree W → ((w : Word) → Contains W w → IsInside shape V w)
    → ((v : Word) → Contains V v → IsInside shape W v) → Covers shape W V
inside_covers shape W V words free to from = covers_from shape W V words free (max (longest W) (longest V)) (λ u hu l. (
  (λ s. within W V to u hu (omega arith) s),
  (λ s. within V W from u hu (omega arith) s),
))
  where
    within : (U T : List Word) → ((w : Word) → Contains U w → IsInside shape T w) → (u : Word) → IsWordOf shape u → longest T ≤ length u.letters
        → IsUnderSome u U → IsUnderSome u T
    within U T to u hu l s =
        let z = s.under.rest in
        let hz = word_rest shape s.above z (subst (IsWordOf shape) s.under.is hu) in
        inside_long (subst (IsInside shape T) (sym s.under.is) (inside_extends (to s.above s.listed) z hz)) l
