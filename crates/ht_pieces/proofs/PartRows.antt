-- Rows of a relation between two parts: from all words of enough letters under the one.
use Rattle.std.proofs.Common.{ℕ, ◌≤◌, inl, inr, List, [], ◌∷◌, length, max, sym, subst, subst₂, arith, Contains}
use Rattle.std.proofs.lemmas.List.Elements.{All-contains}
use Rattle.ht_word.specs.Words.{◌·◌, IsWordOf, IsUnderSome}
use Rattle.ht_word.specs.declared.shape.Shape.{Shape}
use Rattle.ht_word.specs.declared.word.Word.{Word}
use Rattle.ht_word.proofs.Deciding.{under_some_or_not}
use Rattle.ht_word.proofs.ListLaws.{AllPairs-cons, AllPairs-head, AllPairs-tail, Contains-cons_cases, Contains-here, Contains-nil, Contains-there}
use Rattle.ht_word.proofs.WordLaws.{All-from_contains}
use Rattle.ht_pair.specs.Actions.{Moves}
use Rattle.ht_pair.specs.Bases.{AreApart, Covers, IsPrefixFree, longest}
use Rattle.ht_pair.specs.Pairs.{from_words}
use Rattle.ht_pair.specs.declared.row.Row.{Row}
use Rattle.ht_pair.proofs.BasisLaws.{basis_holds, basis_word, covers_from, longest_least, some_at, some_shorter, some_trans, words_of, words_of_basis, words_of_length}
use Rattle.ht_pair.proofs.PrefixMapLaws.{rows_of}
use Rattle.ht_pieces.specs.Pieces.{IsInside}
use Rattle.ht_pieces.proofs.InsideLaws.{inside_from_under}
use Rattle.ht_pieces.proofs.PartMaps.{IsPartMap}

-- ---- the words of a list that are under some of another

record AreUnder (V U : List Word) : Type 0 where
  words : List Word
  among : (w : Word) → Contains words w → Contains U w × IsUnderSome w V
  all : (w : Word) → Contains U w → IsUnderSome w V → Contains words w
  free : IsPrefixFree U → IsPrefixFree words

are_under : (V U : List Word) → AreUnder V U
are_under V [] = record { words = []; among = λ w c. absurd (Contains-nil w c); all = λ w c s. c; free = λ f. f }
are_under V (u ∷ U) = let rest = are_under V U in elim (under_some_or_not u V) [
  | inl here ↦ record {
    words = u ∷ rest.words;
    among = λ w c. elim (Contains-cons_cases u rest.words w c) [
      | inl e ↦ (subst (Contains (u ∷ U)) e (Contains-here u U), subst (λ t. IsUnderSome t V) e here)
      | inr k ↦ (let a = rest.among w k in (Contains-there u U w a.0, a.1))
    ];
    all = λ w c s. elim (Contains-cons_cases u U w c) [
      | inl e ↦ subst (Contains (u ∷ rest.words)) e (Contains-here u rest.words)
      | inr k ↦ Contains-there u rest.words w (rest.all w k s)
    ];
    free = λ f. AllPairs-cons AreApart u rest.words
        (All-from_contains (AreApart u) rest.words (λ w c. All-contains (AreApart u) U w (AllPairs-head AreApart u U f) (rest.among w c).0))
        (rest.free (AllPairs-tail AreApart u U f));
  }
  | inr out ↦ record {
    words = rest.words;
    among = λ w c. let a = rest.among w c in (Contains-there u U w a.0, a.1);
    all = λ w c s. elim (Contains-cons_cases u U w c) [
      | inl e ↦ absurd (out (subst (λ t. IsUnderSome t V) (sym e) s))
      | inr k ↦ rest.all w k s
    ];
    free = λ f. rest.free (AllPairs-tail AreApart u U f);
  }
]

-- all words of enough letters under V cover it
under_cover : (shape : Shape) (V : List Word) (k : ℕ) → longest V ≤ k → (under : AreUnder V (words_of shape k)) → Covers shape under.words V
under_cover shape V k l under =
    let basis = words_of_basis shape k in
    covers_from shape under.words V (All-from_contains (IsWordOf shape) under.words (λ w c. basis_word shape (words_of shape k) basis w (under.among w c).0)) (under.free basis.prefix_free) k
    (λ u hu m. (
      (λ s. some_trans s.under (under.among s.above s.listed).1),
      (λ s.
          let t = basis_holds shape (words_of shape k) basis u hu (omega (arith, longest_least (words_of shape k) k (λ w c. omega (arith, words_of_length shape k w c)))) in
          let above = some_shorter V t.above t.under.rest (omega (arith, words_of_length shape k t.above t.listed)) (subst (λ w. IsUnderSome w V) t.under.is s) in
          some_at under.words t.above u (under.all t.above t.listed above) t.under),
    ))

-- ---- rows of the relation

-- rows from words that cover V, which move words by F
pub record HasRows (shape : Shape) (V : List Word) (F : Word → Word → Type 0) : Type 0 where
  pub rows : List Row
  pub from : Covers shape (from_words rows) V
  pub by : (u v : Word) → Moves rows u v → F u v

-- a relation that sends the words inside V of enough letters somewhere, and keeps what follows a prefix, has such rows
pub sending_rows : {shape : Shape} {V : List Word} {F : Word → Word → Type 0} → ((u v : Word) (z : List ℕ) → F u v → F (u · z) (v · z)) → (bound : ℕ)
    → ((u : Word) → IsInside shape V u → bound ≤ length u.letters → (v : Word) × F u v) → HasRows shape V F
sending_rows {shape} {V} {F} extends bound total =
    let k = max bound (longest V) in
    let under = are_under V (words_of shape k) in
    let r = rows_of F under.words (sent k (omega arith) under) in
    record {
      rows = r.rows;
      from = subst (λ U. Covers shape U V) (sym r.from_is) (under_cover shape V k (omega arith) under);
      by = λ u v h. subst₂ F (sym h.from) (sym h.to) (extends h.row.from h.row.to h.rest (r.by h.row h.listed));
    }
  where
    sent : (k : ℕ) → bound ≤ k → (under : AreUnder V (words_of shape k)) → (w : Word) → Contains under.words w → (v : Word) × F w v
    sent k l under w c =
        let a = under.among w c in
        total w (inside_from_under shape V w (basis_word shape (words_of shape k) (words_of_basis shape k) w a.0) a.1) (omega (arith, words_of_length shape k w a.0))

-- so has each relation between parts
pub part_rows : {shape : Shape} {V W : List Word} {F : Word → Word → Type 0} → IsPartMap shape V W F → HasRows shape V F
part_rows f = sending_rows f.extends f.bound f.total
