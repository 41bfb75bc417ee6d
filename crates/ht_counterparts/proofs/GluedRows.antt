-- Conjugators on pieces that are apart, glued together.
use Rattle.std.proofs.Common.{◌++◌, ◌⊎◌, inl, inr, List, [], max, sym, subst, arith, Contains}
use Rattle.std.proofs.lemmas.List.{map-append}
use Rattle.std.proofs.lemmas.List.Elements.{All-append, All-nil, Contains-append_cases}
use Rattle.ht_word.specs.Words.{IsLetters, IsUnder, IsWordOf}
use Rattle.ht_word.specs.declared.shape.Shape.{Shape}
use Rattle.ht_word.specs.declared.word.Word.{Word}
use Rattle.ht_word.proofs.ListLaws.{AllPairs-across, AllPairs-append, AllPairs-nil, Contains-nil}
use Rattle.ht_word.proofs.WordLaws.{length-ones, ones, ones_letters, under_both, word_rest}
use Rattle.ht_pair.specs.Actions.{Moves}
use Rattle.ht_pair.specs.Bases.{AreApart, Covers, IsBasis, IsPrefixFree, longest}
use Rattle.ht_pair.specs.Conjugacy.{Conjugates}
use Rattle.ht_pair.specs.LocalConjugacy.{ConjugatesOn}
use Rattle.ht_pair.specs.Pairs.{from_words}
use Rattle.ht_pair.specs.declared.row.Row.{Row}
use Rattle.ht_pair.proofs.BasisLaws.{covers_from, covers_long}
use Rattle.ht_pair.proofs.LocalConjugacyLaws.{conjugates_whole}
use Rattle.ht_pieces.specs.Pieces.{IsInside}
use Rattle.ht_pieces.proofs.InsideLaws.{inside_covered, inside_extends, inside_from_under}
use Rattle.ht_pieces.proofs.PartMaps.{rows_inside}
use Rattle.ht_counterparts.proofs.PieceLaws.{IsPiece, under_either, under_first, under_second}

-- no word is inside two lists that are apart
inside_apart : {shape : Shape} {V W : List Word} {u : Word} → IsPrefixFree (V ++ W) → IsInside shape V u → IsInside shape W u → ⊥
inside_apart {shape} {V} {W} {u} free d e =
    let k = max d.letters e.letters in
    let y = ones k in
    let s = d.under y (ones_letters shape k) (omega (arith, length-ones k)) in
    let t = e.under y (ones_letters shape k) (omega (arith, length-ones k)) in
    let apart = AllPairs-across AreApart V W free s.above t.above s.listed t.listed in
    elim (under_both s.under t.under) [ inl h ↦ apart.0 h | inr h ↦ apart.1 h ]

-- lists that cover V and W cover both together, where V and W are apart
covers_append : {shape : Shape} {U U' V W : List Word} → IsPrefixFree (V ++ W) → Covers shape U V → Covers shape U' W
    → Covers shape (U ++ U') (V ++ W)
covers_append {shape} {U} {U'} {V} {W} free first second =
    covers_from shape (U ++ U') (V ++ W) (All-append (IsWordOf shape) U U' first.words second.words)
    (AllPairs-append AreApart U U' first.prefix_free second.prefix_free apart) (max (max (longest U) (longest V)) (max (longest U') (longest W)))
    (λ u hu l.
    let here = covers_long shape U V first u hu (omega arith) in
    let there = covers_long shape U' W second u hu (omega arith) in (
      (λ s. elim (under_either U U' u s) [ inl c ↦ under_first V W u (here.0 c) | inr c ↦ under_second V W u (there.0 c) ]),
      (λ s. elim (under_either V W u s) [ inl c ↦ under_first U U' u (here.1 c) | inr c ↦ under_second U U' u (there.1 c) ]),
    ))
  where
    apart : (x y : Word) → Contains U x → Contains U' y → AreApart x y
    apart x y c e =
        let d = inside_covered shape U V first x c in
        let i = inside_covered shape U' W second y e in (
          (λ h. inside_apart free d (subst (IsInside shape W) (sym h.is) (inside_extends i h.rest (rest_letters d.word h)))),
          (λ h. inside_apart free (subst (IsInside shape V) (sym h.is) (inside_extends d h.rest (rest_letters i.word h))) i),
        )
      where
        rest_letters : {s t : Word} → IsWordOf shape s → (h : IsUnder s t) → IsLetters shape h.rest
        rest_letters {s} {t} hs h = word_rest shape t h.rest (subst (IsWordOf shape) h.is hs)

-- what rows together move the ones or the others move
moved_by_either : (h q : List Row) (u v : Word) → Moves (h ++ q) u v → Moves h u v ⊎ Moves q u v
moved_by_either h q u v m = elim (Contains-append_cases h q m.row m.listed) [
  | inl c ↦ inl (record { row = m.row; rest = m.rest; listed = c; from = m.from; to = m.to })
  | inr c ↦ inr (record { row = m.row; rest = m.rest; listed = c; from = m.from; to = m.to })
]

-- a word inside V alone the rows from V move
moved_by_first : {shape : Shape} {V W : List Word} (h q : List Row) → IsPrefixFree (V ++ W) → Covers shape (from_words q) W → (u v : Word)
    → IsInside shape V u → Moves (h ++ q) u v → Moves h u v
moved_by_first {shape} {V} {W} h q free covers u v d m =
    elim (moved_by_either h q u v m) [ inl n ↦ n | inr n ↦ absurd (inside_apart free d (rows_inside shape q W covers u v d.word n)) ]

moved_by_second : {shape : Shape} {V W : List Word} (h q : List Row) → IsPrefixFree (V ++ W) → Covers shape (from_words h) V → (u v : Word)
    → IsInside shape W u → Moves (h ++ q) u v → Moves q u v
moved_by_second {shape} {V} {W} h q free covers u v d m =
    elim (moved_by_either h q u v m) [ inr n ↦ n | inl n ↦ absurd (inside_apart free (rows_inside shape h V covers u v d.word n) d) ]

-- conjugators on two pieces that are apart, to two lists that are apart, are one together
pub glued : {shape : Shape} {h q f g : List Row} {V V' W W' : List Word} → IsPiece shape f V → IsPiece shape f V' → IsPrefixFree (V ++ V')
    → IsPrefixFree (W ++ W')
    → ConjugatesOn shape h f V g W → ConjugatesOn shape q f V' g W' → ConjugatesOn shape (h ++ q) f (V ++ V') g (W ++ W')
glued {shape} {h} {q} {f} {g} {V} {V'} {W} {W'} piece piece' free free_to c d = record {
  from = subst (λ U. Covers shape U (V ++ V')) (sym (map-append (λ (row : Row). row.from) h q)) (covers_append free c.from d.from);
  to = subst (λ U. Covers shape U (W ++ W')) (sym (map-append (λ (row : Row). row.to) h q)) (covers_append free_to c.to d.to);
  commutes = λ u u' v v' w hu s m n n' r. elim (under_either V V' u s) [
    | inl s ↦
        let i = inside_from_under shape V u hu s in
        c.commutes u u' v v' w hu s m (moved_by_first h q free d.from u' v' (piece.kept.ahead u u' i m) n) (moved_by_first h q free d.from u v i n') r
    | inr s ↦
        let i = inside_from_under shape V' u hu s in
        d.commutes u u' v v' w hu s m (moved_by_second h q free c.from u' v' (piece'.kept.ahead u u' i m) n) (moved_by_second h q free c.from u v i n') r
  ];
}

-- no rows conjugate on no words
pub nothing : {shape : Shape} {f g : List Row} → ConjugatesOn shape [] f [] g []
nothing {shape} = record { from = covers; to = covers; commutes = λ u u' v v' w hu s. absurd (Contains-nil s.above s.listed) }
  where
    covers : Covers shape [] []
    covers = record { words = All-nil (IsWordOf shape); prefix_free = AllPairs-nil AreApart; same = λ u h l. ((λ s. s), (λ s. s)) }

-- conjugators between bases conjugate
pub whole : {shape : Shape} {h f g : List Row} {V W : List Word} → IsBasis shape V → IsBasis shape W → ConjugatesOn shape h f V g W
    → Conjugates shape h f g
whole {shape} {h} {f} {g} {V} {W} first second c = (conjugates_whole shape V W first second h f g).0 c
