-- A conjugator moves words under cycle words to such words, and other words to other words; so it sends the periodic part to the periodic part.
use Rattle.std.proofs.Common.{◌+◌, ℕ, List, max, sym, subst, arith, Contains, pos}
use Rattle.ht_word.specs.Words.{◌·◌, IsLetters, IsUnder, IsWordOf}
use Rattle.ht_word.specs.declared.shape.Shape.{Shape}
use Rattle.ht_word.specs.declared.word.Word.{Word}
use Rattle.ht_word.proofs.WordLaws.{length-after, ones, ones_letters, under_after, word_after, word_rest}
use Rattle.ht_pair.specs.Actions.{Moves}
use Rattle.ht_pair.specs.Atoms.{IsInfiniteWord}
use Rattle.ht_pair.specs.Bases.{longest}
use Rattle.ht_pair.specs.Conjugacy.{Conjugates}
use Rattle.ht_pair.specs.Kinds.{IsCycleWord}
use Rattle.ht_pair.specs.LocalConjugacy.{ConjugatesOn}
use Rattle.ht_pair.specs.Pairs.{IsPair}
use Rattle.ht_pair.specs.Parts.{IsPeriodicPart}
use Rattle.ht_pair.specs.Steps.{Carries}
use Rattle.ht_pair.specs.declared.row.Row.{Row}
use Rattle.ht_pair.proofs.BasisLaws.{basis_holds, basis_word, some_at}
use Rattle.ht_pair.proofs.CarriesLaws.{carries_extends}
use Rattle.ht_pair.proofs.ConjugacyLaws.{conjugates_turned}
use Rattle.ht_pair.proofs.ConjugatePowerLaws.{conjugates_carries}
use Rattle.ht_pair.proofs.MovesLaws.{moves_extends, moves_map, moves_turned}
use Rattle.ht_pair.proofs.PrefixMapLaws.{length-carried, length-long, long_word}
use Rattle.ht_types.proofs.PeriodicLaws.{periodic_word}
use Rattle.ht_types.proofs.TurnLaws.{HasSemiNormal}
use Rattle.ht_pieces.specs.Pieces.{IsInside}
use Rattle.ht_counterparts.specs.Counterparts.{SendsInside}
use Rattle.ht_counterparts.proofs.PieceLaws.{IsPiece}
use Rattle.ht_counterparts.proofs.SentPieces.{cut_conjugates, sends_kept}

-- an element conjugates itself into itself
conjugates_itself : {shape : Shape} {f : List Row} → IsPair shape f → Conjugates shape f f f
conjugates_itself {shape} {f} pair = record {
  pair = pair;
  commutes = λ u u' v v' w hu s t t' r.
      let m = (moves_map shape f pair).ahead in
      m.single u' w v' (m.word u u' hu s) (subst (λ x. Moves f x w) (m.single u v u' hu t' s) r) t;
}

-- the word of Y above what h moves a word under a cycle word to is a cycle word
cycle_across : {shape : Shape} {f g h : List Row} {Y : List Word} → IsPair shape f → HasSemiNormal shape g Y → Conjugates shape h f g
    → (u v x y : Word) → IsWordOf shape u → Moves h u v → IsUnder u x → IsCycleWord shape f x → Contains Y y → IsUnder v y → IsCycleWord shape g y
cycle_across {shape} {f} {g} {h} {Y} pair second c u v x y hu m under (k, cycle) listed above =
    let hz = word_rest shape x under.rest (subst (IsWordOf shape) under.is hu) in
    let long = carries_extends shape f (pos k) x x under.rest hz cycle.holds in
    let round = subst (λ t. Carries shape f (pos k) t t) (sym under.is) long in
    periodic_word shape g second.pair Y second.semi k v y cycle.positive listed above (conjugates_carries shape h f g pair second.pair c (pos k) u u v v round m m)

-- h moves x and some letters to a word under an infinite word of Y
pub record IsSentUnder (shape : Shape) (h g : List Row) (Y : List Word) (x : Word) : Type 0 where
  pub letters : List ℕ
  pub of_shape : IsLetters shape letters
  pub to : Word
  pub moves : Moves h (x · letters) to
  pub above : Word
  pub infinite : IsInfiniteWord shape g Y above
  pub under : IsUnder to above

-- so a conjugator moves words under an infinite word to words under infinite words
pub infinite_sent : {shape : Shape} {f g h : List Row} {X Y : List Word} → HasSemiNormal shape f X → HasSemiNormal shape g Y → Conjugates shape h f g
    → (x : Word) → IsInfiniteWord shape f X x → IsSentUnder shape h g Y x
infinite_sent {shape} {f} {g} {h} {X} {Y} first second c x infinite =
    let m = (moves_map shape h c.pair).ahead in
    let size = m.bound + longest Y in
    let u = x · ones size in
    let hu = long_word shape x size (basis_word shape X first.semi.basis x infinite.0) in
    let v = m.total u hu (omega (arith, length-long x size)) in
    let hv = m.word u v.0 hu v.1 in
    let long = length-carried shape (Moves h) m u v.0 (longest Y) hu (omega (arith, length-long x size)) v.1 in
    let s = basis_holds shape Y second.semi.basis v.0 hv long in
    let back = conjugates_turned shape h f g first.pair second.pair c in
    let cycle_back = λ (cycle : IsCycleWord shape g s.above).
    cycle_across second.pair first back v.0 u s.above x hv (moves_turned h u v.0 v.1) s.under cycle infinite.0 (under_after x (ones size)) in
    record {
      letters = ones size;
      of_shape = ones_letters shape size;
      to = v.0;
      moves = v.1;
      above = s.above;
      infinite = (s.listed, λ cycle. infinite.1 (cycle_back cycle));
      under = s.under;
    }

-- what is inside the periodic part is sent inside the periodic part
periodic_sent : {shape : Shape} {f g h : List Row} {X Y P Q : List Word} → IsPair shape f → HasSemiNormal shape g Y → Conjugates shape h f g
    → IsPeriodicPart shape f X P → IsPeriodicPart shape g Y Q → (u v : Word) → IsWordOf shape u → Moves h u v → IsInside shape P u
    → IsInside shape Q v
periodic_sent {shape} {f} {g} {h} {X} {Y} {P} {Q} pair second c part other u v hu m d =
    let hv = (moves_map shape h c.pair).ahead.word u v hu m in
    record {
      word = hv;
      letters = max d.letters (longest Y);
      under = λ y hy l.
          let s = d.under y hy (omega arith) in
          let t = basis_holds shape Y second.semi.basis (v · y) (word_after shape v y hv hy) (omega (arith, length-after v y)) in
          let cycle = cycle_across pair second c (u · y) (v · y) s.above t.above (word_after shape u y hu hy) (moves_extends h u v y m) s.under
          ((part.same s.above).0 s.listed).1 t.listed t.under in
          some_at Q t.above (v · y) ((other.same t.above).1 (t.listed, cycle)) t.under;
    }

-- a conjugator sends what is inside the periodic part inside the periodic part, and nothing else
pub periodic_sends : {shape : Shape} {f g h : List Row} {X Y P Q : List Word} → HasSemiNormal shape f X → HasSemiNormal shape g Y
    → Conjugates shape h f g
    → IsPeriodicPart shape f X P → IsPeriodicPart shape g Y Q → SendsInside shape h P Q
periodic_sends {shape} {f} {g} {h} first second c part other =
    let turned_c = conjugates_turned shape h f g first.pair second.pair c in
    record {
      same = λ u v hu m. (
        periodic_sent first.pair second c part other u v hu m,
        periodic_sent second.pair first turned_c other part v u ((moves_map shape h c.pair).ahead.word u v hu m) (moves_turned h u v m),
      );
    }

-- an element keeps its periodic part
pub periodic_piece : {shape : Shape} {f : List Row} {X P : List Word} → HasSemiNormal shape f X → IsPeriodicPart shape f X P → IsPiece shape f P
periodic_piece first part = sends_kept first.pair (periodic_sends first first (conjugates_itself first.pair) part part)

-- where elements are conjugate, some rows conjugate between their periodic parts
pub periodic_restricted : {shape : Shape} {f g h : List Row} {X Y P Q : List Word} → HasSemiNormal shape f X → HasSemiNormal shape g Y
    → Conjugates shape h f g
    → IsPeriodicPart shape f X P → IsPeriodicPart shape g Y Q → (q : List Row) × ConjugatesOn shape q f P g Q
periodic_restricted first second c part other = cut_conjugates (periodic_piece first part) second.pair c (periodic_sends first second c part other)
