-- Relations that replace prefixes of the words inside a part, as the moves of rows between two parts and all that is composed of them.
use Rattle.std.proofs.Common.{◌≡◌, ℕ, ◌+◌, ◌≤◌, List, length, max, drop, refl, sym, ap, ◌∙◌, subst, arith, ℤ, neg_ℤ}
use Rattle.std.proofs.lemmas.List.{length-drop}
use Rattle.std.proofs.lemmas.List.Elements.{All-contains}
use Rattle.ht_word.specs.Words.{◌·◌, IsLetters, IsWordOf, IsUnderSome}
use Rattle.ht_word.specs.declared.shape.Shape.{Shape}
use Rattle.ht_word.specs.declared.word.Word.{Word}
use Rattle.ht_word.proofs.ListLaws.{Contains-map, contained_in_map}
use Rattle.ht_word.proofs.WordLaws.{length-after, word_after, word_front, word_rest}
use Rattle.ht_pair.specs.Actions.{Moves}
use Rattle.ht_pair.specs.Bases.{Covers, longest}
use Rattle.ht_pair.specs.Pairs.{IsPair, from_words, to_words, turned}
use Rattle.ht_pair.specs.Steps.{Steps}
use Rattle.ht_pair.specs.declared.row.Row.{Row}
use Rattle.ht_pair.proofs.BasisLaws.{covers_long, front, front_is, length-front, some_shorter}
use Rattle.ht_pair.proofs.CarriesLaws.{carries_back, carries_from_steps}
use Rattle.ht_pair.proofs.MovesLaws.{from_words-turned, moves_back, moves_extends, moves_single, moves_turned, to_words-turned}
use Rattle.ht_pair.proofs.PrefixMapLaws.{Then, back, length-carried}
use Rattle.ht_pair.proofs.StepsLaws.{steps_map}
use Rattle.ht_pieces.specs.Pieces.{IsInside, IsKept}
use Rattle.ht_pieces.proofs.InsideLaws.{inside_covered, inside_extends, inside_from_under, inside_long}
use Rattle.ht_pieces.proofs.KeptLaws.{kept_carries, kept_steps}

-- F is a bijection of the long words inside V and those inside W, and what follows a prefix stays
pub record IsPartMap (shape : Shape) (V W : List Word) (F : Word → Word → Type 0) : Type 0 where
  pub extends : (u v : Word) (z : List ℕ) → F u v → F (u · z) (v · z)
  pub single : (u v v' : Word) → IsWordOf shape u → F u v → F u v' → v ≡ v'
  pub single_back : (u u' v : Word) → IsWordOf shape v → F u v → F u' v → u ≡ u'
  pub inside : (u v : Word) → IsWordOf shape u → F u v → IsInside shape V u × IsInside shape W v
  pub word_back : (u v : Word) → IsWordOf shape v → F u v → IsWordOf shape u
  pub bound : ℕ
  pub total : (u : Word) → IsInside shape V u → bound ≤ length u.letters → (v : Word) × F u v
  pub onto : (v : Word) → IsInside shape W v → bound ≤ length v.letters → (u : Word) × F u v

-- the other way round
pub map_turn : {shape : Shape} {V W : List Word} {F : Word → Word → Type 0} → IsPartMap shape V W F → IsPartMap shape W V (back F)
map_turn m = record {
  extends = λ v u z. m.extends u v z;
  single = λ v u u'. m.single_back u u' v;
  single_back = λ v v' u. m.single u v v';
  inside = λ v u hv s. let d = m.inside u v (m.word_back u v hv s) s in (d.1, d.0);
  word_back = λ v u hu s. (m.inside u v hu s).1.word;
  bound = m.bound;
  total = m.onto;
  onto = m.total;
}

-- each word inside V is sent somewhere behind enough letters
pub sent_long : {shape : Shape} {V W : List Word} {F : Word → Word → Type 0} → (m : IsPartMap shape V W F) → (u : Word) → IsInside shape V u → (y : List ℕ) → IsLetters shape y
    → m.bound ≤ length y → (v : Word) × F (u · y) v
sent_long m u d y hy l = m.total (u · y) (inside_extends d y hy) (omega (arith, length-after u y))

-- a long word is sent to a long word
pub length-sent : {shape : Shape} {V W : List Word} {F : Word → Word → Type 0} → (m : IsPartMap shape V W F) → (u v : Word) (k : ℕ) → IsWordOf shape u → F u v
    → max m.bound (longest V) + k ≤ length u.letters → k ≤ length v.letters
length-sent {shape} {V} {W} {F} m u v k hu sent l =
    let b = max m.bound (longest V) in
    let s = front u b in
    let z = drop b u.letters in
    let e : u ≡ s · z = front_is u b in
    let hs : length s.letters ≡ b = length-front u b (omega arith) in
    let under : IsUnderSome s V = some_shorter V s z (omega arith) (subst (λ t. IsUnderSome t V) e (inside_long (m.inside u v hu sent).0 (omega arith))) in
    let t = m.total s (inside_from_under shape V s (front_word shape u b hu) under) (omega arith) in
    let same : v ≡ t.0 · z = m.single u v (t.0 · z) hu sent (subst (λ w. F w (t.0 · z)) (sym e) (m.extends s t.0 z t.1)) in
    omega (arith, ap (λ (w : Word). length w.letters) same, length-after t.0 z, length-drop b u.letters)
  where
    front_word : (shape : Shape) (u : Word) (k : ℕ) → IsWordOf shape u → IsWordOf shape (front u k)
    front_word shape u k h = word_front shape (front u k) (drop k u.letters) (subst (IsWordOf shape) (front_is u k) h)

-- and comes from a long word
pub length-came : {shape : Shape} {V W : List Word} {F : Word → Word → Type 0} → (m : IsPartMap shape V W F) → (u v : Word) (k : ℕ) → IsWordOf shape v → F u v
    → max m.bound (longest W) + k ≤ length v.letters → k ≤ length u.letters
unfolding map_turn
length-came m u v k hv sent l = length-sent (map_turn m) v u k hv sent l

-- ---- rows

-- rows move the long words inside a list that their `from` words cover
pub rows_total : (shape : Shape) (h : List Row) (V : List Word) → Covers shape (from_words h) V → (u : Word) → IsInside shape V u
    → max (longest (from_words h)) (longest V) ≤ length u.letters → (v : Word) × Moves h u v
rows_total shape h V covers u d l =
    let s = (covers_long shape (from_words h) V covers u d.word l).1 (inside_long d (omega arith)) in
    let r = contained_in_map (λ (t : Row). t.from) h s.above s.listed in
    (r.0.to · s.under.rest, record { row = r.0; rest = s.under.rest; listed = r.1; from = s.under.is ∙ ap (λ t. t · s.under.rest) (sym r.2); to = refl })

-- they move words inside it alone
pub rows_inside : (shape : Shape) (h : List Row) (V : List Word) → Covers shape (from_words h) V → (u v : Word) → IsWordOf shape u → Moves h u v → IsInside shape V u
rows_inside shape h V covers u v hu m = subst (IsInside shape V) (sym m.from)
    (inside_extends (inside_covered shape (from_words h) V covers m.row.from (Contains-map (λ (t : Row). t.from) h m.row m.listed)) m.rest (word_rest shape m.row.from m.rest (subst (IsWordOf shape) m.from hu)))

-- the moves of rows from V to W
pub part_map : (shape : Shape) (h : List Row) (V W : List Word) → Covers shape (from_words h) V → Covers shape (to_words h) W → IsPartMap shape V W (Moves h)
part_map shape h V W from to =
    let turned_from : Covers shape (from_words (turned h)) W = subst (λ U. Covers shape U W) (sym (from_words-turned h)) to in
    let word : (u v : Word) → IsWordOf shape u → Moves h u v → IsWordOf shape v = λ u v hu m. moved_word h W to u v hu m in
    record {
      extends = moves_extends h;
      single = λ u v v' hu. moves_single h from.prefix_free u v v';
      single_back = λ u u' v hv m n. moves_single (turned h) turned_from.prefix_free v u u' (moves_turned h u v m) (moves_turned h u' v n);
      inside = λ u v hu m. (rows_inside shape h V from u v hu m, rows_inside shape (turned h) W turned_from v u (word u v hu m) (moves_turned h u v m));
      word_back = λ u v hv m. moved_word (turned h) V (subst (λ U. Covers shape U V) (sym (to_words-turned h)) from) v u hv (moves_turned h u v m);
      bound = max (max (longest (from_words h)) (longest (to_words h))) (max (longest V) (longest W));
      total = λ u d l. rows_total shape h V from u d (omega arith);
      onto = λ v d l. let u = rows_total shape (turned h) W turned_from v d (shorter h l) in (u.0, moves_back h u.0 v u.1);
    }
  where
    moved_word : (h : List Row) (W : List Word) → Covers shape (to_words h) W → (u v : Word) → IsWordOf shape u → Moves h u v → IsWordOf shape v
    moved_word h W to u v hu m = subst (IsWordOf shape) (sym m.to) (word_after shape m.row.to m.rest
        (All-contains (IsWordOf shape) (to_words h) m.row.to to.words (Contains-map (λ (t : Row). t.to) h m.row m.listed))
        (word_rest shape m.row.from m.rest (subst (IsWordOf shape) m.from hu)))

    shorter : (h : List Row) {k : ℕ} → max (max (longest (from_words h)) (longest (to_words h))) (max (longest V) (longest W)) ≤ k → max (longest (from_words (turned h))) (longest W) ≤ k
    shorter h {k} l = omega (arith, ap longest (from_words-turned h))

-- ---- with steps behind it

-- F and then steps of a pair that keeps W
pub map_then : {shape : Shape} {V W : List Word} {F : Word → Word → Type 0} {g : List Row} → IsPartMap shape V W F → IsPair shape g → IsKept shape g (IsInside shape W) → (i : ℤ)
    → IsPartMap shape V W (Then F (Steps g i))
map_then {shape} {V} {W} {F} {g} m pair kept i =
    let s = steps_map shape g pair i in
    record {
      extends = λ u w z t. record { middle = t.middle · z; first = m.extends u t.middle z t.first; second = s.ahead.extends t.middle w z t.second };
      single = λ u w w' hu t t'.
          let same : t'.middle ≡ t.middle = m.single u t'.middle t.middle hu t'.first t.first in
          s.ahead.single t.middle w w' (m.inside u t.middle hu t.first).1.word t.second (subst (λ x. Steps g i x w') same t'.second);
      single_back = λ u u' w hw t t'.
          let same : t'.middle ≡ t.middle = s.behind.single w t'.middle t.middle hw t'.second t.second in
          m.single_back u u' t.middle (s.behind.word w t.middle hw t.second) t.first (subst (F u') same t'.first);
      inside = λ u w hu t. let d = m.inside u t.middle hu t.first in (d.0, kept_steps pair kept i t.middle w d.1 t.second);
      word_back = λ u w hw t. m.word_back u t.middle (s.behind.word w t.middle hw t.second) t.first;
      bound = (max m.bound (longest V) + s.ahead.bound) + (s.behind.bound + m.bound);
      total = λ u d l.
          let v = m.total u d (omega arith) in
          let w = s.ahead.total v.0 (m.inside u v.0 d.word v.1).1.word (length-sent m u v.0 s.ahead.bound d.word v.1 (omega arith)) in
          (w.0, record { middle = v.0; first = v.1; second = w.1 });
      onto = λ w d l.
          let v = s.behind.total w d.word (omega arith) in
          let hv = s.behind.word w v.0 d.word v.1 in
          let inside = kept_carries pair kept (neg_ℤ i) w v.0 d (carries_back shape g pair i v.0 w (carries_from_steps shape g pair i v.0 w hv v.1)) in
          let u = m.onto v.0 inside (length-carried shape (back (Steps g i)) s.behind w v.0 m.bound d.word (omega arith) v.1) in
          (u.0, record { middle = v.0; first = u.1; second = v.1 });
    }
