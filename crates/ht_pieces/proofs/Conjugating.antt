-- Relations that conjugate, on parts: what they conjugate of one step they conjugate of all powers.
use Rattle.std.proofs.Common.{◌≡◌, ℕ, zero, suc, List, ◌++◌, refl, sym, ◌∙◌, subst, arith, ℤ, pos, negsuc, ◌+ℤ◌}
use Rattle.std.proofs.lemmas.Int.{ints}
use Rattle.std.proofs.lemmas.List.{length-append}
use Rattle.ht_word.specs.Words.{◌·◌, IsWordOf}
use Rattle.ht_word.specs.declared.shape.Shape.{Shape}
use Rattle.ht_word.specs.declared.word.Word.{Word}
use Rattle.ht_word.proofs.WordLaws.{after-append, after_cancel_right, length-ones, letters_append, ones, ones_letters, word_after}
use Rattle.ht_pair.specs.Actions.{Moves}
use Rattle.ht_pair.specs.LocalConjugacy.{ConjugatesOn}
use Rattle.ht_pair.specs.Pairs.{IsPair, turned}
use Rattle.ht_pair.specs.Steps.{StepsAhead, Steps, Carries}
use Rattle.ht_pair.specs.declared.row.Row.{Row}
use Rattle.ht_pair.proofs.MovesLaws.{moves_back, moves_extends, moves_map, turned_pair}
use Rattle.ht_pair.proofs.PrefixMapLaws.{Then, back, long_word, moved_long}
use Rattle.ht_pair.proofs.StepsLaws.{steps_add, steps_map, steps_up}
use Rattle.ht_pieces.specs.Pieces.{IsInside, IsKept}
use Rattle.ht_pieces.proofs.KeptLaws.{kept_steps, kept_turned}
use Rattle.ht_pieces.proofs.LongSteps.{steps_long}
use Rattle.ht_pieces.proofs.PartMaps.{IsPartMap, map_then, map_turn, part_map, sent_long}

-- F goes from V, which f keeps, to W, and conjugates what f does inside V into what g does inside W
pub record IsConjugator (shape : Shape) (f g : List Row) (V W : List Word) (F : Word → Word → Type 0) : Type 0 where
  pub first : IsPair shape f
  pub second : IsPair shape g
  pub kept : IsKept shape f (IsInside shape V)
  pub map : IsPartMap shape V W F
  pub commutes : (u u' v v' w : Word) → IsWordOf shape u → Moves f u u' → F u' v' → F u v → Moves g v w → w ≡ v'

-- rows that conjugate on V do
pub rows_conjugate : {shape : Shape} {f g : List Row} {V W : List Word} {h : List Row} → IsPair shape f → IsPair shape g → IsKept shape f (IsInside shape V)
    → ConjugatesOn shape h f V g W → IsConjugator shape f g V W (Moves h)
rows_conjugate {shape} {f} {g} {V} {W} {h} pair_f pair_g kept c =
    let m = part_map shape h V W c.from c.to in
    record {
      first = pair_f;
      second = pair_g;
      kept = kept;
      map = m;
      commutes = λ u u' v v' w hu s t t' r.
          let d = (m.inside u v hu t').0 in
          let y = ones d.letters in
          let hy = ones_letters shape d.letters in
          after_cancel_right w v' y (c.commutes (u · y) (u' · y) (v · y) (v' · y) (w · y) (word_after shape u y hu hy) (d.under y hy (omega (arith, length-ones d.letters)))
          (moves_extends f u u' y s) (moves_extends h u' v' y t) (moves_extends h u v y t') (moves_extends g v w y r));
    }

module _ {shape : Shape} {f g : List Row} {V W : List Word} {F : Word → Word → Type 0} (c : IsConjugator shape f g V W F) where
  -- the word that F sends a word of the shape to
  pub sent_word : (u v : Word) → IsWordOf shape u → F u v → IsWordOf shape v
  sent_word u v hu s = (c.map.inside u v hu s).1.word

  -- the turned rows are conjugated too
  pub turned_conjugate : IsConjugator shape (turned f) (turned g) V W F
  turned_conjugate = record {
    first = turned_pair shape f c.first;
    second = turned_pair shape g c.second;
    kept = kept_turned c.first c.kept;
    map = c.map;
    commutes = λ u u' v v' w hu s t t' r.
        let down = moves_back f u' u s in
        let up = moves_back g w v r in
        let mg = moves_map shape g c.second in
        let hu' = (moves_map shape f c.first).behind.word u u' hu down in
        let hv = sent_word u v hu t' in
        let z = ones mg.ahead.bound in
        let x = moved_long shape (Moves g) mg.ahead v' mg.ahead.bound (sent_word u' v' hu' t) (omega arith) in
        let same : x.0 ≡ v · z = c.commutes (u' · z) (u · z) (v' · z) (v · z) x.0 (long_word shape u' mg.ahead.bound hu') (moves_extends f u' u z down) (c.map.extends u v z t') (c.map.extends u' v' z t) x.1 in
        after_cancel_right w v' z (mg.behind.single (v · z) (w · z) (v' · z) (long_word shape v mg.ahead.bound hv) (moves_extends g w v z up) (subst (Moves g (v' · z)) same x.1));
  }

  -- F the other way round conjugates back
  pub back_conjugate : IsKept shape g (IsInside shape W) → IsConjugator shape g f W V (back F)
  back_conjugate kept = record {
    first = c.second;
    second = c.first;
    kept = kept;
    map = map_turn c.map;
    commutes = λ v v' u u' w hv s t t' r.
        -- g sends v to v', F sends u to v and u' to v', and f sends u to w
        let hu = c.map.word_back u v hv t' in
        let d = c.kept.ahead u w (c.map.inside u v hu t').0 r in
        let z = ones c.map.bound in
        let hz = ones_letters shape c.map.bound in
        let x = sent_long c.map w d z hz (omega (arith, length-ones c.map.bound)) in
        let same : v' · z ≡ x.0 = c.commutes (u · z) (w · z) (v · z) x.0 (v' · z) (word_after shape u z hu hz) (moves_extends f u w z r) x.1 (c.map.extends u v z t') (moves_extends g v v' z s) in
        let hv' = (moves_map shape g c.second).ahead.word v v' hv s in
        after_cancel_right w u' z (c.map.single_back (w · z) (u' · z) (v' · z) (word_after shape v' z hv' hz) (subst (F (w · z)) (sym same) x.1) (c.map.extends u' v' z t));
  }

  -- so does F with steps of g behind it
  pub then_conjugate : IsKept shape g (IsInside shape W) → (i : ℤ) → IsConjugator shape f g V W (Then F (Steps g i))
  then_conjugate kept i = record {
    first = c.first;
    second = c.second;
    kept = c.kept;
    map = map_then c.map c.second kept i;
    commutes = λ u u' v v' w hu s t t' r.
        let mg = (moves_map shape g c.second).ahead in
        let sg = (steps_map shape g c.second i).ahead in
        let hm = sent_word u t'.middle hu t'.first in
        let z = ones mg.bound in
        let long = long_word shape t'.middle mg.bound hm in
        let x = moved_long shape (Moves g) mg t'.middle mg.bound hm (omega arith) in
        let same : x.0 ≡ t.middle · z = c.commutes (u · z) (u' · z) (t'.middle · z) (t.middle · z) x.0 (long_word shape u mg.bound hu) (moves_extends f u u' z s) (c.map.extends u' t.middle z t.first) (c.map.extends u t'.middle z t'.first) x.1 in
        -- one step and then i, and i steps and then one
        let one : Steps g (pos 1) (t'.middle · z) (t.middle · z) = (t'.middle · z, refl, subst (Moves g (t'.middle · z)) same x.1) in
        let first = steps_add shape g c.second (pos 1) i (t'.middle · z) (t.middle · z) (v' · z) long one (sg.extends t.middle v' z t.second) in
        let second = steps_up shape g c.second i (t'.middle · z) (v · z) (w · z) long (sg.extends t'.middle v z t'.second) (moves_extends g v w z r) in
        after_cancel_right w v' z ((steps_map shape g c.second (i +ℤ pos 1)).ahead.single (t'.middle · z) (w · z) (v' · z) long second (subst (λ k. Steps g k (t'.middle · z) (v' · z)) (turn i) first));
  }
    where
      turn : (i : ℤ) → pos 1 +ℤ i ≡ i +ℤ pos 1
      turn i = omega (arith, ints)

  -- k moves of f and then F are F and then k moves of g
  ahead_commute : (k : ℕ) (u u' v v' w : Word) → IsWordOf shape u → StepsAhead f k u u' → F u' v' → F u v → StepsAhead g k v w → w ≡ v'
  ahead_commute zero u u' v v' w hu s t t' r = sym r ∙ c.map.single u v v' hu t' (subst (λ x. F x v') (sym s) t)
  ahead_commute (suc k) u u' v v' w hu s t t' r =
      let sf = (steps_map shape f c.first (pos k)).ahead in
      let sg = (steps_map shape g c.second (pos k)).ahead in
      let d = kept_steps c.first c.kept (pos k) u s.0 (c.map.inside u v hu t').0 s.1 in
      let z = ones c.map.bound in
      let hz = ones_letters shape c.map.bound in
      let x = sent_long c.map s.0 d z hz (omega (arith, length-ones c.map.bound)) in
      let same : r.0 · z ≡ x.0 = ahead_commute k (u · z) (s.0 · z) (v · z) x.0 (r.0 · z) (word_after shape u z hu hz) (sf.extends u s.0 z s.1) x.1 (c.map.extends u v z t') (sg.extends v r.0 z r.1) in
      after_cancel_right w v' z (c.commutes (s.0 · z) (u' · z) x.0 (v' · z) (w · z) (word_after shape s.0 z d.word hz) (moves_extends f s.0 u' z s.2) (c.map.extends u' v' z t) x.1
      (subst (λ y. Moves g y (w · z)) same (moves_extends g r.0 w z r.2)))

-- the same for any whole k
pub steps_commute : {shape : Shape} {f g : List Row} {V W : List Word} {F : Word → Word → Type 0} → IsConjugator shape f g V W F → (k : ℤ) (u u' v v' w : Word) → IsWordOf shape u
    → Steps f k u u' → F u' v' → F u v → Steps g k v w → w ≡ v'
steps_commute c (pos k) = ahead_commute c k
steps_commute c (negsuc k) = ahead_commute (turned_conjugate c) (suc k)

-- where the k-th power of f carries u to u', that of g carries what F sends u to to what F sends u' to
pub conjugate_carries : {shape : Shape} {f g : List Row} {V W : List Word} {F : Word → Word → Type 0} → IsConjugator shape f g V W F → (k : ℤ) (u u' v v' : Word)
    → Carries shape f k u u' → F u v → F u' v' → Carries shape g k v v'
conjugate_carries {shape} {f} {g} {V} {W} {F} c k u u' v v' carries t t' = record {
  word = sent_word c u v carries.word t;
  carried = λ y w hy s.
      let bound = (steps_map shape f c.first k).ahead.bound in
      let z = ones bound in
      let hz = ones_letters shape bound in
      let hyz = letters_append shape y z hy hz in
      let there = steps_long shape f c.first k u u' carries (y ++ z) hyz (omega (arith, length-append y z, length-ones bound)) in
      let long : Steps g k (v · (y ++ z)) (w · z) = subst (λ x. Steps g k x (w · z)) (after-append v y z) ((steps_map shape g c.second k).ahead.extends (v · y) w z s) in
      let same : w · z ≡ v' · (y ++ z) = steps_commute c k (u · (y ++ z)) (u' · (y ++ z)) (v · (y ++ z)) (v' · (y ++ z)) (w · z) (word_after shape u (y ++ z) carries.word hyz) there
      (c.map.extends u' v' (y ++ z) t') (c.map.extends u v (y ++ z) t) long in
      after_cancel_right w (v' · y) z (same ∙ sym (after-append v' y z));
}
