-- The same groups, moved at two lists of words, are conjugate by what sends the one list to the other.
use Rattle.std.proofs.Common.{◌≡◌, ℕ, zero, suc, ◌+◌, ◌*◌, ◌%◌, Bool, true, false, cond, eqb, inl, inr, List, [], ◌∷◌, ◌++◌, take, drop, map, refl, sym, ap, ◌∙◌, subst, subst₂, arith, All, Contains}
use Rattle.std.proofs.lemmas.List.{take-map, drop-map}
use Rattle.std.proofs.lemmas.List.Elements.{All-head, All-tail, All-take, All-drop, Contains-append_left, Contains-append_right, Contains-append_cases}
use Rattle.ht_word.specs.Words.{◌·◌, child}
use Rattle.ht_word.specs.declared.shape.Shape.{Shape}
use Rattle.ht_word.specs.declared.word.Word.{Word}
use Rattle.ht_word.proofs.ListLaws.{Contains-nil, Contains-here, Contains-there, Contains-cons_cases}
use Rattle.ht_word.proofs.WordLaws.{after_cancel_right, ones}
use Rattle.ht_pair.specs.Actions.{Moves, IsCanonicalFor}
use Rattle.ht_pair.specs.Conjugacy.{Conjugates}
use Rattle.ht_pair.specs.Pairs.{IsPair, from_words, to_words}
use Rattle.ht_pair.specs.declared.row.Row.{Row}
use Rattle.ht_pair.proofs.MovesLaws.{moves_extends, moves_map}
use Rattle.ht_pair.proofs.PrefixMapLaws.{long_word, moved_long}
use Rattle.ht_sample.specs.Groups.{turn_from, turn, exchange, drift, wheel, in_twos, in_fours, group_rows, groups}

-- F sends both words of the row to those of a row of q
pub record IsRowSent (F : Word → Word → Type 0) (row : Row) (q : List Row) : Type 0 where
  pub image : Row
  pub listed : Contains q image
  pub from : F row.from image.from
  pub to : F row.to image.to

-- F sends each row of p so
pub record AreRowsSent (F : Word → Word → Type 0) (p q : List Row) : Type 0 where
  pub at : (row : Row) → Contains p row → IsRowSent F row q

-- F sends the `from` word of the row to its `to` word
abbrev Follows : (Word → Word → Type 0) → Row → Type 0
Follows F row = F row.from row.to

-- F keeps the letters behind a word
abbrev Extends : (Word → Word → Type 0) → Type 0
Extends F = (u v : Word) (z : List ℕ) → F u v → F (u · z) (v · z)

sent_nil : (F : Word → Word → Type 0) → AreRowsSent F [] []
sent_nil F = record { at = λ row c. absurd (Contains-nil row c) }

sent_cons : (F : Word → Word → Type 0) (u v s t : Word) (p q : List Row) → F u v → F s t → AreRowsSent F p q → AreRowsSent F (record { from = u; to = s } ∷ p) (record { from = v; to = t } ∷ q)
sent_cons F u v s t p q f g rest = record {
  at = λ row c. elim (Contains-cons_cases (record { from = u; to = s }) p row c) [
    | inl e ↦ record { image = record { from = v; to = t }; listed = Contains-here (record { from = v; to = t }) q; from = subst (λ (r : Row). F r.from v) e f; to = subst (λ (r : Row). F r.to t) e g }
    | inr d ↦ (let h = rest.at row d in record { image = h.image; listed = Contains-there (record { from = v; to = t }) q h.image h.listed; from = h.from; to = h.to })
  ];
}

sent_then : (F : Word → Word → Type 0) (p q s t : List Row) → AreRowsSent F p q → AreRowsSent F s t → AreRowsSent F (p ++ s) (q ++ t)
sent_then F p q s t first second = record {
  at = λ row c. elim (Contains-append_cases p s row c) [
    | inl d ↦ (let h = first.at row d in record { image = h.image; listed = Contains-append_left q t h.image h.listed; from = h.from; to = h.to })
    | inr d ↦ (let h = second.at row d in record { image = h.image; listed = Contains-append_right q t h.image h.listed; from = h.from; to = h.to })
  ];
}

-- ---- groups, of the `from` words and of the `to` words of some rows

sent_turn : (F : Word → Word → Type 0) (first u : Row) (L : List Row) → Follows F first → Follows F u → All (Follows F) L → AreRowsSent F (turn_from first.from u.from (from_words L)) (turn_from first.to u.to (to_words L))
sent_turn F first u [] f g all = sent_cons F u.from u.to first.from first.to [] [] g f (sent_nil F)
sent_turn F first u (v ∷ L) f g all =
    let h = All-head (Follows F) v L all in
    sent_cons F u.from u.to v.from v.to _ _ g h (sent_turn F first v L f h (All-tail (Follows F) v L all))

sent_turned : (F : Word → Word → Type 0) (L : List Row) → All (Follows F) L → AreRowsSent F (turn (from_words L)) (turn (to_words L))
sent_turned F [] all = sent_nil F
sent_turned F (u ∷ L) all = let h = All-head (Follows F) u L all in sent_turn F u u L h h (All-tail (Follows F) u L all)

sent_exchange : (F : Word → Word → Type 0) (u v : Row) → Follows F u → Follows F v → AreRowsSent F (exchange u.from v.from) (exchange u.to v.to)
sent_exchange F u v f g = sent_cons F u.from u.to v.from v.to _ _ f g (sent_cons F v.from v.to u.from u.to [] [] g f (sent_nil F))

sent_drift : (F : Word → Word → Type 0) → Extends F → (u v : Row) → Follows F u → Follows F v → AreRowsSent F (drift u.from v.from) (drift u.to v.to)
sent_drift F more u v f g =
    let u1 = more u.from u.to (1 ∷ []) f in
    let u2 = more u.from u.to (2 ∷ []) f in
    let v1 = more v.from v.to (1 ∷ []) g in
    let v2 = more v.from v.to (2 ∷ []) g in
    sent_cons F u.from u.to (child u.from 1) (child u.to 1) _ _ f u1
    (sent_cons F (child v.from 1) (child v.to 1) (child u.from 2) (child u.to 2) _ _ v1 u2
    (sent_cons F (child v.from 2) (child v.to 2) v.from v.to [] [] v2 g (sent_nil F)))

sent_wheel : (F : Word → Word → Type 0) → Extends F → (t u v y : Row) → Follows F t → Follows F u → Follows F v → Follows F y → AreRowsSent F (wheel t.from u.from v.from y.from) (wheel t.to u.to v.to y.to)
sent_wheel F more t u v y e f g h =
    let t1 = more t.from t.to (1 ∷ []) e in
    let t2 = more t.from t.to (2 ∷ []) e in
    let y1 = more y.from y.to (1 ∷ []) h in
    let y2 = more y.from y.to (2 ∷ []) h in
    sent_cons F t.from t.to u.from u.to _ _ e f
    (sent_cons F u.from u.to (child t.from 1) (child t.to 1) _ _ f t1
    (sent_cons F v.from v.to y.from y.to _ _ g h
    (sent_cons F (child y.from 1) (child y.to 1) (child t.from 2) (child t.to 2) _ _ y1 t2
    (sent_cons F (child y.from 2) (child y.to 2) v.from v.to [] [] y2 g (sent_nil F)))))

sent_twos : (F : Word → Word → Type 0) (f : Word → Word → List Row) → ((u v : Row) → Follows F u → Follows F v → AreRowsSent F (f u.from v.from) (f u.to v.to)) → (L : List Row) → All (Follows F) L → AreRowsSent F (in_twos f (from_words L)) (in_twos f (to_words L))
sent_twos F f each [] all = sent_nil F
sent_twos F f each (u ∷ []) all = sent_nil F
sent_twos F f each (u ∷ v ∷ L) all =
    let behind = All-tail (Follows F) u (v ∷ L) all in
    sent_then F (f u.from v.from) (f u.to v.to) (in_twos f (from_words L)) (in_twos f (to_words L)) (each u v (All-head (Follows F) u (v ∷ L) all) (All-head (Follows F) v L behind)) (sent_twos F f each L (All-tail (Follows F) v L behind))

sent_fours : (F : Word → Word → Type 0) (f : Word → Word → Word → Word → List Row) → ((t u v y : Row) → Follows F t → Follows F u → Follows F v → Follows F y → AreRowsSent F (f t.from u.from v.from y.from) (f t.to u.to v.to y.to)) → (L : List Row) → All (Follows F) L → AreRowsSent F (in_fours f (from_words L)) (in_fours f (to_words L))
sent_fours F f each [] all = sent_nil F
sent_fours F f each (t ∷ []) all = sent_nil F
sent_fours F f each (t ∷ u ∷ []) all = sent_nil F
sent_fours F f each (t ∷ u ∷ v ∷ []) all = sent_nil F
sent_fours F f each (t ∷ u ∷ v ∷ y ∷ L) all =
    let behind_t = All-tail (Follows F) t (u ∷ v ∷ y ∷ L) all in
    let behind_u = All-tail (Follows F) u (v ∷ y ∷ L) behind_t in
    let behind_v = All-tail (Follows F) v (y ∷ L) behind_u in
    sent_then F (f t.from u.from v.from y.from) (f t.to u.to v.to y.to) (in_fours f (from_words L)) (in_fours f (to_words L))
    (each t u v y (All-head (Follows F) t (u ∷ v ∷ y ∷ L) all) (All-head (Follows F) u (v ∷ y ∷ L) behind_t) (All-head (Follows F) v (y ∷ L) behind_u) (All-head (Follows F) y L behind_v))
    (sent_fours F f each L (All-tail (Follows F) y L behind_v))

-- what holds of both pairs holds of the pair that is chosen
chosen_pair : {T : Type 0} (P : T → T → Type 0) (b : Bool) (x y x' y' : T) → P x x' → P y y' → P (cond b x y) (cond b x' y')
chosen_pair P true x y x' y' h g = h
chosen_pair P false x y x' y' h g = g

sent_group : (F : Word → Word → Type 0) → Extends F → (k : ℕ) (L : List Row) → All (Follows F) L → AreRowsSent F (group_rows k (from_words L)) (group_rows k (to_words L))
unfolding group_rows
sent_group F more k L all =
    let P = AreRowsSent F in
    chosen_pair P (eqb (k % 4) 0) (turn (from_words L)) _ (turn (to_words L)) _ (sent_turned F L all)
    (chosen_pair P (eqb (k % 4) 1) (in_twos exchange (from_words L)) _ (in_twos exchange (to_words L)) _ (sent_twos F exchange (sent_exchange F) L all)
    (chosen_pair P (eqb (k % 4) 2) (in_twos drift (from_words L)) (in_fours wheel (from_words L)) (in_twos drift (to_words L)) (in_fours wheel (to_words L)) (sent_twos F drift (sent_drift F more) L all) (sent_fours F wheel (sent_wheel F more) L all)))

pub sent_groups : (F : Word → Word → Type 0) → Extends F → (k : ℕ) (L : List Row) → All (Follows F) L → AreRowsSent F (groups k (from_words L)) (groups k (to_words L))
unfolding groups
sent_groups F more zero L all = sent_nil F
sent_groups F more (suc k) L all =
    let part = take 8 (drop (8 * k) L) in
    let cut : (f : Row → Word) → take 8 (drop (8 * k) (map f L)) ≡ map f part = λ f. ap (λ t. take 8 t) (drop-map f (8 * k) L) ∙ take-map f 8 (drop (8 * k) L) in
    sent_then F (groups k (from_words L)) (groups k (to_words L)) _ _ (sent_groups F more k L all)
    (subst₂ (λ (X Y : List Word). AreRowsSent F (group_rows k X) (group_rows k Y)) (sym (cut (λ row. row.from))) (sym (cut (λ row. row.to)))
    (sent_group F more k part (All-take (Follows F) 8 (drop (8 * k) L) (All-drop (Follows F) (8 * k) L all))))

-- ---- conjugacy

-- where a pair sends the rows of A to rows of C, its canonical pair conjugates that of A into that of C
pub sent_conjugates : (shape : Shape) (H A C h a c : List Row) → IsPair shape H → IsPair shape A → IsCanonicalFor shape h H → IsCanonicalFor shape a A → IsCanonicalFor shape c C → AreRowsSent (Moves H) A C → Conjugates shape h a c
sent_conjugates shape H A C h a c pair_H pair_A h_is a_is c_is sent = record {
  pair = h_is.form.pair;
  commutes = λ u u' v v' w word f e k l.
      let mH = (moves_map shape H pair_H).ahead in
      let mA = (moves_map shape A pair_A).ahead in
      let n = mH.bound + mA.bound in
      let z = ones n in
      let word' = (moves_map shape a a_is.form.pair).ahead.word u u' word f in
      let word_v = (moves_map shape h h_is.form.pair).ahead.word u v word k in
      let long = long_word shape u n word in
      let long' = long_word shape u' n word' in
      -- A sends the long word on to x, and H sends both to y and y'
      let x = moved_long shape (Moves A) mA u n word (omega arith) in
      let y = moved_long shape (Moves H) mH u n word (omega arith) in
      let y' = moved_long shape (Moves H) mH u' n word' (omega arith) in
      let x_is : u' · z ≡ x.0 = a_is.alike (u · z) (u' · z) x.0 long (moves_extends a u u' z f) x.1 in
      let y_is : v · z ≡ y.0 = h_is.alike (u · z) (v · z) y.0 long (moves_extends h u v z k) y.1 in
      let y'_is : v' · z ≡ y'.0 = h_is.alike (u' · z) (v' · z) y'.0 long' (moves_extends h u' v' z e) y'.1 in
      let rest = x.1.rest in
      let s = sent.at x.1.row x.1.listed in
      let first : y.0 ≡ s.image.from · rest = mH.single (u · z) y.0 (s.image.from · rest) long y.1 (subst (λ t. Moves H t (s.image.from · rest)) (sym x.1.from) (moves_extends H x.1.row.from s.image.from rest s.from)) in
      let second : y'.0 ≡ s.image.to · rest = mH.single (u' · z) y'.0 (s.image.to · rest) long' y'.1 (subst (λ t. Moves H t (s.image.to · rest)) (sym (x_is ∙ x.1.to)) (moves_extends H x.1.row.to s.image.to rest s.to)) in
      let there : Moves C (v · z) (s.image.to · rest) = record { row = s.image; rest = rest; listed = s.listed; from = y_is ∙ first; to = refl } in
      let last : w · z ≡ s.image.to · rest = c_is.alike (v · z) (w · z) (s.image.to · rest) (long_word shape v n word_v) (moves_extends c v w z l) there in
      after_cancel_right w v' z (last ∙ sym second ∙ sym y'_is);
}
