-- Points of words that k steps lengthen by z again and again, over a semi-normal basis X of p: one word of X has such a word with some number of z
-- behind it under it. It is an attractor, whose period divides k, with as many letters a step; so is a repeller where k steps back lengthen.
use Rattle.std.proofs.Common.{◌≡◌, ◌≢◌, ℕ, zero, suc, ◌+◌, ◌-◌, ◌*◌, ◌≤◌, ◌⊎◌, inl, inr, List, [], ◌∷◌, ◌++◌, length, refl, sym, ap, ◌∙◌, subst, subst₂, arith, append_assoc, Contains, pos, neg_ℤ}
use Rattle.std.proofs.lemmas.List.{append-nil, length-append}
use Rattle.std.proofs.lemmas.List.Elements.{All-nil}
use Rattle.ht_word.specs.Words.{◌·◌, IsLetter, IsLetters, IsWordOf, IsUnder}
use Rattle.ht_word.specs.declared.shape.Shape.{Shape}
use Rattle.ht_word.specs.declared.word.Word.{Word}
use Rattle.ht_word.proofs.WordLaws.{after-append, length-after, letters_append, under_trans, word_after, word_rest}
use Rattle.ht_pair.specs.Bases.{IsBasis, longest}
use Rattle.ht_pair.specs.Kinds.{Lengthens, IsAttractor, IsRepeller}
use Rattle.ht_pair.specs.Repeats.{repeated}
use Rattle.ht_pair.specs.SemiNormal.{StaysAhead}
use Rattle.ht_pair.specs.Steps.{Carries}
use Rattle.ht_pair.specs.declared.row.Row.{Row}
use Rattle.ht_pair.proofs.BasisLaws.{basis_holds, basis_single}
use Rattle.ht_pair.proofs.CarriesLaws.{carries_word, carries_extends}
use Rattle.ht_pair.proofs.KindLaws.{length-repeated}
use Rattle.ht_types.specs.Points.{HasPoint}
use Rattle.ht_types.proofs.AttractorLaws.{lengthened_ahead, repeated_none, repeated_next, repeated_first, periods_of}
use Rattle.ht_types.proofs.FlowLaws.{turned_base}
use Rattle.ht_types.proofs.MirrorLaws.{attractor_repeller, turned_mirrors}
use Rattle.ht_types.proofs.PeriodicLaws.{carried_further}
use Rattle.ht_types.proofs.TurnLaws.{HasSemiNormal, grows_attractor}

-- ---- letters again and again

pub repeated_length : (s : ℕ) (G : List ℕ) → length (repeated s G) ≡ s * length G
repeated_length zero G = ap (λ (t : List ℕ). length t) (repeated_none G) ∙ omega arith
repeated_length (suc s) G = omega (arith, ap (λ (t : List ℕ). length t) (repeated_next s G), length-append (repeated s G) G, repeated_length s G)

repeated_letters : (shape : Shape) (s : ℕ) (G : List ℕ) → IsLetters shape G → IsLetters shape (repeated s G)
repeated_letters shape zero G h = subst (IsLetters shape) (sym (repeated_none G)) (All-nil (IsLetter shape))
repeated_letters shape (suc s) G h = subst (IsLetters shape) (sym (repeated_next s G)) (letters_append shape (repeated s G) G (repeated_letters shape s G h) h)

-- some letters j times, and then d times
repeated_more : (j d : ℕ) (G : List ℕ) → repeated (j + d) G ≡ repeated j G ++ repeated d G
repeated_more j zero G = ap (λ i. repeated i G) (plain j) ∙ sym (append-nil (repeated j G)) ∙ ap (λ t. repeated j G ++ t) (sym (repeated_none G))
  where
    plain : (j : ℕ) → j + 0 ≡ j
    plain j = omega arith
repeated_more j (suc d) G = ap (λ i. repeated i G) (more j d) ∙ repeated_next (j + d) G ∙ ap (λ t. t ++ G) (repeated_more j d G) ∙ append_assoc (repeated j G) (repeated d G) G ∙ ap (λ t. repeated j G ++ t) (sym (repeated_next d G))
  where
    more : (j d : ℕ) → j + suc d ≡ suc (j + d)
    more j d = omega arith

-- what is under a word with some letters a number of times behind it, is so with more
under_more : (v y : Word) (z : List ℕ) (j i : ℕ) → j ≤ i → IsUnder (v · repeated j z) y → IsUnder (v · repeated i z) y
under_more v y z j i l under =
    let d = i - j in
    let whole : j + d ≡ i = omega arith in
    let longer : v · repeated i z ≡ (v · repeated j z) · repeated d z = ap (λ k. v · repeated k z) (sym whole) ∙ ap (λ t. v · t) (repeated_more j d z) ∙ sym (after-append v (repeated j z) (repeated d z)) in
    under_trans (record { rest = repeated d z; is = longer }) under

-- so a basis has one word at most above all of them
one_above : (shape : Shape) (X : List Word) → IsBasis shape X → (v x y : Word) (z : List ℕ) (i j : ℕ) → Contains X x → Contains X y → IsUnder (v · repeated i z) x → IsUnder (v · repeated j z) y → y ≡ x
one_above shape X basis v x y z i j c e under_x under_y = elim (either i j) [
  | inl l ↦ basis_single shape X basis (v · repeated j z) y x e c under_y (under_more v x z i j l under_x)
  | inr l ↦ basis_single shape X basis (v · repeated i z) y x e c (under_more v y z j i l under_y) under_x
]
  where
    either : (i j : ℕ) → (i ≤ j) ⊎ (j ≤ i)
    either i j = grind arith

-- ---- the word of X above the point

-- k steps lengthen a word of X that stays ahead by as many letters as z has, and v with z some times behind it is under it
record HasSource (shape : Shape) (p : List Row) (X : List Word) (k : ℕ) (v : Word) (z : List ℕ) : Type 0 where
  source : Word
  listed : Contains X source
  times : ℕ
  under : IsUnder (v · repeated times z) source
  ahead : StaysAhead shape p X source
  by : List ℕ
  lengthens : Lengthens shape p (pos k) source by
  as_many : length by ≡ length z

source_of : {shape : Shape} {p : List Row} {X : List Word} → HasSemiNormal shape p X → (v : Word) (k : ℕ) (z : List ℕ) → z ≢ [] → Carries shape p (pos k) v (v · z) → HasSource shape p X k v z
source_of {shape} {p} {X} h v k z some carries =
    let s = longest X in
    let r = repeated s z in
    let hr = repeated_letters shape s z (word_rest shape v z (carries_word shape p h.pair (pos k) v (v · z) carries)) in
    let hv = word_after shape v r carries.word hr in
    let above = basis_holds shape X h.semi.basis (v · r) hv (omega (arith, length-after v r, length-repeated s z some)) in
    let x = above.above in
    let y = above.under.rest in
    let moved : Carries shape p (pos k) (x · y) (x · (y ++ z)) = subst₂ (Carries shape p (pos k)) above.under.is (round x y r above.under.is (sym (repeated_first s z) ∙ repeated_next s z)) (carries_extends shape p (pos k) v (v · z) r hr carries) in
    let hy = word_rest shape x y (subst (IsWordOf shape) above.under.is hv) in
    let ahead = lengthened_ahead h k x y z above.listed some moved in
    let f = carried_further shape p h.pair X h.semi.basis (pos k) x x y (y ++ z) above.listed hy (ahead k) moved in
    record {
      source = x;
      listed = above.listed;
      times = s;
      under = above.under;
      ahead = ahead;
      by = f.letters;
      lengthens = ((λ e. some (nothing f.letters y f.is e)), f.carries);
      as_many = as_long f.letters y f.is;
    }
  where
    round : (x : Word) (y r : List ℕ) → v · r ≡ x · y → z ++ r ≡ r ++ z → (v · z) · r ≡ x · (y ++ z)
    round x y r is turn = after-append v z r ∙ ap (λ t. v · t) turn ∙ sym (after-append v r z) ∙ ap (λ t. t · z) is ∙ after-append x y z

    as_long : (f y : List ℕ) → f ++ y ≡ y ++ z → length f ≡ length z
    as_long f y e = omega (arith, length-append f y, length-append y z, ap (λ (t : List ℕ). length t) e)

    nothing : (f y : List ℕ) → f ++ y ≡ y ++ z → f ≡ [] → z ≡ []
    nothing f y e none = empty z (sym (as_long f y e) ∙ ap (λ (t : List ℕ). length t) none)
      where
        empty : (z : List ℕ) → length z ≡ 0 → z ≡ []
        empty [] l = refl
        empty (a ∷ z) l = absurd (omega arith)

pub point_ahead : {shape : Shape} {p : List Row} {X : List Word} → HasSemiNormal shape p X → (v : Word) (k : ℕ) (z : List ℕ) → 1 ≤ k → z ≢ [] → Carries shape p (pos k) v (v · z) → HasPoint (IsAttractor shape p) X v k z
point_ahead {shape} {p} {X} h v k z positive some carries =
    let s = source_of h v k z some carries in
    let a = grows_attractor h k s.source s.by positive s.ahead s.lengthens in
    let r = periods_of h (record { listed = s.listed; attractor = a.2 }) k s.by s.lengthens.1 in
    record {
      word = s.source;
      listed = s.listed;
      times = s.times;
      under = s.under;
      steps = a.0;
      by = a.1;
      end = a.2;
      rounds = r.count;
      divides = r.steps;
      rate = rate a.0 r.count k (length a.1) (length z) r.steps (sym s.as_many ∙ ap (λ (t : List ℕ). length t) r.letters ∙ repeated_length r.count a.1);
      only = λ y j listed under. one_above shape X h.semi.basis v s.source y z s.times j s.listed listed s.under under;
    }
  where
    rate : (m c k l n : ℕ) → k ≡ c * m → n ≡ c * l → m * n ≡ k * l
    rate m c k l n steps letters = subst₂ (λ i j. m * j ≡ i * l) (sym steps) (sym letters) (plain m c l)
      where
        plain : (m c l : ℕ) → m * (c * l) ≡ (c * m) * l
        plain m c l = omega arith

pub point_behind : {shape : Shape} {p : List Row} {X : List Word} → HasSemiNormal shape p X → (v : Word) (k : ℕ) (z : List ℕ) → 1 ≤ k → z ≢ [] → Carries shape p (neg_ℤ (pos k)) v (v · z) → HasPoint (IsRepeller shape p) X v k z
point_behind {shape} {p} h v k z positive some carries =
    let mirrors = turned_mirrors shape p h.pair in
    let point = point_ahead (turned_base h) v k z positive some (mirrors.from (pos k) v (v · z) carries) in
    record {
      word = point.word;
      listed = point.listed;
      times = point.times;
      under = point.under;
      steps = point.steps;
      by = point.by;
      end = attractor_repeller mirrors point.word point.steps point.by point.end;
      rounds = point.rounds;
      divides = point.divides;
      rate = point.rate;
      only = point.only;
    }
