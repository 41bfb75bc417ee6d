-- The values of a conjugator at attractors and repellers: an end of the other element of the same kind and period, and a proper front of
-- its letters.
use Rattle.std.proofs.Common.{◌≡◌, ◌≢◌, ℕ, zero, suc, ◌+◌, ◌*◌, ◌≤◌, List, [], ◌∷◌, ◌++◌, length, refl, sym, ap, ◌∙◌, subst, subst₂, arith, Contains, ℤ, pos, neg_ℤ, ◌+ℤ◌}
use Rattle.std.proofs.lemmas.List.{length-append}
use Rattle.ht_word.specs.Words.{◌·◌, IsLetters, IsWordOf}
use Rattle.ht_word.specs.declared.shape.Shape.{Shape}
use Rattle.ht_word.specs.declared.word.Word.{Word}
use Rattle.ht_word.proofs.WordLaws.{after-append, length-after, letters_back, word_rest}
use Rattle.ht_pair.specs.Bases.{longest}
use Rattle.ht_pair.specs.Kinds.{IsAttractor, IsRepeller}
use Rattle.ht_pair.specs.Repeats.{repeated}
use Rattle.ht_pair.specs.SemiNormal.{StaysAhead}
use Rattle.ht_pair.specs.Steps.{Carries}
use Rattle.ht_pair.specs.declared.row.Row.{Row}
use Rattle.ht_pair.proofs.BasisLaws.{basis_holds}
use Rattle.ht_pair.proofs.CarriesLaws.{carries_back, carries_extends, carries_word}
use Rattle.ht_pair.proofs.KindLaws.{carries_times, length-repeated, lengthened_there}
use Rattle.ht_types.proofs.AttractorLaws.{IsAttractorOf, attractor_ahead, lengthened_ahead, period_le, periods_of}
use Rattle.ht_types.proofs.FlowLaws.{turned_base}
use Rattle.ht_types.proofs.MirrorLaws.{attractor_repeller, repeller_attractor, turned_mirrors}
use Rattle.ht_types.proofs.PeriodicLaws.{carried_further}
use Rattle.ht_types.proofs.TurnLaws.{HasSemiNormal, grows_attractor}
use Rattle.ht_pieces.specs.Pieces.{IsInside, IsKept}
use Rattle.ht_pieces.proofs.Conjugating.{IsConjugator, back_conjugate, conjugate_carries, turned_conjugate}
use Rattle.ht_pieces.proofs.KeptLaws.{kept_carries, kept_turned}
use Rattle.ht_pieces.proofs.PartMaps.{sent_long}
use Rattle.ht_pieces.proofs.TurnedLetters.{IsTurn, repeated_add, repeated_once, turn_of, turn_once, turn_passes}
use Rattle.ht_pieces.specs.Values.{IsValue}
use Rattle.ht_pieces.proofs.Values.{value_from, value_here, value_moved, value_turned}

-- ---- the attractor that a lengthened word comes under

-- v with G some times behind it is under an attractor, whose round m steps go some times
pub record ComesUnder (shape : Shape) (g : List Row) (Y : List Word) (m : ℕ) (v : Word) (G : List ℕ) : Type 0 where
  pub end : Word
  pub times : ℕ
  pub rest : List ℕ
  pub is : v · repeated times G ≡ end · rest
  pub steps : ℕ
  pub by : List ℕ
  pub attractor : IsAttractorOf shape g Y end steps by
  pub rounds : ℕ
  pub positive : 1 ≤ rounds
  pub divides : m ≡ rounds * steps
  pub passes : repeated rounds by ++ rest ≡ rest ++ G

-- the word of the basis above it, which m steps lengthen by as many letters, is one
end_above : {shape : Shape} {g : List Row} {Y : List Word} → HasSemiNormal shape g Y → (m : ℕ) → 1 ≤ m → (v : Word) (G : List ℕ) → G ≢ [] → (s : ℕ) (x : Word) (y : List ℕ)
    → Contains Y x → v · repeated s G ≡ x · y
    → StaysAhead shape g Y x → (B : List ℕ) → Carries shape g (pos m) x (x · B) → B ++ y ≡ y ++ G → ComesUnder shape g Y m v G
end_above {shape} {g} {Y} h m positive v G some s x y listed is ahead B grows passes =
    let a = grows_attractor h m x B positive ahead ((λ e. some (no_more B y G e passes)), grows) in
    let of : IsAttractorOf shape g Y x a.0 a.1 = record { listed = listed; attractor = a.2 } in
    let k = periods_of h of m B grows in
    record {
      end = x;
      times = s;
      rest = y;
      is = is;
      steps = a.0;
      by = a.1;
      attractor = of;
      rounds = k.count;
      positive = low k.count a.0 m k.steps positive;
      divides = k.steps;
      passes = subst (λ L. L ++ y ≡ y ++ G) k.letters passes;
    }
  where
    no_more : (y c G : List ℕ) → y ≡ [] → y ++ c ≡ c ++ G → G ≡ []
    no_more y c [] n e = refl
    no_more y c (b ∷ G) n e = absurd (omega (arith, length-append y c, length-append c (b ∷ G), ap (λ (t : List ℕ). length t) e, ap (λ (t : List ℕ). length t) n))

    low : (k j m : ℕ) → m ≡ k * j → 1 ≤ m → 1 ≤ k
    low zero j m e l = absurd (omega (arith, e, l))
    low (suc k) j m e l = omega arith

pub comes_under : {shape : Shape} {g : List Row} {Y : List Word} → HasSemiNormal shape g Y → (m : ℕ) → 1 ≤ m → (v : Word) (G : List ℕ) → G ≢ [] → Carries shape g (pos m) v (v · G)
    → ComesUnder shape g Y m v G
comes_under {shape} {g} {Y} h m positive v G some grows =
    let s = longest Y in
    let far = carries_times shape g h.pair m v G grows s in
    let long = carries_word shape g h.pair (pos (s * m)) v (v · repeated s G) far in
    let above = basis_holds shape Y h.semi.basis (v · repeated s G) long (omega (arith, length-after v (repeated s G), length-repeated s G some)) in
    let x = above.above in
    let y = above.under.rest in
    let hy = word_rest shape x y (subst (IsWordOf shape) above.under.is long) in
    let moved : Carries shape g (pos m) (x · y) (x · (y ++ G)) = subst (Carries shape g (pos m) (x · y)) (after-append x y G) (subst (λ t. Carries shape g (pos m) t (t · G)) above.under.is (lengthened_there shape g h.pair (pos (s * m)) m v (v · repeated s G) G far grows)) in
    let ahead = lengthened_ahead h m x y G above.listed some moved in
    let f = carried_further shape g h.pair Y h.semi.basis (pos m) x x y (y ++ G) above.listed hy (ahead m) moved in
    end_above h m positive v G some s x y above.listed above.under.is ahead f.letters f.carries f.is

-- ---- the value at an attractor

-- the value of F at x by an end with the period m, whose letters are G turned, and a proper front of these
pub record HasEndValue (shape : Shape) (IsEnd : Word → ℕ → List ℕ → Type 0) (F : Word → Word → Type 0) (g : List Row) (Y W : List Word) (x : Word) (m : ℕ) (G : List ℕ) : Type 0 where
  pub end : Word
  pub listed : Contains Y end
  pub front : List ℕ
  pub back : List ℕ
  pub ends : IsEnd end m (front ++ back)
  pub proper : back ≢ []
  pub turned : G ≡ back ++ front
  pub inside : IsInside shape W (end · front)
  pub power : ℤ
  pub value : IsValue shape F g x (end · front) power

module _ {shape : Shape} {f g : List Row} {X Y V W : List Word} {F : Word → Word → Type 0} (c : IsConjugator shape f g V W F) (kept : IsKept shape g (IsInside shape W)) (first : HasSemiNormal shape f X) (second : HasSemiNormal shape g Y)
    (x : Word) (m : ℕ) (G : List ℕ) (a : IsAttractorOf shape f X x m G) (d : IsInside shape V x) where
  grows : Carries shape f (pos m) x (x · G)
  grows = a.attractor.lengthens.1

  -- what F sends x with G some times to, m steps of g lengthen by G
  pub lengthened : (s : ℕ) (v : Word) → F (x · repeated s G) v → Carries shape g (pos m) v (v · G)
  lengthened s v sent =
      let u = x · repeated s G in
      let far = carries_times shape f first.pair m x G grows s in
      conjugate_carries c (pos m) u (u · G) v (v · G) (lengthened_there shape f first.pair (pos (s * m)) m x u G far grows) sent (c.map.extends u v G sent)

  -- the other attractor has no lesser period: F the other way round leads its steps back to x
  no_fewer : (s : ℕ) (y : Word) (z B : List ℕ) (n : ℕ) → IsAttractor shape g y n B → (t : IsTurn B z) → IsLetters shape z → F (x · repeated s G) (y · z) → m ≤ n
  no_fewer s y z B n other t hz sent =
      let u = x · repeated s G in
      let T = t.back ++ t.front in
      let over : Carries shape g (pos n) (y · z) ((y · z) · T) = subst (Carries shape g (pos n) (y · z)) (after-append y B z ∙ ap (λ e. y · e) (turn_passes B z t) ∙ sym (after-append y z T)) (carries_extends shape g (pos n) y (y · B) z hz other.lengthens.1) in
      let led = conjugate_carries (back_conjugate c kept) (pos n) (y · z) ((y · z) · T) u (u · T) over sent (c.map.extends u (y · z) T sent) in
      let hs = word_rest shape x (repeated s G) led.word in
      let k = carried_further shape f first.pair X first.semi.basis (pos n) x x (repeated s G) (repeated s G ++ T) a.listed hs (attractor_ahead first a n) (subst (Carries shape f (pos n) u) (after-append x (repeated s G) T) led) in
      period_le first a n k.letters other.first.positive k.carries

  -- where it is the same, the value is by the front of its letters
  same_period : (s : ℕ) (y : Word) (z B : List ℕ) → Contains Y y → IsAttractor shape g y m B → (t : IsTurn B z) → B ++ z ≡ z ++ G → F (x · repeated s G) (y · z) → HasEndValue shape (IsAttractor shape g) F g Y W x m G
  same_period s y z B listed other t passes sent =
      let u = x · repeated s G in
      let far = carries_times shape f first.pair m x G grows s in
      let e = c.map.inside u (y · z) (carries_word shape f first.pair (pos (s * m)) x u far) sent in
      let hz = word_rest shape y z e.1.word in
      let hf = letters_back shape (repeated t.times B) t.front (subst (IsLetters shape) t.is hz) in
      let near : Carries shape g (pos (t.times * m)) (y · t.front) (y · z) = subst (Carries shape g (pos (t.times * m)) (y · t.front)) (after-append y (repeated t.times B) t.front ∙ ap (λ k. y · k) (sym t.is))
      (carries_extends shape g (pos (t.times * m)) y (y · repeated t.times B) t.front hf (carries_times shape g second.pair m y B other.lengthens.1 t.times)) in
      let there = value_from c (value_here c u (y · z) sent) (pos (t.times * m)) (y · t.front) near in
      record {
        end = y;
        listed = listed;
        front = t.front;
        back = t.back;
        ends = subst (IsAttractor shape g y m) t.whole other;
        proper = t.proper;
        turned = turn_once B z G t passes;
        inside = kept_carries second.pair kept (neg_ℤ (pos (t.times * m))) (y · z) (y · t.front) e.1 (carries_back shape g second.pair (pos (t.times * m)) (y · t.front) (y · z) near);
        power = (pos (t.times * m) +ℤ pos 0) +ℤ neg_ℤ (pos (s * m));
        value = value_moved c e.0 near.word there (neg_ℤ (pos (s * m))) x (carries_back shape f first.pair (pos (s * m)) x u far);
      }

  -- it is the same
  by_end : (s : ℕ) (v : Word) → F (x · repeated s G) v → ComesUnder shape g Y m v G → HasEndValue shape (IsAttractor shape g) F g Y W x m G
  by_end s v here e =
      let k = s + e.times in
      let sent : F (x · repeated k G) (e.end · e.rest) = subst₂ F (after-append x (repeated s G) (repeated e.times G) ∙ ap (λ z. x · z) (repeated_add s e.times G)) e.is (c.map.extends (x · repeated s G) v (repeated e.times G) here) in
      let word = carries_word shape f first.pair (pos (k * m)) x (x · repeated k G) (carries_times shape f first.pair m x G grows k) in
      let hz = word_rest shape e.end e.rest (c.map.inside (x · repeated k G) (e.end · e.rest) word sent).1.word in
      let t = turn_of e.by G e.attractor.attractor.lengthens.0 e.rounds e.positive e.rest e.passes in
      let one = once e.rounds e.steps m a.attractor.first.positive e.positive e.divides (no_fewer k e.end e.rest e.by e.steps e.attractor.attractor t hz sent) in
      let passes : e.by ++ e.rest ≡ e.rest ++ G = ap (λ L. L ++ e.rest) (sym (repeated_once e.by) ∙ ap (λ n. repeated n e.by) (sym one.0)) ∙ e.passes in
      same_period k e.end e.rest e.by e.attractor.listed (subst (λ n. IsAttractor shape g e.end n e.by) one.1 e.attractor.attractor) t passes sent
    where
      once : (r n m : ℕ) → 1 ≤ m → 1 ≤ r → m ≡ r * n → m ≤ n → (r ≡ 1) × (n ≡ m)
      once zero n m low some e few = absurd (omega arith)
      once (suc zero) n m low some e few = (refl, omega arith)
      once (suc (suc r)) n m low some e few = absurd (omega arith)

  pub end_value : HasEndValue shape (IsAttractor shape g) F g Y W x m G
  end_value =
      let some = a.attractor.lengthens.0 in
      let s = c.map.bound in
      let hr = word_rest shape x (repeated s G) (carries_word shape f first.pair (pos (s * m)) x (x · repeated s G) (carries_times shape f first.pair m x G grows s)) in
      let v = sent_long c.map x d (repeated s G) hr (length-repeated s G some) in
      by_end s v.0 v.1 (comes_under second m a.attractor.first.positive v.0 G some (lengthened s v.0 v.1))

-- ---- the value at a repeller

-- so has a conjugator at a repeller, by a repeller: by the turned rows
pub end_value_behind : {shape : Shape} {f g : List Row} {X Y V W : List Word} {F : Word → Word → Type 0} → IsConjugator shape f g V W F → IsKept shape g (IsInside shape W) → HasSemiNormal shape f X → HasSemiNormal shape g Y
    → (x : Word) (m : ℕ) (G : List ℕ) → Contains X x → IsRepeller shape f x m G → IsInside shape V x → HasEndValue shape (IsRepeller shape g) F g Y W x m G
end_value_behind {shape} {f} {g} c kept first second x m G listed r d =
    let a = repeller_attractor (turned_mirrors shape f c.first) x m G r in
    let e = end_value (turned_conjugate c) (kept_turned c.second kept) (turned_base first) (turned_base second) x m G (record { listed = listed; attractor = a }) d in
    record {
      end = e.end;
      listed = e.listed;
      front = e.front;
      back = e.back;
      ends = attractor_repeller (turned_mirrors shape g c.second) e.end m (e.front ++ e.back) e.ends;
      proper = e.proper;
      turned = e.turned;
      inside = e.inside;
      power = neg_ℤ e.power;
      value = value_turned e.value;
    }
