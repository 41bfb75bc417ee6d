-- What turns a power of a into a power of b on the infinite parts sends each attractor of a under an attractor of b, and no two under one. X is a
-- semi-normal basis of a, and Y one of b.
use Rattle.std.proofs.Common.{◌≡◌, ◌≢◌, ℕ, zero, suc, ◌+◌, ◌*◌, ◌≤◌, pos, List, [], ◌++◌, length, sym, ap, ◌∙◌, subst, subst₂, arith, append_assoc}
use Rattle.std.proofs.Math.Nat.{one-le-mul}
use Rattle.std.proofs.lemmas.List.{length-append}
use Rattle.ht_word.specs.Words.{◌·◌, IsUnder, IsWordOf}
use Rattle.ht_word.specs.declared.shape.Shape.{Shape}
use Rattle.ht_word.specs.declared.word.Word.{Word}
use Rattle.ht_word.proofs.WordLaws.{after-append, length-after, under_after, under_trans, word_rest}
use Rattle.ht_pair.specs.Actions.{Moves}
use Rattle.ht_pair.specs.Pairs.{turned}
use Rattle.ht_pair.specs.Repeats.{repeated}
use Rattle.ht_pair.specs.Steps.{Carries}
use Rattle.ht_pair.specs.declared.row.Row.{Row}
use Rattle.ht_pair.proofs.BasisLaws.{basis_single}
use Rattle.ht_pair.proofs.CarriesLaws.{carries_extends, carries_word}
use Rattle.ht_pair.proofs.KindLaws.{attractor_once, carries_times, cycle_no_attractor, length-repeated, lengthened_there}
use Rattle.ht_pair.proofs.MovesLaws.{moves_extends, moves_map, moves_single, moves_turned, turned_pair}
use Rattle.ht_types.specs.Flows.{IsUnderInfinite}
use Rattle.ht_types.proofs.AttractorLaws.{IsAttractorOf, repeated_next, repeated_none}
use Rattle.ht_types.proofs.PointLaws.{repeated_length}
use Rattle.ht_types.proofs.TurnLaws.{HasSemiNormal}
use Rattle.ht_pieces.proofs.EndValues.{comes_under}
use Rattle.ht_pieces.proofs.TurnedLetters.{IsTurn, repeated_add, turn_of}
use Rattle.ht_power_laws.specs.OnInfinite.{OnInfinite}
use Rattle.ht_power_laws.proofs.OnInfinite.{on_steps}

-- h sends the attractor x of a, with its letters i times again and again behind it, under an attractor of b, of which some rounds take j times as
-- many steps as the period of x is
pub record SendsEnd (shape : Shape) (h : List Row) (i : ℕ) (b : List Row) (j : ℕ) (Y : List Word) (x : Word) (m : ℕ) (G : List ℕ) : Type 0 where
  pub end : Word
  pub steps : ℕ
  pub by : List ℕ
  pub attractor : IsAttractorOf shape b Y end steps by
  pub times : ℕ
  pub rest : List ℕ
  pub sent : Moves h (x · repeated times (repeated i G)) (end · rest)
  pub word : IsWordOf shape (end · rest)
  pub rounds : ℕ
  pub positive : 1 ≤ rounds
  pub divides : m * j ≡ rounds * steps
  pub passes : repeated rounds by ++ rest ≡ rest ++ repeated i G

-- ---- letters again and again

some_repeated : (i : ℕ) (G : List ℕ) → 1 ≤ i → G ≢ [] → repeated i G ≢ []
some_repeated i G low some = λ e. absurd (omega (arith, length-repeated i G some, ap (λ (t : List ℕ). length t) e))

turn_whole : (L y : List ℕ) (t : IsTurn L y) → y ++ t.back ≡ repeated (suc t.times) L
turn_whole L y t = ap (λ z. z ++ t.back) t.is ∙ append_assoc (repeated t.times L) t.front t.back ∙ ap (λ z. repeated t.times L ++ z) (sym t.whole)
    ∙ sym (repeated_next t.times L)

-- what begins letters again and again goes on to one list of letters
pub turns_meet : (L y y' : List ℕ) → IsTurn L y → IsTurn L y' → (z : List ℕ) × (z' : List ℕ) × (y ++ z ≡ y' ++ z')
turns_meet L y y' t t' =
    let n = suc t.times in
    let n' = suc t'.times in (
      t.back ++ repeated n' L,
      t'.back ++ repeated n L,
      onward L y t n' ∙ ap (λ k. repeated k L) (turn n n') ∙ sym (onward L y' t' n),
    )
  where
    turn : (n n' : ℕ) → n + n' ≡ n' + n
    turn n n' = omega arith

    onward : (L y : List ℕ) (t : IsTurn L y) (k : ℕ) → y ++ (t.back ++ repeated k L) ≡ repeated (suc t.times + k) L
    onward L y t k = sym (append_assoc y t.back (repeated k L)) ∙ ap (λ z. z ++ repeated k L) (turn_whole L y t) ∙ repeated_add (suc t.times) k L

-- ---- the attractor to which one is sent

-- a word with letters some times behind it is sent with more of them
sent_further : (h : List Row) (x : Word) (D : List ℕ) (s t : ℕ) (v w : Word) → Moves h (x · repeated s D) v → v · repeated t D ≡ w
    → Moves h (x · repeated (s + t) D) w
sent_further h x D s t v w sent is =
    subst₂ (Moves h) (after-append x (repeated s D) (repeated t D) ∙ ap (λ z. x · z) (repeated_add s t D)) is
    (moves_extends h (x · repeated s D) v (repeated t D) sent)

-- the word where it comes is lengthened there
pub sent_grows : {shape : Shape} {h b : List Row} {i j : ℕ} {Y : List Word} {x : Word} {m : ℕ} {G : List ℕ} → HasSemiNormal shape b Y
    → (s : SendsEnd shape h i b j Y x m G) → Carries shape b (pos (m * j)) (s.end · s.rest) ((s.end · s.rest) · repeated i G)
sent_grows {shape} {h} {b} {i} {j} {m = m} {G} second s =
    let L = repeated s.rounds s.by in
    let D = repeated i G in
    let over = subst (λ n. Carries shape b (pos n) s.end (s.end · L)) (sym s.divides)
    (carries_times shape b second.pair s.steps s.end s.by s.attractor.attractor.lengthens.1 s.rounds) in
    subst (Carries shape b (pos (m * j)) (s.end · s.rest))
    (after-append s.end L s.rest ∙ ap (λ z. s.end · z) s.passes ∙ sym (after-append s.end s.rest D))
    (carries_extends shape b (pos (m * j)) s.end (s.end · L) s.rest (word_rest shape s.end s.rest s.word) over)

-- the letters of both are as the exponents
pub sent_rate : {shape : Shape} {h b : List Row} {i j : ℕ} {Y : List Word} {x : Word} {m : ℕ} {G : List ℕ} → (s : SendsEnd shape h i b j Y x m G)
    → i * length G * s.steps ≡ m * j * length s.by
sent_rate {i = i} {j} {m = m} {G} s =
    let R = repeated s.rounds s.by in
    let D = repeated i G in
    let sizes = ap (λ (t : List ℕ). length t) s.passes in
    rate i (length G) (length s.by) s.rounds s.steps (m * j) s.divides
    (omega (arith, length-append R s.rest, length-append s.rest D, repeated_length s.rounds s.by, repeated_length i G, sizes))
  where
    rate : (i g l r n k : ℕ) → k ≡ r * n → r * l ≡ i * g → i * g * n ≡ k * l
    rate i g l r n k steps letters = subst₂ (λ s t. t * n ≡ s * l) (sym steps) letters (plain r l n)
      where
        plain : (r l n : ℕ) → r * l * n ≡ r * n * l
        plain r l n = omega arith

module _ {shape : Shape} {h a b : List Row} {i j : ℕ} {X Y : List Word} (first : HasSemiNormal shape a X) (second : HasSemiNormal shape b Y) (o : OnInfinite shape h a i X b j Y) where
  pub injected : 1 ≤ i → 1 ≤ j → {x : Word} {m : ℕ} {G : List ℕ} → IsAttractorOf shape a X x m G → SendsEnd shape h i b j Y x m G
  injected low low' {x} {m} {G} at =
      let D = repeated i G in
      let some = some_repeated i G low at.attractor.lengthens.0 in
      let mh = (moves_map shape h o.pair).ahead in
      let grows = subst (λ n. Carries shape a (pos n) x (x · D)) (turn i m) (carries_times shape a first.pair m x G at.attractor.lengthens.1 i) in
      let u = x · repeated mh.bound D in
      let far = carries_times shape a first.pair (m * i) x D grows mh.bound in
      let over = lengthened_there shape a first.pair (pos (mh.bound * (m * i))) (m * i) x u D far grows in
      let v = mh.total u over.word (omega (arith, length-after x (repeated mh.bound D), length-repeated mh.bound D some)) in
      let under : IsUnderInfinite shape a X u = record {
        above = x;
        infinite = (at.listed, λ cycle. cycle_no_attractor shape a first.pair x cycle.0 m G cycle.1 at.attractor);
        under = under_after x (repeated mh.bound D);
      } in
      let there = on_steps first second o m u (u · D) v.0 (v.0 · D) under over v.1 (moves_extends h u v.0 D v.1) in
      let e = comes_under second (m * j) (one-le-mul at.attractor.first.positive low') v.0 D some there in
      let k = mh.bound + e.times in
      let sent = sent_further h x D mh.bound e.times v.0 (e.end · e.rest) v.1 e.is in
      let from = carries_word shape a first.pair (pos (k * (m * i))) x (x · repeated k D) (carries_times shape a first.pair (m * i) x D grows k) in
      record {
        end = e.end;
        steps = e.steps;
        by = e.by;
        attractor = e.attractor;
        times = k;
        rest = e.rest;
        sent = sent;
        word = mh.word (x · repeated k D) (e.end · e.rest) from sent;
        rounds = e.rounds;
        positive = e.positive;
        divides = e.divides;
        passes = e.passes;
      }
    where
      turn : (i m : ℕ) → i * m ≡ m * i
      turn i m = omega arith

  -- two that are sent under one are one
  pub injected_once : 1 ≤ i → {x x' : Word} {m m' : ℕ} {G G' : List ℕ} → IsAttractorOf shape a X x m G → IsAttractorOf shape a X x' m' G'
      → (s : SendsEnd shape h i b j Y x m G) (s' : SendsEnd shape h i b j Y x' m' G') → s.end ≡ s'.end → x ≡ x'
  injected_once low {x} {x'} {m} {m'} {G} {G'} at at' s s' one =
      let D = repeated i G in
      let D' = repeated i G' in
      let L = s.by in
      let some = s.attractor.attractor.lengthens.0 in
      let other = subst (λ y. IsAttractorOf shape b Y y s'.steps s'.by) (sym one) s'.attractor in
      let by : s'.by ≡ L = sym (attractor_once shape b second.pair s.end s.steps s'.steps L s'.by s.attractor.attractor other.attractor).1 in
      let t = turn_of L D some s.rounds s.positive s.rest s.passes in
      let t' = turn_of L D' some s'.rounds s'.positive s'.rest (subst (λ l. repeated s'.rounds l ++ s'.rest ≡ s'.rest ++ D') by s'.passes) in
      let c = turns_meet L s.rest s'.rest t t' in
      let u = (x · repeated s.times D) · c.0 in
      let u' = (x' · repeated s'.times D') · c.1 in
      let v = (s.end · s.rest) · c.0 in
      let same : (s'.end · s'.rest) · c.1 ≡ v = after-append s'.end s'.rest c.1 ∙ ap (λ y. y · (s'.rest ++ c.1)) (sym one)
      ∙ ap (λ z. s.end · z) (sym c.2) ∙ sym (after-append s.end s.rest c.0) in
      let here = moves_turned h u v (moves_extends h (x · repeated s.times D) (s.end · s.rest) c.0 s.sent) in
      let there = moves_turned h u' v (subst (Moves h u') same (moves_extends h (x' · repeated s'.times D') (s'.end · s'.rest) c.1 s'.sent)) in
      let is : u ≡ u' = moves_single (turned h) (turned_pair shape h o.pair).from.prefix_free v u u' here there in
      basis_single shape X first.semi.basis u x x' at.listed at'.listed
      (under_trans (under_after (x · repeated s.times D) c.0) (under_after x (repeated s.times D)))
      (subst (λ w. IsUnder w x') (sym is) (under_trans (under_after (x' · repeated s'.times D') c.1) (under_after x' (repeated s'.times D'))))
