-- What turns a power of one element into a power of another on the infinite parts does so with all multiples of the exponents, the other way round,
-- and with the inverses. A conjugator of powers, of the elements or of their infinite parts, does. X is a semi-normal basis of a, and Y one of b.
use Rattle.std.proofs.Common.{◌≡◌, ℕ, zero, suc, ◌+◌, ◌*◌, ◌≤◌, pos, neg_ℤ, ◌+ℤ◌, List, length, sym, subst, subst₂, arith, zero-mul}
use Rattle.std.proofs.Math.Nat.{one-le-mul}
use Rattle.std.proofs.lemmas.Int.{ints}
use Rattle.ht_word.specs.Words.{◌·◌, IsWordOf}
use Rattle.ht_word.specs.declared.shape.Shape.{Shape}
use Rattle.ht_word.specs.declared.word.Word.{Word}
use Rattle.ht_word.proofs.WordLaws.{length-after, word_after, word_rest}
use Rattle.ht_pair.specs.Actions.{Moves}
use Rattle.ht_pair.specs.Bases.{longest}
use Rattle.ht_pair.specs.Conjugacy.{Conjugates}
use Rattle.ht_pair.specs.Kinds.{IsCycleWord}
use Rattle.ht_pair.specs.Pairs.{turned}
use Rattle.ht_pair.specs.Steps.{Carries}
use Rattle.ht_pair.specs.declared.row.Row.{Row}
use Rattle.ht_pair.proofs.BasisLaws.{basis_holds}
use Rattle.ht_pair.proofs.CarriesLaws.{carries_back, carries_extends, carries_itself, carries_none, carries_rest, carries_single, carries_sum, carries_word}
use Rattle.ht_pair.proofs.ConjugacyLaws.{conjugates_turned}
use Rattle.ht_pair.proofs.ConjugatePowerLaws.{conjugates_carries}
use Rattle.ht_pair.proofs.MovesLaws.{moves_back, moves_extends, moves_map, moves_turned, turned_pair}
use Rattle.ht_pair.proofs.PrefixMapLaws.{length-carried}
use Rattle.ht_pair.proofs.TurnedLaws.{carries_of_turned, carries_to_turned}
use Rattle.ht_types.specs.Flows.{IsUnderInfinite}
use Rattle.ht_types.proofs.PeriodicLaws.{periodic_word}
use Rattle.ht_types.proofs.TurnLaws.{HasSemiNormal}
use Rattle.ht_power_laws.specs.OnInfinite.{ActsAsPower, OnInfinite}
use Rattle.ht_power_laws.proofs.FarWords.{carries_behind, far_bound, infinite_of_turned, leads_far, longer_infinite, moved_infinite, turned_infinite}

one_more : (k i : ℕ) → pos (k * i) +ℤ pos i ≡ pos (suc k * i)
one_more k i = omega (arith, ints)

pub twice : (k : ℕ) → neg_ℤ (neg_ℤ (pos k)) ≡ pos k
twice k = omega (arith, ints)

module _ {shape : Shape} {h a b : List Row} {i j : ℕ} {X Y : List Word} (first : HasSemiNormal shape a X) (second : HasSemiNormal shape b Y) (o : OnInfinite shape h a i X b j Y) where
  -- k times as many steps of a go over into k times as many of b
  pub on_steps : (k : ℕ) (u u' v v' : Word) → IsUnderInfinite shape a X u → Carries shape a (pos (k * i)) u u' → Moves h u v → Moves h u' v'
      → Carries shape b (pos (k * j)) v v'
  on_steps zero u u' v v' under carries here there =
      let mh = (moves_map shape h o.pair).ahead in
      let none = subst (λ n. Carries shape a (pos n) u u') (zero-mul i) carries in
      let same : u ≡ u' = (carries_none shape a u u' carries.word).0 none in
      let one : v ≡ v' = mh.single u v v' carries.word here (subst (λ t. Moves h t v') (sym same) there) in
      subst₂ (λ n t. Carries shape b (pos n) v t) (sym (zero-mul j)) one (carries_itself shape b v (mh.word u v carries.word here))
  on_steps (suc k) u u' v v' under carries here there =
      let mh = (moves_map shape h o.pair).ahead in
      carries_behind shape b second.pair (pos (suc k * j)) v v' (mh.word u v carries.word here) (far_bound first (pos (k * i)) mh.bound) (λ z hz long.
      let at = longer_infinite under z in
      let hu = word_after shape u z carries.word hz in
      let far = leads_far first (pos (k * i)) mh.bound (u · z) hu (omega (arith, long, length-after u z)) at in
      let x = mh.total far.to far.word far.long in
      let before = on_steps k (u · z) far.to (v · z) x.0 at far.carries (moves_extends h u v z here) x.1 in
      let last = carries_rest shape a first.pair (pos (k * i)) (pos i) (pos (suc k * i)) (one_more k i) (u · z) far.to (u' · z) far.carries
      (carries_extends shape a (pos (suc k * i)) u u' z hz carries) in
      carries_sum shape b second.pair (pos (k * j)) (pos j) (pos (suc k * j)) (one_more k j) (v · z) x.0 (v' · z) before
      (o.commutes far.to (u' · z) x.0 (v' · z) far.infinite last x.1 (moves_extends h u' v' z there)))

  pub on_turned : OnInfinite shape (turned h) b j Y a i X
  on_turned = record {
    pair = turned_pair shape h o.pair;
    bound = o.bound;
    ahead = λ u v word long under moved. o.behind v u word long under (moves_back h v u moved);
    behind = λ u v word long under moved. o.ahead v u word long under (moves_back h v u moved);
    commutes = λ u u' v v' under carries here there.
        -- h sends v to u and v' to u'
        let m = moves_map shape h o.pair in
        let down = moves_back h v u here in
        let hv = m.behind.word u v carries.word down in
        let hu' = carries_word shape b second.pair (pos j) u u' carries in
        carries_behind shape a first.pair (pos i) v v' hv (o.bound + far_bound first (pos i) m.ahead.bound) (λ z hz long.
        let sent = moves_extends h v u z down in
        let hvz = word_after shape v z hv hz in
        let huz = word_after shape u z carries.word hz in
        let at = o.behind (v · z) (u · z) huz (omega (arith, long, length-after u z)) (longer_infinite under z) sent in
        let far = leads_far first (pos i) m.ahead.bound (v · z) hvz (omega (arith, long, length-after v z)) at in
        let x = m.ahead.total far.to far.word far.long in
        let one : x.0 ≡ u' · z = carries_single shape b second.pair (pos j) (u · z) x.0 (u' · z)
        (o.commutes (v · z) far.to (u · z) x.0 at far.carries sent x.1) (carries_extends shape b (pos j) u u' z hz carries) in
        let same : far.to ≡ v' · z = m.behind.single (u' · z) far.to (v' · z) (word_after shape u' z hu' hz)
        (subst (Moves h far.to) {x = x.0} {y = u' · z} one x.1) (moves_extends h v' u' z (moves_back h v' u' there)) in
        subst (Carries shape a (pos i) (v · z)) same far.carries);
  }

  pub on_inverses : OnInfinite shape h (turned a) i X (turned b) j Y
  on_inverses = record {
    pair = o.pair;
    bound = o.bound;
    ahead = λ u v word long under moved. turned_infinite second (o.ahead u v word long (infinite_of_turned first under) moved);
    behind = λ u v word long under moved. turned_infinite first (o.behind u v word long (infinite_of_turned second under) moved);
    commutes = λ u u' v v' under carries here there.
        let mh = (moves_map shape h o.pair).ahead in
        let behind = carries_of_turned shape a (pos i) u u' carries in
        let hu' = carries_word shape a first.pair (neg_ℤ (pos i)) u u' behind in
        carries_to_turned shape b (pos j) v v' (carries_back shape b second.pair (pos j) v' v
        (carries_behind shape b second.pair (pos j) v' v (mh.word u' v' hu' there) (longest X) (λ z hz long.
        let back = carries_extends shape a (neg_ℤ (pos i)) u u' z hz behind in
        let some = basis_holds shape X first.semi.basis (u' · z) (word_after shape u' z hu' hz) (omega (arith, long, length-after u' z)) in
        let at = moved_infinite first (neg_ℤ (pos i)) (u · z) (u' · z) (longer_infinite (infinite_of_turned first under) z) some back in
        o.commutes (u' · z) (u · z) (v' · z) (v · z) at
        (subst (λ k. Carries shape a k (u' · z) (u · z)) (twice i) (carries_back shape a first.pair (neg_ℤ (pos i)) (u · z) (u' · z) back))
        (moves_extends h u' v' z there) (moves_extends h u v z here))));
  }

-- ---- conjugators of powers

-- a long word under the infinite part of a goes to one under that of b: a cycle word above it would make the first word periodic
sent_infinite : {shape : Shape} {h a b f g : List Row} {i j : ℕ} {X Y : List Word} → HasSemiNormal shape a X → HasSemiNormal shape b Y → 1 ≤ i
    → ActsAsPower shape a i X f → ActsAsPower shape b j Y g → (c : Conjugates shape h f g) (u v : Word) → IsWordOf shape u
    → (moves_map shape h c.pair).ahead.bound + longest Y ≤ length u.letters → IsUnderInfinite shape a X u → Moves h u v → IsUnderInfinite shape b Y v
sent_infinite {shape} {h} {a} {b} {f} {g} {i} {X = X} {Y = Y} first second low as_first as_second c u v word long under moved =
    let mh = (moves_map shape h c.pair).ahead in
    let hv = mh.word u v word moved in
    let some = basis_holds shape Y second.semi.basis v hv (length-carried shape (Moves h) mh u v (longest Y) word long moved) in
    let y = some.above in
    let z = some.under.rest in
    let hz = word_rest shape y z (subst (IsWordOf shape) some.under.is hv) in
    let round : IsCycleWord shape b y → IsCycleWord shape a under.above = λ cycle.
    let home = as_second.home y cycle.0 some.listed cycle.1 in
    let k = home.0 in
    let there = subst (λ t. Carries shape g (pos k) t t) (sym some.under.is) (carries_extends shape g (pos k) y y z hz home.2) in
    let turn = conjugates_turned shape h f g as_first.pair as_second.pair c in
    let down = moves_turned h u v moved in
    let back = conjugates_carries shape (turned h) g f as_second.pair as_first.pair turn (pos k) v v u u there down down in
    periodic_word shape a first.pair X first.semi (k * i) u under.above (one-le-mul home.1 low) under.infinite.0 under.under
    ((as_first.same k u u under).0 back) in
    record { above = y; infinite = (some.listed, λ cycle. under.infinite.1 (round cycle)); under = some.under }

pub on_conjugate : {shape : Shape} {h a b f g : List Row} {i j : ℕ} {X Y : List Word} → HasSemiNormal shape a X → HasSemiNormal shape b Y
    → 1 ≤ i → 1 ≤ j → ActsAsPower shape a i X f → ActsAsPower shape b j Y g → Conjugates shape h f g → OnInfinite shape h a i X b j Y
on_conjugate {shape} {h} {a} {b} {f} {g} {i} {j} {X} {Y} first second low low' as_first as_second c =
    let back = conjugates_turned shape h f g as_first.pair as_second.pair c in
    let mh = (moves_map shape h c.pair).ahead in
    let far = mh.bound + longest Y in
    let near = (moves_map shape (turned h) back.pair).ahead.bound + longest X in
    record {
      pair = c.pair;
      bound = far + near;
      ahead = λ u v word long under moved. sent_infinite first second low as_first as_second c u v word (omega (arith, long)) under moved;
      behind = λ u v word long under moved.
          sent_infinite second first low' as_second as_first back v u word (omega (arith, long)) under (moves_turned h u v moved);
      commutes = λ u u' v v' under carries here there.
          let one = (as_first.same 1 u u' under).1 (subst (λ n. Carries shape a (pos n) u u') (once i) carries) in
          let moved = conjugates_carries shape h f g as_first.pair as_second.pair c (pos 1) u u' v v' one here there in
          carries_behind shape b second.pair (pos j) v v' moved.word far (λ z hz long.
          let at = sent_infinite first second low as_first as_second c (u · z) (v · z) (word_after shape u z carries.word hz)
          (omega (arith, long, length-after u z)) (longer_infinite under z) (moves_extends h u v z here) in
          subst (λ n. Carries shape b (pos n) (v · z) (v' · z)) (sym (once j))
          ((as_second.same 1 (v · z) (v' · z) at).0 (carries_extends shape g (pos 1) v v' z hz moved)));
    }
  where
    once : (k : ℕ) → k ≡ 1 * k
    once k = omega arith
