-- Lists of words that a pair permutes, and one word of each of their cycles.
use Rattle.std.proofs.Common.{◌≡◌, ◌≢◌, ℕ, zero, suc, ◌+◌, ◌*◌, ◌-◌, ◌<◌, ◌≤◌, ◌⊎◌, inl, inr, List, [], ◌∷◌, ◌++◌, length, refl, sym, ap, ◌∙◌, subst, arith, All, Contains, pos, ◌+ℤ◌, mul-le-mul_left}
use Rattle.std.proofs.lemmas.Int.{ints}
use Rattle.std.proofs.lemmas.List.{length-append}
use Rattle.std.proofs.lemmas.List.Elements.{All-contains, Contains-append_left, Contains-append_right, Contains-append_cases}
use Rattle.ht_word.specs.Words.{IsWordOf}
use Rattle.ht_word.specs.declared.shape.Shape.{Shape}
use Rattle.ht_word.specs.declared.word.Word.{Word}
use Rattle.ht_word.proofs.Deciding.{contains_or_not}
use Rattle.ht_word.proofs.ListLaws.{Contains-nil, Contains-here, Contains-there, Contains-cons_cases, AllPairs-nil, AllPairs-cons, AllPairs-append}
use Rattle.ht_word.proofs.WordLaws.{All-from_contains}
use Rattle.ht_pair.specs.Bases.{AreApart, IsPrefixFree}
use Rattle.ht_pair.specs.Kinds.{IsCycle, IsCycleWord}
use Rattle.ht_pair.specs.Pairs.{IsPair}
use Rattle.ht_pair.specs.Steps.{Carries}
use Rattle.ht_pair.specs.declared.row.Row.{Row}
use Rattle.ht_pair.proofs.BasisLaws.{prefix_free_same}
use Rattle.ht_pair.proofs.CarriesLaws.{carries_single, carries_rest, carries_sum, carries_itself}
use Rattle.ht_pair.proofs.CountLaws.{no_more}
use Rattle.ht_pair.proofs.MeetLaws.{chosen}
use Rattle.ht_types.proofs.PeriodicLaws.{carries_round, cycle_moved}
use Rattle.ht_cycles.specs.Cycles.{Reaches}

-- ---- steps ahead

pub reaches_itself : (shape : Shape) (g : List Row) (u : Word) → IsWordOf shape u → Reaches shape g u u
reaches_itself shape g u word = record { steps = 0; carries = carries_itself shape g u word }

pub reaches_then : (shape : Shape) (g : List Row) → IsPair shape g → (u v w : Word) → Reaches shape g u v → Reaches shape g v w → Reaches shape g u w
reaches_then shape g pair u v w a b = record { steps = a.steps + b.steps; carries = carries_sum shape g pair (pos a.steps) (pos b.steps) (pos (a.steps + b.steps)) (omega (arith, ints)) u v w a.carries b.carries }

-- where some steps lead back to a word, they lead back to it from what it reaches
pub reaches_back : (shape : Shape) (g : List Row) → IsPair shape g → (m : ℕ) (u v : Word) → 1 ≤ m → Carries shape g (pos m) u u → Reaches shape g u v → Reaches shape g v u
reaches_back shape g pair m u v positive round a =
    let k = a.steps in
    let sum : pos k +ℤ pos (k * m - k) ≡ pos (k * m) = omega (arith, ints, mul-le-mul_left k positive) in
    record { steps = k * m - k; carries = carries_rest shape g pair (pos k) (pos (k * m - k)) (pos (k * m)) sum u v u a.carries (carries_round shape g pair m u round k) }

-- ---- lists that a pair permutes

-- words that are apart, each of a cycle, that steps lead to one another
pub record IsPermuted (shape : Shape) (g : List Row) (V : List Word) : Type 0 where
  pub words : All (IsWordOf shape) V
  pub free : IsPrefixFree V
  pub cycle : (v : Word) → Contains V v → IsCycleWord shape g v
  pub moves : (k : ℕ) (v : Word) → Contains V v → (y : Word) × Contains V y × Carries shape g (pos k) v y

-- two words of a prefix-free list that are not one are apart
pub free_apart : (V : List Word) → IsPrefixFree V → (u v : Word) → Contains V u → Contains V v → u ≢ v → AreApart u v
free_apart V free u v c e other = (λ h. other (prefix_free_same V free u v c e h), λ h. other (sym (prefix_free_same V free v u e c h)))

-- ---- one cycle

-- the words to which less than j steps lead from v
record Walk (shape : Shape) (g : List Row) (V : List Word) (v : Word) (j : ℕ) : Type 0 where
  words : List Word
  size : length words ≡ j
  free : IsPrefixFree words
  listed : (u : Word) → Contains words u → Contains V u
  reached : (u : Word) → Contains words u → (i : ℕ) × (i < j) × Carries shape g (pos i) v u
  all : (i : ℕ) (u : Word) → i < j → Carries shape g (pos i) v u → Contains words u

-- less steps than the length of the cycle don't meet a word twice
pub not_twice : (shape : Shape) (g : List Row) → IsPair shape g → (m i j : ℕ) (v u : Word) → IsCycle shape g v m → i < j → j < m → Carries shape g (pos i) v u → ¬ Carries shape g (pos j) v u
not_twice shape g pair m i j v u cycle l h first again =
    let moved = cycle_moved shape g pair (pos i) v u m first cycle in
    let sum : pos i +ℤ pos (j - i) ≡ pos j = omega (arith, ints) in
    moved.least (j - i) (omega arith) (omega arith) (carries_rest shape g pair (pos i) (pos (j - i)) (pos j) sum v u u first again)

walk : (shape : Shape) (g : List Row) → IsPair shape g → (V : List Word) → IsPermuted shape g V → (v : Word) (m : ℕ) → Contains V v → IsCycle shape g v m → (j : ℕ) → j ≤ m → Walk shape g V v j
walk shape g pair V perm v m c cycle zero l = record {
  words = [];
  size = refl;
  free = AllPairs-nil AreApart;
  listed = λ u d. absurd (Contains-nil u d);
  reached = λ u d. absurd (Contains-nil u d);
  all = λ i u h. absurd (omega arith);
}
walk shape g pair V perm v m c cycle (suc j) l =
    let rest = walk shape g pair V perm v m c cycle j (omega arith) in
    let next = perm.moves j v c in
    let y = next.0 in
    record {
      words = y ∷ rest.words;
      size = ap suc rest.size;
      free = AllPairs-cons AreApart y rest.words
          (All-from_contains (AreApart y) rest.words (λ u d. free_apart V perm.free y u next.1 (rest.listed u d) (λ e.
          let r = rest.reached u d in
          not_twice shape g pair m r.0 j v u cycle r.1 l r.2 (subst (Carries shape g (pos j) v) e next.2))))
          rest.free;
      listed = λ u d. elim (Contains-cons_cases y rest.words u d) [ inl e ↦ subst (Contains V) e next.1 | inr k ↦ rest.listed u k ];
      reached = λ u d. elim (Contains-cons_cases y rest.words u d) [
        | inl e ↦ (j, omega arith, subst (Carries shape g (pos j) v) e next.2)
        | inr k ↦ let r = rest.reached u k in (r.0, less r.0 j r.1, r.2)
      ];
      all = λ i u h carries. elim (last_or i j h) [
        | inl k ↦ Contains-there y rest.words u (rest.all i u k carries)
        | inr e ↦ subst (Contains (y ∷ rest.words)) (carries_single shape g pair (pos j) v y u next.2 (subst (λ t. Carries shape g (pos t) v u) e carries)) (Contains-here y rest.words)
      ];
    }
  where
    less : (i j : ℕ) → i < j → i < suc j
    less i j l = omega arith

    last_or : (i j : ℕ) → i < suc j → (i < j) ⊎ (i ≡ j)
    last_or i j l = grind arith

-- the whole cycle has all that v reaches
round_all : (shape : Shape) (g : List Row) → IsPair shape g → (V : List Word) → IsPermuted shape g V → (v : Word) (m : ℕ) → Contains V v → IsCycle shape g v m → (w : Walk shape g V v m) → (k : ℕ) (u : Word) → Carries shape g (pos k) v u → Contains w.words u
round_all shape g pair V perm v m c cycle w zero u carries = w.all 0 u cycle.positive carries
round_all shape g pair V perm v m c cycle w (suc k) u carries =
    let next = perm.moves k v c in
    let y = next.0 in
    let r = w.reached y (round_all shape g pair V perm v m c cycle w k y next.2) in
    let step : Carries shape g (pos 1) y u = carries_rest shape g pair (pos k) (pos 1) (pos (suc k)) (omega (arith, ints)) v y u next.2 carries in
    let there : Carries shape g (pos (suc r.0)) v u = carries_sum shape g pair (pos r.0) (pos 1) (pos (suc r.0)) (omega (arith, ints)) v y u r.2 step in
    elim (end_or r.0 m r.1) [
      | inl h ↦ w.all (suc r.0) u h there
      | inr e ↦
          let home : v ≡ u = carries_single shape g pair (pos m) v v u cycle.holds (subst (λ t. Carries shape g (pos t) v u) e there) in
          w.all 0 u cycle.positive (subst (Carries shape g (pos 0) v) home (carries_itself shape g v carries.word))
    ]
  where
    end_or : (i m : ℕ) → i < m → (suc i < m) ⊎ (suc i ≡ m)
    end_or i m l = grind arith

-- the words that v reaches
record WholeCycle (shape : Shape) (g : List Row) (V : List Word) (v : Word) (m : ℕ) : Type 0 where
  words : List Word
  size : length words ≡ m
  free : IsPrefixFree words
  listed : (u : Word) → Contains words u → Contains V u
  reached : (u : Word) → Contains words u → Reaches shape g v u
  all : (u : Word) → Reaches shape g v u → Contains words u

whole_cycle : (shape : Shape) (g : List Row) → IsPair shape g → (V : List Word) → IsPermuted shape g V → (v : Word) (m : ℕ) → Contains V v → IsCycle shape g v m → WholeCycle shape g V v m
whole_cycle shape g pair V perm v m c cycle =
    let w = walk shape g pair V perm v m c cycle m (omega arith) in
    record {
      words = w.words;
      size = w.size;
      free = w.free;
      listed = w.listed;
      reached = λ u d. let r = w.reached u d in record { steps = r.0; carries = r.2 };
      all = λ u h. round_all shape g pair V perm v m c cycle w h.steps u h.carries;
    }

-- ---- cycle by cycle

-- words of V, with each word of V that they reach
record IsClosed (shape : Shape) (g : List Row) (V U : List Word) : Type 0 where
  free : IsPrefixFree U
  listed : (u : Word) → Contains U u → Contains V u
  closed : (u w : Word) → Contains U u → Contains V w → Reaches shape g u w → Contains U w

-- the same without the cycle of v
record Without (shape : Shape) (g : List Row) (V U : List Word) (v : Word) (m : ℕ) : Type 0 where
  words : List Word
  closed : IsClosed shape g V words
  in_list : (u : Word) → Contains words u → Contains U u
  unreached : (u : Word) → Contains words u → ¬ Reaches shape g v u
  either : (u : Word) → Contains U u → Reaches shape g v u ⊎ Contains words u
  size : length U ≡ m + length words

-- a prefix-free list in two parts
parted_size : (U A B : List Word) → IsPrefixFree U → IsPrefixFree A → IsPrefixFree B → ((a : Word) → Contains A a → Contains U a) → ((b : Word) → Contains B b → Contains U b × ¬ Contains A b) → ((u : Word) → Contains U u → Contains A u ⊎ Contains B u) → length U ≡ length A + length B
parted_size U A B free first second from_A from_B either =
    let both : IsPrefixFree (A ++ B) = AllPairs-append AreApart A B first second (λ a b c d. let h = from_B b d in free_apart U free a b (from_A a c) h.0 (λ e. h.1 (subst (Contains A) e c))) in
    omega (
      arith,
      length-append A B,
      no_more U (A ++ B) free (λ u c. elim (either u c) [ inl d ↦ Contains-append_left A B u d | inr d ↦ Contains-append_right A B u d ]),
      no_more (A ++ B) U both (λ u c. elim (Contains-append_cases A B u c) [ inl d ↦ from_A u d | inr d ↦ (from_B u d).0 ]),
    )

without_cycle : (shape : Shape) (g : List Row) → IsPair shape g → (V : List Word) → IsPermuted shape g V → (U : List Word) → IsClosed shape g V U → (v : Word) (m : ℕ) → Contains U v → IsCycle shape g v m → WholeCycle shape g V v m → Without shape g V U v m
without_cycle shape g pair V perm U part v m c cycle round =
    let M = chosen (λ u. ¬ Contains round.words u) (λ u. elim (contains_or_not round.words u) [ inl d ↦ inr (λ n. n d) | inr n ↦ inl n ]) U in
    record {
      words = M.words;
      closed = record {
        free = M.free part.free;
        listed = λ u d. part.listed u (M.in_list u d);
        closed = λ u w d e h. M.all w (part.closed u w (M.in_list u d) e h) (λ in_round.
            let turn = perm.cycle u (part.listed u (M.in_list u d)) in
            M.holds u d (round.all u (reaches_then shape g pair v w u (round.reached w in_round) (reaches_back shape g pair turn.0 u w turn.1.positive turn.1.holds h))));
      };
      in_list = M.in_list;
      unreached = λ u d h. M.holds u d (round.all u h);
      either = λ u d. elim (contains_or_not round.words u) [ inl k ↦ inl (round.reached u k) | inr n ↦ inr (M.all u d n) ];
      size = parted_size U round.words M.words part.free round.free (M.free part.free)
          (λ a d. part.closed v a c (round.listed a d) (round.reached a d))
          (λ b d. (M.in_list b d, M.holds b d))
          (λ u d. elim (contains_or_not round.words u) [ inl k ↦ inl k | inr n ↦ inr (M.all u d n) ])
          ∙ ap (λ k. k + length M.words) round.size;
    }

-- one word of each cycle, where all have one length
pub record Representatives (shape : Shape) (g : List Row) (V : List Word) (m : ℕ) : Type 0 where
  pub words : List Word
  pub free : IsPrefixFree words
  pub listed : (r : Word) → Contains words r → Contains V r
  pub reach : (v : Word) → Contains V v → (r : Word) × Contains words r × Reaches shape g r v
  pub once : (r s : Word) → Contains words r → Contains words s → Reaches shape g r s → r ≡ s
  pub size : length V ≡ m * length words

-- those of one more cycle
one_more_cycle : (shape : Shape) (g : List Row) (V U : List Word) (v : Word) (m : ℕ) → IsPrefixFree V → IsClosed shape g V U → IsWordOf shape v → Contains U v → (out : Without shape g V U v m) → Representatives shape g out.words m → Representatives shape g U m
one_more_cycle shape g V U v m free part word c out rest = record {
  words = v ∷ rest.words;
  free = AllPairs-cons AreApart v rest.words (All-from_contains (AreApart v) rest.words (λ r d. free_apart V free v r (part.listed v c) (out.closed.listed r (rest.listed r d)) (differs r d))) rest.free;
  listed = λ r d. elim (Contains-cons_cases v rest.words r d) [ inl e ↦ subst (Contains U) e c | inr k ↦ out.in_list r (rest.listed r k) ];
  reach = λ u d. elim (out.either u d) [
    | inl h ↦ (v, Contains-here v rest.words, h)
    | inr k ↦ let r = rest.reach u k in (r.0, Contains-there v rest.words r.0 r.1, r.2)
  ];
  once = λ r s d e h. elim (Contains-cons_cases v rest.words r d) [
    | inl same ↦ elim (Contains-cons_cases v rest.words s e) [
      | inl also ↦ sym same ∙ also
      | inr k ↦ absurd (out.unreached s (rest.listed s k) (subst (λ t. Reaches shape g t s) (sym same) h))
    ]
    | inr k ↦ elim (Contains-cons_cases v rest.words s e) [
      | inl same ↦ absurd (out.unreached v (out.closed.closed r v (rest.listed r k) (part.listed v c) (subst (λ t. Reaches shape g r t) (sym same) h)) (reaches_itself shape g v word))
      | inr l ↦ rest.once r s k l h
    ]
  ];
  size = omega (arith, out.size, rest.size);
}
  where
    differs : (r : Word) → Contains rest.words r → v ≢ r
    differs r d e = out.unreached r (rest.listed r d) (subst (λ t. Reaches shape g v t) e (reaches_itself shape g v word))

part_representatives : (shape : Shape) (g : List Row) → IsPair shape g → (V : List Word) → IsPermuted shape g V → (m : ℕ) → ((v : Word) → Contains V v → IsCycle shape g v m) → (k : ℕ) (U : List Word) → IsClosed shape g V U → length U ≤ k → Representatives shape g U m
part_representatives shape g pair V perm m cycles k [] part l = record {
  words = [];
  free = AllPairs-nil AreApart;
  listed = λ r c. c;
  reach = λ v c. absurd (Contains-nil v c);
  once = λ r s c. absurd (Contains-nil r c);
  size = omega arith;
}
part_representatives shape g pair V perm m cycles zero (v ∷ U) part l = absurd (omega arith)
part_representatives shape g pair V perm m cycles (suc k) (v ∷ U) part l =
    let here = Contains-here v U in
    let cycle = cycles v (part.listed v here) in
    let out = without_cycle shape g pair V perm (v ∷ U) part v m here cycle (whole_cycle shape g pair V perm v m (part.listed v here) cycle) in
    let rest = part_representatives shape g pair V perm m cycles k out.words out.closed (omega (arith, out.size, cycle.positive)) in
    one_more_cycle shape g V (v ∷ U) v m perm.free part (All-contains (IsWordOf shape) V v perm.words (part.listed v here)) here out rest

-- each list that a pair permutes in cycles of one length has them
pub representatives : (shape : Shape) (g : List Row) → IsPair shape g → (V : List Word) → IsPermuted shape g V → (m : ℕ) → ((v : Word) → Contains V v → IsCycle shape g v m) → Representatives shape g V m
representatives shape g pair V perm m cycles = part_representatives shape g pair V perm m cycles (length V) V (record { free = perm.free; listed = λ u c. c; closed = λ u w c d h. d }) (omega arith)
