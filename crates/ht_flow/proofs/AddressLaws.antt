-- Addresses: a word has one at most, and one that is carried under an attractor has one.
use Rattle.std.proofs.Common.{◌≡◌, ◌≢◌, ℕ, zero, suc, ◌*◌, ◌<◌, ◌⊎◌, inl, inr, List, ◌++◌, refl, sym, ap, ◌∙◌, subst, subst₂, arith, nat_cmp, Contains, ◌↔◌, ℤ, pos, negsuc, neg_ℤ, ◌+ℤ◌}
use Rattle.std.specs.Cmp.Lexicographic.{slice_cmp}
use Rattle.std.specs.Prelude.{◌-ℤ◌}
use Rattle.std.specs.Ordering.{ordering_then, ordering_reverse}
use Rattle.std.specs.declared.cmp.Ordering.{Ordering}
use Rattle.std.specs.declared.cmp.Ordering.TheVariants.{Less, Equal, Greater}
use Rattle.std.proofs.lemmas.Int.{ints}
use Rattle.std.proofs.lemmas.List.{append_assoc}
use Rattle.std.proofs.lemmas.Map.Lookups.{exact_unsigned, exact_bytes}
use Rattle.ht_word.specs.Words.{◌·◌, word_cmp}
use Rattle.ht_word.specs.declared.shape.Shape.{Shape}
use Rattle.ht_word.specs.declared.word.Word.{Word}
use Rattle.ht_word.proofs.WordLaws.{word_eq, word_cmp_total, after-append, word_rest}
use Rattle.ht_pair.specs.Addresses.{BelongTogether, IsAddress}
use Rattle.ht_pair.specs.Kinds.{IsAttractorWord}
use Rattle.ht_pair.specs.Orbits.{ShareOrbit}
use Rattle.ht_pair.specs.Pairs.{IsPair}
use Rattle.ht_pair.specs.SemiNormal.{IsSemiNormal}
use Rattle.ht_pair.specs.Steps.{Carries}
use Rattle.ht_pair.specs.declared.row.Row.{Row}
use Rattle.ht_pair.proofs.CarriesLaws.{carries_word, carries_extends, carries_add, carries_back, carries_rest}
use Rattle.ht_pair.specs.Repeats.{repeated}
use Rattle.ht_pair.proofs.KindLaws.{attractor_once}
use Rattle.ht_types.proofs.PeriodicLaws.{carried_further}
use Rattle.ht_types.proofs.TurnLaws.{HasSemiNormal}
use Rattle.ht_types.proofs.AttractorLaws.{IsAttractorOf, attractor_ahead, repeated_none, repeated_first, IsInPeriods, periods_of, belongs_both, on_round}

-- ---- words in order

-- of two words of which neither is less, each is the other
neither_less : (x y : Word) → word_cmp x y ≢ Less → word_cmp y x ≢ Less → x ≡ y
neither_less x y before after = by (word_cmp x y) refl
  where
    roots : (o : Ordering) → nat_cmp x.root y.root ≡ o → ordering_then o (slice_cmp nat_cmp x.letters y.letters) ≡ Equal → x ≡ y
    roots Less e h = cc
    roots Equal e h = word_eq (exact_unsigned x.root y.root e) (exact_bytes x.letters y.letters h)
    roots Greater e h = cc

    by : (o : Ordering) → word_cmp x y ≡ o → x ≡ y
    by Less e = absurd (before e)
    by Equal e = roots (nat_cmp x.root y.root) refl e
    by Greater e = absurd (after (word_cmp_total.antisymm y x ∙ ap ordering_reverse e))

-- ---- one address

of_address : {shape : Shape} {p : List Row} {X : List Word} {u x : Word} {z : List ℕ} {k : ℤ} → (a : IsAddress shape p X u x z k) → IsAttractorOf shape p X x a.steps a.by
of_address a = record { listed = a.listed; attractor = a.attractor }

-- where no whole repeat stands in front
no_repeat : (m d : ℕ) (G t z w : List ℕ) → IsInPeriods m d G t → t ++ z ≡ w → ((rest : List ℕ) → w ≢ G ++ rest) → (d ≡ 0) × (z ≡ w)
no_repeat m d G t z w k e short = by k.count k.steps k.letters
  where
    by : (s : ℕ) → d ≡ s * m → t ≡ repeated s G → (d ≡ 0) × (z ≡ w)
    by zero steps letters = (omega arith, sym (ap (λ s. s ++ z) (letters ∙ repeated_none G)) ∙ e)
    by (suc s) steps letters = absurd (short (repeated s G ++ z) (sym e ∙ ap (λ y. y ++ z) (letters ∙ repeated_first s G) ∙ append_assoc G (repeated s G) z))

-- two addresses along one attractor, the second d steps on
same_along : {shape : Shape} {p : List Row} {X : List Word} → HasSemiNormal shape p X → (u x : Word) (z w : List ℕ) (k j : ℤ) (d : ℕ) → k +ℤ pos d ≡ j → IsAddress shape p X u x z k → IsAddress shape p X u x w j → (z ≡ w) × (k ≡ j)
same_along {shape} {p} {X} h u x z w k j d sum a b =
    let between = carries_rest shape p h.pair k (pos d) j sum u (x · z) (x · w) a.carries b.carries in
    let hz = word_rest shape x z between.word in
    let f = carried_further shape p h.pair X h.semi.basis (pos d) x x z w a.listed hz (attractor_ahead h (of_address a) d) between in
    let one = attractor_once shape p h.pair x b.steps a.steps b.by a.by b.attractor a.attractor in
    let n = no_repeat a.steps d a.by f.letters z w (periods_of h (of_address a) d f.letters f.carries) f.is (subst (λ G. (rest : List ℕ) → w ≢ G ++ rest) one.1 b.short) in
    (n.1, same k j d sum n.0)
  where
    same : (k j : ℤ) (d : ℕ) → k +ℤ pos d ≡ j → d ≡ 0 → k ≡ j
    same k j d sum e = omega (arith, ints)

once_ahead : {shape : Shape} {p : List Row} {X : List Word} → HasSemiNormal shape p X → (u x y : Word) (z w : List ℕ) (k j : ℤ) (d : ℕ) → k +ℤ pos d ≡ j → IsAddress shape p X u x z k → IsAddress shape p X u y w j → (x ≡ y) × (z ≡ w) × (k ≡ j)
once_ahead {shape} {p} {X} h u x y z w k j d sum a b =
    let between = carries_rest shape p h.pair k (pos d) j sum u (x · z) (y · w) a.carries b.carries in
    let both = belongs_both h (of_address a) d y z w b.listed between in
    let one = neither_less x y (b.least x a.listed (a.steps, a.by, a.attractor) both.1) (a.least y b.listed (b.steps, b.by, b.attractor) both.0) in
    let r = same_along h u x z w k j d sum a (subst (λ t. IsAddress shape p X u t w j) (sym one) b) in
    (one, r.0, r.1)

-- of two numbers the one is from the other on
either_on : (k j : ℤ) → ((d : ℕ) × (k +ℤ pos d ≡ j)) ⊎ ((d : ℕ) × (j +ℤ pos d ≡ k))
either_on k j = by (j -ℤ k) refl
  where
    by : (e : ℤ) → j -ℤ k ≡ e → ((d : ℕ) × (k +ℤ pos d ≡ j)) ⊎ ((d : ℕ) × (j +ℤ pos d ≡ k))
    by (pos d) is = inl (d, omega (arith, ints))
    by (negsuc d) is = inr (suc d, omega (arith, ints))

pub address_once : (shape : Shape) (p : List Row) (X : List Word) → IsPair shape p → IsSemiNormal shape p X → (u x y : Word) (z w : List ℕ) (k j : ℤ) → IsAddress shape p X u x z k → IsAddress shape p X u y w j → (x ≡ y) × (z ≡ w) × (k ≡ j)
address_once shape p X pair semi u x y z w k j a b =
    let h : HasSemiNormal shape p X = record { pair = pair; semi = semi } in
    elim (either_on k j) [
      | inl on ↦ once_ahead h u x y z w k j on.0 on.1 a b
      | inr on ↦ (let r = once_ahead h u y x w z j k on.0 on.1 b a in (sym r.0, sym r.1, sym r.2))
    ]

-- ---- an address

-- where steps lead along, the number of steps that are left changes by them
address_along : (shape : Shape) (p : List Row) (X : List Word) → IsPair shape p → (j k : ℤ) (u v x : Word) (z : List ℕ) → Carries shape p j u v → IsAddress shape p X v x z k → IsAddress shape p X u x z (j +ℤ k)
address_along shape p X pair j k u v x z c a = record {
  listed = a.listed;
  steps = a.steps;
  by = a.by;
  attractor = a.attractor;
  least = a.least;
  carries = carries_add shape p pair j k u v (x · z) c a.carries;
  short = a.short;
}

-- the addresses of two words that share an orbit are at one attractor with the same letters, and differ by the power
pub address_shared : (shape : Shape) (p : List Row) (X : List Word) → IsPair shape p → IsSemiNormal shape p X → (u w x y : Word) (z v : List ℕ) (k j i : ℤ) → IsAddress shape p X u x z k → IsAddress shape p X w y v j → ShareOrbit shape p u w i → (x ≡ y) × (z ≡ v) × (i ≡ k -ℤ j)
address_shared shape p X pair semi u w x y z v k j i a b carries =
    let one = address_once shape p X pair semi u x y z v k (i +ℤ j) a (address_along shape p X pair i j u w y v carries b) in
    (one.0, one.1, difference one.2)
  where
    difference : k ≡ i +ℤ j → i ≡ k -ℤ j
    difference e = omega (arith, ints)

-- and words with such addresses share one
pub address_decides : (shape : Shape) (p : List Row) (X : List Word) → IsPair shape p → IsSemiNormal shape p X → (u w x y : Word) (z v : List ℕ) (k j : ℤ) → IsAddress shape p X u x z k → IsAddress shape p X w y v j → ((i : ℤ) × ShareOrbit shape p u w i) ↔ ((x ≡ y) × (z ≡ v))
address_decides shape p X pair semi u w x y z v k j a b = (
  (λ (i, carries). let s = address_shared shape p X pair semi u w x y z v k j i a b carries in (s.0, s.1)),
  (λ (same, letters).
      let there : Carries shape p j w (x · z) = subst₂ (λ t r. Carries shape p j w (t · r)) (sym same) (sym letters) b.carries in
      (k +ℤ neg_ℤ j, carries_add shape p pair k (neg_ℤ j) u (x · z) w a.carries (carries_back shape p pair j w (x · z) there))),
)

-- x is least among those on the round of a, so among those that belong together with it
pub head_least : {shape : Shape} {p : List Row} {X : List Word} {a : Word} {m : ℕ} {G : List ℕ} → HasSemiNormal shape p X → IsAttractorOf shape p X a m G → (i : ℤ) (x : Word) (c : List ℕ) → Carries shape p i a (x · c)
    → ((r : ℕ) (y : Word) (t : List ℕ) → r < m → Contains X y → Carries shape p (pos r) a (y · t) → word_cmp y x ≢ Less)
    → (y : Word) → Contains X y → IsAttractorWord shape p y → BelongTogether shape p x y → word_cmp y x ≢ Less
head_least {shape} {p} {X} {a} {m} {G} h at i x c carries least y listed such b =
    let w = b.under.rest in
    let first : Carries shape p b.steps x (y · w) = subst (Carries shape p b.steps x) b.under.is b.carries in
    let hc = word_rest shape x c (carries_word shape p h.pair i a (x · c) carries) in
    let there : Carries shape p (i +ℤ b.steps) a (y · (w ++ c)) = subst (Carries shape p (i +ℤ b.steps) a) (after-append y w c) (carries_add shape p h.pair i b.steps a (x · c) ((y · w) · c) carries (carries_extends shape p b.steps x (y · w) c hc first)) in
    let r = on_round h at (i +ℤ b.steps) y (w ++ c) listed there in
    least r.count y r.letters r.less listed r.carries
