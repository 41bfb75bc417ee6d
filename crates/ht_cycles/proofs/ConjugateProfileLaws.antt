-- Where rows conjugate the periodic part of one element into that of another, both have one profile.
use Rattle.std.proofs.Common.{◌≡◌, ◌≢◌, ℕ, ◌+◌, ◌-◌, ◌/◌, ◌%◌, ◌<◌, ◌≤◌, List, [], length, sym, ◌∙◌, subst, arith, Contains, pos}
use Rattle.std.specs.declared.cmp.Ordering.TheVariants.{Less}
use Rattle.std.proofs.lemmas.List.Elements.{All-contains}
use Rattle.ht_word.specs.Words.{◌·◌, IsWordOf, IsAscending, word_cmp}
use Rattle.ht_word.specs.declared.shape.Shape.{Shape}
use Rattle.ht_word.specs.declared.word.Word.{Word}
use Rattle.ht_word.proofs.ListLaws.{Contains-nil, ascending_same, AllPairs-weaker}
use Rattle.ht_word.proofs.WordLaws.{All-from_contains, under_after, word_cmp_once, ones}
use Rattle.ht_pair.specs.Bases.{AreApart, IsPrefixFree}
use Rattle.ht_pair.specs.Kinds.{IsCycle}
use Rattle.ht_pair.specs.LocalConjugacy.{ConjugatesOn}
use Rattle.ht_pair.specs.Pairs.{IsPair}
use Rattle.ht_pair.specs.Parts.{IsSelected, IsPeriodicPart}
use Rattle.ht_pair.specs.Profiles.{HasCycles, IsProfile}
use Rattle.ht_pair.specs.SemiNormal.{IsSemiNormal}
use Rattle.ht_pair.specs.declared.row.Row.{Row}
use Rattle.ht_pair.proofs.BasisLaws.{basis_word, some_at}
use Rattle.ht_pair.proofs.PrefixMapLaws.{long_word, length-long}
use Rattle.ht_types.proofs.PeriodicLaws.{cycle_around}
use Rattle.ht_cycles.proofs.MatchedCycleLaws.{AreOfLength, permuted_of_length, match_of_length, matched_cycles}
use Rattle.ht_cycles.proofs.MatchingLaws.{IsMatching, conjugates_match}
use Rattle.ht_cycles.proofs.ProfileLaws.{has_some, with_length}
use Rattle.ht_cycles.proofs.RepresentativeLaws.{free_apart, IsPermuted}

-- the words of an ascending list are apart where they are words of a prefix-free list
pub ascending_free : (X W : List Word) → IsPrefixFree X → IsAscending W → ((x : Word) → Contains W x → Contains X x) → IsPrefixFree W
ascending_free X W free up listed = AllPairs-weaker (λ u v. word_cmp u v ≡ Less) AreApart W up (λ u v c d less.
    free_apart X free u v (listed u c) (listed v d) (λ e. let itself = subst (λ t. word_cmp u t ≡ Less) (sym e) less in word_cmp_once u u itself itself))

-- a pair permutes the cycle words of its semi-normal basis
pub permuted_part : (shape : Shape) (p : List Row) → IsPair shape p → (X P : List Word) → IsSemiNormal shape p X → IsPeriodicPart shape p X P → IsPermuted shape p P
permuted_part shape p pair X P semi part = record {
  words = All-from_contains (IsWordOf shape) P (λ x c. basis_word shape X semi.basis x ((part.same x).0 c).0);
  free = ascending_free X P semi.basis.prefix_free part.ascending (λ x c. ((part.same x).0 c).0);
  cycle = λ v c. ((part.same v).0 c).1;
  moves = λ k v c.
      let was = (part.same v).0 c in
      let r = cycle_around shape p pair X semi (pos k) v was.1.0 was.0 was.1.1 in
      (r.word, (part.same r.word).1 (r.listed, (was.1.0, r.cycle)), r.carries);
}

-- the words of cycles of one length
of_length : (shape : Shape) (p : List Row) (X P A : List Word) (m : ℕ) → IsPeriodicPart shape p X P → IsSelected (λ x. IsCycle shape p x m) X A → AreOfLength shape p P m A
of_length shape p X P A m part selected = record {
  same = λ x. (
    λ c. let r = (selected.same x).0 c in ((part.same x).1 (r.0, (m, r.1)), r.1),
    λ h. (selected.same x).1 (((part.same x).0 h.0).0, h.1),
  );
}

-- rows match the cycle words of two semi-normal bases
record MatchParts (shape : Shape) (f g : List Row) (X W P Q : List Word) (h : List Row) (bound : ℕ) : Type 0 where
  pair_f : IsPair shape f
  pair_g : IsPair shape g
  semi_f : IsSemiNormal shape f X
  semi_g : IsSemiNormal shape g W
  part_f : IsPeriodicPart shape f X P
  part_g : IsPeriodicPart shape g W Q
  match : IsMatching shape f P g Q h bound

-- two lists of the words of cycles of one length
record AreMatched (shape : Shape) (f g : List Row) (A B : List Word) (h : List Row) (bound m : ℕ) : Type 0 where
  perm_f : IsPermuted shape f A
  perm_g : IsPermuted shape g B
  match : IsMatching shape f A g B h bound
  cycles_f : (v : Word) → Contains A v → IsCycle shape f v m
  cycles_g : (v : Word) → Contains B v → IsCycle shape g v m

-- those of the words of the two bases are matched
are_matched : (shape : Shape) (f g : List Row) (X W P Q : List Word) (h : List Row) (bound m : ℕ) (A B : List Word) → MatchParts shape f g X W P Q h bound → IsSelected (λ x. IsCycle shape f x m) X A → IsSelected (λ x. IsCycle shape g x m) W B → AreMatched shape f g A B h (bound + bound) m
are_matched shape f g X W P Q h bound m A B parts in_f in_g =
    let perm_f = permuted_part shape f parts.pair_f X P parts.semi_f parts.part_f in
    let perm_g = permuted_part shape g parts.pair_g W Q parts.semi_g parts.part_g in
    let of_f = of_length shape f X P A m parts.part_f in_f in
    let of_g = of_length shape g W Q B m parts.part_g in_g in
    record {
      perm_f = permuted_of_length shape f parts.pair_f P A m perm_f (ascending_free X A parts.semi_f.basis.prefix_free in_f.ascending (λ x c. ((in_f.same x).0 c).0)) of_f;
      perm_g = permuted_of_length shape g parts.pair_g Q B m perm_g (ascending_free W B parts.semi_g.basis.prefix_free in_g.ascending (λ x c. ((in_g.same x).0 c).0)) of_g;
      match = match_of_length shape f g parts.pair_f parts.pair_g P Q h bound perm_f perm_g parts.match m A B of_f of_g;
      cycles_f = λ v c. ((in_f.same v).0 c).1;
      cycles_g = λ v c. ((in_g.same v).0 c).1;
    }

-- a list that has a word isn't empty
is_some : (A : List Word) (x : Word) → Contains A x → A ≢ []
is_some A x c e = Contains-nil x (subst (λ (B : List Word). Contains B x) e c)

-- where the first list has words, so has the second
some_ahead : (shape : Shape) (f g : List Row) (A B : List Word) (h : List Row) (bound m : ℕ) → AreMatched shape f g A B h bound m → A ≢ [] → B ≢ []
some_ahead shape f g A B h bound m both some =
    let x = has_some A some in
    let u = x.0 · ones bound in
    let s = both.match.ahead u 0 (long_word shape x.0 bound (All-contains (IsWordOf shape) A x.0 both.perm_f.words x.1)) (some_at A x.0 u x.1 (under_after x.0 (ones bound))) (omega (arith, length-long x.0 bound)) in
    is_some B s.under.above s.under.listed

-- and the other way round
some_behind : (shape : Shape) (f g : List Row) (A B : List Word) (h : List Row) (bound m : ℕ) → AreMatched shape f g A B h bound m → B ≢ [] → A ≢ []
some_behind shape f g A B h bound m both some =
    let x = has_some B some in
    let u = x.0 · ones bound in
    let s = both.match.behind u 0 (long_word shape x.0 bound (All-contains (IsWordOf shape) B x.0 both.perm_g.words x.1)) (some_at B x.0 u x.1 (under_after x.0 (ones bound))) (omega (arith, length-long x.0 bound)) in
    is_some A s.under.above s.under.listed

-- both have equally many cycles modulo n - 1
same_count : (shape : Shape) (f g : List Row) → IsPair shape f → IsPair shape g → (A B : List Word) (h : List Row) (bound m : ℕ) → AreMatched shape f g A B h bound m → 1 ≤ m → (length A / m) % (shape.n - 1) ≡ (length B / m) % (shape.n - 1)
same_count shape f g pair_f pair_g A B h bound m both = matched_cycles shape f g pair_f pair_g A B h bound m both.perm_f both.perm_g both.match both.cycles_f both.cycles_g

-- so each length of a cycle of the first element is one of the second, with the same number
cycles_ahead : (shape : Shape) (f g : List Row) (X W P Q : List Word) (h : List Row) (bound : ℕ) → MatchParts shape f g X W P Q h bound → (m c : ℕ) → HasCycles shape f X m c → HasCycles shape g W m c
cycles_ahead shape f g X W P Q h bound parts m c has =
    let B = with_length shape g W Q parts.part_g m in
    let both = are_matched shape f g X W P Q h bound m has.cycle_words B.0 parts has.selected B.1 in
    let x = has_some has.cycle_words has.some in
    record {
      cycle_words = B.0;
      selected = B.1;
      some = some_ahead shape f g has.cycle_words B.0 h (bound + bound) m both has.some;
      count = has.count ∙ same_count shape f g parts.pair_f parts.pair_g has.cycle_words B.0 h (bound + bound) m both (both.cycles_f x.0 x.1).positive;
    }

-- and each of the second is one of the first
cycles_behind : (shape : Shape) (f g : List Row) (X W P Q : List Word) (h : List Row) (bound : ℕ) → MatchParts shape f g X W P Q h bound → (m c : ℕ) → HasCycles shape g W m c → HasCycles shape f X m c
cycles_behind shape f g X W P Q h bound parts m c has =
    let A = with_length shape f X P parts.part_f m in
    let both = are_matched shape f g X W P Q h bound m A.0 has.cycle_words parts A.1 has.selected in
    let x = has_some has.cycle_words has.some in
    record {
      cycle_words = A.0;
      selected = A.1;
      some = some_behind shape f g A.0 has.cycle_words h (bound + bound) m both has.some;
      count = has.count ∙ sym (same_count shape f g parts.pair_f parts.pair_g A.0 has.cycle_words h (bound + bound) m both (both.cycles_g x.0 x.1).positive);
    }

-- where some rows conjugate the periodic part of one element into that of another, both have one profile
pub on_profiles : (shape : Shape) (f g : List Row) → IsPair shape f → IsPair shape g → (X W P Q : List Word) → IsSemiNormal shape f X → IsSemiNormal shape g W → IsPeriodicPart shape f X P → IsPeriodicPart shape g W Q → (h : List Row) → ConjugatesOn shape h f P g Q
    → (F G : List (ℕ × ℕ)) → IsProfile shape f X F → IsProfile shape g W G → F ≡ G
on_profiles shape f g pair_f pair_g X W P Q semi_f semi_g part_f part_g h on F G first second =
    let matched = conjugates_match shape f pair_f P (permuted_part shape f pair_f X P semi_f part_f) g pair_g Q h on in
    let parts : MatchParts shape f g X W P Q h matched.0 = record { pair_f = pair_f; pair_g = pair_g; semi_f = semi_f; semi_g = semi_g; part_f = part_f; part_g = part_g; match = matched.1 } in
    ascending_same (λ (d : ℕ × ℕ) (e : ℕ × ℕ). d.0 < e.0) (λ d e l k. omega (arith, l, k)) F G first.ascending second.ascending
    (λ d c. (second.same d.0 d.1).1 (cycles_ahead shape f g X W P Q h matched.0 parts d.0 d.1 ((first.same d.0 d.1).0 c)))
    (λ d c. (first.same d.0 d.1).1 (cycles_behind shape f g X W P Q h matched.0 parts d.0 d.1 ((second.same d.0 d.1).0 c)))
