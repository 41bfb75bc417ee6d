-- Rows that conjugate one pair into another on a part lead each long word of the part on as the other pair does.
use Rattle.std.proofs.Common.{◌≡◌, ℕ, zero, suc, ◌+◌, ◌≤◌, List, length, refl, sym, ap, ◌∙◌, subst, arith, Contains, pos, ◌+ℤ◌}
use Rattle.std.proofs.lemmas.Int.{ints}
use Rattle.std.proofs.lemmas.List.Elements.{All-contains}
use Rattle.ht_word.specs.Words.{◌·◌, IsLetters, IsWordOf, IsUnderSome}
use Rattle.ht_word.specs.declared.shape.Shape.{Shape}
use Rattle.ht_word.specs.declared.word.Word.{Word}
use Rattle.ht_word.proofs.ListLaws.{Contains-map, contained_in_map}
use Rattle.ht_word.proofs.WordLaws.{length-after, under_after, word_after, word_rest}
use Rattle.ht_pair.specs.Actions.{Moves}
use Rattle.ht_pair.specs.Bases.{IsPrefixFree, longest, Covers}
use Rattle.ht_pair.specs.LocalConjugacy.{ConjugatesOn}
use Rattle.ht_pair.specs.Pairs.{from_words, to_words, IsPair, turned}
use Rattle.ht_pair.specs.Steps.{Carries}
use Rattle.ht_pair.specs.declared.row.Row.{Row}
use Rattle.ht_pair.proofs.BasisLaws.{longest_bounds, some_at, some_trans, covers_long}
use Rattle.ht_pair.proofs.CarriesLaws.{carries_single, carries_from_steps, carries_extends, carries_sum, carries_itself}
use Rattle.ht_pair.proofs.MovesLaws.{moves_single, moves_extends, moves_turned, from_words-turned, to_words-turned, pair_moves}
use Rattle.ht_cycles.proofs.RepresentativeLaws.{IsPermuted}

-- the rows move u to a word under W of at least j letters
pub record IsSent (shape : Shape) (h : List Row) (W : List Word) (u : Word) (j : ℕ) : Type 0 where
  pub to : Word
  pub moved : Moves h u to
  pub word : IsWordOf shape to
  pub under : IsUnderSome to W
  pub long : j ≤ length to.letters

-- so many letters are enough for it
abbrev enough : List Row → List Word → List Word → ℕ
enough h V W = longest (from_words h) + longest (to_words h) + longest V + longest W

-- rows whose words cover V and W send long words under V to words under W
sent : (shape : Shape) (h : List Row) (V W : List Word) → Covers shape (from_words h) V → Covers shape (to_words h) W → (u : Word) (j : ℕ) → IsWordOf shape u → IsUnderSome u V → enough h V W + j ≤ length u.letters → IsSent shape h W u j
sent shape h V W from to u j word under l =
    let s = (covers_long shape (from_words h) V from u word (omega arith)).1 under in
    let g = contained_in_map (λ (t : Row). t.from) h s.above s.listed in
    let row = g.0 in
    let z = s.under.rest in
    let is : u ≡ row.from · z = s.under.is ∙ ap (λ t. t · z) (sym g.2) in
    let letters = word_rest shape row.from z (subst (IsWordOf shape) is word) in
    let listed : Contains (to_words h) row.to = Contains-map (λ (t : Row). t.to) h row g.1 in
    let there : IsWordOf shape (row.to · z) = word_after shape row.to z (All-contains (IsWordOf shape) (to_words h) row.to to.words listed) letters in
    let short : length row.from.letters ≤ longest (from_words h) = longest_bounds (from_words h) row.from (Contains-map (λ (t : Row). t.from) h row g.1) in
    let long : longest (to_words h) + longest V + longest W + j ≤ length ((row.to · z).letters) = omega (arith, short, ap (λ (t : Word). length t.letters) is, length-after row.from z, length-after row.to z) in
    record {
      to = row.to · z;
      moved = record { row = row; rest = z; listed = g.1; from = is; to = refl };
      word = there;
      under = (covers_long shape (to_words h) W to (row.to · z) there (omega (arith, long))).0 (some_at (to_words h) row.to (row.to · z) listed (under_after row.to z));
      long = omega (arith, long);
    }

-- where one step leads from a long word under V, the other pair's step leads from its image to the image of that
step_over : (shape : Shape) (f : List Row) → IsPair shape f → (V : List Word) (g : List Row) (W : List Word) (h : List Row) → ConjugatesOn shape h f V g W → (u u' w w' : Word) → IsWordOf shape w → IsUnderSome u V → longest (from_words f) ≤ length u.letters
    → Carries shape f (pos 1) u u' → Moves h u w → Moves h u' w' → Carries shape g (pos 1) w w'
step_over shape f pair V g W h on u u' w w' word under l carries first second =
    let m = pair_moves shape f pair u carries.word l in
    let same : m.0 ≡ u' = carries_single shape f pair (pos 1) u m.0 u' (carries_from_steps shape f pair (pos 1) u m.0 carries.word (u, refl, m.2)) carries in
    let moved : Moves f u u' = subst (Moves f u) same m.2 in
    record {
      word = word;
      carried = λ z x hz s.
          on.commutes (u · z) (u' · z) (w · z) (w' · z) x (word_after shape u z carries.word hz) (some_trans (under_after u z) under) (moves_extends f u u' z moved) (moves_extends h u' w' z second) (moves_extends h u w z first)
          (subst (λ t. Moves g t x) (sym s.1) s.2);
    }

-- k steps lead from v to a word of V, and the image of v with the letters goes on to the image of that with the letters
record GoesOver (shape : Shape) (f : List Row) (V : List Word) (g h : List Row) (v : Word) (z : List ℕ) (w : Word) (k : ℕ) : Type 0 where
  next : Word
  listed : Contains V next
  carries : Carries shape f (pos k) v next
  to : Word
  moved : Moves h (next · z) to
  word : IsWordOf shape to
  over : Carries shape g (pos k) w to

goes_over : (shape : Shape) (f : List Row) → IsPair shape f → (V : List Word) → IsPermuted shape f V → (g : List Row) → IsPair shape g → (W : List Word) (h : List Row) → ConjugatesOn shape h f V g W → (v : Word) (z : List ℕ) (w : Word) → Contains V v → IsLetters shape z
    → longest (from_words f) + enough h V W ≤ length z → IsWordOf shape w → Moves h (v · z) w → (k : ℕ) → GoesOver shape f V g h v z w k
goes_over shape f pair_f V perm g pair_g W h on v z w c hz l word moved zero = record {
  next = v;
  listed = c;
  carries = carries_itself shape f v (All-contains (IsWordOf shape) V v perm.words c);
  to = w;
  moved = moved;
  word = word;
  over = carries_itself shape g w word;
}
goes_over shape f pair_f V perm g pair_g W h on v z w c hz l word moved (suc k) =
    let r = goes_over shape f pair_f V perm g pair_g W h on v z w c hz l word moved k in
    let y = perm.moves 1 r.next r.listed in
    let under : (x : Word) → Contains V x → IsUnderSome (x · z) V = λ x d. some_at V x (x · z) d (under_after x z) in
    let s = sent shape h V W on.from on.to (y.0 · z) 0 (word_after shape y.0 z (All-contains (IsWordOf shape) V y.0 perm.words y.1) hz) (under y.0 y.1) (omega (arith, length-after y.0 z)) in
    let step = step_over shape f pair_f V g W h on (r.next · z) (y.0 · z) r.to s.to r.word (under r.next r.listed) (omega (arith, length-after r.next z)) (carries_extends shape f (pos 1) r.next y.0 z hz y.2) r.moved s.moved in
    let sum : pos k +ℤ pos 1 ≡ pos (suc k) = omega (arith, ints) in
    record {
      next = y.0;
      listed = y.1;
      carries = carries_sum shape f pair_f (pos k) (pos 1) (pos (suc k)) sum v r.next y.0 r.carries y.2;
      to = s.to;
      moved = s.moved;
      word = s.word;
      over = carries_sum shape g pair_g (pos k) (pos 1) (pos (suc k)) sum w r.to s.to r.over step;
    }

-- the same for a long word under V
record GoesWith (shape : Shape) (f g h : List Row) (u w : Word) (k : ℕ) : Type 0 where
  next : Word
  carries : Carries shape f (pos k) u next
  to : Word
  moved : Moves h next to
  over : Carries shape g (pos k) w to

goes_with : (shape : Shape) (f : List Row) → IsPair shape f → (V : List Word) → IsPermuted shape f V → (g : List Row) → IsPair shape g → (W : List Word) (h : List Row) → ConjugatesOn shape h f V g W → (k : ℕ) (u w : Word) → IsWordOf shape u → IsUnderSome u V
    → longest (from_words f) + enough h V W + longest V ≤ length u.letters → Moves h u w → GoesWith shape f g h u w k
goes_with shape f pair_f V perm g pair_g W h on k u w word under l moved =
    let v = under.above in
    let z = under.under.rest in
    let is : u ≡ v · z = under.under.is in
    let hz = word_rest shape v z (subst (IsWordOf shape) is word) in
    let s = sent shape h V W on.from on.to u 0 word under (omega arith) in
    let there : IsWordOf shape w = subst (IsWordOf shape) (moves_single h on.from.prefix_free u s.to w s.moved moved) s.word in
    let r = goes_over shape f pair_f V perm g pair_g W h on v z w under.listed hz (omega (arith, longest_bounds V v under.listed, ap (λ (t : Word). length t.letters) is, length-after v z)) there (subst (λ t. Moves h t w) is moved) k in
    record {
      next = r.next · z;
      carries = subst (λ t. Carries shape f (pos k) t (r.next · z)) (sym is) (carries_extends shape f (pos k) v r.next z hz r.carries);
      to = r.to;
      moved = r.moved;
      over = r.over;
    }

-- rows that lead the long words under V to those under W, and back, and the steps of f to those of g
pub record IsMatching (shape : Shape) (f : List Row) (V : List Word) (g : List Row) (W : List Word) (h : List Row) (bound : ℕ) : Type 0 where
  pub one : (u u' w : Word) → Moves h u w → Moves h u' w → u ≡ u'
  pub ahead : (u : Word) (j : ℕ) → IsWordOf shape u → IsUnderSome u V → bound + j ≤ length u.letters → IsSent shape h W u j
  pub behind : (w : Word) (j : ℕ) → IsWordOf shape w → IsUnderSome w W → bound + j ≤ length w.letters → IsSent shape (turned h) V w j
  pub follows : (k : ℕ) (u u' w w' : Word) → IsWordOf shape u → IsUnderSome u V → bound ≤ length u.letters → Moves h u w → Moves h u' w' → Carries shape f (pos k) u u' → Carries shape g (pos k) w w'
  pub returns : (k : ℕ) (u u' w w' : Word) → IsWordOf shape u → IsUnderSome u V → bound ≤ length u.letters → Moves h u w → Moves h u' w' → Carries shape g (pos k) w w' → Carries shape f (pos k) u u'

-- rows that conjugate on a part that f permutes match it with the other part
pub conjugates_match : (shape : Shape) (f : List Row) → IsPair shape f → (V : List Word) → IsPermuted shape f V → (g : List Row) → IsPair shape g → (W : List Word) (h : List Row) → ConjugatesOn shape h f V g W → (bound : ℕ) × IsMatching shape f V g W h bound
conjugates_match shape f pair_f V perm g pair_g W h on = (
  longest (from_words f) + enough h V W + longest V,
  record {
    one = one;
    ahead = λ u j word under l. sent shape h V W on.from on.to u j word under (omega arith);
    behind = λ w j word under l.
        sent shape (turned h) W V (subst (λ X. Covers shape X W) (sym (from_words-turned h)) on.to) (subst (λ X. Covers shape X V) (sym (to_words-turned h)) on.from) w j word under
        (omega (arith, ap (λ (X : List Word). longest X) (from_words-turned h), ap (λ (X : List Word). longest X) (to_words-turned h)));
    follows = λ k u u' w w' word under l first second carries.
        let r = goes_with shape f pair_f V perm g pair_g W h on k u w word under l first in
        let same : r.next ≡ u' = carries_single shape f pair_f (pos k) u r.next u' r.carries carries in
        subst (Carries shape g (pos k) w) (moves_single h on.from.prefix_free u' r.to w' (subst (λ t. Moves h t r.to) same r.moved) second) r.over;
    returns = λ k u u' w w' word under l first second carries.
        let r = goes_with shape f pair_f V perm g pair_g W h on k u w word under l first in
        let same : r.to ≡ w' = carries_single shape g pair_g (pos k) w r.to w' r.over carries in
        subst (Carries shape f (pos k) u) (one r.next u' w' (subst (Moves h r.next) same r.moved) second) r.carries;
  },
)
  where
    one : (u u' w : Word) → Moves h u w → Moves h u' w → u ≡ u'
    one u u' w a b = moves_single (turned h) (subst IsPrefixFree (sym (from_words-turned h)) on.to.prefix_free) w u u' (moves_turned h u w a) (moves_turned h u' w b)
