-- Elements with one profile have rows that match their periodic parts.
use Rattle.std.proofs.Common.{◌≡◌, ◌≢◌, ℕ, zero, suc, ◌+◌, ◌*◌, ◌-◌, ◌/◌, ◌%◌, ◌<◌, ◌≤◌, ◌↔◌, inl, inr, List, [], ◌∷◌, ◌++◌, length, max, drop, take, ◌⊎◌, refl, sym, ap, ◌∙◌, subst, arith, All, Contains, pos}
use Rattle.std.proofs.Math.Nat.{mul-div_cancel_left, div-mul-le_self, div-add-mod, mul-sub, mul-add}
use Rattle.std.proofs.lemmas.Nat.{le-div}
use Rattle.std.proofs.lemmas.Bool.{cases_lt}
use Rattle.std.proofs.lemmas.List.{take_all, length-drop, get_or_past}
use Rattle.ht_word.specs.Words.{◌·◌, IsWordOf, IsUnderSome}
use Rattle.ht_word.specs.declared.shape.Shape.{Shape}
use Rattle.ht_word.specs.declared.word.Word.{Word}
use Rattle.ht_word.proofs.ListLaws.{Contains-nil, Contains-here}
use Rattle.ht_word.proofs.WordLaws.{All-from_contains, word_rest}
use Rattle.ht_pair.specs.Actions.{Moves}
use Rattle.ht_pair.specs.Bases.{IsPrefixFree, longest, Covers}
use Rattle.ht_pair.specs.Elements.{ElementValue}
use Rattle.ht_pair.specs.Kinds.{IsCycle}
use Rattle.ht_pair.specs.LocalConjugacy.{ConjugatesOn}
use Rattle.ht_pair.specs.Pairs.{IsPair, from_words, to_words}
use Rattle.ht_pair.specs.Parts.{IsSelected, IsPeriodicPart}
use Rattle.ht_pair.specs.Profiles.{HasCycles, IsProfile}
use Rattle.ht_pair.specs.SemiNormal.{IsSemiNormal}
use Rattle.ht_pair.specs.Steps.{Carries}
use Rattle.ht_pair.specs.declared.row.Row.{Row}
use Rattle.ht_pair.proofs.BasisLaws.{covers_from, covers_long, some_at}
use Rattle.ht_pair.proofs.CarriesLaws.{carries_single, carries_extends, carries_from_steps}
use Rattle.ht_pair.proofs.CountLaws.{no_more}
use Rattle.ht_pair.proofs.MovesLaws.{moves_single}
use Rattle.ht_pair.proofs.PartLaws.{profile_once}
use Rattle.ht_quasi.specs.declared.quasi.Quasi.{Quasi}
use Rattle.ht_types.specs.TypedElements.{TypedValue, IsTyped}
use Rattle.ht_types.specs.declared.kind.Kind.{Kind}
use Rattle.ht_types.proofs.KnownParts.{periodic_part}
use Rattle.ht_types.proofs.TurnLaws.{HasSemiNormal}
use Rattle.ht_cycles.specs.Cycles.{group, ArePicked, AreSeeds, GoesOn, AreRounds}
use Rattle.ht_cycles.specs.MatchedLengths.{AreOfLengths, IsFollowedByRow, MatchLengths}
use Rattle.ht_cycles.specs.Matches.{HaveOneProfile, IsMatch}
use Rattle.ht_cycles.proofs.ConjugateProfileLaws.{ascending_free, on_profiles}
use Rattle.ht_cycles.proofs.CycleRowLaws.{has_cycle_words, match_rounds}
use Rattle.ht_cycles.proofs.ProfileLaws.{has_some, with_length}
use Rattle.ht_cycles.proofs.SeedLaws.{picked_seeds, goes_on}
use Rattle.ht_cycles.proofs.MatchedLengthLaws.{match_more}

pub ready : (element : ElementValue) (quasi : Quasi) (kinds : List Kind) (shape : Shape) → IsTyped element quasi kinds → element.shape ≡ shape → HasSemiNormal shape element.rows quasi.basis.words
ready element quasi kinds shape typed same = record { pair = subst (λ (s : Shape). IsPair s element.rows) same typed.canonical.canonical.pair; semi = subst (λ (s : Shape). IsSemiNormal s element.rows quasi.basis.words) same typed.quasinormal.least.semi_normal }

-- ---- rows that conjugate

-- rows of which each is followed by one of them conjugate on the words under their `from` words
follows_commutes : (shape : Shape) (f g rows : List Row) → IsPair shape f → IsPair shape g → IsPrefixFree (from_words rows) → All (IsWordOf shape) (to_words rows) → ((row : Row) → Contains rows row → IsFollowedByRow shape f g rows row)
    → (u u' v v' w : Word) → IsWordOf shape u → Moves f u u' → Moves rows u' v' → Moves rows u v → Moves g v w → w ≡ v'
follows_commutes shape f g rows pair_f pair_g free words follows u u' v v' w word step second first over =
    let row = first.row in
    let z = first.rest in
    let next = follows row first.listed in
    let hz = word_rest shape row.from z (subst (IsWordOf shape) first.from word) in
    let ahead : u' ≡ next.next.from · z = carries_single shape f pair_f (pos 1) u u' (next.next.from · z) (carries_from_steps shape f pair_f (pos 1) u u' word (u, refl, step)) (subst (λ t. Carries shape f (pos 1) t (next.next.from · z)) (sym first.from) (carries_extends shape f (pos 1) row.from next.next.from z hz next.from)) in
    let beside : Carries shape g (pos 1) v (next.next.to · z) = subst (λ t. Carries shape g (pos 1) t (next.next.to · z)) (sym first.to) (carries_extends shape g (pos 1) row.to next.next.to z hz next.to) in
    let image : v' ≡ next.next.to · z = moves_single rows free u' v' (next.next.to · z) second (record { row = next.next; rest = z; listed = next.listed; from = ahead; to = refl }) in
    carries_single shape g pair_g (pos 1) v w (next.next.to · z) (carries_from_steps shape g pair_g (pos 1) v w beside.word (v, refl, over)) beside ∙ sym image

-- what covers a list covers one with the same words
covers_same : (shape : Shape) (W P Q : List Word) → Covers shape W P → ((x : Word) → Contains P x ↔ Contains Q x) → Covers shape W Q
covers_same shape W P Q h same = covers_from shape W Q h.words h.prefix_free (longest W + longest P) (λ u word l.
    let one = covers_long shape W P h u word (omega arith) in (
      λ s. let t = one.0 s in some_at Q t.above u ((same t.above).0 t.listed) t.under,
      λ s. one.1 (some_at P s.above u ((same s.above).1 s.listed) s.under),
    ))

-- the words of all cycles are the periodic part
same_words : (shape : Shape) (f : List Row) (X W P : List Word) (m : ℕ) → IsPeriodicPart shape f X P → ((x : Word) (k : ℕ) → Contains X x → IsCycle shape f x k → k < m) → AreOfLengths shape f X (λ k. k < m) W → (x : Word) → Contains W x ↔ Contains P x
same_words shape f X W P m part all are x = (
  λ c. let h = are.listed x c in (part.same x).1 (h.0, (h.1, h.3)),
  λ c. let h = (part.same x).0 c in are.all x h.1.0 h.0 (all x h.1.0 h.0 h.1.1) h.1.1,
)

-- rows that match the cycles of all lengths match the periodic parts
pub is_match : (shape : Shape) (f g : List Row) → IsPair shape f → IsPair shape g → (X Y P Q : List Word) (m : ℕ) → IsPeriodicPart shape f X P → IsPeriodicPart shape g Y Q → ((x : Word) (k : ℕ) → Contains X x → IsCycle shape f x k → k < m) → ((y : Word) (k : ℕ) → Contains Y y → IsCycle shape g y k → k < m) → (rows : List Row)
    → MatchLengths shape f X g Y (λ k. k < m) rows → IsMatch shape f X g Y rows
is_match shape f g pair_f pair_g X Y P Q m part_f part_g all_f all_g rows h =
    let same_f = same_words shape f X h.first P m part_f all_f h.first_are in
    let same_g = same_words shape g Y h.second Q m part_g all_g h.second_are in
    let from = covers_same shape (from_words rows) h.first P h.from same_f in
    let to = covers_same shape (to_words rows) h.second Q h.to same_g in
    record {
      first = P;
      second = Q;
      first_part = part_f;
      second_part = part_g;
      few = omega (arith, h.few, no_more h.first P h.first_are.free (λ x c. (same_f x).0 c), no_more h.second Q h.second_are.free (λ x c. (same_g x).0 c));
      conjugates = record { from = from; to = to; commutes = λ u u' v v' w word under. follows_commutes shape f g rows pair_f pair_g from.prefix_free to.words h.follows u u' v v' w word };
      from_under = All-from_contains (λ u. IsUnderSome u P) (from_words rows) (λ u c. let s = h.from_under u c in some_at P s.above u ((same_f s.above).0 s.listed) s.under);
      to_under = All-from_contains (λ v. IsUnderSome v Q) (to_words rows) (λ v c. let s = h.to_under v c in some_at Q s.above v ((same_g s.above).0 s.listed) s.under);
    }

-- ---- counts

-- the cycles of one length are as many as the words that are picked
picked_count : (shape : Shape) (f : List Row) → IsPair shape f → (X : List Word) → IsSemiNormal shape f X → (m : ℕ) (R A : List Word) → ArePicked shape f X m R → IsSelected (λ x. IsCycle shape f x m) X A → length A ≡ m * length R
picked_count shape f pair X semi m R A picked selected =
    let P = has_cycle_words shape f pair X semi m R picked in
    let to : (x : Word) → Contains P.words x → Contains A x = λ x c. let h = P.are.listed x c in (selected.same x).1 (h.0, subst (IsCycle shape f x) h.2 h.3) in
    let from : (x : Word) → Contains A x → Contains P.words x = λ x c. let h = (selected.same x).0 c in P.are.all x m h.0 refl h.1 in
    omega (arith, P.size, no_more P.words A P.are.free to, no_more A P.words (ascending_free X A semi.basis.prefix_free selected.ascending (λ x c. ((selected.same x).0 c).0)) from)

-- a list that has no words is empty, and else has a first word
first_word : (R : List Word) → length R ≢ 0 → (r : Word) × Contains R r
first_word [] some = absurd (some refl)
first_word (r ∷ R) some = (r, Contains-here r R)

-- the cycles of one length of two elements are as many modulo n - 1, and are there or not in both
pub record AreAsMany (n c d : ℕ) : Type 0 where
  pub some : (c ≡ 0) ↔ (d ≡ 0)
  pub alike : c % (n - 1) ≡ d % (n - 1)

-- the cycles that the other element has as well
record HasAsMany (n c d : ℕ) : Type 0 where
  some : d ≢ 0
  alike : c % (n - 1) ≡ d % (n - 1)

counts_ahead : (shape : Shape) (f g : List Row) → IsPair shape f → IsPair shape g → (X Y : List Word) → IsSemiNormal shape f X → IsSemiNormal shape g Y → (F : List (ℕ × ℕ)) → IsProfile shape f X F → IsProfile shape g Y F → (m : ℕ) (R S A : List Word) → ArePicked shape f X m R → ArePicked shape g Y m S
    → IsSelected (λ x. IsCycle shape f x m) X A → length R ≢ 0 → HasAsMany shape.n (length R) (length S)
counts_ahead shape f g pair_f pair_g X Y semi_f semi_g F first second m R S A picked_f picked_g selected some =
    let r = first_word R some in
    let turn = (picked_f.listed r.0 r.1).1 in
    let size_A = picked_count shape f pair_f X semi_f m R A picked_f selected in
    let in_A = (selected.same r.0).1 (picked_f.listed r.0 r.1) in
    let c : ℕ = (length A / m) % (shape.n - 1) in
    let has : HasCycles shape f X m c = record { cycle_words = A; selected = selected; some = λ e. absurd (Contains-nil r.0 (subst (λ (W : List Word). Contains W r.0) e in_A)); count = refl } in
    let other = (second.same m c).0 ((first.same m c).1 has) in
    let size_B = picked_count shape g pair_g Y semi_g m S other.cycle_words picked_g other.selected in
    let y = has_some other.cycle_words other.some in
    let h = (other.selected.same y.0).0 y.1 in
    let s = picked_g.all y.0 h.0 h.1 in
    record {
      some = λ e. absurd (nothing S s.0 s.1 e);
      alike = ap (λ k. k % (shape.n - 1)) (sym (quotient m (length A) (length R) turn.positive size_A)) ∙ other.count ∙ ap (λ k. k % (shape.n - 1)) (quotient m (length other.cycle_words) (length S) turn.positive size_B);
    }
  where
    quotient : (m a r : ℕ) → 1 ≤ m → a ≡ m * r → a / m ≡ r
    quotient m a r positive e = ap (λ t. t / m) e ∙ mul-div_cancel_left r positive

    nothing : (S : List Word) (s : Word) → Contains S s → length S ≢ 0
    nothing S s c e = let l = c.1 in absurd (omega arith)

pub as_many : (shape : Shape) (f g : List Row) → IsPair shape f → IsPair shape g → (X Y : List Word) → IsSemiNormal shape f X → IsSemiNormal shape g Y → HaveOneProfile shape f X g Y → (m : ℕ) (R S A B : List Word) → ArePicked shape f X m R → ArePicked shape g Y m S
    → IsSelected (λ x. IsCycle shape f x m) X A → IsSelected (λ y. IsCycle shape g y m) Y B → AreAsMany shape.n (length R) (length S)
as_many shape f g pair_f pair_g X Y semi_f semi_g one m R S A B picked_f picked_g in_f in_g =
    let ahead = counts_ahead shape f g pair_f pair_g X Y semi_f semi_g one.profile one.first one.second m R S A picked_f picked_g in_f in
    let behind = counts_ahead shape g f pair_g pair_f Y X semi_g semi_f one.profile one.second one.first m S R B picked_g picked_f in_g in
    told (length R) (length S) shape.n ahead behind
  where
    told : (c d n : ℕ) → (c ≢ 0 → HasAsMany n c d) → (d ≢ 0 → HasAsMany n d c) → AreAsMany n c d
    told zero zero n ahead behind = record { some = (λ e. refl, λ e. refl); alike = refl }
    told zero (suc d) n ahead behind = absurd ((behind (λ e. absurd (omega arith))).some refl)
    told (suc c) d n ahead behind = let h = ahead (λ e. absurd (omega arith)) in record { some = (λ e. absurd (omega arith), λ e. absurd (h.some e)); alike = h.alike }

-- ---- expansions

-- the greater of two numbers that agree modulo k is some times k more than the other
differs_by : (c d k : ℕ) → 1 ≤ k → c ≤ d → c % k ≡ d % k → c + (d - c) / k * k ≡ d
differs_by c d k positive l same =
    let up : c / k ≤ d / k = le-div (c / k) d k positive (omega (arith, div-mul-le_self c k)) in
    let apart : d - c ≡ k * (d / k - c / k) = omega (arith, mul-sub k (d / k) (c / k), div-add-mod c k, div-add-mod d k, same) in
    let times : (d - c) / k ≡ d / k - c / k = ap (λ t. t / k) apart ∙ mul-div_cancel_left (d / k - c / k) positive in
    omega (arith, apart, ap (λ t. t * k) times)

-- so it is for each of the two and the greater
to_most : (c d most k : ℕ) → 1 ≤ k → c % k ≡ d % k → most ≡ max c d → c + (most - c) / k * k ≡ most
to_most c d most k positive same is = elim (either c d) [
  | inl l ↦ let e : most ≡ d = omega (arith, is) in subst (λ t. c + (t - c) / k * k ≡ t) (sym e) (differs_by c d k positive l same)
  | inr l ↦ let e : most ≡ c = omega (arith, is) in subst (λ t. c + (t - c) / k * k ≡ t) (sym e) (differs_by c c k positive (omega arith) refl)
]
  where
    either : (c d : ℕ) → (c ≤ d) ⊎ (d ≤ c)
    either c d = grind arith

-- words that stand for the cycles, as many as are wanted
pub record IsExpanded (shape : Shape) (f : List Row) (X : List Word) (m most : ℕ) (us : List Word) : Type 0 where
  pub seeds : AreSeeds shape f X m us
  pub size : length us ≡ most

pub is_expanded : (shape of given : Shape) (f : List Row) (X : List Word) → HasSemiNormal shape f X → (m d most times : ℕ) (R list held : List Word) → of ≡ shape → given ≡ shape → ArePicked shape f X m R → length R % (shape.n - 1) ≡ d % (shape.n - 1) → most ≡ max (length R) d → times ≡ (most - length R) / (given.n - 1)
    → length list ≡ length R + times * of.n → ((j : ℕ) → AreSeeds of f X j R → AreSeeds of f X j (drop times list)) → held ≡ list → IsExpanded shape f X m most (take (length held - times) (drop times held))
is_expanded shape of given f X ready m d most times R list held known same picked alike is count size seeds one =
    let whole : take (length held - times) (drop times held) ≡ drop times list = take_all (length held - times) (drop times held) (omega (arith, length-drop times held)) ∙ ap (drop times) one in
    let step : (most - length R) / (given.n - 1) ≡ (most - length R) / (shape.n - 1) = ap (λ (s : Shape). (most - length R) / (s.n - 1)) same in
    let more : length R + times * (shape.n - 1) ≡ most = ap (λ t. length R + t * (shape.n - 1)) (count ∙ step) ∙ to_most (length R) d most (shape.n - 1) (omega (arith, shape.letters_low)) alike is in
    let letters : shape.n ≡ shape.n - 1 + 1 = omega (arith, shape.letters_low) in
    let all : length list ≡ length R + times * shape.n = size ∙ ap (λ (s : Shape). length R + times * s.n) known in
    record {
      seeds = subst (AreSeeds shape f X m) (sym whole) (subst (λ (s : Shape). (j : ℕ) → AreSeeds s f X j R → AreSeeds s f X j (drop times list)) known seeds m (picked_seeds shape f ready.pair X ready.semi m R picked));
      size = ap (λ (t : List Word). length t) whole ∙ omega (arith, length-drop times list, all, more, ap (λ t. times * t) letters, mul-add times (shape.n - 1) 1);
    }

-- each power from 0 on carries them to words
pub all_go_on : (shape : Shape) (f : List Row) (X : List Word) → HasSemiNormal shape f X → (m most : ℕ) (us : List Word) → IsExpanded shape f X m most us → (u : Word) → Contains us u → GoesOn shape f u
all_go_on shape f X ready m most us expanded u c = goes_on shape f ready.pair X ready.semi m u (expanded.seeds.under u c)

-- so their rounds match the cycles of one more length
pub match_grown : (shape : Shape) (f g : List Row) (X Y : List Word) → HasSemiNormal shape f X → HasSemiNormal shape g Y → (m most : ℕ) (R S us vs : List Word) (old added new : List Row) → ArePicked shape f X m R → ArePicked shape g Y m S → IsExpanded shape f X m most us → IsExpanded shape g Y m most vs → most ≡ max (length R) (length S)
    → MatchLengths shape f X g Y (λ k. k < m) old → new ≡ old ++ added → AreRounds shape f g m us vs added → MatchLengths shape f X g Y (λ k. k < m + 1) new
match_grown shape f g X Y ready_f ready_g m most R S us vs old added new picked_f picked_g first second is below new_is rounds =
    match_more shape f X g Y ready_f.semi.basis.prefix_free ready_g.semi.basis.prefix_free m old added new below
    (match_rounds shape f g ready_f.pair ready_g.pair X Y ready_f.semi ready_g.semi m R S us vs added picked_f picked_g first.seeds second.seeds (first.size ∙ sym second.size) (omega (arith, first.size, is)) rounds)
    new_is

-- where none is picked there are no cycles of the length
pub none_of_length : (shape : Shape) (f : List Row) (X : List Word) (m : ℕ) (R : List Word) → ArePicked shape f X m R → length R ≡ 0 → (x : Word) (k : ℕ) → Contains X x → IsCycle shape f x k → k < m + 1 → k < m
none_of_length shape f X m R picked none x k c cycle l = elim (last_or k m l) [
  | inl less ↦ less
  | inr e ↦ let r = picked.all x c (subst (IsCycle shape f x) e cycle) in let low = r.1.1 in absurd (omega (arith, low, none))
]
  where
    last_or : (k m : ℕ) → k < m + 1 → (k < m) ⊎ (k ≡ m)
    last_or k m l = grind arith

-- each length of a cycle is that of a group
pub length_within : (shape : Shape) (f : List Row) (X : List Word) (groups : List (List Word)) → ((m : ℕ) → ArePicked shape f X m (group groups m)) → (x : Word) (k : ℕ) → Contains X x → IsCycle shape f x k → k < length groups
length_within shape f X groups picked x k c cycle = elim (cases_lt k (length groups)) [
  | inl l ↦ l
  | inr far ↦ let r = (picked k).all x c cycle in absurd (Contains-nil r.0 (subst (λ W. Contains W r.0) (get_or_past groups k [] far) r.1))
]

-- ---- typed elements

-- the periodic part of one of the shape
part_at : (d : TypedValue) (shape : Shape) → IsTyped d.element d.quasi d.kinds → d.element.shape ≡ shape → (P : List Word) × IsPeriodicPart shape d.element.rows d.quasi.basis.words P
part_at d shape typed same = let P = periodic_part d.element d.quasi d.kinds typed in (P.0, subst (λ (s : Shape). IsPeriodicPart s d.element.rows d.quasi.basis.words P.0) same P.1)

-- the words that are picked of two with one profile
pub typed_as_many : (d e : TypedValue) → IsTyped d.element d.quasi d.kinds → IsTyped e.element e.quasi e.kinds → e.element.shape ≡ d.element.shape → HaveOneProfile d.element.shape d.element.rows d.quasi.basis.words e.element.rows e.quasi.basis.words
    → (m : ℕ) (R S : List Word) → ArePicked d.element.shape d.element.rows d.quasi.basis.words m R → ArePicked d.element.shape e.element.rows e.quasi.basis.words m S → AreAsMany d.element.shape.n (length R) (length S)
typed_as_many d e typed_d typed_e same one m R S first second =
    let shape = d.element.shape in
    let X = d.quasi.basis.words in
    let Y = e.quasi.basis.words in
    let ready_d = ready d.element d.quasi d.kinds shape typed_d refl in
    let ready_e = ready e.element e.quasi e.kinds shape typed_e same in
    let P = part_at d shape typed_d refl in
    let Q = part_at e shape typed_e same in
    let A = with_length shape d.element.rows X P.0 P.1 m in
    let B = with_length shape e.element.rows Y Q.0 Q.1 m in
    as_many shape d.element.rows e.element.rows ready_d.pair ready_e.pair X Y ready_d.semi ready_e.semi one m R S A.0 B.0 first second A.1 B.1

-- the words of a group, as they are read
pub picked_here : (shape of : Shape) (f : List Row) (X : List Word) (groups given : List (List Word)) (m : ℕ) (R : List Word) → of ≡ shape → ((j : ℕ) → ArePicked of f X j (group groups j)) → given ≡ groups → R ≡ group given m → ArePicked shape f X m R
picked_here shape of f X groups given m R known picked same is = subst (λ (s : Shape). ArePicked s f X m R) known (subst (ArePicked of f X m) (sym (is ∙ ap (λ (t : List (List Word)). group t m) same)) (picked m))

-- rows that match all lengths of their groups
pub typed_match : (d e : TypedValue) → IsTyped d.element d.quasi d.kinds → IsTyped e.element e.quasi e.kinds → e.element.shape ≡ d.element.shape → (first second : List (List Word)) → ((m : ℕ) → ArePicked d.element.shape d.element.rows d.quasi.basis.words m (group first m))
    → ((m : ℕ) → ArePicked d.element.shape e.element.rows e.quasi.basis.words m (group second m)) → (m : ℕ) → length first ≤ m → length second ≤ m → (rows : List Row)
    → MatchLengths d.element.shape d.element.rows d.quasi.basis.words e.element.rows e.quasi.basis.words (λ k. k < m) rows → IsMatch d.element.shape d.element.rows d.quasi.basis.words e.element.rows e.quasi.basis.words rows
typed_match d e typed_d typed_e same first second picked_d picked_e m far_d far_e rows h =
    let shape = d.element.shape in
    let X = d.quasi.basis.words in
    let Y = e.quasi.basis.words in
    let ready_d = ready d.element d.quasi d.kinds shape typed_d refl in
    let ready_e = ready e.element e.quasi e.kinds shape typed_e same in
    let P = part_at d shape typed_d refl in
    let Q = part_at e shape typed_e same in
    is_match shape d.element.rows e.element.rows ready_d.pair ready_e.pair X Y P.0 Q.0 m P.1 Q.1
    (λ x k c cycle. omega (arith, far_d, length_within shape d.element.rows X first picked_d x k c cycle))
    (λ y k c cycle. omega (arith, far_e, length_within shape e.element.rows Y second picked_e y k c cycle)) rows h

-- where rows conjugate, both have one profile
pub typed_profiles : (d e : TypedValue) → IsTyped d.element d.quasi d.kinds → IsTyped e.element e.quasi e.kinds → e.element.shape ≡ d.element.shape → (F G : List (ℕ × ℕ)) → IsProfile d.element.shape d.element.rows d.quasi.basis.words F → IsProfile d.element.shape e.element.rows e.quasi.basis.words G
    → (rows : List Row) (P Q : List Word) → IsPeriodicPart d.element.shape d.element.rows d.quasi.basis.words P → IsPeriodicPart d.element.shape e.element.rows e.quasi.basis.words Q → ConjugatesOn d.element.shape rows d.element.rows P e.element.rows Q → F ≡ G
typed_profiles d e typed_d typed_e same F G first second rows P Q part_d part_e on =
    let shape = d.element.shape in
    let X = d.quasi.basis.words in
    let Y = e.quasi.basis.words in
    let ready_d = ready d.element d.quasi d.kinds shape typed_d refl in
    let ready_e = ready e.element e.quasi e.kinds shape typed_e same in
    on_profiles shape d.element.rows e.element.rows ready_d.pair ready_e.pair X Y P Q ready_d.semi ready_e.semi part_d part_e rows on F G first second

-- two with one profile have equal profiles
pub same_profiles : (shape : Shape) (f g : List Row) (X Y : List Word) (F G : List (ℕ × ℕ)) → IsProfile shape f X F → IsProfile shape g Y G → HaveOneProfile shape f X g Y → F ≡ G
same_profiles shape f g X Y F G first second one = profile_once shape f X F one.profile first one.first ∙ profile_once shape g Y one.profile G one.second second
