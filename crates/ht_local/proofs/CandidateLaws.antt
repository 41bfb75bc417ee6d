-- Candidates for the values at an attractor: what is tried place by place.
use Rattle.std.proofs.Common.{◌≡◌, ◌≢◌, ℕ, zero, suc, ◌+◌, ◌≤◌, ◌<◌, ◌⊎◌, ◌↔◌, inl, inr, Bool, false, List, [], ◌∷◌, ◌++◌, length, map, take, drop, replicate, get_or, Some, slice_get, refl, sym, ap, ◌∙◌, subst, arith, take-append-drop, All, Contains, pos}
use Rattle.std.proofs.lemmas.Bool.{false≢true}
use Rattle.std.proofs.lemmas.List.{length-append, length-drop, length-replicate}
use Rattle.std.proofs.lemmas.List.Elements.{All-append, All-nil, Contains-append_left, Contains-append_right}
use Rattle.std.proofs.lemmas.Option.{get_or_from_slice_get}
use Rattle.ht_word.specs.Words.{◌·◌, IsWordOf, root_word}
use Rattle.ht_word.specs.declared.word.Word.{Word}
use Rattle.ht_word.proofs.ListLaws.{Contains-map, contained_in_map}
use Rattle.ht_word.proofs.WordLaws.{All-from_contains, after-append, under_after, word_front}
use Rattle.ht_pair.specs.Atoms.{IsAtom, words_at}
use Rattle.ht_pair.specs.Kinds.{IsAttractor, IsAttractorWord}
use Rattle.ht_pair.specs.Steps.{Carries}
use Rattle.ht_pair.proofs.CarriesLaws.{carries_itself, carries_word}
use Rattle.ht_pair.proofs.KindLaws.{attractor_once}
use Rattle.ht_quasi.specs.Rounds.{IsMarked}
use Rattle.ht_quasi.specs.declared.quasi.Quasi.{Quasi}
use Rattle.ht_types.specs.TypedElements.{TypedValue, IsTyped}
use Rattle.ht_types.specs.WordKinds.{HasKind}
use Rattle.ht_types.specs.declared.kind.Kind.{Kind}
use Rattle.ht_types.specs.declared.kind.Kind.TheVariants.{Attractor, Cycle}
use Rattle.ht_pieces.proofs.KeptAtoms.{atom_words}
use Rattle.ht_local.specs.declared.known.Known.{Known}
use Rattle.ht_local.specs.Candidates.{AreFound, AreTried, IsFront, IsMetAhead, IsTurned, IsWordAt, known_at, known_of}
use Rattle.ht_local.specs.Crossings.{letters_of}
use Rattle.ht_local.specs.declared.candidates.Candidate.{Candidate}
use Rattle.ht_local.specs.KnownValues.{IsCandidate, IsHeld}
use Rattle.ht_local.proofs.PlaceLaws.{kind_at, word_at_same, word_listed, word_somewhere}
use Rattle.ht_local.proofs.RoundCandidates.{round_found}
use Rattle.ht_types.proofs.TypedLaws.{typed_base}

-- ---- fronts of letters

-- letters that are turned at a place are a front and a back of which the back isn't empty
record IsSplit (letters : List ℕ) (place : ℕ) (by : List ℕ) : Type 0 where
  whole : letters ≡ take place letters ++ drop place letters
  proper : drop place letters ≢ []

turned_split : (letters : List ℕ) (place : ℕ) (by : List ℕ) → IsTurned letters place by → IsSplit letters place by
turned_split letters place by t = record { whole = sym (take-append-drop place letters); proper = λ e. absurd (omega (arith, t.0, length-drop place letters, ap (λ (z : List ℕ). length z) e)) }

take_front : (front back : List ℕ) → take (length front) (front ++ back) ≡ front
take_front [] back = refl
take_front (a ∷ front) back = ap (λ z. a ∷ z) (take_front front back)

pub drop_front : (front back : List ℕ) → drop (length front) (front ++ back) ≡ back
drop_front [] back = refl
drop_front (a ∷ front) back = drop_front front back

-- a front and a back turned are letters turned at a place
split_turned : (front back by : List ℕ) → back ≢ [] → by ≡ back ++ front → IsTurned (front ++ back) (length front) by
split_turned front back by proper turned = (within front back proper, turned ∙ ap (λ z. z ++ front) (sym (drop_front front back)) ∙ ap (λ z. drop (length front) (front ++ back) ++ z) (sym (take_front front back)))
  where
    within : (front back : List ℕ) → back ≢ [] → length front < length (front ++ back)
    within front [] proper = absurd (proper refl)
    within front (a ∷ back) proper = omega (arith, length-append front (a ∷ back))

-- ---- where no candidate is wanted

-- none for what is no attractor
pub none_found : (g : TypedValue) (m : ℕ) (by : List ℕ) (x : Word) (found : List Candidate) → ¬ IsAttractorWord g.element.shape g.element.rows x → AreFound g m by x found
none_found g m by x found none front back attractor = absurd (none (m, front ++ back, attractor))

-- none for an attractor with another period
pub other_found : (g : TypedValue) → IsTyped g.element g.quasi g.kinds → (m period : ℕ) (by letters : List ℕ) (x : Word) (found : List Candidate)
    → IsAttractor g.element.shape g.element.rows x period letters → period ≢ m → AreFound g m by x found
other_found g typed m period by letters x found other differ front back attractor =
    absurd (differ (attractor_once g.element.shape g.element.rows typed.canonical.pair x period m letters (front ++ back) other attractor).0)

-- candidates stay where others are added
more_found : (g : TypedValue) (m : ℕ) (by : List ℕ) (x : Word) (old more : List Candidate) → AreFound g m by x old → AreFound g m by x (old ++ more)
more_found g m by x old more found front back attractor proper turned =
    let f = found front back attractor proper turned in
    record { candidate = f.candidate; listed = Contains-append_left old more f.candidate f.listed; power = f.power; carries = f.carries }

-- ---- the candidates at one attractor

-- a front of so many letters at a place
abbrev pub front_at : ℕ → ℕ → Candidate
front_at place front = record { place = place; front = front }

-- the word at an index is known to be an attractor
pub record IsKnownAttractor (g : TypedValue) (l : List ℕ) (i : ℕ) (x : Word) (m : ℕ) (letters : List ℕ) : Type 0 where
  pub at : IsWordAt g l i x
  pub kind : slice_get g.kinds at.place ≡ Some (Attractor m letters)

-- what a candidate is, as it is read
pub known_read : (g : TypedValue) (place : ℕ) (x : Word) (m : ℕ) (letters : List ℕ) (front : ℕ) → slice_get g.quasi.basis.words place ≡ Some x
    → slice_get g.kinds place ≡ Some (Attractor m letters) → known_of g (front_at place front) ≡ known_at x letters front
known_read g place x m letters front here kind =
    ap (λ (w : Word). known_at w (letters_of (get_or g.kinds place (Cycle 0))) front) (get_or_from_slice_get g.quasi.basis.words place x (root_word 1) here)
    ∙ ap (λ (q : Kind). known_at x (letters_of q) front) (get_or_from_slice_get g.kinds place (Attractor m letters) (Cycle 0) kind)

module _ (g : TypedValue) (typed : IsTyped g.element g.quasi g.kinds) (l : List ℕ) (atom : IsAtom g.element.shape g.element.rows g.quasi.basis.words l) (i : ℕ) (x : Word) (m : ℕ) (letters by places : List ℕ)
    (known : IsKnownAttractor g l i x m letters) (all : (place : ℕ) → Contains places place ↔ IsTurned letters place by) where
  abbrev fronts : List Candidate
  fronts = map (front_at known.at.place) places

  attractor : IsAttractor g.element.shape g.element.rows x m letters
  attractor = typed.kinds_are.each known.at.place x (Attractor m letters) known.at.here known.kind

  listed : Contains (words_at g.quasi.basis.words l) x
  listed = word_listed g l i x known.at

  read : (front : ℕ) → known_of g (front_at known.at.place front) ≡ known_at x letters front
  read front = known_read g known.at.place x m letters front known.at.here known.kind

  -- what holds of each of them
  each_front : (P : Candidate → Type 0) → ((front : ℕ) → IsTurned letters front by → P (front_at known.at.place front)) → All P fronts
  each_front P holds = All-from_contains P fronts (λ candidate c. let from = contained_in_map (front_at known.at.place) places candidate c in subst P from.2 (holds from.0 ((all from.0).0 from.1)))

  -- each is a front of an attractor's letters
  pub fronts_are : All (IsFront g) fronts
  fronts_are = each_front (IsFront g) (λ front t. record { end = x; here = known.at.here; period = m; letters = letters; kind = known.kind; within = (let less = t.0 in omega arith) })

  -- and a candidate
  pub fronts_candidates : All (λ (c : Candidate). IsCandidate g l m by (known_of g c)) fronts
  fronts_candidates = each_front (λ (c : Candidate). IsCandidate g l m by (known_of g c)) (λ front t.
      let split = turned_split letters front by t in
      subst (IsCandidate g l m by) (sym (read front)) (record {
        end = x;
        listed = listed;
        front = take front letters;
        back = drop front letters;
        attractor = subst (IsAttractor g.element.shape g.element.rows x m) split.whole attractor;
        proper = split.proper;
        turned = t.1;
        word = refl;
        none = refl;
      }))

  -- with a word under the infinite part
  pub fronts_held : All (λ (c : Candidate). IsHeld g (known_of g c)) fronts
  fronts_held = each_front (λ (c : Candidate). IsHeld g (known_of g c)) (λ front t.
      let split = turned_split letters front by t in
      let whole = carries_word g.element.shape g.element.rows typed.canonical.pair (pos m) x (x · letters) attractor.lengthens.1 in
      let word = word_front g.element.shape (x · take front letters) (drop front letters) (subst (IsWordOf g.element.shape) (ap (λ z. x · z) split.whole ∙ sym (after-append x (take front letters) (drop front letters))) whole) in
      subst (IsHeld g) (sym (read front)) (record {
        word = word;
        infinite = record { above = x; infinite = atom_words atom x listed; under = under_after x (take front letters) };
        few = omega arith;
      }))

  -- none is missed
  pub fronts_found : AreFound g m by x fronts
  fronts_found front back other proper turned =
      let same = (attractor_once g.element.shape g.element.rows typed.canonical.pair x m m (front ++ back) letters other attractor).1 in
      let c = (all (length front)).1 (subst (λ z. IsTurned z (length front) by) same (split_turned front back by proper turned)) in
      let is : take (length front) letters ≡ front = ap (λ z. take (length front) z) (sym same) ∙ take_front front back in
      let word = word_front g.element.shape (x · front) back (subst (IsWordOf g.element.shape) (sym (after-append x front back)) (carries_word g.element.shape g.element.rows typed.canonical.pair (pos m) x (x · (front ++ back)) other.lengthens.1)) in
      let to : x · front ≡ (known_of g (front_at known.at.place (length front))).word = ap (λ z. x · z) (sym is) ∙ ap (λ (k : Known). k.word) (sym (read (length front))) in
      record {
        candidate = front_at known.at.place (length front);
        listed = Contains-map (front_at known.at.place) places (length front) c;
        power = pos 0;
        carries = subst (Carries g.element.shape g.element.rows (pos 0) (x · front)) to (carries_itself g.element.shape g.element.rows (x · front) word);
      }

-- ---- place by place

unmarked : (n place : ℕ) → get_or (replicate n false) place false ≡ false
unmarked zero place = refl
unmarked (suc n) zero = refl
unmarked (suc n) (suc place) = unmarked n place

-- nothing is tried at first
pub none_tried : (g : TypedValue) (l : List ℕ) (m : ℕ) (by : List ℕ) (marks : List Bool) → marks ≡ replicate (length l) false → AreTried g l m by 0 marks []
none_tried g l m by marks e = subst (λ t. AreTried g l m by 0 t []) (sym e) (record {
  as_many = length-replicate (length l) false;
  fronts = All-nil (IsFront g);
  each = All-nil (λ (c : Candidate). IsCandidate g l m by (known_of g c));
  held = All-nil (λ (c : Candidate). IsHeld g (known_of g c));
  marked = λ i x mark at. absurd (false≢true (sym (unmarked (length l) i) ∙ mark));
  before = λ i x less at. absurd (omega arith);
})

pub before_or : (i count : ℕ) → i < count + 1 → (i < count) ⊎ (i ≡ count)
before_or i count l = grind arith

-- a place at which no more is found
pub tried_past : (g : TypedValue) (l : List ℕ) (m : ℕ) (by : List ℕ) (count : ℕ) (marks : List Bool) (found : List Candidate) → AreTried g l m by count marks found
    → ((x : Word) → IsWordAt g l count x → AreFound g m by x found) → AreTried g l m by (count + 1) marks found
tried_past g l m by count marks found t here = record {
  as_many = t.as_many;
  fronts = t.fronts;
  each = t.each;
  held = t.held;
  marked = t.marked;
  before = λ i x less at. elim (before_or i count less) [
    | inl early ↦ t.before i x early at
    | inr e ↦ here x (subst (λ k. IsWordAt g l k x) e at)
  ];
}

-- an attractor with the period at a place, whose round is marked
pub tried_more : (g : TypedValue) → IsTyped g.element g.quasi g.kinds → (l : List ℕ) → IsAtom g.element.shape g.element.rows g.quasi.basis.words l → (m : ℕ) (by : List ℕ) (count : ℕ)
    (old new : List Bool) (found : List Candidate) (x : Word) (letters places : List ℕ) → AreTried g l m by count old found → (known : IsKnownAttractor g l count x m letters)
    → ((place : ℕ) → Contains places place ↔ IsTurned letters place by) → length new ≡ length old → ((i : ℕ) → IsMarked new i → IsMarked old i ⊎ IsMetAhead g l x i)
    → AreTried g l m by (count + 1) new (found ++ map (front_at known.at.place) places)
tried_more g typed l atom m by count old new found x letters places t known all many only =
    let at = known.at in
    let more = map (front_at at.place) places in
    let here : AreFound g m by x (found ++ more) = added (fronts_found g typed l atom count x m letters by places known all) in
    record {
      as_many = many ∙ t.as_many;
      fronts = All-append (IsFront g) found more t.fronts (fronts_are g typed l atom count x m letters by places known all);
      each = All-append (λ (c : Candidate). IsCandidate g l m by (known_of g c)) found more t.each (fronts_candidates g typed l atom count x m letters by places known all);
      held = All-append (λ (c : Candidate). IsHeld g (known_of g c)) found more t.held (fronts_held g typed l atom count x m letters by places known all);
      marked = λ i y mark w. elim (only i mark) [
        | inl before ↦ more_found g m by y found more (t.marked i y before w)
        | inr met ↦ (
            let same : met.word ≡ y = word_at_same g l i met.word y met.at w in
            let attractor = typed.kinds_are.each at.place x (Attractor m letters) at.here known.kind in
            round_found g (typed_base g typed) m x y letters by (found ++ more) (record { listed = (atom_words atom x (word_listed g l count x at)).0; attractor = attractor }) (atom_words atom y (word_listed g l i y w)).0 met.steps met.letters
            (subst (λ w. Carries g.element.shape g.element.rows (pos met.steps) x (w · met.letters)) same met.carries) here
            )
      ];
      before = λ i y less w. elim (before_or i count less) [
        | inl early ↦ more_found g m by y found more (t.before i y early w)
        | inr e ↦ subst (λ w. AreFound g m by w (found ++ more)) (word_at_same g l count x y at (subst (λ k. IsWordAt g l k y) e w)) here
      ];
    }
  where
    added : AreFound g m by x (map (front_at known.at.place) places) → AreFound g m by x (found ++ map (front_at known.at.place) places)
    added here front back other proper turned =
        let f = here front back other proper turned in
        record { candidate = f.candidate; listed = Contains-append_right found (map (front_at known.at.place) places) f.candidate f.listed; power = f.power; carries = f.carries }

-- at the end they are found for all words at the places
pub all_found : (g : TypedValue) (l : List ℕ) (m : ℕ) (by : List ℕ) (count : ℕ) (marks : List Bool) (found : List Candidate) → length l ≤ count → AreTried g l m by count marks found
    → (end : Word) → Contains (words_at g.quasi.basis.words l) end → AreFound g m by end found
all_found g l m by count marks found far t end c =
    let w = word_somewhere g l end c in
    t.before w.index end (omega (arith, w.within)) w.word

-- ---- what the code knows

-- the word of the basis at a place, as it is read
pub word_read : (g : TypedValue) (place : ℕ) (x : Word) (held : Quasi) (words : List Word) → words ≡ held.basis.words
    → held ≡ g.quasi → slice_get words place ≡ Some x → slice_get g.quasi.basis.words place ≡ Some x
word_read g place x held words are same here = subst (λ (W : List Word). slice_get W place ≡ Some x) (are ∙ ap (λ (q : Quasi). q.basis.words) same) here

-- the attractor that stands there
pub attractor_read : (g : TypedValue) → IsTyped g.element g.quasi g.kinds → (l : List ℕ) (index place : ℕ) (x : Word) (kind : Kind) (period : ℕ) (letters : List ℕ) → IsWordAt g l index x
    → slice_get l index ≡ Some place → slice_get g.kinds place ≡ Some kind → kind ≡ Attractor period letters → IsAttractor g.element.shape g.element.rows x period letters
attractor_read g typed l index place x kind period letters w at here is =
    subst (HasKind g.element.shape g.element.rows g.quasi.basis.words x) is (kind_at g typed l index place x kind w at here)
