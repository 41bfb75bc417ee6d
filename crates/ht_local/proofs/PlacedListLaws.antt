-- The value lists at the words of an atom: by what is known at the anchor, and by the list of the next word.
use Rattle.std.proofs.Common.{◌≡◌, ℕ, List, Option, None, Some, slice_get, refl, sym, ap, ◌∙◌, subst, arith, ℤ, pos, neg_ℤ, ◌+ℤ◌, ◌-ℤ◌}
use Rattle.std.proofs.lemmas.Int.{ints}
use Rattle.std.proofs.lemmas.Option.{slice_get_within, same_Some}
use Rattle.ht_word.specs.Words.{◌·◌, IsLetters, IsWordOf}
use Rattle.ht_word.specs.declared.shape.Shape.{Shape}
use Rattle.ht_word.specs.declared.word.Word.{Word}
use Rattle.ht_word.proofs.WordLaws.{after-nil, word_after, word_rest}
use Rattle.ht_pair.specs.Actions.{Moves}
use Rattle.ht_pair.specs.Atoms.{words_at}
use Rattle.ht_pair.specs.Elements.{ElementValue}
use Rattle.ht_pair.specs.Images.{Entry}
use Rattle.ht_pair.specs.Pairs.{IsPair}
use Rattle.ht_pair.specs.Products.{IsPower}
use Rattle.ht_pair.specs.Steps.{Carries}
use Rattle.ht_pair.specs.ValueLists.{IsValueList, IsFollowed}
use Rattle.ht_pair.specs.declared.row.Row.{Row}
use Rattle.ht_pair.proofs.BasisLaws.{basis_word}
use Rattle.ht_pair.proofs.CarriesLaws.{carries_word}
use Rattle.ht_pair.proofs.ValueListLaws.{cone_of, cone_value, followed_none, followed_once, followed_power}
use Rattle.ht_types.specs.Flows.{LeadsIn, opposite, power_in}
use Rattle.ht_types.specs.Links.{IsEndAt}
use Rattle.ht_types.specs.TypedElements.{TypedValue, IsTyped}
use Rattle.ht_types.specs.declared.direction.Direction.{Direction}
use Rattle.ht_types.specs.declared.direction.Direction.TheVariants.{Ahead, Behind}
use Rattle.ht_pieces.specs.Values.{IsValue}
use Rattle.ht_pieces.proofs.Conjugating.{IsConjugator, rows_conjugate}
use Rattle.ht_pieces.proofs.KeptAtoms.{atom_inside, atom_is_kept}
use Rattle.ht_types.proofs.PlacedWords.{at_places}
use Rattle.ht_local.specs.declared.known.Known.{Known}
use Rattle.ht_local.specs.KnownValues.{IsHeld, IsKnownAt}
use Rattle.ht_local.specs.LocalConjugators.{ConjugatesPlaces}
use Rattle.ht_local.specs.PlacedLists.{IsPosed, IsListAt}
use Rattle.ht_local.specs.Ways.{IsAnchor, IsNext, IsWay}
use Rattle.ht_local.proofs.SendingLaws.{IsBehind, anchor_value, sends_next, sends_value}
use Rattle.ht_quasi.proofs.RoundLaws.{something_at}
use Rattle.ht_types.proofs.TypedLaws.{typed_base}
use Rattle.ht_local.proofs.PlaceLaws.{entry_listed}

-- both elements with their bases, and what is known
pub record ArePosed (f : TypedValue) (k : List ℕ) (g : TypedValue) (known : List (Option Known)) : Type 0 where
  pub first : IsTyped f.element f.quasi f.kinds
  pub second : IsTyped g.element g.quasi g.kinds
  pub posed : IsPosed f k g known

-- the image by an element that makes the steps in a direction
pub led_followed : (direction : Direction) (shape : Shape) (a b : ElementValue) → IsPair shape a.rows → a.shape ≡ shape → LeadsIn direction a b → (B M : List Entry) → IsValueList shape B
    → IsFollowed shape B b.rows (pos 1) M → IsFollowed shape B a.rows (power_in direction 1) M
led_followed Ahead shape a b pair e led B M list followed = subst (λ (t : ElementValue). IsFollowed shape B t.rows (pos 1) M) led followed
led_followed Behind shape a b pair e led B M list followed = followed_power shape a.rows b.rows (neg_ℤ (pos 1)) B M pair list (subst (λ s. IsPower s a.rows (neg_ℤ (pos 1)) b.rows) e led.1) followed

pub led_shape : (direction : Direction) (a b : ElementValue) → LeadsIn direction a b → b.shape ≡ a.shape
led_shape Ahead a b led = ap (λ (t : ElementValue). t.shape) led
led_shape Behind a b led = led.0

-- one step against the direction is one step in it, turned
pub step_back : (direction : Direction) → power_in (opposite direction) 1 ≡ neg_ℤ (power_in direction 1)
step_back Ahead = refl
step_back Behind = refl

-- what follows, told by equal things
pub followed_as : {shape : Shape} {B C L : List Entry} {a b : ElementValue} {i j : ℤ} → a ≡ b → b.shape ≡ shape → B ≡ C → i ≡ j → IsFollowed a.shape B a.rows i L → IsFollowed shape C b.rows j L
followed_as {shape} {B} {C} {L} {a} {b} {i} {j} e s list power h =
    subst (λ t. IsFollowed t C b.rows j L) s (subst (λ z. IsFollowed b.shape C b.rows z L) power (subst (λ M. IsFollowed b.shape M b.rows i L) list (subst (λ (t : ElementValue). IsFollowed t.shape B t.rows i L) e h)))

module _ {f g : TypedValue} {k : List ℕ} {known : List (Option Known)} (p : ArePosed f k g known) where
  pub second_pair : IsPair f.element.shape g.element.rows
  second_pair = subst (λ s. IsPair s g.element.rows) p.posed.shape p.second.canonical.pair

  -- something is known at an end
  pub known_there : (index place : ℕ) → slice_get k index ≡ Some place → IsEndAt f k place → (value : Known) × (slice_get known index ≡ Some (Some value))
  known_there index place at end =
      let s = something_at known index (omega (arith, p.posed.values.as_many, slice_get_within k index place at)) in
      by s.0 s.1 (p.posed.values.each index place s.0 at s.1)
    where
      by : (found : Option Known) → slice_get known index ≡ Some found → IsKnownAt f g k place found → (value : Known) × (slice_get known index ≡ Some (Some value))
      by None e h = absurd (h end)
      by (Some value) e h = (value, e)

  -- and what is known is known at one, and held
  pub known_held : (index place : ℕ) (value : Known) → slice_get k index ≡ Some place → slice_get known index ≡ Some (Some value) → IsEndAt f k place × IsHeld g value
  known_held index place value at e = p.posed.values.each index place (Some value) at e

  conjugator : (h : List Row) (l : List ℕ) → ConjugatesPlaces f k g l h → IsConjugator f.element.shape f.element.rows g.element.rows (words_at f.quasi.basis.words k) (words_at g.quasi.basis.words l) (Moves h)
  conjugator h l conjugates = rows_conjugate p.first.canonical.pair second_pair (atom_is_kept (typed_base f p.first) p.posed.first) conjugates

  -- the word at the place where a way begins
  start_word : {index to : ℕ} {steps : ℤ} {rest : List ℕ} (w : IsWay f k index to steps rest) (place : ℕ) (x : Word) → slice_get k index ≡ Some place → slice_get f.quasi.basis.words place ≡ Some x → w.word ≡ x
  start_word w place x at here =
      let same : w.start ≡ place = same_Some w.start place (sym w.start_at ∙ at) in
      same_Some w.word x (sym w.here ∙ ap (λ i. slice_get f.quasi.basis.words i) same ∙ here)

  pub way_letters : {index to : ℕ} {steps : ℤ} {rest : List ℕ} → IsWay f k index to steps rest → IsLetters f.element.shape rest
  way_letters {rest = rest} w = word_rest f.element.shape w.above rest (carries_word f.element.shape f.element.rows p.first.canonical.pair _ w.word (w.above · rest) w.carries)

  -- the cone of what is known, behind the letters of an anchor
  pub anchored_cone : (index end : ℕ) (steps : ℤ) (rest : List ℕ) (value : Known) → (a : IsAnchor f k index end steps rest) → slice_get known end ≡ Some (Some value)
      → IsValueList f.element.shape (cone_of (value.word · rest))
  anchored_cone index end steps rest value a e =
      let held = (known_held end a.way.place value a.way.place_at e).1 in
      cone_value f.element.shape (value.word · rest) (word_after f.element.shape value.word rest (subst (λ s. IsWordOf s value.word) p.posed.shape held.word) (way_letters a.way))

  -- the list of a word by its anchor
  pub list_anchored : (index end : ℕ) (steps : ℤ) (rest : List ℕ) (value : Known) (power : ℤ) (L : List Entry) → (a : IsAnchor f k index end steps rest) → slice_get known end ≡ Some (Some value)
      → power ≡ value.power -ℤ steps → IsFollowed f.element.shape (cone_of (value.word · rest)) g.element.rows power L → (place : ℕ) → slice_get k index ≡ Some place → IsListAt f k g known place L
  list_anchored index end steps rest value power L a e sum followed place at = record {
    list = followed.value_list;
    sends = λ h l x conjugates right here.
        let shape = f.element.shape in
        let X = f.quasi.basis.words in
        let c = conjugator h l conjugates in
        let w = a.way in
        let held = (known_held end w.place value w.place_at e).1 in
        let r = right end w.place value w.place_at e in
        let same : r.word ≡ w.above = same_Some r.word w.above (sym r.here ∙ w.there) in
        let known_value : IsValue shape (Moves h) g.element.rows w.above value.word value.power = subst (λ u. IsValue shape (Moves h) g.element.rows u value.word value.power) same r.value in
        let inside = atom_inside (typed_base f p.first) p.posed.first w.above (at_places X k w.place w.above (entry_listed k end w.place w.place_at) w.there) in
        let ht : IsWordOf shape value.word = subst (λ s. IsWordOf s value.word) p.posed.shape held.word in
        let is = start_word w place x at here in
        let moved = anchor_value c steps rest inside ht (way_letters w) known_value (subst (λ u. Carries shape f.element.rows steps u (w.above · rest)) is w.carries) in
        let sum_is : value.power +ℤ neg_ℤ steps ≡ power = less value.power steps ∙ sym sum in
        sends_value c L (basis_word shape X (typed_base f p.first).semi.basis x (entry_listed X place x here)) (subst (IsValue shape (Moves h) g.element.rows x (value.word · rest)) sum_is moved) followed;
  }
    where
      less : (i j : ℤ) → i +ℤ neg_ℤ j ≡ i -ℤ j
      less i j = omega (arith, ints)

  -- at an end itself, known by the power 0, it is the cone of the word that is known
  pub cone_anchored : (index end : ℕ) (steps : ℤ) (rest : List ℕ) (value : Known) (power : ℤ) (L : List Entry) → (a : IsAnchor f k index end steps rest) → slice_get known end ≡ Some (Some value)
      → power ≡ value.power -ℤ steps → IsFollowed f.element.shape (cone_of (value.word · rest)) g.element.rows power L
      → (other : Known) → slice_get known index ≡ Some (Some other) → other.power ≡ pos 0 → L ≡ cone_of other.word
  cone_anchored index end steps rest value power L a e sum followed other o zero =
      let shape = f.element.shape in
      let w = a.way in
      let held = known_held index w.start other w.start_at o in
      let itself = a.itself held.0 in
      let same : value ≡ other = same_Some value other (same_Some (Some value) (Some other) (sym e ∙ ap (λ i. slice_get known i) itself.0 ∙ o)) in
      let none : power ≡ pos 0 = sum ∙ ap (λ (i : ℤ). i -ℤ steps) (ap (λ (v : Known). v.power) same ∙ zero) ∙ ap (λ (j : ℤ). pos 0 -ℤ j) itself.1 ∙ nothing in
      let word : value.word · rest ≡ other.word = ap (λ z. value.word · z) itself.2 ∙ after-nil value.word ∙ ap (λ (v : Known). v.word) same in
      let ho : IsWordOf shape other.word = subst (λ s. IsWordOf s other.word) p.posed.shape held.1.word in
      let cone = cone_value shape other.word ho in
      let exact : IsFollowed shape (cone_of other.word) g.element.rows (pos 0) L = subst (λ i. IsFollowed shape (cone_of other.word) g.element.rows i L) none (subst (λ u. IsFollowed shape (cone_of u) g.element.rows power L) word followed) in
      followed_once shape g.element.rows (pos 0) (cone_of other.word) L (cone_of other.word) second_pair cone exact (followed_none shape g.element.rows (cone_of other.word) cone)
    where
      nothing : pos 0 -ℤ pos 0 ≡ pos 0
      nothing = omega (arith, ints)

  -- the list of a word by that of the next one
  pub list_next : (direction back : Direction) (index to : ℕ) (rest : List ℕ) (L B M : List Entry) (mover : ElementValue) → IsNext f k index direction to rest → power_in back 1 ≡ neg_ℤ (power_in direction 1)
      → ((place : ℕ) → slice_get k to ≡ Some place → IsListAt f k g known place L) → IsValueList f.element.shape B → IsBehind f.element.shape L rest B
      → LeadsIn back g.element mover → IsFollowed f.element.shape B mover.rows (pos 1) M → (place : ℕ) → slice_get k index ≡ Some place → IsListAt f k g known place M
  list_next direction back index to rest L B M mover w turned there list behind led followed place at =
      let shape = f.element.shape in
      let X = f.quasi.basis.words in
      let stepped = led_followed back shape g.element mover second_pair p.posed.shape led B M list followed in
      record {
        list = followed.value_list;
        sends = λ h l x conjugates right here.
            let c = conjugator h l conjugates in
            let is = start_word w place x at here in
            sends_next c (power_in direction 1) rest L B M (subst (λ u. Carries shape f.element.rows (power_in direction 1) u (w.above · rest)) is w.carries)
            (basis_word shape X (typed_base f p.first).semi.basis w.above (entry_listed X w.place w.above w.there)) (way_letters w) list behind
            ((there w.place w.place_at).sends h l w.above conjugates right w.there)
            (subst (λ i. IsFollowed shape B g.element.rows i M) turned stepped);
      }
