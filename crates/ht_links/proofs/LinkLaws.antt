-- What exits make are links. t is the element with its quasinormal basis.
use Rattle.std.proofs.Common.{◌≡◌, ℕ, ◌++◌, List, Some, slice_get, sym, ap, ◌∙◌, subst, subst₂, arith}
use Rattle.ht_word.specs.Words.{◌·◌, IsWordOf}
use Rattle.ht_word.specs.declared.word.Word.{Word}
use Rattle.ht_word.proofs.WordLaws.{after-append, under_refl, word_after, word_rest}
use Rattle.ht_pair.specs.Steps.{Carries}
use Rattle.ht_pair.specs.Kinds.{IsCycleWord}
use Rattle.ht_pair.proofs.KindLaws.{cycle_no_attractor, cycle_no_repeller}
use Rattle.ht_quasi.proofs.StepLaws.{listed_at}
use Rattle.ht_types.specs.Flows.{power_in, IsEndIn, IsExit, IsUnderInfinite, opposite}
use Rattle.ht_types.specs.Links.{ReachesEnd, IsLink, reach_in}
use Rattle.ht_types.specs.TypedElements.{TypedValue, IsTyped}
use Rattle.ht_types.specs.declared.direction.Direction.{Direction}
use Rattle.ht_types.specs.declared.direction.Direction.TheVariants.{Ahead, Behind}
use Rattle.ht_types.specs.declared.exit.Exit.{Exit}
use Rattle.ht_types.specs.declared.kind.Reach.{Reach}
use Rattle.ht_types.specs.declared.link.Link.{Link}
use Rattle.ht_types.proofs.PeriodicLaws.{carried_further}
use Rattle.ht_types.proofs.TypedLaws.{typed_base}
use Rattle.ht_links.specs.Listing.{IsLinkUnder, IsEndLink, IsStepFrom, AreEndLinks}
use Rattle.ht_links.proofs.ReachLaws.{exit_reach, exit_reaches, reaches_behind, infinite_behind, no_steps, end_stays, end_moves}

-- ---- under a word

-- the exit ahead of a word and the exit behind of the longer word make a link under it
pub exits_link : (t : TypedValue) (word longer cone : Word) (ahead behind : Exit) (rest : List ℕ) → IsWordOf t.element.shape word → IsUnderInfinite t.element.shape t.element.rows t.quasi.basis.words word
    → IsExit t.element.shape t.element.rows t.quasi.basis.words Ahead word ahead → longer ≡ word · ahead.letters → IsExit t.element.shape t.element.rows t.quasi.basis.words Behind longer behind → cone ≡ longer · behind.letters → rest ≡ ahead.rest ++ behind.letters
    → IsLinkUnder t word (record { cone = cone; ahead = record { steps = ahead.steps; to = ahead.to; rest = rest }; behind = exit_reach behind })
exits_link t word longer cone ahead behind rest hw infinite a longer_is b cone_is rest_is =
    let shape = t.element.shape in
    let z = behind.letters in
    let hl : IsWordOf shape longer = subst (IsWordOf shape) (sym longer_is) (word_after shape word ahead.letters hw a.of_shape) in
    let under : IsUnderInfinite shape t.element.rows t.quasi.basis.words longer = subst (IsUnderInfinite shape t.element.rows t.quasi.basis.words) (sym longer_is) (infinite_behind word ahead.letters infinite) in
    let first = reaches_behind t Ahead (word · ahead.letters) (exit_reach ahead) z b.of_shape (exit_reaches t Ahead word ahead a) in
    let there : ReachesEnd t Ahead (longer · z) (record { steps = ahead.steps; to = ahead.to; rest = rest }) =
    subst (λ s. ReachesEnd t Ahead (longer · z) (record { steps = ahead.steps; to = ahead.to; rest = s })) (sym rest_is) (subst (λ u. ReachesEnd t Ahead (u · z) (record { steps = ahead.steps; to = ahead.to; rest = ahead.rest ++ z })) (sym longer_is) first) in
    record {
      made = record {
        word = subst (IsWordOf shape) (sym cone_is) (word_after shape longer z hl b.of_shape);
        infinite = subst (IsUnderInfinite shape t.element.rows t.quasi.basis.words) (sym cone_is) (infinite_behind longer z under);
        ahead = subst (λ u. ReachesEnd t Ahead u (record { steps = ahead.steps; to = ahead.to; rest = rest })) (sym cone_is) there;
        behind = subst (λ u. ReachesEnd t Behind u (exit_reach behind)) (sym cone_is) (exit_reaches t Behind longer behind b);
      };
      under = record { rest = ahead.letters ++ z; is = cone_is ∙ ap (λ u. u · z) longer_is ∙ after-append word ahead.letters z };
    }

-- ---- at an end

-- a word that reaches an end in either direction is the cone of a link
reaches_link : (t : TypedValue) (direction : Direction) (link : Link) → IsWordOf t.element.shape link.cone → IsUnderInfinite t.element.shape t.element.rows t.quasi.basis.words link.cone
    → ReachesEnd t direction link.cone (reach_in direction link) → ReachesEnd t (opposite direction) link.cone (reach_in (opposite direction) link) → IsLink t link
reaches_link t Ahead link word infinite one other = record { word = word; infinite = infinite; ahead = one; behind = other }
reaches_link t Behind link word infinite one other = record { word = word; infinite = infinite; ahead = other; behind = one }

pub end_no_cycle : (t : TypedValue) (direction : Direction) (x : Word) → IsTyped t.element t.quasi t.kinds → IsEndIn direction t.element.shape t.element.rows x → ¬ IsCycleWord t.element.shape t.element.rows x
end_no_cycle t Ahead x typed a = λ c. cycle_no_attractor t.element.shape t.element.rows typed.canonical.pair x c.0 a.0 a.1 c.1 a.2
end_no_cycle t Behind x typed r = λ c. cycle_no_repeller t.element.shape t.element.rows typed.canonical.pair x c.0 r.0 r.1 c.1 r.2

-- an end, and letters behind it with which it reaches an end in the other direction
module _ (t : TypedValue) (typed : IsTyped t.element t.quasi t.kinds) (direction : Direction) (place : ℕ) (x : Word) (here : slice_get t.quasi.basis.words place ≡ Some x) (ends : IsEndIn direction t.element.shape t.element.rows x) where
  pub end_infinite : IsUnderInfinite t.element.shape t.element.rows t.quasi.basis.words x
  end_infinite = record { above = x; infinite = (listed_at t.quasi.basis.words place x here, end_no_cycle t direction x typed ends); under = under_refl x }

  -- by no steps it is under itself
  itself_reaches : (letters : List ℕ) → IsWordOf t.element.shape (x · letters) → ReachesEnd t direction (x · letters) (record { steps = 0; to = place; rest = letters })
  itself_reaches letters word = record { above = x; here = here; ends = ends; carries = no_steps direction t.element.shape t.element.rows (x · letters) word; few = omega arith }

  -- by one step under the next end
  next_reaches : (letters : List ℕ) (next : Reach) → IsStepFrom t direction x letters next → ReachesEnd t direction (x · letters) next
  next_reaches letters next s =
      let h = typed_base t typed in
      let shape = t.element.shape in
      let X = t.quasi.basis.words in
      let listed = listed_at X place x here in
      let there = listed_at X next.to s.above s.here in
      let k = power_in direction 1 in
      let f = carried_further shape t.element.rows h.pair X h.semi.basis k x s.above letters next.rest there (word_rest shape x letters s.carries.word) (end_stays h direction 1 x listed ends) s.carries in
      record {
        above = s.above;
        here = s.here;
        ends = end_moves h direction k x s.above f.letters listed ends there f.carries;
        carries = subst (λ j. Carries shape t.element.rows (power_in direction j) (x · letters) (s.above · next.rest)) (sym s.one) s.carries;
        few = (let one = s.one in omega arith);
      }

  module _ (exit : Exit) (e : IsExit t.element.shape t.element.rows t.quasi.basis.words (opposite direction) x exit) where
    made : (own : Reach) (link : Link) → IsEndLink direction x exit own link → ReachesEnd t direction (x · exit.letters) own → IsLink t link
    made own link l reaches =
        let shape = t.element.shape in
        let back = sym l.cone in
        reaches_link t direction link
        (subst (IsWordOf shape) back e.walked.carries.word)
        (subst (IsUnderInfinite shape t.element.rows t.quasi.basis.words) back (infinite_behind x exit.letters end_infinite))
        (subst₂ (ReachesEnd t direction) back (sym l.there) reaches)
        (subst₂ (ReachesEnd t (opposite direction)) back (sym l.other) (exit_reaches t (opposite direction) x exit e))

    -- the two links of an end
    pub end_links : (next : Reach) (first second : Link) → IsEndLink direction x exit (record { steps = 0; to = place; rest = exit.letters }) first → IsStepFrom t direction x exit.letters next → IsEndLink direction x exit next second
        → IsLink t first × IsLink t second × AreEndLinks t direction place first second
    end_links next first second one s two = (
      made (record { steps = 0; to = place; rest = exit.letters }) first one (itself_reaches exit.letters e.walked.carries.word),
      made next second two (next_reaches exit.letters next s),
      record {
        word = x;
        here = here;
        under = record { rest = exit.letters; is = one.cone };
        cone = two.cone ∙ sym one.cone;
        itself = ap (λ (r : Reach). r.to) one.there;
        step = ap (λ (r : Reach). r.steps) two.there ∙ s.one;
        other = ap (λ (r : Reach). r.to) two.other ∙ sym (ap (λ (r : Reach). r.to) one.other);
      },
    )
