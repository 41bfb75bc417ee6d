-- Marks at the places of words to which steps lead from an attractor.
use Rattle.std.proofs.Common.{◌≡◌, ℕ, ◌+◌, ◌⊎◌, inl, inr, Bool, List, [], ◌++◌, Some, slice_get, sym, ◌∙◌, subst, arith, pos}
use Rattle.std.proofs.lemmas.Int.{ints}
use Rattle.std.proofs.lemmas.Option.{same_Some}
use Rattle.ht_word.specs.Words.{◌·◌}
use Rattle.ht_word.specs.declared.word.Word.{Word}
use Rattle.ht_word.proofs.WordLaws.{after-append, after-nil, word_rest}
use Rattle.ht_pair.specs.Steps.{Carries}
use Rattle.ht_pair.proofs.BasisLaws.{basis_word}
use Rattle.ht_pair.proofs.CarriesLaws.{carries_extends, carries_itself, carries_sum, carries_word}
use Rattle.ht_quasi.specs.Rounds.{IsMarked}
use Rattle.ht_quasi.proofs.StepLaws.{listed_at}
use Rattle.ht_types.specs.TypedElements.{TypedValue, IsTyped}
use Rattle.ht_types.specs.WordSteps.{HasStep}
use Rattle.ht_types.specs.declared.step.Step.TheVariants.{Leads}
use Rattle.ht_local.specs.Candidates.{IsMetAhead}

-- steps lead from x to the word of the basis at the place, with some letters behind it
pub record LeadsFar (g : TypedValue) (x : Word) (place : ℕ) : Type 0 where
  pub word : Word
  pub here : slice_get g.quasi.basis.words place ≡ Some word
  pub steps : ℕ
  pub letters : List ℕ
  pub carries : Carries g.element.shape g.element.rows (pos steps) x (word · letters)

-- each new mark is for a word to which steps lead from the start, and so is the place where they have come
pub record AreOnRound (g : TypedValue) (l : List ℕ) (start : ℕ) (old marks : List Bool) (place : ℕ) : Type 0 where
  pub only : (x : Word) (i : ℕ) → slice_get g.quasi.basis.words start ≡ Some x → IsMarked marks i → IsMarked old i ⊎ IsMetAhead g l x i
  pub start_word : Word
  pub start_here : slice_get g.quasi.basis.words start ≡ Some start_word
  pub leads : LeadsFar g start_word place

pub round_begun : (g : TypedValue) → IsTyped g.element g.quasi g.kinds → (l : List ℕ) (start : ℕ) (old : List Bool) (x : Word) → slice_get g.quasi.basis.words start ≡ Some x → AreOnRound g l start old old start
round_begun g typed l start old x here = record {
  only = λ y i at mark. inl mark;
  start_word = x;
  start_here = here;
  leads = record {
    word = x;
    here = here;
    steps = 0;
    letters = [];
    carries = subst (Carries g.element.shape g.element.rows (pos 0) x) (sym (after-nil x))
        (carries_itself g.element.shape g.element.rows x (basis_word g.element.shape g.quasi.basis.words typed.quasinormal.least.semi_normal.basis x (listed_at g.quasi.basis.words start x here)));
  };
}

-- the mark at the place where they have come
pub round_marked : (g : TypedValue) (l : List ℕ) (start : ℕ) (old before marks : List Bool) (place : ℕ) → AreOnRound g l start old before place
    → ((i : ℕ) → IsMarked marks i → IsMarked before i ⊎ (slice_get l i ≡ Some place)) → (x : Word) (i : ℕ) → slice_get g.quasi.basis.words start ≡ Some x → IsMarked marks i → IsMarked old i ⊎ IsMetAhead g l x i
round_marked g l start old before marks place r more x i here mark = elim (more i mark) [
  | inl m ↦ r.only x i here m
  | inr at ↦ inr (
      let same : r.start_word ≡ x = same_Some _ _ (sym r.start_here ∙ here) in
      record {
        word = r.leads.word;
        at = record { place = place; at = at; here = r.leads.here };
        steps = r.leads.steps;
        letters = r.leads.letters;
        carries = subst (λ w. Carries g.element.shape g.element.rows (pos r.leads.steps) w (r.leads.word · r.leads.letters)) same r.leads.carries;
      }
      )
]

-- one step on
pub round_more : (g : TypedValue) → IsTyped g.element g.quasi g.kinds → (l : List ℕ) (start : ℕ) (old before marks : List Bool) (place to : ℕ) (rest : List ℕ) → AreOnRound g l start old before place
    → ((i : ℕ) → IsMarked marks i → IsMarked before i ⊎ (slice_get l i ≡ Some place))
    → ((x : Word) → slice_get g.quasi.basis.words place ≡ Some x → HasStep g.element.shape g.element.rows g.quasi.basis.words (pos 1) x (Leads to rest)) → AreOnRound g l start old marks to
round_more g typed l start old before marks place to rest r more step =
    let far = r.leads in
    let one = step far.word far.here in
    let s = g.element.shape in
    let p = g.element.rows in
    let hz = word_rest s far.word far.letters (carries_word s p typed.canonical.pair (pos far.steps) r.start_word (far.word · far.letters) far.carries) in
    record {
      only = round_marked g l start old before marks place r more;
      start_word = r.start_word;
      start_here = r.start_here;
      leads = record {
        word = one.above;
        here = one.here;
        steps = far.steps + 1;
        letters = rest ++ far.letters;
        carries = carries_sum s p typed.canonical.pair (pos far.steps) (pos 1) (pos (far.steps + 1)) (omega (arith, ints)) r.start_word (far.word · far.letters) (one.above · (rest ++ far.letters)) far.carries
            (subst (Carries s p (pos 1) (far.word · far.letters)) (after-append one.above rest far.letters) (carries_extends s p (pos 1) far.word (one.above · rest) far.letters hz one.carries));
      };
    }
