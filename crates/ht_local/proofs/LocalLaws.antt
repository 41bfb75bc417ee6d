-- Rows that conjugate on one atom, from what is told of each candidate at the least attractor.
use Rattle.std.proofs.Common.{◌≡◌, ℕ, inl, ◌++◌, List, sym, ◌∙◌, subst, All, Contains, None, Some, slice_get, pos}
use Rattle.std.proofs.lemmas.List.Elements.{All-contains}
use Rattle.std.proofs.lemmas.Option.{same_Some}
use Rattle.ht_word.specs.Words.{◌·◌, IsUnderSome}
use Rattle.ht_word.specs.declared.word.Word.{Word}
use Rattle.ht_word.proofs.WordLaws.{under_after}
use Rattle.ht_pair.specs.Actions.{Moves}
use Rattle.ht_pair.specs.Atoms.{IsAtom, words_at}
use Rattle.ht_pair.specs.Kinds.{IsAttractor}
use Rattle.ht_pair.specs.NormalConjugators.{CarriesToAttractor, IsLeastAttractor}
use Rattle.ht_pair.specs.Steps.{Carries}
use Rattle.ht_pair.specs.declared.row.Row.{Row}
use Rattle.ht_pair.proofs.BasisLaws.{some_at}
use Rattle.ht_types.specs.Links.{IsEndAt}
use Rattle.ht_types.specs.TypedElements.{TypedValue, IsTyped}
use Rattle.ht_types.proofs.TurnLaws.{HasSemiNormal}
use Rattle.ht_pieces.specs.Values.{IsValue}
use Rattle.ht_pieces.proofs.Rigidity.{rigid}
use Rattle.ht_local.specs.declared.known.Known.{Known}
use Rattle.ht_local.specs.declared.candidates.Candidate.{Candidate}
use Rattle.ht_local.specs.Candidates.{AreFound, IsWordAt, known_of}
use Rattle.ht_local.specs.KnownValues.{IsCandidate}
use Rattle.ht_local.specs.LocalAnswers.{IsLocal}
use Rattle.ht_local.specs.LocalConjugators.{ConjugatesPlaces}
use Rattle.ht_local.specs.LocalTrials.{TellsWith}
use Rattle.ht_local.proofs.FirstValues.{meets_fronts}
use Rattle.ht_local.proofs.LeastAttractors.{least_once}
use Rattle.ht_local.proofs.PlaceLaws.{base_over, entry_listed}
use Rattle.ht_types.proofs.TypedLaws.{typed_base}

-- the least attractor stands at an end
pub least_end : (t : TypedValue) (places : List ℕ) (i place : ℕ) (x : Word) → IsWordAt t places i x → IsLeastAttractor t.element.shape t.element.rows t.quasi.basis.words places x → slice_get places i ≡ Some place → IsEndAt t places place
least_end t places i place x w least e = record {
  listed = entry_listed places i place e;
  word = x;
  here = subst (λ p. slice_get t.quasi.basis.words p ≡ Some x) (same_Some _ _ (sym w.at ∙ e)) w.here;
  ends = inl least.attractor;
}

-- a candidate is known by no steps, and under the atom
pub candidate_inside : {g : TypedValue} {l : List ℕ} {m : ℕ} {by : List ℕ} {known : Known} → IsCandidate g l m by known → (known.power ≡ pos 0) × IsUnderSome known.word (words_at g.quasi.basis.words l)
candidate_inside {g} {l} {known = known} c = (
  c.none,
  (let W = words_at g.quasi.basis.words l in subst (λ t. IsUnderSome t W) (sym c.word) (some_at W c.end (c.end · c.front) c.listed (under_after c.end c.front))),
)

module _ (f g : TypedValue) (typed_f : IsTyped f.element f.quasi f.kinds) (typed_g : IsTyped g.element g.quasi g.kinds) (e : g.element.shape ≡ f.element.shape) (k l : List ℕ)
    (first : IsAtom f.element.shape f.element.rows f.quasi.basis.words k) (second : IsAtom g.element.shape g.element.rows g.quasi.basis.words l) (x : Word) (m : ℕ) (L : List ℕ) where
  base_there : HasSemiNormal f.element.shape g.element.rows g.quasi.basis.words
  base_there = base_over g typed_g e

  -- where each candidate is told to be the value of no conjugator, no rows conjugate
  pub none_conjugate : Contains (words_at f.quasi.basis.words k) x → IsAttractor f.element.shape f.element.rows x m L → (firsts : List Candidate) → All (λ (c : Candidate). IsCandidate g l m L (known_of g c)) firsts
      → ((end : Word) → Contains (words_at g.quasi.basis.words l) end → AreFound g m L end firsts) → ((first : Candidate) → Contains firsts first → TellsWith f k g l x (known_of g first) None) → (h : List Row) → ¬ ConjugatesPlaces f k g l h
  none_conjugate listed attractor firsts each all none h conjugates =
      let s = f.element.shape in
      let meets = meets_fronts s f.element.rows g.element.rows f.quasi.basis.words g.quasi.basis.words k l (typed_base f typed_f) base_there first (subst (λ t. IsAtom t g.element.rows g.quasi.basis.words l) e second) h conjugates x m L listed attractor in
      let c = all meets.end meets.listed meets.front meets.back (subst (λ t. IsAttractor t g.element.rows meets.end m (meets.front ++ meets.back)) (sym e) meets.attractor) meets.proper meets.turned in
      let value = known_of g c.candidate in
      let r = meets.moved value.word c.power (subst (λ t. Carries t g.element.rows c.power (meets.end · meets.front) value.word) e c.carries) in
      let still = (All-contains (λ (first : Candidate). IsCandidate g l m L (known_of g first)) firsts c.candidate each c.listed).none in
      none c.candidate c.listed r.rows r.conjugates (subst (IsValue s (Moves r.rows) g.element.rows x value.word) (sym still) r.value)

  -- rows with a candidate as their value at the least attractor are as they are told
  pub tells_local : IsLeastAttractor f.element.shape f.element.rows f.quasi.basis.words k x → (value : Known) → IsCandidate g l m L value → (rows : List Row) → TellsWith f k g l x value (Some rows) → IsLocal f k g l rows
  tells_local least value c rows told =
      let s = f.element.shape in
      let base = typed_base f typed_f in
      record {
        conjugates = told.0;
        normal = λ y other. subst (CarriesToAttractor s rows g.element.rows (words_at g.quasi.basis.words l)) (least_once f typed_f k first x y least other) (record {
          to = c.end;
          listed = c.listed;
          steps = m;
          front = c.front;
          back = c.back;
          attractor = subst (λ t. IsAttractor t g.element.rows c.end m (c.front ++ c.back)) e c.attractor;
          proper = c.proper;
          carries = subst (Carries s rows (pos 1) x) c.word (told.1 c.none);
        });
        rigid = λ others y listed conjugates alike. rigid s f.element.rows g.element.rows f.quasi.basis.words base.pair base_there.pair base.semi k first (words_at g.quasi.basis.words l) rows others told.0 conjugates y listed alike;
      }
