use Rattle.std.proofs.Common.{◌≡◌, ◌<◌, List, ◌++◌, length, sym, ap, ◌∙◌, subst, arith, true≢false, pos}
use Rattle.std.proofs.lemmas.Bool.Decides.{Decides-eqb}
use Rattle.std.proofs.lemmas.Option.{slice_get_within}
use Rattle.std.proofs.lemmas.Slice.Eq.{strip_suffix_is}
use Rattle.ht_word.specs.Words.{◌·◌, IsUnderSome}
use Rattle.ht_word.specs.declared.word.Word.{Word}
use Rattle.ht_pair.specs.SemiNormal.{CarriesUnder}
use Rattle.ht_pair.specs.Steps.{Carries}
use Rattle.ht_pair.proofs.BasisLaws.{some_at}
use Rattle.ht_quasi.specs.declared.quasi.Quasi.{Quasi}
use Rattle.ht_quasi.proofs.StepLaws.{listed_at}
use Rattle.ht_share.proofs.ReturnLaws.{not_ended, ended_at, none_further, pond_given, settled}
use Rattle.ht_share.proofs.SearchLaws.{found_is}
use Rattle.ht_share.proofs.search.settled_pond.Goals as goal
use Rattle.ht_share.proofs.search.settled_pond.Goals.{In-Some, In_ok-to}
use Rattle.ht_types.proofs.TypedLaws.{typed_base}

-- what is before the letters
whole : (c : In-Some) → c.args.walk.now.rest ≡ c.in-Some.front.now ++ c.args.letters.now
whole c =
    let split = rw c.in-Some.is at (strip_suffix_is Decides-eqb c.as_slice.result.now c.as_slice-2.result.now c.strip_suffix.result c.strip_suffix.ensures.cases) in
    sym c.as_slice.ensures ∙ split ∙ ap (λ z. c.in-Some.front.now ++ z) c.as_slice-2.ensures

-- the word to which the walk leads the word, if it is under X then
to_is : (c : In_ok-to) → c.in_ok-to.to ≡ c.requires.there.above · c.in-Some.front.now
to_is c =
    found_is c.words.result.now c.args.t.now.quasi.basis.words (c.words.ensures.words ∙ ap (λ (q : Quasi). q.basis.words) c.quasi.ensures.quasi) c.args.walk.now.to c.requires.there.above c.at.result.now c.in_ok-to.to c.in-Some.front.now
    c.requires.there.here c.at.ensures c.in_ok-to.ensures

to_under : (c : In_ok-to) → IsUnderSome c.in_ok-to.to c.args.t.now.quasi.basis.words
to_under c =
    let there = c.requires.there in
    let X = c.args.t.now.quasi.basis.words in
    some_at X there.above c.in_ok-to.to (listed_at X c.args.walk.now.to there.above there.here) (record { rest = c.in-Some.front.now; is = to_is c })

pub returns-in_default : goal.returns-in_default
returns-in_default c =
    let t = c.args.t.now in
    let X = t.quasi.basis.words in
    let there = c.requires.there in
    let base = typed_base t c.keeps_kinds.ensures in
    let none = rw c.in_default.is at (strip_suffix_is Decides-eqb c.as_slice.result.now c.as_slice-2.result.now c.strip_suffix.result c.strip_suffix.ensures.cases) in
    let now = not_ended base c.args.walk.now.steps c.args.word.now there.above c.args.letters.now c.args.walk.now.rest (listed_at X c.args.walk.now.to there.above there.here) there.carries
    (λ front e. none front (c.as_slice.ensures ∙ e ∙ ap (λ z. front ++ z) (sym c.as_slice-2.ensures))) in
    let f = c.requires.first in
    settled base c.args.word.now c.args.letters.now c.args.walk.now there (omega (arith, f.1)) c.requires.settled (none_further t.element.shape t.element.rows X c.args.word.now f.0 c.args.walk.now.steps f.1 f.2 now)

pub at-requires : goal.at-requires
at-requires c =
    subst (λ (W : List Word). c.args.walk.now.to < length W) (sym (c.words.ensures.words ∙ ap (λ (q : Quasi). q.basis.words) c.quasi.ensures.quasi))
    (slice_get_within c.args.t.now.quasi.basis.words c.args.walk.now.to c.requires.there.above c.requires.there.here)

pub is_carried-requires-clause-under : goal.is_carried-requires-clause-under
is_carried-requires-clause-under c = to_under (goal.at.is_carried-requires-clause-under c).In_ok-to

pub returns-then-not-branch : goal.returns-then-not-branch
returns-then-not-branch c =
    let at = (goal.at.returns-then-not-branch c).In_ok-to in
    let t = c.args.t.now in
    let X = t.quasi.basis.words in
    let there = c.requires.there in
    let base = typed_base t c.keeps_kinds.ensures in
    let now : ¬ CarriesUnder t.element.shape t.element.rows (pos c.args.walk.now.steps) c.args.word.now X = λ s.
    let is = ended_at base c.args.walk.now.steps c.args.word.now there.above c.args.letters.now c.args.walk.now.rest c.in-Some.front.now (listed_at X c.args.walk.now.to there.above there.here) there.carries (whole (goal.at.returns-then-not-branch c).In-Some) s in
    true≢false (sym (c.in_ok-is_carried.ensures.1 (subst (Carries t.element.shape t.element.rows (pos c.args.walk.now.steps) c.args.word.now) (is ∙ sym (to_is at)) s.carries)) ∙ c.if-not-branch.true) in
    let f = c.requires.first in
    settled base c.args.word.now c.args.letters.now c.args.walk.now there (omega (arith, f.1)) c.requires.settled (none_further t.element.shape t.element.rows X c.args.word.now f.0 c.args.walk.now.steps f.1 f.2 now)

pub returns : goal.returns
returns c =
    let t = c.args.t.now in
    let f = c.requires.first in
    (c.in_ok-from.ensures, pond_given t.element.shape t.element.rows t.quasi.basis.words c.args.word.now c.in_ok-to.to f.0 c.args.walk.now.steps c.requires.inner f.1 f.2 (c.in_ok-is_carried.ensures.0 c.if-not-branch.false) (to_under (goal.at.returns c).In_ok-to))
