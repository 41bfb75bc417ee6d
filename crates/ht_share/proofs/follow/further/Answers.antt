use Rattle.std.proofs.Common.{◌≡◌, ◌+◌, refl, sym, ◌∙◌, subst, arith, pos, Some}
use Rattle.ht_word.specs.Words.{◌·◌, IsWordOf}
use Rattle.ht_pair.specs.Steps.{Carries}
use Rattle.ht_pair.proofs.BasisLaws.{some_at}
use Rattle.ht_pair.proofs.CarriesLaws.{carries_word}
use Rattle.ht_quasi.proofs.StepLaws.{listed_at}
use Rattle.ht_share.specs.InnerWords.{IsInner}
use Rattle.ht_share.proofs.FollowLaws.{no_further, not_so_far, over_pond}
use Rattle.ht_share.proofs.ReturnLaws.{comes_further}
use Rattle.ht_share.proofs.follow.further.Goals as goal
use Rattle.ht_share.proofs.follow.further.Goals.{In_ok-word}
use Rattle.ht_types.proofs.TypedLaws.{typed_base}

-- the word where the walk has come leaves X
inner_here : (c : In_ok-word) → IsInner c.args.t.now.element.shape c.args.t.now.element.rows c.args.t.now.quasi.basis.words c.in_ok-word.word
inner_here c =
    let t = c.args.t.now in
    let X = t.quasi.basis.words in
    let there = c.requires.there in
    let is = sym (c.in_ok-word.ensures there.above there.here) in
    subst (IsInner t.element.shape t.element.rows X) is (record {
      word = carries_word t.element.shape t.element.rows (typed_base t c.keeps_kinds.ensures).pair (pos c.args.walk.now.steps) c.args.u.now (there.above · c.args.walk.now.rest) there.carries;
      under = some_at X there.above (there.above · c.args.walk.now.rest) (listed_at X c.args.walk.now.to there.above there.here) (record { rest = c.args.walk.now.rest; is = refl });
      leaves = λ s. let splits = rw c.in_default.is at (c.in_ok-to.ensures there.above there.here) in splits s.to s.carries;
    })

-- the steps so far carry the word there
come_here : (c : In_ok-word) → Carries c.args.t.now.element.shape c.args.t.now.element.rows (pos c.args.walk.now.steps) c.args.u.now c.in_ok-word.word
come_here c =
    let t = c.args.t.now in
    let there = c.requires.there in
    subst (Carries t.element.shape t.element.rows (pos c.args.walk.now.steps) c.args.u.now) (sym (c.in_ok-word.ensures there.above there.here)) there.carries

pub next_of-requires-clause-word : goal.next_of-requires-clause-word
next_of-requires-clause-word c = λ x here.
    let t = c.args.t.now in
    let there = c.requires.there in
    let one : there.above ≡ x = (let k : Some there.above ≡ Some x = sym there.here ∙ here in cc) in
    let h = carries_word t.element.shape t.element.rows (typed_base t c.keeps_kinds.ensures).pair (pos c.args.walk.now.steps) c.args.u.now (there.above · c.args.walk.now.rest) there.carries in
    subst (λ y. IsWordOf t.element.shape (y · c.args.walk.now.rest)) one h

pub returns-in-Leads : goal.returns-in-Leads
returns-in-Leads c =
    let t = c.args.t.now in
    let walk = c.args.walk.now in (
      omega arith,
      omega (arith, c.requires.more),
      comes_further (typed_base t c.keeps_kinds.ensures) c.args.u.now walk (record { steps = walk.steps + 1; to = c.in-Leads.to; rest = c.in-Leads.rest }) c.requires.there (record {
        steps = refl;
        leads = λ x here. rw c.in-Leads.is at (c.in_ok-to.ensures x here);
      }),
    )

pub pond_of-requires-clause-inner : goal.pond_of-requires-clause-inner
pond_of-requires-clause-inner c = inner_here (goal.at.pond_of-requires-clause-inner c).In_ok-word

pub returns-in_default-2 : goal.returns-in_default-2
returns-in_default-2 c =
    let t = c.args.t.now in
    let at = (goal.at.returns-in_default-2 c).In_ok-word in
    no_further t.element.shape t.element.rows (typed_base t c.keeps_kinds.ensures).pair t.quasi.basis.words c.args.u.now c.in_ok-word.word c.args.walk.now.steps c.args.steps c.requires.more (come_here at) (inner_here at) (rw c.in_default-2.is at c.in_ok-pond.ensures)

pub returns-then-pond-steps : goal.returns-then-pond-steps
returns-then-pond-steps c =
    let t = c.args.t.now in
    let at = (goal.at.returns-then-pond-steps c).In_ok-word in
    let has = rw c.in-Some.is at c.in_ok-pond.ensures in
    not_so_far t.element.shape t.element.rows (typed_base t c.keeps_kinds.ensures).pair t.quasi.basis.words c.args.u.now c.in_ok-word.word c.in-Some.pond.to c.args.walk.now.steps c.in-Some.pond.steps c.args.steps c.requires.more c.if-pond-steps.true (come_here at) has.1

pub returns : goal.returns
returns c =
    let t = c.args.t.now in
    let at = (goal.at.returns c).In_ok-word in
    let has = rw c.in-Some.is at c.in_ok-pond.ensures in
    (omega (arith, has.1.first.positive), omega (arith, c.if-pond-steps.false, c.requires.more), over_pond t.element.shape t.element.rows (typed_base t c.keeps_kinds.ensures).pair t.quasi.basis.words c.args.u.now c.in_ok-word.word c.in-Some.pond.to c.args.walk.now.steps c.in-Some.pond.steps c.in_ok-to-2.field-0 (come_here at) has.1 c.in_ok-to-2.ensures)
