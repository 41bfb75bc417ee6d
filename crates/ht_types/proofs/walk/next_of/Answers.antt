use Rattle.std.proofs.Common.{◌≡◌, ◌++◌, List, Some, slice_get, refl, sym, ap, ◌∙◌, subst}
use Rattle.std.proofs.lemmas.Result.{IfOk-weaker}
use Rattle.ht_word.specs.declared.word.Word.{Word}
use Rattle.ht_word.specs.Words.{◌·◌, IsUnderSome, IsWordOf}
use Rattle.ht_pair.specs.SemiNormal.{IsQuasinormal}
use Rattle.ht_pair.proofs.BasisLaws.{some_at}
use Rattle.ht_quasi.specs.declared.quasi.Quasi.{Quasi}
use Rattle.ht_quasi.proofs.StepLaws.{listed_at, same_at}
use Rattle.ht_types.specs.Flows.{power_in}
use Rattle.ht_types.specs.WordSteps.{HasStep, LeadsTo}
use Rattle.ht_types.proofs.StepLaws.{leads_below, mover_step}
use Rattle.ht_types.proofs.SeenLaws.{least_for, mover_shape}
use Rattle.ht_types.proofs.walk.next_of.Goals as goal
use Rattle.ht_types.proofs.walk.next_of.Goals.{In_ok-word}

pub returns-in-Leads : goal.returns-in-Leads
returns-in-Leads c = λ x here.
    let t = c.args.t.now in
    let leads = rw c.in-Leads.is at (c.step_in.ensures x here) in
    let letters : c.in_ok-letters.letters ≡ c.in-Leads.rest = c.in_ok-letters.ensures ∙ c.as_slice.ensures in
    let rest : c.in-Leads.rest ++ c.args.walk.now.rest ≡ c.extend.new.self = sym (c.in_ok-extend.ensures.ok ∙ ap (λ z. z ++ c.as_slice-in-Leads.result.now) letters ∙ ap (λ z. c.in-Leads.rest ++ z) c.as_slice-in-Leads.ensures) in
    subst (LeadsTo t.element.shape t.element.rows t.quasi.basis.words (power_in c.args.direction 1) (x · c.args.walk.now.rest) c.in-Leads.to) rest
    (leads_below t.element.shape t.element.rows t.quasi.basis.words (power_in c.args.direction 1) x c.args.walk.now.rest c.in-Leads.to c.in-Leads.rest (c.requires.word x here) leads)

-- the word of the basis where the walk has come
top_here : (c : In_ok-word) → slice_get c.args.t.now.quasi.basis.words c.args.walk.now.to ≡ Some c.at.result.now
top_here c = subst (λ (W : List Word). slice_get W c.args.walk.now.to ≡ Some c.at.result.now) (c.words.ensures.words ∙ ap (λ (q : Quasi). q.basis.words) c.quasi.ensures.quasi) c.at.ensures

-- and the word that is moved
word_is : (c : In_ok-word) → c.at.result.now · c.args.walk.now.rest ≡ c.in_ok-word.word
word_is c = sym (c.in_ok-word.ensures ∙ ap (λ z. c.at.result.now · z) c.as_slice-2.ensures)

pub step_of-requires-clause-basis : goal.step_of-requires-clause-basis
step_of-requires-clause-basis c =
    let t = c.args.t.now in
    let m = c.mover.result.now in
    let typed = c.quasi.ensures.typed in
    subst (λ (q : Quasi). IsQuasinormal m.shape m.rows q.basis.words) (sym c.quasi.ensures.quasi) (least_for c.args.direction t.element m t.quasi.basis.words typed.canonical.pair c.mover.ensures typed.quasinormal.least)

pub step_of-requires-clause-word : goal.step_of-requires-clause-word
step_of-requires-clause-word c =
    let at = (goal.at.step_of-requires-clause-word c).In_ok-word in
    let word = c.requires.word c.at.result.now (top_here at) in
    subst (λ s. IsWordOf s c.in_ok-word.word) (sym (mover_shape c.args.direction c.args.t.now.element c.mover.result.now c.mover.ensures)) (subst (IsWordOf c.args.t.now.element.shape) (word_is at) word)

pub step_of-requires-clause-under : goal.step_of-requires-clause-under
step_of-requires-clause-under c =
    let at = (goal.at.step_of-requires-clause-under c).In_ok-word in
    let X = c.args.t.now.quasi.basis.words in
    subst (λ (q : Quasi). IsUnderSome c.in_ok-word.word q.basis.words) (sym c.quasi.ensures.quasi)
    (some_at X c.at.result.now c.in_ok-word.word (listed_at X c.args.walk.now.to c.at.result.now (top_here at)) (record { rest = c.args.walk.now.rest; is = sym (word_is at) }))

pub returns : goal.returns
returns c =
    let at = (goal.at.returns c).In_ok-word in
    let t = c.args.t.now in
    let X = t.quasi.basis.words in
    let k = power_in c.args.direction 1 in
    IfOk-weaker c.step_of.result _ _ (λ step has x here.
    let same : c.at.result.now ≡ x = same_at X X c.args.walk.now.to c.at.result.now x refl (top_here at) here in
    let one = subst (λ (q : Quasi). HasStep t.element.shape t.element.rows q.basis.words k c.in_ok-word.word step) c.quasi.ensures.quasi
    (mover_step c.args.direction t.element c.mover.result.now c.quasi.ensures.typed.canonical.pair c.mover.ensures c.quasi.result.now.basis.words c.in_ok-word.word step has) in
    subst (λ u. HasStep t.element.shape t.element.rows X k u step) (sym (word_is at) ∙ ap (λ y. y · c.args.walk.now.rest) same) one) c.step_of.ensures
