use Rattle.std.proofs.Common.{◌≡◌, ◌<◌, ◌++◌, List, Some, length, sym, ap, ◌∙◌, subst}
use Rattle.std.proofs.lemmas.Option.{slice_get_within}
use Rattle.std.proofs.lemmas.Result.{IfOk-weaker}
use Rattle.ht_word.specs.Words.{◌·◌, IsUnderSome, IsWordOf}
use Rattle.ht_word.specs.declared.word.Word.{Word}
use Rattle.ht_word.proofs.WordLaws.{after-append}
use Rattle.ht_pair.proofs.BasisLaws.{some_at}
use Rattle.ht_quasi.specs.declared.quasi.Quasi.{Quasi}
use Rattle.ht_quasi.proofs.StepLaws.{same_at}
use Rattle.ht_types.specs.Flows.{IsExit, IsUnderInfinite, opposite}
use Rattle.ht_types.specs.declared.kind.Reach.{Reach}
use Rattle.ht_local.specs.Crossings.{IsFarWord, IsShared}
use Rattle.ht_local.proofs.AcrossLaws.{IsFrontAt, front_asked, front_at, front_held, led_to, reach_letters, reach_of, right_none, right_some}
use Rattle.ht_local.proofs.across.across.Given.{Over}
use Rattle.ht_local.proofs.across.across.Goals as goal
use Rattle.ht_local.proofs.across.across.Goals.{In_ok-to, In_ok-exit, In_ok-word}
use Rattle.ht_types.specs.Links.{reach_in}

pub led_across-requires-clause-near : goal.led_across-requires-clause-near
led_across-requires-clause-near o c = c.requires.near

pub led_across-requires-clause-letters : goal.led_across-requires-clause-letters
led_across-requires-clause-letters o c = reach_letters c.args.f.now c.args.g.now c.args.link.now c.args.direction c.keeps_kinds.ensures c.requires.shape c.requires.link

pub led_across-requires-clause-few : goal.led_across-requires-clause-few
led_across-requires-clause-few o c = (c.requires.link.ahead.few, c.requires.link.behind.few)

pub at-requires : goal.at-requires
at-requires o c =
    let w = c.in_ok-way.ensures in
    subst (λ (X : List Word). c.in_ok-way.way.walk.to < length X) (sym (c.words.ensures.words ∙ ap (λ (q : Quasi). q.basis.words) c.quasi.ensures.quasi)) (slice_get_within c.args.g.now.quasi.basis.words c.in_ok-way.way.walk.to w.above w.here)

-- where the word is led to
to_is : (o : Over) (c : In_ok-to o) → c.in_ok-to.to ≡ c.in_ok-way.ensures.above · c.in_ok-way.way.walk.rest
to_is o c =
    let w = c.in_ok-way.ensures in
    let top = same_at c.words.result.now c.args.g.now.quasi.basis.words c.in_ok-way.way.walk.to c.at.result.now w.above (c.words.ensures.words ∙ ap (λ (q : Quasi). q.basis.words) c.quasi.ensures.quasi) c.at.ensures w.here in
    c.in_ok-to.ensures ∙ ap (λ x. x · c.as_slice.result.now) top ∙ ap (λ z. w.above · z) c.as_slice.ensures

-- the word that is led there is under the infinite part
from_infinite : (o : Over) (c : In_ok-to o) → IsUnderInfinite c.args.g.now.element.shape c.args.g.now.element.rows c.args.g.now.quasi.basis.words (c.args.near.now.word · (reach_in c.args.direction c.args.link.now).rest)
from_infinite o c =
    let i = c.requires.near.infinite in
    record { above = i.above; infinite = i.infinite; under = record { rest = i.under.rest ++ (reach_in c.args.direction c.args.link.now).rest; is = ap (λ x. x · (reach_in c.args.direction c.args.link.now).rest) i.under.is ∙ after-append i.above i.under.rest (reach_in c.args.direction c.args.link.now).rest } }

to_word : (o : Over) (c : In_ok-to o) → IsWordOf c.args.g.now.element.shape c.in_ok-to.to × IsUnderInfinite c.args.g.now.element.shape c.args.g.now.element.rows c.args.g.now.quasi.basis.words c.in_ok-to.to
to_word o c =
    let g = c.args.g.now in
    let t = led_to g c.keeps_kinds-2.ensures _ (c.args.near.now.word · (reach_in c.args.direction c.args.link.now).rest) c.in_ok-way.way c.in_ok-way.ensures (from_infinite o c) in
    (subst (IsWordOf g.element.shape) (sym (to_is o c)) t.0, subst (IsUnderInfinite g.element.shape g.element.rows g.quasi.basis.words) (sym (to_is o c)) t.1)

pub exit_of-requires-clause-word : goal.exit_of-requires-clause-word
exit_of-requires-clause-word o c = (to_word o ((goal.at.exit_of-requires-clause-word o c).In_ok-to)).0

pub exit_of-requires-clause-infinite : goal.exit_of-requires-clause-infinite
exit_of-requires-clause-infinite o c = (to_word o ((goal.at.exit_of-requires-clause-infinite o c).In_ok-to)).1

-- the exit from there
exit_is : (o : Over) (c : In_ok-exit o) → c.in_ok-to.to ≡ c.in_ok-way.ensures.above · c.in_ok-way.way.walk.rest → IsExit c.args.g.now.element.shape c.args.g.now.element.rows c.args.g.now.quasi.basis.words (opposite c.args.direction) (c.in_ok-way.ensures.above · c.in_ok-way.way.walk.rest) c.in_ok-exit.exit
exit_is o c to =
    let g = c.args.g.now in
    subst (λ d. IsExit g.element.shape g.element.rows g.quasi.basis.words d (c.in_ok-way.ensures.above · c.in_ok-way.way.walk.rest) c.in_ok-exit.exit) c.opposite-2.ensures
    (subst (λ u. IsExit g.element.shape g.element.rows g.quasi.basis.words c.opposite-2.result u c.in_ok-exit.exit) to c.in_ok-exit.ensures)

-- the reach to the far end
far_is : (o : Over) (c : In_ok-exit o) → c.reach-far.result.now ≡ reach_in (opposite c.args.direction) c.args.link.now
far_is o c = c.reach-far.ensures ∙ ap (λ d. reach_in d c.args.link.now) c.opposite.ensures

pub far_word-requires-clause-exit : goal.far_word-requires-clause-exit
far_word-requires-clause-exit o c = slice_get_within c.args.g.now.quasi.basis.words c.in_ok-exit.exit.to c.in_ok-exit.ensures.above c.in_ok-exit.ensures.walked.here

pub far_word-requires-clause-far : goal.far_word-requires-clause-far
far_word-requires-clause-far o c =
    let r = reach_of c.args.f.now c.args.link.now (opposite c.args.direction) c.requires.link in
    subst (λ (reach : Reach). reach.to < length c.args.f.now.quasi.basis.words) (sym (far_is o ((goal.at.far_word-requires-clause-far o c).In_ok-exit))) (slice_get_within c.args.f.now.quasi.basis.words (reach_in (opposite c.args.direction) c.args.link.now).to r.above r.here)

-- the word at the far end
word_is : (o : Over) (c : In_ok-word o) → c.reach-far.result.now ≡ reach_in (opposite c.args.direction) c.args.link.now → IsFarWord c.args.f.now c.args.g.now c.in_ok-exit.exit (reach_in (opposite c.args.direction) c.args.link.now) c.in_ok-way.way.letters c.in_ok-word.field-0
word_is o c far = subst (λ reach. IsFarWord c.args.f.now c.args.g.now c.in_ok-exit.exit reach c.in_ok-way.way.letters c.in_ok-word.field-0) far c.in_ok-word.ensures

pub returns-in_default-clause-right : goal.returns-in_default-clause-right
returns-in_default-clause-right o c =
    let at = goal.at.returns-in_default-clause-right o c in
    right_none c.args.f.now c.args.g.now c.keeps_kinds.ensures c.keeps_kinds-2.ensures c.requires.shape c.args.link.now c.args.direction c.args.near.now c.requires.link c.requires.near c.in_ok-way.way c.in_ok-way.ensures c.in_ok-exit.exit (exit_is o (at.In_ok-exit) (to_is o (at.In_ok-to))) c.in_ok-word.field-0 (word_is o (at.In_ok-word) (far_is o (at.In_ok-exit))) c.in_default.is

front_is : (o : Over) (c : In_ok-word o) → IsExit c.args.g.now.element.shape c.args.g.now.element.rows c.args.g.now.quasi.basis.words (opposite c.args.direction) (c.in_ok-way.ensures.above · c.in_ok-way.way.walk.rest) c.in_ok-exit.exit
    → IsFarWord c.args.f.now c.args.g.now c.in_ok-exit.exit (reach_in (opposite c.args.direction) c.args.link.now) c.in_ok-way.way.letters c.in_ok-word.field-0 → (word : Word) → c.in_ok-word.field-0 ≡ Some word → IsFrontAt c.args.g.now c.keeps_kinds-2.ensures (opposite c.args.direction) c.in_ok-exit.exit.to word
front_is o c exit told word is =
    let far = reach_in (opposite c.args.direction) c.args.link.now in
    let r = reach_of c.args.f.now c.args.link.now (opposite c.args.direction) c.requires.link in
    front_at c.args.g.now c.keeps_kinds-2.ensures (opposite c.args.direction) c.args.f.now c.keeps_kinds.ensures (c.in_ok-way.ensures.above · c.in_ok-way.way.walk.rest) c.in_ok-exit.exit far c.in_ok-way.way.letters r.above exit r.here word
    (subst (IsFarWord c.args.f.now c.args.g.now c.in_ok-exit.exit far c.in_ok-way.way.letters) is told)

pub shared-requires-clause-word : goal.shared-requires-clause-word
shared-requires-clause-word o c =
    let at = goal.at.shared-requires-clause-word o c in
    let g = c.args.g.now in
    let led = c.in_ok-way.way.letters in
    let letters = reach_letters c.args.f.now g c.args.link.now (opposite c.args.direction) c.keeps_kinds.ensures c.requires.shape c.requires.link in
    subst (λ (reach : Reach). IsWordOf g.element.shape ((c.in-Some.word · reach.rest) · led) × IsUnderSome ((c.in-Some.word · reach.rest) · led) g.quasi.basis.words) (sym (far_is o (at.In_ok-exit)))
    (front_asked g c.keeps_kinds-2.ensures (opposite c.args.direction) c.in_ok-exit.exit.to c.in-Some.word (front_is o (at.In_ok-word) (exit_is o (at.In_ok-exit) (to_is o (at.In_ok-to))) (word_is o (at.In_ok-word) (far_is o (at.In_ok-exit))) c.in-Some.word c.in-Some.is) (reach_in (opposite c.args.direction) c.args.link.now).rest led letters c.in_ok-way.ensures.of_shape)

pub shared-requires-clause-to : goal.shared-requires-clause-to
shared-requires-clause-to o c =
    let w = to_word o ((goal.at.shared-requires-clause-to o c).In_ok-to) in
    (w.0, some_at c.args.g.now.quasi.basis.words w.1.above c.in_ok-to.to w.1.infinite.0 w.1.under)

pub returns-clause-held : goal.returns-clause-held
returns-clause-held o c =
    let at = goal.at.returns-clause-held o c in
    IfOk-weaker c.shared.result _ _ (λ found s known is. front_held c.args.g.now c.keeps_kinds-2.ensures (opposite c.args.direction) c.in_ok-exit.exit.to c.in-Some.word (front_is o (at.In_ok-word) (exit_is o (at.In_ok-exit) (to_is o (at.In_ok-to))) (word_is o (at.In_ok-word) (far_is o (at.In_ok-exit))) c.in-Some.word c.in-Some.is)
    c.reach-far.result.now c.in_ok-way.way.letters c.in_ok-to.to known (subst (IsShared c.args.g.now c.in-Some.word c.reach-far.result.now c.in_ok-way.way.letters c.in_ok-to.to) is s)) c.shared.ensures

pub returns-clause-right : goal.returns-clause-right
returns-clause-right o c =
    let at = goal.at.returns-clause-right o c in
    let g = c.args.g.now in
    let far = reach_in (opposite c.args.direction) c.args.link.now in
    IfOk-weaker c.shared.result _ _ (λ found s. right_some c.args.f.now g c.keeps_kinds.ensures c.keeps_kinds-2.ensures c.requires.shape c.args.link.now c.args.direction c.args.near.now c.requires.link c.requires.near c.in_ok-way.way c.in_ok-way.ensures c.in_ok-exit.exit (exit_is o (at.In_ok-exit) (to_is o (at.In_ok-to))) c.in_ok-word.field-0 (word_is o (at.In_ok-word) (far_is o (at.In_ok-exit))) c.in-Some.word c.in-Some.is found
    (subst (λ u. IsShared g c.in-Some.word far c.in_ok-way.way.letters u found) (to_is o (at.In_ok-to)) (subst (λ reach. IsShared g c.in-Some.word reach c.in_ok-way.way.letters c.in_ok-to.to found) (far_is o (at.In_ok-exit)) s))) c.shared.ensures
