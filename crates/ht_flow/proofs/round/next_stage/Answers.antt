use Rattle.std.proofs.Common.{[], sym, ap, ◌∙◌, subst, arith}
use Rattle.std.proofs.lemmas.Option.{slice_get-get_or}
use Rattle.ht_word.specs.Words.{◌·◌, IsWordOf}
use Rattle.ht_word.proofs.WordLaws.{after-nil}
use Rattle.ht_types.specs.declared.step.Step.TheVariants.{Splits, Leads}
use Rattle.ht_flow.proofs.HeadLaws.{step_top}
use Rattle.ht_flow.proofs.round.next_stage.Goals as goal

pub next_of-requires-clause-word : goal.next_of-requires-clause-word
next_of-requires-clause-word c = λ x here. subst (IsWordOf c.args.t.now.element.shape) (sym (ap (λ z. x · z) c.new.ensures ∙ after-nil x)) (c.requires.ahead x here).carries.word

pub unreachable-requires : goal.unreachable-requires
unreachable-requires c =
    let t = c.args.t.now in
    let X = t.quasi.basis.words in
    let here = slice_get-get_or X c.args.stage.at (record { root = 1; letters = [] }) c.requires.place in
    let step = rw c.in_default.is at (c.in_ok-to.ensures _ here) in
    let ahead = c.requires.ahead _ here in
    step_top t.element.shape t.element.rows X _ c.new.result c.new.ensures Splits step ahead.to ahead.carries

pub overflow_add-result-2 : goal.overflow_add-result-2
overflow_add-result-2 c =
    let t = c.args.t.now in
    let X = t.quasi.basis.words in
    let here = slice_get-get_or X c.args.stage.at (record { root = 1; letters = [] }) c.requires.place in
    let step = rw c.in-Leads.is at (c.in_ok-to.ensures _ here) in
    let l = step_top t.element.shape t.element.rows X _ c.new.result c.new.ensures (Leads c.in-Leads.to c.in-Leads.rest) step in
    let few = c.requires.letters _ l.above c.in-Leads.to c.in-Leads.rest here l.here l.carries in
    let is = c.len.ensures in
    omega arith
