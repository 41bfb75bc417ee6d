use Rattle.std.proofs.Common.{◌≡◌, ◌∙◌, List, Some, slice_get, sym, subst}
use Rattle.ht_word.specs.declared.word.Word.{Word}
use Rattle.ht_quasi.proofs.MarkLaws.{marked, unmarked_longer, unmarked_none}
use Rattle.ht_quasi.proofs.class.mark.Goals as goal

pub returns-then-len : goal.returns-then-len
returns-then-len c =
    marked c.args.basis.now.words c.args.word.now c.at.result.now c.args.marks.now.items c.in-Some.place c.words.ensures.held.basis.prefix_free c.in-Some.ensures
    (subst (λ (X : List Word). slice_get X c.in-Some.place ≡ Some c.at.result.now) c.words.ensures.words c.at.ensures) (sym c.len.ensures ∙ c.if-len.true ∙ c.len-in-Some.ensures)

pub returns-else-len : goal.returns-else-len
returns-else-len c =
    unmarked_longer c.args.basis.now.words c.args.word.now c.at.result.now c.args.marks.now.items c.in-Some.place c.words.ensures.held.basis.prefix_free c.in-Some.ensures
    (subst (λ (X : List Word). slice_get X c.in-Some.place ≡ Some c.at.result.now) c.words.ensures.words c.at.ensures) (λ e. c.if-len.false (c.len.ensures ∙ e ∙ sym c.len-in-Some.ensures))

pub returns-in_default : goal.returns-in_default
returns-in_default c = unmarked_none c.args.basis.now.words c.args.word.now c.args.marks.now.items c.in_default.ensures
